-- A run sees no types but those that its system touches: on blocks that agree on these it does the same.
use Rattle.std.proofs.Common.{◌≡◌, ℕ, ◌+◌, nat_eq, Bool, true, false, not, ◌&&◌, ◌||◌, if◌then◌else◌, List, [], ◌∷◌, ◌++◌, map, find, Option, Some, None, option_map, is_some, refl, sym, ap, ap₂, ◌∙◌, subst, slice_get}
use Rattle.std.specs.Prelude.{option_and_then}
use Rattle.std.specs.Option.{option_or}
use Rattle.std.specs.List.{list_any, flat_map}
use Rattle.ent_types.specs.declared.entity.Entity.{Entity}
use Rattle.ent_types.specs.declared.entity.TypeId.{TypeId}
use Rattle.ent_types.specs.declared.type_info.TypeInfo.{TypeInfo}
use Rattle.ent_types.specs.TypeLookups.{is_enableable_at}
use Rattle.ent_types.specs.TypeSets.{has_type}
use Rattle.world_model.specs.Members.{In, tally, one_if}
use Rattle.world_model.specs.Part.{same_entity}
use Rattle.world_model.specs.Row.{Cell, Row}
use Rattle.world_model.specs.World.{Home, Mark, Block}
use Rattle.world_model.specs.Found.{Found, placed_in, placed, is_of, found, values_of, part_at, cell_at}
use Rattle.world_model.specs.Write.{marked}
use Rattle.expr_eval.specs.Values.{OtherRows}
use Rattle.expr_eval.specs.Rows.{others_of}
use Rattle.scenario_record.specs.declared.record.SystemEntry.{SystemEntry}
use Rattle.scenario_record.specs.Uses.{in_assign, in_switch, in_command, uses_of_assigns, uses_of}
use Rattle.expr_trees.specs.declared.tree.Assign.{Assign}
use Rattle.expr_trees.specs.declared.tree.Switch.{Switch}
use Rattle.run_model.specs.Clock.{Clock}
use Rattle.run_model.specs.Query.{is_empty, has_shared, is_off, is_on, is_disabled, matches, passes, is_fresh, is_visited}
use Rattle.run_model.specs.Job.{Spot, own_of, Text, Assigns, Switches, texts_of, writes, after_texts}
use Rattle.run_model.specs.Commands.{recorded_from}
use Rattle.run_model.specs.Run.{MatchedRow, entries_at, cells_after, recorded_at, rows_after, visited, recorded_of, matched_in, item_after, matched, blocks_after, entries_of}
use Rattle.run_model.specs.Touched.{read_by, named_types}
use Rattle.run_model.specs.Phases.{reads, touches}
use Rattle.run_laws.specs.Agree.{Both, MarkAgree, CellsAgree, RowAgree, BlockAgree, FoundAgree, OthersAgree}
use Rattle.world_laws.proofs.Members.{in_left, in_right}
use Rattle.world_laws.proofs.Types.{has_in}
use Rattle.run_laws.proofs.Lists.{both_map, both_append, in_passing, all_eq, any_eq, Within, within_left, within_right}
use Rattle.run_laws.proofs.Agree.{cell_same, off_same, Sees, sees_left, sees_right, seen, AllSeen, texts_agree, said_agree}

-- ---- lookups

module _ (X : ℕ → Type 0) where
  -- both or neither, and what they are agrees
  abbrev HitAgree : Option Found → Option Found → Type 0
  HitAgree None None = Unit {0}
  HitAgree None (Some y) = ⊥
  HitAgree (Some x) None = ⊥
  HitAgree (Some x) (Some y) = FoundAgree X x y

  find_agree : (e : Entity) (xs ys : List Found) → Both (FoundAgree X) xs ys → HitAgree (find (is_of e) xs) (find (is_of e) ys)
  find_agree e [] [] h = tt
  find_agree e [] (y ∷ ys) h = absurd h
  find_agree e (x ∷ xs) [] h = absurd h
  find_agree e (x ∷ xs) (y ∷ ys) h =
      subst (λ d. HitAgree (if is_of e x then Some x else find (is_of e) xs) (if same_entity e d then Some y else find (is_of e) ys)) h.0.1.0
      (by (is_of e x) (find_agree e xs ys h.1))
    where
      by : (b : Bool) → HitAgree (find (is_of e) xs) (find (is_of e) ys) → HitAgree (if b then Some x else find (is_of e) xs) (if b then Some y else find (is_of e) ys)
      by true rest = h.0
      by false rest = rest

  pub placed_agree : (bs cs : List Block) → Both (BlockAgree X) bs cs → Both (FoundAgree X) (placed bs) (placed cs)
  placed_agree [] [] h = tt
  placed_agree [] (c ∷ cs) h = absurd h
  placed_agree (b ∷ bs) [] h = absurd h
  placed_agree (b ∷ bs) (c ∷ cs) h = both_append (FoundAgree X) (placed_in b.home b.rows) (placed_in c.home c.rows) (placed bs) (placed cs) (rows b.rows c.rows h.0.3) (placed_agree bs cs h.1)
    where
      rows : (rs qs : List Row) → Both (RowAgree X) rs qs → Both (FoundAgree X) (placed_in b.home rs) (placed_in c.home qs)
      rows [] [] k = tt
      rows [] (q ∷ qs) k = absurd k
      rows (r ∷ rs) [] k = absurd k
      rows (r ∷ rs) (q ∷ qs) k = ((h.0.0, k.0), rows rs qs k.1)

  -- a row has a cell of a type where the other has one
  has_cell : (t : ℕ) (cs ds : List Cell) → CellsAgree X cs ds → is_some (cell_at t cs) ≡ is_some (cell_at t ds)
  has_cell t [] [] h = refl
  has_cell t [] (d ∷ ds) h = absurd h
  has_cell t (c ∷ cs) [] h = absurd h
  has_cell t (c ∷ cs) (d ∷ ds) h =
      by (nat_eq c.type_id t) (has_cell t cs ds h.1)
      ∙ ap (λ n. is_some (if nat_eq n t then Some d else cell_at t ds)) h.0.0
    where
      by : (b : Bool) → is_some (cell_at t cs) ≡ is_some (cell_at t ds)
          → is_some (if b then Some c else cell_at t cs) ≡ is_some (if b then Some d else cell_at t ds)
      by true rest = refl
      by false rest = rest

  pub others_agree : (bs cs : List Block) → Both (BlockAgree X) bs cs → OthersAgree X (others_of (λ e. found e bs)) (others_of (λ e. found e cs))
  others_agree bs cs h = record {
    value = λ e ty i x. values ty i x (found e bs) (found e cs) (find_agree e (placed bs) (placed cs) (placed_agree bs cs h));
    has = λ e ty. has ty (found e bs) (found e cs) (find_agree e (placed bs) (placed cs) (placed_agree bs cs h));
    alive = λ e. alive (found e bs) (found e cs) (find_agree e (placed bs) (placed cs) (placed_agree bs cs h));
  }
    where
      alive : (a b : Option Found) → HitAgree a b → is_some a ≡ is_some b
      alive None None k = refl
      alive None (Some y) k = absurd k
      alive (Some x) None k = absurd k
      alive (Some x) (Some y) k = refl

      values : (ty : TypeId) (i : ℕ) → X ty.0 → (a b : Option Found) → HitAgree a b
          → option_and_then (λ vs. slice_get vs i) (option_and_then (values_of ty.0) a) ≡ option_and_then (λ vs. slice_get vs i) (option_and_then (values_of ty.0) b)
      values ty i x None None k = refl
      values ty i x None (Some y) k = absurd k
      values ty i x (Some z) None k = absurd k
      values ty i x (Some z) (Some y) k =
          ap₂ (λ (c : Option Cell) (home : Home). option_and_then (λ vs. slice_get vs i) (option_or (option_map (λ c. c.values) c) (part_at ty.0 home.shared)))
          (cell_same X ty.0 x z.row.cells y.row.cells k.1.2) k.0

      told : (c d : Option Cell) → is_some c ≡ is_some d → (home : Home) (t : ℕ)
          → is_some (option_or (option_map (λ c. c.values) c) (part_at t home.shared)) ≡ is_some (option_or (option_map (λ c. c.values) d) (part_at t home.shared))
      told None None k home t = refl
      told None (Some d) k home t = absurd (cc)
      told (Some c) None k home t = absurd (cc)
      told (Some c) (Some d) k home t = refl

      has : (ty : TypeId) (a b : Option Found) → HitAgree a b → is_some (option_and_then (values_of ty.0) a) ≡ is_some (option_and_then (values_of ty.0) b)
      has ty None None k = refl
      has ty None (Some y) k = absurd k
      has ty (Some z) None k = absurd k
      has ty (Some z) (Some y) k =
          told (cell_at ty.0 z.row.cells) (cell_at ty.0 y.row.cells) (has_cell ty.0 z.row.cells y.row.cells k.1.2) z.home ty.0
          ∙ ap (λ (home : Home). is_some (option_or (option_map (λ c. c.values) (cell_at ty.0 y.row.cells)) (part_at ty.0 home.shared))) k.0

-- ---- a run sees only what it touches

module _ (clock : Clock) (registry : List TypeInfo) (s : SystemEntry) (last : Option ℕ) (frame : ℕ) where
  abbrev pub Touched : ℕ → Type 0
  Touched t = In t (touches registry s)

  module _ (X : ℕ → Type 0) (all : Within (touches registry s) X) where
    behind : Within (reads s ++ named_types registry s) X
    behind = within_right (writes s) (reads s ++ named_types registry s) X all

    in_reads : Within (reads s) X
    in_reads = within_left (reads s) (named_types registry s) X behind

    in_changed : Within s.changed X
    in_changed = within_right (read_by s) s.changed X in_reads

    in_texts : Sees X (uses_of s)
    in_texts = seen X (uses_of s) (within_left (read_by s) s.changed X in_reads)

    switches_seen : (ws : List Switch) → Sees X (flat_map in_switch ws) → AllSeen X (map Switches ws)
    switches_seen [] h = tt
    switches_seen (w ∷ ws) h = (sees_left X (in_switch w) (flat_map in_switch ws) h, switches_seen ws (sees_right X (in_switch w) (flat_map in_switch ws) h))

    assigns_seen : (xs : List Assign) (ts : List Text) → Sees X (flat_map in_assign xs) → AllSeen X ts → AllSeen X (map Assigns xs ++ ts)
    assigns_seen [] ts h rest = rest
    assigns_seen (a ∷ xs) ts h rest = (sees_left X (in_assign a) (flat_map in_assign xs) h, assigns_seen xs ts (sees_right X (in_assign a) (flat_map in_assign xs) h) rest)

    after_assigns : Sees X (flat_map in_switch s.enable ++ flat_map in_command s.command)
    after_assigns = sees_right X (uses_of_assigns s) (flat_map in_switch s.enable ++ flat_map in_command s.command) in_texts

    texts_seen : AllSeen X (texts_of s)
    texts_seen = assigns_seen s.set (map Switches s.enable) (sees_left X (uses_of_assigns s) (flat_map in_switch s.enable ++ flat_map in_command s.command) in_texts)
        (switches_seen s.enable (sees_left X (flat_map in_switch s.enable) (flat_map in_command s.command) after_assigns))

    commands_seen : Sees X (flat_map in_command s.command)
    commands_seen = sees_right X (flat_map in_switch s.enable) (flat_map in_command s.command) after_assigns

    -- ---- queries

    abbrev listed : List ℕ
    listed = s.all ++ (s.any ++ (s.none ++ (s.disabled ++ s.absent)))

    named : (t : ℕ) → In t listed → is_enableable_at registry t ≡ true → X t
    named t i e = within_right (reads s) (named_types registry s) X behind t (in_passing (is_enableable_at registry) t listed i e)

    matches_agree : (home : Home) (r q : Row) → RowAgree X r q → matches registry s (record { home = home; row = r }) ≡ matches registry s (record { home = home; row = q })
    matches_agree home r q h =
        let off : (t : ℕ) → In t listed → is_off registry t r.cells ≡ is_off registry t q.cells =
        λ t i. off_same X registry t (named t i) r.cells q.cells h.2 in
        let in_all : (t : ℕ) → In t s.all → In t listed = λ t i. in_left t s.all (s.any ++ (s.none ++ (s.disabled ++ s.absent))) i in
        let in_any : (t : ℕ) → In t s.any → In t listed = λ t i. in_right t s.all (s.any ++ (s.none ++ (s.disabled ++ s.absent))) (in_left t s.any (s.none ++ (s.disabled ++ s.absent)) i) in
        let in_none : (t : ℕ) → In t s.none → In t listed = λ t i. in_right t s.all (s.any ++ (s.none ++ (s.disabled ++ s.absent))) (in_right t s.any (s.none ++ (s.disabled ++ s.absent)) (in_left t s.none (s.disabled ++ s.absent) i)) in
        let in_off : (t : ℕ) → In t s.disabled → In t listed = λ t i. in_right t s.all (s.any ++ (s.none ++ (s.disabled ++ s.absent))) (in_right t s.any (s.none ++ (s.disabled ++ s.absent)) (in_right t s.none (s.disabled ++ s.absent) (in_left t s.disabled s.absent i))) in
        let x : Found = record { home = home; row = r } in
        let y : Found = record { home = home; row = q } in
        let a = all_eq (is_on registry x) (is_on registry y) s.all (λ t i. ap (λ b. has_type home.types t && not b) (off t (in_all t i))) in
        let b = any_eq (is_on registry x) (is_on registry y) s.any (λ t i. ap (λ b. has_type home.types t && not b) (off t (in_any t i))) in
        let c = any_eq (is_on registry x) (is_on registry y) s.none (λ t i. ap (λ b. has_type home.types t && not b) (off t (in_none t i))) in
        let d = all_eq (is_disabled registry x) (is_disabled registry y) s.disabled (λ t i. ap (λ b. has_type home.types t && b) (off t (in_off t i))) in
        rw (a, b, c, d) refl

    rows_any : (home : Home) (rs qs : List Row) → Both (RowAgree X) rs qs
        → list_any (λ r. matches registry s (record { home = home; row = r })) rs ≡ list_any (λ r. matches registry s (record { home = home; row = r })) qs
    rows_any home [] [] h = refl
    rows_any home [] (q ∷ qs) h = absurd h
    rows_any home (r ∷ rs) [] h = absurd h
    rows_any home (r ∷ rs) (q ∷ qs) h = ap₂ (λ a b. a || b) (matches_agree home r q h.0) (rows_any home rs qs h.1)

    marks_any : (l : ℕ) (ms ns : List Mark) → Both (MarkAgree X) ms ns
        → list_any (λ (m : Mark). has_type s.changed m.type_id && clock.is_later m.moment l) ms ≡ list_any (λ (m : Mark). has_type s.changed m.type_id && clock.is_later m.moment l) ns
    marks_any l [] [] h = refl
    marks_any l [] (n ∷ ns) h = absurd h
    marks_any l (m ∷ ms) [] h = absurd h
    marks_any l (m ∷ ms) (n ∷ ns) h =
        ap₂ (λ a b. a || b) (by (has_type s.changed m.type_id) refl ∙ ap (λ t. has_type s.changed t && clock.is_later n.moment l) h.0.0) (marks_any l ms ns h.1)
      where
        by : (b : Bool) → has_type s.changed m.type_id ≡ b → (b && clock.is_later m.moment l) ≡ (b && clock.is_later n.moment l)
        by true e = ap (λ (k : Mark). clock.is_later k.moment l) (h.0.1 (in_changed m.type_id (has_in m.type_id s.changed e)))
        by false e = refl

    fresh_agree : (o : Option ℕ) (b c : Block) → BlockAgree X b c → is_fresh registry clock s o b ≡ is_fresh registry clock s o c
    fresh_agree None b c h = refl
    fresh_agree (Some l) b c h =
        ap₂ (λ x n. (is_empty s.changed && not s.order_changed) || (x || (s.order_changed && clock.is_later n l))) (marks_any l b.marks c.marks h.2) h.1

    pub visited_agree : (b c : Block) → BlockAgree X b c → is_visited registry clock s last b ≡ is_visited registry clock s last c
    visited_agree b c h =
        ap₂ (λ f a. (passes registry s b.home.types && has_shared s b.home) && (f && a)) (fresh_agree last b c h) (rows_any b.home b.rows c.rows h.3)
        ∙ ap (λ (home : Home). (passes registry s home.types && has_shared s home) && (is_fresh registry clock s last c && list_any (λ r. matches registry s (record { home = home; row = r })) c.rows)) h.0

    -- ---- rows and blocks

    module _ (o p : OtherRows) (others : OthersAgree X o p) where
      pub cells_agree : (spot : Spot) (home : Home) (r q : Row) → RowAgree X r q
          → CellsAgree X (cells_after registry s o spot (record { home = home; row = r })) (cells_after registry s p spot (record { home = home; row = q }))
      cells_agree spot home r q h =
          subst (λ e. CellsAgree X (after_texts registry o spot home r.entity (texts_of s) r.cells) (after_texts registry p spot home e (texts_of s) q.cells)) h.0
          (texts_agree X registry spot home r.entity o p others (texts_of s) texts_seen r.cells q.cells h.2)

      pub rows_agree : (item : ℕ) (home : Home) (k : ℕ) (rs qs : List Row) → Both (RowAgree X) rs qs
          → Both (RowAgree X) (rows_after registry s o frame item home k rs) (rows_after registry s p frame item home k qs)
      rows_agree item home k [] [] h = tt
      rows_agree item home k [] (q ∷ qs) h = absurd h
      rows_agree item home k (r ∷ rs) [] h = absurd h
      rows_agree item home k (r ∷ rs) (q ∷ qs) h = (
        (h.0.0, h.0.1, subst (λ b. CellsAgree X (if hit r then run_on o r else r.cells) (if b then run_on p q else q.cells)) (matches_agree home r q h.0) (by (hit r))),
        rows_agree item home (k + 1) rs qs h.1,
      )
        where
          hit : Row → Bool
          hit u = matches registry s (record { home = home; row = u })

          run_on : OtherRows → Row → List Cell
          run_on a u = cells_after registry s a (record { frame = frame; item = item; place = k }) (record { home = home; row = u })

          by : (b : Bool) → CellsAgree X (if b then run_on o r else r.cells) (if b then run_on p q else q.cells)
          by true = cells_agree (record { frame = frame; item = item; place = k }) home r q h.0
          by false = h.0.2

      mark_agree : (now : ℕ) (ms ns : List Mark) → Both (MarkAgree X) ms ns → Both (MarkAgree X) (marked now (writes s) ms) (marked now (writes s) ns)
      mark_agree now ms ns h = both_map (MarkAgree X) (MarkAgree X) set set (λ m n k. (ends m n k.0, λ x. ap set (k.1 (subst X (keeps m) x)))) ms ns h
        where
          set : Mark → Mark
          set m = if has_type (writes s) m.type_id then record m { moment = now } else m

          keeps : (m : Mark) → (set m).type_id ≡ m.type_id
          keeps m = by (has_type (writes s) m.type_id)
            where
              by : (b : Bool) → (if b then record m { moment = now } else m).type_id ≡ m.type_id
              by true = refl
              by false = refl

          ends : (m n : Mark) → m.type_id ≡ n.type_id → (set m).type_id ≡ (set n).type_id
          ends m n e = keeps m ∙ (e ∙ sym (keeps n))

      pub blocks_agree : (now item : ℕ) (bs cs : List Block) → Both (BlockAgree X) bs cs
          → Both (BlockAgree X) (blocks_after clock registry s last frame o now item bs) (blocks_after clock registry s last frame p now item cs)
      blocks_agree now item [] [] h = tt
      blocks_agree now item [] (c ∷ cs) h = absurd h
      blocks_agree now item (b ∷ bs) [] h = absurd h
      blocks_agree now item (b ∷ bs) (c ∷ cs) h =
          subst (λ t. Both (BlockAgree X) (blocks_after clock registry s last frame o now item (b ∷ bs))
          ((if t then visited registry s p frame now item c else c) ∷ blocks_after clock registry s last frame p now (if t then item + 1 else item) cs))
          (visited_agree b c h.0)
          (by (is_visited registry clock s last b), blocks_agree now (item_after clock registry s last item b) bs cs h.1)
        where
          by : (t : Bool) → BlockAgree X (if t then visited registry s o frame now item b else b) (if t then visited registry s p frame now item c else c)
          by true = (
            h.0.0,
            h.0.1,
            mark_agree now b.marks c.marks h.0.2,
            subst (λ home. Both (RowAgree X) (rows_after registry s o frame item b.home 0 b.rows) (rows_after registry s p frame item home 0 c.rows)) h.0.0
                (rows_agree item b.home 0 b.rows c.rows h.0.3),
          )
          by false = h.0

      -- ---- entries

      abbrev MatchedAgree : MatchedRow → MatchedRow → Type 0
      MatchedAgree m n = (m.item ≡ n.item) × (m.place ≡ n.place) × FoundAgree X m.at n.at

      met_rows_agree : (item : ℕ) (home : Home) (k : ℕ) (rs qs : List Row) → Both (RowAgree X) rs qs
          → Both MatchedAgree (matched_in registry s item home k rs) (matched_in registry s item home k qs)
      met_rows_agree item home k [] [] h = tt
      met_rows_agree item home k [] (q ∷ qs) h = absurd h
      met_rows_agree item home k (r ∷ rs) [] h = absurd h
      met_rows_agree item home k (r ∷ rs) (q ∷ qs) h =
          subst (λ b. Both MatchedAgree (matched_in registry s item home k (r ∷ rs)) ((if b then at q ∷ [] else []) ++ matched_in registry s item home (k + 1) qs)) (matches_agree home r q h.0)
          (by (matches registry s (record { home = home; row = r })) (met_rows_agree item home (k + 1) rs qs h.1))
        where
          at : Row → MatchedRow
          at u = record { item = item; place = k; at = record { home = home; row = u } }

          by : (b : Bool) → Both MatchedAgree (matched_in registry s item home (k + 1) rs) (matched_in registry s item home (k + 1) qs)
              → Both MatchedAgree ((if b then at r ∷ [] else []) ++ matched_in registry s item home (k + 1) rs) ((if b then at q ∷ [] else []) ++ matched_in registry s item home (k + 1) qs)
          by true rest = ((refl, refl, (refl, h.0)), rest)
          by false rest = rest

      met_agree : (item : ℕ) (bs cs : List Block) → Both (BlockAgree X) bs cs → Both MatchedAgree (matched clock registry s last item bs) (matched clock registry s last item cs)
      met_agree item [] [] h = tt
      met_agree item [] (c ∷ cs) h = absurd h
      met_agree item (b ∷ bs) [] h = absurd h
      met_agree item (b ∷ bs) (c ∷ cs) h =
          subst (λ t. Both MatchedAgree (matched clock registry s last item (b ∷ bs)) ((if t then matched_in registry s item c.home 0 c.rows else []) ++ matched clock registry s last (if t then item + 1 else item) cs))
          (visited_agree b c h.0)
          (by (is_visited registry clock s last b) (met_agree (item_after clock registry s last item b) bs cs h.1))
        where
          by : (t : Bool) → Both MatchedAgree (matched clock registry s last (if t then item + 1 else item) bs) (matched clock registry s last (if t then item + 1 else item) cs)
              → Both MatchedAgree ((if t then matched_in registry s item b.home 0 b.rows else []) ++ matched clock registry s last (if t then item + 1 else item) bs)
              ((if t then matched_in registry s item c.home 0 c.rows else []) ++ matched clock registry s last (if t then item + 1 else item) cs)
          by true rest =
              both_append MatchedAgree (matched_in registry s item b.home 0 b.rows) (matched_in registry s item c.home 0 c.rows)
              (matched clock registry s last (item + 1) bs) (matched clock registry s last (item + 1) cs)
              (subst (λ home. Both MatchedAgree (matched_in registry s item b.home 0 b.rows) (matched_in registry s item home 0 c.rows)) h.0.0
              (met_rows_agree item b.home 0 b.rows c.rows h.0.3)) rest
          by false rest = rest

      -- what rows that agree say at one spot
      pub said_is : (spot : Spot) (home : Home) (r q : Row) → RowAgree X r q
          → recorded_at registry s o spot (record { home = home; row = r }) ≡ recorded_at registry s p spot (record { home = home; row = q })
      said_is spot home r q h =
          said_agree X registry spot home r.entity o p others
          (cells_after registry s o spot (record { home = home; row = r })) (cells_after registry s p spot (record { home = home; row = q }))
          (cells_agree spot home r q h) s.command commands_seen 0 []
          ∙ ap (λ e. recorded_from registry (own_of registry spot home e (cells_after registry s p spot (record { home = home; row = q }))) p 0 [] s.command) h.0

      said_same : (m n : MatchedRow) → MatchedAgree m n → entries_at m (recorded_of registry s o frame m) ≡ entries_at n (recorded_of registry s p frame n)
      said_same m n h =
          ap (entries_at m) (said_is (record { frame = frame; item = m.item; place = m.place }) m.at.home m.at.row n.at.row h.2.1)
          ∙ (ap (λ home. entries_at m (recorded_at registry s p (record { frame = frame; item = m.item; place = m.place }) (record { home = home; row = n.at.row }))) h.2.0
          ∙ ap₂ (λ i k. entries_at (record { item = i; place = k; at = n.at }) (recorded_at registry s p (record { frame = frame; item = i; place = k }) n.at)) h.0 h.1)

      flat_agree : (ms ns : List MatchedRow) → Both MatchedAgree ms ns
          → flat_map (λ m. entries_at m (recorded_of registry s o frame m)) ms ≡ flat_map (λ m. entries_at m (recorded_of registry s p frame m)) ns
      flat_agree [] [] h = refl
      flat_agree [] (n ∷ ns) h = absurd h
      flat_agree (m ∷ ms) [] h = absurd h
      flat_agree (m ∷ ms) (n ∷ ns) h = ap₂ (λ xs ys. xs ++ ys) (said_same m n h.0) (flat_agree ms ns h.1)

      pub entries_agree : (bs cs : List Block) → Both (BlockAgree X) bs cs
          → entries_of clock registry s last frame o bs ≡ entries_of clock registry s last frame p cs
      entries_agree bs cs h = flat_agree (matched clock registry s last 0 bs) (matched clock registry s last 0 cs) (met_agree 0 bs cs h)

    -- ---- counts

    pub visits_agree : (bs cs : List Block) → Both (BlockAgree X) bs cs → tally (is_visited registry clock s last) bs ≡ tally (is_visited registry clock s last) cs
    visits_agree [] [] h = refl
    visits_agree [] (c ∷ cs) h = absurd h
    visits_agree (b ∷ bs) [] h = absurd h
    visits_agree (b ∷ bs) (c ∷ cs) h = ap₂ (λ t n. one_if t + n) (visited_agree b c h.0) (visits_agree bs cs h.1)

    pub passing_agree : (bs cs : List Block) → Both (BlockAgree X) bs cs → tally (λ (b : Block). passes registry s b.home.types) bs ≡ tally (λ (b : Block). passes registry s b.home.types) cs
    passing_agree [] [] h = refl
    passing_agree [] (c ∷ cs) h = absurd h
    passing_agree (b ∷ bs) [] h = absurd h
    passing_agree (b ∷ bs) (c ∷ cs) h = ap₂ (λ (home : Home) n. one_if (passes registry s home.types) + n) h.0.0 (passing_agree bs cs h.1)
