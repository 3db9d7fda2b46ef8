-- The law of phases: systems of which none writes what a later one touches make the same world and the same entries one
-- after another as from the first world, joined.
use Rattle.std.proofs.Common.{◌≡◌, ℕ, zero, suc, ◌+◌, inl, inr, nat_eq, Bool, true, false, not, ◌||◌, if◌then◌else◌, List, [], ◌∷◌, ◌++◌, map, length, take, Option, Some, None, is_some, refl, sym, ap, ap₂, ◌∙◌, subst, arith, eqb-true, slice_set, append_assoc}
use Rattle.std.specs.List.{flat_map}
use Rattle.ent_types.specs.declared.entity.Entity.{Entity}
use Rattle.ent_types.specs.declared.type_info.TypeInfo.{TypeInfo}
use Rattle.ent_types.specs.TypeLookups.{field_kind_at}
use Rattle.ent_types.specs.TypeSets.{has_type, meets}
use Rattle.world_model.specs.Members.{In, tally, one_if}
use Rattle.world_model.specs.Row.{Cell, Row}
use Rattle.world_model.specs.World.{Home, Mark, Block, World}
use Rattle.world_model.specs.Found.{Found}
use Rattle.world_model.specs.Write.{marked}
use Rattle.expr_eval.specs.Values.{OwnRow, OtherRows, value, is_true}
use Rattle.scenario_record.specs.declared.record.SystemEntry.{SystemEntry}
use Rattle.run_model.specs.Clock.{Clock}
use Rattle.run_model.specs.Query.{matches, is_visited}
use Rattle.run_model.specs.Job.{Spot, own_of, others_in, fitted, Text, Assigns, Switches, texts_of, written_type, writes, after_text, after_texts}
use Rattle.run_model.specs.Run.{MatchedRow, Entry, entries_at, cells_after, rows_after, visited, recorded_of, matched_in, item_after, matched, blocks_after, run}
use Rattle.run_model.specs.Touched.{named_types}
use Rattle.run_model.specs.Phases.{reads, touches, conflicts, Turn, IsFree, AreFree, AreApart, RunOutput, output_of, turn_result, world_each, outputs_each, moment_after, Item, rows_after_first, turn_items, put_cells, put_rows, with_item, with_items, joined_from, joined, item_entries, items_output, joined_outputs}
use Rattle.run_laws.specs.Agree.{Both, CellAgree, MarkAgree, CellsAgree, RowAgree, BlockAgree, OthersAgree}
use Rattle.world_laws.proofs.Members.{in_left}
use Rattle.world_laws.proofs.Types.{has_in}
use Rattle.run_laws.proofs.Lists.{both_self, both_then, both_less, in_has, Within}
use Rattle.run_laws.proofs.RunAgree.{Touched, others_agree, rows_agree, entries_agree, visited_agree, visits_agree, passing_agree}

-- ---- agreement goes on, and holds of less

module _ (X : ℕ → Type 0) where
  cell_then : (c d e : Cell) → CellAgree X c d → CellAgree X d e → CellAgree X c e
  cell_then c d e h k = (h.0 ∙ k.0, λ x. h.1 x ∙ k.1 (subst X h.0 x))

  mark_then : (c d e : Mark) → MarkAgree X c d → MarkAgree X d e → MarkAgree X c e
  mark_then c d e h k = (h.0 ∙ k.0, λ x. h.1 x ∙ k.1 (subst X h.0 x))

  row_then : (r q p : Row) → RowAgree X r q → RowAgree X q p → RowAgree X r p
  row_then r q p h k = (h.0 ∙ k.0, h.1 ∙ k.1, both_then (CellAgree X) cell_then r.cells q.cells p.cells h.2 k.2)

  block_then : (a b c : Block) → BlockAgree X a b → BlockAgree X b c → BlockAgree X a c
  block_then a b c h k = (h.0 ∙ k.0, h.1 ∙ k.1, both_then (MarkAgree X) mark_then a.marks b.marks c.marks h.2 k.2, both_then (RowAgree X) row_then a.rows b.rows c.rows h.3 k.3)

  cells_self : (cs : List Cell) → CellsAgree X cs cs
  cells_self cs = both_self (CellAgree X) (λ c. (refl, λ x. refl)) cs

  row_self : (r : Row) → RowAgree X r r
  row_self r = (refl, refl, cells_self r.cells)

  pub block_self : (b : Block) → BlockAgree X b b
  block_self b = (refl, refl, both_self (MarkAgree X) (λ c. (refl, λ x. refl)) b.marks, both_self (RowAgree X) row_self b.rows)

module _ (X Y : ℕ → Type 0) (less : (t : ℕ) → Y t → X t) where
  row_less : (r q : Row) → RowAgree X r q → RowAgree Y r q
  row_less r q h = (h.0, h.1, both_less (CellAgree X) (CellAgree Y) (λ c d k. (k.0, λ y. k.1 (less c.type_id y))) r.cells q.cells h.2)

  blocks_less : (bs cs : List Block) → Both (BlockAgree X) bs cs → Both (BlockAgree Y) bs cs
  blocks_less bs cs h =
      both_less (BlockAgree X) (BlockAgree Y)
      (λ b c k. (k.0, k.1, both_less (MarkAgree X) (MarkAgree Y) (λ m n g. (g.0, λ y. g.1 (less m.type_id y))) b.marks c.marks k.2, both_less (RowAgree X) (RowAgree Y) row_less b.rows c.rows k.3)) bs cs h

-- ---- a run keeps what it doesn't write

module _ (clock : Clock) (registry : List TypeInfo) (s : SystemEntry) (last : Option ℕ) (frame : ℕ) where
  abbrev pub Out : ℕ → Type 0
  Out t = In t (writes s) → ⊥

  text_keeps : (own : OwnRow) (o : OtherRows) (x : Text) → In (written_type x) (writes s) → (cs : List Cell) → CellsAgree Out cs (after_text registry o own x cs)
  text_keeps own o (Assigns a) w [] = tt
  text_keeps own o (Assigns a) w (c ∷ cs) = ((refl, λ out. by out (nat_eq c.type_id a.ty.0) refl), text_keeps own o (Assigns a) w cs)
    where
      by : Out c.type_id → (b : Bool) → nat_eq c.type_id a.ty.0 ≡ b
          → c ≡ record c { values = if b then slice_set c.values a.field (fitted (field_kind_at registry a.ty.0 a.field) own o a.value) else c.values }
      by out true e = absurd (out (subst (λ t. In t (writes s)) (sym (eqb-true c.type_id a.ty.0 e)) w))
      by out false e = refl
  text_keeps own o (Switches x) w [] = tt
  text_keeps own o (Switches x) w (c ∷ cs) = ((refl, λ out. by out (nat_eq c.type_id x.ty.0) refl), text_keeps own o (Switches x) w cs)
    where
      by : Out c.type_id → (b : Bool) → nat_eq c.type_id x.ty.0 ≡ b → c ≡ record c { off = if b then not (is_true (value own o x.value)) else c.off }
      by out true e = absurd (out (subst (λ t. In t (writes s)) (sym (eqb-true c.type_id x.ty.0 e)) w))
      by out false e = refl

  texts_keep : (o : OtherRows) (spot : Spot) (home : Home) (me : Entity) (ts : List Text) → Within (map written_type ts) (λ t. In t (writes s)) → (cs : List Cell)
      → CellsAgree Out cs (after_texts registry o spot home me ts cs)
  texts_keep o spot home me [] w cs = cells_self Out cs
  texts_keep o spot home me (x ∷ xs) w cs =
      let next : List Cell = after_text registry o (own_of registry spot home me cs) x cs in
      both_then (CellAgree Out) (cell_then Out) cs next (after_texts registry o spot home me xs next)
      (text_keeps (own_of registry spot home me cs) o x (w (written_type x) (inl refl)) cs) (texts_keep o spot home me xs (λ t i. w t (inr i)) next)

  -- a job touches only the cells of the types that the system writes
  pub cells_keep : (o : OtherRows) (spot : Spot) (x : Found) → CellsAgree Out x.row.cells (cells_after registry s o spot x)
  cells_keep o spot x = texts_keep o spot x.home x.row.entity (texts_of s) (λ t i. i) x.row.cells

  rows_keep : (o : OtherRows) (item : ℕ) (home : Home) (k : ℕ) (rs : List Row) → Both (RowAgree Out) rs (rows_after registry s o frame item home k rs)
  rows_keep o item home k [] = tt
  rows_keep o item home k (r ∷ rs) = ((refl, refl, by (matches registry s (record { home = home; row = r }))), rows_keep o item home (k + 1) rs)
    where
      by : (b : Bool) → CellsAgree Out r.cells (if b then cells_after registry s o (record { frame = frame; item = item; place = k }) (record { home = home; row = r }) else r.cells)
      by true = cells_keep o (record { frame = frame; item = item; place = k }) (record { home = home; row = r })
      by false = cells_self Out r.cells

  marks_keep : (now : ℕ) (ms : List Mark) → Both (MarkAgree Out) ms (marked now (writes s) ms)
  marks_keep now [] = tt
  marks_keep now (m ∷ ms) = (by (has_type (writes s) m.type_id) refl, marks_keep now ms)
    where
      by : (b : Bool) → has_type (writes s) m.type_id ≡ b → MarkAgree Out m (if b then record m { moment = now } else m)
      by true e = (refl, λ out. absurd (out (has_in m.type_id (writes s) e)))
      by false e = (refl, λ out. refl)

  pub blocks_keep : (o : OtherRows) (now item : ℕ) (bs : List Block) → Both (BlockAgree Out) bs (blocks_after clock registry s last frame o now item bs)
  blocks_keep o now item [] = tt
  blocks_keep o now item (b ∷ bs) = (by (is_visited registry clock s last b), blocks_keep o now (item_after clock registry s last item b) bs)
    where
      by : (t : Bool) → BlockAgree Out b (if t then visited registry s o frame now item b else b)
      by true = (refl, refl, marks_keep now b.marks, rows_keep o item b.home 0 b.rows)
      by false = block_self Out b

  -- ---- what an item makes is what the run makes of its block

  abbrev hits : Home → Row → Bool
  hits home r = matches registry s (record { home = home; row = r })

  rows_whole : (o : OtherRows) (item : ℕ) (home : Home) (k n : ℕ) (rs : List Row) → n ≡ tally (hits home) rs
      → rows_after_first clock registry frame o s item home k n rs ≡ rows_after registry s o frame item home k rs
  rows_whole o item home k zero [] e = refl
  rows_whole o item home k (suc n) [] e = refl
  rows_whole o item home k zero (r ∷ rs) e = by (hits home r) e (rows_whole o item home (k + 1) zero rs)
    where
      by : (b : Bool) → 0 ≡ one_if b + tally (hits home) rs → (0 ≡ tally (hits home) rs → rs ≡ rows_after registry s o frame item home (k + 1) rs)
          → (r ∷ rs) ≡ (record r { cells = if b then cells_after registry s o (record { frame = frame; item = item; place = k }) (record { home = home; row = r }) else r.cells })
          ∷ rows_after registry s o frame item home (k + 1) rs
      by true e rest = absurd (omega arith)
      by false e rest = ap (λ (qs : List Row). r ∷ qs) (rest (omega arith))
  rows_whole o item home k (suc n) (r ∷ rs) e = by (hits home r) e (λ m. rows_whole o item home (k + 1) m rs)
    where
      by : (b : Bool) → suc n ≡ one_if b + tally (hits home) rs
          → ((m : ℕ) → m ≡ tally (hits home) rs → rows_after_first clock registry frame o s item home (k + 1) m rs ≡ rows_after registry s o frame item home (k + 1) rs)
          → (if b then (record r { cells = if b then cells_after registry s o (record { frame = frame; item = item; place = k }) (record { home = home; row = r }) else r.cells }) ∷ rows_after_first clock registry frame o s item home (k + 1) n rs
          else r ∷ rows_after_first clock registry frame o s item home (k + 1) (suc n) rs)
          ≡ (record r { cells = if b then cells_after registry s o (record { frame = frame; item = item; place = k }) (record { home = home; row = r }) else r.cells })
          ∷ rows_after registry s o frame item home (k + 1) rs
      by true e rest = ap (λ (qs : List Row). (record r { cells = cells_after registry s o (record { frame = frame; item = item; place = k }) (record { home = home; row = r }) }) ∷ qs) (rest n (omega arith))
      by false e rest = ap (λ (qs : List Row). r ∷ qs) (rest (suc n) (omega arith))

  met_count : (item : ℕ) (home : Home) (k : ℕ) (rs : List Row) → length (matched_in registry s item home k rs) ≡ tally (hits home) rs
  met_count item home k [] = refl
  met_count item home k (r ∷ rs) = by (hits home r) (met_count item home (k + 1) rs)
    where
      by : (b : Bool) → length (matched_in registry s item home (k + 1) rs) ≡ tally (hits home) rs
          → length ((if b then record { item = item; place = k; at = record { home = home; row = r } } ∷ [] else []) ++ matched_in registry s item home (k + 1) rs) ≡ one_if b + tally (hits home) rs
      by true h = omega arith
      by false h = omega arith

  take_whole : {A : Type 0} (n : ℕ) (xs : List A) → length xs ≡ n → take n xs ≡ xs
  take_whole zero [] e = refl
  take_whole zero (x ∷ xs) e = absurd (omega arith)
  take_whole (suc n) [] e = refl
  take_whole (suc n) (x ∷ xs) e = ap (λ ys. x ∷ ys) (take_whole n xs (omega arith))

  flat_append : {A B : Type 0} (f : A → List B) (xs ys : List A) → flat_map f (xs ++ ys) ≡ flat_map f xs ++ flat_map f ys
  flat_append f [] ys = refl
  flat_append f (x ∷ xs) ys = ap (λ zs. f x ++ zs) (flat_append f xs ys) ∙ sym (append_assoc (f x) (flat_map f xs) (flat_map f ys))

  abbrev tells : OtherRows → MatchedRow → List Entry
  tells o m = entries_at m (recorded_of registry s o frame m)

  pub entries_whole : (o : OtherRows) (now item : ℕ) (bs : List Block)
      → flat_map (item_entries clock registry frame o) (turn_items clock registry frame o (record { system = s; last = last }) now item bs)
      ≡ flat_map (tells o) (matched clock registry s last item bs)
  entries_whole o now item [] = refl
  entries_whole o now item (b ∷ bs) =
      ap₂ (λ xs ys. xs ++ ys) (by (is_visited registry clock s last b)) (entries_whole o now (item_after clock registry s last item b) bs)
      ∙ sym (flat_append (tells o) (if is_visited registry clock s last b then matched_in registry s item b.home 0 b.rows else []) (matched clock registry s last (item_after clock registry s last item b) bs))
    where
      i : Item
      i = record { turn = record { system = s; last = last }; now = now; number = item; block = b }

      by : (t : Bool) → item_entries clock registry frame o (if t then Some i else None) ≡ flat_map (tells o) (if t then matched_in registry s item b.home 0 b.rows else [])
      by true = ap (flat_map (tells o)) (take_whole (tally (hits b.home) b.rows) (matched_in registry s item b.home 0 b.rows) (met_count item b.home 0 b.rows))
      by false = refl

-- ---- what agrees with one on some types and with another on the others is put

module _ (ws : List ℕ) where
  abbrev Inside : ℕ → Type 0
  Inside t = In t ws

  abbrev Outside : ℕ → Type 0
  Outside t = In t ws → ⊥

  outside : (t : ℕ) → has_type ws t ≡ false → Outside t
  outside t h i = let no_way : true ≡ false = sym (in_has t ws i) ∙ h in cc

  cells_put : (us xs bs : List Cell) → CellsAgree Inside us xs → CellsAgree Outside bs xs → xs ≡ put_cells ws us bs
  cells_put [] [] [] h k = refl
  cells_put [] [] (b ∷ bs) h k = absurd k
  cells_put [] (x ∷ xs) bs h k = absurd h
  cells_put (a ∷ us) [] bs h k = absurd h
  cells_put (a ∷ us) (x ∷ xs) [] h k = absurd k
  cells_put (a ∷ us) (x ∷ xs) (b ∷ bs) h k = ap₂ (λ (c : Cell) cs. c ∷ cs) (by (has_type ws b.type_id) refl) (cells_put us xs bs h.1 k.1)
    where
      by : (t : Bool) → has_type ws b.type_id ≡ t → x ≡ (if t then a else b)
      by true e = sym (h.0.1 (subst Inside (k.0.0 ∙ sym h.0.0) (has_in b.type_id ws e)))
      by false e = sym (k.0.1 (outside b.type_id e))

  rows_put : (us xs bs : List Row) → Both (RowAgree Inside) us xs → Both (RowAgree Outside) bs xs → xs ≡ put_rows ws us bs
  rows_put [] [] [] h k = refl
  rows_put [] [] (b ∷ bs) h k = absurd k
  rows_put [] (x ∷ xs) bs h k = absurd h
  rows_put (a ∷ us) [] bs h k = absurd h
  rows_put (a ∷ us) (x ∷ xs) [] h k = absurd k
  rows_put (a ∷ us) (x ∷ xs) (b ∷ bs) h k =
      ap₂ (λ (r : Row) rs. r ∷ rs)
      (ap₂ (λ e d. let r : Row = record { entity = e; cells = x.cells; dying = d } in r) (sym k.0.0) (sym k.0.1) ∙ ap (λ cs. record b { cells = cs }) (cells_put a.cells x.cells b.cells h.0.2 k.0.2))
      (rows_put us xs bs h.1 k.1)

-- ---- one system of a phase

module _ (clock : Clock) (registry : List TypeInfo) (frame : ℕ) (o p : OtherRows) (j : Turn) where
  abbrev T : ℕ → Type 0
  T = Touched clock registry j.system j.last frame

  -- what a system does to a block of a later world is what its item of the first world makes of it
  block_is : OthersAgree T o p → (now item : ℕ) (b c : Block) → BlockAgree T b c
      → visited registry j.system p frame now item c ≡ with_item clock registry frame o (Some (record { turn = j; now = now; number = item; block = b })) c
  block_is others now item b c h =
      ap (λ (rs : List Row). record c { marks = marked now (writes j.system) c.marks; rows = rs })
      (rows_put (writes j.system) made after c.rows inside (rows_keep clock registry j.system j.last frame p item c.home 0 c.rows)
      ∙ ap (λ rs. put_rows (writes j.system) rs c.rows) (sym (rows_whole clock registry j.system j.last frame o item b.home 0 (tally (λ r. matches registry j.system (record { home = b.home; row = r })) b.rows) b.rows refl)))
    where
      made : List Row
      made = rows_after registry j.system o frame item b.home 0 b.rows

      after : List Row
      after = rows_after registry j.system p frame item c.home 0 c.rows

      agree : Both (RowAgree T) made after
      agree = subst (λ home. Both (RowAgree T) made (rows_after registry j.system p frame item home 0 c.rows)) h.0
          (rows_agree clock registry j.system j.last frame T (λ t i. i) o p others item b.home 0 b.rows c.rows h.3)

      inside : Both (RowAgree (λ t. In t (writes j.system))) made after
      inside = both_less (RowAgree T) (RowAgree (λ t. In t (writes j.system)))
          (row_less T (λ t. In t (writes j.system)) (λ t i. in_left t (writes j.system) (reads j.system ++ named_types registry j.system) i)) made after agree

  blocks_are : OthersAgree T o p → (now item : ℕ) (bs cs : List Block) → Both (BlockAgree T) bs cs
      → blocks_after clock registry j.system j.last frame p now item cs ≡ with_items clock registry frame o (turn_items clock registry frame o j now item bs) cs
  blocks_are others now item [] [] h = refl
  blocks_are others now item [] (c ∷ cs) h = absurd h
  blocks_are others now item (b ∷ bs) [] h = absurd h
  blocks_are others now item (b ∷ bs) (c ∷ cs) h =
      subst (λ t. ((if t then visited registry j.system p frame now item c else c) ∷ blocks_after clock registry j.system j.last frame p now (if t then item + 1 else item) cs)
      ≡ with_items clock registry frame o (turn_items clock registry frame o j now item (b ∷ bs)) (c ∷ cs))
      (visited_agree clock registry j.system j.last frame T (λ t i. i) b c h.0)
      (ap₂ (λ (d : Block) ds. d ∷ ds) (by (is_visited registry clock j.system j.last b)) (blocks_are others now (item_after clock registry j.system j.last item b) bs cs h.1))
    where
      by : (t : Bool) → (if t then visited registry j.system p frame now item c else c)
          ≡ with_item clock registry frame o (if t then Some (record { turn = j; now = now; number = item; block = b }) else None) c
      by true = block_is others now item b c h.0
      by false = refl

  visits_are : (now item : ℕ) (bs : List Block) → tally (is_visited registry clock j.system j.last) bs ≡ tally is_some (turn_items clock registry frame o j now item bs)
  visits_are now item [] = refl
  visits_are now item (b ∷ bs) = ap₂ (λ t n. one_if t + n) (by (is_visited registry clock j.system j.last b)) (visits_are now (item_after clock registry j.system j.last item b) bs)
    where
      by : (t : Bool) → t ≡ is_some (if t then Some (let i : Item = record { turn = j; now = now; number = item; block = b } in i) else None)
      by true = refl
      by false = refl

-- ---- the law

module _ (clock : Clock) (frame : ℕ) (w : World) where
  abbrev at : ℕ → List Block → World
  at now bs = record w { moment = now; blocks = bs }

  abbrev Fresh : Turn → List Block → Type 0
  Fresh j bs = Both (BlockAgree (Touched clock w.registry j.system j.last frame)) w.blocks bs

  abbrev after : Turn → ℕ → List Block → List Block
  after j now bs = blocks_after clock w.registry j.system j.last frame (others_in (at now bs)) (clock.next now) 0 bs

  stays_fresh : (j k : Turn) → IsFree w.registry j k → (now : ℕ) (bs : List Block) → Fresh k bs → Fresh k (after j now bs)
  stays_fresh j k free now bs fresh =
      both_then (BlockAgree (Touched clock w.registry k.system k.last frame)) (block_then (Touched clock w.registry k.system k.last frame)) w.blocks bs (after j now bs) fresh
      (blocks_less (λ t. In t (writes j.system) → ⊥) (Touched clock w.registry k.system k.last frame) (λ t i h. free t h i) bs (after j now bs)
      (blocks_keep clock w.registry j.system j.last frame (others_in (at now bs)) (clock.next now) 0 bs))

  count_is : (j : Turn) (now : ℕ) (bs : List Block) → Fresh j bs
      → output_of (turn_result clock frame j (at now bs)) ≡ items_output clock frame w j (turn_items clock w.registry frame (others_in w) j (clock.next now) 0 w.blocks)
  unfolding run
  count_is j now bs fresh =
      let T : ℕ → Type 0 = Touched clock w.registry j.system j.last frame in
      ap₂ (λ (v : ℕ) (pe : ℕ × List Entry). let c : RunOutput = record { visits = v; passing = pe.0; entries = pe.1 } in c)
      (sym (visits_agree clock w.registry j.system j.last frame T (λ t i. i) w.blocks bs fresh)
      ∙ visits_are clock w.registry frame (others_in w) (others_in w) j (clock.next now) 0 w.blocks)
      (ap₂ (λ (n : ℕ) (es : List Entry). (n, es))
      (sym (passing_agree clock w.registry j.system j.last frame T (λ t i. i) w.blocks bs fresh))
      (sym (entries_agree clock w.registry j.system j.last frame T (λ t i. i) (others_in w) (others_in (at now bs)) (others_agree T w.blocks bs fresh) w.blocks bs fresh)
      ∙ sym (entries_whole clock w.registry j.system j.last frame (others_in w) (clock.next now) 0 w.blocks)))

  fold_is : (js : List Turn) → AreFree w.registry js → (now : ℕ) (bs : List Block) → ((k : Turn) → In k js → Fresh k bs)
      → (world_each clock frame js (at now bs) ≡ at (moment_after clock frame js now) (joined_from clock w.registry frame (others_in w) w.blocks now js bs))
      × (outputs_each clock frame js (at now bs) ≡ joined_outputs clock frame w now js)
  unfolding run
  fold_is [] free now bs fresh = (refl, refl)
  fold_is (j ∷ js) free now bs fresh =
      let rest = fold_is js free.1 (clock.next now) (after j now bs) (λ k i. stays_fresh j k (free.0 k i) now bs (fresh k (inr i))) in
      let T : ℕ → Type 0 = Touched clock w.registry j.system j.last frame in (
        rest.0 ∙ ap (λ cs. at (moment_after clock frame js (clock.next now)) (joined_from clock w.registry frame (others_in w) w.blocks (clock.next now) js cs))
            (blocks_are clock w.registry frame (others_in w) (others_in (at now bs)) j (others_agree T w.blocks bs (fresh j (inl refl))) (clock.next now) 0 w.blocks bs (fresh j (inl refl))),
        ap₂ (λ (c : RunOutput) cs. c ∷ cs) (count_is j now bs (fresh j (inl refl))) rest.1,
      )

  pub phase_law : (js : List Turn) → AreFree w.registry js
      → (world_each clock frame js w ≡ joined clock frame js w) × (outputs_each clock frame js w ≡ joined_outputs clock frame w w.moment js)
  unfolding joined
  phase_law js free =
      fold_is js free w.moment w.blocks (λ k i. both_self (BlockAgree (Touched clock w.registry k.system k.last frame)) (block_self (Touched clock w.registry k.system k.last frame)) w.blocks)

-- ---- systems that don't conflict

free_by : (registry : List TypeInfo) (j k : Turn) → conflicts registry j.system k.system ≡ false → IsFree registry j k
free_by registry j k h t i e = by (writes j.system) h i
  where
    meet : (ts : List ℕ) → In t ts → meets ts (touches registry k.system) ≡ true
    meet [] i = absurd i
    meet (u ∷ us) (inl f) = ap (λ b. b || meets us (touches registry k.system)) (in_has u (touches registry k.system) (subst (λ v. In v (touches registry k.system)) f e))
    meet (u ∷ us) (inr i) = or_right (has_type (touches registry k.system) u) (meet us i)
      where
        or_right : (b : Bool) → meets us (touches registry k.system) ≡ true → (b || meets us (touches registry k.system)) ≡ true
        or_right true h = refl
        or_right false h = h

    by : (ts : List ℕ) → (meets ts (touches registry k.system) || meets (writes k.system) (touches registry j.system)) ≡ false → In t ts → ⊥
    by ts h i = let no_way : true ≡ false = sym (ap (λ b. b || meets (writes k.system) (touches registry j.system)) (meet ts i)) ∙ h in cc

pub all_free : (registry : List TypeInfo) (js : List Turn) → AreApart registry js → AreFree registry js
all_free registry [] h = tt
all_free registry (j ∷ js) h = (λ k i. free_by registry j k (h.0 k i), all_free registry js h.1)
