-- Entities that are made one after another, and the rows that they name.
use Rattle.std.proofs.Common.{ℕ, zero, suc, ◌≡◌, ◌+◌, ◌-◌, ◌<◌, ◌≤◌, ◌∙◌, ◌⊎◌, inl, inr, Bool, true, false, cond, nat_eq, refl, sym, ap, ap₂, subst, List, [], ◌∷◌, ◌++◌, map, length, drop, find, set, slice_get, Option, Some, None, option_map, append_assoc, arith}
use Rattle.std.specs.Prelude.{unwrap_or}
use Rattle.std.specs.Option.{option_or}
use Rattle.std.proofs.lemmas.Bool.{eqb-true, eqb-false}
use Rattle.std.proofs.lemmas.List.Folds.{find-append}
use Rattle.std.proofs.lemmas.Option.{none-some, same_Some}
use Rattle.ent_types.specs.declared.entity.Entity.{Entity}
use Rattle.ent_types.specs.Fitting.{null_entity}
use Rattle.entity_table.specs.Ids.{ahead_of}
use Rattle.entity_table.specs.declared.table.Place.{Place}
use Rattle.entity_table.specs.Table.{Table, alive_count, given_by, made, place_of, with_made}
use Rattle.world_model.specs.Ids.{next_ids, take_id}
use Rattle.world_model.specs.Members.{AreDistinct, In, one_if, tally}
use Rattle.world_model.specs.Part.{same_entity}
use Rattle.world_model.specs.Row.{Row}
use Rattle.world_model.specs.Scenes.{Renaming, renamed, renamings}
use Rattle.world_laws.proofs.Leaving.{is_row}
use Rattle.world_laws.proofs.Members.{map_append}
use Rattle.world_laws.proofs.Renaming.{AreOnce, apart}
use Rattle.world_laws.proofs.Same.{entity_is, entity_self}
use Rattle.chunk_block.specs.Blocks.{BlockState, row_in}
use Rattle.archetype_store.specs.Stores.{Numbered, StoreState, with_block}
use Rattle.world_places.specs.Placing.{entity_at, numbers_of, row_at}
use Rattle.world_places.proofs.Looking.{AllLack}
use Rattle.world_places.proofs.Numbers.{block_append, block_none, later_apart, number_in, row_at_some}
use Rattle.world_places.proofs.Rows.{Lacks, entity_in}
use Rattle.world_places.proofs.Tables.{entity_cases, made_count, made_made}
use Rattle.structural_ops.specs.Attaching.{AreNew, IsNew, all_made, all_named, place_of_item, row_named}
use Rattle.structural_ops.proofs.Noting.{AreOnceIn, at_counts, first_only, item_entity, later_only, none_lacks, once_block, once_later, once_rest}

-- ---- the ids

-- one more id
pub next_more : (k : ℕ) (free : List Entity) (made first : ℕ) → next_ids (k + 1) free made first ≡ next_ids k free made first ++ ahead_of k free made first ∷ []
next_more k free made first = ap (λ n. next_ids n free made first) (one k) ∙ more k free made first
  where
    one : (k : ℕ) → k + 1 ≡ suc k
    one k = omega arith

    more : (k : ℕ) (free : List Entity) (made first : ℕ) → next_ids (suc k) free made first ≡ next_ids k free made first ++ ahead_of k free made first ∷ []
    more zero free made first = refl
    more (suc k) free made first =
        ap (λ (es : List Entity). (take_id free made first).entity ∷ es) (more k (take_id free made first).free (take_id free made first).made first)

-- the entities that a table makes one after another
abbrev pub ids_made : List Place → Table → List Entity
ids_made [] t = []
ids_made (p ∷ ps) t = (given_by t).entity ∷ ids_made ps (with_made t p)

pub ids_long : (ps : List Place) (t : Table) → length (ids_made ps t) ≡ length ps
ids_long [] t = refl
ids_long (p ∷ ps) t = ap suc (ids_long ps (with_made t p))

-- the free indexes were made
abbrev pub AreMade : Table → Type 0
AreMade t = (d : Entity) → In d t.free → d.index < made t

still_made : (t : Table) (p : Place) → AreMade t → AreMade (with_made t p)
still_made t p below d i =
    let here = below d (among t.free (made t) t.first_version i) in
    let more = as_many t.free (made t) t.first_version in
    omega (arith, here, more, made_made t p below)
  where
    among : (free : List Entity) (made first : ℕ) → In d (take_id free made first).free → In d free
    among [] made first j = j
    among (e ∷ es) made first j = inr j

    as_many : (free : List Entity) (made first : ℕ) → made ≤ (take_id free made first).made
    as_many [] made first = omega arith
    as_many (e ∷ es) made first = omega arith

pub ids_are : (ps : List Place) (t : Table) → AreMade t → ids_made ps t ≡ next_ids (length ps) t.free (made t) t.first_version
ids_are [] t below = refl
ids_are (p ∷ ps) t below =
    ap (λ (es : List Entity). (given_by t).entity ∷ es)
    (ids_are ps (with_made t p) (still_made t p below) ∙ ap (λ m. next_ids (length ps) (given_by t).free m t.first_version) (made_made t p below))

drop_more : (n : ℕ) (free : List Entity) (made first : ℕ) → drop n (take_id free made first).free ≡ drop (suc n) free
drop_more zero [] made first = refl
drop_more (suc n) [] made first = refl
drop_more n (e ∷ es) made first = refl

pub free_left : (ps : List Place) (t : Table) → (all_made ps t).free ≡ drop (length ps) t.free
free_left [] t = refl
free_left (p ∷ ps) t = free_left ps (with_made t p) ∙ drop_more (length ps) t.free (made t) t.first_version

pub made_more : (ps : List Place) (t : Table) → AreMade t → made (all_made ps t) ≡ made t + (length ps - length t.free)
made_more [] t below = none (made t) (length t.free)
  where
    none : (m k : ℕ) → m ≡ m + (0 - k)
    none m k = omega arith
made_more (p ∷ ps) t below =
    made_more ps (with_made t p) (still_made t p below)
    ∙ ap (λ m. m + (length ps - length (given_by t).free)) (made_made t p below)
    ∙ taken (length ps) t.free (made t) t.first_version
  where
    taken : (n : ℕ) (free : List Entity) (made first : ℕ) → (take_id free made first).made + (n - length (take_id free made first).free) ≡ made + (suc n - length free)
    taken n [] made first = omega arith
    taken n (e ∷ es) made first = less made n (length es)
      where
        less : (m n k : ℕ) → m + (n - k) ≡ m + (suc n - suc k)
        less m n k = omega arith

pub first_stays : (ps : List Place) (t : Table) → (all_made ps t).first_version ≡ t.first_version
first_stays [] t = refl
first_stays (p ∷ ps) t = first_stays ps (with_made t p)

-- ---- their places

-- each entity that is made, with its place
abbrev pub given_places : List Place → Table → List (Entity × Place)
given_places [] t = []
given_places (p ∷ ps) t = ((given_by t).entity, p) ∷ given_places ps (with_made t p)

not_given : (t : Table) (p q : Place) (d : Entity) → IsNew t p → place_of t d ≡ Some q → d ≡ (given_by t).entity → ⊥
not_given t p q d new at same = none-some q (sym new.fresh ∙ (ap (place_of t) (sym same) ∙ at))

-- who was alive keeps its place
pub places_stay : (ps : List Place) (t : Table) → AreNew ps t → (d : Entity) (p : Place) → place_of t d ≡ Some p → place_of (all_made ps t) d ≡ Some p
places_stay [] t new d p at = at
places_stay (q ∷ ps) t new d p at = places_stay ps (with_made t q) new.1 d p (new.0.rebinds.others d (not_given t q p d new.0 at) ∙ at)

pub given_there : (ps : List Place) (t : Table) → AreNew ps t → (d : Entity) (p : Place) → In (d, p) (given_places ps t) → place_of (all_made ps t) d ≡ Some p
given_there [] t new d p i = absurd i
given_there (q ∷ ps) t new d p (inl same) =
    let entity : d ≡ (given_by t).entity = ap (λ (x : Entity × Place). x.0) same in
    let place : p ≡ q = ap (λ (x : Entity × Place). x.1) same in
    places_stay ps (with_made t q) new.1 d p (ap (place_of (with_made t q)) entity ∙ (new.0.rebinds.there ∙ ap Some (sym place)))
given_there (q ∷ ps) t new d p (inr i) = given_there ps (with_made t q) new.1 d p i

pub who_has_place : (ps : List Place) (t : Table) → AreNew ps t → (d : Entity) (p : Place) → place_of (all_made ps t) d ≡ Some p → (place_of t d ≡ Some p) ⊎ In (d, p) (given_places ps t)
who_has_place [] t new d p at = inl at
who_has_place (q ∷ ps) t new d p at = by (who_has_place ps (with_made t q) new.1 d p at) (entity_cases d (given_by t).entity)
  where
    by : (place_of (with_made t q) d ≡ Some p) ⊎ In (d, p) (given_places ps (with_made t q)) → (d ≡ (given_by t).entity) ⊎ (d ≡ (given_by t).entity → ⊥)
        → (place_of t d ≡ Some p) ⊎ In (d, p) (given_places (q ∷ ps) t)
    by (inl is) (inl same) =
        let place : q ≡ p = same_Some q p (sym new.0.rebinds.there ∙ (ap (place_of (with_made t q)) (sym same) ∙ is)) in
        inr (inl (ap₂ (λ (e : Entity) (o : Place). (e, o)) same (sym place)))
    by (inl is) (inr other) = inl (sym (new.0.rebinds.others d other) ∙ is)
    by (inr i) any = inr (inr i)

pub made_counts : (ps : List Place) (t : Table) → AreNew ps t → alive_count (all_made ps t) ≡ alive_count t + length ps
made_counts [] t new = omega arith
made_counts (p ∷ ps) t new = omega (arith, made_counts ps (with_made t p) new.1, made_count t p new.0.fresh new.0.rebinds)

-- ---- rows that are named

-- what an entity becomes; itself where it isn't renamed
abbrev pub renamed_if : List Renaming → Entity → Entity
renamed_if rs e = unwrap_or (option_map (λ r. r.to) (find (λ (r : Renaming). same_entity e r.from) rs)) e

abbrev pub row_renamed : List Renaming → Row → Row
row_renamed rs r = record r { entity = renamed_if rs r.entity }

abbrev pub block_renamed : List Renaming → Numbered → Numbered
block_renamed rs b = record b { block = record (b.block) { rows = map (row_renamed rs) b.block.rows } }

-- the entity isn't renamed
abbrev pub IsKept : List Renaming → Entity → Type 0
IsKept rs e = find (λ (r : Renaming). same_entity e r.from) rs ≡ None

pub nothing_renamed : (rows : List Row) → map (row_renamed []) rows ≡ rows
nothing_renamed [] = refl
nothing_renamed (r ∷ rs) = ap (λ (qs : List Row). r ∷ qs) (nothing_renamed rs)

module _ (rs : List Renaming) (e d : Entity) where
  abbrev pub more : List Renaming
  more = rs ++ (let r : Renaming = record { from = e; to = d } in r) ∷ []

  found_more : (c : Entity) → find (λ (r : Renaming). same_entity c r.from) more
      ≡ option_or (find (λ (r : Renaming). same_entity c r.from) rs) (cond (same_entity c e) (Some (record { from = e; to = d })) None)
  found_more c = find-append (λ (r : Renaming). same_entity c r.from) rs ((record { from = e; to = d }) ∷ [])

  -- another entity becomes what it became
  renamed_other : (c : Entity) → (c ≡ e → ⊥) → renamed_if more c ≡ renamed_if rs c
  renamed_other c apart =
      ap (λ (o : Option Renaming). unwrap_or (option_map (λ r. r.to) o) c)
      (found_more c ∙ ap (λ b. option_or (find (λ (r : Renaming). same_entity c r.from) rs) (cond b (Some (record { from = e; to = d })) None)) (differs (same_entity c e) refl)
      ∙ or_none (find (λ (r : Renaming). same_entity c r.from) rs))
    where
      differs : (b : Bool) → same_entity c e ≡ b → b ≡ false
      differs true is = absurd (apart (entity_is c e is))
      differs false is = refl

      or_none : (o : Option Renaming) → option_or o None ≡ o
      or_none None = refl
      or_none (Some r) = refl

  renamed_last : (c : Entity) → c ≡ e → IsKept rs e → renamed_if more c ≡ d
  renamed_last c same kept =
      ap (λ (o : Option Renaming). unwrap_or (option_map (λ r. r.to) o) c)
      (found_more c
      ∙ ap (λ (o : Option Renaming). option_or o (cond (same_entity c e) (Some (record { from = e; to = d })) None)) (ap (λ a. find (λ (r : Renaming). same_entity a r.from) rs) same ∙ kept)
      ∙ ap (λ b. cond b (let r : Renaming = record { from = e; to = d } in Some r) None) (ap (λ a. same_entity a e) same ∙ entity_self e))

  -- who is not the entity stays unnamed
  pub kept_more : (c : Entity) → IsKept rs c → same_entity c e ≡ false → IsKept more c
  kept_more c kept other =
      found_more c
      ∙ ap₂ (λ (o : Option Renaming) b. option_or o (cond b (Some (record { from = e; to = d })) None)) kept other

  lacks_same : (rows : List Row) → Lacks e rows → map (row_renamed rs) rows ≡ map (row_renamed more) rows
  lacks_same [] lacks = refl
  lacks_same (r ∷ qs) lacks =
      ap₂ (λ (c : Entity) (ps : List Row). record r { entity = c } ∷ ps) (sym (renamed_other r.entity (λ same. lacks 0 (ap Some same)))) (lacks_same qs (λ j is. lacks (suc j) is))

  module _ (kept : IsKept rs e) where
    -- the row of the entity gets the name
    rows_named : (rows : List Row) (k : ℕ) → entity_in rows k ≡ Some e → tally (is_row e) rows ≤ 1
        → set (map (row_renamed rs) rows) k (record (row_in k (map (row_renamed rs) rows)) { entity = d }) ≡ map (row_renamed more) rows
    rows_named [] k is few = absurd (none-some e is)
    rows_named (r ∷ qs) zero is few =
        let same = same_Some r.entity e is in
        ap₂ (λ (c : Entity) (ps : List Row). record r { entity = c } ∷ ps) (sym (renamed_last r.entity same kept))
        (lacks_same qs (none_lacks e qs (only_first (subst (λ b. one_if b + tally (is_row e) qs ≤ 1) (ap (same_entity e) same ∙ entity_self e) few))))
      where
        only_first : 1 + tally (is_row e) qs ≤ 1 → tally (is_row e) qs ≡ 0
        only_first f = omega arith
    rows_named (r ∷ qs) (suc k) is few =
        ap₂ (λ (c : Entity) (ps : List Row). record r { entity = c } ∷ ps) (sym (renamed_other r.entity (first_differs r.entity refl)))
        (rows_named qs k is (omega (arith, few)))
      where
        first_differs : (c : Entity) → r.entity ≡ c → c ≡ e → ⊥
        first_differs c was same =
            let f = subst (λ b. one_if b + tally (is_row e) qs ≤ 1) (ap (same_entity e) (was ∙ same) ∙ entity_self e) few in
            omega (arith, f, at_counts e qs k is)

    all_lack_same : (bs : List Numbered) → AllLack e bs → map (block_renamed rs) bs ≡ map (block_renamed more) bs
    all_lack_same [] lack = refl
    all_lack_same (b ∷ bs) lack =
        ap₂ (λ (qs : List Row) (cs : List Numbered). record b { block = record (b.block) { rows = qs } } ∷ cs) (lacks_same b.block.rows (lack b (inl refl))) (all_lack_same bs (λ c i. lack c (inr i)))

    numbers_stay : (bs : List Numbered) → numbers_of (map (block_renamed rs) bs) ≡ numbers_of bs
    numbers_stay [] = refl
    numbers_stay (b ∷ bs) = ap (λ (ns : List ℕ). b.number ∷ ns) (numbers_stay bs)

    blocks_named : (bs : List Numbered) (n k : ℕ) → AreDistinct (numbers_of bs) → AreOnceIn bs → entity_at bs n k ≡ Some e
        → with_block n (row_named k d) (map (block_renamed rs) bs) ≡ map (block_renamed more) bs
    blocks_named [] n k distinct once is = absurd (none-some e is)
    blocks_named (b ∷ bs) n k distinct once is = by (nat_eq b.number n) refl is (blocks_named bs n k distinct.1 (once_rest b bs once))
      where
        by : (t : Bool) → nat_eq b.number n ≡ t → option_map (λ (r : Row). r.entity) (cond t (slice_get b.block.rows k) (row_at bs n k)) ≡ Some e
            → (entity_at bs n k ≡ Some e → with_block n (row_named k d) (map (block_renamed rs) bs) ≡ map (block_renamed more) bs)
            → cond t (record (block_renamed rs b) { block = row_named k d (block_renamed rs b).block }) (block_renamed rs b) ∷ with_block n (row_named k d) (map (block_renamed rs) bs)
            ≡ map (block_renamed more) (b ∷ bs)
        by true here at rest =
            ap₂ (λ (qs : List Row) (cs : List Numbered). record b { block = record (b.block) { rows = qs } } ∷ cs) (rows_named b.block.rows k at (once_block e b bs (once e)))
            (block_none n (row_named k d) (map (block_renamed rs) bs)
            (λ i. distinct.0 (subst (λ m. In m (numbers_of bs)) (sym (eqb-true b.number n here)) (subst (In n) (numbers_stay bs) i)))
            ∙ all_lack_same bs (first_only e b bs k (once e) at))
        by false other at rest =
            ap₂ (λ (qs : List Row) (cs : List Numbered). record b { block = record (b.block) { rows = qs } } ∷ cs) (lacks_same b.block.rows (later_only e b bs n k (once e) at)) (rest at)

-- the number of a block is there where an entity is
pub number_there : (bs : List Numbered) (n k : ℕ) (e : Entity) → entity_at bs n k ≡ Some e → In n (numbers_of bs)
number_there bs n k e is = by (row_at bs n k) refl is
  where
    by : (o : Option Row) → row_at bs n k ≡ o → option_map (λ (r : Row). r.entity) o ≡ Some e → In n (numbers_of bs)
    by None at is = absurd (none-some e is)
    by (Some r) at is =
        let (b, i, number, got) = row_at_some bs n k r at in
        subst (λ m. In m (numbers_of bs)) number (number_in b bs i)

-- numbers of blocks behind others
pub behind_apart : (bs cs : List Numbered) → AreDistinct (numbers_of (bs ++ cs)) → (n : ℕ) → In n (numbers_of bs) → In n (numbers_of cs) → ⊥
behind_apart [] cs distinct n i j = absurd i
behind_apart (b ∷ bs) cs distinct n (inl is) j =
    distinct.0 (subst (In b.number) (sym (map_append (λ (c : Numbered). c.number) bs cs)) (behind (numbers_of bs) (subst (λ m. In m (numbers_of cs)) is j)))
  where
    behind : (ms : List ℕ) → In b.number (numbers_of cs) → In b.number (ms ++ numbers_of cs)
    behind [] j = j
    behind (m ∷ ms) j = inr (behind ms j)
behind_apart (b ∷ bs) cs distinct n (inr i) j = behind_apart bs cs distinct.1 n i j

pub behind_distinct : (bs cs : List Numbered) → AreDistinct (numbers_of (bs ++ cs)) → AreDistinct (numbers_of cs)
behind_distinct [] cs distinct = distinct
behind_distinct (b ∷ bs) cs distinct = behind_distinct bs cs distinct.1

-- ---- the rows of a walk, one after another

module _ (s : StoreState) (bs cs : List Numbered) (distinct : AreDistinct (numbers_of (bs ++ cs))) (once : AreOnceIn cs) where
  abbrev pub with_renamed : List Renaming → StoreState
  with_renamed rs = record s { blocks = bs ++ map (block_renamed rs) cs }

  one_named : (rs : List Renaming) (e d : Entity) (p : Place) → IsKept rs e → entity_at cs p.block p.row ≡ Some e
      → with_block p.block (row_named p.row d) (bs ++ map (block_renamed rs) cs) ≡ bs ++ map (block_renamed (more rs e d)) cs
  one_named rs e d p kept at =
      block_append p.block (row_named p.row d) bs (map (block_renamed rs) cs)
      ∙ ap₂ (λ (xs ys : List Numbered). xs ++ ys)
      (block_none p.block (row_named p.row d) bs (λ i. behind_apart bs cs distinct p.block i (number_there cs p.block p.row e at)))
      (blocks_named rs e d kept cs p.block p.row (behind_distinct bs cs distinct) once at)

  -- the rows at the places of a walk get the entities that are made
  pub walk_named : (xs : List (Entity × Place)) (t : Table) (rs : List Renaming) → ((x : Entity × Place) → In x xs → entity_at cs x.1.block x.1.row ≡ Some x.0)
      → AreOnce (map item_entity xs) → ((e : Entity) → In e (map item_entity xs) → IsKept rs e)
      → all_named (map place_of_item xs) t (with_renamed rs) ≡ with_renamed (rs ++ renamings (map item_entity xs) (ids_made (map place_of_item xs) t))
  walk_named [] t rs at alone kept = ap with_renamed (sym (nil_behind rs))
    where
      nil_behind : (qs : List Renaming) → qs ++ [] ≡ qs
      nil_behind [] = refl
      nil_behind (q ∷ qs) = ap (λ (ps : List Renaming). q ∷ ps) (nil_behind qs)
  walk_named ((e, p) ∷ xs) t rs at alone kept =
      let d = (given_by t).entity in
      ap (λ (zs : List Numbered). all_named (map place_of_item xs) (with_made t p) (record s { blocks = zs })) (one_named rs e d p (kept e (inl refl)) (at (e, p) (inl refl)))
      ∙ walk_named xs (with_made t p) (more rs e d) (λ x i. at x (inr i)) (once_later e (map item_entity xs) alone)
      (λ c i. kept_more rs e d c (kept c (inr i)) (apart c e (map item_entity xs) alone i))
      ∙ ap with_renamed (append_assoc rs ((record { from = e; to = d }) ∷ []) (renamings (map item_entity xs) (ids_made (map place_of_item xs) (with_made t p))))

-- ---- what the names are in the end

-- an entity that is renamed becomes the same, whatever becomes of others
pub renamed_same : (es ds : List Entity) → length es ≡ length ds → (e : Entity) → In e es → renamed_if (renamings es ds) e ≡ renamed (renamings es ds) e
renamed_same es ds long e i = found_one es ds long i
  where
    found_one : (es ds : List Entity) → length es ≡ length ds → In e es → renamed_if (renamings es ds) e ≡ renamed (renamings es ds) e
    found_one [] ds long i = absurd i
    found_one (c ∷ es) [] long i = absurd (omega (arith, long))
    found_one (c ∷ es) (d ∷ ds) long i = step (same_entity e c) refl i (found_one es ds (omega (arith, long)))
      where
        step : (b : Bool) → same_entity e c ≡ b → In e (c ∷ es) → (In e es → renamed_if (renamings es ds) e ≡ renamed (renamings es ds) e)
            → renamed_if (renamings (c ∷ es) (d ∷ ds)) e ≡ renamed (renamings (c ∷ es) (d ∷ ds)) e
        step true is i rest = here is ∙ sym (here_null is)
          where
            here : same_entity e c ≡ true → renamed_if (renamings (c ∷ es) (d ∷ ds)) e ≡ d
            here is = ap (λ b. unwrap_or (option_map (λ (r : Renaming). r.to) (cond b (Some (record { from = c; to = d })) (find (λ (r : Renaming). same_entity e r.from) (renamings es ds)))) e) is

            here_null : same_entity e c ≡ true → renamed (renamings (c ∷ es) (d ∷ ds)) e ≡ d
            here_null is = ap (λ b. unwrap_or (option_map (λ (r : Renaming). r.to) (cond b (Some (record { from = c; to = d })) (find (λ (r : Renaming). same_entity e r.from) (renamings es ds)))) null_entity) is
        step false is (inl same) rest = absurd (let never : true ≡ false = sym (entity_self c) ∙ (ap (λ a. same_entity a c) (sym same) ∙ is) in cc)
        step false is (inr j) rest =
            ap (λ b. unwrap_or (option_map (λ (r : Renaming). r.to) (cond b (Some (record { from = c; to = d })) (find (λ (r : Renaming). same_entity e r.from) (renamings es ds)))) e) is
            ∙ rest j
            ∙ sym (ap (λ b. unwrap_or (option_map (λ (r : Renaming). r.to) (cond b (Some (record { from = c; to = d })) (find (λ (r : Renaming). same_entity e r.from) (renamings es ds)))) null_entity) is)
