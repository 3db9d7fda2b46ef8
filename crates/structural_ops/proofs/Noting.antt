-- A table in which the rows of blocks were noted: each of their entities is at its row.
use Rattle.std.proofs.Common.{ℕ, zero, suc, ◌≡◌, ◌+◌, ◌<◌, ◌≤◌, ◌∙◌, ◌⊎◌, inl, inr, Bool, true, false, ◌&&◌, cond, nat_eq, refl, sym, ap, ap₂, subst, List, [], ◌∷◌, map, length, get_or, slice_get, count_by, Option, Some, None, is_some, option_map, arith}
use Rattle.std.proofs.lemmas.Bool.{eq-eqb, ne_eqb, eqb-true}
use Rattle.std.proofs.lemmas.List.Sums.{sum_by-cons}
use Rattle.std.proofs.lemmas.Option.{none-some, same_Some}
use Rattle.std.proofs.Math.Seq.{map-set_same}
use Rattle.ent_types.specs.declared.entity.Entity.{Entity}
use Rattle.entity_table.specs.declared.table.Place.{Place}
use Rattle.entity_table.specs.Table.{Holder, IsAlive, Table, alive_count, living, living_from, place_at, place_of, with_place}
use Rattle.entity_table.proofs.TableLemmas.{alive_at}
use Rattle.world_model.specs.Members.{AreDistinct, In, one_if, tally}
use Rattle.world_model.specs.Part.{same_entity}
use Rattle.world_model.specs.Row.{Row}
use Rattle.world_model.specs.Found.{is_of, placed, placed_in}
use Rattle.world_laws.proofs.Leaving.{is_row}
use Rattle.world_laws.proofs.Members.{tally_append}
use Rattle.world_laws.proofs.Renaming.{AreOnce}
use Rattle.world_laws.proofs.Same.{entity_is, entity_self}
use Rattle.std.specs.Bool.{MatchBool}
use Rattle.chunk_block.specs.Blocks.{BlockState}
use Rattle.archetype_store.specs.Stores.{Numbered, OfBlock}
use Rattle.world_places.specs.Placing.{entity_at, home_of, numbers_of, row_at, world_blocks}
use Rattle.world_places.proofs.Looking.{AllLack, place_is}
use Rattle.world_places.proofs.Numbers.{later_apart, of_both, of_member, of_more}
use Rattle.world_places.proofs.Rows.{Lacks, entity_in, tally_rows}
use Rattle.world_places.proofs.Tables.{entity_cases, place_rebinds}
use Rattle.structural_ops.specs.Attaching.{all_noted, rows_noted, rows_of}

-- ---- one entity

-- the version of the alive entity at each index
abbrev pub alive_versions : Table → List (Option ℕ)
alive_versions t = map (option_map (λ (h : Holder). h.version)) t.holders

pub alive_still : (t : Table) (e d : Entity) (p : Place) → IsAlive t e → IsAlive t d → IsAlive (with_place t e p) d
alive_still t e d p here there = by (entity_cases d e)
  where
    by : (d ≡ e) ⊎ (d ≡ e → ⊥) → IsAlive (with_place t e p) d
    by (inl same) = subst (λ a. IsAlive (with_place t e p) a) (sym same) (ap is_some (place_rebinds t e here p).there)
    by (inr apart) = ap is_some ((place_rebinds t e here p).others d apart) ∙ there

pub versions_stay : (t : Table) (e : Entity) (p : Place) → IsAlive t e → alive_versions (with_place t e p) ≡ alive_versions t
versions_stay t e p alive =
    let held = alive_at e.version (get_or t.holders e.index None) alive in
    map-set_same (option_map (λ (h : Holder). h.version)) t.holders e.index (Some (record { version = e.version; place = p })) None
    (sym (ap (option_map (λ (h : Holder). h.version)) held.1))

-- ---- the rows of a block

abbrev pub AllAlive : List Row → Table → Type 0
AllAlive rows t = (e : Entity) → In e (map (λ (r : Row). r.entity) rows) → IsAlive t e

rest_alive : (n k : ℕ) (r : Row) (rs : List Row) (t : Table) → AllAlive (r ∷ rs) t → AllAlive rs (with_place t r.entity (record { block = n; row = k }))
rest_alive n k r rs t all e i = alive_still t r.entity e (record { block = n; row = k }) (all r.entity (inl refl)) (all e (inr i))

pub rows_alive : (n k : ℕ) (rows : List Row) (t : Table) → AllAlive rows t → (d : Entity) → IsAlive t d → IsAlive (rows_noted n k rows t) d
rows_alive n k [] t all d alive = alive
rows_alive n k (r ∷ rs) t all d alive =
    rows_alive n (k + 1) rs (with_place t r.entity (record { block = n; row = k })) (rest_alive n k r rs t all) d
    (alive_still t r.entity d (record { block = n; row = k }) (all r.entity (inl refl)) alive)

rows_versions : (n k : ℕ) (rows : List Row) (t : Table) → AllAlive rows t → alive_versions (rows_noted n k rows t) ≡ alive_versions t
rows_versions n k [] t all = refl
rows_versions n k (r ∷ rs) t all =
    rows_versions n (k + 1) rs (with_place t r.entity (record { block = n; row = k })) (rest_alive n k r rs t all)
    ∙ versions_stay t r.entity (record { block = n; row = k }) (all r.entity (inl refl))

rows_others : (n k : ℕ) (rows : List Row) (t : Table) → AllAlive rows t → (e : Entity) → Lacks e rows → place_of (rows_noted n k rows t) e ≡ place_of t e
rows_others n k [] t all e lacks = refl
rows_others n k (r ∷ rs) t all e lacks =
    rows_others n (k + 1) rs (with_place t r.entity (record { block = n; row = k })) (rest_alive n k r rs t all) e (λ j is. lacks (suc j) is)
    ∙ (place_rebinds t r.entity (all r.entity (inl refl)) (record { block = n; row = k })).others e (λ same. lacks 0 (ap Some (sym same)))

its_row : (e : Entity) (r : Row) → r.entity ≡ e → is_row e r ≡ true
its_row e r same = ap (same_entity e) same ∙ entity_self e

pub at_counts : (e : Entity) (rows : List Row) (j : ℕ) → entity_in rows j ≡ Some e → 1 ≤ tally (is_row e) rows
at_counts e [] j is = absurd (none-some e is)
at_counts e (r ∷ rs) zero is = subst (λ b. 1 ≤ one_if b + tally (is_row e) rs) (sym (its_row e r (same_Some r.entity e is))) (omega arith)
at_counts e (r ∷ rs) (suc j) is = let rest = at_counts e rs j is in omega arith

pub none_lacks : (e : Entity) (rows : List Row) → tally (is_row e) rows ≡ 0 → Lacks e rows
none_lacks e rows none j is = let some = at_counts e rows j is in omega arith

rows_there : (n k : ℕ) (rows : List Row) (t : Table) → AllAlive rows t → (e : Entity) (j : ℕ) → entity_in rows j ≡ Some e → tally (is_row e) rows ≤ 1
    → place_of (rows_noted n k rows t) e ≡ Some (record { block = n; row = k + j })
rows_there n k [] t all e j is few = absurd (none-some e is)
rows_there n k (r ∷ rs) t all e zero is few =
    let same = same_Some r.entity e is in
    let p : Place = record { block = n; row = k } in
    let none = only_first (subst (λ b. one_if b + tally (is_row e) rs ≤ 1) (its_row e r same) few) in
    rows_others n (k + 1) rs (with_place t r.entity p) (rest_alive n k r rs t all) e (none_lacks e rs none)
    ∙ subst (λ d. place_of (with_place t r.entity p) d ≡ Some p) same (place_rebinds t r.entity (all r.entity (inl refl)) p).there
    ∙ ap (λ i. let q : Place = record { block = n; row = i } in Some q) (plus_none k)
  where
    only_first : 1 + tally (is_row e) rs ≤ 1 → tally (is_row e) rs ≡ 0
    only_first f = omega arith

    plus_none : (k : ℕ) → k ≡ k + 0
    plus_none k = omega arith
rows_there n k (r ∷ rs) t all e (suc j) is few =
    rows_there n (k + 1) rs (with_place t r.entity (record { block = n; row = k })) (rest_alive n k r rs t all) e j is (omega (arith, few))
    ∙ ap (λ i. let q : Place = record { block = n; row = i } in Some q) (one_less k j)
  where
    one_less : (k j : ℕ) → (k + 1) + j ≡ k + suc j
    one_less k j = omega arith

-- ---- the rows of blocks

-- the table after the rows of these blocks were noted
abbrev pub noted : List Numbered → Table → Table
noted [] t = t
noted (b ∷ bs) t = noted bs (rows_noted b.number 0 b.block.rows t)

pub rows_of_in : (blocks : List Numbered) → AreDistinct (numbers_of blocks) → (b : Numbered) → In b blocks → rows_of b.number blocks ≡ b.block.rows
rows_of_in [] distinct b i = absurd i
rows_of_in (c ∷ cs) distinct b (inl is) =
    ap (λ t. cond t c.block.rows (rows_of b.number cs)) (eq-eqb c.number b.number (ap (λ (d : Numbered). d.number) (sym is))) ∙ ap (λ (d : Numbered). d.block.rows) (sym is)
rows_of_in (c ∷ cs) distinct b (inr i) =
    ap (λ t. cond t c.block.rows (rows_of b.number cs)) (ne_eqb c.number b.number (later_apart c cs distinct b i)) ∙ rows_of_in cs distinct.1 b i

pub noted_is : (blocks bs : List Numbered) (t : Table) → ((b : Numbered) → In b bs → rows_of b.number blocks ≡ b.block.rows) → all_noted blocks (numbers_of bs) t ≡ noted bs t
noted_is blocks [] t rows = refl
noted_is blocks (b ∷ bs) t rows =
    ap (λ (rs : List Row). all_noted blocks (numbers_of bs) (rows_noted b.number 0 rs t)) (rows b (inl refl))
    ∙ noted_is blocks bs (rows_noted b.number 0 b.block.rows t) (λ c i. rows c (inr i))

abbrev pub BlocksAlive : List Numbered → Table → Type 0
BlocksAlive bs t = (b : Numbered) → In b bs → AllAlive b.block.rows t

abbrev pub AreOnceIn : List Numbered → Type 0
AreOnceIn bs = (e : Entity) → tally (is_of e) (placed (world_blocks bs)) ≤ 1

-- where the rows of blocks are after they were noted
pub record Notes (bs : List Numbered) (old new : Table) : Type 0 where
  pub there : (e : Entity) (p : Place) → entity_at bs p.block p.row ≡ Some e → place_of new e ≡ Some p
  pub others : (e : Entity) → AllLack e bs → place_of new e ≡ place_of old e
  pub versions : alive_versions new ≡ alive_versions old

block_tally : (e : Entity) (b : Numbered) (bs : List Numbered) → tally (is_of e) (placed (world_blocks (b ∷ bs))) ≡ tally (is_row e) b.block.rows + tally (is_of e) (placed (world_blocks bs))
block_tally e b bs =
    tally_append (is_of e) (placed_in (home_of b) b.block.rows) (placed (world_blocks bs))
    ∙ ap (λ n. n + tally (is_of e) (placed (world_blocks bs))) (tally_rows e (home_of b) b.block.rows)

pub none_all_lack : (e : Entity) (bs : List Numbered) → tally (is_of e) (placed (world_blocks bs)) ≡ 0 → AllLack e bs
none_all_lack e [] none b i = absurd i
none_all_lack e (b ∷ bs) none c (inl is) = subst (λ (d : Numbered). Lacks e d.block.rows) (sym is) (none_lacks e b.block.rows (omega (arith, block_tally e b bs, none)))
none_all_lack e (b ∷ bs) none c (inr i) = none_all_lack e bs (omega (arith, block_tally e b bs, none)) c i

-- a row of an entity counts
pub there_counts : (e : Entity) (bs : List Numbered) (n k : ℕ) → entity_at bs n k ≡ Some e → 1 ≤ tally (is_of e) (placed (world_blocks bs))
there_counts e [] n k is = absurd (none-some e is)
there_counts e (b ∷ bs) n k is = by (nat_eq b.number n) is (there_counts e bs n k)
  where
    by : (t : Bool) → option_map (λ (r : Row). r.entity) (cond t (slice_get b.block.rows k) (row_at bs n k)) ≡ Some e
        → (entity_at bs n k ≡ Some e → 1 ≤ tally (is_of e) (placed (world_blocks bs))) → 1 ≤ tally (is_of e) (placed (world_blocks (b ∷ bs)))
    by true at rest = omega (arith, block_tally e b bs, at_counts e b.block.rows k at)
    by false at rest = omega (arith, block_tally e b bs, rest at)

pub once_block : (e : Entity) (b : Numbered) (bs : List Numbered) → tally (is_of e) (placed (world_blocks (b ∷ bs))) ≤ 1 → tally (is_row e) b.block.rows ≤ 1
once_block e b bs few = omega (arith, block_tally e b bs, few)

pub once_rest : (b : Numbered) (bs : List Numbered) → AreOnceIn (b ∷ bs) → AreOnceIn bs
once_rest b bs once e = omega (arith, block_tally e b bs, once e)

-- an entity with a row in the first block has none in the others
pub first_only : (e : Entity) (b : Numbered) (bs : List Numbered) (k : ℕ) → tally (is_of e) (placed (world_blocks (b ∷ bs))) ≤ 1 → entity_in b.block.rows k ≡ Some e → AllLack e bs
first_only e b bs k few is = none_all_lack e bs (omega (arith, block_tally e b bs, few, at_counts e b.block.rows k is))

-- and the other way round
pub later_only : (e : Entity) (b : Numbered) (bs : List Numbered) (n k : ℕ) → tally (is_of e) (placed (world_blocks (b ∷ bs))) ≤ 1 → entity_at bs n k ≡ Some e → Lacks e b.block.rows
later_only e b bs n k few is = none_lacks e b.block.rows (omega (arith, block_tally e b bs, few, there_counts e bs n k is))

pub notes : (bs : List Numbered) (t : Table) → BlocksAlive bs t → AreDistinct (numbers_of bs) → AreOnceIn bs → Notes bs t (noted bs t)
notes [] t alive distinct once = record { there = λ e p is. absurd (none-some e is); others = λ e lacks. refl; versions = refl }
notes (b ∷ bs) t alive distinct once =
    step
    (notes bs (rows_noted b.number 0 b.block.rows t) (λ c i e j. rows_alive b.number 0 b.block.rows t (alive b (inl refl)) e (alive c (inr i) e j)) distinct.1
    (once_rest b bs once))
  where
    no_more : (k : ℕ) → 0 + k ≡ k
    no_more k = omega arith

    step : Notes bs (rows_noted b.number 0 b.block.rows t) (noted bs (rows_noted b.number 0 b.block.rows t)) → Notes (b ∷ bs) t (noted bs (rows_noted b.number 0 b.block.rows t))
    step rest = record {
      there = λ e p is. by e p (nat_eq b.number p.block) refl is;
      others = λ e lacks. rest.others e (λ c i. lacks c (inr i)) ∙ rows_others b.number 0 b.block.rows t (alive b (inl refl)) e (lacks b (inl refl));
      versions = rest.versions ∙ rows_versions b.number 0 b.block.rows t (alive b (inl refl));
    }
      where
        by : (e : Entity) (p : Place) (c : Bool) → nat_eq b.number p.block ≡ c
            → option_map (λ (r : Row). r.entity) (cond c (slice_get b.block.rows p.row) (row_at bs p.block p.row)) ≡ Some e
            → place_of (noted bs (rows_noted b.number 0 b.block.rows t)) e ≡ Some p
        by e p true same is =
            rest.others e (first_only e b bs p.row (once e) is)
            ∙ rows_there b.number 0 b.block.rows t (alive b (inl refl)) e p.row is (once_block e b bs (once e))
            ∙ ap Some (sym (place_is p b.number (0 + p.row) (sym (eqb-true b.number p.block same)) (sym (no_more p.row))))
        by e p false other is = rest.there e p is

-- ---- the walk over the alive entities

-- the alive entities by rising index, from these versions on
abbrev pub walk : ℕ → List (Option ℕ) → List Entity
walk index [] = []
walk index (None ∷ vs) = walk (index + 1) vs
walk index (Some v ∷ vs) = (record { index = index; version = v }) ∷ walk (index + 1) vs

abbrev pub item_entity : Entity × Place → Entity
item_entity x = x.0

walk_is : (index : ℕ) (os : List (Option Holder)) → map item_entity (living_from index os) ≡ walk index (map (option_map (λ (h : Holder). h.version)) os)
walk_is index [] = refl
walk_is index (None ∷ os) = walk_is (index + 1) os
walk_is index (Some h ∷ os) = ap (λ (es : List Entity). (record { index = index; version = h.version }) ∷ es) (walk_is (index + 1) os)

-- tables with the same alive entities have the same walk, but for the places
pub same_walk : (old new : Table) → alive_versions new ≡ alive_versions old → map item_entity (living new) ≡ map item_entity (living old)
same_walk old new same = walk_is 0 new.holders ∙ ap (walk 0) same ∙ sym (walk_is 0 old.holders)

-- what a walk gives has a place
walk_places : (index : ℕ) (os : List (Option Holder)) (x : Entity × Place) → In x (living_from index os)
    → (k : ℕ) × (x.0.index ≡ index + k) × (place_at x.0.version (get_or os k None) ≡ Some x.1)
walk_places index [] x i = absurd i
walk_places index (None ∷ os) x i = let (k, at, is) = walk_places (index + 1) os x i in (suc k, one_more k at, is)
  where
    one_more : (k : ℕ) → x.0.index ≡ (index + 1) + k → x.0.index ≡ index + suc k
    one_more k at = omega arith
walk_places index (Some h ∷ os) x (inl same) = (
  0,
  ap (λ (y : Entity × Place). y.0.index) same ∙ plus_none index,
  ap (λ (y : Entity × Place). place_at y.0.version (Some h)) same
      ∙ (ap (λ t. cond t (Some h.place) None) (eq-eqb h.version h.version refl) ∙ ap (λ (y : Entity × Place). Some y.1) (sym same)),
)
  where
    plus_none : (k : ℕ) → k ≡ k + 0
    plus_none k = omega arith
walk_places index (Some h ∷ os) x (inr i) = let (k, at, is) = walk_places (index + 1) os x i in (suc k, one_more k at, is)
  where
    one_more : (k : ℕ) → x.0.index ≡ (index + 1) + k → x.0.index ≡ index + suc k
    one_more k at = omega arith

pub walked_place : (t : Table) (x : Entity × Place) → In x (living t) → place_of t x.0 ≡ Some x.1
walked_place t x i =
    let (k, at, is) = walk_places 0 t.holders x i in
    ap (λ j. place_at x.0.version (get_or t.holders j None)) (omega (arith, at)) ∙ is

-- and what has a place is in the walk
place_walked : (index : ℕ) (os : List (Option Holder)) (e : Entity) (p : Place) (k : ℕ) → e.index ≡ index + k → place_at e.version (get_or os k None) ≡ Some p
    → In (e, p) (living_from index os)
place_walked index [] e p k at is = absurd (none-some p is)
place_walked index (None ∷ os) e p zero at is = absurd (none-some p is)
place_walked index (None ∷ os) e p (suc k) at is = place_walked (index + 1) os e p k (omega (arith, at)) is
place_walked index (Some h ∷ os) e p zero at is = inl (held (alive_at e.version (Some h) (ap is_some is)))
  where
    item : Entity → Place → Entity × Place
    item d o = (d, o)

    held : ((q : Place) × (Some h ≡ Some (record { version = e.version; place = q }))) → item e p ≡ item (record { index = index; version = h.version }) h.place
    held (q, same) =
        let version : h.version ≡ e.version = ap (λ (g : Holder). g.version) (same_Some h (record { version = e.version; place = q }) same) in
        let place : h.place ≡ p = same_Some h.place p (ap (λ t. cond t (Some h.place) None) (sym (eq-eqb h.version e.version version)) ∙ is) in
        let index_is : e.index ≡ index = omega (arith, at) in
        ap₂ item (ap₂ (λ (i v : ℕ). let d : Entity = record { index = i; version = v } in d) index_is (sym version)) (sym place)
place_walked index (Some h ∷ os) e p (suc k) at is = inr (place_walked (index + 1) os e p k (omega (arith, at)) is)

pub placed_walked : (t : Table) (e : Entity) (p : Place) → place_of t e ≡ Some p → In (e, p) (living t)
placed_walked t e p is = place_walked 0 t.holders e p e.index (omega arith) is

-- as many entities as are alive
walk_long : (index : ℕ) (os : List (Option Holder)) → length (living_from index os) ≡ count_by is_some os
walk_long index [] = refl
walk_long index (None ∷ os) = omega (arith, walk_long (index + 1) os, sum_by-cons (λ (o : Option Holder). cond (is_some o) 1 0) None os)
walk_long index (Some h ∷ os) = omega (arith, walk_long (index + 1) os, sum_by-cons (λ (o : Option Holder). cond (is_some o) 1 0) (Some h) os)

pub walked_count : (t : Table) → length (living t) ≡ alive_count t
walked_count t = walk_long 0 t.holders

-- each entity is there once
walk_past : (index : ℕ) (vs : List (Option ℕ)) (e : Entity) → e.index < index → tally (same_entity e) (walk index vs) ≡ 0
walk_past index [] e below = refl
walk_past index (None ∷ vs) e below = walk_past (index + 1) vs e (omega arith)
walk_past index (Some v ∷ vs) e below =
    subst (λ b. one_if (b && nat_eq e.version v) + tally (same_entity e) (walk (index + 1) vs) ≡ 0) (sym (ne_eqb e.index index (λ same. omega (arith, below, same))))
    (none (walk_past (index + 1) vs e (omega arith)))
  where
    none : tally (same_entity e) (walk (index + 1) vs) ≡ 0 → 0 + tally (same_entity e) (walk (index + 1) vs) ≡ 0
    none is = omega arith

walk_once : (index : ℕ) (vs : List (Option ℕ)) → AreOnce (walk index vs)
walk_once index [] e = omega arith
walk_once index (None ∷ vs) e = walk_once (index + 1) vs e
walk_once index (Some v ∷ vs) e = by (same_entity e (record { index = index; version = v })) refl (walk_once (index + 1) vs e)
  where
    by : (b : Bool) → same_entity e (record { index = index; version = v }) ≡ b → tally (same_entity e) (walk (index + 1) vs) ≤ 1 → one_if b + tally (same_entity e) (walk (index + 1) vs) ≤ 1
    by true is few =
        let same = ap (λ (d : Entity). d.index) (entity_is e (record { index = index; version = v }) is) in
        let none = walk_past (index + 1) vs e (omega (arith, same)) in
        omega arith
    by false is few = omega arith

-- a shorter list of entities that are there once
pub once_later : (e : Entity) (es : List Entity) → AreOnce (e ∷ es) → AreOnce es
once_later e es once d = let o = once d in omega arith

pub walked_once : (t : Table) → AreOnce (map item_entity (living t))
walked_once t = subst AreOnce (sym (walk_is 0 t.holders)) (walk_once 0 (alive_versions t))

-- ---- of a block that was got by its number

pub rows_got : (n : ℕ) (x : BlockState) (bs : List Numbered) → OfBlock n (λ b. x ≡ b) bs → rows_of n bs ≡ x.rows
rows_got n x [] of = absurd of
rows_got n x (b ∷ bs) of = by (nat_eq b.number n) of (rows_got n x bs)
  where
    by : (t : Bool) → MatchBool t (x ≡ b.block) (OfBlock n (λ c. x ≡ c) bs) → (OfBlock n (λ c. x ≡ c) bs → rows_of n bs ≡ x.rows) → cond t b.block.rows (rows_of n bs) ≡ x.rows
    by true same rest = ap (λ (c : BlockState). c.rows) (sym same)
    by false later rest = rest later

pub rows_got_alive : (n : ℕ) (x : BlockState) (t : Table) (bs : List Numbered) → OfBlock n (λ b. x ≡ b) bs → OfBlock n (λ b. AllAlive b.rows t) bs → AllAlive x.rows t
rows_got_alive n x t bs of alive =
    let (b, i, number, all) =
    of_member n (λ _. AllAlive x.rows t) bs
    (of_both n (λ b. x ≡ b.block) (λ b. AllAlive b.block.rows t) (λ _. AllAlive x.rows t) bs (λ b same holds. subst (λ (c : BlockState). AllAlive c.rows t) (sym same) holds) of alive) in
    all

-- rows of another block stay alive
pub others_alive : (n : ℕ) (rows : List Row) (t : Table) → AllAlive rows t → (m : ℕ) (bs : List Numbered) → OfBlock m (λ b. AllAlive b.rows t) bs → OfBlock m (λ b. AllAlive b.rows (rows_noted n 0 rows t)) bs
others_alive n rows t all m bs of =
    of_more m (λ b. AllAlive b.block.rows t) (λ b. AllAlive b.block.rows (rows_noted n 0 rows t)) bs (λ b alive e i. rows_alive n 0 rows t all e (alive e i)) of
