-- Rows that operations make of what was read of a row.
use Rattle.std.proofs.Common.{ℕ, ◌≡◌, ◌≢◌, ◌⊎◌, ◌<◌, ◌∙◌, ◌&&◌, inl, inr, Bool, true, false, not, cond, nat_eq, nat_lt, sym, ap, ap₂, refl, subst, List, [], ◌∷◌, map, filter, arith}
use Rattle.std.proofs.lemmas.Bool.{eq-eqb, eqb-true, ltb-true}
use Rattle.ent_types.specs.declared.type_info.TypeInfo.{TypeInfo}
use Rattle.ent_types.specs.declared.value.Value.{Value}
use Rattle.ent_types.specs.TypeLookups.{is_shared_at}
use Rattle.ent_types.specs.TypeSets.{has_type, with_type}
use Rattle.world_model.specs.Members.{In, IsRising, AreDistinct}
use Rattle.world_model.specs.Part.{PartOf, part_type, with_typed, by_type}
use Rattle.world_model.specs.Row.{Cell, cell_type, cell_of}
use Rattle.world_model.specs.World.{Home}
use Rattle.world_model.specs.Found.{Found}
use Rattle.world_model.specs.Lawful.{IsLawfulRow}
use Rattle.world_model.specs.Operations.{home_kept, cells_kept, home_with, home_with_shared, home_of, cells_of}
use Rattle.world_laws.proofs.Members.{filter_swap, map_filter, map_in, in_filter}
use Rattle.world_laws.proofs.Types.{filter_rising, with_in, with_out, typed_types, in_typed, in_by_type}
use Rattle.world_laws.proofs.NodeRows.{in_has}
use Rattle.chunk_block.specs.Blocks.{is_off}
use Rattle.archetype_store.specs.Stores.{shared_types}
use Rattle.world_rows.specs.Rows.{values_at, own_types, cell_from, cells_from, part_from, home_from, part_in}
use Rattle.world_rows.specs.Types.{set_of, home_taking}
use Rattle.world_rows.proofs.Reading.{cells_are, parts_are, values_behind, values_first, cell_own, cell_type_there, part_type_there, cell_read, part_read, cell_off}

-- a member of parts with one more is that one, or is of another type
typed_from : (p q : PartOf Value) (ps : List (PartOf Value)) → IsRising (map part_type ps) → In q (with_typed part_type p ps) → (q ≡ p) ⊎ (In q ps × (p.type_id ≢ q.type_id))
typed_from p q [] rising (inl e) = inl e
typed_from p q [] rising (inr i) = absurd i
typed_from p q (r ∷ rs) rising i = by (nat_lt p.type_id r.type_id) refl i (typed_from p q rs rising.1)
  where
    above : (q : PartOf Value) → In q rs → r.type_id < q.type_id
    above q j = rising.0 q.type_id (map_in part_type q rs j)

    Rest : Type 0
    Rest = In q (with_typed part_type p rs) → (q ≡ p) ⊎ (In q rs × (p.type_id ≢ q.type_id))

    same_or : (b : Bool) → nat_eq r.type_id p.type_id ≡ b → nat_lt p.type_id r.type_id ≡ false → In q (cond b (p ∷ rs) (r ∷ with_typed part_type p rs)) → Rest
        → (q ≡ p) ⊎ (In q (r ∷ rs) × (p.type_id ≢ q.type_id))
    same_or true e less (inl f) rest = inl f
    same_or true e less (inr j) rest = let up = above q j in let same = eqb-true r.type_id p.type_id e in inr (inr j, λ f. omega (arith, up, same, f))
    same_or false e less (inl f) rest = inr (inl f, λ g. absurd (cc (sym (eq-eqb r.type_id p.type_id (sym (g ∙ ap part_type f))) ∙ e)))
    same_or false e less (inr j) rest = behind (rest j)
      where
        behind : (q ≡ p) ⊎ (In q rs × (p.type_id ≢ q.type_id)) → (q ≡ p) ⊎ (In q (r ∷ rs) × (p.type_id ≢ q.type_id))
        behind (inl f) = inl f
        behind (inr k) = inr (inr k.0, k.1)

    by : (b : Bool) → nat_lt p.type_id r.type_id ≡ b → In q (cond b (p ∷ r ∷ rs) (cond (nat_eq r.type_id p.type_id) (p ∷ rs) (r ∷ with_typed part_type p rs)))
        → Rest → (q ≡ p) ⊎ (In q (r ∷ rs) × (p.type_id ≢ q.type_id))
    by true less (inl f) rest = inl f
    by true less (inr (inl f)) rest = let under = ltb-true p.type_id r.type_id less in inr (inl f, λ g. omega (arith, under, g, ap part_type f))
    by true less (inr (inr j)) rest = let under = ltb-true p.type_id r.type_id less in let up = above q j in inr (inr j, λ g. omega (arith, under, up, g))
    by false less j rest = same_or (nat_eq r.type_id p.type_id) refl less j rest

abbrev is_own : List TypeInfo → ℕ → Bool
is_own registry t = not (is_shared_at registry t)

cell_is : (parts : List (PartOf Value)) (off : List ℕ) (c : Cell) → values_at c.type_id parts ≡ c.values → has_type off c.type_id ≡ c.off → cell_from parts off c.type_id ≡ c
cell_is parts off c values bit = ap₂ (λ vs b. let d : Cell = record { type_id = c.type_id; values = vs; off = b } in d) values bit

part_is : (parts : List (PartOf Value)) (p : PartOf Value) → values_at p.type_id parts ≡ p.values → part_from parts p.type_id ≡ p
part_is parts p values = ap (λ vs. let q : PartOf Value = record { type_id = p.type_id; values = vs } in q) values

module _ (registry : List TypeInfo) (x : Found) (lawful : IsLawfulRow registry x) where
  -- ---- some of the types

  module _ (keeps : ℕ → Bool) (ts : List ℕ) (are : ts ≡ filter keeps x.home.types) where
    pub kept_home : home_from registry ts (map (part_in x) ts) ≡ home_kept keeps x.home
    kept_home =
        ap₂ (λ us ps. let h : Home = record { types = us; shared = ps } in h) are
        (ap (map (part_from (map (part_in x) ts))) types
        ∙ parts_are (map (part_in x) ts) (filter (λ (p : PartOf Value). keeps p.type_id) x.home.shared) each)
      where
        types : shared_types registry ts ≡ map part_type (filter (λ (p : PartOf Value). keeps p.type_id) x.home.shared)
        types =
            ap (filter (is_shared_at registry)) are ∙ filter_swap (is_shared_at registry) keeps x.home.types ∙ ap (filter keeps) (sym lawful.home.shared)
            ∙ sym (map_filter part_type keeps x.home.shared)

        each : (p : PartOf Value) → In p (filter (λ (p : PartOf Value). keeps p.type_id) x.home.shared) → part_from (map (part_in x) ts) p.type_id ≡ p
        each p i =
            part_is (map (part_in x) ts) p
            (part_read registry x lawful p ts (in_filter (λ (q : PartOf Value). keeps q.type_id) p x.home.shared i)
            (in_filter (is_shared_at registry) p.type_id ts (subst (In p.type_id) (sym types) (map_in part_type p (filter (λ (q : PartOf Value). keeps q.type_id) x.home.shared) i))))

    pub kept_cells : (off : List ℕ) → ((t : ℕ) → has_type off t ≡ (has_type ts t && is_off t x.row)) → cells_from registry ts (map (part_in x) ts) off ≡ cells_kept keeps x.row.cells
    kept_cells off bits =
        ap (map (cell_from (map (part_in x) ts) off)) types ∙ cells_are (map (part_in x) ts) off (filter (λ (c : Cell). keeps c.type_id) x.row.cells) each
      where
        types : own_types registry ts ≡ map cell_type (filter (λ (c : Cell). keeps c.type_id) x.row.cells)
        types =
            ap (filter (is_own registry)) are ∙ filter_swap (is_own registry) keeps x.home.types ∙ ap (filter keeps) (sym lawful.cells.types_are)
            ∙ sym (map_filter cell_type keeps x.row.cells)

        each : (c : Cell) → In c (filter (λ (c : Cell). keeps c.type_id) x.row.cells) → cell_from (map (part_in x) ts) off c.type_id ≡ c
        each c i =
            let there : In c.type_id ts = in_filter (is_own registry) c.type_id ts (subst (In c.type_id) (sym types) (map_in cell_type c (filter (λ (d : Cell). keeps d.type_id) x.row.cells) i)) in
            let own : In c x.row.cells = in_filter (λ (d : Cell). keeps d.type_id) c x.row.cells i in
            cell_is (map (part_in x) ts) off c (cell_read registry x lawful c ts own there)
            (bits c.type_id ∙ ap (λ b. b && is_off c.type_id x.row) (in_has c.type_id ts there) ∙ cell_off registry x lawful c own)

  -- ---- one part more, or another one

  module _ (p : PartOf Value) (off : List ℕ) (bits : (t : ℕ) → has_type off t ≡ (has_type x.home.types t && is_off t x.row)) where
    abbrev parts : List (PartOf Value)
    parts = p ∷ map (part_in x) x.home.types

    shared_each : (q : PartOf Value) → (q ≡ p) ⊎ (In q x.home.shared × (p.type_id ≢ q.type_id)) → part_from (p ∷ map (part_in x) x.home.types) q.type_id ≡ q
    shared_each q (inl e) = ap (λ r. part_from parts r.type_id) e ∙ part_is parts p (values_first p (map (part_in x) x.home.types)) ∙ sym e
    shared_each q (inr i) =
        part_is parts q (values_behind q.type_id p (map (part_in x) x.home.types) i.1 ∙ part_read registry x lawful q x.home.types i.0 (part_type_there registry x lawful q i.0))

    cell_each : (c : Cell) → In c x.row.cells → p.type_id ≢ c.type_id → cell_from (p ∷ map (part_in x) x.home.types) off c.type_id ≡ c
    cell_each c i apart =
        let there : In c.type_id x.home.types = cell_type_there registry x lawful c i in
        cell_is parts off c (values_behind c.type_id p (map (part_in x) x.home.types) apart ∙ cell_read registry x lawful c x.home.types i there)
        (bits c.type_id ∙ ap (λ b. b && is_off c.type_id x.row) (in_has c.type_id x.home.types there) ∙ cell_off registry x lawful c i)

    -- a shared part
    taken_shared : is_shared_at registry p.type_id ≡ true → home_from registry (with_type x.home.types p.type_id) (p ∷ map (part_in x) x.home.types) ≡ home_with_shared p x.home
    taken_shared is =
        ap (λ (ps : List (PartOf Value)). let h : Home = record { types = with_type x.home.types p.type_id; shared = ps } in h)
        (ap (map (part_from parts)) types ∙ parts_are parts (with_typed part_type p x.home.shared) (λ q i. shared_each q (where_from q i)))
      where
        types : shared_types registry (with_type x.home.types p.type_id) ≡ map part_type (with_typed part_type p x.home.shared)
        types =
            with_in (is_shared_at registry) p.type_id x.home.types lawful.home.types is ∙ ap (λ us. with_type us p.type_id) (sym lawful.home.shared)
            ∙ sym (typed_types part_type p x.home.shared)

        where_from : (q : PartOf Value) → In q (with_typed part_type p x.home.shared) → (q ≡ p) ⊎ (In q x.home.shared × (p.type_id ≢ q.type_id))
        where_from q i = typed_from p q x.home.shared (shared_rises) i
          where
            shared_rises : IsRising (map part_type x.home.shared)
            shared_rises = subst IsRising (sym lawful.home.shared) (filter_rising (is_shared_at registry) x.home.types lawful.home.types)

    taken_shared_cells : is_shared_at registry p.type_id ≡ true → cells_from registry (with_type x.home.types p.type_id) (p ∷ map (part_in x) x.home.types) off ≡ x.row.cells
    taken_shared_cells is =
        ap (map (cell_from parts off)) (with_out (is_own registry) p.type_id x.home.types (ap not is) ∙ sym lawful.cells.types_are)
        ∙ cells_are parts off x.row.cells (λ c i. cell_each c i (λ e. absurd (cc (sym is ∙ ap (is_shared_at registry) e ∙ cell_own registry x lawful c i))))

    -- a part of a type that isn't shared and wasn't there
    module _ (own : is_shared_at registry p.type_id ≡ false) (lacks : has_type x.home.types p.type_id ≡ false) where
      absent : (t : ℕ) → In t x.home.types → p.type_id ≢ t
      absent t i e = absurd (cc (sym (in_has t x.home.types i) ∙ ap (has_type x.home.types) (sym e) ∙ lacks))

      taken_own : home_from registry (with_type x.home.types p.type_id) (p ∷ map (part_in x) x.home.types) ≡ home_with p.type_id x.home
      taken_own =
          ap (λ (ps : List (PartOf Value)). let h : Home = record { types = with_type x.home.types p.type_id; shared = ps } in h)
          (ap (map (part_from parts)) (with_out (is_shared_at registry) p.type_id x.home.types own ∙ sym lawful.home.shared)
          ∙ parts_are parts x.home.shared (λ q i. shared_each q (inr (i, absent q.type_id (part_type_there registry x lawful q i)))))

      taken_own_cells : cells_from registry (with_type x.home.types p.type_id) (p ∷ map (part_in x) x.home.types) off ≡ with_typed cell_type (cell_of p) x.row.cells
      taken_own_cells =
          ap (map (cell_from parts off)) types ∙ cells_are parts off (with_typed cell_type (cell_of p) x.row.cells) (λ c i. each c (in_typed cell_type (cell_of p) c x.row.cells i))
        where
          types : own_types registry (with_type x.home.types p.type_id) ≡ map cell_type (with_typed cell_type (cell_of p) x.row.cells)
          types =
              with_in (is_own registry) p.type_id x.home.types lawful.home.types (ap not own) ∙ ap (λ us. with_type us p.type_id) (sym lawful.cells.types_are)
              ∙ sym (typed_types cell_type (cell_of p) x.row.cells)

          each : (c : Cell) → (c ≡ cell_of p) ⊎ In c x.row.cells → cell_from parts off c.type_id ≡ c
          each c (inl e) =
              ap (λ (d : Cell). cell_from parts off d.type_id) e
              ∙ cell_is parts off (cell_of p) (values_first p (map (part_in x) x.home.types)) (bits p.type_id ∙ ap (λ b. b && is_off p.type_id x.row) lacks)
              ∙ sym e
          each c (inr i) = cell_each c i (absent c.type_id (cell_type_there registry x lawful c i))

    -- either
    pub taken_home : (is_shared_at registry p.type_id ≡ true) ⊎ (has_type x.home.types p.type_id ≡ false)
        → home_from registry (with_type x.home.types p.type_id) (p ∷ map (part_in x) x.home.types) ≡ home_taking registry p x.home
    taken_home may = by (is_shared_at registry p.type_id) refl may
      where
        by : (b : Bool) → is_shared_at registry p.type_id ≡ b → (b ≡ true) ⊎ (has_type x.home.types p.type_id ≡ false)
            → home_from registry (with_type x.home.types p.type_id) (p ∷ map (part_in x) x.home.types) ≡ cond b (home_with_shared p x.home) (home_with p.type_id x.home)
        by true e m = taken_shared e
        by false e (inl not_so) = absurd (cc not_so)
        by false e (inr lacks) = taken_own e lacks

    pub taken_row : (is_shared_at registry p.type_id ≡ true) ⊎ (has_type x.home.types p.type_id ≡ false)
        → cells_from registry (with_type x.home.types p.type_id) (p ∷ map (part_in x) x.home.types) off
        ≡ cond (is_shared_at registry p.type_id) x.row.cells (with_typed cell_type (cell_of p) x.row.cells)
    taken_row may = by (is_shared_at registry p.type_id) refl may
      where
        by : (b : Bool) → is_shared_at registry p.type_id ≡ b → (b ≡ true) ⊎ (has_type x.home.types p.type_id ≡ false)
            → cells_from registry (with_type x.home.types p.type_id) (p ∷ map (part_in x) x.home.types) off ≡ cond b x.row.cells (with_typed cell_type (cell_of p) x.row.cells)
        by true e m = taken_shared_cells e
        by false e (inl not_so) = absurd (cc not_so)
        by false e (inr lacks) = taken_own_cells e lacks

-- ---- parts of a new row

pub set_is : (ps : List (PartOf Value)) → set_of (map part_type ps) ≡ map part_type (by_type ps)
set_is [] = refl
set_is (p ∷ ps) = ap (λ ts. with_type ts p.type_id) (set_is ps) ∙ sym (typed_types part_type p (by_type ps))

-- parts of distinct types
pub values_distinct : (p : PartOf Value) (ps : List (PartOf Value)) → AreDistinct (map part_type ps) → In p ps → values_at p.type_id ps ≡ p.values
values_distinct p [] distinct is = absurd is
values_distinct p (q ∷ qs) distinct (inl e) = ap (λ (r : PartOf Value). values_at r.type_id (q ∷ qs)) e ∙ values_first q qs ∙ ap (λ (r : PartOf Value). r.values) (sym e)
values_distinct p (q ∷ qs) distinct (inr i) =
    values_behind p.type_id q qs (λ e. distinct.0 (subst (λ t. In t (map part_type qs)) (sym e) (map_in part_type p qs i))) ∙ values_distinct p qs distinct.1 i

module _ (registry : List TypeInfo) (ps : List (PartOf Value)) (distinct : AreDistinct (map part_type ps)) where
  pub new_home : home_from registry (set_of (map part_type ps)) ps ≡ home_of registry (by_type ps)
  new_home =
      ap₂ (λ us qs. let h : Home = record { types = us; shared = qs } in h) (set_is ps)
      (ap (λ us. map (part_from ps) (shared_types registry us)) (set_is ps) ∙ ap (map (part_from ps)) (sym (map_filter part_type (is_shared_at registry) (by_type ps)))
      ∙ parts_are ps (filter (λ (p : PartOf Value). is_shared_at registry p.type_id) (by_type ps))
      (λ p i. part_is ps p (values_distinct p ps distinct (in_by_type p ps (in_filter (λ (q : PartOf Value). is_shared_at registry q.type_id) p (by_type ps) i)))))

  pub new_cells : cells_from registry (set_of (map part_type ps)) ps [] ≡ cells_of registry (by_type ps)
  new_cells =
      ap (λ us. map (cell_from ps []) (own_types registry us)) (set_is ps) ∙ ap (map (cell_from ps [])) (sym (map_filter part_type (is_own registry) (by_type ps)))
      ∙ each (filter (λ (p : PartOf Value). is_own registry p.type_id) (by_type ps))
      (λ p i. values_distinct p ps distinct (in_by_type p ps (in_filter (λ (q : PartOf Value). is_own registry q.type_id) p (by_type ps) i)))
    where
      each : (qs : List (PartOf Value)) → ((p : PartOf Value) → In p qs → values_at p.type_id ps ≡ p.values) → map (cell_from ps []) (map part_type qs) ≡ map cell_of qs
      each [] so = refl
      each (q ∷ qs) so =
          ap (λ vs. let c : Cell = record { type_id = q.type_id; values = vs; off = false } in c ∷ map (cell_from ps []) (map part_type qs)) (so q (inl refl)) ∙ ap (λ cs. cell_of q ∷ cs) (each qs (λ p i. so p (inr i)))
