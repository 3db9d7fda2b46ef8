-- What is read of a row, by type.
use Rattle.std.proofs.Common.{ℕ, ◌≡◌, ◌≢◌, ◌<◌, ◌∙◌, inl, inr, Bool, true, false, not, cond, sym, ap, refl, subst, List, [], ◌∷◌, map, Some, None, arith}
use Rattle.std.specs.Prelude.{option_map, unwrap_or}
use Rattle.std.specs.Option.{option_or}
use Rattle.std.proofs.lemmas.Bool.{cases_eq, eq-eqb, ne_eqb}
use Rattle.ent_types.specs.declared.type_info.TypeInfo.{TypeInfo}
use Rattle.ent_types.specs.declared.value.Value.{Value}
use Rattle.ent_types.specs.TypeLookups.{is_shared_at}
use Rattle.world_model.specs.Members.{In, IsRising}
use Rattle.world_model.specs.Part.{PartOf, part_type, at_type}
use Rattle.world_model.specs.Row.{Cell, cell_type}
use Rattle.world_model.specs.Found.{Found, cell_at, part_at, values_of}
use Rattle.world_model.specs.Lawful.{IsLawfulRow}
use Rattle.world_laws.proofs.Members.{filter_passes, map_in, in_filter}
use Rattle.world_laws.proofs.Types.{filter_rising, at_own_type}
use Rattle.block_columns.specs.Types.{Content}
use Rattle.chunk_block.specs.Blocks.{content_of, content_at, is_off}
use Rattle.world_rows.specs.Rows.{values_at, cell_from, part_from, part_in}

-- ---- cells and parts that are named by their types

-- cells are those that parts give, if each of them is
pub cells_are : (parts : List (PartOf Value)) (off : List ℕ) (cells : List Cell) → ((c : Cell) → In c cells → cell_from parts off c.type_id ≡ c) → map (cell_from parts off) (map cell_type cells) ≡ cells
cells_are parts off [] so = refl
cells_are parts off (c ∷ cs) so = ap (λ d. d ∷ map (cell_from parts off) (map cell_type cs)) (so c (inl refl)) ∙ ap (λ ds. c ∷ ds) (cells_are parts off cs (λ d i. so d (inr i)))

pub parts_are : (parts ps : List (PartOf Value)) → ((p : PartOf Value) → In p ps → part_from parts p.type_id ≡ p) → map (part_from parts) (map part_type ps) ≡ ps
parts_are parts [] so = refl
parts_are parts (p ∷ ps) so = ap (λ q. q ∷ map (part_from parts) (map part_type ps)) (so p (inl refl)) ∙ ap (λ qs. p ∷ qs) (parts_are parts ps (λ q i. so q (inr i)))

-- among parts of which each type is there once, the values of a type are those of its part
pub values_there : (p : PartOf Value) (ps : List (PartOf Value)) → IsRising (map part_type ps) → In p ps → values_at p.type_id ps ≡ p.values
values_there p ps rising is = ap (λ o. unwrap_or (option_map (λ (q : PartOf Value). q.values) o) []) (at_own_type part_type p ps rising is)

-- the values of another type are those of the other parts
pub values_behind : (t : ℕ) (p : PartOf Value) (ps : List (PartOf Value)) → p.type_id ≢ t → values_at t (p ∷ ps) ≡ values_at t ps
values_behind t p ps apart = ap (λ b. unwrap_or (option_map (λ (q : PartOf Value). q.values) (cond b (Some p) (at_type part_type t ps))) []) (ne_eqb p.type_id t apart)

pub values_first : (p : PartOf Value) (ps : List (PartOf Value)) → values_at p.type_id (p ∷ ps) ≡ p.values
values_first p ps = ap (λ b. unwrap_or (option_map (λ (q : PartOf Value). q.values) (cond b (Some p) (at_type part_type p.type_id ps))) []) (eq-eqb p.type_id p.type_id refl)

-- the content of a cell's type is that of the cell
pub content_is : (c : Cell) (cells : List Cell) → IsRising (map cell_type cells) → In c cells → content_at c.type_id cells ≡ content_of c
content_is c [] rising is = absurd is
content_is c (d ∷ ds) rising (inl e) =
    ap (λ b. cond b (content_of d) (content_at c.type_id ds)) (eq-eqb d.type_id c.type_id (ap cell_type (sym e))) ∙ ap content_of (sym e)
content_is c (d ∷ ds) rising (inr i) =
    let above : d.type_id < c.type_id = rising.0 c.type_id (map_in cell_type c ds i) in
    ap (λ b. cond b (content_of d) (content_at c.type_id ds)) (ne_eqb d.type_id c.type_id (λ e. omega arith)) ∙ content_is c ds rising.1 i

-- a type of which there is no cell is on
pub content_absent : (t : ℕ) (cells : List Cell) → ((c : Cell) → In c cells → c.type_id ≡ t → ⊥) → (content_at t cells).off ≡ false
content_absent t [] none = refl
content_absent t (c ∷ cs) none =
    ap (λ b. (let d : Content = cond b (content_of c) (content_at t cs) in d).off) (ne_eqb c.type_id t (none c (inl refl))) ∙ content_absent t cs (λ d i. none d (inr i))

module _ (registry : List TypeInfo) (x : Found) (lawful : IsLawfulRow registry x) where
  pub own_rising : IsRising (map cell_type x.row.cells)
  own_rising = subst IsRising (sym lawful.cells.types_are) (filter_rising (λ t. not (is_shared_at registry t)) x.home.types lawful.home.types)

  pub shared_rising : IsRising (map part_type x.home.shared)
  shared_rising = subst IsRising (sym lawful.home.shared) (filter_rising (is_shared_at registry) x.home.types lawful.home.types)

  pub cell_own : (c : Cell) → In c x.row.cells → is_shared_at registry c.type_id ≡ false
  cell_own c i =
      by (is_shared_at registry c.type_id) (filter_passes (λ t. not (is_shared_at registry t)) c.type_id x.home.types (subst (In c.type_id) lawful.cells.types_are (map_in cell_type c x.row.cells i)))
    where
      by : (b : Bool) → not b ≡ true → b ≡ false
      by true e = absurd (cc e)
      by false e = refl

  pub part_shared : (p : PartOf Value) → In p x.home.shared → is_shared_at registry p.type_id ≡ true
  part_shared p i = filter_passes (is_shared_at registry) p.type_id x.home.types (subst (In p.type_id) lawful.home.shared (map_in part_type p x.home.shared i))

  pub cell_type_there : (c : Cell) → In c x.row.cells → In c.type_id x.home.types
  cell_type_there c i = in_filter (λ t. not (is_shared_at registry t)) c.type_id x.home.types (subst (In c.type_id) lawful.cells.types_are (map_in cell_type c x.row.cells i))

  pub part_type_there : (p : PartOf Value) → In p x.home.shared → In p.type_id x.home.types
  part_type_there p i = in_filter (is_shared_at registry) p.type_id x.home.types (subst (In p.type_id) lawful.home.shared (map_in part_type p x.home.shared i))

  pub cell_values : (c : Cell) → In c x.row.cells → values_of c.type_id x ≡ Some c.values
  cell_values c i = ap (λ o. option_or (option_map (λ (d : Cell). d.values) o) (part_at c.type_id x.home.shared)) (at_own_type cell_type c x.row.cells own_rising i)

  pub no_cell : (t : ℕ) → is_shared_at registry t ≡ true → (cells : List Cell) → ((c : Cell) → In c cells → is_shared_at registry c.type_id ≡ false) → cell_at t cells ≡ None
  no_cell t is [] own = refl
  no_cell t is (c ∷ cs) own =
      ap (λ b. cond b (Some c) (cell_at t cs)) (ne_eqb c.type_id t (λ e. absurd (cc (sym (own c (inl refl)) ∙ ap (is_shared_at registry) e ∙ is)))) ∙ no_cell t is cs (λ d i. own d (inr i))

  pub shared_values : (p : PartOf Value) → In p x.home.shared → values_of p.type_id x ≡ Some p.values
  shared_values p i =
      ap (λ o. option_or (option_map (λ (d : Cell). d.values) o) (part_at p.type_id x.home.shared)) (no_cell p.type_id (part_shared p i) x.row.cells cell_own)
      ∙ ap (option_map (λ (q : PartOf Value). q.values)) (at_own_type part_type p x.home.shared shared_rising i)

  -- what was read of a type that was read
  pub values_read : (t : ℕ) (ts : List ℕ) → In t ts → values_at t (map (part_in x) ts) ≡ unwrap_or (values_of t x) []
  values_read t [] is = absurd is
  values_read t (u ∷ us) is =
      elim (cases_eq u t) [
        | inl same ↦
            ap (λ b. unwrap_or (option_map (λ (q : PartOf Value). q.values) (cond b (Some (part_in x u)) (at_type part_type t (map (part_in x) us)))) []) (eq-eqb u t same)
            ∙ ap (λ k. unwrap_or (values_of k x) []) same
        | inr apart ↦ values_behind t (part_in x u) (map (part_in x) us) apart ∙ values_read t us (rest is apart)
      ]
    where
      rest : In t (u ∷ us) → u ≢ t → In t us
      rest (inl e) apart = absurd (apart (sym e))
      rest (inr i) apart = i

  pub cell_read : (c : Cell) (ts : List ℕ) → In c x.row.cells → In c.type_id ts → values_at c.type_id (map (part_in x) ts) ≡ c.values
  cell_read c ts i there = values_read c.type_id ts there ∙ ap (λ o. unwrap_or o []) (cell_values c i)

  pub part_read : (p : PartOf Value) (ts : List ℕ) → In p x.home.shared → In p.type_id ts → values_at p.type_id (map (part_in x) ts) ≡ p.values
  part_read p ts i there = values_read p.type_id ts there ∙ ap (λ o. unwrap_or o []) (shared_values p i)

  pub cell_off : (c : Cell) → In c x.row.cells → is_off c.type_id x.row ≡ c.off
  cell_off c i = ap (λ (d : Content). d.off) (content_is c x.row.cells own_rising i)
