-- What is decided of a lawful row leaves lawful rows.
use Rattle.std.proofs.Common.{◌≡◌, ℕ, zero, suc, ◌/◌, ◌<◌, ◌≤◌, ◌⊎◌, inl, inr, nat_eq, nat_le, Bool, true, false, not, ◌&&◌, cond, List, [], ◌∷◌, ◌++◌, map, filter, length, find, Option, Some, option_map, refl, sym, ap, ap₂, ◌∙◌, subst, arith, eqb-true}
use Rattle.std.specs.Prelude.{unwrap_or}
use Rattle.std.specs.List.{list_any}
use Rattle.ent_types.specs.declared.type_info.TypeInfo.{TypeInfo}
use Rattle.ent_types.specs.declared.value.Value.{Value}
use Rattle.ent_types.specs.Fitting.{fits_type}
use Rattle.ent_types.specs.Registries.{type_at}
use Rattle.ent_types.specs.TypeSets.{has_type, with_type, without_type}
use Rattle.ent_types.specs.declared.limits.TheConstants.{MOST_ELEMENTS}
use Rattle.ent_types.specs.declared.skip.Skip.TheVariants.{TooLarge, Full, NoComponent, NotEnableable, TooLong}
use Rattle.ent_types.specs.TypeLookups.{fields_at, is_shared_at, is_cleanup_at, is_buffer_at, is_enableable_at}
use Rattle.world_model.specs.Members.{In, IsRising}
use Rattle.world_model.specs.Part.{PartOf, part_type, same_part, with_typed, by_type}
use Rattle.world_model.specs.Row.{Cell, cell_type, cell_of}
use Rattle.world_model.specs.World.{Home}
use Rattle.world_model.specs.Found.{Found, cell_at}
use Rattle.world_model.specs.Fits.{Fits, IsKnown, IsFitting, IsElement}
use Rattle.world_model.specs.Operations.{Act, Destroy, Add, Remove, Set, SetShared, SetEnabled, Instantiate, Append, Clear, Outcome, Skips, Keeps, Writes, Moves, Ends, Makes, Sight, home_kept, cells_kept, home_with, home_with_shared, home_of, cells_of, with_values, switched, cell_values, element_count, is_copied, shared_set, values_set, kept, decide, decide_create}
use Rattle.world_model.specs.Lawful.{IsLawfulHome, AreLawfulCells, IsLawfulRow, HasRoomForParts, ActSuits}
use Rattle.world_laws.proofs.Members.{in_map, map_in, in_filter, filter_passes, filter_swap, map_filter}
use Rattle.world_laws.proofs.Types.{filter_rising, has_in, in_with, with_rising, with_out, with_in, with_has, typed_types, in_typed, at_own_type, by_type_rises, in_by_type}
use Rattle.world_laws.proofs.Elements.{element_more, no_elements}

map_types : (f : Cell → Cell) → ((c : Cell) → (f c).type_id ≡ c.type_id) → (cs : List Cell) → map cell_type (map f cs) ≡ map cell_type cs
map_types f same [] = refl
map_types f same (c ∷ cs) = ap₂ (λ t ts. t ∷ ts) (same c) (map_types f same cs)

not_zero : (n : ℕ) → nat_eq n 0 ≡ false → 1 ≤ n
not_zero zero h = absurd (cc)
not_zero (suc n) h = omega arith

-- ---- lawful homes and cells

module _ (registry : List TypeInfo) where
  abbrev own : ℕ → Bool
  own t = not (is_shared_at registry t)

  kept_home : (keeps : ℕ → Bool) (home : Home) → IsLawfulHome registry home → IsLawfulHome registry (home_kept keeps home)
  kept_home keeps home h = record {
    types = filter_rising keeps home.types h.types;
    known = λ t i. h.known t (in_filter keeps t home.types i);
    shared = map_filter part_type keeps home.shared ∙ (ap (filter keeps) h.shared ∙ filter_swap keeps (is_shared_at registry) home.types);
    fit = λ p i. h.fit p (in_filter (λ (q : PartOf Value). keeps q.type_id) p home.shared i);
  }

  kept_cells : (keeps : ℕ → Bool) (types : List ℕ) (cells : List Cell) → AreLawfulCells registry types cells → AreLawfulCells registry (filter keeps types) (cells_kept keeps cells)
  kept_cells keeps types cells h = record {
    types_are = map_filter cell_type keeps cells ∙ (ap (filter keeps) h.types_are ∙ filter_swap keeps own types);
    fit = λ c i. h.fit c (in_filter (λ (d : Cell). keeps d.type_id) c cells i);
    off = λ c i. h.off c (in_filter (λ (d : Cell). keeps d.type_id) c cells i);
  }

  -- other values of a type, which fit where the type's own did
  changed_cells : (t : ℕ) (change : List Value → List Value) (types : List ℕ) (cells : List Cell)
      → ((c : Cell) → In c cells → c.type_id ≡ t → Fits registry c.type_id (change c.values))
      → AreLawfulCells registry types cells → AreLawfulCells registry types (with_values t change cells)
  changed_cells t change types cells fit h = record {
    types_are = map_types changed (λ c. refl) cells ∙ h.types_are;
    fit = λ c i. (let (d, j, e) = in_map changed c cells i in
        subst (λ (x : Cell). Fits registry x.type_id x.values) (sym e) (fits d j (nat_eq d.type_id t) refl));
    off = λ c i on. (let (d, j, e) = in_map changed c cells i in
        ap (λ (x : Cell). is_enableable_at registry x.type_id) e ∙ h.off d j (sym (ap (λ (x : Cell). x.off) e) ∙ on));
  }
    where
      changed : Cell → Cell
      changed c = record c { values = cond (nat_eq c.type_id t) (change c.values) c.values }

      fits : (d : Cell) → In d cells → (b : Bool) → nat_eq d.type_id t ≡ b → Fits registry d.type_id (cond b (change d.values) d.values)
      fits d j true e = fit d j (eqb-true d.type_id t e)
      fits d j false e = h.fit d j

  switched_cells : (t : ℕ) (on : Bool) (types : List ℕ) (cells : List Cell) → is_enableable_at registry t ≡ true → AreLawfulCells registry types cells → AreLawfulCells registry types (switched t on cells)
  switched_cells t on types cells may h = record {
    types_are = map_types turned (λ c. refl) cells ∙ h.types_are;
    fit = λ c i. (let (d, j, e) = in_map turned c cells i in
        subst (λ (x : Cell). Fits registry x.type_id x.values) (sym e) (h.fit d j));
    off = λ c i is_off. (let (d, j, e) = in_map turned c cells i in
        ap (λ (x : Cell). is_enableable_at registry x.type_id) e ∙ step d j (nat_eq d.type_id t) refl (sym (ap (λ (x : Cell). x.off) e) ∙ is_off));
  }
    where
      turned : Cell → Cell
      turned c = record c { off = cond (nat_eq c.type_id t) (not on) c.off }

      step : (d : Cell) → In d cells → (b : Bool) → nat_eq d.type_id t ≡ b → cond b (not on) d.off ≡ true → is_enableable_at registry d.type_id ≡ true
      step d j true e is_off = ap (is_enableable_at registry) (eqb-true d.type_id t e) ∙ may
      step d j false e is_off = h.off d j is_off

  -- ---- with a type more

  known_with : (t : ℕ) (types : List ℕ) → IsKnown registry t → ((u : ℕ) → In u types → IsKnown registry u) → (u : ℕ) → In u (with_type types t) → IsKnown registry u
  known_with t types known all u i = step (in_with t u types i)
    where
      step : (u ≡ t) ⊎ In u types → IsKnown registry u
      step (inl e) = subst (IsKnown registry) (sym e) known
      step (inr j) = all u j

  shared_home : (p : PartOf Value) (home : Home) → IsFitting registry p → is_shared_at registry p.type_id ≡ true → IsLawfulHome registry home → IsLawfulHome registry (home_with_shared p home)
  shared_home p home fits s h = record {
    types = with_rising p.type_id home.types h.types;
    known = known_with p.type_id home.types fits.known h.known;
    shared = typed_types part_type p home.shared ∙ (ap (λ ts. with_type ts p.type_id) h.shared ∙ sym (with_in (is_shared_at registry) p.type_id home.types h.types s));
    fit = λ q i. step q (in_typed part_type p q home.shared i);
  }
    where
      step : (q : PartOf Value) → (q ≡ p) ⊎ In q home.shared → Fits registry q.type_id q.values
      step q (inl e) = subst (λ (x : PartOf Value). Fits registry x.type_id x.values) (sym e) fits.fit
      step q (inr j) = h.fit q j

  shared_cells : (t : ℕ) (types : List ℕ) (cells : List Cell) → is_shared_at registry t ≡ true → AreLawfulCells registry types cells → AreLawfulCells registry (with_type types t) cells
  shared_cells t types cells s h = record { types_are = h.types_are ∙ sym (with_out own t types (ap not s)); fit = h.fit; off = h.off }

  own_home : (t : ℕ) (home : Home) → IsKnown registry t → is_shared_at registry t ≡ false → IsLawfulHome registry home → IsLawfulHome registry (home_with t home)
  own_home t home known s h = record {
    types = with_rising t home.types h.types;
    known = known_with t home.types known h.known;
    shared = h.shared ∙ sym (with_out (is_shared_at registry) t home.types s);
    fit = h.fit;
  }

  own_cells : (p : PartOf Value) (home : Home) (cells : List Cell) → Fits registry p.type_id p.values → is_shared_at registry p.type_id ≡ false
      → IsLawfulHome registry home → AreLawfulCells registry home.types cells
      → AreLawfulCells registry (with_type home.types p.type_id) (with_typed cell_type (cell_of p) cells)
  own_cells p home cells fits s h c = record {
    types_are = typed_types cell_type (cell_of p) cells ∙ (ap (λ ts. with_type ts p.type_id) c.types_are ∙ sym (with_in own p.type_id home.types h.types (ap not s)));
    fit = λ d i. fit d (in_typed cell_type (cell_of p) d cells i);
    off = λ d i on. off d on (in_typed cell_type (cell_of p) d cells i);
  }
    where
      fit : (d : Cell) → (d ≡ cell_of p) ⊎ In d cells → Fits registry d.type_id d.values
      fit d (inl e) = subst (λ (x : Cell). Fits registry x.type_id x.values) (sym e) fits
      fit d (inr i) = c.fit d i

      off : (d : Cell) → d.off ≡ true → (d ≡ cell_of p) ⊎ In d cells → is_enableable_at registry d.type_id ≡ true
      off d on (inl e) = let no_way : false ≡ true = sym (ap (λ (x : Cell). x.off) e) ∙ on in absurd (cc)
      off d on (inr i) = c.off d i on

  -- ---- elements

  own_values : (types : List ℕ) (cells : List Cell) (c : Cell) → IsRising types → AreLawfulCells registry types cells → In c cells → cell_values c.type_id cells ≡ c.values
  own_values types cells c r h i =
      ap (λ o. unwrap_or (option_map (λ (x : Cell). x.values) o) [])
      (at_own_type cell_type c cells (subst IsRising (sym h.types_are) (filter_rising own types r)) i)

  appended_fits : (p : PartOf Value) (types : List ℕ) (cells : List Cell) → IsElement registry p → IsRising types → AreLawfulCells registry types cells
      → nat_le MOST_ELEMENTS (element_count registry p.type_id cells) ≡ false
      → (c : Cell) → In c cells → c.type_id ≡ p.type_id → Fits registry c.type_id (c.values ++ p.values)
  appended_fits p types cells e r h open_ c i is =
      let info = ap (type_at registry) is in
      subst (λ (t : TypeInfo). fits_type t (c.values ++ p.values) ≡ true) (sym info)
      (element_more (type_at registry p.type_id) c.values p.values e.buffer
      (subst (λ (t : TypeInfo). fits_type t c.values ≡ true) info (h.fit c i)) e.fit
      (ap (λ vs. nat_le MOST_ELEMENTS (length vs / length (fields_at registry p.type_id))) (sym (ap (λ t. cell_values t cells) (sym is) ∙ own_values types cells c r h i)) ∙ open_))

  cleared_fits : (t : ℕ) → is_buffer_at registry t ≡ true → (c : Cell) → c.type_id ≡ t → Fits registry c.type_id []
  cleared_fits t buffer c is = subst (λ u. Fits registry u []) (sym is) (no_elements (type_at registry t) buffer)

-- ---- what is decided

module _ (capacity : List ℕ → ℕ) (registry : List TypeInfo) (fits : HasRoomForParts capacity) (full : Bool) where
  -- an outcome leaves rows that fit their home, and blocks with room
  abbrev pub IsFine : Home → Outcome → Type 0
  IsFine home (Skips cause) = Unit {0}
  IsFine home Keeps = Unit {0}
  IsFine home (Writes types cells dying) = AreLawfulCells registry home.types cells
  IsFine home (Moves to cells dying) = IsLawfulHome registry to × AreLawfulCells registry to.types cells × (1 ≤ capacity to.types)
  IsFine home Ends = Unit {0}
  IsFine home (Makes to cells) = IsLawfulHome registry to × AreLawfulCells registry to.types cells × (1 ≤ capacity to.types) × (full ≡ false)

  fine_if : (home : Home) (b : Bool) (o p : Outcome) → (b ≡ true → IsFine home o) → (b ≡ false → IsFine home p) → IsFine home (cond b o p)
  fine_if home true o p one other = one refl
  fine_if home false o p one other = other refl

  there_is : (b : Bool) → not b ≡ false → b ≡ true
  there_is true e = refl
  there_is false e = absurd (cc)

  abbrev s : Sight
  s = record { registry = registry; too_large = λ types. nat_eq (capacity types) 0; full = full }

  module _ (x : Found) (l : IsLawfulRow registry x) (room : 1 ≤ capacity x.home.types) where
    abbrev Fine : Outcome → Type 0
    Fine out = IsFine x.home out

    fine_kept : (keeps : ℕ → Bool) → IsLawfulHome registry (home_kept keeps x.home) × AreLawfulCells registry (filter keeps x.home.types) (cells_kept keeps x.row.cells) × (1 ≤ capacity (filter keeps x.home.types))
    fine_kept keeps = (kept_home registry keeps x.home l.home, kept_cells registry keeps x.home.types x.row.cells l.cells, fits keeps x.home.types room)

    fine_shared : (p : PartOf Value) → IsFitting registry p → is_shared_at registry p.type_id ≡ true → has_type x.home.types p.type_id ≡ true → Fine (shared_set x p)
    fine_shared p fit sh there =
        fine_if x.home (list_any (same_part p) x.home.shared) Keeps (Moves (home_with_shared p x.home) x.row.cells x.row.dying) (λ e. tt)
        (λ e. (
          shared_home registry p x.home fit sh l.home,
          shared_cells registry p.type_id x.home.types x.row.cells sh l.cells,
          subst (λ ts. 1 ≤ capacity ts) (sym (with_has p.type_id x.home.types l.home.types there)) room,
        ))

    fine_values : (t : ℕ) (change : List Value → List Value) → ((c : Cell) → In c x.row.cells → c.type_id ≡ t → Fits registry c.type_id (change c.values)) → Fine (values_set x t change)
    fine_values t change fit = changed_cells registry t change x.home.types x.row.cells fit l.cells

    put_fits : (p : PartOf Value) → IsFitting registry p → (c : Cell) → In c x.row.cells → c.type_id ≡ p.type_id → Fits registry c.type_id p.values
    put_fits p fit c i is = subst (λ t. Fits registry t p.values) (sym is) fit.fit

    pub decide_fine : (a : Act Value) → ActSuits registry a → Fine (decide s x a)
    decide_fine Destroy h =
        fine_if x.home (not (list_any (is_cleanup_at registry) x.home.types)) Ends _ (λ e. tt)
        (λ e. fine_if x.home (not (list_any (λ t. not (is_cleanup_at registry t)) x.home.types)) (Writes [] x.row.cells true) _ (λ f. l.cells) (λ f. fine_kept (is_cleanup_at registry)))
    decide_fine (Add p) h =
        fine_if x.home (has_type x.home.types p.type_id) _ _
        (λ there. fine_if x.home (is_shared_at registry p.type_id) _ _ (λ sh. fine_shared p h sh there) (λ sh. fine_values p.type_id (λ values. p.values) (put_fits p h)))
        (λ e. fine_if x.home (nat_eq (capacity (with_type x.home.types p.type_id)) 0) (Skips TooLarge) _ (λ f. tt)
        (λ small. fine_if x.home (is_shared_at registry p.type_id) _ _
        (λ sh. (shared_home registry p x.home h sh l.home, shared_cells registry p.type_id x.home.types x.row.cells sh l.cells, not_zero (capacity (with_type x.home.types p.type_id)) small))
        (λ sh. (own_home registry p.type_id x.home h.known sh l.home, own_cells registry p x.home x.row.cells h.fit sh l.home l.cells, not_zero (capacity (with_type x.home.types p.type_id)) small))))
    decide_fine (Remove t) h =
        fine_if x.home (not (has_type x.home.types t)) Keeps _ (λ e. tt)
        (λ e. fine_if x.home (x.row.dying && nat_eq (length (without_type x.home.types t)) 0) Ends _ (λ f. tt) (λ f. fine_kept (λ u. not (nat_eq u t))))
    decide_fine (Set p) h =
        fine_if x.home (not (has_type x.home.types p.type_id)) (Skips NoComponent) _ (λ e. tt) (λ e. fine_values p.type_id (λ values. p.values) (put_fits p h.0))
    decide_fine (SetShared p) h =
        fine_if x.home (not (has_type x.home.types p.type_id)) (Skips NoComponent) _ (λ e. tt) (λ e. fine_shared p h.0 h.1 (there_is (has_type x.home.types p.type_id) e))
    decide_fine (SetEnabled t on) h =
        fine_if x.home (not (is_enableable_at registry t)) (Skips NotEnableable) _ (λ e. tt)
        (λ may. fine_if x.home (not (has_type x.home.types t)) (Skips NoComponent) _ (λ e. tt)
        (λ e. switched_cells registry t on x.home.types x.row.cells (there_is (is_enableable_at registry t) may) l.cells))
    decide_fine Instantiate h = fine_if x.home full (Skips Full) _ (λ e. tt) (λ e. (let k = fine_kept (is_copied registry) in (k.0, k.1, k.2, e)))
    decide_fine (Append p) h =
        fine_if x.home (not (has_type x.home.types p.type_id)) (Skips NoComponent) _ (λ e. tt)
        (λ e. fine_if x.home (nat_le MOST_ELEMENTS (element_count registry p.type_id x.row.cells)) (Skips TooLong) _ (λ f. tt)
        (λ open_. fine_values p.type_id (λ values. values ++ p.values) (appended_fits registry p x.home.types x.row.cells h l.home.types l.cells open_)))
    decide_fine (Clear t) h =
        fine_if x.home (not (has_type x.home.types t)) (Skips NoComponent) _ (λ e. tt)
        (λ e. fine_values t (λ values. []) (λ c i is. cleared_fits registry t h.1 c is))

  -- of parts that are ordered by rising type
  pub create_fine : (home : Home) (parts : List (PartOf Value)) → ((p : PartOf Value) → In p parts → IsFitting registry p) → IsRising (map part_type parts)
      → IsFine home (decide_create s parts)
  create_fine home parts fit rising =
      fine_if home (nat_eq (capacity (map part_type parts)) 0) (Skips TooLarge) _ (λ e. tt)
      (λ small. fine_if home full (Skips Full) _ (λ e. tt)
      (λ e. (
        record {
          types = rising;
          known = λ t i. (let (p, j, is) = in_map part_type t parts i in subst (IsKnown registry) (sym is) (fit p j).known);
          shared = map_filter part_type (is_shared_at registry) parts;
          fit = λ p i. (fit p (in_filter (λ (q : PartOf Value). is_shared_at registry q.type_id) p parts i)).fit;
        },
        record {
          types_are = cells_types owned ∙ map_filter part_type (own registry) parts;
          fit = λ c i. (let (p, j, is) = in_map cell_of c owned i in
              subst (λ (d : Cell). Fits registry d.type_id d.values) (sym is) (fit p (in_filter (λ (q : PartOf Value). own registry q.type_id) p parts j)).fit);
          off = λ c i on. none_off c on i;
        },
        not_zero (capacity (map part_type parts)) small,
        e,
      )))
    where
      owned : List (PartOf Value)
      owned = filter (λ (p : PartOf Value). own registry p.type_id) parts

      cells_types : (ps : List (PartOf Value)) → map cell_type (map cell_of ps) ≡ map part_type ps
      cells_types [] = refl
      cells_types (p ∷ ps) = ap (λ ts. p.type_id ∷ ts) (cells_types ps)

      none_off : (c : Cell) → c.off ≡ true → In c (map cell_of owned) → is_enableable_at registry c.type_id ≡ true
      none_off c on i =
          let (p, j, e) = in_map cell_of c owned i in
          let no_way : false ≡ true = sym (ap (λ (x : Cell). x.off) e) ∙ on in absurd (cc)
