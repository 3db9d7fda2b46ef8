-- What is decided of a row, as the code tests it.
use Rattle.std.proofs.Common.{ℕ, ◌≡◌, ◌≢◌, ◌∙◌, ◌&&◌, Bool, true, false, not, cond, nat_eq, sym, ap, ap₂, refl, List, [], ◌∷◌, length, filter, arith}
use Rattle.std.specs.List.{list_any}
use Rattle.std.proofs.lemmas.Bool.{ne_eqb}
use Rattle.ent_types.specs.declared.skip.Skip.TheVariants as skip
use Rattle.ent_types.specs.declared.type_info.TypeInfo.{TypeInfo}
use Rattle.ent_types.specs.declared.value.Value.{Value}
use Rattle.ent_types.specs.TypeLookups.{is_cleanup_at, is_shared_at}
use Rattle.ent_types.specs.TypeSets.{has_type, with_type, without_type}
use Rattle.ent_types.proofs.TypeSetLemmas.{has_type-filter}
use Rattle.world_model.specs.Found.{Found}
use Rattle.world_model.specs.Lawful.{IsLawfulRow}
use Rattle.world_model.specs.Members.{In}
use Rattle.world_model.specs.Part.{PartOf, with_typed}
use Rattle.world_model.specs.Row.{Cell, cell_of, cell_type}
use Rattle.world_model.specs.World.{Home}
use Rattle.world_model.specs.Operations.{Add, Destroy, Remove, SetShared, Outcome, Skips, Keeps, Writes, Moves, Ends, Sight, cells_kept, decide, home_kept, home_with, home_with_shared, kept, shared_set, values_set}
use Rattle.world_laws.proofs.NodeRows.{in_has}
use Rattle.world_rows.specs.Types.{cleanup_types}
use Rattle.world_rows.proofs.Reading.{cell_type_there, part_type_there}
use Rattle.structural_ops.proofs.Passing.{filter_same, none_passes, some_passes, all_pass, some_fails}

-- ---- what is decided

module _ (s : Sight) (x : Found) where
  abbrev destroyed : Bool → Bool → Outcome
  destroyed some others = cond (not some) Ends (cond (not others) (Writes [] x.row.cells true) (kept x (is_cleanup_at s.registry) true))

  abbrev lacks_cleanup : ℕ → Bool
  lacks_cleanup t = not (is_cleanup_at s.registry t)

  pub destroy_ends : cleanup_types s.registry x.home.types ≡ [] → decide s x Destroy ≡ Ends
  destroy_ends none = ap (λ b. destroyed b (list_any lacks_cleanup x.home.types)) (none_passes (is_cleanup_at s.registry) x.home.types none)

  module _ (some : cleanup_types s.registry x.home.types ≢ []) where
    pub destroy_stays : cleanup_types s.registry x.home.types ≡ x.home.types → decide s x Destroy ≡ Writes [] x.row.cells true
    destroy_stays all = ap₂ destroyed (some_passes (is_cleanup_at s.registry) x.home.types some) (all_pass (is_cleanup_at s.registry) x.home.types all)

    pub destroy_moves : cleanup_types s.registry x.home.types ≢ x.home.types → decide s x Destroy ≡ kept x (is_cleanup_at s.registry) true
    destroy_moves others = ap₂ destroyed (some_passes (is_cleanup_at s.registry) x.home.types some) (some_fails (is_cleanup_at s.registry) x.home.types others)

  module _ (t : ℕ) where
    abbrev isnt : ℕ → Bool
    isnt u = not (nat_eq u t)

    abbrev removed : Bool → Bool → Outcome
    removed has last = cond (not has) Keeps (cond last Ends (kept x (λ u. not (nat_eq u t)) x.row.dying))

    abbrev is_last : Bool
    is_last = x.row.dying && nat_eq (length (without_type x.home.types t)) 0

    pub remove_keeps : has_type x.home.types t ≡ false → decide s x (Remove t) ≡ Keeps
    remove_keeps lacks = ap (λ b. removed b is_last) lacks

    module _ (has : has_type x.home.types t ≡ true) where
      pub remove_ends : x.row.dying ≡ true → without_type x.home.types t ≡ [] → decide s x (Remove t) ≡ Ends
      remove_ends dies none = ap₂ removed has (ap₂ (λ b ts. b && nat_eq (length ts) 0) dies none)

      pub remove_moves : (x.row.dying ≡ true → without_type x.home.types t ≡ [] → ⊥) → decide s x (Remove t) ≡ kept x (λ u. not (nat_eq u t)) x.row.dying
      remove_moves stays = ap₂ removed has (by x.row.dying (without_type x.home.types t) stays)
        where
          by : (b : Bool) (ts : List ℕ) → (b ≡ true → ts ≡ [] → ⊥) → (b && nat_eq (length ts) 0) ≡ false
          by false ts so = refl
          by true [] so = absurd (so refl refl)
          by true (u ∷ us) so = ne_eqb (length (u ∷ us)) 0 (λ e. omega (arith, e))

  module _ (q : PartOf Value) where
    pub shared_lacks : has_type x.home.types q.type_id ≡ false → decide s x (SetShared q) ≡ Skips skip.NoComponent
    shared_lacks lacks = ap (λ b. cond (not b) (Skips skip.NoComponent) (shared_set x q)) lacks

    pub shared_sets : has_type x.home.types q.type_id ≡ true → decide s x (SetShared q) ≡ shared_set x q
    shared_sets has = ap (λ b. cond (not b) (Skips skip.NoComponent) (shared_set x q)) has

    abbrev added : Bool → Bool → Outcome
    added has shared =
        cond has (cond shared (shared_set x q) (values_set x q.type_id (λ _. q.values)))
        (cond (s.too_large (with_type x.home.types q.type_id)) (Skips skip.TooLarge)
        (cond shared (Moves (home_with_shared q x.home) x.row.cells x.row.dying) (Moves (home_with q.type_id x.home) (with_typed cell_type (cell_of q) x.row.cells) x.row.dying)))

    pub add_shares : has_type x.home.types q.type_id ≡ true → is_shared_at s.registry q.type_id ≡ true → decide s x (Add q) ≡ shared_set x q
    add_shares has shared = ap₂ added has shared

    pub add_writes : has_type x.home.types q.type_id ≡ true → is_shared_at s.registry q.type_id ≡ false → decide s x (Add q) ≡ values_set x q.type_id (λ _. q.values)
    add_writes has own = ap₂ added has own

    pub add_moves : (shared : Bool) → has_type x.home.types q.type_id ≡ false → is_shared_at s.registry q.type_id ≡ shared
        → decide s x (Add q) ≡ cond (s.too_large (with_type x.home.types q.type_id)) (Skips skip.TooLarge)
        (Moves (cond shared (home_with_shared q x.home) (home_with q.type_id x.home)) (cond shared x.row.cells (with_typed cell_type (cell_of q) x.row.cells)) x.row.dying)
    add_moves true lacks is = ap₂ added lacks is
    add_moves false lacks is = ap₂ added lacks is

-- ---- some of the types stay

test_same : (keeps : ℕ → Bool) (all : List ℕ) (t : ℕ) → In t all → keeps t ≡ has_type (filter keeps all) t
test_same keeps all t i = by (keeps t) ∙ sym (has_type-filter keeps all t ∙ ap (λ b. keeps t && b) (in_has t all i))
  where
    by : (b : Bool) → b ≡ (b && true)
    by true = refl
    by false = refl

-- what passes a test is what is in the set of it
pub part_kept : (keeps : ℕ → Bool) (all : List ℕ) → filter keeps all ≡ filter (has_type (filter keeps all)) all
part_kept keeps all = filter_same keeps (has_type (filter keeps all)) all (test_same keeps all)

module _ (registry : List TypeInfo) (x : Found) (lawful : IsLawfulRow registry x) (keeps : ℕ → Bool) where
  has_if : (t : ℕ) → In t x.home.types → has_type (filter keeps x.home.types) t ≡ keeps t
  has_if t i = sym (test_same keeps x.home.types t i)

  pub home_same : home_kept (has_type (filter keeps x.home.types)) x.home ≡ home_kept keeps x.home
  home_same =
      ap₂ (λ ts ps. let h : Home = record { types = ts; shared = ps } in h)
      (filter_same (has_type (filter keeps x.home.types)) keeps x.home.types has_if)
      (filter_same (λ (p : PartOf Value). has_type (filter keeps x.home.types) p.type_id) (λ (p : PartOf Value). keeps p.type_id) x.home.shared
      (λ p i. has_if p.type_id (part_type_there registry x lawful p i)))

  pub cells_same : cells_kept (has_type (filter keeps x.home.types)) x.row.cells ≡ cells_kept keeps x.row.cells
  cells_same =
      filter_same (λ (c : Cell). has_type (filter keeps x.home.types) c.type_id) (λ (c : Cell). keeps c.type_id) x.row.cells
      (λ c i. has_if c.type_id (cell_type_there registry x lawful c i))
