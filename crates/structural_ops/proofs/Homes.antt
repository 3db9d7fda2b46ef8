-- The homes and the rows of the blocks of a frozen world.
use Rattle.std.proofs.Common.{ℕ, zero, suc, ◌≡◌, ◌∙◌, Bool, true, false, cond, nat_eq, sym, ap, refl, subst, List, [], ◌∷◌, map, Some}
use Rattle.std.specs.Prelude.{⊤, option_map}
use Rattle.std.specs.Option.{IsSome}
use Rattle.std.proofs.lemmas.Bool.{and_parts, eqb-true}
use Rattle.ent_types.specs.declared.type_info.TypeInfo.{TypeInfo}
use Rattle.ent_types.specs.declared.value.Value.{Value}
use Rattle.ent_types.specs.TypeLookups.{is_shared_at}
use Rattle.ent_types.specs.TypeSets.{has_type}
use Rattle.world_model.specs.Fits.{Fits}
use Rattle.world_model.specs.Found.{part_at}
use Rattle.world_model.specs.Lawful.{IsLawfulHome}
use Rattle.world_model.specs.Members.{In, IsRising}
use Rattle.world_model.specs.Part.{PartOf, part_type}
use Rattle.world_model.specs.Row.{Row, Cell}
use Rattle.world_model.specs.World.{Home}
use Rattle.world_laws.proofs.Members.{in_map}
use Rattle.world_laws.proofs.Types.{at_own_type, filter_rising, has_in}
use Rattle.block_columns.specs.Types.{blank_cell}
use Rattle.chunk_block.specs.Blocks.{content_at, content_of, lent_cell, lent_row, row_in, with_content}
use Rattle.archetype_store.specs.Stores.{Numbered, OfNumber}
use Rattle.world_places.specs.Placing.{home_of}
use Rattle.world_places.proofs.Numbers.{of_in, of_member}
use Rattle.world_rows.proofs.PartsAre.{in_passed}
use Rattle.world_loans.specs.Plans.{lent_by}
use Rattle.structural_ops.specs.Freezing.{AreBlank, IsFrozen, frozen_of, lent_of}
use Rattle.structural_ops.specs.Numbered.{HasBlock}
use Rattle.structural_ops.specs.Worlds.{state_of}
use Rattle.structural_ops.specs.declared.tables.Tables.{Tables}
use Rattle.structural_ops.proofs.Freezing.{lent_has, numbers_distinct, thawed}
use Rattle.structural_ops.proofs.Numbered.{of_numbered, to_numbered}
use Rattle.structural_ops.proofs.Present.{home_lawful}

-- a lawful home has values of each of its shared types, and they fit
pub shared_part : (registry : List TypeInfo) (home : Home) → IsLawfulHome registry home → (t : ℕ) → is_shared_at registry t ≡ true → In t home.types
    → (vs : List Value) × (part_at t home.shared ≡ Some vs) × Fits registry t vs
shared_part registry home lawful t shared i = by (in_map part_type t home.shared (subst (In t) (sym lawful.shared) (in_passed (is_shared_at registry) t home.types i shared)))
  where
    rising : IsRising (map part_type home.shared)
    rising = subst IsRising (sym lawful.shared) (filter_rising (is_shared_at registry) home.types lawful.types)

    by : ((p : PartOf Value) × In p home.shared × (t ≡ part_type p)) → (vs : List Value) × (part_at t home.shared ≡ Some vs) × Fits registry t vs
    by (p, j, same) = (
      p.values,
      ap (λ u. part_at u home.shared) same ∙ ap (option_map (λ (q : PartOf Value). q.values)) (at_own_type part_type p home.shared rising j),
      subst (λ u. Fits registry u p.values) (sym same) (lawful.fit p j),
    )

-- ---- rows whose cells are lent

module _ (types : List ℕ) (t : ℕ) (among : has_type types t ≡ true) where
  blank_cells : (cs : List Cell) → content_at t (map (lent_cell types) cs) ≡ blank_cell
  blank_cells [] = refl
  blank_cells (c ∷ cs) = by (has_type types c.type_id) refl (nat_eq c.type_id t) refl (blank_cells cs)
    where
      by : (a : Bool) → has_type types c.type_id ≡ a → (b : Bool) → nat_eq c.type_id t ≡ b → content_at t (map (lent_cell types) cs) ≡ blank_cell
          → content_at t (cond a (with_content blank_cell c) c ∷ map (lent_cell types) cs) ≡ blank_cell
      by true is true here rest = rw here refl
      by true is false here rest = rw here rest
      by false is true here rest = absurd (cc (sym is ∙ (ap (has_type types) (eqb-true c.type_id t here) ∙ among)))
      by false is false here rest = rw here rest

  blank_rows : (rows : List Row) (k : ℕ) → content_at t (row_in k (map (lent_row types) rows)).cells ≡ blank_cell
  blank_rows [] k = refl
  blank_rows (r ∷ rs) zero = blank_cells r.cells
  blank_rows (r ∷ rs) (suc k) = blank_rows rs k

-- ---- blocks of a frozen world

module _ (w : Tables) (f : IsFrozen w) where
  home_frozen : (b : Numbered) → In b w.store.blocks → IsLawfulHome w.registry (home_of b)
  home_frozen b i = by (in_map (lent_by f.types) b f.before (subst (In b) f.blocks i))
    where
      by : ((c : Numbered) × In c f.before × (b ≡ lent_by f.types c)) → IsLawfulHome w.registry (home_of b)
      by (c, j, same) = subst (λ (d : Numbered). IsLawfulHome w.registry (home_of d)) (sym same) (home_lawful (thawed w f) f.consistent c j)

  pub shared_seen : (n t : ℕ) → is_shared_at w.registry t ≡ true → HasBlock n (λ b. has_type b.home.types t ≡ true) (state_of w) → OfNumber n (λ b. IsSome (part_at t b.shared)) w.store.blocks
  shared_seen n t shared there =
      let (b, i, number, has) = of_member n (λ b. has_type b.block.types t ≡ true) w.store.blocks (of_numbered n (λ b. has_type b.home.types t ≡ true) w.store.blocks there) in
      let (vs, is, fits) = shared_part w.registry (home_of b) (home_frozen b i) t shared (has_in t b.block.types has) in
      of_in n (λ c. IsSome (part_at t c.shared)) w.store.blocks (numbers_distinct w f) b i number (subst (λ o. IsSome o) (sym is) refl)

  pub home_seen : (n : ℕ) → HasBlock n (λ _. ⊤) (state_of w) → HasBlock n (λ b. IsLawfulHome w.registry b.home) (state_of w)
  home_seen n there =
      let (b, i, number, any) = of_member n (λ _. ⊤) w.store.blocks (of_numbered n (λ _. ⊤) w.store.blocks there) in
      to_numbered n (λ c. IsLawfulHome w.registry c.home) w.store.blocks
      (of_in n (λ c. IsLawfulHome w.registry (home_of c)) w.store.blocks (numbers_distinct w f) b i number (home_frozen b i))

  blank_lent : (b : Numbered) → In b w.store.blocks → AreBlank (lent_of (frozen_of w) b.number) b.block.rows
  blank_lent b i = by (in_map (lent_by f.types) b f.before (subst (In b) f.blocks i))
    where
      by : ((c : Numbered) × In c f.before × (b ≡ lent_by f.types c)) → AreBlank (lent_of (frozen_of w) b.number) b.block.rows
      by (c, j, same) =
          subst (λ (d : Numbered). AreBlank (lent_of (frozen_of w) d.number) d.block.rows) (sym same)
          (λ t lent k. blank_rows (f.types c.number) t (and_parts (has_type (f.types c.number) t) _ (sym (lent_has w f c j t) ∙ lent)).0 c.block.rows k)

  pub blank_seen : (n : ℕ) → HasBlock n (λ _. ⊤) (state_of w) → HasBlock n (λ b. AreBlank (lent_of (frozen_of w) n) b.rows) (state_of w)
  blank_seen n there =
      let (b, i, number, any) = of_member n (λ _. ⊤) w.store.blocks (of_numbered n (λ _. ⊤) w.store.blocks there) in
      to_numbered n (λ c. AreBlank (lent_of (frozen_of w) n) c.rows) w.store.blocks
      (of_in n (λ c. AreBlank (lent_of (frozen_of w) n) c.block.rows) w.store.blocks (numbers_distinct w f) b i number
      (subst (λ m. AreBlank (lent_of (frozen_of w) m) b.block.rows) number (blank_lent b i)))
