-- A block by its number, and the columns of a block of which types are lent.
use Rattle.std.proofs.Common.{ℕ, ◌≡◌, ◌∙◌, ◌||◌, inl, inr, Bool, true, false, cond, nat_eq, sym, ap, ap₂, refl, List, [], ◌∷◌, ◌++◌, map}
use Rattle.std.specs.Prelude.{⊤}
use Rattle.std.specs.Bool.{MatchBool}
use Rattle.std.proofs.lemmas.Bool.{eqb-true}
use Rattle.ent_types.specs.declared.type_info.TypeInfo.{TypeInfo}
use Rattle.ent_types.specs.Registries.{type_at}
use Rattle.ent_types.specs.Types.{is_shared}
use Rattle.ent_types.specs.TypeSets.{has_type}
use Rattle.world_model.specs.Members.{In}
use Rattle.world_model.specs.World.{Block}
use Rattle.world_laws.proofs.Members.{in_map, map_in}
use Rattle.world_laws.proofs.NodeRows.{in_has}
use Rattle.block_columns.specs.declared.shape.TypeShape.{TypeShape}
use Rattle.chunk_block.specs.Blocks.{BlockType, HasShape, Lacks, OfType, column_types, lent_type, new_types, shape_of}
use Rattle.world_rows.specs.Rows.{own_types}
use Rattle.world_loans.proofs.Shown.{columns_own}
use Rattle.structural_ops.specs.Freezing.{block_at}
use Rattle.structural_ops.specs.Numbered.{OfNumbered}

-- ---- one block

module _ (n : ℕ) (P : Block → Type 0) where
  -- what holds of the block of a number
  pub at_number : (ns : List ℕ) (bs : List Block) → OfNumbered n P ns bs → P (block_at n ns bs)
  at_number [] bs is = absurd is
  at_number (m ∷ ms) [] is = absurd is
  at_number (m ∷ ms) (b ∷ bs) is = by (nat_eq m n) is (at_number ms bs)
    where
      by : (t : Bool) → MatchBool t (P b) (OfNumbered n P ms bs) → (OfNumbered n P ms bs → P (block_at n ms bs)) → P (cond t b (block_at n ms bs))
      by true h rest = h
      by false h rest = rest h

  pub of_number : (ns : List ℕ) (bs : List Block) → OfNumbered n (λ _. ⊤) ns bs → P (block_at n ns bs) → OfNumbered n P ns bs
  of_number [] bs there holds = there
  of_number (m ∷ ms) [] there holds = there
  of_number (m ∷ ms) (b ∷ bs) there holds = by (nat_eq m n) there holds (of_number ms bs)
    where
      by : (t : Bool) → MatchBool t ⊤ (OfNumbered n (λ _. ⊤) ms bs) → P (cond t b (block_at n ms bs))
          → (OfNumbered n (λ _. ⊤) ms bs → P (block_at n ms bs) → OfNumbered n P ms bs) → MatchBool t (P b) (OfNumbered n P ms bs)
      by true h holds rest = holds
      by false h holds rest = rest h holds

-- ---- columns by type

pub shape_found : (s : TypeShape) (xs : List BlockType) → HasShape s xs → (x : BlockType) × In x xs × (s ≡ x.shape)
shape_found s [] has = absurd has
shape_found s (x ∷ xs) has = by (nat_eq x.shape.ty.0 s.ty.0) has (shape_found s xs)
  where
    by : (b : Bool) → MatchBool b (s ≡ x.shape) (HasShape s xs) → (HasShape s xs → (y : BlockType) × In y xs × (s ≡ y.shape)) → (y : BlockType) × In y (x ∷ xs) × (s ≡ y.shape)
    by true is rest = (x, inl refl, is)
    by false h rest = let (y, i, is) = rest h in (y, inr i, is)

pub type_found : (t : ℕ) (P : TypeShape → Type 0) (xs : List BlockType) → OfType t P xs → (x : BlockType) × In x xs × (x.shape.ty.0 ≡ t) × (x.lent ≡ false) × P x.shape
type_found t P [] of = absurd of
type_found t P (x ∷ xs) of = by (nat_eq x.shape.ty.0 t) refl of (type_found t P xs)
  where
    by : (b : Bool) → nat_eq x.shape.ty.0 t ≡ b → MatchBool b ((x.lent ≡ false) × P x.shape) (OfType t P xs)
        → (OfType t P xs → (y : BlockType) × In y xs × (y.shape.ty.0 ≡ t) × (y.lent ≡ false) × P y.shape) → (y : BlockType) × In y (x ∷ xs) × (y.shape.ty.0 ≡ t) × (y.lent ≡ false) × P y.shape
    by true here is rest = (x, inl refl, eqb-true x.shape.ty.0 t here, is.0, is.1)
    by false here h rest = let (y, i, same, held, holds) = rest h in (y, inr i, same, held, holds)

-- a type that a block has and doesn't show is lent
pub lent_found : (t : ℕ) (xs : List BlockType) → Lacks t xs → has_type (column_types xs) t ≡ true → (x : BlockType) × In x xs × (x.shape.ty.0 ≡ t) × (x.lent ≡ true)
lent_found t [] lacks has = absurd (cc has)
lent_found t (x ∷ xs) lacks has = by (nat_eq x.shape.ty.0 t) refl lacks has (lent_found t xs)
  where
    by : (b : Bool) → nat_eq x.shape.ty.0 t ≡ b → MatchBool b (x.lent ≡ true) (Lacks t xs) → (b || has_type (column_types xs) t) ≡ true
        → (Lacks t xs → has_type (column_types xs) t ≡ true → (y : BlockType) × In y xs × (y.shape.ty.0 ≡ t) × (y.lent ≡ true)) → (y : BlockType) × In y (x ∷ xs) × (y.shape.ty.0 ≡ t) × (y.lent ≡ true)
    by true here lent has rest = (x, inl refl, eqb-true x.shape.ty.0 t here, lent)
    by false here lacks has rest = let (y, i, same, lent) = rest lacks has in (y, inr i, same, lent)

-- ---- columns of which types are lent

module _ (lent : List ℕ) where
  shape_stays : (x : BlockType) → (lent_type lent x).shape ≡ x.shape
  shape_stays x = by (has_type lent x.shape.ty.0)
    where
      by : (b : Bool) → (cond b (record x { lent = true }) x).shape ≡ x.shape
      by true = refl
      by false = refl

  lent_is : (x : BlockType) → x.lent ≡ false → (lent_type lent x).lent ≡ has_type lent x.shape.ty.0
  lent_is x held = by (has_type lent x.shape.ty.0)
    where
      by : (b : Bool) → (cond b (record x { lent = true }) x).lent ≡ b
      by true = refl
      by false = held

  types_stay : (xs : List BlockType) → column_types (map (lent_type lent) xs) ≡ column_types xs
  types_stay [] = refl
  types_stay (x ∷ xs) = ap₂ (λ (t : ℕ) (ts : List ℕ). t ∷ ts) (ap (λ (s : TypeShape). s.ty.0) (shape_stays x)) (types_stay xs)

  module _ (registry : List TypeInfo) where
    abbrev pub columns : List ℕ → List BlockType
    columns types = map (lent_type lent) (new_types registry types)

    abbrev new : ℕ → BlockType
    new u = record { shape = shape_of registry u; lent = false }

    pub columns_are : (types : List ℕ) → column_types (columns types) ≡ own_types registry types
    columns_are types = types_stay (new_types registry types) ∙ columns_own registry types

    new_in : (x : BlockType) (types : List ℕ) → In x (new_types registry types) → (u : ℕ) × (x ≡ new u)
    new_in x [] i = absurd i
    new_in x (t ∷ ts) i = by (is_shared (type_at registry t).kind) i (new_in x ts)
      where
        by : (b : Bool) → In x (cond b [] (new t ∷ []) ++ new_types registry ts) → (In x (new_types registry ts) → (u : ℕ) × (x ≡ new u)) → (u : ℕ) × (x ≡ new u)
        by true i rest = rest i
        by false (inl same) rest = (t, same)
        by false (inr i) rest = rest i

    -- a column's shape is that of its type, and it is lent if its type is
    pub column_is : (x : BlockType) (types : List ℕ) → In x (columns types) → (x.shape ≡ shape_of registry x.shape.ty.0) × (x.lent ≡ has_type lent x.shape.ty.0)
    column_is x types i =
        let (y, j, same) = in_map (lent_type lent) x (new_types registry types) i in
        let (u, is) = new_in y types j in
        let shape : x.shape ≡ shape_of registry u = ap (λ (z : BlockType). z.shape) same ∙ shape_stays y ∙ ap (λ (z : BlockType). z.shape) is in
        let type : x.shape.ty.0 ≡ u = ap (λ (s : TypeShape). s.ty.0) shape in (
          shape ∙ ap (shape_of registry) (sym type),
          ap (λ (z : BlockType). z.lent) (same ∙ ap (lent_type lent) is) ∙ lent_is (new u) refl ∙ ap (has_type lent) (sym type),
        )

    pub column_there : (x : BlockType) (types : List ℕ) → In x (columns types) → has_type (own_types registry types) x.shape.ty.0 ≡ true
    column_there x types i =
        ap (λ ts. has_type ts x.shape.ty.0) (sym (columns_are types))
        ∙ in_has x.shape.ty.0 (column_types (columns types)) (map_in (λ (y : BlockType). y.shape.ty.0) x (columns types) i)
