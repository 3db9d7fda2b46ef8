-- What a block shows of the types that are lent.
use Rattle.std.proofs.Common.{◌≡◌, ℕ, Bool, true, false, not, ◌||◌, ◌&&◌, cond, nat_eq, List, [], ◌∷◌, ◌++◌, map, filter, refl, sym, ap, ap₂, ◌∙◌}
use Rattle.std.proofs.lemmas.Bool.{eqb-true}
use Rattle.ent_types.specs.declared.type_info.TypeInfo.{TypeInfo}
use Rattle.ent_types.specs.Registries.{type_at}
use Rattle.ent_types.specs.Types.{is_shared}
use Rattle.ent_types.specs.TypeSets.{has_type}
use Rattle.chunk_block.specs.Blocks.{BlockType, IsWhole, column_types, lent_type, new_types, shape_of}
use Rattle.block_laws.proofs.Rows.{itself}
use Rattle.world_rows.specs.Rows.{own_types}
use Rattle.world_loans.specs.Plans.{lent_types}

module _ (types : List ℕ) where
  -- the types that are lent are those that the block has
  pub shown_has : (xs : List BlockType) → IsWhole xs → (t : ℕ) → has_type (lent_types (map (lent_type types) xs)) t ≡ (has_type types t && has_type (column_types xs) t)
  shown_has [] whole t = by (has_type types t)
    where
      by : (a : Bool) → false ≡ (a && false)
      by true = refl
      by false = refl
  shown_has (x ∷ xs) whole t = by (has_type types x.shape.ty.0) (nat_eq x.shape.ty.0 t) refl refl (shown_has xs whole.1 t)
    where
      head : (a : Bool) → List ℕ → List ℕ
      head a us = cond (cond a (record x { lent = true }) x).lent ((cond a (record x { lent = true }) x).shape.ty.0 ∷ us) us

      head_is : (a : Bool) (us : List ℕ) → head a us ≡ cond a (x.shape.ty.0 ∷ us) us
      head_is true us = refl
      head_is false us = ap (λ l. cond l (x.shape.ty.0 ∷ us) us) whole.0

      absorbed : (a b : Bool) → a ≡ true → (true || b) ≡ (a && true)
      absorbed true b h = refl
      absorbed false b h = absurd (cc)

      lacks : (a : Bool) → a ≡ false → false ≡ (a && true)
      lacks true h = absurd (cc)
      lacks false h = refl

      none : (a b : Bool) → a ≡ false → (a && b) ≡ (a && true)
      none true b h = absurd (cc)
      none false b h = refl

      rest_of : List ℕ
      rest_of = lent_types (map (lent_type types) xs)

      by : (a b : Bool) → has_type types x.shape.ty.0 ≡ a → nat_eq x.shape.ty.0 t ≡ b → has_type rest_of t ≡ (has_type types t && has_type (column_types xs) t)
          → has_type (head a rest_of) t ≡ (has_type types t && (b || has_type (column_types xs) t))
      by true true is here rest =
          ap (λ us. has_type us t) (head_is true rest_of)
          ∙ ap (λ d. d || has_type rest_of t) here
          ∙ absorbed (has_type types t) (has_type rest_of t) (ap (has_type types) (sym (eqb-true x.shape.ty.0 t here)) ∙ is)
      by true false is here rest = ap (λ us. has_type us t) (head_is true rest_of) ∙ ap (λ d. d || has_type rest_of t) here ∙ rest
      by false true is here rest =
          let no_type = ap (has_type types) (sym (eqb-true x.shape.ty.0 t here)) ∙ is in
          ap (λ us. has_type us t) (head_is false rest_of) ∙ rest ∙ none (has_type types t) (has_type (column_types xs) t) no_type
      by false false is here rest = ap (λ us. has_type us t) (head_is false rest_of) ∙ rest

  -- a block whose types are lent again by what it shows
  shown_again : (us : List ℕ) (xs : List BlockType) → ((t : ℕ) → has_type (column_types xs) t ≡ true → has_type us t ≡ has_type types t) → map (lent_type us) xs ≡ map (lent_type types) xs
  shown_again us [] same = refl
  shown_again us (x ∷ xs) same =
      ap₂ (λ (y : BlockType) (ys : List BlockType). y ∷ ys)
      (ap (λ b. cond b (record x { lent = true }) x) (same x.shape.ty.0 (ap (λ b. b || has_type (column_types xs) x.shape.ty.0) (itself x.shape.ty.0))))
      (shown_again us xs (λ t h. same t (later (nat_eq x.shape.ty.0 t) (has_type (column_types xs) t) h)))
    where
      later : (a b : Bool) → b ≡ true → (a || b) ≡ true
      later true b h = refl
      later false b h = h

  both : (a b : Bool) → b ≡ true → (a && b) ≡ a
  both true b h = h
  both false b h = refl

  pub columns_shown : (xs : List BlockType) → IsWhole xs → map (lent_type (lent_types (map (lent_type types) xs))) xs ≡ map (lent_type types) xs
  columns_shown xs whole =
      shown_again (lent_types (map (lent_type types) xs)) xs (λ t h. shown_has xs whole t ∙ both (has_type types t) (has_type (column_types xs) t) h)

  -- of a block that was whole
  pub shown_are : (registry : List TypeInfo) (ts : List ℕ) → lent_types (map (lent_type types) (new_types registry ts)) ≡ filter (has_type types) (own_types registry ts)
  shown_are registry [] = refl
  shown_are registry (t ∷ ts) = by (is_shared (type_at registry t).kind) (shown_are registry ts)
    where
      one : BlockType
      one = record { shape = shape_of registry t; lent = false }

      first : (a : Bool) (us : List ℕ) → cond (cond a (record one { lent = true }) one).lent ((cond a (record one { lent = true }) one).shape.ty.0 ∷ us) us ≡ cond a (t ∷ us) us
      first true us = refl
      first false us = refl

      by : (s : Bool) → lent_types (map (lent_type types) (new_types registry ts)) ≡ filter (has_type types) (own_types registry ts)
          → lent_types (map (lent_type types) (cond s [] (one ∷ []) ++ new_types registry ts)) ≡ filter (has_type types) (cond (not s) (t ∷ own_types registry ts) (own_types registry ts))
      by true rest = rest
      by false rest = first (has_type types t) (lent_types (map (lent_type types) (new_types registry ts))) ∙ ap (λ us. cond (has_type types t) (t ∷ us) us) rest

-- the types of a new block that aren't shared
pub columns_own : (registry : List TypeInfo) (ts : List ℕ) → column_types (new_types registry ts) ≡ own_types registry ts
columns_own registry [] = refl
columns_own registry (t ∷ ts) = by (is_shared (type_at registry t).kind) (columns_own registry ts)
  where
    by : (s : Bool) → column_types (new_types registry ts) ≡ own_types registry ts
        → column_types (cond s [] ((let x : BlockType = record { shape = shape_of registry t; lent = false } in x) ∷ []) ++ new_types registry ts) ≡ cond (not s) (t ∷ own_types registry ts) (own_types registry ts)
    by true rest = rest
    by false rest = ap (λ us. t ∷ us) rest
