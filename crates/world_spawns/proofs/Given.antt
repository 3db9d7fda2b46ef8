-- What the texts of a part give.
use Rattle.std.proofs.Common.{◌≡◌, ℕ, suc, zero, ◌+◌, ◌<◌, ◌∙◌, drop, inl, inr, subst, sym, ap, refl, append_assoc, arith, List, [], ◌∷◌, ◌++◌, length, map, get_or}
use Rattle.std.specs.Prelude.{slice_index_or}
use Rattle.std.proofs.Math.Nat.{mod-eq_of_lt}
use Rattle.std.proofs.lemmas.List.{drop_more}
use Rattle.ent_types.specs.declared.type_info.FieldInfo.{FieldInfo}
use Rattle.ent_types.specs.declared.type_info.TypeInfo.{TypeInfo}
use Rattle.ent_types.specs.declared.value.Value.{Value}
use Rattle.ent_types.specs.TypeLookups.{fields_at, field_kind_at}
use Rattle.expr_eval.specs.Values.{OwnRow}
use Rattle.expr_trees.specs.declared.tree.ValueExpr.{ValueExpr}
use Rattle.world_model.specs.Members.{In}
use Rattle.run_model.specs.Commands.{givens_from}
use Rattle.run_model.specs.Playback.{value_given}
use Rattle.run_model.specs.Tasks.{no_others, nothing_made}
use Rattle.run_laws.specs.Suits.{IsOfKind, AreOfKinds}
use Rattle.world_spawns.specs.Parts.{value_for}

-- ---- lists

in_list : {X : Type 0} (xs : List X) (i : ℕ) (d : X) → i < length xs → In (get_or xs i d) xs
in_list [] i d below = absurd (omega arith)
in_list (x ∷ xs) zero d below = inl refl
in_list (x ∷ xs) (suc i) d below = inr (in_list xs i d (omega arith))

-- the element at a place is in the list, and is the first of what is left there
pub in_at : {X : Type 0} (xs : List X) (i : ℕ) (x : X) → i < length xs → x ≡ get_or xs i x → In x xs
in_at xs i x below is = subst (λ y. In y xs) (sym is) (in_list xs i x below)

pub left_at : {X : Type 0} (xs : List X) (i : ℕ) (x : X) → i < length xs → x ≡ get_or xs i x → drop i xs ≡ x ∷ drop (i + 1) xs
left_at xs i x below is = drop_more xs i x below ∙ ap (λ y. y ∷ drop (i + 1) xs) (sym is)

-- ---- the kinds of fields

pub as_many : (fs : List FieldInfo) (vs : List ValueExpr) → AreOfKinds fs vs → length fs ≡ length vs
as_many [] [] h = refl
as_many [] (v ∷ vs) h = absurd h
as_many (f ∷ fs) [] h = absurd h
as_many (f ∷ fs) (v ∷ vs) h = ap suc (as_many fs vs h.1)

pub kind_there : (other : FieldInfo) (d : ValueExpr) (fs : List FieldInfo) (vs : List ValueExpr) → AreOfKinds fs vs → (i : ℕ) → i < length vs → IsOfKind (slice_index_or fs i other).kind (get_or vs i d)
kind_there other d [] [] h i below = absurd (omega arith)
kind_there other d [] (v ∷ vs) h i below = absurd h
kind_there other d (f ∷ fs) [] h i below = absurd h
kind_there other d (f ∷ fs) (v ∷ vs) h zero below = h.0
kind_there other d (f ∷ fs) (v ∷ vs) h (suc i) below = kind_there other d fs vs h.1 i (omega arith)

-- ---- one value after another

module _ (registry : List TypeInfo) (own : OwnRow) (t : ℕ) where
  -- the values of texts, the first of which is at this place
  abbrev pub values_from : ℕ → List ValueExpr → List Value
  values_from k vs = map (value_given nothing_made) (givens_from registry own no_others t k vs)

  pub one_given : (k : ℕ) (v : ValueExpr) (vs : List ValueExpr) (before : List Value) → k < length (fields_at registry t)
      → (before ++ value_for own (field_kind_at registry t k) v ∷ []) ++ values_from (k + 1) vs ≡ before ++ values_from k (v ∷ vs)
  one_given k v vs before below =
      append_assoc before (value_for own (field_kind_at registry t k) v ∷ []) (values_from (k + 1) vs)
      ∙ ap (λ n. before ++ value_for own (field_kind_at registry t n) v ∷ values_from (k + 1) vs) (sym (mod-eq_of_lt {n = k} {m = length (fields_at registry t)} below))
