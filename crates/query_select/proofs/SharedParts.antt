-- The values of a part, compared with those that a block has.
use Rattle.std.proofs.Common.{◌≡◌, ℕ, Bool, ◌&&◌, List, [], ◌∷◌, Some, refl, sym, ap₂, ◌∙◌}
use Rattle.std.specs.List.{list_any}
use Rattle.std.specs.Cmp.Lexicographic.{pointwise}
use Rattle.ent_types.specs.declared.value.Part.{Part}
use Rattle.ent_types.specs.declared.value.Value.{Value}
use Rattle.ent_types.specs.declared.value.Value.TheVariants.{Int, Ref}
use Rattle.ent_types.specs.contracts.value.ValuePartialEq.TheImpl as value_eq
use Rattle.world_model.specs.Found.{part_at}
use Rattle.world_model.specs.Part.{part_of, same_part, same_value}
use Rattle.world_rows.proofs.Apart.{same_shared}
use Rattle.archetype_store.specs.Stores.{Numbered, OfNumber}
use Rattle.world_places.proofs.Numbers.{of_both}
use Rattle.query_select.specs.Filters.{CanCompare}

value_same : (a b : Value) → value_eq.ghosts.eq a b ≡ same_value a b
value_same (Int y) (Int z) = refl
value_same (Ref d) (Ref e) = refl
value_same (Int y) (Ref e) = refl
value_same (Ref d) (Int z) = refl

values_same : (a b : List Value) → pointwise value_eq.ghosts.eq a b ≡ pointwise same_value a b
values_same [] [] = refl
values_same [] (y ∷ ys) = refl
values_same (x ∷ xs) [] = refl
values_same (x ∷ xs) (y ∷ ys) = ap₂ (λ a b. a && b) (value_same x y) (values_same xs ys)

pub part_same : (n : ℕ) (blocks : List Numbered) (p : Part) (vs : List Value) (r : Bool) → OfNumber n (CanCompare p) blocks → OfNumber n (λ b. part_at p.ty.0 b.shared ≡ Some vs) blocks
    → r ≡ pointwise value_eq.ghosts.eq p.values vs → OfNumber n (λ b. r ≡ list_any (same_part (part_of p)) b.shared) blocks
part_same n blocks p vs r can at is =
    of_both n (CanCompare p) (λ b. part_at p.ty.0 b.shared ≡ Some vs) (λ b. r ≡ list_any (same_part (part_of p)) b.shared) blocks
    (λ b h e. is ∙ values_same p.values vs ∙ sym (same_shared (part_of p) vs b.shared h.rising e)) can at
