-- The numbers and references of a column's values, also past the end.
use Rattle.std.proofs.Common.{ℕ, ℤ, zero, suc, pos, ◌≡◌, refl, List, [], ◌∷◌, map}
use Rattle.ent_types.specs.declared.entity.Entity.{Entity}
use Rattle.ent_types.specs.declared.value.Value.TheVariants.{Int, Ref}
use Rattle.ent_types.specs.Fitting.{null_entity}
use Rattle.expr_eval.specs.Values.{number, entity}
use Rattle.block_columns.specs.Columns.{value_at, number_at, reference_at}

pub number_of_numbers : (zs : List ℤ) (k : ℕ) → number (value_at k (map (λ z. Int z) zs)) ≡ number_at k zs
number_of_numbers [] k = refl
number_of_numbers (z ∷ zs) zero = refl
number_of_numbers (z ∷ zs) (suc k) = number_of_numbers zs k

pub number_of_references : (es : List Entity) (k : ℕ) → number (value_at k (map (λ e. Ref e) es)) ≡ pos 0
number_of_references [] k = refl
number_of_references (e ∷ es) zero = refl
number_of_references (e ∷ es) (suc k) = number_of_references es k

pub entity_of_references : (es : List Entity) (k : ℕ) → entity (value_at k (map (λ e. Ref e) es)) ≡ reference_at k es
entity_of_references [] k = refl
entity_of_references (e ∷ es) zero = refl
entity_of_references (e ∷ es) (suc k) = entity_of_references es k

pub entity_of_numbers : (zs : List ℤ) (k : ℕ) → entity (value_at k (map (λ z. Int z) zs)) ≡ null_entity
entity_of_numbers [] k = refl
entity_of_numbers (z ∷ zs) zero = refl
entity_of_numbers (z ∷ zs) (suc k) = entity_of_numbers zs k

pub ruleset slices = (number_of_numbers, number_of_references, entity_of_references, entity_of_numbers)
