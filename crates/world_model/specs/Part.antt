-- Parts: a type with its values.
use Rattle.std.specs.Prelude.{ℕ, Bool, false, ◌&&◌, if◌then◌else◌, nat_eq, nat_lt, List, [], ◌∷◌, map, find, Option}
use Rattle.std.specs.Ordering.{int_eq}
use Rattle.std.specs.Cmp.Lexicographic.{pointwise}
use Rattle.ent_types.specs.declared.entity.Entity.{Entity}
use Rattle.ent_types.specs.declared.value.Value.{Value}
use Rattle.ent_types.specs.declared.value.Value.TheVariants.{Int, Ref}
use Rattle.ent_types.specs.declared.value.Part.{Part}

-- A type with what stands for its values, one for each field: values, or texts that give values. The values of a buffer's
-- elements come one after another.
pub record PartOf (V : Type 0) : Type 0 where
  pub type_id : ℕ
  pub values : List V

abbrev pub part_type : {V : Type 0} → PartOf V → ℕ
part_type p = p.type_id

-- the part with other things instead of its values
abbrev pub part_map : {V W : Type 0} → (V → W) → PartOf V → PartOf W
part_map f p = record { type_id = p.type_id; values = map f p.values }

-- a part as calls take it
abbrev pub part_of : Part → PartOf Value
part_of p = record { type_id = p.ty.0; values = p.values }

-- two entities, two values, two parts are the same
abbrev pub same_entity : Entity → Entity → Bool
same_entity d e = nat_eq d.index e.index && nat_eq d.version e.version

abbrev pub same_value : Value → Value → Bool
same_value (Int y) (Int z) = int_eq y z
same_value (Ref d) (Ref e) = same_entity d e
same_value (Int y) (Ref e) = false
same_value (Ref d) (Int z) = false

abbrev pub same_part : PartOf Value → PartOf Value → Bool
same_part a b = nat_eq a.type_id b.type_id && pointwise same_value a.values b.values

-- the first of some things that has a type
abbrev pub at_type : {X : Type 0} → (X → ℕ) → ℕ → List X → Option X
at_type type_of t xs = find (λ x. nat_eq (type_of x) t) xs

-- Things by rising type, with one more. It takes the place of one that has its type.
abbrev pub with_typed : {X : Type 0} → (X → ℕ) → X → List X → List X
with_typed type_of x [] = x ∷ []
with_typed type_of x (y ∷ ys) =
    if nat_lt (type_of x) (type_of y) then x ∷ y ∷ ys
    else if nat_eq (type_of y) (type_of x) then x ∷ ys
    else y ∷ with_typed type_of x ys

-- parts by rising type; of two of one type the first counts
abbrev pub by_type : {V : Type 0} → List (PartOf V) → List (PartOf V)
by_type [] = []
by_type (p ∷ ps) = with_typed part_type p (by_type ps)
