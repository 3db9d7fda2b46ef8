-- Ids of shared values that blocks hold.
use Rattle.std.specs.Prelude.{ℕ, ◌≡◌, ◌≤◌, min, Bool, List, [], ◌∷◌, ◌++◌, map, Option, Some, None}
use Rattle.std.specs.Bool.{MatchBool}
use Rattle.ent_types.specs.declared.value.Value.{Value}
use Rattle.world_model.specs.Members.{In}
use Rattle.world_model.specs.Part.{PartOf}
use Rattle.shared_values.specs.declared.table.Slot.{Slot as Interned}
use Rattle.shared_values.specs.declared.table.TheConstants.{MOST_HOLDS}
use Rattle.shared_values.specs.Holds.{holds_of, type_of, values_of, StandsFor}
use Rattle.archetype_store.specs.Times.{times}
use Rattle.archetype_store.specs.declared.shared_parts.SharedPart.{SharedPart}

-- the part that a type and an id stand for
abbrev pub part_of : List Interned → SharedPart → PartOf Value
part_of table p = record { type_id = p.ty.0; values = values_of table p.id }

abbrev pub parts_of : List Interned → List SharedPart → List (PartOf Value)
parts_of table ps = map (part_of table) ps

abbrev pub ids_of : List SharedPart → List ℕ
ids_of ps = map (λ p. p.id) ps

-- each id is held as often as it is in the list, or as often as is counted
pub record Backs (table : List Interned) (ids : List ℕ) : Type 0 where
  pub holds : (id : ℕ) → min (times id ids) MOST_HOLDS ≤ holds_of table id

-- the ids of a list have the types and values that they had
pub record KeepsValues (old new : List Interned) (ids : List ℕ) : Type 0 where
  pub values : (id : ℕ) → In id ids → values_of new id ≡ values_of old id
  pub types : (id : ℕ) → In id ids → type_of new id ≡ type_of old id

-- the ids have the types of their parts
abbrev pub AreTyped : List Interned → List SharedPart → Type 0
AreTyped table [] = Unit {0}
AreTyped table (p ∷ ps) = (type_of table p.id ≡ p.ty.0) × AreTyped table ps

-- more ids are held than before, beside others
pub record Holds (old new : List Interned) (before after : List SharedPart) (others : List ℕ) : Type 0 where
  pub backs : Backs new (ids_of after ++ others)
  pub keeps : KeepsValues old new (ids_of before ++ others)

-- some ids are held no longer; others still are
abbrev pub Releases : List Interned → List Interned → List SharedPart → Type 0
Releases old new held = (others : List ℕ) → Backs old (ids_of held ++ others) → Holds old new [] [] others

-- ---- ids by values

-- the ids are held for the values of the parts, one after another
abbrev pub StandAll : List Interned → List (PartOf Value) → List ℕ → Type 0
StandAll table [] [] = Unit {0}
StandAll table [] (i ∷ is) = ⊥
StandAll table (p ∷ ps) [] = ⊥
StandAll table (p ∷ ps) (i ∷ is) = StandsFor table i p.type_id p.values × StandAll table ps is

-- the ids for the parts; without them, no ids are
abbrev pub AreIdsFor : List Interned → List (PartOf Value) → Option (List ℕ) → Type 0
AreIdsFor table parts None = (ids : List ℕ) → StandAll table parts ids → ⊥
AreIdsFor table parts (Some ids) = StandAll table parts ids

-- ids were added that are held for the parts; or else no ids are
pub record Added (table : List Interned) (parts : List (PartOf Value)) (before after : List ℕ) : Type 0 where
  pub ids : List ℕ
  pub is : after ≡ before ++ ids
  pub stand : StandAll table parts ids

abbrev pub AddsIds : List Interned → List (PartOf Value) → List ℕ → List ℕ → Bool → Type 0
AddsIds table parts before after all = MatchBool all (Added table parts before after) ((ids : List ℕ) → StandAll table parts ids → ⊥)
