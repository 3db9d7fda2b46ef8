-- The world without an entity.
use Rattle.std.proofs.Common.{◌≡◌, ℕ, List, [], refl}
use Rattle.std.proofs.lemmas.Option.{none-some}
use Rattle.ent_types.specs.declared.type_info.TypeInfo.{TypeInfo}
use Rattle.entity_table.specs.Table.{empty_table}
use Rattle.world_model.specs.World.{empty_world}
use Rattle.world_places.specs.Placing.{IsPlaced, world_of}

pub empty_placed : (registry : List TypeInfo) (first : ℕ) → IsPlaced registry [] (empty_table first)
empty_placed registry first = record {
  numbers = tt;
  filled = λ b i. absurd i;
  whole = λ b i. absurd i;
  places = record { there = λ e p is. absurd (none-some p is); found = λ e p is. absurd (none-some e is) };
  counted = refl;
}

pub empty_is : (registry : List TypeInfo) (first now : ℕ) → world_of registry [] (empty_table first) now ≡ empty_world registry first now
empty_is registry first now = refl
