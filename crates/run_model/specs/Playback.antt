-- Playback: the entries of a buffer are done one after another, each as one operation.
use Rattle.std.specs.Prelude.{ℕ, Bool, ◌&&◌, nat_eq, List, [], ◌∷◌, ◌++◌, map, find, Option, Some, None, option_map, unwrap_or}
use Rattle.ent_types.specs.declared.entity.Entity.{Entity}
use Rattle.ent_types.specs.declared.skip.Skip.{Skip}
use Rattle.ent_types.specs.declared.skip.Skip.TheVariants.{NoEntity}
use Rattle.ent_types.specs.declared.value.Value.{Value}
use Rattle.ent_types.specs.declared.value.Value.TheVariants.{Ref}
use Rattle.ent_types.specs.Fitting.{null_entity}
use Rattle.world_model.specs.Part.{part_map}
use Rattle.world_model.specs.World.{World}
use Rattle.world_model.specs.Operations.{act_map, Operation, Create, On, Reply, Made, Done, Skipped, Answer, operate}
use Rattle.run_model.specs.Commands.{Live, Placeholder, GivenValue, Known, MadeBy, Change, Creates, ActsOn}
use Rattle.run_model.specs.Run.{Entry}
use Rattle.run_model.specs.Buffers.{arranged}

-- an entity that an entry made
pub record MadeEntity : Type 0 where
  pub entry : Entry
  pub entity : Entity

-- an entry that was skipped, and why
pub record Note : Type 0 where
  pub entry : Entry
  pub cause : Skip

-- the state of a playback: the world, the entities that were made, and the skips in order
pub record PlaybackState : Type 0 where
  pub world : World
  pub made_entities : List MadeEntity
  pub notes : List Note

-- ---- what an entry asks for

-- two entries of one row
abbrev pub is_same_spot : Entry → Entry → Bool
is_same_spot x y = nat_eq x.item y.item && nat_eq x.place y.place

-- the entity that the command of a number made for the row of an entry; none where none was made so far
abbrev pub made_for : List MadeEntity → Entry → ℕ → Option Entity
made_for made_entities x n = option_map (λ m. m.entity) (find (λ m. is_same_spot m.entry x && nat_eq m.entry.command.number n) made_entities)

-- an entity that wasn't made counts as null where it is a value
abbrev pub value_given : (ℕ → Option Entity) → GivenValue → Value
value_given made (Known v) = v
value_given made (MadeBy n) = Ref (unwrap_or (made n) null_entity)

-- the operation of a change; none where its target wasn't made
abbrev pub operation_of : (ℕ → Option Entity) → Change → Option Operation
operation_of made (Creates parts) = Some (Create (map (part_map (value_given made)) parts))
operation_of made (ActsOn (Live e) a) = Some (On e (act_map (value_given made) a))
operation_of made (ActsOn (Placeholder n) a) = option_map (λ e. On e (act_map (value_given made) a)) (made n)

-- a target that wasn't made is skipped, as an entity that isn't alive
abbrev pub done_by : (List ℕ → ℕ) → World → Option Operation → Answer
done_by capacity w None = record { world = w; reply = Skipped NoEntity }
done_by capacity w (Some operation) = operate capacity w operation

-- ---- one entry after another

abbrev pub with_made : Entry → Reply → List MadeEntity → List MadeEntity
with_made x (Made e) made_entities = record { entry = x; entity = e } ∷ made_entities
with_made x Done made_entities = made_entities
with_made x (Skipped cause) made_entities = made_entities

abbrev pub note_of : Entry → Reply → List Note
note_of x (Made e) = []
note_of x Done = []
note_of x (Skipped cause) = record { entry = x; cause = cause } ∷ []

abbrev pub answer_of : (List ℕ → ℕ) → PlaybackState → Entry → Answer
answer_of capacity p x = done_by capacity p.world (operation_of (made_for p.made_entities x) x.command.change)

abbrev pub after_entry : (List ℕ → ℕ) → PlaybackState → Entry → PlaybackState
after_entry capacity p x = record {
  world = (answer_of capacity p x).world;
  made_entities = with_made x (answer_of capacity p x).reply p.made_entities;
  notes = p.notes ++ note_of x (answer_of capacity p x).reply;
}

abbrev pub after_entries : (List ℕ → ℕ) → PlaybackState → List Entry → PlaybackState
after_entries capacity p [] = p
after_entries capacity p (x ∷ xs) = after_entries capacity (after_entry capacity p x) xs

-- the world after a buffer was played in its order, and the skips
unfoldable pub playback : (List ℕ → ℕ) → World → List Entry → PlaybackState
playback capacity w entries = after_entries capacity (record { world = w; made_entities = []; notes = [] }) (arranged entries)
