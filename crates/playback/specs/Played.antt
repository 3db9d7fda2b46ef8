-- Playback of entries as they are given: each is done as one operation, one after another.
use Rattle.std.specs.Prelude.{◌≡◌, ℕ, Bool, ◌&&◌, nat_eq, List, [], ◌∷◌, ◌++◌, take, find, Option, Some, None, option_map, Result, Ok, Err}
use Rattle.ent_types.specs.declared.entity.Entity.{Entity}
use Rattle.ent_types.specs.declared.memory.Memory.{Memory as NoMemory}
use Rattle.ent_types.specs.declared.skip.Skip.{Skip}
use Rattle.world_model.specs.World.{World, capacity}
use Rattle.world_model.specs.Operations.{Operation, Reply, Made, Done, Skipped, Answer}
use Rattle.run_model.specs.Playback.{done_by}
use Rattle.structural_ops.specs.declared.fault.OpFault.{OpFault}
use Rattle.structural_ops.specs.declared.fault.OpFault.TheVariants as fault
use Rattle.structural_ops.specs.Worlds.{WorldState, Grows}
use Rattle.command_record.specs.declared.chain.Entry.{Entry}
use Rattle.playback.specs.declared.player.Note.{Note}
use Rattle.playback.specs.Asked.{operation_for}

-- an entity, and the entry that made it
pub record MadeBy : Type 0 where
  pub entry : Entry
  pub entity : Entity

-- the state of a playback: the world, the entities that were made, the last one first, and the skips in order
pub record Playing : Type 0 where
  pub world : World
  pub made : List MadeBy
  pub notes : List Note

-- ---- one entry

abbrev pub is_maker : Entry → ℕ → ℕ → ℕ → Bool
is_maker x item row number = nat_eq x.item item && nat_eq x.row row && nat_eq x.number number

-- the entity that the entry of this item, row and number made; none where none was made so far
abbrev pub made_at : List MadeBy → ℕ → ℕ → ℕ → Option Entity
made_at made item row number = option_map (λ m. m.entity) (find (λ m. is_maker m.entry item row number) made)

abbrev pub answer_to : (List ℕ → ℕ) → Playing → Entry → Answer
answer_to capacity p x = done_by capacity p.world (operation_for (made_at p.made x.item) x.command)

abbrev pub with_made : Entry → Reply → List MadeBy → List MadeBy
with_made x (Made e) made = record { entry = x; entity = e } ∷ made
with_made x Done made = made
with_made x (Skipped cause) made = made

abbrev pub note_of : Entry → Reply → List Note
note_of x (Made e) = []
note_of x Done = []
note_of x (Skipped cause) = record { item = x.item; row = x.row; number = x.number; skip = cause } ∷ []

abbrev pub after_entry : (List ℕ → ℕ) → Playing → Entry → Playing
after_entry capacity p x = record {
  world = (answer_to capacity p x).world;
  made = with_made x (answer_to capacity p x).reply p.made;
  notes = p.notes ++ note_of x (answer_to capacity p x).reply;
}

-- ---- entries one after another

abbrev pub after_entries : (List ℕ → ℕ) → Playing → List Entry → Playing
after_entries capacity p [] = p
after_entries capacity p (x ∷ xs) = after_entries capacity (after_entry capacity p x) xs

abbrev pub not_begun : World → Playing
not_begun w = record { world = w; made = []; notes = [] }

-- the world after some entries, and the skips
unfoldable pub played : World → List Entry → Playing
played w es = after_entries (capacity w.registry) (not_begun w) es

-- ---- what the calls leave

-- the world, and more archetypes or as many; an entity that moves away and comes back may be in a block of another number
pub record Leaves (old new : WorldState) (world : World) : Type 0 where
  pub world_is : new.world ≡ world
  pub archetypes : Grows old.archetypes new.archetypes

-- Entries are played to the last, or memory runs out and the first of them were played.
abbrev pub Plays : WorldState → WorldState → List Entry → Result (List Note) NoMemory → Type 0
Plays old new es (Ok notes) = (notes ≡ (played old.world es).notes) × Leaves old new (played old.world es).world
Plays old new es (Err memory) = (n : ℕ) × Leaves old new (played old.world (take n es)).world

-- One operation, if there is one, gives the entity that was made or nothing, or is skipped. A fault leaves the world as it is.
abbrev pub Answers : WorldState → WorldState → Answer → Result (Option Entity) OpFault → Type 0
Answers old new answer (Ok (Some e)) = (answer.reply ≡ Made e) × Leaves old new answer.world
Answers old new answer (Ok None) = (answer.reply ≡ Done) × Leaves old new answer.world
Answers old new answer (Err (fault.Skip cause)) = (answer.reply ≡ Skipped cause) × Leaves old new answer.world
Answers old new answer (Err fault.Memory) = Leaves old new old.world

abbrev pub Does : WorldState → WorldState → Option Operation → Result (Option Entity) OpFault → Type 0
Does old new operation result = Answers old new (done_by (capacity old.world.registry) old.world operation) result

-- what an act of which nothing is made answers
abbrev pub without_entity : Result (Unit {0}) Skip → Result (Option Entity) OpFault
without_entity (Ok u) = Ok None
without_entity (Err cause) = Err (fault.Skip cause)
