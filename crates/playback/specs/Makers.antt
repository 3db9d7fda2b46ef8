-- Entries that made entities, as keys of a map.
use Rattle.std.specs.Prelude.{◌≡◌, ℕ, Bool, ◌&&◌, nat_eq, Option, Some, None, Result, Ok, Err}
use Rattle.ent_types.specs.declared.entity.Entity.{Entity}
use Rattle.ent_types.specs.declared.skip.Skip.TheVariants.{NoEntity}
use Rattle.structural_ops.specs.declared.fault.OpFault.{OpFault}
use Rattle.structural_ops.specs.declared.fault.OpFault.TheVariants.{Skip}
use Rattle.std.specs.HashMap.{get}
use Rattle.command_record.specs.declared.chain.Entry.{Entry}
use Rattle.playback.specs.declared.made.Maker.{Maker}
use Rattle.playback.specs.declared.made.Made.{Made}

abbrev pub maker : ℕ → ℕ → ℕ → Maker
maker item row number = record { item = item; row = row; number = number }

-- the item, the row and the number of an entry
abbrev pub maker_of : Entry → Maker
maker_of x = maker x.item x.row x.number

-- two entries agree in item, row and number
abbrev pub same_maker : Maker → Maker → Bool
same_maker a b = nat_eq a.item b.item && (nat_eq a.row b.row && nat_eq a.number b.number)

-- the entity that the entry of this item, row and number made
abbrev pub made_in : Made → ℕ → ℕ → ℕ → Option Entity
made_in made item row number = get same_maker made.entities (maker item row number)

-- an entity that wasn't made is skipped, as one that isn't alive
abbrev pub Finds : Option Entity → Result Entity OpFault → Type 0
Finds e (Ok found) = e ≡ Some found
Finds e (Err fault) = (e ≡ None) × (fault ≡ Skip NoEntity)
