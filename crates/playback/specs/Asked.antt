-- What commands ask of a world, by what their placeholders stand for: `made row number` is the entity that the command of this
-- number made for the row at this place.
use Rattle.std.specs.Prelude.{ℕ, List, map, Option, Some, option_map, unwrap_or}
use Rattle.ent_types.specs.declared.entity.Entity.{Entity}
use Rattle.ent_types.specs.declared.type_info.TypeInfo.{TypeInfo}
use Rattle.ent_types.specs.declared.value.Value.{Value}
use Rattle.ent_types.specs.declared.value.Value.TheVariants as values
use Rattle.ent_types.specs.Fitting.{null_entity}
use Rattle.world_model.specs.Members.{In}
use Rattle.world_model.specs.Part.{PartOf}
use Rattle.world_model.specs.Operations.{Act, Operation, On}
use Rattle.world_model.specs.Operations as world
use Rattle.run_laws.specs.Suits.{OperationSuits}
use Rattle.command_record.specs.declared.command.Target.{Target}
use Rattle.command_record.specs.declared.command.Target.TheVariants.{Live, Placeholder}
use Rattle.command_record.specs.declared.command.CmdValue.{CmdValue}
use Rattle.command_record.specs.declared.command.CmdValue.TheVariants.{Int, Ref}
use Rattle.command_record.specs.declared.command.CmdPart.{CmdPart}
use Rattle.command_record.specs.declared.command.Command.{Command}
use Rattle.command_record.specs.declared.command.Command.TheVariants.{Create, Destroy, Add, Remove, Set, SetShared, SetEnabled, Instantiate, Append, Clear}
use Rattle.command_record.specs.declared.chain.Entry.{Entry}

-- none if it wasn't made
abbrev pub entity_for : (ℕ → ℕ → Option Entity) → Target → Option Entity
entity_for made (Live e) = Some e
entity_for made (Placeholder row number) = made row number

-- an entity that wasn't made counts as null where it is a value
abbrev pub value_for : (ℕ → ℕ → Option Entity) → CmdValue → Value
value_for made (Int z) = values.Int z
value_for made (Ref target) = values.Ref (unwrap_or (entity_for made target) null_entity)

abbrev pub part_for : (ℕ → ℕ → Option Entity) → CmdPart → PartOf Value
part_for made p = record { type_id = p.ty.0; values = map (value_for made) p.values }

abbrev pub on_target : (ℕ → ℕ → Option Entity) → Target → Act Value → Option Operation
on_target made target a = option_map (λ e. On e a) (entity_for made target)

-- the operation of a command; none where its target wasn't made
abbrev pub operation_for : (ℕ → ℕ → Option Entity) → Command → Option Operation
operation_for made (Create parts) = Some (world.Create (map (part_for made) parts))
operation_for made (Destroy target) = on_target made target world.Destroy
operation_for made (Add target part) = on_target made target (world.Add (part_for made part))
operation_for made (Remove target ty) = on_target made target (world.Remove ty.0)
operation_for made (Set target part) = on_target made target (world.Set (part_for made part))
operation_for made (SetShared target part) = on_target made target (world.SetShared (part_for made part))
operation_for made (SetEnabled target ty on) = on_target made target (world.SetEnabled ty.0 on)
operation_for made (Instantiate source) = on_target made source world.Instantiate
operation_for made (Append target part) = on_target made target (world.Append (part_for made part))
operation_for made (Clear target ty) = on_target made target (world.Clear ty.0)

-- ---- what playback asks of commands, whatever entities their placeholders stand for

abbrev pub CommandSuits : List TypeInfo → Command → Type 0
CommandSuits registry c = (made : ℕ → ℕ → Option Entity) → OperationSuits registry (operation_for made c)

abbrev pub AllSuit : List TypeInfo → List Entry → Type 0
AllSuit registry es = (x : Entry) → In x es → CommandSuits registry x.command
