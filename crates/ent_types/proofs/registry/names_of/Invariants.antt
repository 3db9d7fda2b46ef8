use Rattle.std.proofs.Common.{◌≡◌, take}
use Rattle.ent_types.specs.Registries.{type_names}
use Rattle.ent_types.proofs.registry.names_of.Given as goal

abbrev pub invariant-loop-info : goal.invariant-loop-info
invariant-loop-info l = l.names.keys ≡ type_names (take l.info-index l.types)
