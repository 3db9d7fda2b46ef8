-- The parts of a new row, of which no entity is made by a command.
use Rattle.std.specs.Prelude.{List}
use Rattle.ent_types.specs.declared.kinds.FieldKind.{FieldKind}
use Rattle.ent_types.specs.declared.type_info.TypeInfo.{TypeInfo}
use Rattle.ent_types.specs.declared.value.Value.{Value}
use Rattle.expr_eval.specs.Values.{OwnRow}
use Rattle.expr_trees.specs.declared.tree.PartExpr.{PartExpr}
use Rattle.expr_trees.specs.declared.tree.ValueExpr.{ValueExpr}
use Rattle.world_model.specs.Part.{PartOf, part_map}
use Rattle.run_model.specs.Commands.{given_of, part_given}
use Rattle.run_model.specs.Playback.{value_given}
use Rattle.run_model.specs.Tasks.{no_others, nothing_made}

-- what a field of a kind keeps of the value of a text
abbrev pub value_for : OwnRow → FieldKind → ValueExpr → Value
value_for own kind text = value_given nothing_made (given_of own no_others kind text)

-- a part with the values of its texts
abbrev pub part_for : List TypeInfo → OwnRow → PartExpr → PartOf Value
part_for registry own p = part_map (value_given nothing_made) (part_given registry own no_others p)
