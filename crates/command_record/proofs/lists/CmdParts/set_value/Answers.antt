use Rattle.std.proofs.Common.{◌<◌, ◌∙◌, length, set, ap, subst}
use Rattle.command_record.specs.declared.command.CmdPart.{CmdPart}
use Rattle.command_record.proofs.Changed.{has_part, values_there, changed_there}
use Rattle.command_record.proofs.lists.CmdParts.set_value.Goals as goal

pub part_mut-own-requires : goal.part_mut-own-requires
part_mut-own-requires c = has_part c.args.self.now c.args.part c.args.at c.requires

pub set-requires : goal.set-requires
set-requires c =
    subst (λ values. c.args.at < length values)
    (values_there c.args.self.now c.args.part c.part_mut-own.result.now c.part_mut-own.ensures.value) c.requires

pub returns : goal.returns
returns c =
    let own = c.part_mut-own.result.now in
    ap (λ values. set c.args.self.now c.args.part (let p : CmdPart = record { ty = own.ty; values = values } in p)) c.set.ensures
    ∙ changed_there c.args.self.now c.args.part c.args.at c.args.value own c.part_mut-own.ensures.value
