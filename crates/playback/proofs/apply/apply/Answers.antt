use Rattle.std.proofs.Common.{Some, map, sym, subst}
use Rattle.world_model.specs.Operations.{Create}
use Rattle.run_laws.specs.Suits.{OperationSuits}
use Rattle.playback.specs.Asked.{operation_for, part_for}
use Rattle.playback.specs.Makers.{made_in}
use Rattle.playback.specs.Played.{Does}
use Rattle.playback.proofs.apply.apply.Goals as goal

pub create-requires : goal.create-requires
create-requires c =
    subst (λ ps. OperationSuits c.args.world.now.world.registry (Some (Create (map (part_for (made_in c.args.made.now c.args.item)) ps)))) (sym c.as_slice.ensures)
    (subst (λ command. OperationSuits c.args.world.now.world.registry (operation_for (made_in c.args.made.now c.args.item) command)) c.in-Create.is c.requires)

pub returns-in-Add : goal.returns-in-Add
returns-in-Add c =
    subst (λ command. Does c.args.world.now c.add.new.world (operation_for (made_in c.args.made.now c.args.item) command) c.add.result) (sym c.in-Add.is) c.add.ensures

pub returns-in-Set : goal.returns-in-Set
returns-in-Set c =
    subst (λ command. Does c.args.world.now c.set.new.world (operation_for (made_in c.args.made.now c.args.item) command) c.set.result) (sym c.in-Set.is) c.set.ensures

pub returns-in-SetShared : goal.returns-in-SetShared
returns-in-SetShared c =
    subst (λ command. Does c.args.world.now c.set_shared.new.world (operation_for (made_in c.args.made.now c.args.item) command) c.set_shared.result) (sym c.in-SetShared.is) c.set_shared.ensures

pub returns-in-Append : goal.returns-in-Append
returns-in-Append c =
    subst (λ command. Does c.args.world.now c.append.new.world (operation_for (made_in c.args.made.now c.args.item) command) c.append.result) (sym c.in-Append.is) c.append.ensures
