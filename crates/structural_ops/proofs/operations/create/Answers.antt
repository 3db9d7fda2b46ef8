use Rattle.std.proofs.Common.{◌∙◌, ap, map}
use Rattle.world_model.specs.Operations.{Create}
use Rattle.world_model.specs.Part.{part_of as seen}
use Rattle.world_model.specs.World.{capacity}
use Rattle.world_rows.specs.Types.{set_of}
use Rattle.world_rows.proofs.CodeLawful.{code_registry}
use Rattle.structural_ops.specs.Worlds.{made, state_of}
use Rattle.structural_ops.proofs.After.{created, created_are, stands, types_below}
use Rattle.structural_ops.proofs.Shared.{seen_types}
use Rattle.structural_ops.proofs.operations.create.Goals as goal

pub types_of-types-requires : goal.types_of-types-requires
types_of-types-requires c =
    types_below c.args.w.now.registry (code_registry (capacity c.args.w.now.registry) (state_of c.args.w.now).world c.requires.consistent.lawful) c.args.parts.now c.requires.suits.0

pub make-requires-clause-parts : goal.make-requires-clause-parts
make-requires-clause-parts c =
    created_are c.args.w.now.registry (map seen c.args.parts.now) c.requires.suits.0 c.requires.suits.1 c.types_of-types.result c.empty.result
    (c.types_of-types.ensures ∙ ap set_of (seen_types c.args.parts.now)) c.empty.ensures

pub returns : goal.returns
returns c =
    let gives = created (state_of c.args.w.now) (state_of c.make.new.w) (map seen c.args.parts.now) c.requires.suits.1 c.types_of-types.result c.empty.result
    (c.types_of-types.ensures ∙ ap set_of (seen_types c.args.parts.now)) c.empty.ensures c.make.result c.make.ensures.made in
    record {
      consistent = stands c.args.w.now c.make.new.w c.requires.consistent (Create (map seen c.args.parts.now)) (made c.make.result) c.requires.suits c.make.ensures.agrees gives;
      gives = gives;
    }
