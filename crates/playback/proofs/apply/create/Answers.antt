use Rattle.std.proofs.Common.{map, sym, ap, ◌∙◌, subst}
use Rattle.world_model.specs.Lawful.{Suits}
use Rattle.world_model.specs.Operations.{Create}
use Rattle.world_model.specs.Part.{part_of as seen}
use Rattle.playback.proofs.apply.create.Goals as goal

pub create-requires : goal.create-requires
create-requires c =
    subst (λ ps. Suits c.args.world.now.world.registry (Create ps)) (sym (ap (map seen) c.deref.ensures.value ∙ c.in_ok-fill.ensures)) c.requires
