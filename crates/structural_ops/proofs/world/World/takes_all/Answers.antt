use Rattle.std.proofs.Common.{◌≡◌, ◌∙◌, sym, ap, map, []}
use Rattle.ent_types.specs.declared.type_info.TypeInfo.{TypeInfo}
use Rattle.world_model.specs.Part.{part_of as seen}
use Rattle.world_model.specs.Lawful.{Suits}
use Rattle.world_model.specs.Operations.{Create}
use Rattle.structural_ops.specs.Suited.{parts_suit}
use Rattle.structural_ops.specs.Worlds.{WorldState}
use Rattle.structural_ops.proofs.Suited.{suited, suited_from}
use Rattle.structural_ops.proofs.world.World.takes_all.Goals as goal

pub returns : goal.returns
returns c =
    let registry = c.args.self.now.world.registry in
    let ps = map seen c.args.parts.now in
    let is : c.are_suited.result ≡ parts_suit registry [] ps =
    c.are_suited.ensures ∙ ap (λ ts. parts_suit c.self.inside.tables.registry ts ps) c.empty.ensures ∙ ap (λ (w : WorldState). parts_suit w.world.registry [] ps) c.self.view_is in
    (λ t. suited registry ps (sym is ∙ t), λ s. is ∙ suited_from registry ps s)
