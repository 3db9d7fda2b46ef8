use Rattle.ent_types.proofs.NameText.{IsUtf8-name}
use Rattle.ent_types.proofs.name.Name.as_str.Goals as goal

pub unreachable-requires : goal.unreachable-requires
unreachable-requires c = c.in-Err.ensures.cases.0 (IsUtf8-name _ c.self.invariant.name)
