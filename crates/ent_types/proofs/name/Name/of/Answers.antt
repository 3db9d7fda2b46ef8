use Rattle.ent_types.proofs.Padding.{front_padded}
use Rattle.ent_types.proofs.name.Name.of.Goals as goal

pub invariant_of-result : goal.invariant_of-result
invariant_of-result c = front_padded _ _ c.copy_from_slice.ensures.after c.if-not-are_name.ensures
