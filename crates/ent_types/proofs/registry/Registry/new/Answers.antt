use Rattle.ent_types.proofs.RegistryLemmas.{IsLawfulRegistry-built_in}
use Rattle.ent_types.proofs.registry.Registry.new.Goals as goal

pub of-requires : goal.of-requires
of-requires c = rw c.in_ok-built_in.ensures IsLawfulRegistry-built_in
