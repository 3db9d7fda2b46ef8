use Rattle.ent_types.proofs.RegistryLemmas.{insert_key-next}
use Rattle.ent_types.proofs.registry.names_of.Goals as goal

pub loop-info-preserved : goal.loop-info-preserved
loop-info-preserved c =
    insert_key-next c.args.types.now c.loop-info.info-index c.info-item.result c.loop-info-test.true c.info-item.is c.requires c.loop-info.names.keys c.insert.new.self.keys c.loop-info.invariant c.in_ok-insert.ensures.keys
