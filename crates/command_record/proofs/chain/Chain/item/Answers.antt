use Rattle.std.proofs.Common.{subst}
use Rattle.command_record.specs.Chains.{AreOwn}
use Rattle.command_record.proofs.Chains.{own_entry}
use Rattle.command_record.proofs.chain.Chain.item.Goals as goal

pub returns-clause-entries : goal.returns-clause-entries
returns-clause-entries c =
    let chain = c.self.inside in
    subst AreOwn c.self.view_is (own_entry chain.item chain.parts.items chain.values.items chain.heads.items)
