use Rattle.std.proofs.Common.{subst}
use Rattle.std.specs.HashMap.{get}
use Rattle.shared_values.specs.Keys.{same_key}
use Rattle.shared_values.specs.Holds.{AreOneEach}
use Rattle.shared_values.proofs.FoundIds.{one_each}
use Rattle.shared_values.proofs.table.SharedTable.has_one_each.Goals as goal

pub returns : goal.returns
returns c = subst AreOneEach c.self.view_is (one_each c.self.inside.slots.items (get same_key c.self.inside.ids) c.self.invariant.ids)
