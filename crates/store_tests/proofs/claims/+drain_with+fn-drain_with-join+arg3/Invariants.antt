use Rattle.std.proofs.Common.{◌*◌, ◌+◌}
use Rattle.store_tests.proofs.claims.+drain_with+fn-drain_with-join+arg3.Given as goal

abbrev pub decreases-drain_with : goal.decreases-drain_with
decreases-drain_with g l = 2 * l.threads

abbrev pub decreases-join+arg3 : goal.decreases-join+arg3
decreases-join+arg3 g l = 2 * l.rest + 1
