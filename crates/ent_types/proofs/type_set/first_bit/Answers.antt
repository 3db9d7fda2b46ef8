use Rattle.ent_types.proofs.TypeScan.{no_bit_left, first_bit_left}
use Rattle.ent_types.proofs.type_set.first_bit.Goals as goal

pub returns-then-left-eq0-clause-none : goal.returns-then-left-eq0-clause-none
returns-then-left-eq0-clause-none c = no_bit_left c.args.word c.args.from c.requires c.if-left-eq0.true

pub returns-else-left-eq0-clause-some : goal.returns-else-left-eq0-clause-some
returns-else-left-eq0-clause-some c = first_bit_left c.args.word c.args.from c.requires c.ranges.word.fits c.if-left-eq0.false
