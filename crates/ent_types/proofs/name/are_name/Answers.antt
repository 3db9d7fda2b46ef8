use Rattle.std.proofs.Common.{arith, refl}
use Rattle.ent_types.proofs.Padding.{within_lengths}
use Rattle.ent_types.proofs.name.are_name.Goals as goal

pub returns-then-is_start : goal.returns-then-is_start
returns-then-is_start c =
    rw (c.are_inner.ensures, within_lengths c.args.bytes.now _ (omega arith) (omega arith), ← c.is_start.ensures, c.if-is_start.true) refl
