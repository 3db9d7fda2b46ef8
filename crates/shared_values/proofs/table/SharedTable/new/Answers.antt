use Rattle.std.proofs.Common.{◌==◌, length, nat_lt, [], sym, ap, arith}
use Rattle.std.proofs.lemmas.Bool.{and_left, le-ltb}
use Rattle.std.specs.List.{IsDistinct}
use Rattle.shared_values.specs.Holds.{holds_of}
use Rattle.shared_values.proofs.table.SharedTable.new.Goals as goal

pub invariant_of-result : goal.invariant_of-result
unfolding IsDistinct
invariant_of-result c =
    record {
      once = rw c.new-2.ensures.items tt;
      free = λ id. rw (c.new-2.ensures.items, c.new.ensures.items) (sym (and_left (nat_lt id 0) (holds_of [] id == 0) (le-ltb id 0 (omega arith))));
      ids = λ key id. rw (c.new-3.ensures.empty, c.new.ensures.items) (λ h. cc, λ h. absurd (omega (arith, h.0)));
      room = omega (arith, ap length c.new.ensures.items);
    }
