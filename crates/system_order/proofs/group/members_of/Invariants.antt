use Rattle.std.proofs.Common.{◌≡◌, ◌-◌, ◌<◌, eqb, length, take}
use Rattle.std.specs.List.{filter, range_with_len, All}
use Rattle.system_order.specs.Child.{child_at}
use Rattle.system_order.proofs.group.members_of.Given as goal

abbrev pub invariant-loop-number : goal.invariant-loop-number
invariant-loop-number l = record {
  value : l.siblings.items ≡ filter (λ number. eqb (child_at l.children number).parent l.group) (take (l.number - 3) (range_with_len 3 (length l.children - 3)));
  known : All (λ number. number < length l.children) l.siblings.items;
}
