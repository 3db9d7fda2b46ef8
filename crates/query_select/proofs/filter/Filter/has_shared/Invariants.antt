use Rattle.query_select.proofs.ByNumber.{Decide}
use Rattle.query_select.proofs.filter.Filter.has_shared.Given as goal

-- the parts that are left decide
abbrev pub invariant-loop-part : goal.invariant-loop-part
invariant-loop-part l = Decide l.number l.store.blocks l.part-items l.part-index
