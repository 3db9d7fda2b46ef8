use Rattle.std.proofs.Common.{◌≤◌, ◌∙◌, sym, ap, subst, length, arith}
use Rattle.chunk_block.specs.Pieces.{places_of}
use Rattle.chunk_block.specs.Blocks.{BlockState, marks_of}
use Rattle.chunk_block.proofs.Views.{size}
use Rattle.chunk_block.proofs.block.Block.len.Goals as goal

pub count-requires : goal.count-requires
count-requires c =
    let b = c.self.inside in
    let ps = places_of b.slots.items in
    let es = b.entities.items in
    let n = length es in
    let marks = marks_of b.marks.items in
    let inv = c.self.invariant in
    omega (arith, inv.few, inv.most)

pub returns-clause-value : goal.returns-clause-value
returns-clause-value c =
    let b = c.self.inside in
    let ps = places_of b.slots.items in
    let es = b.entities.items in
    let n = length es in
    let marks = marks_of b.marks.items in
    let inv = c.self.invariant in
    c.count.ensures ∙ sym (size c.args.self.now b.types b.capacity ps b.dying es n marks b.order c.self.view_is)

pub returns-clause-bound : goal.returns-clause-bound
returns-clause-bound c =
    let b = c.self.inside in
    let ps = places_of b.slots.items in
    let es = b.entities.items in
    let n = length es in
    let marks = marks_of b.marks.items in
    let inv = c.self.invariant in
    rw c.count.ensures (subst (λ m. n ≤ m) (ap (λ (s : BlockState). s.capacity) c.self.view_is) inv.few)
