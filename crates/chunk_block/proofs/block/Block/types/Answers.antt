use Rattle.std.proofs.Common.{sym, subst, length}
use Rattle.chunk_block.specs.Pieces.{places_of}
use Rattle.chunk_block.specs.Blocks.{BlockState, marks_of, AreDistinct, HaveTypes, column_types}
use Rattle.chunk_block.proofs.Views.{types_of_places, have_types}
use Rattle.chunk_block.proofs.block.Block.types.Goals as goal

pub returns-clause-distinct : goal.returns-clause-distinct
returns-clause-distinct c =
    let b = c.self.inside in
    let ps = places_of b.slots.items in
    let es = b.entities.items in
    let n = length es in
    let marks = marks_of b.marks.items in
    let inv = c.self.invariant in
    subst (λ (s : BlockState). AreDistinct (column_types s.columns)) c.self.view_is (subst AreDistinct (sym (types_of_places ps)) inv.distinct)

pub returns-clause-cells : goal.returns-clause-cells
returns-clause-cells c =
    let b = c.self.inside in
    let ps = places_of b.slots.items in
    let es = b.entities.items in
    let n = length es in
    let marks = marks_of b.marks.items in
    let inv = c.self.invariant in
    subst (λ (s : BlockState). HaveTypes (column_types s.columns) s.rows) c.self.view_is (have_types ps b.dying es 0 n)
