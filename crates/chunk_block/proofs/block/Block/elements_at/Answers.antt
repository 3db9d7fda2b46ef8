use Rattle.std.proofs.Common.{◌≡◌, ◌<◌, ◌∙◌, sym, ap, subst, length}
use Rattle.std.specs.Prelude.{⊤}
use Rattle.buffer_store.specs.Buffers.{buffer}
use Rattle.block_columns.specs.Types.{TypeState, cell_in, IsBuffer}
use Rattle.chunk_block.specs.Pieces.{places_of}
use Rattle.chunk_block.specs.Blocks.{BlockState, row_in, content_at, OfType, marks_of}
use Rattle.chunk_block.proofs.Places.{there, found, of_place, read_elements}
use Rattle.chunk_block.proofs.Views.{size}
use Rattle.chunk_block.proofs.block.Block.elements_at.Goals as goal

pub find_rows-requires : goal.find_rows-requires
find_rows-requires c =
    let b = c.self.inside in
    let ps = places_of b.slots.items in
    let es = b.entities.items in
    let n = length es in
    let marks = marks_of b.marks.items in
    let inv = c.self.invariant in
    let of = subst (λ (s : BlockState). OfType c.args.ty.0 (IsBuffer) s.columns) (sym c.self.view_is) c.requires.there in
    there n b.capacity c.args.ty.0 (IsBuffer) (λ y. ⊤) ps inv.suit of (λ y takes long. tt)

pub elements_at-requires-clause-within : goal.elements_at-requires-clause-within
elements_at-requires-clause-within c =
    let b = c.self.inside in
    let ps = places_of b.slots.items in
    let es = b.entities.items in
    let n = length es in
    let marks = marks_of b.marks.items in
    let inv = c.self.invariant in
    let within : c.args.row < n = subst (λ m. c.args.row < m) (size c.args.self.now b.types b.capacity ps b.dying es n marks b.order c.self.view_is) c.requires.within in
    let of = subst (λ (s : BlockState). OfType c.args.ty.0 (IsBuffer) s.columns) (sym c.self.view_is) c.requires.there in
    found c.args.ty.0 (λ y. c.args.row < length y.cells) c.find_rows.result.now ps c.find_rows.ensures
    (there n b.capacity c.args.ty.0 (IsBuffer) (λ y. c.args.row < length y.cells) ps inv.suit of (λ y takes long. subst (λ m. c.args.row < m) (sym long) within))

pub elements_at-requires-clause-buffer : goal.elements_at-requires-clause-buffer
elements_at-requires-clause-buffer c =
    let b = c.self.inside in
    let ps = places_of b.slots.items in
    let es = b.entities.items in
    let n = length es in
    let marks = marks_of b.marks.items in
    let inv = c.self.invariant in
    let of = subst (λ (s : BlockState). OfType c.args.ty.0 (IsBuffer) s.columns) (sym c.self.view_is) c.requires.there in
    found c.args.ty.0 (λ y. (IsBuffer) y.shape) c.find_rows.result.now ps c.find_rows.ensures
    (there n b.capacity c.args.ty.0 (IsBuffer) (λ y. (IsBuffer) y.shape) ps inv.suit of (λ y takes long. takes))

pub returns : goal.returns
returns c =
    let b = c.self.inside in
    let ps = places_of b.slots.items in
    let es = b.entities.items in
    let n = length es in
    let marks = marks_of b.marks.items in
    let inv = c.self.invariant in
    let within : c.args.row < n = subst (λ m. c.args.row < m) (size c.args.self.now b.types b.capacity ps b.dying es n marks b.order c.self.view_is) c.requires.within in
    let of = subst (λ (s : BlockState). OfType c.args.ty.0 (IsBuffer) s.columns) (sym c.self.view_is) c.requires.there in
    subst (λ (s : BlockState). OfType c.args.ty.0 (λ shape. c.elements_at.result.now ≡ buffer (length shape.kinds) (content_at c.args.ty.0 (row_in c.args.row s.rows).cells).values) s.columns) c.self.view_is
    (read_elements n b.capacity c.args.ty.0 c.args.row (IsBuffer) c.elements_at.result.now ps b.dying es within inv.suit of
    (of_place c.args.ty.0 (λ y. c.find_rows.result.now ≡ y) (λ y. c.elements_at.result.now ≡ buffer (length y.shape.kinds) (cell_in c.args.row y.cells).values) ps
    (λ y same. c.elements_at.ensures ∙ ap (λ (x : TypeState). buffer (length x.shape.kinds) (cell_in c.args.row x.cells).values) same) c.find_rows.ensures))
