use Rattle.std.proofs.Common.{◌<◌, ◌∙◌, sym, ap, subst, length}
use Rattle.std.specs.Prelude.{⊤}
use Rattle.block_columns.specs.Columns.{value_at}
use Rattle.block_columns.specs.Types.{HasField}
use Rattle.chunk_block.specs.Pieces.{places_of}
use Rattle.chunk_block.specs.Blocks.{BlockState, row_in, field_at, OfType, marks_of}
use Rattle.chunk_block.proofs.Places.{there, found, read_row}
use Rattle.chunk_block.proofs.Views.{size}
use Rattle.chunk_block.proofs.block.Block.field_get.Goals as goal

pub find_rows-requires : goal.find_rows-requires
find_rows-requires c =
    let b = c.self.inside in
    let ps = places_of b.slots.items in
    let es = b.entities.items in
    let n = length es in
    let marks = marks_of b.marks.items in
    let inv = c.self.invariant in
    let of = subst (λ (s : BlockState). OfType c.args.ty.0 (HasField c.args.field) s.columns) (sym c.self.view_is) c.requires.there in
    there n b.capacity c.args.ty.0 (HasField c.args.field) (λ y. ⊤) ps inv.suit of (λ y takes long. tt)

pub get-requires-clause-within : goal.get-requires-clause-within
get-requires-clause-within c =
    let b = c.self.inside in
    let ps = places_of b.slots.items in
    let es = b.entities.items in
    let n = length es in
    let marks = marks_of b.marks.items in
    let inv = c.self.invariant in
    let within : c.args.row < n = subst (λ m. c.args.row < m) (size c.args.self.now b.types b.capacity ps b.dying es n marks b.order c.self.view_is) c.requires.within in
    let of = subst (λ (s : BlockState). OfType c.args.ty.0 (HasField c.args.field) s.columns) (sym c.self.view_is) c.requires.there in
    found c.args.ty.0 (λ y. c.args.row < length y.cells) c.find_rows.result.now ps c.find_rows.ensures
    (there n b.capacity c.args.ty.0 (HasField c.args.field) (λ y. c.args.row < length y.cells) ps inv.suit of (λ y takes long. subst (λ m. c.args.row < m) (sym long) within))

pub get-requires-clause-there : goal.get-requires-clause-there
get-requires-clause-there c =
    let b = c.self.inside in
    let ps = places_of b.slots.items in
    let es = b.entities.items in
    let n = length es in
    let marks = marks_of b.marks.items in
    let inv = c.self.invariant in
    let of = subst (λ (s : BlockState). OfType c.args.ty.0 (HasField c.args.field) s.columns) (sym c.self.view_is) c.requires.there in
    found c.args.ty.0 (λ y. (HasField c.args.field) y.shape) c.find_rows.result.now ps c.find_rows.ensures
    (there n b.capacity c.args.ty.0 (HasField c.args.field) (λ y. (HasField c.args.field) y.shape) ps inv.suit of (λ y takes long. takes))

pub returns : goal.returns
returns c =
    let b = c.self.inside in
    let ps = places_of b.slots.items in
    let es = b.entities.items in
    let n = length es in
    let marks = marks_of b.marks.items in
    let inv = c.self.invariant in
    let within : c.args.row < n = subst (λ m. c.args.row < m) (size c.args.self.now b.types b.capacity ps b.dying es n marks b.order c.self.view_is) c.requires.within in
    read_row c.args.ty.0 c.args.row n (λ x. value_at c.args.field x.values) c.get.result ps b.dying es c.find_rows.result.now within c.find_rows.ensures c.get.ensures
    ∙ ap (λ (s : BlockState). field_at c.args.ty.0 c.args.field (row_in c.args.row s.rows)) c.self.view_is
