use Rattle.std.proofs.Common.{◌≡◌, ◌∙◌, sym, ap, subst, length, map}
use Rattle.std.specs.Prelude.{⊤}
use Rattle.block_columns.specs.Types.{HasField}
use Rattle.chunk_block.specs.Pieces.{places_of}
use Rattle.chunk_block.specs.Blocks.{BlockState, field_at, OfType, marks_of}
use Rattle.chunk_block.proofs.Places.{there, found, read_column}
use Rattle.chunk_block.proofs.block.Block.column.Goals as goal

pub find_rows-requires : goal.find_rows-requires
find_rows-requires c =
    let b = c.self.inside in
    let ps = places_of b.slots.items in
    let es = b.entities.items in
    let n = length es in
    let marks = marks_of b.marks.items in
    let inv = c.self.invariant in
    let of = subst (λ (s : BlockState). OfType c.args.ty.0 (HasField c.args.field) s.columns) (sym c.self.view_is) c.requires in
    there n b.capacity c.args.ty.0 (HasField c.args.field) (λ y. ⊤) ps inv.suit of (λ y takes long. tt)

pub column-requires : goal.column-requires
column-requires c =
    let b = c.self.inside in
    let ps = places_of b.slots.items in
    let es = b.entities.items in
    let n = length es in
    let marks = marks_of b.marks.items in
    let inv = c.self.invariant in
    let of = subst (λ (s : BlockState). OfType c.args.ty.0 (HasField c.args.field) s.columns) (sym c.self.view_is) c.requires in
    found c.args.ty.0 (λ y. (HasField c.args.field) y.shape) c.find_rows.result.now ps c.find_rows.ensures
    (there n b.capacity c.args.ty.0 (HasField c.args.field) (λ y. (HasField c.args.field) y.shape) ps inv.suit of (λ y takes long. takes))

pub returns : goal.returns
returns c =
    let b = c.self.inside in
    let ps = places_of b.slots.items in
    let es = b.entities.items in
    let n = length es in
    let marks = marks_of b.marks.items in
    let inv = c.self.invariant in
    let of = subst (λ (s : BlockState). OfType c.args.ty.0 (HasField c.args.field) s.columns) (sym c.self.view_is) c.requires in
    let long = found c.args.ty.0 (λ y. length y.cells ≡ n) c.find_rows.result.now ps c.find_rows.ensures (there n b.capacity c.args.ty.0 (HasField c.args.field) (λ y. length y.cells ≡ n) ps inv.suit of (λ y takes size. size)) in
    read_column c.args.ty.0 c.args.field n _ ps b.dying es c.find_rows.result.now long c.find_rows.ensures c.column.ensures
    ∙ ap (λ (s : BlockState). map (field_at c.args.ty.0 c.args.field) s.rows) c.self.view_is
