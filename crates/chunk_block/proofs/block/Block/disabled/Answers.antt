use Rattle.std.proofs.Common.{◌≡◌, ◌∙◌, sym, ap, subst, length}
use Rattle.std.specs.Prelude.{⊤}
use Rattle.enable_bits.specs.Masks.{has}
use Rattle.chunk_block.specs.Pieces.{places_of}
use Rattle.chunk_block.specs.Blocks.{BlockState, row_in, is_off, OfType, marks_of}
use Rattle.chunk_block.proofs.Places.{there, found, read_bit}
use Rattle.chunk_block.proofs.block.Block.disabled.Goals as goal

pub find_rows-requires : goal.find_rows-requires
find_rows-requires c =
    let b = c.self.inside in
    let ps = places_of b.slots.items in
    let es = b.entities.items in
    let n = length es in
    let marks = marks_of b.marks.items in
    let inv = c.self.invariant in
    let of = subst (λ (s : BlockState). OfType c.args.ty.0 (λ _. ⊤) s.columns) (sym c.self.view_is) c.requires in
    there n b.capacity c.args.ty.0 (λ _. ⊤) (λ y. ⊤) ps inv.suit of (λ y takes long. tt)

pub returns : goal.returns
returns c = λ k.
    let b = c.self.inside in
    let ps = places_of b.slots.items in
    let es = b.entities.items in
    let n = length es in
    let marks = marks_of b.marks.items in
    let inv = c.self.invariant in
    let of = subst (λ (s : BlockState). OfType c.args.ty.0 (λ _. ⊤) s.columns) (sym c.self.view_is) c.requires in
    let long = found c.args.ty.0 (λ y. length y.cells ≡ n) c.find_rows.result.now ps c.find_rows.ensures (there n b.capacity c.args.ty.0 (λ _. ⊤) (λ y. length y.cells ≡ n) ps inv.suit of (λ y takes size. size)) in
    read_bit c.args.ty.0 k n (has c.disabled.result k) ps b.dying es c.find_rows.result.now long c.find_rows.ensures (c.disabled.ensures k)
    ∙ ap (λ (s : BlockState). is_off c.args.ty.0 (row_in k s.rows)) c.self.view_is
