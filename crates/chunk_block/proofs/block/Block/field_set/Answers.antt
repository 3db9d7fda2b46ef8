use Rattle.std.proofs.Common.{◌≡◌, ◌<◌, ◌∙◌, sym, ap, subst, length, List, vec_capacity}
use Rattle.std.proofs.Math.ListN.{set}
use Rattle.block_columns.specs.Types.{one_row, with_value, TakesValue}
use Rattle.chunk_block.specs.Pieces.{Place, places_of, InRow}
use Rattle.chunk_block.specs.Blocks.{BlockState, row_in, changed, OfType, marks_of}
use Rattle.chunk_block.proofs.Places.{there}
use Rattle.chunk_block.proofs.Changed.{one_row_keeps, sound_changed}
use Rattle.chunk_block.proofs.Views.{seen, size, after_one_row}
use Rattle.chunk_block.proofs.block.Block.field_set.Goals as goal

pub set_value-requires : goal.set_value-requires
set_value-requires c =
    let b = c.self.inside in
    let ps = places_of b.slots.items in
    let es = b.entities.items in
    let n = length es in
    let marks = marks_of b.marks.items in
    let inv = c.self.invariant in
    let within : c.args.row < n = subst (λ m. c.args.row < m) (size c.args.self.now b.types b.capacity ps b.dying es n marks b.order c.self.view_is) c.requires.within in
    let of = subst (λ (s : BlockState). OfType c.args.ty.0 (TakesValue c.args.field c.args.value) s.columns) (sym c.self.view_is) c.requires.there in
    there n b.capacity c.args.ty.0 (TakesValue c.args.field c.args.value) (InRow c.args.row (TakesValue c.args.field c.args.value)) ps inv.suit of (λ y takes long. (subst (λ m. c.args.row < m) (sym long) within, takes))

pub invariant_of-self : goal.invariant_of-self
invariant_of-self c =
    let b = c.self.inside in
    let ps = places_of b.slots.items in
    let es = b.entities.items in
    let n = length es in
    let marks = marks_of b.marks.items in
    let inv = c.self.invariant in
    rw c.set_value.ensures (sound_changed n (vec_capacity b.entities) b.capacity c.args.ty.0 (one_row c.args.row (with_value c.args.field c.args.value)) b.dying ps (one_row_keeps c.args.row (with_value c.args.field c.args.value)) inv)

pub returns : goal.returns
returns c =
    let b = c.self.inside in
    let ps = places_of b.slots.items in
    let es = b.entities.items in
    let n = length es in
    let marks = marks_of b.marks.items in
    let inv = c.self.invariant in
    let within : c.args.row < n = subst (λ m. c.args.row < m) (size c.args.self.now b.types b.capacity ps b.dying es n marks b.order c.self.view_is) c.requires.within in
    let of = subst (λ (s : BlockState). OfType c.args.ty.0 (TakesValue c.args.field c.args.value) s.columns) (sym c.self.view_is) c.requires.there in
    ap (λ (qs : List Place). seen b.types b.capacity qs b.dying es n marks b.order) c.set_value.ensures
    ∙ (after_one_row b.types b.capacity c.args.ty.0 c.args.row (with_value c.args.field c.args.value) ps b.dying es n marks b.order within (there n b.capacity c.args.ty.0 (TakesValue c.args.field c.args.value) (λ y. length y.cells ≡ n) ps inv.suit of (λ y takes long. long))
    ∙ ap (λ (s : BlockState). record s { rows = set s.rows c.args.row (changed c.args.ty.0 (with_value c.args.field c.args.value) (row_in c.args.row s.rows)) }) c.self.view_is)
