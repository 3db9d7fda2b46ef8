use Rattle.std.proofs.Common.{◌≡◌, ◌∙◌, sym, ap, subst, length, List, vec_capacity}
use Rattle.block_columns.specs.Places.{at_places}
use Rattle.block_columns.specs.Types.{all_rows, with_reference_in, TakesReferences}
use Rattle.chunk_block.specs.Pieces.{Place, places_of, OfRows}
use Rattle.chunk_block.specs.Blocks.{BlockState, changed, OfType, marks_of}
use Rattle.chunk_block.proofs.Places.{there}
use Rattle.chunk_block.proofs.Changed.{all_rows_keeps, sound_changed}
use Rattle.chunk_block.proofs.Views.{seen, size, after_all_rows, each_row}
use Rattle.chunk_block.proofs.block.Block.store_references.Goals as goal

pub store_references-requires : goal.store_references-requires
store_references-requires c =
    let b = c.self.inside in
    let ps = places_of b.slots.items in
    let es = b.entities.items in
    let n = length es in
    let marks = marks_of b.marks.items in
    let inv = c.self.invariant in
    let of = subst (λ (s : BlockState). OfType c.args.ty.0 (TakesReferences c.args.field) s.columns) (sym c.self.view_is) c.requires.there in
    let count : length c.args.references.now ≡ n = c.requires.size ∙ size c.args.self.now b.types b.capacity ps b.dying es n marks b.order c.self.view_is in
    there n b.capacity c.args.ty.0 (TakesReferences c.args.field) (OfRows (length c.args.references.now) (TakesReferences c.args.field)) ps inv.suit of (λ y takes long. (count ∙ sym long, takes))

pub invariant_of-self : goal.invariant_of-self
invariant_of-self c =
    let b = c.self.inside in
    let ps = places_of b.slots.items in
    let es = b.entities.items in
    let n = length es in
    let marks = marks_of b.marks.items in
    let inv = c.self.invariant in
    rw c.store_references.ensures (sound_changed n (vec_capacity b.entities) b.capacity c.args.ty.0 (all_rows (with_reference_in c.args.rows.now c.args.field c.args.references.now)) b.dying ps (all_rows_keeps (with_reference_in c.args.rows.now c.args.field c.args.references.now)) inv)

pub returns : goal.returns
returns c =
    let b = c.self.inside in
    let ps = places_of b.slots.items in
    let es = b.entities.items in
    let n = length es in
    let marks = marks_of b.marks.items in
    let inv = c.self.invariant in
    let of = subst (λ (s : BlockState). OfType c.args.ty.0 (TakesReferences c.args.field) s.columns) (sym c.self.view_is) c.requires.there in
    ap (λ (qs : List Place). seen b.types b.capacity qs b.dying es n marks b.order) c.store_references.ensures
    ∙ (after_all_rows b.types b.capacity c.args.ty.0 (all_rows (with_reference_in c.args.rows.now c.args.field c.args.references.now)) (with_reference_in c.args.rows.now c.args.field c.args.references.now) ps b.dying es n marks b.order (each_row n b.capacity c.args.ty.0 (TakesReferences c.args.field) (with_reference_in c.args.rows.now c.args.field c.args.references.now) ps inv.suit of)
    ∙ ap (λ (s : BlockState). record s { rows = at_places (λ k r. changed c.args.ty.0 (with_reference_in c.args.rows.now c.args.field c.args.references.now k) r) 0 s.rows }) c.self.view_is)
