use Rattle.std.proofs.Common.{◌≡◌, ◌∙◌, sym, ap, subst, length, map, List, vec_capacity}
use Rattle.block_columns.specs.Places.{at_places}
use Rattle.block_columns.specs.Types.{with_number_in, TakesNumbers}
use Rattle.chunk_block.specs.Pieces.{Place, places_of, OfRows, stored_numbers}
use Rattle.chunk_block.specs.Blocks.{BlockState, type_of, changed, OfType, kind_at, marks_of}
use Rattle.chunk_block.proofs.Places.{there}
use Rattle.chunk_block.proofs.Changed.{sound_changed}
use Rattle.chunk_block.proofs.Views.{seen, size, after_all_rows, each_number, stored_keeps}
use Rattle.chunk_block.proofs.block.Block.store.Goals as goal

pub store-requires : goal.store-requires
store-requires c =
    let b = c.self.inside in
    let ps = places_of b.slots.items in
    let es = b.entities.items in
    let n = length es in
    let marks = marks_of b.marks.items in
    let inv = c.self.invariant in
    let of = subst (λ (s : BlockState). OfType c.args.ty.0 (TakesNumbers c.args.field) s.columns) (sym c.self.view_is) c.requires.there in
    let count : length c.args.numbers.now ≡ n = c.requires.size ∙ size c.args.self.now b.types b.capacity ps b.dying es n marks b.order c.self.view_is in
    there n b.capacity c.args.ty.0 (TakesNumbers c.args.field) (OfRows (length c.args.numbers.now) (TakesNumbers c.args.field)) ps inv.suit of (λ y takes long. (count ∙ sym long, takes))

pub invariant_of-self : goal.invariant_of-self
invariant_of-self c =
    let b = c.self.inside in
    let ps = places_of b.slots.items in
    let es = b.entities.items in
    let n = length es in
    let marks = marks_of b.marks.items in
    let inv = c.self.invariant in
    rw c.store.ensures (sound_changed n (vec_capacity b.entities) b.capacity c.args.ty.0 (stored_numbers c.args.rows.now c.args.field c.args.numbers.now) b.dying ps (stored_keeps c.args.rows.now c.args.field c.args.numbers.now) inv)

pub returns : goal.returns
returns c =
    let b = c.self.inside in
    let ps = places_of b.slots.items in
    let es = b.entities.items in
    let n = length es in
    let marks = marks_of b.marks.items in
    let inv = c.self.invariant in
    let of = subst (λ (s : BlockState). OfType c.args.ty.0 (TakesNumbers c.args.field) s.columns) (sym c.self.view_is) c.requires.there in
    ap (λ (qs : List Place). seen b.types b.capacity qs b.dying es n marks b.order) c.store.ensures
    ∙ (after_all_rows b.types b.capacity c.args.ty.0 (stored_numbers c.args.rows.now c.args.field c.args.numbers.now) (with_number_in c.args.rows.now (kind_at c.args.ty.0 c.args.field (map type_of ps)) c.args.field c.args.numbers.now) ps b.dying es n marks b.order (each_number n b.capacity c.args.ty.0 c.args.field (TakesNumbers c.args.field) c.args.rows.now c.args.numbers.now ps inv.suit of)
    ∙ ap (λ (s : BlockState). record s { rows = at_places (λ k r. changed c.args.ty.0 (with_number_in c.args.rows.now (kind_at c.args.ty.0 c.args.field s.columns) c.args.field c.args.numbers.now k) r) 0 s.rows }) c.self.view_is)
