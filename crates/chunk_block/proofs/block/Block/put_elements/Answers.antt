use Rattle.std.proofs.Common.{◌≡◌, ◌<◌, ◌∙◌, sym, ap, subst, length, List, vec_capacity}
use Rattle.std.proofs.Math.ListN.{set}
use Rattle.buffer_store.specs.Buffers.{buffer}
use Rattle.block_columns.specs.Types.{one_row, with_values, TakesElements}
use Rattle.chunk_block.specs.Pieces.{Place, places_of, InRow}
use Rattle.chunk_block.specs.Blocks.{BlockState, row_in, content_at, changed, OfType, marks_of}
use Rattle.chunk_block.proofs.Places.{there, read_elements}
use Rattle.chunk_block.proofs.Changed.{one_row_keeps, sound_changed}
use Rattle.chunk_block.proofs.Views.{seen, size, after_one_row}
use Rattle.chunk_block.proofs.block.Block.put_elements.Goals as goal

pub put_elements-requires : goal.put_elements-requires
put_elements-requires c =
    let b = c.self.inside in
    let ps = places_of b.slots.items in
    let es = b.entities.items in
    let n = length es in
    let marks = marks_of b.marks.items in
    let inv = c.self.invariant in
    let within : c.args.row < n = subst (λ m. c.args.row < m) (size c.args.self.now b.types b.capacity ps b.dying es n marks b.order c.self.view_is) c.requires.within in
    let of = subst (λ (s : BlockState). OfType c.args.ty.0 (TakesElements c.args.new) s.columns) (sym c.self.view_is) c.requires.there in
    there n b.capacity c.args.ty.0 (TakesElements c.args.new) (InRow c.args.row (TakesElements c.args.new)) ps inv.suit of (λ y takes long. (subst (λ m. c.args.row < m) (sym long) within, takes))

pub invariant_of-self : goal.invariant_of-self
invariant_of-self c =
    let b = c.self.inside in
    let ps = places_of b.slots.items in
    let es = b.entities.items in
    let n = length es in
    let marks = marks_of b.marks.items in
    let inv = c.self.invariant in
    rw c.put_elements.ensures.new (sound_changed n (vec_capacity b.entities) b.capacity c.args.ty.0 (one_row c.args.row (with_values c.args.new.values)) b.dying ps (one_row_keeps c.args.row (with_values c.args.new.values)) inv)

pub returns-clause-new : goal.returns-clause-new
returns-clause-new c =
    let b = c.self.inside in
    let ps = places_of b.slots.items in
    let es = b.entities.items in
    let n = length es in
    let marks = marks_of b.marks.items in
    let inv = c.self.invariant in
    let within : c.args.row < n = subst (λ m. c.args.row < m) (size c.args.self.now b.types b.capacity ps b.dying es n marks b.order c.self.view_is) c.requires.within in
    let of = subst (λ (s : BlockState). OfType c.args.ty.0 (TakesElements c.args.new) s.columns) (sym c.self.view_is) c.requires.there in
    ap (λ (qs : List Place). seen b.types b.capacity qs b.dying es n marks b.order) c.put_elements.ensures.new
    ∙ (after_one_row b.types b.capacity c.args.ty.0 c.args.row (with_values c.args.new.values) ps b.dying es n marks b.order within (there n b.capacity c.args.ty.0 (TakesElements c.args.new) (λ y. length y.cells ≡ n) ps inv.suit of (λ y takes long. long))
    ∙ ap (λ (s : BlockState). record s { rows = set s.rows c.args.row (changed c.args.ty.0 (with_values c.args.new.values) (row_in c.args.row s.rows)) }) c.self.view_is)

pub returns-clause-old : goal.returns-clause-old
returns-clause-old c =
    let b = c.self.inside in
    let ps = places_of b.slots.items in
    let es = b.entities.items in
    let n = length es in
    let marks = marks_of b.marks.items in
    let inv = c.self.invariant in
    let within : c.args.row < n = subst (λ m. c.args.row < m) (size c.args.self.now b.types b.capacity ps b.dying es n marks b.order c.self.view_is) c.requires.within in
    let of = subst (λ (s : BlockState). OfType c.args.ty.0 (TakesElements c.args.new) s.columns) (sym c.self.view_is) c.requires.there in
    subst (λ (s : BlockState). OfType c.args.ty.0 (λ shape. c.put_elements.result ≡ buffer (length shape.kinds) (content_at c.args.ty.0 (row_in c.args.row s.rows).cells).values) s.columns) c.self.view_is
    (read_elements n b.capacity c.args.ty.0 c.args.row (TakesElements c.args.new) c.put_elements.result ps b.dying es within inv.suit of c.put_elements.ensures.old)
