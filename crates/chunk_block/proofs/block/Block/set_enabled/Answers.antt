use Rattle.std.proofs.Common.{◌≡◌, ◌<◌, ◌∙◌, not, sym, ap, subst, length, List, vec_capacity}
use Rattle.std.proofs.Math.ListN.{set}
use Rattle.block_columns.specs.Types.{one_row, with_off, IsEnableable}
use Rattle.chunk_block.specs.Pieces.{Place, places_of, InRow}
use Rattle.chunk_block.specs.Blocks.{BlockState, row_in, changed, OfType, marks_of}
use Rattle.chunk_block.proofs.Places.{there}
use Rattle.chunk_block.proofs.Changed.{one_row_keeps, sound_changed}
use Rattle.chunk_block.proofs.Views.{seen, size, after_one_row}
use Rattle.chunk_block.proofs.block.Block.set_enabled.Goals as goal

pub set_enabled-requires : goal.set_enabled-requires
set_enabled-requires c =
    let b = c.self.inside in
    let ps = places_of b.slots.items in
    let es = b.entities.items in
    let n = length es in
    let marks = marks_of b.marks.items in
    let inv = c.self.invariant in
    let within : c.args.row < n = subst (λ m. c.args.row < m) (size c.args.self.now b.types b.capacity ps b.dying es n marks b.order c.self.view_is) c.requires.within in
    let of = subst (λ (s : BlockState). OfType c.args.ty.0 (IsEnableable) s.columns) (sym c.self.view_is) c.requires.there in
    there n b.capacity c.args.ty.0 (IsEnableable) (InRow c.args.row (IsEnableable)) ps inv.suit of (λ y takes long. (subst (λ m. c.args.row < m) (sym long) within, takes))

pub invariant_of-self : goal.invariant_of-self
invariant_of-self c =
    let b = c.self.inside in
    let ps = places_of b.slots.items in
    let es = b.entities.items in
    let n = length es in
    let marks = marks_of b.marks.items in
    let inv = c.self.invariant in
    rw c.set_enabled.ensures (sound_changed n (vec_capacity b.entities) b.capacity c.args.ty.0 (one_row c.args.row (with_off (not c.args.on))) b.dying ps (one_row_keeps c.args.row (with_off (not c.args.on))) inv)

pub returns : goal.returns
returns c =
    let b = c.self.inside in
    let ps = places_of b.slots.items in
    let es = b.entities.items in
    let n = length es in
    let marks = marks_of b.marks.items in
    let inv = c.self.invariant in
    let within : c.args.row < n = subst (λ m. c.args.row < m) (size c.args.self.now b.types b.capacity ps b.dying es n marks b.order c.self.view_is) c.requires.within in
    let of = subst (λ (s : BlockState). OfType c.args.ty.0 (IsEnableable) s.columns) (sym c.self.view_is) c.requires.there in
    ap (λ (qs : List Place). seen b.types b.capacity qs b.dying es n marks b.order) c.set_enabled.ensures
    ∙ (after_one_row b.types b.capacity c.args.ty.0 c.args.row (with_off (not c.args.on)) ps b.dying es n marks b.order within (there n b.capacity c.args.ty.0 (IsEnableable) (λ y. length y.cells ≡ n) ps inv.suit of (λ y takes long. long))
    ∙ ap (λ (s : BlockState). record s { rows = set s.rows c.args.row (changed c.args.ty.0 (with_off (not c.args.on)) (row_in c.args.row s.rows)) }) c.self.view_is)
