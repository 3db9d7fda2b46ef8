use Rattle.std.proofs.Common.{◌∙◌, sym, ap, subst, length, List, vec_capacity}
use Rattle.block_columns.specs.Places.{at_places}
use Rattle.block_columns.specs.Types.{all_rows, with_enabled_in, IsEnableable}
use Rattle.chunk_block.specs.Pieces.{Place, places_of, OfShape}
use Rattle.chunk_block.specs.Blocks.{BlockState, changed, OfType, marks_of}
use Rattle.chunk_block.proofs.Places.{there}
use Rattle.chunk_block.proofs.Changed.{all_rows_keeps, sound_changed}
use Rattle.chunk_block.proofs.Views.{seen, after_all_rows, each_row}
use Rattle.chunk_block.proofs.block.Block.store_enabled.Goals as goal

pub store_enabled-requires : goal.store_enabled-requires
store_enabled-requires c =
    let b = c.self.inside in
    let ps = places_of b.slots.items in
    let es = b.entities.items in
    let n = length es in
    let marks = marks_of b.marks.items in
    let inv = c.self.invariant in
    let of = subst (λ (s : BlockState). OfType c.args.ty.0 (IsEnableable) s.columns) (sym c.self.view_is) c.requires in
    there n b.capacity c.args.ty.0 (IsEnableable) (OfShape (IsEnableable)) ps inv.suit of (λ y takes long. takes)

pub invariant_of-self : goal.invariant_of-self
invariant_of-self c =
    let b = c.self.inside in
    let ps = places_of b.slots.items in
    let es = b.entities.items in
    let n = length es in
    let marks = marks_of b.marks.items in
    let inv = c.self.invariant in
    rw c.store_enabled.ensures (sound_changed n (vec_capacity b.entities) b.capacity c.args.ty.0 (all_rows (with_enabled_in c.args.rows.now c.args.on.now)) b.dying ps (all_rows_keeps (with_enabled_in c.args.rows.now c.args.on.now)) inv)

pub returns : goal.returns
returns c =
    let b = c.self.inside in
    let ps = places_of b.slots.items in
    let es = b.entities.items in
    let n = length es in
    let marks = marks_of b.marks.items in
    let inv = c.self.invariant in
    let of = subst (λ (s : BlockState). OfType c.args.ty.0 (IsEnableable) s.columns) (sym c.self.view_is) c.requires in
    ap (λ (qs : List Place). seen b.types b.capacity qs b.dying es n marks b.order) c.store_enabled.ensures
    ∙ (after_all_rows b.types b.capacity c.args.ty.0 (all_rows (with_enabled_in c.args.rows.now c.args.on.now)) (with_enabled_in c.args.rows.now c.args.on.now) ps b.dying es n marks b.order (each_row n b.capacity c.args.ty.0 (IsEnableable) (with_enabled_in c.args.rows.now c.args.on.now) ps inv.suit of)
    ∙ ap (λ (s : BlockState). record s { rows = at_places (λ k r. changed c.args.ty.0 (with_enabled_in c.args.rows.now c.args.on.now k) r) 0 s.rows }) c.self.view_is)
