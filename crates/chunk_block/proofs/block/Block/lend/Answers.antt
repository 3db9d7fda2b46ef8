use Rattle.std.proofs.Common.{◌∙◌, sym, ap, subst, length, map, List, vec_capacity}
use Rattle.std.specs.List.{flat_map}
use Rattle.world_model.specs.Row.{Row}
use Rattle.block_columns.specs.Places.{tabulated}
use Rattle.block_columns.specs.Types.{TypeState}
use Rattle.chunk_block.specs.Pieces.{Place, places_of, kept}
use Rattle.chunk_block.specs.Blocks.{BlockState, LoanState, BlockType, type_of, row_at, AreHeld, marks_of, lent_type, lent_row, lent_piece, AreDistinct, column_types, ArePiecesOf}
use Rattle.chunk_block.proofs.Lent.{rows_kept, types_kept, pieces_lent, sound_kept}
use Rattle.chunk_block.proofs.Views.{seen, types_of_places}
use Rattle.chunk_block.proofs.Loans.{still_of_lent, own_pieces}
use Rattle.chunk_block.proofs.block.Block.lend.Goals as goal

pub lend_all-pieces-requires : goal.lend_all-pieces-requires
lend_all-pieces-requires c =
    let b = c.self.inside in
    let ps = places_of b.slots.items in
    let es = b.entities.items in
    let n = length es in
    let marks = marks_of b.marks.items in
    let inv = c.self.invariant in
    inv.small

pub invariant_of-self : goal.invariant_of-self
invariant_of-self c =
    let b = c.self.inside in
    let ps = places_of b.slots.items in
    let es = b.entities.items in
    let n = length es in
    let marks = marks_of b.marks.items in
    let inv = c.self.invariant in
    rw c.lend_all-pieces.ensures.slots (sound_kept c.args.types.now n (vec_capacity b.entities) b.capacity b.dying ps inv)

pub returns-clause-block : goal.returns-clause-block
returns-clause-block c =
    let b = c.self.inside in
    let ps = places_of b.slots.items in
    let es = b.entities.items in
    let n = length es in
    let marks = marks_of b.marks.items in
    let inv = c.self.invariant in
    ap (λ (qs : List Place). seen b.types b.capacity qs b.dying es n marks b.order) c.lend_all-pieces.ensures.slots
    ∙ (ap (λ (ts : List BlockType). record { types = b.types; columns = ts; capacity = b.capacity; rows = tabulated (row_at (map (kept c.args.types.now) ps) b.dying es) 0 n; marks = marks; order = b.order }) (types_kept c.args.types.now ps)
    ∙ (ap (λ (rs : List Row). record { types = b.types; columns = map (lent_type c.args.types.now) (map type_of ps); capacity = b.capacity; rows = rs; marks = marks; order = b.order }) (rows_kept c.args.types.now ps b.dying es n)
    ∙ ap (λ (s : BlockState). record s { columns = map (lent_type c.args.types.now) s.columns; rows = map (lent_row c.args.types.now) s.rows }) c.self.view_is))

pub returns-clause-loan : goal.returns-clause-loan
returns-clause-loan c =
    let b = c.self.inside in
    let ps = places_of b.slots.items in
    let es = b.entities.items in
    let n = length es in
    let marks = marks_of b.marks.items in
    let inv = c.self.invariant in
    let held = subst (λ (s : BlockState). AreHeld c.args.types.now s.columns) (sym c.self.view_is) c.requires in
    ap (λ (xs : List TypeState). record { number = c.args.number; types = c.args.types.now; pieces = xs })
    (c.lend_all-pieces.ensures.list
    ∙ (pieces_lent c.args.types.now n b.capacity ps b.dying es inv.distinct inv.suit held
    ∙ ap (λ (s : BlockState). flat_map (lent_piece c.args.types.now s.capacity s.rows) s.columns) c.self.view_is))

pub returns-clause-own : goal.returns-clause-own
returns-clause-own c =
    let b = c.self.inside in
    let ps = places_of b.slots.items in
    let es = b.entities.items in
    let n = length es in
    let marks = marks_of b.marks.items in
    let inv = c.self.invariant in
    let held = subst (λ (s : BlockState). AreHeld c.args.types.now s.columns) (sym c.self.view_is) c.requires in
    let of = own_pieces c.args.types.now c.args.self.now (subst (λ (s : BlockState). AreDistinct (column_types s.columns)) c.self.view_is (subst AreDistinct (sym (types_of_places ps)) inv.distinct)) in
    subst (λ (l : LoanState). ArePiecesOf (seen b.types b.capacity (places_of c.lend_all-pieces.new.slots.items) b.dying es n marks b.order) l.pieces) (sym (returns-clause-loan c))
    (still_of_lent c.args.types.now c.args.self.now _ (lent_row c.args.types.now) _ (returns-clause-block c) of)

pub returns-clause-others : goal.returns-clause-others
returns-clause-others c = λ other of. still_of_lent c.args.types.now c.args.self.now _ (lent_row c.args.types.now) other.pieces (returns-clause-block c) of
