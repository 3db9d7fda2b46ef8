use Rattle.std.proofs.Common.{◌≡◌, ◌∙◌, sym, ap, subst, length, map, fold, List, vec_capacity}
use Rattle.world_model.specs.Row.{Row}
use Rattle.block_columns.specs.Places.{tabulated}
use Rattle.block_columns.specs.Types.{TypeState}
use Rattle.chunk_block.specs.Pieces.{Place, places_of, pieces_in, put_all}
use Rattle.chunk_block.specs.Blocks.{BlockState, LoanState, BlockType, type_of, row_at, marks_of, given_type, given_rows, ArePiecesOf}
use Rattle.chunk_block.proofs.Given.{rows_given, types_given, sound_given}
use Rattle.chunk_block.proofs.Views.{seen, pieces_of}
use Rattle.chunk_block.proofs.Loans.{still_of_given}
use Rattle.chunk_block.proofs.block.Block.give_back.Goals as goal

pub invariant_of-self : goal.invariant_of-self
invariant_of-self c =
    let b = c.self.inside in
    let ps = places_of b.slots.items in
    let es = b.entities.items in
    let n = length es in
    let marks = marks_of b.marks.items in
    let inv = c.self.invariant in
    let xs = pieces_in c.loan.inside.pieces in
    let is : xs ≡ c.args.loan.pieces = ap (λ (l : LoanState). l.pieces) c.loan.view_is in
    rw c.put_back.ensures
    (sound_given n (vec_capacity b.entities) b.capacity b.dying xs ps
    (pieces_of c.args.self.now b.types b.capacity ps b.dying es n marks b.order xs c.self.view_is (subst (λ (ys : List TypeState). ArePiecesOf c.args.self.now ys) (sym is) c.requires)) inv)

pub returns-clause-block : goal.returns-clause-block
returns-clause-block c =
    let b = c.self.inside in
    let ps = places_of b.slots.items in
    let es = b.entities.items in
    let n = length es in
    let marks = marks_of b.marks.items in
    let inv = c.self.invariant in
    let xs = pieces_in c.loan.inside.pieces in
    let is : xs ≡ c.args.loan.pieces = ap (λ (l : LoanState). l.pieces) c.loan.view_is in
    ap (λ (qs : List Place). seen b.types b.capacity qs b.dying es n marks b.order) c.put_back.ensures
    ∙ (ap (λ (ts : List BlockType). record { types = b.types; columns = ts; capacity = b.capacity; rows = tabulated (row_at (put_all ps xs) b.dying es) 0 n; marks = marks; order = b.order }) (types_given xs ps)
    ∙ (ap (λ (rs : List Row). record { types = b.types; columns = fold given_type (map type_of ps) xs; capacity = b.capacity; rows = rs; marks = marks; order = b.order }) (rows_given n xs ps b.dying es)
    ∙ (ap (λ (s : BlockState). record s { columns = fold given_type s.columns xs; rows = fold given_rows s.rows xs }) c.self.view_is
    ∙ ap (λ (ys : List TypeState). record c.args.self.now { columns = fold given_type c.args.self.now.columns ys; rows = fold given_rows c.args.self.now.rows ys }) is)))

pub returns-clause-others : goal.returns-clause-others
returns-clause-others c = λ other of. still_of_given c.args.loan.pieces c.args.self.now _ other.pieces (returns-clause-block c) of
