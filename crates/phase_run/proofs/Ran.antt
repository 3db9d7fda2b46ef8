-- The world to which the loans of a run came back.
use Rattle.std.proofs.Common.{ℕ, ◌≡◌, ◌∙◌, ◌+◌, inl, inr, Bool, true, false, cond, refl, sym, ap, ap₂, subst, List, [], ◌∷◌, length, map, fold, Option}
use Rattle.ent_types.specs.declared.type_info.TypeInfo.{TypeInfo}
use Rattle.ent_types.specs.TypeSets.{has_type}
use Rattle.enable_bits.specs.Masks.{has}
use Rattle.world_model.specs.Members.{In, AreDistinct}
use Rattle.world_model.specs.Row.{Row}
use Rattle.world_model.specs.Versions.{IsLawfulCode}
use Rattle.world_model.specs.World.{Block, Home, capacity}
use Rattle.world_laws.proofs.Members.{in_map, map_in}
use Rattle.expr_eval.specs.Values.{OtherRows}
use Rattle.chunk_block.specs.Blocks.{LoanState, given_rows}
use Rattle.world_loans.specs.Returns.{pieces_of}
use Rattle.structural_ops.specs.Freezing.{AreLoansOf, block_at, loan_of, with_cells, with_loans}
use Rattle.structural_ops.specs.Numbered.{by_number}
use Rattle.structural_ops.specs.Worlds.{WorldState}
use Rattle.scenario_record.specs.declared.record.SystemEntry.{SystemEntry}
use Rattle.run_model.specs.Clock.{versions}
use Rattle.run_model.specs.Job.{others_in, texts_of, writes}
use Rattle.run_model.specs.Query.{is_visited}
use Rattle.run_model.specs.Run.{rows_after}
use Rattle.run_laws.specs.Runnable.{SystemRuns, sources_of}
use Rattle.query_select.specs.declared.visits.Visit.{Visit}
use Rattle.item_run.specs.Seats.{Seat, after_texts_on}
use Rattle.item_run.specs.ItemRows.{RowsState, rows_of}
use Rattle.item_run.specs.Writing.{Does}
use Rattle.item_run.proofs.RowByRow.{as_run}
use Rattle.phase_run.specs.After.{blocks_ran, loans_for, rows_ran}
use Rattle.phase_run.specs.Visited.{AreDone, rows_of_loan}
use Rattle.phase_run.proofs.Chosen.{IsVisit, chosen, chosen_first, places_match, visit_at}
use Rattle.phase_run.proofs.Loaned.{loan_number, numbers_kept, pieces_elsewhere, pieces_single}
use Rattle.phase_run.proofs.Numbers.{AreAt, are_at, block_changed, there_changed}
use Rattle.phase_run.proofs.Reading.{AreAlike, rows_alike}
use Rattle.phase_run.proofs.Ready.{block_few, frozen, frozen_is, loan_for, loan_pieces, loans, loans_apart, visit_is}

module _ (w : WorldState) (s : SystemEntry) (last : Option ℕ) (types : List ℕ) (visits : List Visit) (are : visits ≡ chosen w.world.registry s last w.numbers w.world.blocks)
    (distinct : AreDistinct w.numbers) (long : length w.numbers ≡ length w.world.blocks)
    (frame : ℕ) (written : (t : ℕ) → has_type types t ≡ has_type (writes s) t) (runs : SystemRuns w.world.registry s) (lawful : IsLawfulCode (capacity w.world.registry) w.world)
    (of : AreLoansOf (frozen w s last types visits are distinct) (loans w s last types visits are distinct))
    (untouched : with_loans (loans w s last types visits are distinct) (frozen w s last types visits are distinct).state ≡ w)
    (alike : AreAlike (sources_of w.world.registry s) (others_in (frozen w s last types visits are distinct).state.world) (others_in w.world))
    (ms : List LoanState) (done : AreDone (frozen w s last types visits are distinct) s frame 0 visits (loans w s last types visits are distinct) ms)
    (brings : with_loans ms (frozen w s last types visits are distinct).state ≡ with_loans ms w) where
  abbrev registry : List TypeInfo
  registry = w.world.registry

  abbrev at : ℕ → Block
  at n = block_at n w.numbers w.world.blocks

  abbrev cold : ℕ → Block
  cold n = block_at n w.numbers (frozen w s last types visits are distinct).state.world.blocks

  abbrev others : OtherRows
  others = others_in w.world

  done_apart : AreDistinct (map loan_number ms)
  done_apart =
      subst AreDistinct
      (sym (numbers_kept (frozen w s last types visits are distinct) s frame 0 visits (loans w s last types visits are distinct) ms done))
      (loans_apart w s last types visits are distinct)

  -- the rows of a visit are those of a run
  abbrev HasRun : ℕ → Visit → Type 0
  HasRun number v = fold given_rows (at v.block).rows (pieces_of ms v.block) ≡ rows_after registry s others frame number (at v.block).home 0 (at v.block).rows

  module _ (number : ℕ) (v : Visit) (i : In v visits) (m : LoanState) (j : In m ms)
      (does : Does (rows_of_loan (frozen w s last types visits are distinct) frame number (loan_for w s last types visits are distinct v)) (texts_of s) v.rows m) where
    abbrev x : RowsState
    x = rows_of_loan (frozen w s last types visits are distinct) frame number (loan_for w s last types visits are distinct v)

    is : IsVisit registry s last w.numbers w.world.blocks v
    is = visit_is w s last types visits are distinct v i

    -- the pieces go into the frozen block or into the block as it was
    thawed : fold given_rows (at v.block).rows (pieces_of ms v.block) ≡ fold given_rows (cold v.block).rows (pieces_of ms v.block)
    thawed =
        ap (λ (b : Block). b.rows)
        (sym (block_changed v.block (with_cells ms) w.numbers w.world.blocks is.there)
        ∙ (sym (ap (λ (y : WorldState). block_at v.block y.numbers y.world.blocks) brings)
        ∙ block_changed v.block (with_cells ms) w.numbers (frozen w s last types visits are distinct).state.world.blocks
        (there_changed v.block _ w.numbers w.world.blocks is.there)))

    one_loan : fold given_rows (cold v.block).rows (pieces_of ms v.block) ≡ fold given_rows (cold m.number).rows m.pieces
    one_loan =
        ap (λ k. fold given_rows (cold k).rows (pieces_of ms k)) (sym does.loan.number)
        ∙ ap (fold given_rows (cold m.number).rows) (pieces_single ms done_apart m j)

    -- a loan that wasn't written has the rows of the block
    before : rows_of x ≡ (at v.block).rows
    before =
        ap (fold given_rows (cold v.block).rows) (sym (loan_pieces w s last types visits are distinct v i))
        ∙ ap (λ (b : Block). b.rows)
        (sym (block_changed v.block (with_cells (loans w s last types visits are distinct)) w.numbers (frozen w s last types visits are distinct).state.world.blocks
        (there_changed v.block _ w.numbers w.world.blocks is.there))
        ∙ ap (λ (y : WorldState). block_at v.block y.numbers y.world.blocks) untouched)

    abbrev seat : Home → Seat
    seat home = record {
      registry = registry;
      home = home;
      others = others_in (frozen w s last types visits are distinct).state.world;
      item = number;
      frame = frame;
    }

    has_run : HasRun number v
    has_run =
        thawed
        ∙ (one_loan
        ∙ (does.rows
        ∙ (ap₂ (λ (home : Home) (rs : List Row). after_texts_on (seat home) (texts_of s) v.rows rs)
        (ap (λ (b : Block). b.home) (frozen_is w s last types visits are distinct v i)) before
        ∙ (as_run registry s (others_in (frozen w s last types visits are distinct).state.world) frame number (at v.block).home v.rows (at v.block).rows
        (λ k below.
        ap (λ (mask : List ℕ). has mask k) is.rows
        ∙ places_match registry s (at v.block).home (at v.block).rows (block_few w s last types visits are distinct frame written runs lawful of v i) k below)
        ∙ rows_alike (sources_of registry s) (others_in (frozen w s last types visits are distinct).state.world) others alike registry s runs.reads frame number (at v.block).home 0 (at v.block).rows))))

  -- ---- all visits

  abbrev HaveRun : ℕ → List Visit → Type 0
  HaveRun number [] = Unit {0}
  HaveRun number (v ∷ vs) = HasRun number v × HaveRun (number + 1) vs

  have_run : (number : ℕ) (vs : List Visit) (ks : List LoanState) → ((v : Visit) → In v vs → In v visits) → ((m : LoanState) → In m ks → In m ms)
      → AreDone (frozen w s last types visits are distinct) s frame number vs (map (loan_of w) (loans_for types vs)) ks → HaveRun number vs
  have_run number [] ks among kept run = tt
  have_run number (v ∷ vs) [] among kept run = absurd run
  have_run number (v ∷ vs) (k ∷ ks) among kept run = (
    has_run number v (among v (inl refl)) k (kept k (inl refl)) run.0,
    have_run (number + 1) vs ks (λ u i. among u (inr i)) (λ m i. kept m (inr i)) run.1,
  )

  -- ---- all blocks

  -- there is no loan of a block that isn't visited
  bare : (n : ℕ) (b : Block) → at n ≡ b → is_visited registry versions s last b ≡ false → pieces_of ms n ≡ []
  bare n b here left = pieces_elsewhere ms n none
    where
      none : (m : LoanState) → In m ms → m.number ≡ n → ⊥
      none m i same =
          let there : In n (map loan_number ms) = subst (λ k. In k (map loan_number ms)) same (map_in loan_number m ms i) in
          let old : In n (map loan_number (loans w s last types visits are distinct)) =
          subst (In n) (numbers_kept (frozen w s last types visits are distinct) s frame 0 visits (loans w s last types visits are distinct) ms done) there in
          let (l, j, number) = in_map loan_number n (loans w s last types visits are distinct) old in
          let (e, h, loan) = in_map (loan_of w) l (loans_for types visits) j in
          let (v, k, entry) = in_map (λ (v : Visit). (v.block, types)) e visits h in
          let block : v.block ≡ n = sym (number ∙ (ap loan_number loan ∙ ap (λ (d : ℕ × List ℕ). d.0) entry)) in
          let visited : is_visited registry versions s last b ≡ true =
          ap (is_visited registry versions s last) (sym here ∙ ap at (sym block)) ∙ (visit_is w s last types visits are distinct v k).visited in
          absurd (cc (sym left ∙ visited))

  blocks_are : (number : ℕ) (ns : List ℕ) (bs : List Block) → AreAt at ns bs → HaveRun number (chosen registry s last ns bs)
      → by_number (with_cells ms) ns bs ≡ blocks_ran registry s last frame others number bs
  blocks_are number [] [] found run = refl
  blocks_are number [] (b ∷ bs) found run = absurd found
  blocks_are number (n ∷ ns) [] found run = refl
  blocks_are number (n ∷ ns) (b ∷ bs) found run =
      by (is_visited registry versions s last b) refl (subst (HaveRun number) (chosen_first registry s last n b ns bs) run) (λ k h. blocks_are k ns bs found.1 h)
    where
      by : (t : Bool) → is_visited registry versions s last b ≡ t
          → HaveRun number (cond t (visit_at registry s last n b ∷ chosen registry s last ns bs) (chosen registry s last ns bs))
          → ((k : ℕ) → HaveRun k (chosen registry s last ns bs) → by_number (with_cells ms) ns bs ≡ blocks_ran registry s last frame others k bs)
          → with_cells ms n b ∷ by_number (with_cells ms) ns bs
          ≡ cond t (record b { rows = rows_after registry s others frame number b.home 0 b.rows }) b ∷ blocks_ran registry s last frame others (cond t (number + 1) number) bs
      by true visited h rest =
          ap₂ (λ (c : Block) (cs : List Block). c ∷ cs)
          (ap (λ (rs : List Row). record b { rows = rs })
          (subst (λ (c : Block). fold given_rows c.rows (pieces_of ms n) ≡ rows_after registry s others frame number c.home 0 c.rows) found.0 h.0))
          (rest (number + 1) h.1)
      by false left h rest =
          ap₂ (λ (c : Block) (cs : List Block). c ∷ cs)
          (ap (λ ps. record b { rows = fold given_rows b.rows ps }) (bare n b found.0 left))
          (rest number h)

  -- the world with the rows of a run
  pub world_ran : with_loans ms w ≡ rows_ran s last frame w
  world_ran =
      ap (λ (bs : List Block). let y : WorldState = record w { world = record (w.world) { blocks = bs } } in y)
      (blocks_are 0 w.numbers w.world.blocks (are_at w.numbers w.world.blocks distinct long)
      (subst (HaveRun 0) are (have_run 0 visits ms (λ v i. i) (λ m i. i) done)))
