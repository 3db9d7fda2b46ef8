-- Each visit of a run with its loan is an item.
use Rattle.std.proofs.Common.{ℕ, ◌≡◌, ◌∙◌, ◌+◌, ◌≤◌, ◌<◌, inl, inr, Bool, true, false, not, ◌||◌, refl, sym, ap, subst, List, [], ◌∷◌, length, map, Option, arith}
use Rattle.std.specs.Prelude.{⊤}
use Rattle.std.proofs.lemmas.Bool.{and_from, and_parts}
use Rattle.std.proofs.lemmas.List.{length-map}
use Rattle.ent_types.specs.declared.entity.TypeId.{TypeId}
use Rattle.ent_types.specs.declared.type_info.TypeInfo.{TypeInfo}
use Rattle.ent_types.specs.TypeLookups.{is_buffer_at, is_shared_at}
use Rattle.ent_types.specs.TypeSets.{has_type}
use Rattle.enable_bits.specs.Masks.{has, IsMask}
use Rattle.world_model.specs.Members.{In, AreDistinct, one_if, tally}
use Rattle.world_model.specs.Versions.{IsLawfulCode}
use Rattle.world_model.specs.World.{Block, capacity}
use Rattle.world_laws.proofs.Members.{in_map, map_in}
use Rattle.block_laws.specs.Lending.{piece_types}
use Rattle.chunk_block.specs.Blocks.{IsLoanOf, LoanState, lent_row}
use Rattle.world_loans.specs.Plans.{planned}
use Rattle.world_loans.specs.Returns.{is_piece, pieces_of}
use Rattle.world_loans.proofs.Counted.{pieces_tally}
use Rattle.structural_ops.specs.Freezing.{AreLoansOf, FrozenState, IsPlan, blanked, block_at, frozen_by, is_lent, lent_block, lent_of, loan_of}
use Rattle.structural_ops.specs.Numbered.{HasBlock}
use Rattle.structural_ops.specs.Worlds.{WorldState}
use Rattle.scenario_record.specs.declared.record.SystemEntry.{SystemEntry}
use Rattle.scenario_record.specs.Lawful.{is_bound}
use Rattle.scenario_record.specs.TextNames.{has_field}
use Rattle.run_model.specs.Job.{writes}
use Rattle.run_laws.specs.Runnable.{SystemRuns, sources_of}
use Rattle.run_laws.proofs.Lists.{in_has}
use Rattle.query_select.specs.declared.visits.Visit.{Visit}
use Rattle.item_run.specs.ItemRows.{AreRows, RowsState, sources_in}
use Rattle.item_run.specs.Items.{IsItem}
use Rattle.item_run.proofs.Columns.{at_number}
use Rattle.phase_run.specs.After.{loans_for}
use Rattle.phase_run.specs.Visited.{AreItems, item_of, rows_of_loan}
use Rattle.phase_run.proofs.Chosen.{IsVisit, chosen, chosen_once, is_visit, places_mask, places_within, visit_block, visited_passes}
use Rattle.phase_run.proofs.Loaned.{loan_number, no_piece, pieces_once, pieces_single}
use Rattle.phase_run.proofs.Numbers.{block_changed, there_changed}
use Rattle.phase_run.proofs.Planned.{block_in, bound_there, lawful_types, lent_has, lent_is, lents_none, plan_apart, planned_visited, planned_within, rows_few, written_own}
use Rattle.phase_run.proofs.Reading.{system_more}

or_either : (a b : Bool) → a ≡ true → (a || b) ≡ true
or_either a b is = ap (λ c. c || b) is

or_other : (a b : Bool) → b ≡ true → (a || b) ≡ true
or_other true b is = refl
or_other false b is = is

module _ (w : WorldState) (s : SystemEntry) (last : Option ℕ) (types : List ℕ) (visits : List Visit) (are : visits ≡ chosen w.world.registry s last w.numbers w.world.blocks)
    (distinct : AreDistinct w.numbers) where
  abbrev pub registry : List TypeInfo
  registry = w.world.registry

  abbrev pub plan : List (ℕ × List ℕ)
  plan = loans_for types visits

  abbrev pub frozen : FrozenState
  frozen = frozen_by plan w

  abbrev pub loans : List LoanState
  loans = map (loan_of w) plan

  abbrev pub loan_for : Visit → LoanState
  loan_for v = loan_of w (v.block, types)

  pub visits_once : AreDistinct (map visit_block visits)
  visits_once = subst (λ (vs : List Visit). AreDistinct (map visit_block vs)) (sym are) (chosen_once registry s last w.numbers w.world.blocks distinct)

  pub visit_is : (v : Visit) → In v visits → IsVisit registry s last w.numbers w.world.blocks v
  visit_is v i = is_visit registry s last w.numbers w.world.blocks distinct v (subst (In v) are i)

  pub plan_lawful : IsPlan plan w
  plan_lawful = record {
    there = λ e i.
        let (v, j, same) = in_map (λ (v : Visit). (v.block, types)) e visits i in
        subst (λ n. HasBlock n (λ _. ⊤) w) (sym (ap (λ (d : ℕ × List ℕ). d.0) same)) (visit_is v j).there;
    apart = plan_apart types visits visits_once;
  }

  numbers_are : (vs : List Visit) → map loan_number (map (loan_of w) (loans_for types vs)) ≡ map visit_block vs
  numbers_are [] = refl
  numbers_are (v ∷ vs) = ap (λ (ns : List ℕ). v.block ∷ ns) (numbers_are vs)

  pub loans_apart : AreDistinct (map loan_number loans)
  loans_apart = subst AreDistinct (sym (numbers_are visits)) visits_once

  pub loan_there : (v : Visit) → In v visits → In (loan_for v) loans
  loan_there v i = map_in (loan_of w) (v.block, types) plan (map_in (λ (u : Visit). (u.block, types)) v visits i)

  pub loan_pieces : (v : Visit) → In v visits → pieces_of loans v.block ≡ (loan_for v).pieces
  loan_pieces v i = pieces_single loans loans_apart (loan_for v) (loan_there v i)

  -- the block of a visit as the frozen world has it
  pub frozen_is : (v : Visit) → In v visits → block_at v.block w.numbers frozen.state.world.blocks ≡ blanked (planned plan) v.block (block_at v.block w.numbers w.world.blocks)
  frozen_is v i = block_changed v.block (blanked (planned plan)) w.numbers w.world.blocks (visit_is v i).there

  module _ (frame : ℕ) (written : (t : ℕ) → has_type types t ≡ has_type (writes s) t) (runs : SystemRuns registry s) (lawful : IsLawfulCode (capacity registry) w.world)
      (of : AreLoansOf frozen loans) where
    -- what isn't written isn't lent
    pub unwritten : (t : ℕ) → has_type (writes s) t ≡ false → is_lent frozen t ≡ false
    unwritten t lacks = lents_none registry (planned plan) t (λ n. planned_within types visits n t (written t ∙ lacks)) w.numbers w.world.blocks

    module _ (v : Visit) (i : In v visits) where
      abbrev n : ℕ
      n = v.block

      abbrev block : Block
      block = block_at n w.numbers w.world.blocks

      abbrev loan : LoanState
      loan = loan_for v

      is : IsVisit registry s last w.numbers w.world.blocks v
      is = visit_is v i

      pub block_few : length block.rows ≤ 128
      block_few = rows_few w.world lawful block (block_in n w.numbers w.world.blocks is.there)

      count : (t : ℕ) → tally (is_piece t) loan.pieces ≡ one_if (has_type (lent_of frozen n) t)
      count t = ap (tally (is_piece t)) (sym (loan_pieces v i)) ∙ (pieces_tally n t loans ∙ of.once n t)

      few_pieces : (t : ℕ) → tally (is_piece t) loan.pieces ≤ 1
      few_pieces t = by (has_type (lent_of frozen n) t) (count t)
        where
          by : (b : Bool) → tally (is_piece t) loan.pieces ≡ one_if b → tally (is_piece t) loan.pieces ≤ 1
          by true h = omega (arith, h)
          by false h = omega (arith, h)

      -- the loan has each type that is lent of the block
      piece_there : (t : ℕ) → has_type (lent_of frozen n) t ≡ true → has_type (piece_types loan.pieces) t ≡ true
      piece_there t lent = by (has_type (piece_types loan.pieces) t) refl
        where
          by : (b : Bool) → has_type (piece_types loan.pieces) t ≡ b → b ≡ true
          by true has = refl
          by false lacks =
              let none = no_piece t loan.pieces lacks in
              let one : tally (is_piece t) loan.pieces ≡ 1 = count t ∙ ap one_if lent in
              absurd (omega (arith, none, one))

      has_written : (t : ℕ) → In t (writes s) → has_type (piece_types loan.pieces) t ≡ true
      has_written t j =
          let own = written_own registry s (lawful_types w.world lawful) runs t j in
          piece_there t
          (ap (λ ts. has_type ts t) (lent_is registry (planned plan) n w.numbers w.world.blocks is.there)
          ∙ (lent_has registry (planned plan n) block.home.types t
          ∙ and_from _ _ (planned_visited types visits v i t (written t ∙ in_has t (writes s) j))
          (and_from _ _ (ap not own.1) (bound_there registry s block.home.types (visited_passes registry s last block is.visited) t own.0))))

      module _ (number : ℕ) where
        abbrev at : RowsState
        at = rows_of_loan frozen frame number loan

        rows : AreRows at
        rows = record {
          there = there_changed n (blanked (planned plan)) w.numbers w.world.blocks is.there;
          of = at_number n (λ b. IsLoanOf (lent_block registry (lent_of frozen n) b) loan) frozen.state.numbers frozen.state.world.blocks (of.each loan (loan_there v i));
          once = pieces_once loan.pieces few_pieces;
        }

        held : (t : ℕ) → (is_shared_at registry t || (has_type (piece_types loan.pieces) t || not (has_type (lent_of frozen n) t))) ≡ true
        held t = or_other (is_shared_at registry t) _ (by (has_type (lent_of frozen n) t) refl)
          where
            by : (b : Bool) → has_type (lent_of frozen n) t ≡ b → (has_type (piece_types loan.pieces) t || not b) ≡ true
            by true lent = or_either _ false (piece_there t lent)
            by false bare = or_other (has_type (piece_types loan.pieces) t) true refl

        own : (ty : TypeId) (k : ℕ) → (sources_of registry s).own ty k ≡ true → (sources_in at).own ty k ≡ true
        own ty k reads =
            let both = and_parts (is_bound s ty.0) (has_field registry ty k) reads in
            and_from _ _
            (ap (λ (b : Block). has_type b.home.types ty.0) (frozen_is v i)
            ∙ bound_there registry s block.home.types (visited_passes registry s last block is.visited) ty.0 both.0)
            (and_from _ _ both.1 (held ty.0))

        others : (ty : TypeId) → (sources_of registry s).others ty ≡ true → (sources_in at).others ty ≡ true
        others ty reads =
            let both = and_parts (not (has_type (writes s) ty.0)) (not (is_buffer_at registry ty.0)) reads in
            and_from _ _ (ap not (unwritten ty.0 (turned (has_type (writes s) ty.0) both.0))) both.1
          where
            turned : (b : Bool) → not b ≡ true → b ≡ false
            turned true h = absurd (cc h)
            turned false h = refl

        row_count_is : length (block_at n w.numbers frozen.state.world.blocks).rows ≡ length block.rows
        row_count_is = ap (λ (b : Block). length b.rows) (frozen_is v i) ∙ length-map block.rows (lent_row (planned plan n))

        pub item : IsItem (item_of frozen s frame number v.rows loan)
        item = record {
          rows = rows;
          runs = runs;
          reads = system_more (sources_of registry s) (sources_in at) own others s runs.reads;
          written = has_written;
          fit = of.fit loan (loan_there v i);
          mask = subst IsMask (sym is.rows) (places_mask registry s block.home block.rows block_few);
          within = λ k there.
              subst (λ m. k < m) (sym row_count_is)
              (places_within registry s block.home block.rows block_few k (ap (λ (m : List ℕ). has m k) (sym is.rows) ∙ there));
        }

    items_from : (number : ℕ) (vs : List Visit) → ((v : Visit) → In v vs → In v visits) → AreItems frozen s frame number vs (map (loan_of w) (loans_for types vs))
    items_from number [] among = tt
    items_from number (v ∷ vs) among = (item v (among v (inl refl)) number, items_from (number + 1) vs (λ u j. among u (inr j)))

    pub are_items : AreItems frozen s frame 0 visits loans
    are_items = items_from 0 visits (λ v i. i)
