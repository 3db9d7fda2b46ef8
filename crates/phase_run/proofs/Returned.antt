-- The frozen world of a run: its items, and what comes back.
use Rattle.std.proofs.Common.{ℕ, ◌≡◌, ◌∙◌, Bool, true, false, not, refl, sym, ap, subst, List, length, map, reverse, Option}
use Rattle.std.specs.Prelude.{IsPermutation, is_some, option_and_then}
use Rattle.std.proofs.lemmas.Bool.{and_parts}
use Rattle.std.proofs.lemmas.List.{length-map}
use Rattle.std.proofs.lemmas.List.Sorted.{IsPermutation-refl, IsPermutation-reverse, IsPermutation-sym}
use Rattle.ent_types.specs.declared.entity.Entity.{Entity}
use Rattle.ent_types.specs.TypeLookups.{is_buffer_at}
use Rattle.ent_types.specs.TypeSets.{has_type}
use Rattle.world_model.specs.Found.{found, values_of}
use Rattle.world_model.specs.Reads.{is_alive, value_of}
use Rattle.world_model.specs.Versions.{IsLawfulCode}
use Rattle.world_model.specs.World.{capacity}
use Rattle.chunk_block.specs.Blocks.{LoanState}
use Rattle.structural_ops.specs.Freezing.{AreLoansOf, FrozenState, IsPlan, frozen_by, is_lent, loan_of, with_loans}
use Rattle.structural_ops.specs.Worlds.{WorldState}
use Rattle.scenario_record.specs.declared.record.SystemEntry.{SystemEntry}
use Rattle.run_model.specs.Job.{others_in, writes}
use Rattle.run_laws.specs.Runnable.{SystemRuns, sources_of}
use Rattle.query_select.specs.declared.visits.Visit.{Visit}
use Rattle.phase_run.specs.After.{IsNumbered, LendsWrites, loans_for, rows_ran}
use Rattle.phase_run.specs.Visited.{AreDone, AreItems}
use Rattle.phase_run.proofs.Chosen.{chosen}
use Rattle.phase_run.proofs.Loaned.{done_loans}
use Rattle.phase_run.proofs.Ran.{world_ran}
use Rattle.phase_run.proofs.Reading.{AreAlike}
use Rattle.phase_run.proofs.Ready.{are_items, frozen, loans, plan_lawful, unwritten}

-- what the laws of frozen worlds say of a world
pub record ReadsAsBefore (w : WorldState) : Type 0 where
  pub alive : (plan : List (ℕ × List ℕ)) (e : Entity) → is_alive (frozen_by plan w).state.world e ≡ is_alive w.world e
  pub has : (plan : List (ℕ × List ℕ)) (e : Entity) (t : ℕ)
      → is_some (option_and_then (values_of t) (found e (frozen_by plan w).state.world.blocks)) ≡ is_some (option_and_then (values_of t) (found e w.world.blocks))
  pub value : (plan : List (ℕ × List ℕ)) (t : ℕ) → is_lent (frozen_by plan w) t ≡ false
      → (e : Entity) (field : ℕ) → value_of (frozen_by plan w).state.world e t field ≡ value_of w.world e t field

pub record ComesBack (w : WorldState) : Type 0 where
  pub written : (plan : List (ℕ × List ℕ)) (loans : List LoanState) → AreLoansOf (frozen_by plan w) loans
      → with_loans loans (frozen_by plan w).state ≡ with_loans loans w
  pub unwritten : (plan : List (ℕ × List ℕ)) (loans : List LoanState) → IsPlan plan w → IsPermutation (map (loan_of w) plan) loans
      → with_loans loans (frozen_by plan w).state ≡ w

pub record InAnyOrder (f : FrozenState) : Type 0 where
  pub loans : (first second : List LoanState) → AreLoansOf f first → IsPermutation first second → AreLoansOf f second
  pub world : (first second : List LoanState) → AreLoansOf f first → IsPermutation first second → with_loans second f.state ≡ with_loans first f.state

module _ (w : WorldState) (s : SystemEntry) (visits : List Visit) (plan : List (ℕ × List ℕ)) (numbers : IsNumbered w) (runs : SystemRuns w.world.registry s)
    (lends : LendsWrites s visits plan) (last : Option ℕ) (are : visits ≡ chosen w.world.registry s last w.numbers w.world.blocks) where
  pub is_plan : IsPlan plan w
  is_plan = subst (λ p. IsPlan p w) (sym lends.is) (plan_lawful w s last lends.types visits are numbers.once)

  pub plan_long : length plan ≡ length visits
  plan_long = ap (λ (p : List (ℕ × List ℕ)). length p) lends.is ∙ length-map visits (λ (v : Visit). (v.block, lends.types))

  abbrev cold : FrozenState
  cold = frozen w s last lends.types visits are numbers.once

  abbrev lent_loans : List LoanState
  lent_loans = loans w s last lends.types visits are numbers.once

  module _ (frame : ℕ) (lawful : IsLawfulCode (capacity w.world.registry) w.world) (f : FrozenState) (frozen_is : f ≡ frozen_by plan w)
      (lent : List LoanState) (lent_is : lent ≡ map (loan_of w) plan) (own : AreLoansOf f lent) where
    f_is : f ≡ cold
    f_is = frozen_is ∙ ap (λ p. frozen_by p w) lends.is

    loans_are : lent ≡ lent_loans
    loans_are = lent_is ∙ ap (map (loan_of w)) lends.is

    of : AreLoansOf cold lent_loans
    of = subst (λ (g : FrozenState). AreLoansOf g lent_loans) f_is (subst (AreLoansOf f) loans_are own)

    pub items_ready : AreItems f s frame 0 visits lent
    items_ready =
        subst (λ (g : FrozenState). AreItems g s frame 0 visits lent) (sym f_is)
        (subst (AreItems cold s frame 0 visits) (sym loans_are) (are_items w s last lends.types visits are numbers.once frame lends.written runs lawful of))

    module _ (done : List LoanState) (ran : AreDone f s frame 0 visits lent (reverse done)) (order : InAnyOrder f) where
      abbrev ms : List LoanState
      ms = reverse done

      ran_cold : AreDone cold s frame 0 visits lent_loans ms
      ran_cold = subst (λ (g : FrozenState). AreDone g s frame 0 visits lent_loans ms) f_is (subst (λ (ls : List LoanState). AreDone f s frame 0 visits ls ms) loans_are ran)

      of_ms : AreLoansOf cold ms
      of_ms = done_loans cold s frame 0 visits lent_loans ms ran_cold of

      of_f : AreLoansOf f ms
      of_f = subst (λ (g : FrozenState). AreLoansOf g ms) (sym f_is) of_ms

      turned : IsPermutation ms done
      turned = IsPermutation-sym done ms (IsPermutation-reverse done)

      pub may_return : AreLoansOf f done
      may_return = order.loans ms done of_f turned

      module _ (reads : ReadsAsBefore w) (back : ComesBack w) where
        alike : AreAlike (sources_of w.world.registry s) (others_in cold.state.world) (others_in w.world)
        alike = record {
          value = λ e ty i looked.
              reads.value (loans_for lends.types visits) ty.0
              (unwritten w s last lends.types visits are numbers.once frame lends.written runs lawful of ty.0
              (lacks (has_type (writes s) ty.0) (and_parts (not (has_type (writes s) ty.0)) (not (is_buffer_at w.world.registry ty.0)) looked).0)) e i;
          has = λ e ty. reads.has (loans_for lends.types visits) e ty.0;
          alive = λ e. reads.alive (loans_for lends.types visits) e;
        }
          where
            lacks : (b : Bool) → not b ≡ true → b ≡ false
            lacks true h = absurd (cc h)
            lacks false h = refl

        pub comes_back : with_loans done f.state ≡ rows_ran s last frame w
        comes_back =
            order.world ms done of_f turned
            ∙ (ap (λ (g : FrozenState). with_loans ms g.state) f_is
            ∙ (back.written (loans_for lends.types visits) ms of_ms
            ∙ world_ran w s last lends.types visits are numbers.once numbers.each frame lends.written runs lawful of
            (back.unwritten (loans_for lends.types visits) lent_loans (plan_lawful w s last lends.types visits are numbers.once) (IsPermutation-refl lent_loans))
            alike ms ran_cold (back.written (loans_for lends.types visits) ms of_ms)))
