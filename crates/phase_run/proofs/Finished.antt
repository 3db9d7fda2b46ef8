-- The world after a run, and what the run counted.
use Rattle.std.proofs.Common.{ℕ, ◌≡◌, ◌∙◌, refl, sym, ap, subst, List, length, Option}
use Rattle.std.specs.Prelude.{⊤}
use Rattle.ent_types.specs.TypeSets.{has_type}
use Rattle.system_version.specs.Versions.{next_version}
use Rattle.world_model.specs.Members.{In, tally}
use Rattle.world_model.specs.World.{Block}
use Rattle.structural_ops.specs.Numbered.{HasBlock, with_each}
use Rattle.structural_ops.specs.Worlds.{WorldState}
use Rattle.scenario_record.specs.declared.record.SystemEntry.{SystemEntry}
use Rattle.run_model.specs.Clock.{versions}
use Rattle.run_model.specs.Job.{others_in, writes}
use Rattle.run_model.specs.Query.{is_visited, passes}
use Rattle.run_model.specs.Run.{run}
use Rattle.query_select.specs.declared.visits.Visit.{Visit}
use Rattle.query_select.specs.Entries.{last_run}
use Rattle.phase_run.specs.After.{IsNumbered, ran, rows_ran, visit_marked, world_after}
use Rattle.phase_run.proofs.Chosen.{chosen, chosen_count, is_visit}
use Rattle.phase_run.proofs.Marking.{marked_after, ran_length, there_as_long}

-- the world at the next version
abbrev pub raised : WorldState → WorldState
raised w = record w { world = record (w.world) { moment = next_version w.world.moment } }

module _ (w later : WorldState) (is : later ≡ raised w) where
  pub numbered_before : IsNumbered later → IsNumbered w
  numbered_before numbers = let same = subst IsNumbered is numbers in record { once = same.once; each = same.each }

  pub chosen_before : (s : SystemEntry) (last : Option ℕ) (visits : List Visit) → visits ≡ chosen later.world.registry s last later.numbers later.world.blocks
      → visits ≡ chosen w.world.registry s last w.numbers w.world.blocks
  chosen_before s last visits are = are ∙ ap (λ (y : WorldState). chosen y.world.registry s last y.numbers y.world.blocks) is

module _ (w : WorldState) (s : SystemEntry) (last frame : ℕ) where
  pub visits_are : (ran s last frame w).visits ≡ tally (is_visited w.world.registry versions s (last_run last)) w.world.blocks
  unfolding run
  visits_are = refl

  pub passing_are : (ran s last frame w).passing ≡ tally (λ (b : Block). passes w.world.registry s b.home.types) w.world.blocks
  unfolding run
  passing_are = refl

  module _ (numbers : IsNumbered w) (visits : List Visit) (are : visits ≡ chosen w.world.registry s (last_run last) w.numbers w.world.blocks) where
    pub visits_counted : length visits ≡ (ran s last frame w).visits
    visits_counted =
        ap (λ (vs : List Visit). length vs) are
        ∙ (chosen_count w.world.registry s (last_run last) w.numbers w.world.blocks numbers.each ∙ sym visits_are)

    -- the blocks of the visits are still there
    pub visits_there : (v : Visit) → In v visits → HasBlock v.block (λ _. ⊤) (rows_ran s (last_run last) frame (raised w))
    visits_there v i =
        there_as_long v.block w.numbers w.world.blocks _ (sym (ran_length w.world.registry s (last_run last) frame (others_in w.world) 0 w.world.blocks))
        (is_visit w.world.registry s (last_run last) w.numbers w.world.blocks numbers.once v (subst (In v) are i)).there

    pub finished : (types : List ℕ) → ((t : ℕ) → has_type types t ≡ has_type (writes s) t)
        → with_each (visit_marked visits (next_version w.world.moment) types) (rows_ran s (last_run last) frame (raised w)) ≡ world_after s last frame w
    unfolding run
    finished types written =
        ap (λ (bs : List Block). let y : WorldState = record w { world = record (w.world) { moment = next_version w.world.moment; blocks = bs } } in y)
        (marked_after w.world.registry s (last_run last) frame (others_in w.world) (next_version w.world.moment) types written visits w.numbers w.world.blocks are numbers.once numbers.each)
