-- Each spawn that was read and has room can be made, and each event that was read can be done.
use Rattle.std.proofs.Common.{ℕ, ◌≡◌, List, Bool, map, None, sym, subst}
use Rattle.std.proofs.lemmas.Bool.{and_parts, false≢true}
use Rattle.ent_types.specs.declared.type_info.TypeInfo.{TypeInfo}
use Rattle.ent_types.specs.TypeLookups.{is_enableable_at}
use Rattle.ent_types.specs.TypeSets.{has_type}
use Rattle.expr_trees.specs.declared.tree.PartExpr.{PartExpr}
use Rattle.expr_trees.specs.declared.tree.Variable.{Variable}
use Rattle.scenario_record.specs.declared.record.EventAct.{EventAct}
use Rattle.scenario_record.specs.declared.record.EventAct.TheVariants.{Operate, Load, Unload}
use Rattle.scenario_record.specs.declared.record.SpawnEntry.{SpawnEntry}
use Rattle.scenario_record.specs.Lawful.{IsLawfulSpawn, IsLawfulAct}
use Rattle.scenario_record.specs.TextNames.{is_n, is_frame, names_without_a_row, none_made}
use Rattle.scenario_faults.specs.Checks.{spawn_fault}
use Rattle.world_model.specs.Fits.{IsKnown}
use Rattle.world_model.specs.Members.{In}
use Rattle.world_laws.proofs.Members.{in_map}
use Rattle.world_laws.proofs.Types.{has_in}
use Rattle.run_laws.specs.Runnable.{no_sources, SpawnRuns, ActRuns}
use Rattle.run_laws.specs.Suits.{PartSuits}
use Rattle.scenario_laws.proofs.Members.{passes}
use Rattle.scenario_laws.proofs.TextReads.{Gives, parts_reading, act_reading}
use Rattle.scenario_laws.proofs.Rooms.{has_room}
use Rattle.scenario_laws.proofs.Suits.{parts_suit, parts_once, act_suits}

-- a place without a row names nothing of one, so it doesn't matter what may be looked up
abbrev Anything : ℕ → Type 0
Anything t = Unit {0}

gives_nothing : (variable : Variable → Bool) → Gives (names_without_a_row variable) Anything no_sources
gives_nothing variable = record {
  own_numbers = λ ty i named. absurd (false≢true named);
  own_refs = λ ty i named. absurd (false≢true named);
  lookups = λ ty i named may. absurd (false≢true named);
}

pub spawn_runs : (registry : List TypeInfo) (p : SpawnEntry) → IsLawfulSpawn registry p → spawn_fault registry p ≡ None → SpawnRuns registry p
spawn_runs registry p lawful clear = record {
  parts = suit;
  once = parts_once registry (names_without_a_row is_n) none_made p.parts lawful.parts;
  reads = λ q here. parts_reading (names_without_a_row is_n) Anything no_sources (gives_nothing is_n) registry none_made p.parts lawful.parts (λ t i used. tt) q here;
  room = has_room registry p clear;
  disabled = λ t here.
      let both = and_parts (has_type (map (λ (q : PartExpr). q.ty.0) p.parts) t) (is_enableable_at registry t) (passes _ t p.disabled lawful.disabled here) in
      let (q, there, same) = in_map (λ (q : PartExpr). q.ty.0) t p.parts (has_in t (map (λ (q : PartExpr). q.ty.0) p.parts) both.0) in
      subst (IsKnown registry) (sym same) (suit q there).known;
}
  where
    suit : (q : PartExpr) → In q p.parts → PartSuits registry q
    suit = parts_suit registry (names_without_a_row is_n) none_made p.parts lawful.parts

pub act_runs : (registry : List TypeInfo) (act : EventAct) → IsLawfulAct registry act → ActRuns registry act
act_runs registry (Operate c) lawful = record {
  suits = act_suits registry (names_without_a_row is_frame) none_made c lawful.fits;
  reads = act_reading (names_without_a_row is_frame) Anything no_sources (gives_nothing is_frame) registry none_made c lawful.fits (λ t i used. tt);
}
act_runs registry (Load file label delay) lawful = tt
act_runs registry (Unload label) lawful = tt
