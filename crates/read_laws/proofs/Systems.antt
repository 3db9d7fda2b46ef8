-- Each system that is read is lawful.
use Rattle.std.proofs.Common.{ℕ, ◌≡◌, List, Bool, true, ◌||◌, Ok, subst}
use Rattle.toml.specs.Data.{Data, Members, is_sorted, members_are_sorted}
use Rattle.ent_types.specs.declared.type_info.TypeInfo.{TypeInfo}
use Rattle.ent_types.specs.Registries.{IsLawfulRegistry}
use Rattle.ent_types.specs.TypeSets.{has_type}
use Rattle.scenario_record.specs.declared.fault.Cause.TheVariants.{BadShape}
use Rattle.scenario_record.specs.declared.record.SystemEntry.{SystemEntry}
use Rattle.scenario_record.specs.Lawful.{IsLawfulSystem}
use Rattle.scenario_tables.specs.ReadKeys.{known_table}
use Rattle.scenario_tables.specs.ReadGroups.{in_two_bands}
use Rattle.scenario_tables.specs.ReadQueries.{clauses, bound_types, filters}
use Rattle.scenario_tables.specs.ReadSystems.{heading, acts, body, system_of, known_in_a_system, system}
use Rattle.scenario_tables.specs.Parts.{Clauses, Body}
use Rattle.read_laws.proofs.Inversions.{then_ok, ok_same, fault_ok}
use Rattle.read_laws.proofs.Lists.{grown}
use Rattle.read_laws.proofs.Tables.{known_table_sorted}
use Rattle.read_laws.proofs.Placements.{lawful_placement, heading_ok}
use Rattle.read_laws.proofs.Queries.{AreLawfulClauses, clauses_ok, HasLawfulFilters, filters_ok}
use Rattle.read_laws.proofs.SystemTexts.{AreLawfulActs, acts_ok}

module _ (registry : List TypeInfo) (lawful : IsLawfulRegistry registry) where
  abbrev is_bound_by : Clauses → ℕ → Bool
  is_bound_by c t = has_type c.all t || has_type c.disabled t

  record IsLawfulBody (b : Body) : Type 0 where
    pub clauses : AreLawfulClauses registry b.clauses
    pub filters : HasLawfulFilters registry b.clauses.all b.filters
    pub acts : AreLawfulActs registry lawful (bound_types b.clauses) (is_bound_by b.clauses) (λ t there. grown (λ n. n) b.clauses.all b.clauses.disabled t there) b.acts

  body_ok : (ms : Members) (b : Body) → members_are_sorted ms ≡ true → body registry ms ≡ Ok b → IsLawfulBody b
  body_ok ms b sorted is =
      let c = then_ok _ (clauses registry ms) b is in
      let f = then_ok _ (filters registry c.0.all ms) b c.2 in
      let a = then_ok _ (acts registry (bound_types c.0) ms) b f.2 in
      subst IsLawfulBody (ok_same _ b a.2) (record {
        clauses = clauses_ok registry ms c.0 c.1;
        filters = filters_ok registry c.0.all ms f.0 sorted f.1;
        acts = acts_ok registry lawful (bound_types c.0) (is_bound_by c.0) (λ t there. grown (λ n. n) c.0.all c.0.disabled t there) ms a.0 a.1;
      })

  pub system_ok : (d : Data) (y : SystemEntry) → is_sorted d ≡ true → system registry d ≡ Ok y → IsLawfulSystem registry y
  unfolding system
  system_ok d y sorted is =
      let ms = then_ok _ (known_table known_in_a_system d) y is in
      let h = then_ok _ (heading ms.0) y ms.2 in
      let b = then_ok _ (body registry ms.0) y h.2 in
      let bands = fault_ok (in_two_bands h.0.placement) BadShape _ y b.2 in
      let named = heading_ok ms.0 h.0 h.1 in
      let done = body_ok ms.0 b.0 (known_table_sorted known_in_a_system d ms.0 sorted ms.1) b.1 in
      subst (IsLawfulSystem registry) (ok_same (system_of h.0 b.0) y bands.1) (record {
        name = named.name;
        group = named.group;
        placement = lawful_placement h.0.placement named.placement bands.0;
        every_some = named.every.0;
        every_few = named.every.1;
        known = done.clauses.known;
        once = done.clauses.once;
        disabled = done.clauses.disabled;
        changed_few = done.filters.changed.few;
        changed = done.filters.changed.fit;
        shared_few = done.filters.shared.few;
        shared = done.filters.shared.fit;
        shared_once = done.filters.shared.once;
        set_few = done.acts.set_few;
        set = done.acts.set;
        enable_few = done.acts.enable_few;
        enable = done.acts.enable;
        command_few = done.acts.command.few;
        command = done.acts.command.each;
      })
