-- Which rows a system visits, as it is read: the five clauses and the filters.
use Rattle.std.proofs.Common.{ℕ, ◌≡◌, ◌≤◌, ◌+◌, List, [], ◌∷◌, ◌++◌, true, false, not, ◌&&◌, ◌||◌, Some, Ok, length, map, refl, sym, ap, ◌∙◌, subst, arith}
use Rattle.std.specs.Prelude.{codes, ◌==◌, nat_lt}
use Rattle.std.specs.List.{list_all}
use Rattle.std.proofs.lemmas.Bool.{and_from, both_ways, not-false, false_from_ne_true, eqb-true, ltb-false}
use Rattle.toml.specs.Data.{Data, string, integer, float, boolean, datetime, array, table, Items, no_items, item, Members, is_sorted, members_are_sorted}
use Rattle.ent_types.specs.declared.kinds.FieldKind.{FieldKind}
use Rattle.ent_types.specs.declared.limits.TheConstants.{MOST_CHANGED, MOST_SHARED_FILTERS}
use Rattle.ent_types.specs.declared.type_info.FieldInfo.{FieldInfo}
use Rattle.ent_types.specs.declared.type_info.TypeInfo.{TypeInfo}
use Rattle.ent_types.specs.declared.value.Part.{Part}
use Rattle.ent_types.specs.declared.value.Value.{Value}
use Rattle.ent_types.specs.declared.value.Value.TheVariants.{Int}
use Rattle.ent_types.specs.Fitting.{fits_field, fits_fields}
use Rattle.ent_types.specs.Registries.{type_named, type_at}
use Rattle.ent_types.specs.TypeLookups.{is_enableable_at, is_shared_at}
use Rattle.ent_types.specs.TypeSets.{has_type}
use Rattle.scenario_record.specs.declared.fault.Cause.TheVariants.{NumberRange, WrongCount, TooMany}
use Rattle.scenario_record.specs.Readings.{at_place, changed}
use Rattle.scenario_record.specs.TextNames.{are_once}
use Rattle.scenario_record.specs.Lawful.{shared_filter_fits}
use Rattle.scenario_tables.specs.ReadKeys.{optional, truth, list, members, member_count, few_members, members_up_to, item_count, each_member}
use Rattle.scenario_tables.specs.ReadTypeLists.{type_of_key, type_list}
use Rattle.scenario_tables.specs.ReadQueries.{clause, clauses, changed_types, shared_value, shared_values_from, shared_values, shared_part_of, shared_part, shared_table, filters}
use Rattle.scenario_tables.specs.Parts.{Clauses, Filters, Allowed, any_type, enableable, unshared_of, shared_of, Named}
use Rattle.read_laws.proofs.Inversions.{then_ok, changed_ok, ok_same, fault_ok, at_place_ok, optional_ok}
use Rattle.read_laws.proofs.Lists.{all_joined, all_below, all_from_each, once_rising, once_joined, has_type-append}
use Rattle.read_laws.proofs.TypeLists.{type_of_key_ok, IsNamed, type_list_ok, clause_ok}
use Rattle.read_laws.proofs.Keyed.{keyed_ok, keyed_count, each_keyed, keyed_once}
use Rattle.read_laws.proofs.Tables.{members_sorted, sorted_optional_ok}

module _ (registry : List TypeInfo) where
  -- ---- the clauses

  -- the types of the clauses so far, which are those that were taken
  record AreTaken (types taken : List ℕ) : Type 0 where
    pub once : are_once types ≡ true
    pub known : list_all (λ t. nat_lt t (length registry)) types ≡ true
    pub same : (t : ℕ) → has_type taken t ≡ has_type types t

  one_more_clause : (allowed : Allowed) (types taken : List ℕ) (n : Named) → AreTaken types taken → IsNamed registry allowed taken 256 n → AreTaken (types ++ n.found) n.taken
  one_more_clause allowed types taken n so_far h = record {
    once = once_joined types n.found so_far.once (once_rising 0 (length registry) n.found h.rising)
        (λ t there. false_from_ne_true _ (λ again. both_ways _ (sym (so_far.same t) ∙ h.apart t again) there));
    known = all_joined (λ t. nat_lt t (length registry)) types n.found so_far.known (all_below 0 (length registry) n.found h.rising);
    same = λ t. h.taken_now t ∙ ap (λ b. b || has_type n.found t) (so_far.same t) ∙ sym (has_type-append types n.found t);
  }

  pub record AreLawfulClauses (c : Clauses) : Type 0 where
    pub once : are_once ((((c.all ++ c.any) ++ c.none) ++ c.disabled) ++ c.absent) ≡ true
    pub known : list_all (λ t. nat_lt t (length registry)) ((((c.all ++ c.any) ++ c.none) ++ c.disabled) ++ c.absent) ≡ true
    pub disabled : list_all (is_enableable_at registry) c.disabled ≡ true

  pub clauses_ok : (ms : Members) (c : Clauses) → clauses registry ms ≡ Ok c → AreLawfulClauses c
  clauses_ok ms c is =
      let all = then_ok _ (clause (codes "all") registry any_type [] ms) c is in
      let any = then_ok _ (clause (codes "any") registry any_type all.0.taken ms) c all.2 in
      let none = then_ok _ (clause (codes "none") registry any_type any.0.taken ms) c any.2 in
      let disabled = then_ok _ (clause (codes "disabled") registry enableable none.0.taken ms) c none.2 in
      let absent = then_ok _ (clause (codes "absent") registry any_type disabled.0.taken ms) c disabled.2 in
      let off = clause_ok registry enableable none.0.taken (codes "disabled") ms disabled.0 disabled.1 in
      let first = one_more_clause any_type [] [] all.0 (record { once = refl; known = refl; same = λ t. refl })
      (clause_ok registry any_type [] (codes "all") ms all.0 all.1) in
      let second = one_more_clause any_type _ all.0.taken any.0 first (clause_ok registry any_type all.0.taken (codes "any") ms any.0 any.1) in
      let third = one_more_clause any_type _ any.0.taken none.0 second (clause_ok registry any_type any.0.taken (codes "none") ms none.0 none.1) in
      let fourth = one_more_clause enableable _ none.0.taken disabled.0 third off in
      let last = one_more_clause any_type _ disabled.0.taken absent.0 fourth (clause_ok registry any_type disabled.0.taken (codes "absent") ms absent.0 absent.1) in
      subst AreLawfulClauses (ok_same _ c absent.2) (record { once = last.once; known = last.known; disabled = off.fits })

  -- ---- the filters

  shared_value_ok : (kind : FieldKind) (d : Data) (v : Value) → shared_value kind d ≡ Ok v → fits_field kind v ≡ true
  shared_value_ok kind (integer z) v is =
      let within = fault_ok (not (fits_field kind (Int z))) NumberRange (Ok (Int z)) v is in
      subst (λ w. fits_field kind w ≡ true) (ok_same (Int z) v within.1) (not-false _ within.0)
  shared_value_ok kind (string s) v is = absurd cc
  shared_value_ok kind (float f) v is = absurd cc
  shared_value_ok kind (boolean b) v is = absurd cc
  shared_value_ok kind (datetime t) v is = absurd cc
  shared_value_ok kind (array ds) v is = absurd cc
  shared_value_ok kind (table ms) v is = absurd cc

  shared_values_ok : (i : ℕ) (fs : List FieldInfo) (ds : Items) (vs : List Value) → item_count ds ≡ length fs → shared_values_from i fs ds ≡ Ok vs → fits_fields fs vs ≡ true
  shared_values_ok i [] ds vs count is = subst (λ us. fits_fields [] us ≡ true) (ok_same [] vs is) refl
  shared_values_ok i (f ∷ fs) no_items vs count is = absurd (omega (arith, count))
  shared_values_ok i (f ∷ fs) (item d ds) vs count is =
      let first = then_ok (λ v. changed (λ us. v ∷ us) (shared_values_from (i + 1) fs ds)) (at_place i (shared_value f.kind d)) vs is in
      let later = changed_ok (λ us. first.0 ∷ us) (shared_values_from (i + 1) fs ds) vs first.2 in
      subst (λ us. fits_fields (f ∷ fs) us ≡ true) later.2
      (and_from _ _ (shared_value_ok f.kind d first.0 (at_place_ok i (shared_value f.kind d) first.0 first.1))
      (shared_values_ok (i + 1) fs ds later.0 (omega (arith, count)) later.1))

  module _ (all : List ℕ) where
    record IsFilterPart (key : List ℕ) (p : Part) : Type 0 where
      pub named : type_named registry key ≡ Some p.ty.0
      pub fits : shared_filter_fits registry all p ≡ true

    shared_part_ok : (key : List ℕ) (d : Data) (p : Part) → shared_part registry all key d ≡ Ok p → IsFilterPart key p
    shared_part_ok key d p is =
        let ds = then_ok _ (list d) p is in
        let ty = then_ok (shared_part_of registry ds.0) (type_of_key registry (shared_of all) key) p ds.2 in
        let whole : List Value → Part = λ vs. record { ty = record { 0 = ty.0 }; values = vs } in
        let known = type_of_key_ok registry (shared_of all) key ty.0 ty.1 in
        let fields = (type_at registry ty.0).fields in
        let vs = changed_ok whole (shared_values fields ds.0) p ty.2 in
        let counted = fault_ok (not (item_count ds.0 == length fields)) WrongCount (shared_values_from 0 fields ds.0) vs.0 vs.1 in
        let count : item_count ds.0 ≡ length fields = eqb-true (item_count ds.0) (length fields) (not-false _ counted.0) in
        subst (IsFilterPart key) vs.2 (record {
          named = known.named;
          fits = and_from _ _ known.fits (shared_values_ok 0 fields ds.0 vs.0 count counted.1);
        })

    pub record AreLawfulFilters (parts : List Part) : Type 0 where
      pub few : length parts ≤ MOST_SHARED_FILTERS
      pub fit : list_all (shared_filter_fits registry all) parts ≡ true
      pub once : are_once (map (λ p. p.ty.0) parts) ≡ true

    shared_table_ok : (d : Data) (parts : List Part) → is_sorted d ≡ true → shared_table registry all d ≡ Ok parts → AreLawfulFilters parts
    shared_table_ok d parts sorted is =
        let ms = then_ok (each_member (shared_part registry all)) (members_up_to MOST_SHARED_FILTERS d) parts is in
        let every = then_ok (few_members MOST_SHARED_FILTERS) (members d) ms.0 ms.1 in
        let few = fault_ok (nat_lt MOST_SHARED_FILTERS (member_count every.0)) TooMany (Ok every.0) ms.0 every.2 in
        let same : every.0 ≡ ms.0 = ok_same every.0 ms.0 few.1 in
        let ordered = subst (λ xs. members_are_sorted xs ≡ true) same (members_sorted d every.0 sorted every.1) in
        let count : member_count ms.0 ≤ MOST_SHARED_FILTERS = subst (λ xs. member_count xs ≤ MOST_SHARED_FILTERS) same (ltb-false _ _ few.0) in
        let keyed = keyed_ok IsFilterPart (shared_part registry all) shared_part_ok ms.0 parts ms.2 in
        record {
          few = omega (arith, keyed_count IsFilterPart ms.0 parts keyed, count);
          fit = all_from_each (shared_filter_fits registry all) parts (each_keyed IsFilterPart (λ p. shared_filter_fits registry all p ≡ true) (λ k p h. h.fits) ms.0 parts keyed);
          once = keyed_once registry (λ (p : Part). p.ty.0) IsFilterPart (λ k p h. h.named) ms.0 parts ordered keyed;
        }

    pub record AreLawfulChanged (types : List ℕ) : Type 0 where
      pub few : length types ≤ MOST_CHANGED
      pub fit : list_all (λ t. has_type all t && not (is_shared_at registry t)) types ≡ true

    changed_types_ok : (d : Data) (types : List ℕ) → changed_types registry all d ≡ Ok types → AreLawfulChanged types
    changed_types_ok d types is =
        let n = changed_ok (λ (m : Named). m.found) (type_list MOST_CHANGED registry (unshared_of all) [] d) types is in
        let named = type_list_ok registry (unshared_of all) [] MOST_CHANGED d n.0 n.1 in
        subst AreLawfulChanged n.2 (record { few = named.few; fit = named.fits })

    pub record HasLawfulFilters (f : Filters) : Type 0 where
      pub changed : AreLawfulChanged f.changed
      pub shared : AreLawfulFilters f.shared

    pub filters_ok : (ms : Members) (f : Filters) → members_are_sorted ms ≡ true → filters registry all ms ≡ Ok f → HasLawfulFilters f
    filters_ok ms f sorted is =
        let d = then_ok _ (optional (codes "include_disabled") false truth ms) f is in
        let p = then_ok _ (optional (codes "include_prefab") false truth ms) f d.2 in
        let c = then_ok _ (optional (codes "changed") [] (changed_types registry all) ms) f p.2 in
        let o = then_ok _ (optional (codes "order_changed") false truth ms) f c.2 in
        let s = then_ok _ (optional (codes "shared") [] (shared_table registry all) ms) f o.2 in
        subst HasLawfulFilters (ok_same _ f s.2) (record {
          changed = optional_ok AreLawfulChanged (codes "changed") [] (changed_types registry all) ms c.0 (record { few = omega arith; fit = refl })
              (λ e got. changed_types_ok e c.0 got) c.1;
          shared = sorted_optional_ok AreLawfulFilters (codes "shared") [] (shared_table registry all) ms s.0 sorted (record { few = omega arith; fit = refl; once = refl })
              (λ e here got. shared_table_ok e s.0 here got) s.1;
        })
