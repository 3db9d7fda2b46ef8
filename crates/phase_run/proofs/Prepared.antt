-- A system by its query: which types it writes, and which blocks pass.
use Rattle.std.proofs.Common.{ℕ, ◌≡◌, ◌∙◌, ◌+◌, ◌≤◌, ◌<◌, Bool, true, false, ◌||◌, nat_eq, refl, sym, ap, ap₂, subst, List, [], ◌∷◌, ◌++◌, length, map, arith}
use Rattle.ent_types.specs.declared.type_info.TypeInfo.{TypeInfo}
use Rattle.ent_types.specs.declared.value.Part.{Part}
use Rattle.ent_types.specs.declared.limits.TheConstants.{MOST_CHANGED, MOST_SHARED_FILTERS, MOST_TYPES}
use Rattle.ent_types.specs.Registries.{IsLawfulRegistry}
use Rattle.ent_types.specs.TypeSets.{has_type, with_type}
use Rattle.ent_types.proofs.TypeSetLemmas.{has_type-with_type}
use Rattle.world_model.specs.Members.{In, AreDistinct, one_if, tally}
use Rattle.world_model.specs.World.{Block}
use Rattle.world_laws.proofs.Members.{in_left, in_right, map_append}
use Rattle.world_laws.proofs.Types.{has_in}
use Rattle.scenario_record.specs.declared.record.SystemEntry.{SystemEntry}
use Rattle.scenario_record.specs.Lawful.{is_bound}
use Rattle.world_places.proofs.Lists.{map_twice}
use Rattle.phase_run.specs.Queries.{assigned_types, switched_types}
use Rattle.run_model.specs.Job.{Assigns, Switches, writes, written_type}
use Rattle.run_model.specs.LawfulQuery.{IsLawfulFilter, query_types}
use Rattle.run_model.specs.Query.{passes}
use Rattle.run_laws.specs.Runnable.{SystemRuns}
use Rattle.query_select.specs.declared.filter.Filter.{Filter}
use Rattle.query_select.specs.declared.query.Query.{Query}
use Rattle.query_select.specs.Entries.{IsEntryOf, entry_of, unfiltered}

-- ---- sets of types

-- one type more
pub one_with : (types left : List ℕ) (t u : ℕ) → (has_type (with_type types t) u || has_type left u) ≡ (has_type types u || has_type (t ∷ left) u)
one_with types left t u =
    ap (λ b. b || has_type left u) (has_type-with_type types t u) ∙ by (nat_eq t u) (has_type types u) (has_type left u)
  where
    by : (a b c : Bool) → ((a || b) || c) ≡ (b || (a || c))
    by true true c = refl
    by true false c = refl
    by false b c = refl

-- the types that a system writes are those of its assignments and those of its enable texts
pub types_written : (s : SystemEntry) → writes s ≡ assigned_types s.set ++ switched_types s.enable
types_written s =
    map_append written_type (map Assigns s.set) (map Switches s.enable)
    ∙ ap₂ (λ (xs ys : List ℕ). xs ++ ys) (map_twice written_type Assigns s.set) (map_twice written_type Switches s.enable)

-- ---- known types

module _ (registry : List TypeInfo) (s : SystemEntry) (lawful : IsLawfulRegistry registry) (runs : SystemRuns registry s) where
  pub bound_small : (t : ℕ) → is_bound s t ≡ true → t < MOST_TYPES
  bound_small t bound =
      let known = runs.query.known t (listed (has_type s.all t) refl bound) in
      let most = lawful.most in
      omega (arith, known, most)
    where
      listed : (b : Bool) → has_type s.all t ≡ b → (b || has_type s.disabled t) ≡ true → In t (query_types s)
      listed true is h = in_left t s.all (s.any ++ (s.none ++ (s.disabled ++ s.absent))) (has_in t s.all is)
      listed false is h =
          in_right t s.all (s.any ++ (s.none ++ (s.disabled ++ s.absent)))
          (in_right t s.any (s.none ++ (s.disabled ++ s.absent)) (in_right t s.none (s.disabled ++ s.absent) (in_left t s.disabled s.absent (has_in t s.disabled h))))

-- ---- the query of a system

module _ (query : Query) (filter : Filter) (s : SystemEntry) (is : IsEntryOf query filter s) (registry : List TypeInfo) where
  pub filter_lawful : IsLawfulFilter registry s → IsLawfulFilter registry (entry_of query filter)
  filter_lawful h = record {
    few_changed = subst (λ (ts : List ℕ). length ts ≤ MOST_CHANGED) is.changed h.few_changed;
    changed = λ t i.
        let w = h.changed t (subst (In t) (sym is.changed) i) in
        record { bound = subst (In t) is.all w.bound; own = w.own };
    few_shared = subst (λ (ps : List Part). length ps ≤ MOST_SHARED_FILTERS) is.shared h.few_shared;
    once = subst (λ (ps : List Part). AreDistinct (map (λ (p : Part). p.ty.0) ps)) is.shared h.once;
    shared = λ p i.
        let w = h.shared p (subst (In p) (sym is.shared) i) in
        record { bound = subst (In p.ty.0) is.all w.bound; shared = w.shared; fit = w.fit };
  }

  passes_alike : (types : List ℕ) → passes registry (unfiltered query) types ≡ passes registry s types
  passes_alike types = λ i. passes registry (record (unfiltered query) {
    all = sym is.all i;
    any = sym is.any i;
    none = sym is.none i;
    disabled = sym is.disabled i;
    absent = sym is.absent i;
    include_disabled = sym is.include_disabled i;
    include_prefab = sym is.include_prefab i;
  }) types

  pub passing_alike : (bs : List Block) → tally (λ (b : Block). passes registry (unfiltered query) b.home.types) bs ≡ tally (λ (b : Block). passes registry s b.home.types) bs
  passing_alike [] = refl
  passing_alike (b ∷ bs) = ap₂ (λ (t : Bool) (n : ℕ). one_if t + n) (passes_alike b.home.types) (passing_alike bs)
