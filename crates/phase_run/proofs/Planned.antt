-- What the plan of a run lends of each block.
use Rattle.std.proofs.Common.{ℕ, ◌≡◌, ◌∙◌, ◌≤◌, ◌⊎◌, inl, inr, Bool, true, false, not, ◌||◌, ◌&&◌, cond, nat_eq, refl, sym, ap, ap₂, subst, List, [], ◌∷◌, ◌++◌, length, map, filter, arith}
use Rattle.std.specs.Prelude.{⊤}
use Rattle.std.specs.Bool.{MatchBool}
use Rattle.std.specs.List.{list_all, list_any}
use Rattle.std.proofs.lemmas.Bool.{and_parts, eq-eqb, eqb-true}
use Rattle.chunk_layout.proofs.CapacityLemmas.{capacity_of-bounded}
use Rattle.ent_types.specs.declared.kinds.Kind.{Kind}
use Rattle.ent_types.specs.declared.kinds.Kind.TheVariants.{Plain, Tag, Shared, Cleanup, Buffer}
use Rattle.ent_types.specs.declared.type_info.TypeInfo.{TypeInfo}
use Rattle.ent_types.specs.Registries.{IsLawfulRegistry, type_at}
use Rattle.ent_types.specs.Types.{column_size, has_column, is_shared}
use Rattle.ent_types.specs.TypeLookups.{is_shared_at}
use Rattle.ent_types.specs.TypeSets.{has_type}
use Rattle.system_version.specs.Versions.{version_of}
use Rattle.world_model.specs.Members.{In, AreDistinct}
use Rattle.world_model.specs.Versions.{IsLawfulCode, block_versions}
use Rattle.world_model.specs.World.{Block, World, capacity}
use Rattle.world_laws.proofs.Members.{in_append, in_map, map_in}
use Rattle.world_rows.specs.Rows.{own_types}
use Rattle.world_rows.proofs.Fitting.{enableable_own}
use Rattle.world_loans.specs.Plans.{AreApart, planned}
use Rattle.world_loans.proofs.Lent.{has_append}
use Rattle.structural_ops.specs.Freezing.{block_at, lent_at, lents}
use Rattle.structural_ops.specs.Numbered.{OfNumbered}
use Rattle.scenario_record.specs.declared.record.SystemEntry.{SystemEntry}
use Rattle.scenario_record.specs.Lawful.{is_bound}
use Rattle.run_model.specs.Job.{Assigns, Switches, Text, texts_of, writes, written_type}
use Rattle.run_model.specs.Query.{passes}
use Rattle.run_laws.specs.Runnable.{SystemRuns}
use Rattle.query_select.specs.declared.visits.Visit.{Visit}
use Rattle.phase_run.specs.After.{loans_for}
use Rattle.phase_run.proofs.Chosen.{visit_block}

-- ---- lists of types

filter_has : (p : ℕ → Bool) (ts : List ℕ) (t : ℕ) → has_type (filter p ts) t ≡ (p t && has_type ts t)
filter_has p [] t = by (p t)
  where
    by : (b : Bool) → false ≡ (b && false)
    by true = refl
    by false = refl
filter_has p (u ∷ us) t = by (p u) (nat_eq u t) refl refl (filter_has p us t)
  where
    absorbed : (a b : Bool) → a ≡ true → true ≡ (a && true)
    absorbed a b h = sym (ap (λ c. c && true) h)

    lacks : (a b : Bool) → a ≡ false → (a && b) ≡ (a && true)
    lacks a b h = ap (λ c. c && b) h ∙ sym (ap (λ c. c && true) h)

    by : (a b : Bool) → p u ≡ a → nat_eq u t ≡ b → has_type (filter p us) t ≡ (p t && has_type us t)
        → has_type (cond a (u ∷ filter p us) (filter p us)) t ≡ (p t && (b || has_type us t))
    by true true is here rest = ap (λ c. c || has_type (filter p us) t) here ∙ absorbed (p t) true (ap p (sym (eqb-true u t here)) ∙ is)
    by true false is here rest = ap (λ c. c || has_type (filter p us) t) here ∙ rest
    by false true is here rest = rest ∙ lacks (p t) (has_type us t) (ap p (sym (eqb-true u t here)) ∙ is)
    by false false is here rest = rest

all_has : (p : ℕ → Bool) (ts : List ℕ) (t : ℕ) → list_all p ts ≡ true → has_type ts t ≡ true → p t ≡ true
all_has p [] t all has = absurd (cc has)
all_has p (u ∷ us) t all has = by (nat_eq u t) refl has (all_has p us t (and_parts (p u) (list_all p us) all).1)
  where
    by : (b : Bool) → nat_eq u t ≡ b → (b || has_type us t) ≡ true → (has_type us t ≡ true → p t ≡ true) → p t ≡ true
    by true here h rest = ap p (sym (eqb-true u t here)) ∙ (and_parts (p u) (list_all p us) all).0
    by false here h rest = rest h

-- ---- what a plan lends

module _ (types : List ℕ) where
  pub planned_within : (vs : List Visit) (n t : ℕ) → has_type types t ≡ false → has_type (planned (loans_for types vs) n) t ≡ false
  planned_within [] n t lacks = refl
  planned_within (v ∷ vs) n t lacks = by (nat_eq n v.block) (planned_within vs n t lacks)
    where
      by : (b : Bool) → has_type (planned (loans_for types vs) n) t ≡ false
          → has_type (cond b (types ++ planned (loans_for types vs) n) (planned (loans_for types vs) n)) t ≡ false
      by true rest = has_append types (planned (loans_for types vs) n) t ∙ ap₂ (λ a b. a || b) lacks rest
      by false rest = rest

  pub planned_visited : (vs : List Visit) (v : Visit) → In v vs → (t : ℕ) → has_type types t ≡ true → has_type (planned (loans_for types vs) v.block) t ≡ true
  planned_visited [] v i t has = absurd i
  planned_visited (u ∷ us) v (inl same) t has =
      ap (λ b. has_type (cond b (types ++ planned (loans_for types us) v.block) (planned (loans_for types us) v.block)) t) (eq-eqb v.block u.block (ap visit_block same))
      ∙ has_append types (planned (loans_for types us) v.block) t
      ∙ ap (λ b. b || has_type (planned (loans_for types us) v.block) t) has
  planned_visited (u ∷ us) v (inr i) t has = by (nat_eq v.block u.block) (planned_visited us v i t has)
    where
      by : (b : Bool) → has_type (planned (loans_for types us) v.block) t ≡ true
          → has_type (cond b (types ++ planned (loans_for types us) v.block) (planned (loans_for types us) v.block)) t ≡ true
      by true rest = has_append types (planned (loans_for types us) v.block) t ∙ ap (λ b. b || has_type (planned (loans_for types us) v.block) t) has
      by false rest = rest

  pub plan_apart : (vs : List Visit) → AreDistinct (map visit_block vs) → AreApart (loans_for types vs)
  plan_apart [] distinct = tt
  plan_apart (v ∷ vs) distinct = (
    λ e i same.
        let (u, j, is) = in_map (λ (u : Visit). (u.block, types)) e vs i in
        absurd (distinct.0 (subst (λ n. In n (map visit_block vs)) (sym (same ∙ ap (λ (d : ℕ × List ℕ). d.0) is)) (map_in visit_block u vs j))),
    plan_apart vs distinct.1,
  )

-- ---- what is lent of a block

module _ (registry : List TypeInfo) (lent : ℕ → List ℕ) where
  pub lent_is : (n : ℕ) (ns : List ℕ) (bs : List Block) → OfNumbered n (λ _. ⊤) ns bs
      → lent_at n ns (lents registry lent ns bs) ≡ filter (has_type (lent n)) (own_types registry (block_at n ns bs).home.types)
  lent_is n [] bs there = absurd there
  lent_is n (m ∷ ms) [] there = absurd there
  lent_is n (m ∷ ms) (b ∷ bs) there = by (nat_eq m n) refl there (lent_is n ms bs)
    where
      by : (t : Bool) → nat_eq m n ≡ t → MatchBool t ⊤ (OfNumbered n (λ _. ⊤) ms bs)
          → (OfNumbered n (λ _. ⊤) ms bs → lent_at n ms (lents registry lent ms bs) ≡ filter (has_type (lent n)) (own_types registry (block_at n ms bs).home.types))
          → cond t (filter (has_type (lent m)) (own_types registry b.home.types)) (lent_at n ms (lents registry lent ms bs))
          ≡ filter (has_type (lent n)) (own_types registry (let c : Block = cond t b (block_at n ms bs) in c).home.types)
      by true same h rest = ap (λ k. filter (has_type (lent k)) (own_types registry b.home.types)) (eqb-true m n same)
      by false other h rest = rest h

  -- a type that is lent of no block
  pub lents_none : (t : ℕ) → ((n : ℕ) → has_type (lent n) t ≡ false) → (ns : List ℕ) (bs : List Block) → list_any (λ ts. has_type ts t) (lents registry lent ns bs) ≡ false
  lents_none t lacks [] bs = refl
  lents_none t lacks (n ∷ ns) [] = refl
  lents_none t lacks (n ∷ ns) (b ∷ bs) =
      ap₂ (λ a c. a || c)
      (filter_has (has_type (lent n)) (own_types registry b.home.types) t ∙ ap (λ a. a && has_type (own_types registry b.home.types) t) (lacks n))
      (lents_none t lacks ns bs)

pub lent_has : (registry : List TypeInfo) (lent types : List ℕ) (t : ℕ)
    → has_type (filter (has_type lent) (own_types registry types)) t ≡ (has_type lent t && (not (is_shared_at registry t) && has_type types t))
lent_has registry lent types t =
    filter_has (has_type lent) (own_types registry types) t ∙ ap (λ a. has_type lent t && a) (filter_has (λ u. not (is_shared_at registry u)) types t)

-- ---- the types that a system writes and reads

column_own : (k : Kind) → has_column k ≡ true → is_shared k ≡ false
column_own Plain is = refl
column_own Tag is = refl
column_own Shared is = absurd (cc is)
column_own Cleanup is = refl
column_own Buffer is = refl

module _ (registry : List TypeInfo) (s : SystemEntry) where
  -- each row that matches has the types that are bound
  pub bound_there : (types : List ℕ) → passes registry s types ≡ true → (t : ℕ) → is_bound s t ≡ true → has_type types t ≡ true
  bound_there types passing t bound =
      let first = and_parts (list_all (has_type types) s.all) _ passing in
      let second = and_parts _ _ first.1 in
      let third = and_parts _ _ second.1 in
      let fourth = and_parts (list_all (has_type types) s.disabled) _ third.1 in
      by (has_type s.all t) refl bound first.0 fourth.0
    where
      by : (b : Bool) → has_type s.all t ≡ b → (b || has_type s.disabled t) ≡ true → list_all (has_type types) s.all ≡ true → list_all (has_type types) s.disabled ≡ true
          → has_type types t ≡ true
      by true is h all disabled = all_has (has_type types) s.all t all is
      by false is h all disabled = all_has (has_type types) s.disabled t disabled h

  module _ (lawful : IsLawfulRegistry registry) (runs : SystemRuns registry s) where
    -- what is written is bound and isn't shared
    pub written_own : (t : ℕ) → In t (writes s) → (is_bound s t ≡ true) × (is_shared_at registry t ≡ false)
    written_own t i = let (x, j, same) = in_map written_type t (texts_of s) i in of x same (in_append x (map Assigns s.set) (map Switches s.enable) j)
      where
        own_type : ℕ → Type 0
        own_type u = (is_bound s u ≡ true) × (is_shared_at registry u ≡ false)

        of : (x : Text) → t ≡ written_type x → In x (map Assigns s.set) ⊎ In x (map Switches s.enable) → (is_bound s t ≡ true) × (is_shared_at registry t ≡ false)
        of x same (inl k) =
            let (a, h, is) = in_map Assigns x s.set k in
            let type : a.ty.0 ≡ t = sym (same ∙ ap written_type is) in
            let run = runs.assigns a h in (
              subst (λ u. is_bound s u ≡ true) type run.bound,
              subst (λ u. is_shared_at registry u ≡ false) type (column_own (type_at registry a.ty.0).kind run.column),
            )
        of x same (inr k) =
            let (w, h, is) = in_map Switches x s.enable k in
            let type : w.ty.0 ≡ t = sym (same ∙ ap written_type is) in
            let run = runs.switches w h in (
              subst (λ u. is_bound s u ≡ true) type run.bound,
              subst (λ u. is_shared_at registry u ≡ false) type (enableable_own registry lawful w.ty.0 run.enableable),
            )

-- ---- lawful worlds

pub block_in : (n : ℕ) (ns : List ℕ) (bs : List Block) → OfNumbered n (λ _. ⊤) ns bs → In (block_at n ns bs) bs
block_in n [] bs there = absurd there
block_in n (m ∷ ms) [] there = absurd there
block_in n (m ∷ ms) (b ∷ bs) there = by (nat_eq m n) there (block_in n ms bs)
  where
    by : (t : Bool) → MatchBool t ⊤ (OfNumbered n (λ _. ⊤) ms bs) → (OfNumbered n (λ _. ⊤) ms bs → In (block_at n ms bs) bs) → In (cond t b (block_at n ms bs)) (b ∷ bs)
    by true h rest = inl refl
    by false h rest = inr (rest h)

module _ (w : World) (is : IsLawfulCode (capacity w.registry) w) where
  pub lawful_types : IsLawfulRegistry w.registry
  lawful_types = subst IsLawfulRegistry (sym (ap (λ (c : World). c.registry) is.stands)) is.lawful.registry

  pub rows_few : (b : Block) → In b w.blocks → length b.rows ≤ 128
  rows_few b i =
      let (c, j, same) = in_map (block_versions (version_of is.first)) b is.world.blocks (subst (In b) (ap (λ (x : World). x.blocks) is.stands) i) in
      let few = (is.lawful.blocks c j).few in
      let most = capacity_of-bounded (map (λ t. column_size (type_at w.registry t)) c.home.types) in
      subst (λ (x : Block). length x.rows ≤ 128) (sym same) (omega (arith, few, most))
