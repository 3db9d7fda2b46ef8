-- Runners by the numbers of their systems.
use Rattle.std.proofs.Common.{◌≤◌, ◌<◌, get_or, arith, ◌≡◌, ℕ, ◌+◌, ◌⊎◌, zero, suc, nat_eq, Bool, true, false, List, [], ◌∷◌, ◌++◌, map, length, Option, Some, None, refl, sym, ap, ap₂, ◌∙◌, subst, slice_get, inl, inr}
use Rattle.std.specs.Prelude.{slice_set, replicate, unwrap_or}
use Rattle.std.proofs.lemmas.List.{length_push}
use Rattle.std.proofs.lemmas.Option.{slice_get-get_or}
use Rattle.world_model.specs.Members.{In}
use Rattle.world_laws.proofs.Members.{in_append}
use Rattle.ent_types.specs.declared.type_info.TypeInfo.{TypeInfo}
use Rattle.scenario_record.specs.declared.record.SystemEntry.{SystemEntry}
use Rattle.query_select.specs.Caches.{CacheState, IsCacheOf}
use Rattle.query_select.specs.Entries.{last_run, unfiltered}
use Rattle.frame_run.specs.declared.runner.Runner.{Runner}
use Rattle.scenario_record.specs.declared.record.Scenario.{Scenario}
use Rattle.structural_ops.specs.Worlds.{Grows, WorldState}
use Rattle.world_model.specs.World.{World, capacity}
use Rattle.run_model.specs.Tasks.{spawned}
use Rattle.frame_run.specs.Stages.{Stage}
use Rattle.frame_run.specs.Doing.{first_stage}
use Rattle.frame_run.specs.Runners.{IsRunnerOf, AreRunnersOf, never_ran, stage_of}

abbrev pub last_of : Runner → Option ℕ
last_of r = last_run r.last.0

module _ {A : Type 0} where
  pub set_length : (xs : List A) (n : ℕ) (x : A) → length (slice_set xs n x) ≡ length xs
  set_length [] n x = refl
  set_length (y ∷ ys) zero x = refl
  set_length (y ∷ ys) (suc n) x = ap suc (set_length ys n x)

  pub set_there : (xs : List A) (n : ℕ) (x y : A) → slice_get (slice_set xs n x) n ≡ Some y → x ≡ y
  set_there [] n x y e = cc
  set_there (z ∷ zs) zero x y e = cc
  set_there (z ∷ zs) (suc n) x y e = set_there zs n x y e

  pub set_elsewhere : (xs : List A) (n m : ℕ) (x : A) → (m ≡ n → ⊥) → slice_get (slice_set xs n x) m ≡ slice_get xs m
  set_elsewhere [] n m x other = refl
  set_elsewhere (z ∷ zs) zero zero x other = absurd (other refl)
  set_elsewhere (z ∷ zs) zero (suc m) x other = refl
  set_elsewhere (z ∷ zs) (suc n) zero x other = refl
  set_elsewhere (z ∷ zs) (suc n) (suc m) x other = set_elsewhere zs n m x (λ e. other (ap suc e))

module _ {A B : Type 0} (f : A → B) where
  pub map_set : (xs : List A) (n : ℕ) (x : A) → map f (slice_set xs n x) ≡ slice_set (map f xs) n (f x)
  map_set [] n x = refl
  map_set (y ∷ ys) zero x = refl
  map_set (y ∷ ys) (suc n) x = ap (λ (zs : List B). f y ∷ zs) (map_set ys n x)

  pub map_found : (xs : List A) (n : ℕ) (x : A) → slice_get xs n ≡ Some x → slice_get (map f xs) n ≡ Some (f x)
  map_found [] n x e = cc
  map_found (y ∷ ys) zero x e = let same : y ≡ x = cc in ap (λ z. Some (f z)) same
  map_found (y ∷ ys) (suc n) x e = map_found ys n x e

module _ {A : Type 0} where
  pub past_none : (xs : List A) (n : ℕ) → length xs ≤ n → slice_get xs n ≡ None
  past_none [] n past = refl
  past_none (x ∷ xs) zero past = absurd (omega (arith, past))
  past_none (x ∷ xs) (suc n) past = past_none xs n (omega (arith, past))

  pub at_place : (xs : List A) (n : ℕ) (x : A) → n < length xs → x ≡ get_or xs n x → slice_get xs n ≡ Some x
  at_place xs n x below is = slice_get-get_or xs n x below ∙ ap Some (sym is)

-- a list of one value
pub all_alike : (rs : List Runner) → never_ran rs → map last_of rs ≡ replicate (length rs) None
all_alike [] h = refl
all_alike (r ∷ rs) h = ap₂ (λ (l : Option ℕ) (ls : List (Option ℕ)). l ∷ ls) (ap last_run (h r (inl refl))) (all_alike rs (λ q i. h q (inr i)))

module _ (registry : List TypeInfo) where
  -- a runner stays one after more archetypes were made
  pub runners_grow : ((s : SystemEntry) (archetypes more : List (List ℕ)) (c : CacheState) → IsCacheOf registry s archetypes c → IsCacheOf registry s (archetypes ++ more) c)
      → (old new : List (List ℕ)) → Grows old new → (ss : List SystemEntry) (rs : List Runner) → AreRunnersOf registry old ss rs → AreRunnersOf registry new ss rs
  runners_grow stays old new grows ss rs h = record {
    count = h.count;
    each = λ n s r i j. let k = h.each n s r i j in record {
      query = k.query;
      cache = subst (λ archetypes. IsCacheOf registry (unfiltered r.query.query) archetypes r.cache) (sym grows.are) (stays (unfiltered r.query.query) old grows.more r.cache k.cache);
    };
  }

  -- the runner of a system that ran is put in its place
  pub runner_put : (archetypes : List (List ℕ)) (ss : List SystemEntry) (rs : List Runner) (n : ℕ) (s : SystemEntry) (r : Runner)
      → AreRunnersOf registry archetypes ss rs → slice_get ss n ≡ Some s → IsRunnerOf registry archetypes s r → AreRunnersOf registry archetypes ss (slice_set rs n r)
  runner_put archetypes ss rs n s r h at is = record {
    count = set_length rs n r ∙ h.count;
    each = λ m t q i j. by m t q i j (nat_eq m n) refl;
  }
    where
      differs : {m : ℕ} → nat_eq m n ≡ false → m ≡ n → ⊥
      differs e same = grind (arith, e, same)

      here : (m : ℕ) (t : SystemEntry) (q : Runner) → slice_get ss m ≡ Some t → slice_get (slice_set rs n r) m ≡ Some q → m ≡ n → IsRunnerOf registry archetypes t q
      here m t q i j same =
          let system : s ≡ t = (let both : Some s ≡ Some t = sym at ∙ (ap (slice_get ss) (sym same) ∙ i) in cc) in
          let runner : r ≡ q = set_there rs n r q (ap (slice_get (slice_set rs n r)) (sym same) ∙ j) in
          subst (λ u. IsRunnerOf registry archetypes u q) system (subst (IsRunnerOf registry archetypes s) runner is)

      by : (m : ℕ) (t : SystemEntry) (q : Runner) → slice_get ss m ≡ Some t → slice_get (slice_set rs n r) m ≡ Some q → (b : Bool) → nat_eq m n ≡ b → IsRunnerOf registry archetypes t q
      by m t q i j true e = here m t q i j (grind (arith, e))
      by m t q i j false e = h.each m t q i (sym (set_elsewhere rs n m r (λ same. differs e same)) ∙ j)

pub first_is : (s : Scenario) (w : WorldState) (rs : List Runner) → w.world ≡ spawned (capacity s.registry) s s.first_system_version → length rs ≡ length s.system → never_ran rs
    → stage_of w rs ≡ first_stage s
first_is s w rs made count never =
    ap₂ (λ (u : World) (ls : List (Option ℕ)). (let g : Stage = record { world = u; lasts = ls } in g)) made (all_alike rs never ∙ ap (λ n. replicate n None) count)

-- ---- runners made one after another

module _ {A : Type 0} where
  got_pushed : (xs : List A) (x : A) (n : ℕ) (y : A) → slice_get (xs ++ x ∷ []) n ≡ Some y → (slice_get xs n ≡ Some y) ⊎ ((n ≡ length xs) × (y ≡ x))
  got_pushed [] x zero y e = let same : x ≡ y = cc in inr (refl, sym same)
  got_pushed [] x (suc n) y e = cc
  got_pushed (z ∷ zs) x zero y e = inl e
  got_pushed (z ∷ zs) x (suc n) y e = by (got_pushed zs x n y e)
    where
      by : (slice_get zs n ≡ Some y) ⊎ ((n ≡ length zs) × (y ≡ x)) → (slice_get zs n ≡ Some y) ⊎ ((suc n ≡ suc (length zs)) × (y ≡ x))
      by (inl there) = inl there
      by (inr (last, same)) = inr (ap suc last, same)

module _ (registry : List TypeInfo) (ss : List SystemEntry) where
  -- the first of them
  pub record AreFirst (rs : List Runner) (k : ℕ) : Type 0 where
    pub count : length rs ≡ k
    pub each : (archetypes : List (List ℕ)) (n : ℕ) (s : SystemEntry) (r : Runner) → slice_get ss n ≡ Some s → slice_get rs n ≡ Some r → IsRunnerOf registry archetypes s r
    pub never : never_ran rs

  pub no_runner : AreFirst [] 0
  no_runner = record { count = refl; each = λ archetypes n s r i j. cc; never = λ r i. absurd i }

  pub one_runner : (rs : List Runner) (k : ℕ) (s : SystemEntry) (r : Runner) → AreFirst rs k → slice_get ss k ≡ Some s
      → ((archetypes : List (List ℕ)) → IsRunnerOf registry archetypes s r) → r.last.0 ≡ 0 → AreFirst (rs ++ r ∷ []) (k + 1)
  one_runner rs k s r h there is fresh = record {
    count = length_push rs r ∙ ap (λ n. n + 1) h.count;
    each = λ archetypes n t q i j. by archetypes n t q i (got_pushed rs r n q j);
    never = λ q i. on q (in_append q rs (r ∷ []) i);
  }
    where
      by : (archetypes : List (List ℕ)) (n : ℕ) (t : SystemEntry) (q : Runner) → slice_get ss n ≡ Some t → (slice_get rs n ≡ Some q) ⊎ ((n ≡ length rs) × (q ≡ r)) → IsRunnerOf registry archetypes t q
      by archetypes n t q i (inl j) = h.each archetypes n t q i j
      by archetypes n t q i (inr (last, same)) =
          let system : s ≡ t = (let both : Some s ≡ Some t = sym there ∙ (ap (slice_get ss) (sym (last ∙ h.count)) ∙ i) in cc) in
          subst (λ u. IsRunnerOf registry archetypes u q) system (subst (IsRunnerOf registry archetypes s) (sym same) (is archetypes))

      on : (q : Runner) → In q rs ⊎ In q (r ∷ []) → q.last.0 ≡ 0
      on q (inl i) = h.never q i
      on q (inr (inl same)) = ap (λ (p : Runner). p.last.0) same ∙ fresh
      on q (inr (inr i)) = absurd i

  pub all_runners : (rs : List Runner) (k : ℕ) → AreFirst rs k → length ss ≡ k → (archetypes : List (List ℕ)) → AreRunnersOf registry archetypes ss rs
  all_runners rs k h all archetypes = record { count = h.count ∙ sym all; each = h.each archetypes }
