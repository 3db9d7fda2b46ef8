-- The ids that are taken, and those that are left.
use Rattle.std.proofs.Common.{◌≡◌, ℕ, zero, suc, ◌+◌, ◌-◌, ◌<◌, ◌≤◌, ◌⊎◌, inl, inr, nat_eq, nat_lt, Bool, true, false, List, [], ◌∷◌, length, drop, refl, sym, ap, ◌∙◌, subst, arith, eqb-true, eq-eqb, ltb-true}
use Rattle.ent_types.specs.declared.entity.Entity.{Entity}
use Rattle.system_version.specs.Versions.{IsVersion}
use Rattle.world_model.specs.Members.{In, one_if, tally}
use Rattle.world_model.specs.Ids.{next_ids}
use Rattle.world_model.specs.Lawful.{is_free_at}
use Rattle.world_laws.proofs.Sound.{fresh_fits}

pub length_ids : (n : ℕ) (free : List Entity) (made first : ℕ) → length (next_ids n free made first) ≡ n
length_ids zero free made first = refl
length_ids (suc n) [] made first = ap suc (length_ids n [] (made + 1) first)
length_ids (suc n) (e ∷ es) made first = ap suc (length_ids n es made first)

-- with other indexes, those that are taken and those that are left are as distinct as those that were free
pub ids_sound : (i n : ℕ) (free : List Entity) (made first others : ℕ) → others + tally (is_free_at i) free ≤ one_if (nat_lt i made)
    → others + (tally (is_free_at i) (next_ids n free made first) + tally (is_free_at i) (drop n free)) ≤ one_if (nat_lt i (made + (n - length free)))
ids_sound i zero free made first others h =
    subst (λ m. others + (0 + tally (is_free_at i) free) ≤ one_if (nat_lt i m)) (same made (length free)) (omega arith)
  where
    same : (m k : ℕ) → m ≡ m + (0 - k)
    same m k = omega arith
ids_sound i (suc n) [] made first others h =
    let rest = ids_sound i n [] (made + 1) first (others + one_if (nat_eq i made)) (start (fresh_fits i made others (omega arith))) in
    subst (λ m. others + ((one_if (nat_eq i made) + tally (is_free_at i) (next_ids n [] (made + 1) first)) + 0) ≤ one_if (nat_lt i m)) (same made n)
    (finish (none n) rest)
  where
    same : (m n : ℕ) → (m + 1) + (n - 0) ≡ m + (suc n - 0)
    same m n = omega arith

    none : (n : ℕ) → tally (is_free_at i) (drop n []) ≡ 0
    none zero = refl
    none (suc n) = refl

    start : one_if (nat_eq i made) + others ≤ one_if (nat_lt i (made + 1)) → (others + one_if (nat_eq i made)) + 0 ≤ one_if (nat_lt i (made + 1))
    start f = omega arith

    finish : tally (is_free_at i) (drop n []) ≡ 0
        → (others + one_if (nat_eq i made)) + (tally (is_free_at i) (next_ids n [] (made + 1) first) + tally (is_free_at i) (drop n [])) ≤ one_if (nat_lt i ((made + 1) + (n - 0)))
        → others + ((one_if (nat_eq i made) + tally (is_free_at i) (next_ids n [] (made + 1) first)) + 0) ≤ one_if (nat_lt i ((made + 1) + (n - 0)))
    finish z r = omega arith
ids_sound i (suc n) (e ∷ es) made first others h =
    let rest = ids_sound i n es made first (others + one_if (nat_eq i e.index)) (start h) in
    subst (λ m. others + ((one_if (nat_eq i e.index) + tally (is_free_at i) (next_ids n es made first)) + tally (is_free_at i) (drop n es)) ≤ one_if (nat_lt i m)) (same made n (length es))
    (finish rest)
  where
    same : (m n k : ℕ) → m + (n - k) ≡ m + (suc n - suc k)
    same m n k = omega arith

    start : others + (one_if (nat_eq i e.index) + tally (is_free_at i) es) ≤ one_if (nat_lt i made) → (others + one_if (nat_eq i e.index)) + tally (is_free_at i) es ≤ one_if (nat_lt i made)
    start f = omega arith

    finish : (others + one_if (nat_eq i e.index)) + (tally (is_free_at i) (next_ids n es made first) + tally (is_free_at i) (drop n es)) ≤ one_if (nat_lt i (made + (n - length es)))
        → others + ((one_if (nat_eq i e.index) + tally (is_free_at i) (next_ids n es made first)) + tally (is_free_at i) (drop n es)) ≤ one_if (nat_lt i (made + (n - length es)))
    finish r = omega arith

pub ids_versions : (n : ℕ) (free : List Entity) (made first : ℕ) → ((e : Entity) → In e free → IsVersion e.version) → IsVersion first
    → (e : Entity) → In e (next_ids n free made first) → IsVersion e.version
ids_versions zero free made first all one e i = absurd i
ids_versions (suc n) [] made first all one e (inl is) = subst (λ (d : Entity). IsVersion d.version) (sym is) one
ids_versions (suc n) [] made first all one e (inr i) = ids_versions n [] (made + 1) first all one e i
ids_versions (suc n) (d ∷ ds) made first all one e (inl is) = subst (λ (d : Entity). IsVersion d.version) (sym is) (all d (inl refl))
ids_versions (suc n) (d ∷ ds) made first all one e (inr i) = ids_versions n ds made first (λ c j. all c (inr j)) one e i

-- an id that is given was free, or is fresh
pub ids_are : (n : ℕ) (free : List Entity) (made first : ℕ) (e : Entity) → In e (next_ids n free made first) → In e free ⊎ (made ≤ e.index)
ids_are zero free made first e i = absurd i
ids_are (suc n) [] made first e (inl is) = let same = ap (λ (d : Entity). d.index) is in inr (omega arith)
ids_are (suc n) [] made first e (inr i) = step (ids_are n [] (made + 1) first e i)
  where
    step : In e [] ⊎ (made + 1 ≤ e.index) → In e [] ⊎ (made ≤ e.index)
    step (inl j) = inl j
    step (inr le) = inr (omega arith)
ids_are (suc n) (d ∷ ds) made first e (inl is) = inl (inl is)
ids_are (suc n) (d ∷ ds) made first e (inr i) = step (ids_are n ds made first e i)
  where
    step : In e ds ⊎ (made ≤ e.index) → In e (d ∷ ds) ⊎ (made ≤ e.index)
    step (inl j) = inl (inr j)
    step (inr le) = inr le

pub in_drop : {X : Type 0} (x : X) (n : ℕ) (xs : List X) → In x (drop n xs) → In x xs
in_drop x zero xs i = i
in_drop x (suc n) [] i = i
in_drop x (suc n) (y ∷ ys) i = inr (in_drop x n ys i)
