-- versions and the moments that they stand for
use Rattle.std.proofs.Common.{◌≡◌, ℕ, zero, suc, ◌+◌, ◌-◌, ◌%◌, ◌^◌, ◌<◌, ◌≤◌, ◌||◌, eqb, refl, ap, ap₂, ◌∙◌, arith, add-one, w32, pos, ◌-ℤ◌, eqb-true}
use Rattle.std.proofs.lemmas.Bool.{cond_both, eqb-false, ne_eqb}
use Rattle.std.proofs.lemmas.Bool.Decides.{nat_tests, Decides-at, Decides-like}
use Rattle.std.specs.Bool.{Decides}
use Rattle.std.specs.Int.{int_wrap, cast_signed}
use Rattle.std.specs.Prelude.{int_lt, unsigned_abs}
use Rattle.std.proofs.lemmas.Int.{int_rem_euclid_is, ints}
use Rattle.system_version.specs.Versions.{next_version, version_of, IsVersion, IsMoment, is_later}

-- one version on
next_in_range : (n : ℕ) → n < 4294967295 → next_version (1 + n) ≡ 1 + (n + 1) % 4294967295
next_in_range n within =
    cond_both (eqb (1 + n) 4294967295) 1 (1 + n + 1) (λ v. v ≡ 1 + (n + 1) % 4294967295)
    (λ e. let last : 1 + n ≡ 4294967295 = eqb-true (1 + n) 4294967295 e in omega arith)
    (λ ne. let before : 1 + n ≡ 4294967295 → ⊥ = eqb-false (1 + n) 4294967295 ne in omega arith)

-- the version of a moment, by one formula
pub version_of-is : (first moment : ℕ) → IsVersion first → version_of first (suc moment) ≡ 1 + (first - 1 + moment) % 4294967295
unfolding version_of
version_of-is first zero version = omega (arith, version.from_one, version.within)
version_of-is first (suc moment) version =
    ap next_version (version_of-is first moment version)
    ∙ next_in_range ((first - 1 + moment) % 4294967295) (omega arith)
    ∙ omega arith

-- the version of the next moment is the next version
pub version_of-next : (first moment : ℕ) → 1 ≤ moment → version_of first (moment + 1) ≡ next_version (version_of first moment)
unfolding version_of
version_of-next first zero from_one = absurd (omega arith)
version_of-next first (suc moment) from_one = ap (version_of first) (add-one (suc moment))

-- ---- later by the wrapped difference

-- the difference, wrapped to 32 bits
abbrev pub difference : ℕ → ℕ → ℕ
difference change required = (change + (2 ^ 32 - required)) % 2 ^ 32

int_wrap-difference : (change required : ℕ) → required ≤ 2 ^ 32
    → int_wrap w32 (pos change -ℤ pos required) ≡ cast_signed w32 (difference change required)
unfolding int_wrap
int_wrap-difference change required within =
    ap (λ z. cast_signed w32 (unsigned_abs z)) (int_rem_euclid_is (pos change -ℤ pos required) (pos (2 ^ 32)) (2 ^ 32) 1 (change + (2 ^ 32 - required)) (omega arith) refl (omega (arith, ints)))

-- a wrapped number is above 0 where its highest bit isn't set
is_positive : (n : ℕ) → n < 2 ^ 32 → Decides (int_lt (pos 0) (cast_signed w32 n)) ((0 < n) × (n < 2 ^ 31))
is_positive n within = grind (arith, ints, nat_tests)

-- the later of two moments has the greater version, except after a wrap
difference_above : (start changed seen : ℕ) → start < 4294967295 → changed ≤ 26200001 → seen ≤ 26200001 → seen < changed
    → (0 < difference (1 + (start + changed) % 4294967295) (1 + (start + seen) % 4294967295))
    × (difference (1 + (start + changed) % 4294967295) (1 + (start + seen) % 4294967295) < 2 ^ 31)
difference_above start changed seen within changed_within seen_within later = (omega arith, omega arith)

difference_not_above : (start changed seen : ℕ) → start < 4294967295 → changed ≤ 26200001 → seen ≤ 26200001
    → 0 < difference (1 + (start + changed) % 4294967295) (1 + (start + seen) % 4294967295)
    → difference (1 + (start + changed) % 4294967295) (1 + (start + seen) % 4294967295) < 2 ^ 31 → seen < changed
difference_not_above start changed seen within changed_within seen_within above below = omega arith

-- the wrapped difference of two versions says which moment is later
difference_tells : (start changed seen : ℕ) → start < 4294967295 → changed ≤ 26200001 → seen ≤ 26200001
    → Decides (int_lt (pos 0) (cast_signed w32 (difference (1 + (start + changed) % 4294967295) (1 + (start + seen) % 4294967295)))) (seen < changed)
difference_tells start changed seen within changed_within seen_within =
    Decides-like _
    (λ both. difference_not_above start changed seen within changed_within seen_within both.0 both.1)
    (λ later. difference_above start changed seen within changed_within seen_within later)
    (is_positive (difference (1 + (start + changed) % 4294967295) (1 + (start + seen) % 4294967295)) (omega arith))

-- the version of a moment, where moments count from 1
version_at : (first moment : ℕ) → IsVersion first → IsMoment moment → version_of first moment ≡ 1 + (first - 1 + (moment - 1)) % 4294967295
version_at first moment version is =
    let one_on : moment ≡ suc (moment - 1) = omega (arith, is.from_one) in
    ap (version_of first) one_on ∙ version_of-is first (moment - 1) version

-- `is_later` as the code has it
pub is_later-difference : (change required : ℕ) → required < 2 ^ 32 → (required ≡ 0 → ⊥)
    → is_later change required ≡ int_lt (pos 0) (cast_signed w32 (difference change required))
is_later-difference change required within some =
    ap (λ b. b || int_lt (pos 0) (int_wrap w32 (pos change -ℤ pos required))) (ne_eqb required 0 some)
    ∙ ap (int_lt (pos 0)) (int_wrap-difference change required (omega arith))

-- a version is later than another exactly where its moment is
pub is_later-moments : (first changed seen : ℕ) → IsVersion first → IsMoment changed → IsMoment seen
    → Decides (is_later (version_of first changed) (version_of first seen)) (seen < changed)
is_later-moments first changed seen version changed_is seen_is =
    Decides-at _ _
    (ap₂ is_later (version_at first changed version changed_is) (version_at first seen version seen_is)
    ∙ is_later-difference _ (1 + (first - 1 + (seen - 1)) % 4294967295) (omega arith) (λ e. omega arith))
    (Decides-like _ (λ lt. omega (arith, changed_is.from_one, seen_is.from_one)) (λ lt. omega (arith, changed_is.from_one, seen_is.from_one))
    (difference_tells (first - 1) (changed - 1) (seen - 1)
    (omega (arith, version.from_one, version.within)) (omega (arith, changed_is.within)) (omega (arith, seen_is.within))))

-- no moment has the version 0
pub version_of-some : (first moment : ℕ) → IsVersion first → IsMoment moment → 0 < version_of first moment
version_of-some first moment version is = omega (arith, version_at first moment version is)
