-- What the places of a mask are, and when two masks are one.
use Rattle.std.proofs.Common.{◌≡◌, ℕ, zero, suc, ◌+◌, ◌≤◌, ◌<◌, Bool, true, false, cond, inl, inr, ◌&&◌, ◌||◌, nat_le, nat_lt, ◌==◌, ◌-◌, List, [], ◌∷◌, length, get_or, slice_get, filter, Some, None, refl, sym, ap, subst, ◌∙◌, add-one, arith}
use Rattle.std.specs.List.{range_with_len}
use Rattle.std.proofs.lemmas.Bool.{cond_both, cond-true, cond-false, cases_eq, cases_lt, ne_eqb, eq-eqb, le-leb, lt-leb, lt-ltb, le-ltb, false≢true}
use Rattle.enable_bits.specs.Masks.{with_place, swapped_back, places_between, places_where, has, IsMask, first_from}

-- ---- membership

has-cons-same : (x : ℕ) (xs : List ℕ) → has (x ∷ xs) x ≡ true
has-cons-same x xs = ap (λ b. b || has xs x) (eq-eqb x x refl)

has-cons-other : (p x : ℕ) (xs : List ℕ) → (p ≡ x → ⊥) → has (x ∷ xs) p ≡ has xs p
has-cons-other p x xs other = ap (λ b. b || has xs p) (ne_eqb p x other)

has_before : (start n : ℕ) (test : ℕ → Bool) (p : ℕ) → p < start → has (places_between start n test) p ≡ false
unfolding places_between
has_before start zero test p h = refl
has_before start (suc n) test p h =
    let tail = filter test (range_with_len (start + 1) n) in
    let rest : has (places_between (start + 1) n test) p ≡ false = has_before (start + 1) n test p (omega arith) in
    cond_both (test start) (start ∷ tail) tail (λ xs. has xs p ≡ false) (λ _. has-cons-other p start tail (λ e. omega arith) ∙ rest) (λ _. rest)

has_past : (start n : ℕ) (test : ℕ → Bool) (p : ℕ) → start + n ≤ p → has (places_between start n test) p ≡ false
unfolding places_between
has_past start zero test p h = refl
has_past start (suc n) test p h =
    let tail = filter test (range_with_len (start + 1) n) in
    let rest : has (places_between (start + 1) n test) p ≡ false = has_past (start + 1) n test p (omega arith) in
    cond_both (test start) (start ∷ tail) tail (λ xs. has xs p ≡ false) (λ _. has-cons-other p start tail (λ e. omega arith) ∙ rest) (λ _. rest)

-- at the first place the answer is the test's
has_first : (start n : ℕ) (test : ℕ → Bool) → has (places_between start (suc n) test) start ≡ test start
unfolding places_between
has_first start n test =
    let tail = filter test (range_with_len (start + 1) n) in
    cond_both (test start) (start ∷ tail) tail (λ xs. has xs start ≡ test start)
    (λ yes. has-cons-same start tail ∙ sym yes)
    (λ no'. has_before (start + 1) n test start (omega arith) ∙ sym no')

has_later : (start n : ℕ) (test : ℕ → Bool) (p : ℕ) → start < p → has (places_between start (suc n) test) p ≡ has (places_between (start + 1) n test) p
unfolding places_between
has_later start n test p h =
    let tail = filter test (range_with_len (start + 1) n) in
    cond_both (test start) (start ∷ tail) tail (λ xs. has xs p ≡ has tail p) (λ _. has-cons-other p start tail (λ e. omega arith)) (λ _. refl)

has_inside : (start n : ℕ) (test : ℕ → Bool) (p : ℕ) → start ≤ p → p < start + n → has (places_between start n test) p ≡ test p
has_inside start zero test p low high = absurd (omega arith)
has_inside start (suc n) test p low high =
    elim (cases_eq start p) [
      | inl same ↦ subst (λ q. has (places_between start (suc n) test) q ≡ test q) same (has_first start n test)
      | inr other ↦ has_later start n test p (omega arith) ∙ has_inside (start + 1) n test p (omega arith) (omega arith)
    ]

pub has-places_where : (test : ℕ → Bool) (place : ℕ) → place < 128 → has (places_where test) place ≡ test place
unfolding places_where
has-places_where test place h = has_inside 0 128 test place (omega arith) h

pub has_past_128 : (test : ℕ → Bool) (place : ℕ) → 128 ≤ place → has (places_where test) place ≡ false
unfolding places_where
has_past_128 test place h = has_past 0 128 test place h

-- a place that the mask has passes the test, whatever the place is
pub has-test : (test : ℕ → Bool) (place : ℕ) → has (places_where test) place ≡ (nat_lt place 128 && test place)
has-test test place =
    elim (cases_lt place 128) [
      | inl below ↦ has-places_where test place below ∙ ap (λ b. b && test place) (sym (lt-ltb place 128 below))
      | inr past ↦ has_past_128 test place past ∙ ap (λ b. b && test place) (sym (le-ltb place 128 past))
    ]

-- a test that fails is no place
pub has_not : (test : ℕ → Bool) (place : ℕ) → test place ≡ false → has (places_where test) place ≡ false
has_not test place fails =
    elim (cases_lt place 128) [
      | inl below ↦ has-places_where test place below ∙ fails
      | inr past ↦ has_past_128 test place past
    ]

-- ---- masks that are one

same_between : (start n : ℕ) (s t : ℕ → Bool) → ((p : ℕ) → start ≤ p → p < start + n → s p ≡ t p) → places_between start n s ≡ places_between start n t
unfolding places_between
same_between start zero s t h = refl
same_between start (suc n) s t h =
    let rest : places_between (start + 1) n s ≡ places_between (start + 1) n t =
    same_between (start + 1) n s t (λ p low high. h p (omega arith) (omega arith)) in
    let here : s start ≡ t start = h start (omega arith) (omega arith) in
    rw (here, rest) refl

-- tests that agree below 128 give one mask
pub same_places : (s t : ℕ → Bool) → ((place : ℕ) → place < 128 → s place ≡ t place) → places_where s ≡ places_where t
unfolding places_where
same_places s t h = same_between 0 128 s t (λ p _ high. h p high)

pub places_where-IsMask : (test : ℕ → Bool) → IsMask (places_where test)
places_where-IsMask test = same_places test (has (places_where test)) (λ place h. sym (has-places_where test place h))

-- two masks that have the same places below 128 are equal
pub same_mask : (a b : List ℕ) → IsMask a → IsMask b → ((place : ℕ) → place < 128 → has a place ≡ has b place) → a ≡ b
same_mask a b is_a is_b h = is_a ∙ same_places (has a) (has b) h ∙ sym is_b

-- a mask with a test's places below 128 is the mask of that test
pub mask_is : (a : List ℕ) (test : ℕ → Bool) → IsMask a → ((place : ℕ) → place < 128 → has a place ≡ test place) → a ≡ places_where test
mask_is a test is_a h = is_a ∙ same_places (has a) test h

pub IsMask-below : (a : List ℕ) (place : ℕ) → IsMask a → has a place ≡ true → place < 128
IsMask-below a place is_a there =
    elim (cases_lt place 128) [
      | inl below ↦ below
      | inr past ↦ absurd (false≢true (sym (has_past_128 (has a) place past) ∙ ap (λ m. has m place) (sym is_a) ∙ there))
    ]

-- ---- what `set` and `swap_back` leave, place by place

pub has-with_place : (a : List ℕ) (place : ℕ) (on : Bool) (other : ℕ) → other < 128 → has (with_place a place on) other ≡ cond (other == place) on (has a other)
has-with_place a place on other h = has-places_where (λ q. cond (q == place) on (has a q)) other h

pub has-swapped_back : (a : List ℕ) (place len other : ℕ) → other < 128
    → has (swapped_back a place len) other ≡ cond (other == len - 1) false (cond (other == place) (has a (len - 1)) (has a other))
has-swapped_back a place len other h =
    has-with_place (with_place a place (has a (len - 1))) (len - 1) false other h
    ∙ ap (λ b. cond (other == len - 1) false b) (has-with_place a place (has a (len - 1)) other h)

-- ---- a mask of the first rows

no_rows : (m start k : ℕ) (test : ℕ → Bool) → m ≤ start → places_between start k (λ p. nat_lt p m && test p) ≡ []
unfolding places_between
no_rows m start zero test h = refl
no_rows m start (suc k) test h =
    cond-false (nat_lt start m && test start) _ _ (ap (λ b. b && test start) (le-ltb start m h)) ∙ no_rows m (start + 1) k test (omega arith)

rows_between : (m start n k : ℕ) (test : ℕ → Bool) → m ≡ start + n → n ≤ k → places_between start k (λ p. nat_lt p m && test p) ≡ filter test (range_with_len start n)
unfolding places_between
rows_between m start zero k test e h = no_rows m start k test (omega arith)
rows_between m start (suc n) zero test e h = absurd (omega arith)
rows_between m start (suc n) (suc k) test e h =
    let rest : places_between (start + 1) k (λ p. nat_lt p m && test p) ≡ filter test (range_with_len (start + 1) n) =
    rows_between m (start + 1) n k test (omega arith) (omega arith) in
    let here : (nat_lt start m && test start) ≡ test start = ap (λ b. b && test start) (lt-ltb start m (omega arith)) in
    rw (here, rest) refl

-- the rows that pass, of n rows, are the mask of the places below n that pass
pub rows_that_pass : (n : ℕ) (test : ℕ → Bool) → n ≤ 128 → places_where (λ row. nat_lt row n && test row) ≡ filter test (range_with_len 0 n)
unfolding places_where
rows_that_pass n test h = rows_between n 0 n 128 test (omega arith) h

-- ---- the places in rising order

-- the list rises from low on
abbrev Rises : ℕ → List ℕ → Type 0
Rises low [] = Unit {0}
Rises low (x ∷ xs) = (low ≤ x) × Rises (x + 1) xs

rises_from_less : (low less : ℕ) (xs : List ℕ) → less ≤ low → Rises low xs → Rises less xs
rises_from_less low less [] h r = tt
rises_from_less low less (x ∷ xs) h r = (omega (arith, r.0), r.1)

rises_between : (start n : ℕ) (test : ℕ → Bool) → Rises start (places_between start n test)
unfolding places_between
rises_between start zero test = tt
rises_between start (suc n) test =
    let tail = filter test (range_with_len (start + 1) n) in
    let rest : Rises (start + 1) tail = rises_between (start + 1) n test in
    cond_both (test start) (start ∷ tail) tail (λ xs. Rises start xs)
    (λ _. (omega arith, rest))
    (λ _. rises_from_less (start + 1) start tail (omega arith) rest)

mask_rises : (a : List ℕ) → IsMask a → Rises 0 a
unfolding places_where
mask_rises a is_a = subst (Rises 0) (sym is_a) (rises_between 0 128 (has a))

rises_at : (low : ℕ) (xs : List ℕ) (k : ℕ) → Rises low xs → k < length xs → low ≤ get_or xs k 0
rises_at low [] k r h = absurd (omega arith)
rises_at low (x ∷ xs) zero r h = r.0
rises_at low (x ∷ xs) (suc k) r h = omega (arith, r.0, rises_at (x + 1) xs k r.1 (omega arith))

first_from_low : (low place : ℕ) (xs : List ℕ) → Rises low xs → place ≤ low → first_from xs place ≡ slice_get xs 0
first_from_low low place [] r h = refl
first_from_low low place (x ∷ xs) r h = cond-true (nat_le place x) _ _ (le-leb place x (omega (arith, r.0)))

first_from_after : (low : ℕ) (xs : List ℕ) (k : ℕ) → Rises low xs → k < length xs → first_from xs (get_or xs k 0 + 1) ≡ slice_get xs (suc k)
first_from_after low [] k r h = absurd (omega arith)
first_from_after low (x ∷ xs) zero r h =
    cond-false (nat_le (x + 1) x) _ _ (lt-leb (x + 1) x (omega arith)) ∙ first_from_low (x + 1) (x + 1) xs r.1 (omega arith)
first_from_after low (x ∷ xs) (suc k) r h =
    cond-false (nat_le (get_or xs k 0 + 1) x) _ _ (lt-leb _ x (omega (arith, rises_at (x + 1) xs k r.1 (omega arith))))
    ∙ first_from_after (x + 1) xs k r.1 (omega arith)

-- A walk over a mask: from 0 on stands its first place, and behind each place the next one.
pub first_from-start : (a : List ℕ) → IsMask a → first_from a 0 ≡ slice_get a 0
first_from-start a is_a = first_from_low 0 0 a (mask_rises a is_a) (omega arith)

pub first_from-next : (a : List ℕ) (k : ℕ) → IsMask a → k < length a → first_from a (get_or a k 0 + 1) ≡ slice_get a (k + 1)
first_from-next a k is_a h = rw (add-one k) (first_from_after 0 a k (mask_rises a is_a) h)

-- ---- the least place at or past another

first_is : (test : ℕ → Bool) (place start next : ℕ) → place ≤ start → start ≤ next → test start ≡ true
    → ((other : ℕ) → place ≤ other → other < next → test other ≡ false) → start ≡ next
first_is test place start next past low here least =
    elim (cases_lt start next) [
      | inl before ↦ absurd (false≢true (sym (least start past before) ∙ here))
      | inr after ↦ omega arith
    ]

later_is : (test : ℕ → Bool) (start next : ℕ) → start ≤ next → test start ≡ false → test next ≡ true → start < next
later_is test start next low lacks there =
    elim (cases_eq start next) [
      | inl same ↦ absurd (false≢true (sym lacks ∙ ap test same ∙ there))
      | inr other ↦ omega arith
    ]

first_between : (start n : ℕ) (test : ℕ → Bool) (place next : ℕ) → start ≤ next → next < start + n → place ≤ next → test next ≡ true
    → ((other : ℕ) → place ≤ other → other < next → test other ≡ false) → first_from (places_between start n test) place ≡ Some next
unfolding places_between
first_between start zero test place next low high past there least = absurd (omega arith)
first_between start (suc n) test place next low high past there least =
    let tail = filter test (range_with_len (start + 1) n) in
    let rest : start < next → first_from tail place ≡ Some next =
    λ later. first_between (start + 1) n test place next (omega arith) (omega arith) past there least in
    cond_both (test start) (start ∷ tail) tail (λ xs. first_from xs place ≡ Some next)
    (λ here.
    elim (cases_lt start place) [
      | inl before ↦ cond-false (nat_le place start) _ _ (lt-leb place start before) ∙ rest (omega arith)
      | inr after ↦ cond-true (nat_le place start) _ _ (le-leb place start after) ∙ ap Some (first_is test place start next after low here least)
    ])
    (λ lacks. rest (later_is test start next low lacks there))

pub first_from_is : (test : ℕ → Bool) (place next : ℕ) → next < 128 → place ≤ next → test next ≡ true
    → ((other : ℕ) → place ≤ other → other < next → test other ≡ false) → first_from (places_where test) place ≡ Some next
unfolding places_where
first_from_is test place next within past there least = first_between 0 128 test place next (omega arith) within past there least

none_between : (start n : ℕ) (test : ℕ → Bool) (place : ℕ) → ((other : ℕ) → place ≤ other → test other ≡ false) → first_from (places_between start n test) place ≡ None
unfolding places_between
none_between start zero test place h = refl
none_between start (suc n) test place h =
    let tail = filter test (range_with_len (start + 1) n) in
    let rest : first_from tail place ≡ None = none_between (start + 1) n test place h in
    cond_both (test start) (start ∷ tail) tail (λ xs. first_from xs place ≡ None)
    (λ here.
    elim (cases_lt start place) [
      | inl before ↦ cond-false (nat_le place start) _ _ (lt-leb place start before) ∙ rest
      | inr after ↦ absurd (false≢true (sym (h start after) ∙ here))
    ])
    (λ _. rest)

pub first_from_none : (test : ℕ → Bool) (place : ℕ) → ((other : ℕ) → place ≤ other → test other ≡ false) → first_from (places_where test) place ≡ None
unfolding places_where
first_from_none test place h = none_between 0 128 test place h

length_between : (start n : ℕ) (test : ℕ → Bool) → length (places_between start n test) ≤ n
unfolding places_between
length_between start zero test = omega arith
length_between start (suc n) test =
    let tail = filter test (range_with_len (start + 1) n) in
    let rest : length tail ≤ n = length_between (start + 1) n test in
    cond_both (test start) (start ∷ tail) tail (λ xs. length xs ≤ suc n) (λ _. omega arith) (λ _. omega arith)

pub IsMask-length : (a : List ℕ) → IsMask a → length a ≤ 128
unfolding places_where
IsMask-length a is_a = subst (λ m. length m ≤ 128) (sym is_a) (length_between 0 128 (has a))
