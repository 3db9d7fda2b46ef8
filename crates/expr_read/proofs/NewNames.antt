-- Some name is none of those that a list has, if it isn't too long.
use Rattle.std.proofs.Common.{ℕ, zero, suc, ◌≡◌, ◌+◌, ◌*◌, ◌/◌, ◌%◌, ◌^◌, ◌<◌, ◌≤◌, List, [], ◌∷◌, Bool, true, false, not, ◌||◌, cond, length, map, refl, sym, ap, ◌∙◌, subst, arith, pow-suc}
use Rattle.std.specs.Prelude.{codes, filter}
use Rattle.std.specs.List.{list_any, list_all}
use Rattle.std.specs.Cmp.Lexicographic.{nat_list_eq_equiv}
use Rattle.std.proofs.lemmas.Bool.{and_parts, and_from, or_left, or_right, or_from, eqb-true, lt-ltb, le-leb, not_from_false, false_from_ne_true, false≢true}
use Rattle.std.proofs.lemmas.List.{length-map}
use Rattle.ent_types.specs.Names.{is_name, is_name_start, is_name_byte}
use Rattle.ent_types.specs.Types.{same_name}
use Rattle.ent_types.proofs.Lookups.{list_any-map}
use Rattle.expr_read.specs.declared.scope.Made.{Made}
use Rattle.expr_read.specs.ScopeOf.{is_new_name}

-- ---- sixteen letters as digits, the lowest first
letters : ℕ → ℕ → List ℕ
letters zero i = []
letters (suc n) i = (97 + i % 16) ∷ letters n (i / 16)

length-letters : (n i : ℕ) → length (letters n i) ≡ n
unfolding letters
length-letters zero i = refl
length-letters (suc n) i = ap suc (length-letters n (i / 16))

letter_begins : (b : ℕ) → 97 ≤ b → b ≤ 122 → is_name_start b ≡ true
letter_begins b low high = or_left _ _ (or_right _ _ (and_from _ _ (le-leb 97 b low) (le-leb b 122 high)))

letter_stands : (b : ℕ) → 97 ≤ b → b ≤ 122 → is_name_byte b ≡ true
letter_stands b low high = or_left _ _ (or_right _ _ (and_from _ _ (le-leb 97 b low) (le-leb b 122 high)))

letters_stand : (n i : ℕ) → list_all is_name_byte (letters n i) ≡ true
unfolding letters
letters_stand zero i = refl
letters_stand (suc n) i = and_from _ _ (letter_stands (97 + i % 16) (omega arith) (omega arith)) (letters_stand n (i / 16))

is_name-letters : (n i : ℕ) → n < 32 → is_name (letters (suc n) i) ≡ true
unfolding letters
is_name-letters n i short =
    let size : length (letters (suc n) i) ≡ suc n = length-letters (suc n) i in
    and_from _ _
    (and_from _ _ (lt-ltb 0 (length (letters (suc n) i)) (omega arith)) (le-leb (length (letters (suc n) i)) 32 (omega arith)))
    (and_from _ _ (letter_begins (97 + i % 16) (omega arith) (omega arith)) (letters_stand (suc n) i))

high_digits : (i p : ℕ) → i < p * 16 → i / 16 < p
high_digits i p below = omega arith

letters_same : (n i j : ℕ) → i < 16 ^ n → j < 16 ^ n → same_name (letters n i) (letters n j) ≡ true → i ≡ j
unfolding letters
letters_same zero i j within within' same = omega arith
letters_same (suc n) i j within within' same =
    let (low, high) = and_parts _ _ same in
    let digit : 97 + i % 16 ≡ 97 + j % 16 = eqb-true _ _ low in
    let rest : i / 16 ≡ j / 16 =
    letters_same n (i / 16) (j / 16)
    (high_digits i (16 ^ n) (subst (λ (p : ℕ). i < p) (pow-suc 16 n) within))
    (high_digits j (16 ^ n) (subst (λ (p : ℕ). j < p) (pow-suc 16 n) within'))
    high in
    omega arith

-- ---- of more names than a list has, some isn't there
module _ (p : List ℕ → Bool) where
  others : List (List ℕ) → List (List ℕ)
  others names = filter (λ y. not (p y)) names

  no_more : (names : List (List ℕ)) → length (others names) ≤ length names
  unfolding others
  no_more [] = omega arith
  no_more (x ∷ xs) = by (p x) (no_more xs)
    where
      by : (b : Bool) → length (others xs) ≤ length xs → length (cond (not b) (x ∷ others xs) (others xs)) ≤ suc (length xs)
      by true rest = omega arith
      by false rest = omega arith

  fewer : (names : List (List ℕ)) → list_any p names ≡ true → length (others names) < length names
  unfolding others
  fewer [] = λ some. absurd (false≢true some)
  fewer (x ∷ xs) = by (p x) (fewer xs)
    where
      by : (b : Bool) → (list_any p xs ≡ true → length (others xs) < length xs) → (b || list_any p xs) ≡ true
          → length (cond (not b) (x ∷ others xs) (others xs)) < suc (length xs)
      by true rest some = omega (arith, no_more xs)
      by false rest some = omega (arith, rest some)

  kept : (q : List ℕ → Bool) → ((y : List ℕ) → p y ≡ true → q y ≡ false) → (names : List (List ℕ)) → list_any q (others names) ≡ list_any q names
  unfolding others
  kept q apart [] = refl
  kept q apart (x ∷ xs) = by (p x) refl (kept q apart xs)
    where
      by : (b : Bool) → p x ≡ b → list_any q (others xs) ≡ list_any q xs
          → list_any q (cond (not b) (x ∷ others xs) (others xs)) ≡ (q x || list_any q xs)
      by true is rest = rest ∙ sym (ap (λ (b : Bool). b || list_any q xs) (apart x is))
      by false is rest = ap (λ (b : Bool). q x || b) rest

-- each of the names f 0, f 1 .. below n is another
Apart : (ℕ → List ℕ) → ℕ → Type 0
Apart f n = (i j : ℕ) → i < n → j < n → same_name (f i) (f j) ≡ true → i ≡ j

-- one of them isn't among the names
Other : (ℕ → List ℕ) → ℕ → List (List ℕ) → Type 0
Other f n names = (i : ℕ) × (list_any (same_name (f i)) names ≡ false) × (i < n)

unlike : (f : ℕ → List ℕ) (n i : ℕ) → Apart f (suc n) → i < n → (y : List ℕ) → same_name (f n) y ≡ true → same_name (f i) y ≡ false
unfolding Apart
unlike f n i apart below y same =
    false_from_ne_true _ (λ again.
    let equal : i ≡ n = apart i n (omega arith) (omega arith) (nat_list_eq_equiv.congr (f i) y (f n) again ∙ nat_list_eq_equiv.symm y (f n) ∙ same) in
    absurd (omega arith))

some_other : (f : ℕ → List ℕ) (n : ℕ) → Apart f n → (names : List (List ℕ)) → length names < n → Other f n names
unfolding Apart Other
some_other f zero apart names few = absurd (omega arith)
some_other f (suc n) apart names few =
    by (list_any (same_name (f n)) names) refl
    (some_other f n (λ i j a b. apart i j (omega arith) (omega arith)) (others (same_name (f n)) names))
  where
    by : (b : Bool) → list_any (same_name (f n)) names ≡ b
        → (length (others (same_name (f n)) names) < n → Other f n (others (same_name (f n)) names)) → Other f (suc n) names
    by false none rest = (n, none, omega arith)
    by true some rest =
        let (i, none, below) = rest (omega (arith, fewer (same_name (f n)) names some)) in
        (i, sym (kept (same_name (f n)) (same_name (f i)) (unlike f n i apart below) names) ∙ none, omega arith)

same_length : (xs ys : List ℕ) → same_name xs ys ≡ true → length xs ≡ length ys
same_length [] [] same = refl
same_length [] (y ∷ ys) same = absurd (false≢true same)
same_length (x ∷ xs) [] same = absurd (false≢true same)
same_length (x ∷ xs) (y ∷ ys) same = ap suc (same_length xs ys (and_parts _ _ same).1)

longer : (name short : List ℕ) → length short < length name → same_name name short ≡ false
longer name short less = false_from_ne_true _ (λ same. absurd (omega (arith, same_length name short same)))

-- some name can be made
pub new_name : (made : List Made) → length made < 2 ^ 64 → (name : List ℕ) × (is_new_name made name ≡ true)
unfolding Apart Other
new_name made few =
    let names : List (List ℕ) = map (λ (m : Made). m.name) made in
    let (i, none, below) = some_other (letters 16) (16 ^ 16) (letters_same 16) names (omega (arith, length-map made (λ (m : Made). m.name))) in
    let long : length (letters 16 i) ≡ 16 = length-letters 16 i in (
      letters 16 i,
      and_from _ _ (is_name-letters 15 i (omega arith)) (not_from_false _
          (or_from _ _ (longer (letters 16 i) (codes "null") (omega arith))
          (or_from _ _ (longer (letters 16 i) (codes "self") (omega arith))
          (sym (list_any-map (same_name (letters 16 i)) (λ (m : Made). m.name) made) ∙ none)))),
    )
