-- Lists by rising type: with one more, with some left out.
use Rattle.std.proofs.Common.{◌≡◌, ◌≢◌, ℕ, ◌<◌, ◌≤◌, ◌⊎◌, inl, inr, nat_eq, nat_lt, Bool, true, false, ◌||◌, cond, List, [], ◌∷◌, map, filter, find, Option, Some, refl, sym, ap, ap₂, ◌∙◌, arith, eqb-true, eq-eqb, ltb-true, ltb-false}
use Rattle.ent_types.specs.TypeSets.{has_type, with_type}
use Rattle.world_model.specs.Members.{In, IsRising}
use Rattle.world_model.specs.Part.{PartOf, part_type, at_type, with_typed, by_type}
use Rattle.world_laws.proofs.Members.{in_filter, map_in}

pub filter_rising : (p : ℕ → Bool) (ts : List ℕ) → IsRising ts → IsRising (filter p ts)
filter_rising p [] h = tt
filter_rising p (t ∷ ts) h = step (p t) (filter_rising p ts h.1)
  where
    step : (b : Bool) → IsRising (filter p ts) → IsRising (cond b (t ∷ filter p ts) (filter p ts))
    step true rest = (λ u i. h.0 u (in_filter p u ts i), rest)
    step false rest = rest

pub has_in : (t : ℕ) (ts : List ℕ) → has_type ts t ≡ true → In t ts
has_in t [] h = absurd (cc)
has_in t (s ∷ ts) h = step (nat_eq s t) refl h (has_in t ts)
  where
    step : (b : Bool) → nat_eq s t ≡ b → (b || has_type ts t) ≡ true → (has_type ts t ≡ true → In t ts) → (t ≡ s) ⊎ In t ts
    step true e h rest = inl (sym (eqb-true s t e))
    step false e h rest = inr (rest h)

-- ---- a type more

pub in_with : (t u : ℕ) (ts : List ℕ) → In u (with_type ts t) → (u ≡ t) ⊎ In u ts
in_with t u [] i = i
in_with t u (s ∷ ts) i = step (nat_lt t s) (nat_eq s t) i (in_with t u ts)
  where
    behind : (u ≡ t) ⊎ In u ts → (u ≡ t) ⊎ ((u ≡ s) ⊎ In u ts)
    behind (inl e) = inl e
    behind (inr j) = inr (inr j)

    step : (less same : Bool) → In u (cond less (t ∷ s ∷ ts) (cond same (s ∷ ts) (s ∷ with_type ts t))) → (In u (with_type ts t) → (u ≡ t) ⊎ In u ts)
        → (u ≡ t) ⊎ ((u ≡ s) ⊎ In u ts)
    step true same i rest = i
    step false true i rest = inr i
    step false false (inl e) rest = inr (inl e)
    step false false (inr j) rest = behind (rest j)

pub with_rising : (t : ℕ) (ts : List ℕ) → IsRising ts → IsRising (with_type ts t)
with_rising t [] h = (λ u i. absurd i, tt)
with_rising t (s ∷ ts) h = step (nat_lt t s) (nat_eq s t) refl refl (with_rising t ts h.1)
  where
    step : (less same : Bool) → nat_lt t s ≡ less → nat_eq s t ≡ same → IsRising (with_type ts t)
        → IsRising (cond less (t ∷ s ∷ ts) (cond same (s ∷ ts) (s ∷ with_type ts t)))
    step true same f e rest = (above, h)
      where
        above : (u : ℕ) → In u (s ∷ ts) → t < u
        above u (inl g) = let l = ltb-true t s f in omega arith
        above u (inr i) = let l = ltb-true t s f in let m = h.0 u i in omega arith
    step false true f e rest = h
    step false false f e rest = (above, rest)
      where
        differ : s ≢ t
        differ g = let no_way : true ≡ false = sym (eq-eqb s t g) ∙ e in cc

        below : s < t
        below = let l = ltb-false t s f in let d = differ in omega arith

        above : (u : ℕ) → In u (with_type ts t) → s < u
        above u i = either (in_with t u ts i)
          where
            either : (u ≡ t) ⊎ In u ts → s < u
            either (inl g) = let b = below in omega arith
            either (inr j) = h.0 u j

-- a type that doesn't pass leaves no trace
pub with_out : (p : ℕ → Bool) (t : ℕ) (ts : List ℕ) → p t ≡ false → filter p (with_type ts t) ≡ filter p ts
with_out p t [] h = rw h refl
with_out p t (s ∷ ts) h = step (nat_lt t s) (nat_eq s t) (with_out p t ts h)
  where
    step : (less same : Bool) → filter p (with_type ts t) ≡ filter p ts → filter p (cond less (t ∷ s ∷ ts) (cond same (s ∷ ts) (s ∷ with_type ts t))) ≡ filter p (s ∷ ts)
    step true same rest = ap (λ b. cond b (t ∷ filter p (s ∷ ts)) (filter p (s ∷ ts))) h
    step false true rest = refl
    step false false rest = ap (λ us. cond (p s) (s ∷ us) us) rest

-- a type below all others comes first
with_first : (t : ℕ) (ts : List ℕ) → ((u : ℕ) → In u ts → t < u) → with_type ts t ≡ t ∷ ts
with_first t [] h = refl
with_first t (s ∷ ts) h = step (nat_lt t s) (nat_eq s t) refl
  where
    step : (less same : Bool) → nat_lt t s ≡ less → cond less (t ∷ s ∷ ts) (cond same (s ∷ ts) (s ∷ with_type ts t)) ≡ t ∷ s ∷ ts
    step true same f = refl
    step false same f = let g = ltb-false t s f in let l = h s (inl refl) in absurd (omega arith)

-- a type that passes
pub with_in : (p : ℕ → Bool) (t : ℕ) (ts : List ℕ) → IsRising ts → p t ≡ true → filter p (with_type ts t) ≡ with_type (filter p ts) t
with_in p t [] r h = rw h refl
with_in p t (s ∷ ts) r h = step (nat_lt t s) (nat_eq s t) (p s) refl refl refl (with_in p t ts r.1 h)
  where
    step : (less same c : Bool) → nat_lt t s ≡ less → nat_eq s t ≡ same → p s ≡ c → filter p (with_type ts t) ≡ with_type (filter p ts) t
        → filter p (cond less (t ∷ s ∷ ts) (cond same (s ∷ ts) (s ∷ with_type ts t))) ≡ with_type (cond c (s ∷ filter p ts) (filter p ts)) t
    step true same true f e g rest = rw (h, g, f) refl
    step true same false f e g rest = rw (h, g) (sym (with_first t (filter p ts) (λ u i. (let l = ltb-true t s f in let m = r.0 u (in_filter p u ts i) in omega arith))))
    step false true true f e g rest = rw (g, f, e) refl
    step false true false f e g rest = let no_way : true ≡ false = sym h ∙ (sym (ap p (eqb-true s t e)) ∙ g) in absurd (cc)
    step false false true f e g rest = rw (g, f, e) (ap (λ us. s ∷ us) rest)
    step false false false f e g rest = rw g rest

-- a type that is there
pub with_has : (t : ℕ) (ts : List ℕ) → IsRising ts → has_type ts t ≡ true → with_type ts t ≡ ts
with_has t [] r h = absurd (cc)
with_has t (s ∷ ts) r h = step (nat_lt t s) (nat_eq s t) refl h (above (has_in t (s ∷ ts) h)) (with_has t ts r.1)
  where
    above : In t (s ∷ ts) → s ≤ t
    above (inl e) = omega arith
    above (inr i) = let m = r.0 t i in omega arith

    step : (less same : Bool) → nat_lt t s ≡ less → (same || has_type ts t) ≡ true → s ≤ t → (has_type ts t ≡ true → with_type ts t ≡ ts)
        → cond less (t ∷ s ∷ ts) (cond same (s ∷ ts) (s ∷ with_type ts t)) ≡ s ∷ ts
    step true same f h le rest = let l = ltb-true t s f in absurd (omega arith)
    step false true f h le rest = refl
    step false false f h le rest = ap (λ us. s ∷ us) (rest h)

-- ---- things by rising type

module _ {X : Type 0} (type_of : X → ℕ) where
  pub typed_types : (x : X) (xs : List X) → map type_of (with_typed type_of x xs) ≡ with_type (map type_of xs) (type_of x)
  typed_types x [] = refl
  typed_types x (y ∷ ys) = step (nat_lt (type_of x) (type_of y)) (nat_eq (type_of y) (type_of x)) refl (typed_types x ys)
    where
      step : (less same : Bool) → nat_eq (type_of y) (type_of x) ≡ same → map type_of (with_typed type_of x ys) ≡ with_type (map type_of ys) (type_of x)
          → map type_of (cond less (x ∷ y ∷ ys) (cond same (x ∷ ys) (y ∷ with_typed type_of x ys)))
          ≡ cond less (type_of x ∷ type_of y ∷ map type_of ys) (cond same (type_of y ∷ map type_of ys) (type_of y ∷ with_type (map type_of ys) (type_of x)))
      step true same e rest = refl
      step false true e rest = ap (λ t. t ∷ map type_of ys) (sym (eqb-true (type_of y) (type_of x) e))
      step false false e rest = ap (λ ts. type_of y ∷ ts) rest

  pub in_typed : (x z : X) (xs : List X) → In z (with_typed type_of x xs) → (z ≡ x) ⊎ In z xs
  in_typed x z [] i = i
  in_typed x z (y ∷ ys) i = step (nat_lt (type_of x) (type_of y)) (nat_eq (type_of y) (type_of x)) i (in_typed x z ys)
    where
      behind : (z ≡ x) ⊎ In z ys → (z ≡ x) ⊎ ((z ≡ y) ⊎ In z ys)
      behind (inl e) = inl e
      behind (inr j) = inr (inr j)

      step : (less same : Bool) → In z (cond less (x ∷ y ∷ ys) (cond same (x ∷ ys) (y ∷ with_typed type_of x ys))) → (In z (with_typed type_of x ys) → (z ≡ x) ⊎ In z ys)
          → (z ≡ x) ⊎ ((z ≡ y) ⊎ In z ys)
      step true same i rest = i
      step false true (inl e) rest = inl e
      step false true (inr j) rest = inr (inr j)
      step false false (inl e) rest = inr (inl e)
      step false false (inr j) rest = behind (rest j)

  -- a thing is found by its type
  pub at_own_type : (x : X) (xs : List X) → IsRising (map type_of xs) → In x xs → at_type type_of (type_of x) xs ≡ Some x
  at_own_type x [] r i = absurd i
  at_own_type x (y ∷ ys) r (inl e) = rw (eq-eqb (type_of y) (type_of x) (sym (ap type_of e))) (ap Some (sym e))
  at_own_type x (y ∷ ys) r (inr i) = step (nat_eq (type_of y) (type_of x)) refl (at_own_type x ys r.1 i)
    where
      step : (b : Bool) → nat_eq (type_of y) (type_of x) ≡ b → at_type type_of (type_of x) ys ≡ Some x → cond b (Some y) (at_type type_of (type_of x) ys) ≡ Some x
      step true e rest = let same = eqb-true (type_of y) (type_of x) e in let l = r.0 (type_of x) (map_in type_of x ys i) in absurd (omega arith)
      step false e rest = rest

pub by_type_rises : {V : Type 0} (ps : List (PartOf V)) → IsRising (map part_type (by_type ps))
by_type_rises [] = tt
by_type_rises (p ∷ ps) = rw (typed_types part_type p (by_type ps)) (with_rising p.type_id (map part_type (by_type ps)) (by_type_rises ps))

pub in_by_type : {V : Type 0} (q : PartOf V) (ps : List (PartOf V)) → In q (by_type ps) → In q ps
in_by_type q [] i = i
in_by_type q (p ∷ ps) i = step (in_typed part_type p q (by_type ps) i) (in_by_type q ps)
  where
    step : (q ≡ p) ⊎ In q (by_type ps) → (In q (by_type ps) → In q ps) → (q ≡ p) ⊎ In q ps
    step (inl e) rest = inl e
    step (inr j) rest = inr (rest j)
