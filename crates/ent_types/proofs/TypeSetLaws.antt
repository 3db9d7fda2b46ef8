-- laws of putting types into a set and taking them out
use Rattle.std.proofs.Common.{◌≡◌, ℕ, inl, inr, ◌+◌, ◌<◌, ◌≤◌, Bool, true, false, not, ◌&&◌, ◌||◌, cond, eqb, ltb, List, [], ◌∷◌, length, refl, sym, ap, ap₂, ◌∙◌, arith, eqb-true}
use Rattle.std.proofs.lemmas.Bool.{cond_both, cond-false, eq-eqb, false≢true, cases_lt, or_right, or_parts, and_parts}
use Rattle.std.proofs.lemmas.Bool.Decides.{same_from_decides, Decides-like, Decides-eqb}
use Rattle.ent_types.specs.TypeSets.{IsRisingFrom, has_type, with_type, without_type, is_subset_of}
use Rattle.ent_types.proofs.TypeSetLemmas.{IsRisingFrom-with_type, IsRisingFrom-without_type, has_type_below, has_type_above, has_type-with_type, has_type-without_type, same_types, or_left_comm}
use Rattle.ent_types.proofs.TypeSetRelations.{is_subset_of-from_each}

-- a type that is there is in the range
pub has_type_within : (low high : ℕ) (types : List ℕ) (t : ℕ) → IsRisingFrom low high types → has_type types t ≡ true → (low ≤ t) × (t < high)
has_type_within low high types t rising has = (
  elim (cases_lt t low) [
    | inl below ↦ absurd (false≢true (sym (has_type_below low high types t rising below) ∙ has))
    | inr from ↦ from
  ],
  elim (cases_lt t high) [
    | inl within ↦ within
    | inr above ↦ absurd (false≢true (sym (has_type_above low high types t rising above) ∙ has))
  ],
)

or_there : (a b : Bool) → (a ≡ true → b ≡ true) → (a || b) ≡ b
or_there true b there = sym (there refl)
or_there false b there = refl

-- a type that is there need not be put in
pub with_type-there : (low high : ℕ) (types : List ℕ) (ty : ℕ) → IsRisingFrom low high types → has_type types ty ≡ true → with_type types ty ≡ types
with_type-there low high types ty rising has =
    let range = has_type_within low high types ty rising has in
    same_types low high (with_type types ty) types (IsRisingFrom-with_type low high types ty rising range.0 range.1) rising (λ t _.
    has_type-with_type types ty t
    ∙ or_there (eqb ty t) (has_type types t) (λ e. ap (has_type types) (sym (eqb-true ty t e)) ∙ has))

and_there : (a b : Bool) → (a ≡ true → b ≡ false) → (not a && b) ≡ b
and_there true b gone = sym (gone refl)
and_there false b gone = refl

-- a type that isn't there need not be taken out
pub without_type-gone : (low high : ℕ) (types : List ℕ) (ty : ℕ) → IsRisingFrom low high types → has_type types ty ≡ false → without_type types ty ≡ types
without_type-gone low high types ty rising gone =
    same_types low high (without_type types ty) types (IsRisingFrom-without_type low high types ty rising) rising (λ t _.
    has_type-without_type types ty t
    ∙ and_there (eqb t ty) (has_type types t) (λ e. ap (has_type types) (eqb-true t ty e) ∙ gone))

-- the order in which types are put in doesn't matter
pub with_type-comm : (low high : ℕ) (types : List ℕ) (a b : ℕ) → IsRisingFrom low high types → low ≤ a → a < high → low ≤ b → b < high
    → with_type (with_type types a) b ≡ with_type (with_type types b) a
with_type-comm low high types a b rising from_a within_a from_b within_b =
    same_types low high (with_type (with_type types a) b) (with_type (with_type types b) a)
    (IsRisingFrom-with_type low high (with_type types a) b (IsRisingFrom-with_type low high types a rising from_a within_a) from_b within_b)
    (IsRisingFrom-with_type low high (with_type types b) a (IsRisingFrom-with_type low high types b rising from_b within_b) from_a within_a)
    (λ t _.
    has_type-with_type (with_type types a) b t ∙ ap (λ h. eqb b t || h) (has_type-with_type types a t)
    ∙ or_left_comm (eqb b t) (eqb a t) (has_type types t)
    ∙ sym (has_type-with_type (with_type types b) a t ∙ ap (λ h. eqb a t || h) (has_type-with_type types b t)))

eqb-sym : (a b : ℕ) → eqb a b ≡ eqb b a
eqb-sym a b = same_from_decides _ _ (Decides-eqb a b) (Decides-like _ (λ e. sym e) (λ e. sym e) (Decides-eqb b a))

out_again : (a b : Bool) → (a ≡ true → b ≡ false) → (not a && (a || b)) ≡ b
out_again true b gone = sym (gone refl)
out_again false b gone = refl

-- to put a new type in and take it out changes nothing
pub without_type-with_type : (low high : ℕ) (types : List ℕ) (ty : ℕ) → IsRisingFrom low high types → low ≤ ty → ty < high → has_type types ty ≡ false
    → without_type (with_type types ty) ty ≡ types
without_type-with_type low high types ty rising from within gone =
    same_types low high (without_type (with_type types ty) ty) types
    (IsRisingFrom-without_type low high (with_type types ty) ty (IsRisingFrom-with_type low high types ty rising from within)) rising
    (λ t _.
    has_type-without_type (with_type types ty) ty t
    ∙ ap₂ (λ a h. not a && h) (eqb-sym t ty) (has_type-with_type types ty t)
    ∙ out_again (eqb ty t) (has_type types t) (λ e. ap (has_type types) (sym (eqb-true ty t e)) ∙ gone))

in_again : (a b : Bool) → (a ≡ true → b ≡ true) → (a || (not a && b)) ≡ b
in_again true b there = sym (there refl)
in_again false b there = refl

-- to take a type out and put it in changes nothing
pub with_type-without_type : (low high : ℕ) (types : List ℕ) (ty : ℕ) → IsRisingFrom low high types → has_type types ty ≡ true
    → with_type (without_type types ty) ty ≡ types
with_type-without_type low high types ty rising has =
    let range = has_type_within low high types ty rising has in
    same_types low high (with_type (without_type types ty) ty) types
    (IsRisingFrom-with_type low high (without_type types ty) ty (IsRisingFrom-without_type low high types ty rising) range.0 range.1) rising
    (λ t _.
    has_type-with_type (without_type types ty) ty t
    ∙ ap (λ h. eqb ty t || h) (has_type-without_type types ty t ∙ ap (λ a. not a && has_type types t) (eqb-sym t ty))
    ∙ in_again (eqb ty t) (has_type types t) (λ e. ap (has_type types) (sym (eqb-true ty t e)) ∙ has))

-- a new type makes one type more
pub length-with_type : (types : List ℕ) (ty : ℕ) → has_type types ty ≡ false → length (with_type types ty) ≡ length types + 1
length-with_type [] ty gone = refl
length-with_type (x ∷ xs) ty gone =
    let parts : (eqb x ty ≡ false) × (has_type xs ty ≡ false) = or_parts (eqb x ty) (has_type xs ty) gone in
    let rest : length (with_type xs ty) ≡ length xs + 1 = length-with_type xs ty parts.1 in
    cond_both (ltb ty x) (ty ∷ x ∷ xs) (cond (eqb x ty) (x ∷ xs) (x ∷ with_type xs ty)) (λ l. length l ≡ length (x ∷ xs) + 1)
    (λ _. omega arith)
    (λ _. ap length (cond-false (eqb x ty) (x ∷ xs) (x ∷ with_type xs ty) parts.0) ∙ omega arith)

gone_now : (types : List ℕ) (ty : ℕ) → has_type (without_type types ty) ty ≡ false
gone_now types ty = has_type-without_type types ty ty ∙ ap (λ a. not a && has_type types ty) (eq-eqb ty ty refl)

-- to take out a type that is there leaves one type less
pub length-without_type : (low high : ℕ) (types : List ℕ) (ty : ℕ) → IsRisingFrom low high types → has_type types ty ≡ true
    → length (without_type types ty) + 1 ≡ length types
length-without_type low high types ty rising has =
    sym (length-with_type (without_type types ty) ty (gone_now types ty)) ∙ ap length (with_type-without_type low high types ty rising has)

-- a set is in itself with a type more, and has itself without one
pub is_subset_of-with_type : (types : List ℕ) (ty : ℕ) → is_subset_of types (with_type types ty) ≡ true
is_subset_of-with_type types ty = is_subset_of-from_each types (with_type types ty) (λ t has.
    has_type-with_type types ty t ∙ or_right (eqb ty t) (has_type types t) has)

pub is_subset_of-without_type : (types : List ℕ) (ty : ℕ) → is_subset_of (without_type types ty) types ≡ true
is_subset_of-without_type types ty = is_subset_of-from_each (without_type types ty) types (λ t has.
    (and_parts (not (eqb t ty)) (has_type types t) (sym (has_type-without_type types ty t) ∙ has)).1)
