-- Parts that are tested before a call takes them.
use Rattle.std.proofs.Common.{ℕ, ◌≡◌, ◌<◌, ◌∙◌, ◌&&◌, ◌||◌, ◌-◌, zero, suc, inl, inr, nat_lt, Bool, true, false, not, refl, sym, ap, subst, List, [], ◌∷◌, length, map, take, drop, eqb, arith}
use Rattle.std.proofs.Math.Bool.{and-false}
use Rattle.std.proofs.lemmas.Bool.{and_from, and_parts, eq-eqb, eqb-true, false_from_ne_true, false≢true, lt-ltb, ltb-true, not-true, or_right}
use Rattle.ent_types.proofs.TypeSetLemmas.{has_type-with_type}
use Rattle.ent_types.specs.declared.type_info.FieldInfo.{FieldInfo}
use Rattle.ent_types.specs.declared.type_info.TypeInfo.{TypeInfo}
use Rattle.ent_types.specs.declared.value.Value.{Value}
use Rattle.ent_types.specs.Fitting.{fits_elements, fits_field, fits_fields, fits_type}
use Rattle.ent_types.specs.Registries.{type_at}
use Rattle.ent_types.specs.TypeSets.{has_type, with_type}
use Rattle.world_model.specs.Fits.{IsFitting}
use Rattle.world_model.specs.Lawful.{Suits}
use Rattle.world_model.specs.Members.{In, AreDistinct}
use Rattle.world_model.specs.Operations.{Create}
use Rattle.world_model.specs.Part.{PartOf, part_type}
use Rattle.structural_ops.specs.Suited.{fits_part, parts_suit}

-- the set lacks each of these types
abbrev pub LacksAll : List ℕ → List ℕ → Type 0
LacksAll taken ts = (t : ℕ) → In t ts → has_type taken t ≡ false

has_new : (taken : List ℕ) (t : ℕ) → has_type (with_type taken t) t ≡ true
has_new taken t = has_type-with_type taken t t ∙ ap (λ b. b || has_type taken t) (eq-eqb t t refl)

lacks_less : (taken : List ℕ) (u t : ℕ) → has_type (with_type taken u) t ≡ false → has_type taken t ≡ false
lacks_less taken u t lacks =
    false_from_ne_true (has_type taken t) (λ has. false≢true (sym lacks ∙ has_type-with_type taken u t ∙ or_right (eqb u t) (has_type taken t) has))

lacks_more : (taken : List ℕ) (u t : ℕ) → (u ≡ t → ⊥) → has_type taken t ≡ false → has_type (with_type taken u) t ≡ false
lacks_more taken u t apart lacks =
    has_type-with_type taken u t ∙ ap (λ b. b || has_type taken t) (false_from_ne_true (eqb u t) (λ e. apart (eqb-true u t e))) ∙ lacks

-- what is asked of the parts
record Suit (registry : List TypeInfo) (taken : List ℕ) (ps : List (PartOf Value)) : Type 0 where
  pub fit : (p : PartOf Value) → In p ps → IsFitting registry p
  pub distinct : AreDistinct (map part_type ps)
  pub lacks : LacksAll taken (map part_type ps)

pub fits_is : (registry : List TypeInfo) (p : PartOf Value) → fits_part registry p ≡ true → IsFitting registry p
fits_is registry p fits =
    let parts = and_parts (nat_lt p.type_id (length registry)) (fits_type (type_at registry p.type_id) p.values) fits in
    record { known = ltb-true p.type_id (length registry) parts.0; fit = parts.1 }

pub fits_from : (registry : List TypeInfo) (p : PartOf Value) → IsFitting registry p → fits_part registry p ≡ true
fits_from registry p f = and_from (nat_lt p.type_id (length registry)) (fits_type (type_at registry p.type_id) p.values) (lt-ltb p.type_id (length registry) f.known) f.fit

suit_parts : (registry : List TypeInfo) (taken : List ℕ) (ps : List (PartOf Value)) → parts_suit registry taken ps ≡ true → Suit registry taken ps
suit_parts registry taken [] suits = record { fit = λ p i. absurd i; distinct = tt; lacks = λ t i. absurd i }
suit_parts registry taken (q ∷ qs) suits =
    let first = and_parts (fits_part registry q) (not (has_type taken q.type_id) && parts_suit registry (with_type taken q.type_id) qs) suits in
    let second = and_parts (not (has_type taken q.type_id)) (parts_suit registry (with_type taken q.type_id) qs) first.1 in
    let rest = suit_parts registry (with_type taken q.type_id) qs second.1 in
    record {
      fit = fit (fits_is registry q first.0) rest.fit;
      distinct = (λ i. false≢true (sym (rest.lacks q.type_id i) ∙ has_new taken q.type_id), rest.distinct);
      lacks = lacks (not-true (has_type taken q.type_id) second.0) rest.lacks;
    }
  where
    fit : IsFitting registry q → ((p : PartOf Value) → In p qs → IsFitting registry p) → (p : PartOf Value) → In p (q ∷ qs) → IsFitting registry p
    fit first rest p (inl is) = subst (IsFitting registry) (sym is) first
    fit first rest p (inr i) = rest p i

    lacks : has_type taken q.type_id ≡ false → LacksAll (with_type taken q.type_id) (map part_type qs) → LacksAll taken (map part_type (q ∷ qs))
    lacks first rest t (inl is) = subst (λ v. has_type taken v ≡ false) (sym is) first
    lacks first rest t (inr i) = lacks_less taken q.type_id t (rest t i)

parts_from : (registry : List TypeInfo) (taken : List ℕ) (ps : List (PartOf Value)) → Suit registry taken ps → parts_suit registry taken ps ≡ true
parts_from registry taken [] suit = refl
parts_from registry taken (q ∷ qs) suit =
    and_from (fits_part registry q) (not (has_type taken q.type_id) && parts_suit registry (with_type taken q.type_id) qs) (fits_from registry q (suit.fit q (inl refl)))
    (and_from (not (has_type taken q.type_id)) (parts_suit registry (with_type taken q.type_id) qs) (ap not (suit.lacks q.type_id (inl refl)))
    (parts_from registry (with_type taken q.type_id) qs (record {
      fit = λ p i. suit.fit p (inr i);
      distinct = suit.distinct.1;
      lacks = λ t i. lacks_more taken q.type_id t (λ is. suit.distinct.0 (subst (λ v. In v (map part_type qs)) (sym is) i)) (suit.lacks t (inr i));
    })))

-- the test of a list of parts, and what `create` asks of them
pub suited : (registry : List TypeInfo) (ps : List (PartOf Value)) → parts_suit registry [] ps ≡ true → Suits registry (Create ps)
suited registry ps suits = let s = suit_parts registry [] ps suits in (s.fit, s.distinct)

pub suited_from : (registry : List TypeInfo) (ps : List (PartOf Value)) → Suits registry (Create ps) → parts_suit registry [] ps ≡ true
suited_from registry ps suits = parts_from registry [] ps (record { fit = suits.0; distinct = suits.1; lacks = λ t i. refl })

-- ---- the values of a buffer

pub no_elements : (most : ℕ) (fields : List FieldInfo) (values : List Value) → values ≡ [] → fits_elements most fields values ≡ true
unfolding fits_elements
no_elements most fields values none = ap (fits_elements most fields) none

pub no_more : (fields : List FieldInfo) (values : List Value) → (values ≡ [] → ⊥) → fits_elements 0 fields values ≡ false
unfolding fits_elements
no_more fields [] some = absurd (some refl)
no_more fields (v ∷ vs) some = refl

pub one_more : (most : ℕ) (fields : List FieldInfo) (values : List Value) → (values ≡ [] → ⊥)
    → fits_elements (suc most) fields values ≡ (fits_fields fields (take (length fields) values) && fits_elements most fields (drop (length fields) values))
unfolding fits_elements
one_more most fields [] some = absurd (some refl)
one_more most fields (v ∷ vs) some = refl

-- too few values for the fields
pub too_few : (fields : List FieldInfo) (values : List Value) → length values < length fields → fits_fields fields values ≡ false
too_few [] values few = absurd (omega (arith, few))
too_few (f ∷ fs) [] few = refl
too_few (f ∷ fs) (v ∷ vs) few = ap (λ b. fits_field f.kind v && b) (too_few fs vs (omega (arith, few))) ∙ and-false (fits_field f.kind v)

-- the list of a slice that is said to be empty, or not
pub empty_list : (values : List Value) → true ≡ eqb (length values) 0 → values ≡ []
empty_list [] is = refl
empty_list (v ∷ vs) is = absurd (omega (arith, eqb-true (length (v ∷ vs)) 0 (sym is)))

pub filled_list : (values : List Value) → false ≡ eqb (length values) 0 → values ≡ [] → ⊥
filled_list [] is none = false≢true is
filled_list (v ∷ vs) is none = absurd (cc none)

-- values of which the first of some elements don't fit
pub bad_element : (most : ℕ) (fields : List FieldInfo) (values : List Value) → (values ≡ [] → ⊥) → (most ≡ 0 → ⊥)
    → fits_fields fields (take (length fields) values) ≡ false → fits_elements most fields values ≡ false
bad_element zero fields values some more bad = absurd (more refl)
bad_element (suc most) fields values some more bad =
    one_more most fields values some ∙ ap (λ b. b && fits_elements most fields (drop (length fields) values)) bad

pub good_element : (most : ℕ) (fields : List FieldInfo) (values : List Value) → (values ≡ [] → ⊥) → (most ≡ 0 → ⊥)
    → fits_fields fields (take (length fields) values) ≡ true → fits_elements most fields values ≡ fits_elements (most - 1) fields (drop (length fields) values)
good_element zero fields values some more good = absurd (more refl)
good_element (suc most) fields values some more good =
    one_more most fields values some ∙ ap (λ b. b && fits_elements most fields (drop (length fields) values)) good
    ∙ ap (λ n. fits_elements n fields (drop (length fields) values)) (before most)
  where
    before : (n : ℕ) → n ≡ suc n - 1
    before n = omega arith
