-- Which id is found by a key, before and after one id is held for another key.
use Rattle.std.proofs.Common.{◌≡◌, ◌≢◌, ℕ, ◌<◌, true, false, cond, inl, inr, List, Option, Some, None, refl, sym, ap, ◌∙◌, subst, arith}
use Rattle.std.proofs.lemmas.Bool.{cases_eq, cases_Bool, cond-true, cond-false, false_from_ne_true}
use Rattle.shared_values.specs.declared.key.Key.{Key}
use Rattle.shared_values.specs.declared.table.Slot.{Slot}
use Rattle.shared_values.specs.Keys.{same_key}
use Rattle.shared_values.specs.KeyLaws.{key_from, key_decides}
use Rattle.shared_values.specs.Holds.{slot_at, holds_of, AreOneEach, ChangesTo}
use Rattle.shared_values.specs.Tables.{IsFor, AreFound}

some_same : {A : Type 0} (found : Option A) (x y : A) → found ≡ Some x → found ≡ Some y → x ≡ y
some_same found x y a b = cc

-- each key that is held has one id
pub one_each : (slots : List Slot) (found : Key → Option ℕ) → AreFound slots found → AreOneEach slots
one_each slots found ids a b a_held b_held types values =
    let key = (slot_at slots b).key in
    some_same (found key) a b
    ((ids key a).1 (a_held, key_from (slot_at slots a).key key (types, values)))
    ((ids key b).1 (b_held, refl))

module _ (old new : List Slot) (id : ℕ) (slot : Slot) (changes : ChangesTo old new id slot) (find found : Key → Option ℕ) (ids : AreFound old find) where
  same_for : (other : ℕ) (key : Key) → other ≢ id → IsFor old other key → IsFor new other key
  same_for other key apart is_for =
      subst (λ (s : Slot). (0 < s.holds) × (s.key ≡ key)) (sym (changes.others other apart)) is_for

  was_for : (other : ℕ) (key : Key) → other ≢ id → IsFor new other key → IsFor old other key
  was_for other key apart is_for =
      subst (λ (s : Slot). (0 < s.holds) × (s.key ≡ key)) (changes.others other apart) is_for

  -- an id that was free is held for a key that no id was held for
  pub found-given : holds_of old id ≡ 0 → 0 < slot.holds → ((other : ℕ) → IsFor old other slot.key → ⊥)
      → ((key : Key) → found key ≡ cond (same_key slot.key key) (Some id) (find key)) → AreFound new found
  found-given none held fresh entered key other = (is_held, is_found)
    where
      here : IsFor new id slot.key
      here = subst (λ (s : Slot). (0 < s.holds) × (s.key ≡ slot.key)) (sym changes.there) (held, refl)

      is_held : found key ≡ Some other → IsFor new other key
      is_held h =
          elim (cases_Bool (same_key slot.key key)) [
            | inl same ↦
                let at : found key ≡ Some id = entered key ∙ cond-true (same_key slot.key key) _ _ same in
                subst (λ n. IsFor new n key) (some_same (found key) id other at h) (subst (λ (k : Key). IsFor new id k) ((key_decides slot.key key).0 same) here)
            | inr apart ↦
                let at : find key ≡ Some other = sym (entered key ∙ cond-false (same_key slot.key key) _ _ apart) ∙ h in
                let is_for : IsFor old other key = (ids key other).0 at in
                same_for other key (λ e. let zero : holds_of old other ≡ 0 = ap (holds_of old) e ∙ none in omega (arith, is_for.0)) is_for
          ]

      is_found : IsFor new other key → found key ≡ Some other
      is_found h =
          elim (cases_eq other id) [
            | inl e ↦
                let key_is : slot.key ≡ key = ap (λ (s : Slot). s.key) (sym changes.there) ∙ sym (ap (λ n. (slot_at new n).key) e) ∙ h.1 in
                entered key ∙ cond-true (same_key slot.key key) _ _ ((key_decides slot.key key).1 key_is) ∙ ap Some (sym e)
            | inr apart ↦
                let is_for : IsFor old other key = was_for other key apart h in
                let differs : same_key slot.key key ≡ false =
                false_from_ne_true _ (λ same. fresh other (subst (λ (k : Key). IsFor old other k) (sym ((key_decides slot.key key).0 same)) is_for)) in
                entered key ∙ cond-false (same_key slot.key key) _ _ differs ∙ (ids key other).1 is_for
          ]

  -- an id is held no longer
  pub found-taken : (gone : Key) → IsFor old id gone → slot.holds ≡ 0
      → ((key : Key) → found key ≡ cond (same_key gone key) None (find key)) → AreFound new found
  found-taken gone was none removed key other = (is_held, is_found)
    where
      is_held : found key ≡ Some other → IsFor new other key
      is_held h =
          elim (cases_Bool (same_key gone key)) [
            | inl same ↦
                let at : found key ≡ None = removed key ∙ cond-true (same_key gone key) _ _ same in cc
            | inr apart ↦
                let at : find key ≡ Some other = sym (removed key ∙ cond-false (same_key gone key) _ _ apart) ∙ h in
                let is_for : IsFor old other key = (ids key other).0 at in
                same_for other key
                (λ e.
                let key_is : gone ≡ key = sym was.1 ∙ sym (ap (λ n. (slot_at old n).key) e) ∙ is_for.1 in
                let same : same_key gone key ≡ true = (key_decides gone key).1 key_is in cc) is_for
          ]

      is_found : IsFor new other key → found key ≡ Some other
      is_found h =
          elim (cases_eq other id) [
            | inl e ↦
                let zero : holds_of new other ≡ 0 = ap (holds_of new) e ∙ ap (λ (s : Slot). s.holds) changes.there ∙ none in
                absurd (omega (arith, h.0))
            | inr apart ↦
                let is_for : IsFor old other key = was_for other key apart h in
                let differs : same_key gone key ≡ false =
                false_from_ne_true _ (λ same.
                apart (some_same (find gone) other id
                ((ids gone other).1 (is_for.0, is_for.1 ∙ sym ((key_decides gone key).0 same)))
                ((ids gone id).1 was))) in
                removed key ∙ cond-false (same_key gone key) _ _ differs ∙ (ids key other).1 is_for
          ]
