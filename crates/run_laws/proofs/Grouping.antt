-- Phases hold systems that don't conflict, and all systems in order.
use Rattle.std.proofs.Common.{◌≡◌, ℕ, ◌⊎◌, inl, inr, Bool, true, false, ◌||◌, if◌then◌else◌, List, [], ◌∷◌, ◌++◌, map, Option, refl, sym, ap, ◌∙◌, subst, append_assoc}
use Rattle.std.specs.List.{list_any, flat_map}
use Rattle.ent_types.specs.declared.type_info.TypeInfo.{TypeInfo}
use Rattle.ent_types.specs.TypeSets.{meets}
use Rattle.world_model.specs.Members.{In}
use Rattle.world_laws.proofs.Members.{in_append, in_map}
use Rattle.scenario_record.specs.declared.record.SystemEntry.{SystemEntry}
use Rattle.run_model.specs.Job.{writes}
use Rattle.run_model.specs.Phases.{touches, conflicts, phases_from, phases_by, phases, Turn, turn_of, AreApart}

or_swap : (b c : Bool) → (b || c) ≡ (c || b)
or_swap true true = refl
or_swap true false = refl
or_swap false true = refl
or_swap false false = refl

neither : (b c : Bool) → (b || c) ≡ false → (b ≡ false) × (c ≡ false)
neither true c e = absurd (cc)
neither false c e = (refl, e)

pub conflicts_turned : (registry : List TypeInfo) (s r : SystemEntry) → conflicts registry s r ≡ conflicts registry r s
conflicts_turned registry s r = or_swap (meets (writes s) (touches registry r)) (meets (writes r) (touches registry s))

-- ---- by any test of conflicts

-- no later one of these conflicts with an earlier one
module _ {S : Type 0} (conflict : S → S → Bool) where
  abbrev pub AreFreeOf : List S → Type 0
  AreFreeOf [] = Unit {0}
  AreFreeOf (p ∷ ps) = ((k : S) → In k ps → conflict k p ≡ false) × AreFreeOf ps

module _ {S : Type 0} (conflict : S → S → Bool) where
  free_one : (s : S) → AreFreeOf conflict (s ∷ [])
  free_one s = ((λ k i. absurd i), tt)

  free_more : (ps : List S) (s : S) → AreFreeOf conflict ps → list_any (conflict s) ps ≡ false → AreFreeOf conflict (ps ++ s ∷ [])
  free_more [] s a h = free_one s
  free_more (p ∷ ps) s a h =
      let parts = neither (conflict s p) (list_any (conflict s) ps) h in
      ((λ k i. by parts.0 k (in_append k ps (s ∷ []) i)), free_more ps s a.1 parts.1)
    where
      by : conflict s p ≡ false → (k : S) → In k ps ⊎ In k (s ∷ []) → conflict k p ≡ false
      by free k (inl j) = a.0 k j
      by free k (inr (inl e)) = subst (λ t. conflict t p ≡ false) (sym e) free
      by free k (inr (inr j)) = absurd j

  free_from : (phase ss : List S) → AreFreeOf conflict phase → (q : List S) → In q (phases_from conflict phase ss) → AreFreeOf conflict q
  free_from phase [] a q (inl e) = subst (AreFreeOf conflict) (sym e) a
  free_from phase [] a q (inr i) = absurd i
  free_from phase (s ∷ ss) a q i =
      by (list_any (conflict s) phase) refl i (free_from (s ∷ []) ss (free_one s) q) (λ more. free_from (phase ++ s ∷ []) ss more q)
    where
      by : (b : Bool) → list_any (conflict s) phase ≡ b
          → In q (if b then phase ∷ phases_from conflict (s ∷ []) ss else phases_from conflict (phase ++ s ∷ []) ss)
          → (In q (phases_from conflict (s ∷ []) ss) → AreFreeOf conflict q)
          → (AreFreeOf conflict (phase ++ s ∷ []) → In q (phases_from conflict (phase ++ s ∷ []) ss) → AreFreeOf conflict q) → AreFreeOf conflict q
      by true h (inl e) new on = subst (AreFreeOf conflict) (sym e) a
      by true h (inr j) new on = new j
      by false h j new on = on (free_more phase s a h) j

  pub phases_free : (ss : List S) (q : List S) → In q (phases_by conflict ss) → AreFreeOf conflict q
  phases_free [] q i = absurd i
  phases_free (s ∷ ss) q i = free_from (s ∷ []) ss (free_one s) q i

  whole_from : (phase ss : List S) → flat_map (λ p. p) (phases_from conflict phase ss) ≡ phase ++ ss
  whole_from phase [] = refl
  whole_from phase (s ∷ ss) = by (list_any (conflict s) phase) (whole_from (s ∷ []) ss) (whole_from (phase ++ s ∷ []) ss)
    where
      by : (b : Bool) → flat_map (λ p. p) (phases_from conflict (s ∷ []) ss) ≡ s ∷ ss → flat_map (λ p. p) (phases_from conflict (phase ++ s ∷ []) ss) ≡ (phase ++ s ∷ []) ++ ss
          → flat_map (λ p. p) (if b then phase ∷ phases_from conflict (s ∷ []) ss else phases_from conflict (phase ++ s ∷ []) ss) ≡ phase ++ s ∷ ss
      by true new on = ap (λ qs. phase ++ qs) new
      by false new on = on ∙ append_assoc phase (s ∷ []) ss

  pub whole_by : (ss : List S) → flat_map (λ q. q) (phases_by conflict ss) ≡ ss
  whole_by [] = refl
  whole_by (s ∷ ss) = whole_from (s ∷ []) ss

-- ---- of systems

module _ (registry : List TypeInfo) (last : SystemEntry → Option ℕ) where
  apart_of : (q : List SystemEntry) → AreFreeOf (conflicts registry) q → AreApart registry (map (turn_of last) q)
  apart_of [] a = tt
  apart_of (s ∷ ss) a = (
    (λ k i. let (r, j, e) = in_map (turn_of last) k ss i in subst (λ (t : Turn). conflicts registry s t.system ≡ false) (sym e) (conflicts_turned registry s r ∙ a.0 r j)),
    apart_of ss a.1,
  )

  pub phases_apart : (ss : List SystemEntry) (q : List SystemEntry) → In q (phases registry ss) → AreApart registry (map (turn_of last) q)
  phases_apart ss q i = apart_of q (phases_free (conflicts registry) ss q i)

pub phases_whole : (registry : List TypeInfo) (ss : List SystemEntry) → flat_map (λ q. q) (phases registry ss) ≡ ss
phases_whole registry ss = whole_by (conflicts registry) ss
