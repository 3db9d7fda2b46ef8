-- The types of a set that pass a test, by taking the others out one after another.
use Rattle.std.proofs.Common.{ℕ, ◌≡◌, ◌<◌, ◌∙◌, ◌&&◌, ◌||◌, inl, inr, Bool, true, false, not, cond, nat_eq, sym, ap, refl, subst, List, [], ◌∷◌, filter}
use Rattle.std.proofs.lemmas.Bool.{cases_eq, eq-eqb, ne_eqb, eqb-true, or_right}
use Rattle.ent_types.specs.declared.entity.TheConstants.TypeId.{PREFAB}
use Rattle.ent_types.specs.declared.limits.TheConstants.{MOST_TYPES}
use Rattle.ent_types.specs.declared.type_info.TypeInfo.{TypeInfo}
use Rattle.ent_types.specs.TypeLookups.{is_cleanup_at}
use Rattle.ent_types.specs.TypeSets.{IsRisingBelow, has_type, without_type}
use Rattle.ent_types.proofs.TypeSetLemmas.{same_types, has_type-filter, has_type-without_type, IsRisingFrom-filter, IsRisingFrom-without_type}
use Rattle.world_model.specs.Members.{In}
use Rattle.world_model.specs.Operations.{is_copied}
use Rattle.world_rows.specs.Types.{cleanup_types, copied_types}
use Rattle.structural_ops.proofs.Sets.{set_below}

-- a set without those of some types that don't pass
abbrev pub stripped : (ℕ → Bool) → List ℕ → List ℕ → List ℕ
stripped keeps [] set = set
stripped keeps (t ∷ ts) set = stripped keeps ts (cond (keeps t) set (without_type set t))

-- what some types leave of a set when they are done, and that they can be asked for
pub record Leave (keeps : ℕ → Bool) (types set whole : List ℕ) : Type 0 where
  pub left : stripped keeps types set ≡ whole
  pub below : (t : ℕ) → In t types → t < MOST_TYPES

pub begun : (keeps : ℕ → Bool) (types left set : List ℕ) → IsRisingBelow MOST_TYPES types → left ≡ types → Leave keeps left set (stripped keeps types set)
begun keeps types left set rising is = record {
  left = ap (λ ts. stripped keeps ts set) is;
  below = λ t i. set_below types rising t (subst (In t) is i);
}

-- the next of the types
module _ (keeps : ℕ → Bool) (t : ℕ) (types rest set whole : List ℕ) (steps : types ≡ t ∷ rest) (leave : Leave keeps types set whole) where
  pub next_below : t < MOST_TYPES
  next_below = leave.below t (subst (In t) (sym steps) (inl refl))

  rest_below : (u : ℕ) → In u rest → u < MOST_TYPES
  rest_below u i = leave.below u (subst (In u) (sym steps) (inr i))

  all_left : stripped keeps rest (cond (keeps t) set (without_type set t)) ≡ whole
  all_left = ap (λ ts. stripped keeps ts set) (sym steps) ∙ leave.left

  pub stays : keeps t ≡ true → Leave keeps rest set whole
  stays is = record { left = ap (λ b. stripped keeps rest (cond b set (without_type set t))) (sym is) ∙ all_left; below = rest_below }

  pub goes : keeps t ≡ false → (new : List ℕ) → new ≡ without_type set t → Leave keeps rest new whole
  goes is new out = record { left = ap (stripped keeps rest) out ∙ ap (λ b. stripped keeps rest (cond b set (without_type set t))) (sym is) ∙ all_left; below = rest_below }

pub ended : (keeps : ℕ → Bool) (types set whole : List ℕ) → types ≡ [] → Leave keeps types set whole → set ≡ whole
ended keeps types set whole none leave = ap (λ ts. stripped keeps ts set) (sym none) ∙ leave.left

turned : (a b : ℕ) → nat_eq a b ≡ nat_eq b a
turned a b =
    elim (cases_eq a b) [
      | inl same ↦ eq-eqb a b same ∙ sym (eq-eqb b a (sym same))
      | inr apart ↦ ne_eqb a b apart ∙ sym (ne_eqb b a (λ e. apart (sym e)))
    ]

has_one : (b : Bool) (t u : ℕ) (set : List ℕ) → has_type (cond b set (without_type set t)) u ≡ cond b (has_type set u) (not (nat_eq u t) && has_type set u)
has_one true t u set = refl
has_one false t u set = has_type-without_type set t u

-- `keeps` and `kept` are the test of the first type and of the one looked for, which may be the same
table : (keeps kept left has same : Bool) → (same ≡ true → kept ≡ keeps)
    → ((kept || not left) && cond keeps has (not same && has)) ≡ ((kept || not (same || left)) && has)
table true kept left has false e = refl
table false kept left has false e = refl
table true true left has true e = refl
table true false left has true e = let no_way : false ≡ true = e refl in absurd (cc)
table false true left has true e = let no_way : true ≡ false = e refl in absurd (cc)
table false false true has true e = refl
table false false false has true e = refl

has_stripped : (keeps : ℕ → Bool) (ts set : List ℕ) (u : ℕ) → has_type (stripped keeps ts set) u ≡ ((keeps u || not (has_type ts u)) && has_type set u)
has_stripped keeps [] set u = ap (λ b. b && has_type set u) (sym (or_right (keeps u) true refl))
has_stripped keeps (t ∷ ts) set u =
    has_stripped keeps ts (cond (keeps t) set (without_type set t)) u
    ∙ ap (λ b. (keeps u || not (has_type ts u)) && b) (has_one (keeps t) t u set)
    ∙ ap (λ b. (keeps u || not (has_type ts u)) && cond (keeps t) (has_type set u) (not b && has_type set u)) (turned u t)
    ∙ table (keeps t) (keeps u) (has_type ts u) (has_type set u) (nat_eq t u) (λ e. ap keeps (sym (eqb-true t u e)))

stripped_rises : (keeps : ℕ → Bool) (ts set : List ℕ) → IsRisingBelow MOST_TYPES set → IsRisingBelow MOST_TYPES (stripped keeps ts set)
stripped_rises keeps [] set rising = rising
stripped_rises keeps (t ∷ ts) set rising = stripped_rises keeps ts (cond (keeps t) set (without_type set t)) (by (keeps t))
  where
    by : (b : Bool) → IsRisingBelow MOST_TYPES (cond b set (without_type set t))
    by true = rising
    by false = IsRisingFrom-without_type 0 MOST_TYPES set t rising

stripped_is : (keeps passed : ℕ → Bool) (ts set all : List ℕ) → IsRisingBelow MOST_TYPES set → IsRisingBelow MOST_TYPES all
    → ((u : ℕ) → ((keeps u || not (has_type ts u)) && has_type set u) ≡ (passed u && has_type all u)) → stripped keeps ts set ≡ filter passed all
stripped_is keeps passed ts set all rising whole same =
    same_types 0 MOST_TYPES (stripped keeps ts set) (filter passed all) (stripped_rises keeps ts set rising) (IsRisingFrom-filter 0 MOST_TYPES passed all whole)
    (λ u within. has_stripped keeps ts set u ∙ same u ∙ sym (has_type-filter passed all u))

abbrev pub stays_in_copy : List TypeInfo → ℕ → Bool
stays_in_copy registry t = not (is_cleanup_at registry t)

module _ (registry : List TypeInfo) (types : List ℕ) (rising : IsRisingBelow MOST_TYPES types) where
  pub cleanup_is : stripped (is_cleanup_at registry) types types ≡ cleanup_types registry types
  cleanup_is = stripped_is (is_cleanup_at registry) (is_cleanup_at registry) types types types rising rising (λ u. both (is_cleanup_at registry u) (has_type types u))
    where
      both : (k h : Bool) → ((k || not h) && h) ≡ (k && h)
      both true h = refl
      both false true = refl
      both false false = refl

  pub copied_is : stripped (stays_in_copy registry) types (without_type types PREFAB.0) ≡ copied_types registry types
  copied_is =
      stripped_is (stays_in_copy registry) (is_copied registry) types (without_type types PREFAB.0) types
      (IsRisingFrom-without_type 0 MOST_TYPES types PREFAB.0 rising) rising
      (λ u. ap (λ b. (not (is_cleanup_at registry u) || not (has_type types u)) && b) (has_type-without_type types PREFAB.0 u)
      ∙ both (is_cleanup_at registry u) (has_type types u) (nat_eq u PREFAB.0))
    where
      both : (c h q : Bool) → ((not c || not h) && (not q && h)) ≡ (not (c || q) && h)
      both true true q = refl
      both true false true = refl
      both true false false = refl
      both false h q = refl
