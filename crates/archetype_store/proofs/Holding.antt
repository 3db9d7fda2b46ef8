-- What holding and releasing an id does to the ids that are held.
use Rattle.std.proofs.Common.{◌≡◌, ◌≢◌, ℕ, ◌+◌, ◌-◌, ◌≤◌, min, inl, inr, true, cond, nat_eq, List, [], ◌∷◌, ◌++◌, refl, sym, ap, ◌∙◌, subst, append_assoc, arith}
use Rattle.std.proofs.lemmas.Bool.{cases_eq, eq-eqb, ne_eqb}
use Rattle.ent_types.specs.declared.value.Value.{Value}
use Rattle.world_model.specs.Members.{In, one_if}
use Rattle.world_model.specs.Part.{PartOf}
use Rattle.shared_values.specs.declared.key.Key.{Key}
use Rattle.shared_values.specs.declared.table.Slot.{Slot}
use Rattle.shared_values.specs.declared.table.TheConstants.{MOST_HOLDS}
use Rattle.shared_values.specs.Holds.{slot_at, vacant, holds_of, values_of, type_of, IsHeld, IsIdFor, ChangesTo, held_once_more, held_once_less}
use Rattle.archetype_store.specs.Holding.{AreTyped, Backs, KeepsValues, Holds, Releases, ids_of, parts_of, part_of}
use Rattle.archetype_store.specs.Times.{times}
use Rattle.archetype_store.proofs.Times.{times-append}
use Rattle.archetype_store.specs.declared.shared_parts.SharedPart.{SharedPart}

-- an id of a list is there once or more
pub times-in : (id : ℕ) (ids : List ℕ) → In id ids → 1 ≤ times id ids
times-in id [] is = absurd is
times-in id (x ∷ xs) (inl e) = let same : nat_eq id x ≡ true = eq-eqb id x e in let one : one_if (nat_eq id x) ≡ 1 = ap one_if same in omega (arith, one)
times-in id (x ∷ xs) (inr is) = omega (arith, times-in id xs is)

-- another id is there as often as without this one
pub times-other : (id other : ℕ) (ids : List ℕ) → id ≢ other → times id (other ∷ ids) ≡ times id ids
times-other id other ids apart = let one : one_if (nat_eq id other) ≡ 0 = ap one_if (ne_eqb id other apart) in omega (arith, one)

pub times-same : (id : ℕ) (ids : List ℕ) → times id (id ∷ ids) ≡ times id ids + 1
times-same id ids = let one : one_if (nat_eq id id) ≡ 1 = ap one_if (eq-eqb id id refl) in omega (arith, one)

-- an id of the list is held
pub held_of : (table : List Slot) (ids : List ℕ) (id : ℕ) → Backs table ids → In id ids → IsHeld table id
held_of table ids id backs is = omega (arith, backs.holds id, times-in id ids is)

-- the id that was given for some values is held once more
pub backs-held : (old new : List Slot) (ids : List ℕ) (id type_id : ℕ) (values : List Value) → Backs old ids
    → ChangesTo old new id (held_once_more old id type_id values) → Backs new (id ∷ ids)
backs-held old new ids id type_id values backs changes = record { holds = by }
  where
    by : (other : ℕ) → min (times other (id ∷ ids)) MOST_HOLDS ≤ holds_of new other
    by other =
        elim (cases_eq other id) [
          | inl same ↦
              let there : holds_of new other ≡ min (holds_of old id + 1) MOST_HOLDS = ap (holds_of new) same ∙ ap (λ (s : Slot). s.holds) changes.there in
              let more : times other (id ∷ ids) ≡ times id ids + 1 = ap (λ x. times x (id ∷ ids)) same ∙ times-same id ids in
              omega (arith, there, more, backs.holds id)
          | inr apart ↦
              let there : holds_of new other ≡ holds_of old other = ap (λ (s : Slot). s.holds) (changes.others other apart) in
              omega (arith, there, times-other other id ids apart, backs.holds other)
        ]

pub keeps-held : (old new : List Slot) (ids : List ℕ) (id type_id : ℕ) (values : List Value) → Backs old ids → IsIdFor old type_id values id
    → ChangesTo old new id (held_once_more old id type_id values) → KeepsValues old new ids
keeps-held old new ids id type_id values backs answer changes = record { values = by; types = by_type }
  where
    by : (other : ℕ) → In other ids → values_of new other ≡ values_of old other
    by other is =
        elim (cases_eq other id) [
          | inl same ↦
              let held : IsHeld old id = subst (IsHeld old) same (held_of old ids other backs is) in
              ap (values_of new) same ∙ ap (λ (s : Slot). s.key.values) changes.there ∙ sym (answer.else_free held).values_are ∙ ap (values_of old) (sym same)
          | inr apart ↦ ap (λ (s : Slot). s.key.values) (changes.others other apart)
        ]

    by_type : (other : ℕ) → In other ids → type_of new other ≡ type_of old other
    by_type other is =
        elim (cases_eq other id) [
          | inl same ↦
              let held : IsHeld old id = subst (IsHeld old) same (held_of old ids other backs is) in
              ap (type_of new) same ∙ ap (λ (s : Slot). s.key.ty.0) changes.there ∙ sym (answer.else_free held).type_is ∙ ap (type_of old) (sym same)
          | inr apart ↦ ap (λ (s : Slot). s.key.ty.0) (changes.others other apart)
        ]

-- the values of the id that was given
pub values-held : (old new : List Slot) (id type_id : ℕ) (values : List Value) → ChangesTo old new id (held_once_more old id type_id values) → values_of new id ≡ values
values-held old new id type_id values changes = ap (λ (s : Slot). s.key.values) changes.there

-- what a release leaves of a slot
less : (slot : Slot) (t : ℕ) → min (t + 1) MOST_HOLDS ≤ slot.holds → (min t MOST_HOLDS ≤ (held_once_less slot).holds) × (1 ≤ t → (held_once_less slot).key ≡ slot.key)
less slot t backs =
    elim (cases_eq slot.holds MOST_HOLDS) [
      | inl most ↦
          let is : held_once_less slot ≡ slot = ap (λ b. cond b slot (cond (nat_eq slot.holds 1) vacant (record slot { holds = slot.holds - 1 }))) (eq-eqb slot.holds MOST_HOLDS most) in
          (omega (arith, ap (λ (s : Slot). s.holds) is, most), λ _. ap (λ (s : Slot). s.key) is)
      | inr fewer ↦
          elim (cases_eq slot.holds 1) [
            | inl one ↦
                let is : held_once_less slot ≡ vacant =
                ap (λ b. cond b slot (cond (nat_eq slot.holds 1) vacant (record slot { holds = slot.holds - 1 }))) (ne_eqb slot.holds MOST_HOLDS fewer)
                ∙ ap (λ b. cond b vacant (record slot { holds = slot.holds - 1 })) (eq-eqb slot.holds 1 one) in
                (omega (arith, ap (λ (s : Slot). s.holds) is, one, backs), λ some. absurd (omega (arith, one, backs, some)))
            | inr more ↦
                let is : held_once_less slot ≡ record slot { holds = slot.holds - 1 } =
                ap (λ b. cond b slot (cond (nat_eq slot.holds 1) vacant (record slot { holds = slot.holds - 1 }))) (ne_eqb slot.holds MOST_HOLDS fewer)
                ∙ ap (λ b. cond b vacant (record slot { holds = slot.holds - 1 })) (ne_eqb slot.holds 1 more) in
                (omega (arith, ap (λ (s : Slot). s.holds) is, backs), λ _. ap (λ (s : Slot). s.key) is)
          ]
    ]

-- an id that is released once is held once less
pub backs-released : (old new : List Slot) (ids : List ℕ) (id : ℕ) → Backs old (id ∷ ids) → ChangesTo old new id (held_once_less (slot_at old id)) → Backs new ids
backs-released old new ids id backs changes = record { holds = by }
  where
    by : (other : ℕ) → min (times other ids) MOST_HOLDS ≤ holds_of new other
    by other =
        elim (cases_eq other id) [
          | inl same ↦
              let there : holds_of new other ≡ (held_once_less (slot_at old id)).holds = ap (holds_of new) same ∙ ap (λ (s : Slot). s.holds) changes.there in
              let was : min (times id ids + 1) MOST_HOLDS ≤ (slot_at old id).holds = omega (arith, backs.holds id, times-same id ids) in
              let count : times other ids ≡ times id ids = ap (λ x. times x ids) same in
              omega (arith, there, count, (less (slot_at old id) (times id ids) was).0)
          | inr apart ↦
              let there : holds_of new other ≡ holds_of old other = ap (λ (s : Slot). s.holds) (changes.others other apart) in
              omega (arith, there, times-other other id ids apart, backs.holds other)
        ]

pub keeps-released : (old new : List Slot) (ids : List ℕ) (id : ℕ) → Backs old (id ∷ ids) → ChangesTo old new id (held_once_less (slot_at old id)) → KeepsValues old new ids
keeps-released old new ids id backs changes = record { values = λ other is. ap (λ (k : Key). k.values) (by other is); types = λ other is. ap (λ (k : Key). k.ty.0) (by other is) }
  where
    key_at : List Slot → ℕ → Key
    key_at slots i = (slot_at slots i).key

    by : (other : ℕ) → In other ids → (slot_at new other).key ≡ (slot_at old other).key
    by other is =
        elim (cases_eq other id) [
          | inl same ↦
              let was : min (times id ids + 1) MOST_HOLDS ≤ (slot_at old id).holds = omega (arith, backs.holds id, times-same id ids) in
              let some : 1 ≤ times id ids = subst (λ x. 1 ≤ times x ids) same (times-in other ids is) in
              ap (key_at new) same ∙ ap (λ (s : Slot). s.key) changes.there ∙ (less (slot_at old id) (times id ids) was).1 some ∙ ap (key_at old) (sym same)
          | inr apart ↦ ap (λ (s : Slot). s.key) (changes.others other apart)
        ]

-- ---- ids in another order

pub backs-count : (table : List Slot) (xs ys : List ℕ) → ((id : ℕ) → times id ys ≡ times id xs) → Backs table xs → Backs table ys
backs-count table xs ys same backs = record { holds = λ id. omega (arith, same id, backs.holds id) }

-- ---- lists of parts

pub in-right : {X : Type 0} (x : X) (xs ys : List X) → In x ys → In x (xs ++ ys)
in-right x [] ys is = is
in-right x (y ∷ xs) ys is = inr (in-right x xs ys is)

pub in-left : {X : Type 0} (x : X) (xs ys : List X) → In x xs → In x (xs ++ ys)
in-left x [] ys is = absurd is
in-left x (y ∷ xs) ys (inl e) = inl e
in-left x (y ∷ xs) ys (inr is) = inr (in-left x xs ys is)

pub ids-append : (ps qs : List SharedPart) → ids_of (ps ++ qs) ≡ ids_of ps ++ ids_of qs
ids-append [] qs = refl
ids-append (p ∷ ps) qs = ap (λ ids. p.id ∷ ids) (ids-append ps qs)

pub parts-append : (table : List Slot) (ps qs : List SharedPart) → parts_of table (ps ++ qs) ≡ parts_of table ps ++ parts_of table qs
parts-append table [] qs = refl
parts-append table (p ∷ ps) qs = ap (λ parts. part_of table p ∷ parts) (parts-append table ps qs)

-- ids that keep their values stand for the same parts
pub parts-kept : (old new : List Slot) (ps : List SharedPart) (before after : List ℕ) → KeepsValues old new (before ++ (ids_of ps ++ after)) → parts_of new ps ≡ parts_of old ps
parts-kept old new [] before after keeps = refl
parts-kept old new (p ∷ ps) before after keeps =
    let here : part_of new p ≡ part_of old p = ap (λ values. record { type_id = p.ty.0; values = values }) (keeps.values p.id (in-right p.id before (p.id ∷ (ids_of ps ++ after)) (inl refl))) in
    let rest : KeepsValues old new ((before ++ p.id ∷ []) ++ (ids_of ps ++ after)) = subst (KeepsValues old new) (sym (append_assoc before (p.id ∷ []) (ids_of ps ++ after))) keeps in
    ap (λ part. part ∷ parts_of new ps) here ∙ ap (λ parts. part_of old p ∷ parts) (parts-kept old new ps (before ++ p.id ∷ []) after rest)

pub keeps-both : (old mid new : List Slot) (ids : List ℕ) → KeepsValues old mid ids → KeepsValues mid new ids → KeepsValues old new ids
keeps-both old mid new ids first second = record { values = λ id is. second.values id is ∙ first.values id is; types = λ id is. second.types id is ∙ first.types id is }

-- fewer ids keep their values too
pub keeps-right : (old new : List Slot) (xs ys : List ℕ) → KeepsValues old new (xs ++ ys) → KeepsValues old new ys
keeps-right old new xs ys keeps = record { values = λ id is. keeps.values id (in-right id xs ys is); types = λ id is. keeps.types id (in-right id xs ys is) }

pub releases-more : (old mid new : List Slot) (p : SharedPart) (rest : List SharedPart) → ChangesTo old mid p.id (held_once_less (slot_at old p.id)) → Releases mid new rest
    → Releases old new (p ∷ rest)
releases-more old mid new p rest changes after others backs =
    let then = after others (backs-released old mid (ids_of rest ++ others) p.id backs changes) in
    record {
      backs = then.backs;
      keeps = keeps-both old mid new others (keeps-right old mid (ids_of rest) others (keeps-released old mid (ids_of rest ++ others) p.id backs changes)) then.keeps;
    }

module _ (old mid new : List Slot) (before after : List SharedPart) (p : SharedPart) (values : List Value) (answer : IsIdFor old p.ty.0 values p.id)
    (changes : ChangesTo old mid p.id (held_once_more old p.id p.ty.0 values)) where
  pub backs-pushed : (others : List ℕ) → Backs old (ids_of before ++ others) → Backs mid (ids_of (before ++ p ∷ []) ++ others)
  backs-pushed others backs =
      backs-count mid (p.id ∷ (ids_of before ++ others)) (ids_of (before ++ p ∷ []) ++ others) same
      (backs-held old mid (ids_of before ++ others) p.id p.ty.0 values backs changes)
    where
      same : (id : ℕ) → times id (ids_of (before ++ p ∷ []) ++ others) ≡ times id (p.id ∷ (ids_of before ++ others))
      same id =
          let split : times id (ids_of (before ++ p ∷ []) ++ others) ≡ times id (ids_of before) + times id (p.id ∷ []) + times id others =
          times-append id (ids_of (before ++ p ∷ [])) others
          ∙ ap (λ n. n + times id others) (ap (times id) (ids-append before (p ∷ [])) ∙ times-append id (ids_of before) (p.id ∷ [])) in
          omega (arith, split, times-append id (ids_of before) others)

  pub holds-more : ((others : List ℕ) → Backs mid (ids_of (before ++ p ∷ []) ++ others) → Holds mid new (before ++ p ∷ []) after others)
      → (others : List ℕ) → Backs old (ids_of before ++ others) → Holds old new before after others
  holds-more rest others backs =
      let then = rest others (backs-pushed others backs) in
      let apart : ids_of (before ++ p ∷ []) ++ others ≡ ids_of before ++ (p.id ∷ others) = ap (λ ids. ids ++ others) (ids-append before (p ∷ [])) ∙ append_assoc (ids_of before) (p.id ∷ []) others in
      record {
        backs = then.backs;
        keeps = record {
          values = λ id is.
              then.keeps.values id (subst (In id) (sym apart) (widened id (ids_of before) others is))
              ∙ (keeps-held old mid (ids_of before ++ others) p.id p.ty.0 values backs answer changes).values id is;
          types = λ id is.
              then.keeps.types id (subst (In id) (sym apart) (widened id (ids_of before) others is))
              ∙ (keeps-held old mid (ids_of before ++ others) p.id p.ty.0 values backs answer changes).types id is;
        };
      }
    where
      widened : (id : ℕ) (xs others : List ℕ) → In id (xs ++ others) → In id (xs ++ (p.id ∷ others))
      widened id [] others is = inr is
      widened id (x ∷ xs) others (inl e) = inl e
      widened id (x ∷ xs) others (inr is) = inr (widened id xs others is)

  pub parts-more : (part : PartOf Value) (rest : List (PartOf Value)) → part ≡ record { type_id = p.ty.0; values = values }
      → ((others : List ℕ) → Backs mid (ids_of (before ++ p ∷ []) ++ others) → parts_of new after ≡ parts_of mid (before ++ p ∷ []) ++ rest)
      → (others : List ℕ) → Backs old (ids_of before ++ others) → parts_of new after ≡ parts_of old before ++ part ∷ rest
  parts-more part rest is then others backs =
      let kept : parts_of mid before ≡ parts_of old before = parts-kept old mid before [] others (keeps-held old mid (ids_of before ++ others) p.id p.ty.0 values backs answer changes) in
      let this : part_of mid p ≡ part = ap (λ v. record { type_id = p.ty.0; values = v }) (values-held old mid p.id p.ty.0 values changes) ∙ sym is in
      then others (backs-pushed others backs)
      ∙ ap (λ parts. parts ++ rest) (parts-append mid before (p ∷ []) ∙ ap (λ parts. parts ++ part_of mid p ∷ []) kept ∙ ap (λ x. parts_of old before ++ x ∷ []) this)
      ∙ append_assoc (parts_of old before) (part ∷ []) rest

-- nothing is held too seldom
pub backs-none : (table : List Slot) → Backs table []
backs-none table = record { holds = λ id. omega arith }

-- what is held is let go again
pub holds-undone : (old mid new : List Slot) (held : List SharedPart) → ((others : List ℕ) → Backs old ([] ++ others) → Holds old mid [] held others) → Releases mid new held
    → (others : List ℕ) → Backs old others → Holds old new [] [] others
holds-undone old mid new held first second others backs =
    let then = second others (first others backs).backs in
    record { backs = then.backs; keeps = keeps-both old mid new others (first others backs).keeps then.keeps }

pub parts-kept-by : (old new : List Slot) (ps : List SharedPart) → ((id : ℕ) → In id (ids_of ps) → values_of new id ≡ values_of old id) → parts_of new ps ≡ parts_of old ps
parts-kept-by old new [] keeps = refl
parts-kept-by old new (p ∷ ps) keeps =
    ap (λ part. part ∷ parts_of new ps) (ap (λ values. record { type_id = p.ty.0; values = values }) (keeps p.id (inl refl)))
    ∙ ap (λ parts. part_of old p ∷ parts) (parts-kept-by old new ps (λ id is. keeps id (inr is)))

-- ---- types of ids

pub typed-kept : (old new : List Slot) (ps : List SharedPart) → ((id : ℕ) → In id (ids_of ps) → type_of new id ≡ type_of old id) → AreTyped old ps → AreTyped new ps
typed-kept old new [] keeps typed = tt
typed-kept old new (p ∷ ps) keeps typed = (keeps p.id (inl refl) ∙ typed.0, typed-kept old new ps (λ id is. keeps id (inr is)) typed.1)

pub typed-push : (table : List Slot) (ps : List SharedPart) (p : SharedPart) → AreTyped table ps → type_of table p.id ≡ p.ty.0 → AreTyped table (ps ++ p ∷ [])
typed-push table [] p typed is = (is, tt)
typed-push table (q ∷ qs) p typed is = (typed.0, typed-push table qs p typed.1 is)

-- the parts are typed once an id was given for one more
pub typed-given : (old mid : List Slot) (before : List SharedPart) (p : SharedPart) (values : List Value) → IsIdFor old p.ty.0 values p.id → ChangesTo old mid p.id (held_once_more old p.id p.ty.0 values)
    → Backs old (ids_of before) → AreTyped old before → AreTyped mid (before ++ p ∷ [])
typed-given old mid before p values answer changes backs typed =
    typed-push mid before p (typed-kept old mid before (λ id is. (keeps-held old mid (ids_of before) p.id p.ty.0 values backs answer changes).types id is) typed)
    (ap (λ (s : Slot). s.key.ty.0) changes.there)
