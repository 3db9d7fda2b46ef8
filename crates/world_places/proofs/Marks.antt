-- Types marked one after another.
use Rattle.std.proofs.Common.{◌++◌, ◌≡◌, ℕ, ◌<◌, inl, inr, Bool, true, false, ◌||◌, cond, nat_eq, List, [], ◌∷◌, map, fold, refl, sym, ap, ap₂, ◌∙◌, subst, arith}
use Rattle.std.proofs.lemmas.List.Folds.{list_any-append}
use Rattle.std.proofs.lemmas.Bool.{eq-eqb, ne_eqb, eqb-true}
use Rattle.ent_types.specs.TypeSets.{has_type}
use Rattle.world_model.specs.Members.{In, IsRising, AreDistinct}
use Rattle.world_model.specs.World.{Mark, mark_type}
use Rattle.world_model.specs.Enter.{marks_at}
use Rattle.world_model.specs.Write.{marked}
use Rattle.chunk_block.specs.Blocks.{with_mark}

pub rising_distinct : (types : List ℕ) → IsRising types → AreDistinct types
rising_distinct [] rising = tt
rising_distinct (t ∷ ts) rising = (λ i. let below : t < t = rising.0 t i in omega arith, rising_distinct ts rising.1)

-- marks of other types stay
none_marked : (t now : ℕ) (marks : List Mark) → (In t (map mark_type marks) → ⊥) → marked now (t ∷ []) marks ≡ marks
none_marked t now [] none = refl
none_marked t now (m ∷ ms) none =
    ap₂ (λ (b : Bool) (rest : List Mark). cond (b || false) (record m { moment = now }) m ∷ rest) (ne_eqb t m.type_id (λ same. none (inl same)))
    (none_marked t now ms (λ i. none (inr i)))

pub mark_is : (t now : ℕ) (marks : List Mark) → AreDistinct (map mark_type marks) → with_mark t now marks ≡ marked now (t ∷ []) marks
mark_is t now [] distinct = refl
mark_is t now (m ∷ ms) distinct = by (nat_eq m.type_id t) refl (mark_is t now ms distinct.1)
  where
    by : (b : Bool) → nat_eq m.type_id t ≡ b → with_mark t now ms ≡ marked now (t ∷ []) ms
        → cond b (record m { moment = now } ∷ ms) (m ∷ with_mark t now ms) ≡ marked now (t ∷ []) (m ∷ ms)
    by true is rest =
        let same : m.type_id ≡ t = eqb-true m.type_id t is in
        ap (λ (ms : List Mark). record m { moment = now } ∷ ms) (sym (none_marked t now ms (λ i. distinct.0 (subst (λ u. In u (map mark_type ms)) (sym same) i))))
        ∙ ap (λ b. cond (b || false) (record m { moment = now }) m ∷ marked now (t ∷ []) ms) (sym (eq-eqb t m.type_id (sym same)))
    by false is rest =
        ap (λ (ms : List Mark). m ∷ ms) rest
        ∙ ap (λ b. cond (b || false) (record m { moment = now }) m ∷ marked now (t ∷ []) ms)
        (sym (ne_eqb t m.type_id (λ same. let no_way : true ≡ false = sym (eq-eqb m.type_id t (sym same)) ∙ is in absurd (cc))))

-- a mark of another type before
mark_later : (t now : ℕ) (m : Mark) (ms : List Mark) → (m.type_id ≡ t → ⊥) → with_mark t now (m ∷ ms) ≡ m ∷ with_mark t now ms
mark_later t now m ms apart = ap (λ b. cond b (record m { moment = now } ∷ ms) (m ∷ with_mark t now ms)) (ne_eqb m.type_id t apart)

marks_later : (now : ℕ) (ts : List ℕ) (m : Mark) (ms : List Mark) → (In m.type_id ts → ⊥) → fold (λ us t. with_mark t now us) (m ∷ ms) ts ≡ m ∷ fold (λ us t. with_mark t now us) ms ts
marks_later now [] m ms none = refl
marks_later now (t ∷ ts) m ms none =
    ap (λ us. fold (λ vs t. with_mark t now vs) us ts) (mark_later t now m ms (λ same. none (inl same)))
    ∙ marks_later now ts m (with_mark t now ms) (λ i. none (inr i))

-- each type marked, one after another
pub all_marked : (now : ℕ) (types : List ℕ) (marks : List Mark) → AreDistinct types → map mark_type marks ≡ types → fold (λ ms t. with_mark t now ms) marks types ≡ marks_at now types
all_marked now [] [] distinct same = refl
all_marked now [] (m ∷ ms) distinct same = absurd (cc)
all_marked now (t ∷ ts) [] distinct same = absurd (cc)
all_marked now (t ∷ ts) (m ∷ ms) distinct same =
    let head : m.type_id ≡ t = cc in
    let tail : map mark_type ms ≡ ts = cc in
    ap (λ b. fold (λ us u. with_mark u now us) (cond b (record m { moment = now } ∷ ms) (m ∷ with_mark t now ms)) ts) (eq-eqb m.type_id t head)
    ∙ marks_later now ts (record m { moment = now }) ms (λ i. distinct.0 (subst (λ u. In u ts) head i))
    ∙ ap₂ (λ (u : ℕ) (us : List Mark). (let made : Mark = record { type_id = u; moment = now } in made) ∷ us) head (all_marked now ts ms distinct.1 tail)

-- ---- some types marked already

pub types_stay : (now : ℕ) (types : List ℕ) (marks : List Mark) → map mark_type (marked now types marks) ≡ map mark_type marks
types_stay now types [] = refl
types_stay now types (m ∷ ms) = ap₂ (λ (t : ℕ) (ts : List ℕ). t ∷ ts) (by (has_type types m.type_id)) (types_stay now types ms)
  where
    by : (b : Bool) → (cond b (record m { moment = now }) m).type_id ≡ m.type_id
    by true = refl
    by false = refl

marked_twice : (t now : ℕ) (before : List ℕ) (marks : List Mark) → marked now (t ∷ []) (marked now before marks) ≡ marked now (before ++ t ∷ []) marks
marked_twice t now before [] = refl
marked_twice t now before (m ∷ ms) = ap₂ (λ (x : Mark) (xs : List Mark). x ∷ xs) (by (has_type before m.type_id) refl) (marked_twice t now before ms)
  where
    more : has_type (before ++ t ∷ []) m.type_id ≡ (has_type before m.type_id || has_type (t ∷ []) m.type_id)
    more = list_any-append (λ x. nat_eq x m.type_id) before (t ∷ [])

    one : (b : Bool) → cond b (record m { moment = now }) (record m { moment = now }) ≡ record m { moment = now }
    one true = refl
    one false = refl

    by : (b : Bool) → has_type before m.type_id ≡ b
        → cond (has_type (t ∷ []) (cond b (record m { moment = now }) m).type_id) (record (cond b (record m { moment = now }) m) { moment = now }) (cond b (record m { moment = now }) m)
        ≡ cond (has_type (before ++ t ∷ []) m.type_id) (record m { moment = now }) m
    by true is = one (has_type (t ∷ []) m.type_id) ∙ ap (λ b. cond b (record m { moment = now }) m) (sym (more ∙ ap (λ b. b || has_type (t ∷ []) m.type_id) is))
    by false is = ap (λ b. cond b (record m { moment = now }) m) (sym (more ∙ ap (λ b. b || has_type (t ∷ []) m.type_id) is))

-- one more type marked
pub mark_next : (t now : ℕ) (before : List ℕ) (marks : List Mark) → AreDistinct (map mark_type marks) → with_mark t now (marked now before marks) ≡ marked now (before ++ t ∷ []) marks
mark_next t now before marks distinct =
    mark_is t now (marked now before marks) (subst AreDistinct (sym (types_stay now before marks)) distinct) ∙ marked_twice t now before marks

pub none_types : (now : ℕ) (marks : List Mark) → marked now [] marks ≡ marks
none_types now [] = refl
none_types now (m ∷ ms) = ap (λ (xs : List Mark). m ∷ xs) (none_types now ms)

type_there : (t : ℕ) (types : List ℕ) → In t types → has_type types t ≡ true
type_there t [] i = absurd i
type_there t (u ∷ us) (inl same) = ap (λ b. b || has_type us t) (eq-eqb u t (sym same))
type_there t (u ∷ us) (inr i) = ap (λ b. nat_eq u t || b) (type_there t us i) ∙ by (nat_eq u t)
  where
    by : (b : Bool) → (b || true) ≡ true
    by true = refl
    by false = refl

all_there : (now : ℕ) (types : List ℕ) (marks : List Mark) → ((t : ℕ) → In t (map mark_type marks) → In t types) → marked now types marks ≡ marks_at now (map mark_type marks)
all_there now types [] there = refl
all_there now types (m ∷ ms) there =
    ap₂ (λ (b : Bool) (xs : List Mark). cond b (record m { moment = now }) m ∷ xs) (type_there m.type_id types (there m.type_id (inl refl)))
    (all_there now types ms (λ t i. there t (inr i)))

-- where each type of the marks is marked, all are
pub marked_all : (now : ℕ) (types : List ℕ) (marks : List Mark) → map mark_type marks ≡ types → marked now types marks ≡ marks_at now types
marked_all now types marks same = all_there now types marks (λ t i. subst (In t) same i) ∙ ap (marks_at now) same
