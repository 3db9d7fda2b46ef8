-- Siblings that wait for their places.
use Rattle.std.proofs.Common.{◌≡◌, ℕ, ◌+◌, ◌-◌, ◌<◌, suc, zero, eqb, ltb, Bool, true, false, not, cond, List, [], ◌∷◌, ◌++◌, Some, None, length, get_or, take, drop, map, ap, ◌∙◌, sym, refl, arith, map-id}
use Rattle.std.specs.List.{All, remove, position, position_or_len, prefix_len, slice_index}
use Rattle.std.specs.Option.{option_map_or}
use Rattle.std.proofs.lemmas.List.{length-map, take-map, drop-map, map-append}
use Rattle.std.proofs.lemmas.List.Edits.{length-remove}
use Rattle.std.proofs.lemmas.List.Elements.{All-append, All-drop, All-take}
use Rattle.std.proofs.lemmas.List.Quantifiers.{position-Some}
use Rattle.std.proofs.lemmas.List.Sums.{sum_by-remove}
use Rattle.std.proofs.lemmas.Simd.{map-map}
use Rattle.system_order.specs.Place.{blockers_of, places, released, waiting_list}
use Rattle.system_order.specs.declared.place.Waiting.{Waiting}

-- functions that agree give one list
map_agree : {X Y : Type 0} (f g : X → Y) → ((x : X) → f x ≡ g x) → (xs : List X) → map f xs ≡ map g xs
map_agree f g same [] = refl
map_agree f g same (x ∷ xs) = ap (λ y. y ∷ map f xs) (same x) ∙ ap (λ ys. g x ∷ ys) (map_agree f g same xs)

prefix_len-map : {X Y : Type 0} (p : Y → Bool) (f : X → Y) (xs : List X) → prefix_len p (map f xs) ≡ prefix_len (λ x. p (f x)) xs
prefix_len-map p f [] = refl
prefix_len-map p f (x ∷ xs) = ap (λ n. cond (p (f x)) (1 + n) 0) (prefix_len-map p f xs)

position-map : {X Y : Type 0} (p : Y → Bool) (f : X → Y) (xs : List X) → position p (map f xs) ≡ position (λ x. p (f x)) xs
position-map p f xs =
    ap (λ n. cond (ltb n (length (map f xs))) (Some n) None) (prefix_len-map (λ y. not (p y)) f xs)
    ∙ ap (λ n. cond (ltb (position_or_len (λ x. p (f x)) xs) n) (Some (position_or_len (λ x. p (f x)) xs)) None) (length-map xs f)

remove-map : {X Y : Type 0} (f : X → Y) (xs : List X) (i : ℕ) → remove (map f xs) i ≡ map f (remove xs i)
remove-map f xs i =
    ap (λ front. front ++ drop (suc i) (map f xs)) (take-map f i xs)
    ∙ ap (λ back. map f (take i xs) ++ back) (drop-map f (suc i) xs)
    ∙ sym (map-append f (take i xs) (drop (suc i) xs))

-- the siblings that wait
abbrev pub siblings_of : List Waiting → List ℕ
siblings_of rest = map (λ (waiting : Waiting). waiting.child) rest

pub siblings_of-waiting_list : (before : ℕ → ℕ → Bool) (siblings : List ℕ) → siblings_of (waiting_list before siblings) ≡ siblings
siblings_of-waiting_list before siblings =
    map-map (λ (waiting : Waiting). waiting.child) (λ sibling. record { child = sibling; blockers = blockers_of before siblings sibling }) siblings
    ∙ map-id siblings

-- one blocker fewer where the placed one was one
one_fewer : (b : Bool) (kept all : ℕ) → kept + cond b 1 0 ≡ all → cond b (all - 1) all ≡ kept
one_fewer true kept all h = omega (arith, h)
one_fewer false kept all h = omega (arith, h)

-- those that wait after the one at a place has got its place
pub released_list : (before : ℕ → ℕ → Bool) (siblings : List ℕ) (at : ℕ) → at < length siblings → map (released before (get_or siblings at 0)) (remove (waiting_list before siblings) at) ≡ waiting_list before (remove siblings at)
released_list before siblings at within =
    let placed = get_or siblings at 0 in
    let waits : ℕ → Waiting = λ sibling. record { child = sibling; blockers = blockers_of before siblings sibling } in
    ap (map (released before placed)) (remove-map waits siblings at)
    ∙ map-map (released before placed) waits (remove siblings at)
    ∙ map_agree (λ sibling. released before placed (waits sibling)) (λ sibling. record { child = sibling; blockers = blockers_of before (remove siblings at) sibling })
    (λ sibling. ap (λ (n : ℕ). let w : Waiting = record { child = sibling; blockers = n } in w)
    (one_fewer (before placed sibling) (blockers_of before (remove siblings at) sibling) (blockers_of before siblings sibling)
    (sum_by-remove (λ other. cond (before other sibling) 1 0) siblings at 0 within)))
    (remove siblings at)

-- the first that is free
pub first_free_is : (before : ℕ → ℕ → Bool) (siblings : List ℕ) → position (λ (waiting : Waiting). eqb waiting.blockers 0) (waiting_list before siblings) ≡ position (λ sibling. eqb (blockers_of before siblings sibling) 0) siblings
first_free_is before siblings =
    position-map (λ (waiting : Waiting). eqb waiting.blockers 0) (λ sibling. record { child = sibling; blockers = blockers_of before siblings sibling }) siblings

-- if no child is free there are no more places
pub places_none : (before : ℕ → ℕ → Bool) (room : ℕ) (siblings : List ℕ) → position (λ sibling. eqb (blockers_of before siblings sibling) 0) siblings ≡ None → places before room siblings ≡ []
unfolding places
places_none before zero siblings none = refl
places_none before (suc room) siblings none =
    ap (λ free. option_map_or (λ at. slice_index siblings at ∷ places before room (remove siblings at)) free []) none

-- where one is free it has the next place
pub places_some : (before : ℕ → ℕ → Bool) (room : ℕ) (siblings : List ℕ) (at : ℕ) → position (λ sibling. eqb (blockers_of before siblings sibling) 0) siblings ≡ Some at → places before (suc room) siblings ≡ get_or siblings at 0 ∷ places before room (remove siblings at)
unfolding places
places_some before room siblings at some =
    ap (λ free. option_map_or (λ at. slice_index siblings at ∷ places before room (remove siblings at)) free []) some

pub places_step : (before : ℕ → ℕ → Bool) (siblings : List ℕ) (at : ℕ) → at < length siblings → position (λ sibling. eqb (blockers_of before siblings sibling) 0) siblings ≡ Some at → places before (length siblings) siblings ≡ get_or siblings at 0 ∷ places before (length (remove siblings at)) (remove siblings at)
places_step before siblings at within free =
    let long : length siblings ≡ suc (length (remove siblings at)) = omega (arith, length-remove siblings at within) in
    ap (λ room. places before room siblings) long ∙ places_some before (length (remove siblings at)) siblings at free

-- the one that waits at a place has got its place, and the others wait after it
pub record IsPlaced (before : ℕ → ℕ → Bool) (rest after : List Waiting) (at child : ℕ) : Type 0 where
  pub left : siblings_of after ≡ remove (siblings_of rest) at
  pub counted : after ≡ waiting_list before (siblings_of after)
  pub next : places before (length (siblings_of rest)) (siblings_of rest) ≡ child ∷ places before (length (siblings_of after)) (siblings_of after)

pub is_placed : (before : ℕ → ℕ → Bool) (rest after : List Waiting) (at child : ℕ) → rest ≡ waiting_list before (siblings_of rest) → Some at ≡ position (λ (waiting : Waiting). eqb waiting.blockers 0) rest → child ≡ get_or (siblings_of rest) at 0 → after ≡ map (released before child) (remove rest at) → IsPlaced before rest after at child
is_placed before rest after at child counted some is_child is_after =
    let siblings = siblings_of rest in
    let free = sym (first_free_is before siblings) ∙ ap (position (λ (waiting : Waiting). eqb waiting.blockers 0)) (sym counted) ∙ sym some in
    let within = (position-Some (λ sibling. eqb (blockers_of before siblings sibling) 0) siblings at 0 free).0 in
    let listed = is_after
    ∙ ap (λ (c : ℕ). map (released before c) (remove rest at)) is_child
    ∙ ap (λ (r : List Waiting). map (released before (get_or siblings at 0)) (remove r at)) counted
    ∙ released_list before siblings at within in
    let left = ap siblings_of listed ∙ siblings_of-waiting_list before (remove siblings at) in
    record {
      left = left;
      counted = listed ∙ ap (waiting_list before) (sym left);
      next = places_step before siblings at within free
          ∙ ap (λ (c : ℕ). c ∷ places before (length (remove siblings at)) (remove siblings at)) (sym is_child)
          ∙ ap (λ (ys : List ℕ). child ∷ places before (length ys) ys) (sym left);
    }

-- if no child is free there are no more places
pub none_free : (before : ℕ → ℕ → Bool) (rest : List Waiting) → rest ≡ waiting_list before (siblings_of rest) → None ≡ position (λ (waiting : Waiting). eqb waiting.blockers 0) rest → places before (length (siblings_of rest)) (siblings_of rest) ≡ []
none_free before rest counted none =
    places_none before (length (siblings_of rest)) (siblings_of rest)
    (sym (first_free_is before (siblings_of rest)) ∙ ap (position (λ (waiting : Waiting). eqb waiting.blockers 0)) (sym counted) ∙ sym none)

-- what holds of each holds of each but one
pub All-remove : {X : Type 0} (P : X → Type 0) (xs : List X) (i : ℕ) → All P xs → All P (remove xs i)
All-remove P xs i each = All-append P (take i xs) (drop (suc i) xs) (All-take P i xs each) (All-drop P (suc i) xs each)
