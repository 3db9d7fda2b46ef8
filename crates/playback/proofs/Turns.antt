-- The order of turns is the order of entries.
use Rattle.std.proofs.Common.{◌≡◌, ℕ, zero, suc, ℤ, inl, inr, ◌+◌, ◌<◌, Bool, true, false, cond, ◌&&◌, ◌||◌, nat_lt, nat_eq, List, [], ◌∷◌, length, map, get_or, refl, sym, ap, ap₂, ◌∙◌, arith}
use Rattle.std.specs.Prelude.{int_lt}
use Rattle.std.specs.Ordering.{int_eq, is_lt, is_eq, int_cmp, nat_cmp, ordering_then}
use Rattle.std.specs.List.Sorted.{IsSortedBy}
use Rattle.std.specs.declared.cmp.Ordering.{Ordering}
use Rattle.std.specs.declared.cmp.Ordering.TheVariants.{Less, Equal, Greater}
use Rattle.std.proofs.lemmas.Bool.Decides.{nat_tests}
use Rattle.std.proofs.lemmas.List.{get_or-map, length-map}
use Rattle.world_model.specs.Members.{In}
use Rattle.command_record.specs.declared.chain.Entry.{Entry}
use Rattle.command_record.specs.declared.turn.Turn.{Turn}
use Rattle.command_record.specs.Chains.{ChainState}
use Rattle.command_record.specs.Turns.{turn_of}
use Rattle.playback.specs.declared.places.Place.{Place}
use Rattle.playback.specs.Order.{plays_before}
use Rattle.playback.specs.Places.{IsPlaced, entry_in, no_entry}

-- by key, then item, then row, then number
abbrev pub turn_cmp : Turn → Turn → Ordering
turn_cmp a b = ordering_then (int_cmp a.key b.key) (ordering_then (nat_cmp a.item b.item) (ordering_then (nat_cmp a.row b.row) (nat_cmp a.number b.number)))

less_then : (o p : Ordering) → is_lt (ordering_then o p) ≡ (is_lt o || (is_eq o && is_lt p))
less_then Less p = refl
less_then Equal p = refl
less_then Greater p = refl

less_int : (x y : ℤ) → is_lt (int_cmp x y) ≡ int_lt x y
less_int x y = by (int_lt x y) (int_lt y x)
  where
    by : (b c : Bool) → is_lt (cond b Less (cond c Greater Equal)) ≡ b
    by true c = refl
    by false true = refl
    by false false = refl

less_nat : (x y : ℕ) → is_lt (nat_cmp x y) ≡ nat_lt x y
less_nat x y = by (nat_lt x y) (nat_eq x y)
  where
    by : (b c : Bool) → is_lt (cond b Less (cond c Equal Greater)) ≡ b
    by true c = refl
    by false true = refl
    by false false = refl

apart_if_less : (x y : ℕ) → nat_lt x y ≡ true → nat_eq x y ≡ false
apart_if_less x y h = grind (arith, nat_tests)

equal_nat : (x y : ℕ) → is_eq (nat_cmp x y) ≡ nat_eq x y
equal_nat x y = by (nat_lt x y) (nat_eq x y) (apart_if_less x y)
  where
    by : (b c : Bool) → (b ≡ true → c ≡ false) → is_eq (cond b Less (cond c Equal Greater)) ≡ c
    by true c h = sym (h refl)
    by false true h = refl
    by false false h = refl

nat_then : (x y : ℕ) (p : Ordering) (b : Bool) → is_lt p ≡ b → is_lt (ordering_then (nat_cmp x y) p) ≡ (nat_lt x y || (nat_eq x y && b))
nat_then x y p b h =
    less_then (nat_cmp x y) p ∙ (ap₂ (λ s e. s || (e && is_lt p)) (less_nat x y) (equal_nat x y) ∙ ap (λ c. nat_lt x y || (nat_eq x y && c)) h)

less_turn : (x y : Entry) → is_lt (turn_cmp (turn_of x) (turn_of y)) ≡ plays_before x y
less_turn x y =
    let inner = nat_then x.item y.item (ordering_then (nat_cmp x.row y.row) (nat_cmp x.number y.number)) (nat_lt x.row y.row || (nat_eq x.row y.row && nat_lt x.number y.number))
    (nat_then x.row y.row (nat_cmp x.number y.number) (nat_lt x.number y.number) (less_nat x.number y.number)) in
    less_then (int_cmp x.key y.key) (ordering_then (nat_cmp x.item y.item) (ordering_then (nat_cmp x.row y.row) (nat_cmp x.number y.number)))
    ∙ ap₂ (λ s t. s || (int_eq x.key y.key && t)) (less_int x.key y.key) inner

-- ---- lists

pub in_at : {X : Type 0} (xs : List X) (i : ℕ) (d : X) → i < length xs → In (get_or xs i d) xs
in_at [] i d less = absurd (omega arith)
in_at (x ∷ xs) zero d less = inl refl
in_at (x ∷ xs) (suc i) d less = inr (in_at xs i d (omega arith))

-- places in order of their turns are those of entries in playback order
pub placed_sorted : (chains : List ChainState) (ps : List Place) → ((p : Place) → In p ps → IsPlaced chains p)
    → IsSortedBy (λ (p q : Place). is_lt (turn_cmp p.turn q.turn)) ps → IsSortedBy plays_before (map (entry_in chains) ps)
placed_sorted chains ps there sorted = by
  where
    by : IsSortedBy plays_before (map (entry_in chains) ps)
    by k d low less =
        let size : length (map (entry_in chains) ps) ≡ length ps = length-map ps (entry_in chains) in
        let next : k + 1 < length ps = omega arith in
        let here : k < length ps = omega arith in
        let e : Place = record { turn = turn_of no_entry; chain = 0; entry = 0 } in
        let p : Place = get_or ps k e in
        let q : Place = get_or ps (k + 1) e in
        ap₂ plays_before (get_or-map (entry_in chains) ps (k + 1) e d next) (get_or-map (entry_in chains) ps k e d here)
        ∙ (sym (less_turn (entry_in chains q) (entry_in chains p))
        ∙ (ap₂ (λ a b. is_lt (turn_cmp a b)) (sym (there q (in_at ps (k + 1) e next)).turn) (sym (there p (in_at ps k e here)).turn)
        ∙ sorted k e low next))
