-- The homes of blocks after one block changed, and after a home more.
use Rattle.std.proofs.Common.{◌≡◌, ◌≢◌, ◌⊎◌, ℕ, zero, suc, ◌+◌, ◌<◌, ◌≤◌, inl, inr, false, not, cond, ◌&&◌, List, [], ◌∷◌, ◌++◌, length, get_or, set, Option, Some, None, refl, sym, ap, ◌∙◌, subst, arith}
use Rattle.std.specs.Prelude.{count_by}
use Rattle.std.proofs.lemmas.Bool.{cases_eq, cases_Bool, cases_lt, cond-true, cond-false, ne_eqb}
use Rattle.std.proofs.lemmas.List.{get_or-map, get_or-set_same, get_or-set_other, length-map, length-set, length-append, get_or_append_left, map-set}
use Rattle.std.proofs.lemmas.List.Sums.{sum_by-append}
use Rattle.std.proofs.Math.Seq.{get_or-append_seam}
use Rattle.world_model.specs.Members.{IsRising}
use Rattle.std.specs.Vec.{vec_capacity}
use Rattle.archetype_store.specs.declared.homes.Home.{Home}
use Rattle.archetype_store.specs.declared.homes.HomeKey.{HomeKey}
use Rattle.archetype_store.specs.HomeKeys.{same_home, home_decides}
use Rattle.archetype_store.specs.Homes.{AreHomes, HomeState, IsHomeFor, Lodger, has_rank, home_at, home_state, homes_of, is_crowded, is_roomy, is_roomy_at, key_of, no_home}
use Rattle.archetype_store.specs.Slots.{slot_at}
use Rattle.archetype_store.proofs.Orders.{some_is, none_some}

some_same : {A : Type 0} (found : Option A) (x y : A) → found ≡ Some x → found ≡ Some y → x ≡ y
some_same found x y a b = cc

module _ (homes : List HomeState) (found : HomeKey → Option ℕ) (slots : List (Option Lodger)) (order : List (Option ℕ)) (are : AreHomes homes found slots order) where
  pub home-below : (n : ℕ) (x : Lodger) → slot_at slots n ≡ Some x → x.home < length homes
  home-below n x at = are.known (key_of x) x.home (are.keys n x at)

  -- one slot changed, and one home
  module _ (slots' : List (Option Lodger)) (order' : List (Option ℕ)) (n h r0 : ℕ) (home : HomeState) (o p : Option Lodger) (below : h < length homes)
      (now : slot_at slots' n ≡ p) (others : (m : ℕ) → m ≢ n → slot_at slots' m ≡ slot_at slots m)
      (before : (g : ℕ) → is_roomy_at slots g (slot_at order r0) ≡ is_roomy g o) (after : (g : ℕ) → is_roomy_at slots' g (slot_at order' r0) ≡ is_roomy g p)
      (places : (r : ℕ) → r ≢ r0 → slot_at order' r ≡ slot_at order r) (apart : (r m : ℕ) → r ≢ r0 → slot_at order r ≡ Some m → m ≢ n)
      (old_home : (x : Lodger) → o ≡ Some x → x.home ≡ h) (new_home : (x : Lodger) → p ≡ Some x → (x.home ≡ h) × (found (key_of x) ≡ Some h))
      (here : has_rank r0 home.ranks ≡ is_roomy h p) (stay : (r : ℕ) → r ≢ r0 → has_rank r home.ranks ≡ has_rank r (home_at homes h).ranks) (rising : IsRising home.ranks)
      (counts : (g : ℕ) → count_by (is_crowded g) slots' + cond (is_crowded g o) 1 0 ≡ count_by (is_crowded g) slots + cond (is_crowded g p) 1 0)
      (full : home.full + cond (is_crowded h o) 1 0 ≡ (home_at homes h).full + cond (is_crowded h p) 1 0) (room : length home.ranks + home.full ≤ home.room) where
    other-roomy : (g : ℕ) → g ≢ h → (q : Option Lodger) → ((x : Lodger) → q ≡ Some x → x.home ≡ h) → is_roomy g q ≡ false
    other-roomy g differs None of = refl
    other-roomy g differs (Some x) of = ap (λ b. b && x.roomy) (ne_eqb x.home g (λ e. differs (sym e ∙ of x refl)))

    other-crowded : (g : ℕ) → g ≢ h → (q : Option Lodger) → ((x : Lodger) → q ≡ Some x → x.home ≡ h) → is_crowded g q ≡ false
    other-crowded g differs None of = refl
    other-crowded g differs (Some x) of = ap (λ b. b && not x.roomy) (ne_eqb x.home g (λ e. differs (sym e ∙ of x refl)))

    same-at : (g r : ℕ) → r ≢ r0 → is_roomy_at slots' g (slot_at order' r) ≡ is_roomy_at slots g (slot_at order r)
    same-at g r differs = ap (is_roomy_at slots' g) (places r differs) ∙ by (slot_at order r) refl
      where
        by : (q : Option ℕ) → slot_at order r ≡ q → is_roomy_at slots' g q ≡ is_roomy_at slots g q
        by None at = refl
        by (Some m) at = ap (is_roomy g) (others m (apart r m differs at))

    home-same : home_at (set homes h home) h ≡ home
    home-same = get_or-set_same homes h home no_home below

    home-other : (g : ℕ) → g ≢ h → home_at (set homes h home) g ≡ home_at homes g
    home-other g differs = get_or-set_other homes h g home no_home differs

    ranks-here : (r : ℕ) → has_rank r home.ranks ≡ is_roomy_at slots' h (slot_at order' r)
    ranks-here r =
        elim (cases_eq r r0) [
          | inl same ↦ ap (λ k. has_rank k home.ranks) same ∙ here ∙ sym (after h) ∙ ap (λ k. is_roomy_at slots' h (slot_at order' k)) (sym same)
          | inr differs ↦ stay r differs ∙ are.ranks h below r ∙ sym (same-at h r differs)
        ]

    ranks-other : (g : ℕ) → g ≢ h → g < length homes → (r : ℕ) → has_rank r (home_at homes g).ranks ≡ is_roomy_at slots' g (slot_at order' r)
    ranks-other g apart_h within r =
        are.ranks g within r
        ∙ elim (cases_eq r r0) [
          | inl same ↦
              ap (λ k. is_roomy_at slots g (slot_at order k)) same ∙ before g ∙ other-roomy g apart_h o old_home
              ∙ sym (other-roomy g apart_h p (λ x is. (new_home x is).0)) ∙ sym (after g) ∙ ap (λ k. is_roomy_at slots' g (slot_at order' k)) (sym same)
          | inr differs ↦ sym (same-at g r differs)
        ]

    within_all : (g : ℕ) → g < length (set homes h home) → g < length homes
    within_all g less = omega (arith, less, length-set homes h home)

    keys-all : (m : ℕ) (x : Lodger) → slot_at slots' m ≡ Some x → found (key_of x) ≡ Some x.home
    keys-all m x at =
        elim (cases_eq m n) [
          | inl same ↦
              let this : p ≡ Some x = sym now ∙ ap (slot_at slots') (sym same) ∙ at in
              (new_home x this).1 ∙ ap Some (sym (new_home x this).0)
          | inr differs ↦ are.keys m x (sym (others m differs) ∙ at)
        ]

    ranks-all : (g : ℕ) → g < length (set homes h home) → (r : ℕ) → has_rank r (home_at (set homes h home) g).ranks ≡ is_roomy_at slots' g (slot_at order' r)
    ranks-all g less r =
        elim (cases_eq g h) [
          | inl same ↦
              ap (λ k. has_rank r (home_at (set homes h home) k).ranks) same ∙ ap (λ (s : HomeState). has_rank r s.ranks) home-same ∙ ranks-here r
              ∙ ap (λ k. is_roomy_at slots' k (slot_at order' r)) (sym same)
          | inr differs ↦ ap (λ (s : HomeState). has_rank r s.ranks) (home-other g differs) ∙ ranks-other g differs (within_all g less) r
        ]

    rising-all : (g : ℕ) → g < length (set homes h home) → IsRising (home_at (set homes h home) g).ranks
    rising-all g less =
        elim (cases_eq g h) [
          | inl same ↦ subst (λ k. IsRising (home_at (set homes h home) k).ranks) (sym same) (subst (λ (s : HomeState). IsRising s.ranks) (sym home-same) rising)
          | inr differs ↦ subst (λ (s : HomeState). IsRising s.ranks) (sym (home-other g differs)) (are.rising g (within_all g less))
        ]

    full-all : (g : ℕ) → g < length (set homes h home) → (home_at (set homes h home) g).full ≡ count_by (is_crowded g) slots'
    full-all g less =
        elim (cases_eq g h) [
          | inl same ↦
              ap (λ k. (home_at (set homes h home) k).full) same ∙ ap (λ (s : HomeState). s.full) home-same
              ∙ omega (arith, full, counts h, are.full h below) ∙ ap (λ k. count_by (is_crowded k) slots') (sym same)
          | inr differs ↦
              ap (λ (s : HomeState). s.full) (home-other g differs) ∙ are.full g (within_all g less)
              ∙ omega (
                arith,
                counts g,
                ap {B = ℕ} (λ b. cond b 1 0) (other-crowded g differs o old_home),
                ap {B = ℕ} (λ b. cond b 1 0) (other-crowded g differs p (λ x is. (new_home x is).0)),
              )
        ]

    room-all : (g : ℕ) → g < length (set homes h home) → length (home_at (set homes h home) g).ranks + (home_at (set homes h home) g).full ≤ (home_at (set homes h home) g).room
    room-all g less =
        elim (cases_eq g h) [
          | inl same ↦
              subst (λ k. length (home_at (set homes h home) k).ranks + (home_at (set homes h home) k).full ≤ (home_at (set homes h home) k).room) (sym same)
              (subst (λ (s : HomeState). length s.ranks + s.full ≤ s.room) (sym home-same) room)
          | inr differs ↦ subst (λ (s : HomeState). length s.ranks + s.full ≤ s.room) (sym (home-other g differs)) (are.room g (within_all g less))
        ]

    pub changed : AreHomes (set homes h home) found slots' order'
    changed = record {
      known = λ key g at. omega (arith, are.known key g at, length-set homes h home);
      once = are.once;
      keys = keys-all;
      ranks = ranks-all;
      rising = rising-all;
      full = full-all;
      room = room-all;
    }

  -- the same homes, with more room
  pub roomier : (homes' : List HomeState) → length homes' ≡ length homes → ((g : ℕ) → (home_at homes' g).ranks ≡ (home_at homes g).ranks) → ((g : ℕ) → (home_at homes' g).full ≡ (home_at homes g).full)
      → ((g : ℕ) → (home_at homes g).room ≤ (home_at homes' g).room) → AreHomes homes' found slots order
  roomier homes' same ranks full more = record {
    known = λ key g at. omega (arith, are.known key g at, same);
    once = are.once;
    keys = are.keys;
    ranks = λ g less r. ap (has_rank r) (ranks g) ∙ are.ranks g (omega (arith, less, same)) r;
    rising = λ g less. subst IsRising (sym (ranks g)) (are.rising g (omega (arith, less, same)));
    full = λ g less. full g ∙ are.full g (omega (arith, less, same));
    room = λ g less. omega (arith, are.room g (omega (arith, less, same)), ap length (ranks g), full g, more g);
  }

  -- a home more, without blocks
  module _ (key : HomeKey) (lacks : found key ≡ None) (home : HomeState) (none : home.ranks ≡ []) (empty : home.full ≡ 0) (found' : HomeKey → Option ℕ)
      (finds : (k : HomeKey) → found' k ≡ cond (same_home key k) (Some (length homes)) (found k)) where
    longer : length (homes ++ home ∷ []) ≡ length homes + 1
    longer = length-append homes (home ∷ [])

    left : (g : ℕ) → g < length homes → home_at (homes ++ home ∷ []) g ≡ home_at homes g
    left g less = get_or_append_left homes (home ∷ []) no_home g less

    last : (g : ℕ) → length homes ≤ g → g < length (homes ++ home ∷ []) → home_at (homes ++ home ∷ []) g ≡ home
    last g past less = ap (home_at (homes ++ home ∷ [])) (omega (arith, past, less, longer)) ∙ get_or-append_seam homes home [] no_home

    -- what a key finds
    finds-some : (k : HomeKey) (g : ℕ) → found' k ≡ Some g → ((key ≡ k) × (g ≡ length homes)) ⊎ (found k ≡ Some g)
    finds-some k g at =
        elim (cases_Bool (same_home key k)) [
          | inl same ↦ inl ((home_decides key k).0 same, sym (some_is (length homes) g (sym (finds k ∙ cond-true (same_home key k) _ _ same) ∙ at)))
          | inr apart ↦ inr (sym (finds k ∙ cond-false (same_home key k) _ _ apart) ∙ at)
        ]

    no-roomy : (g : ℕ) → length homes ≤ g → (q : Option Lodger) → ((x : Lodger) → q ≡ Some x → x.home < length homes) → is_roomy g q ≡ false
    no-roomy g past None of = refl
    no-roomy g past (Some x) of = ap (λ b. b && x.roomy) (ne_eqb x.home g (λ e. omega (arith, of x refl, past, e)))

    no-roomy-at : (g : ℕ) → length homes ≤ g → (q : Option ℕ) → is_roomy_at slots g q ≡ false
    no-roomy-at g past None = refl
    no-roomy-at g past (Some m) = no-roomy g past (slot_at slots m) (λ x at. home-below m x at)

    no-crowded : (g : ℕ) → length homes ≤ g → (ss : List (Option Lodger)) → ((m : ℕ) (x : Lodger) → slot_at ss m ≡ Some x → x.home < length homes) → count_by (is_crowded g) ss ≡ 0
    no-crowded g past [] of = refl
    no-crowded g past (q ∷ ss) of =
        omega (arith, sum_by-append (λ (o : Option Lodger). cond (is_crowded g o) 1 0) (q ∷ []) ss, ap {B = ℕ} (λ b. cond b 1 0) (one q (λ x at. of zero x at)), no-crowded g past ss (λ m x at. of (suc m) x at))
      where
        one : (o : Option Lodger) → ((x : Lodger) → o ≡ Some x → x.home < length homes) → is_crowded g o ≡ false
        one None of = refl
        one (Some x) of = ap (λ b. b && not x.roomy) (ne_eqb x.home g (λ e. omega (arith, of x refl, past, e)))

    pub grown : AreHomes (homes ++ home ∷ []) found' slots order
    grown = record {
      known = λ k g at. by_known k g (finds-some k g at);
      once = λ k l g at_k at_l. by_once k l g (finds-some k g at_k) (finds-some l g at_l);
      keys = λ m x at. by_keys m x at;
      ranks = λ g less r.
          elim (cases_lt g (length homes)) [
            | inl under ↦ ap (λ (s : HomeState). has_rank r s.ranks) (left g under) ∙ are.ranks g under r
            | inr past ↦ ap (λ (s : HomeState). has_rank r s.ranks) (last g past less) ∙ ap (has_rank r) none ∙ sym (no-roomy-at g past (slot_at order r))
          ];
      rising = λ g less.
          elim (cases_lt g (length homes)) [
            | inl under ↦ subst (λ (s : HomeState). IsRising s.ranks) (sym (left g under)) (are.rising g under)
            | inr past ↦ subst (λ (s : HomeState). IsRising s.ranks) (sym (last g past less)) (subst IsRising (sym none) tt)
          ];
      full = λ g less.
          elim (cases_lt g (length homes)) [
            | inl under ↦ ap (λ (s : HomeState). s.full) (left g under) ∙ are.full g under
            | inr past ↦ ap (λ (s : HomeState). s.full) (last g past less) ∙ empty ∙ sym (no-crowded g past slots home-below)
          ];
      room = λ g less.
          elim (cases_lt g (length homes)) [
            | inl under ↦ subst (λ (s : HomeState). length s.ranks + s.full ≤ s.room) (sym (left g under)) (are.room g under)
            | inr past ↦ subst (λ (s : HomeState). length s.ranks + s.full ≤ s.room) (sym (last g past less)) (omega (arith, ap length none, empty))
          ];
    }
      where
        by_known : (k : HomeKey) (g : ℕ) → ((key ≡ k) × (g ≡ length homes)) ⊎ (found k ≡ Some g) → g < length (homes ++ home ∷ [])
        by_known k g (inl new) = omega (arith, new.1, longer)
        by_known k g (inr old) = omega (arith, are.known k g old, longer)

        by_once : (k l : HomeKey) (g : ℕ) → ((key ≡ k) × (g ≡ length homes)) ⊎ (found k ≡ Some g) → ((key ≡ l) × (g ≡ length homes)) ⊎ (found l ≡ Some g) → k ≡ l
        by_once k l g (inl a) (inl b) = sym a.0 ∙ b.0
        by_once k l g (inl a) (inr b) = absurd (omega (arith, a.1, are.known l g b))
        by_once k l g (inr a) (inl b) = absurd (omega (arith, b.1, are.known k g a))
        by_once k l g (inr a) (inr b) = are.once k l g a b

        by_keys : (m : ℕ) (x : Lodger) → slot_at slots m ≡ Some x → found' (key_of x) ≡ Some x.home
        by_keys m x at =
            elim (cases_Bool (same_home key (key_of x))) [
              | inl same ↦ absurd (none_some x.home (sym lacks ∙ ap found ((home_decides key (key_of x)).0 same) ∙ are.keys m x at))
              | inr differs ↦ finds (key_of x) ∙ cond-false (same_home key (key_of x)) _ _ differs ∙ are.keys m x at
            ]

-- a home that took memory
module _ (homes : List Home) (found : HomeKey → Option ℕ) (slots : List (Option Lodger)) (order : List (Option ℕ)) (are : AreHomes (homes_of homes) found slots order) (h : ℕ) (v w : Home) (below : h < length homes)
    (at : v ≡ get_or homes h v) (ranks : w.ranks.items ≡ v.ranks.items) (full : w.full ≡ v.full) (more : vec_capacity v.ranks ≤ vec_capacity w.ranks) where
  pub seen-below : h < length (homes_of homes)
  seen-below = omega (arith, below, length-map homes home_state)

  home-was : home_at (homes_of homes) h ≡ home_state v
  home-was = get_or-map home_state homes h v no_home below ∙ ap home_state (sym at)

  home-now : home_at (homes_of (set homes h w)) h ≡ home_state w
  home-now = ap (λ hs. home_at hs h) (map-set home_state homes h w) ∙ get_or-set_same (homes_of homes) h (home_state w) no_home seen-below

  others-same : (g : ℕ) → g ≢ h → home_at (homes_of (set homes h w)) g ≡ home_at (homes_of homes) g
  others-same g apart = ap (λ hs. home_at hs g) (map-set home_state homes h w) ∙ get_or-set_other (homes_of homes) h g (home_state w) no_home apart

  pub reserved : AreHomes (homes_of (set homes h w)) found slots order
  reserved =
      roomier (homes_of homes) found slots order are (homes_of (set homes h w)) (omega (arith, length-map (set homes h w) home_state, length-set homes h w, length-map homes home_state))
      (λ g.
      elim (cases_eq g h) [
        | inl same ↦
            ap (λ k. (home_at (homes_of (set homes h w)) k).ranks) same ∙ ap (λ (x : HomeState). x.ranks) home-now ∙ ranks ∙ sym (ap (λ (x : HomeState). x.ranks) home-was)
            ∙ ap (λ k. (home_at (homes_of homes) k).ranks) (sym same)
        | inr apart ↦ ap (λ (x : HomeState). x.ranks) (others-same g apart)
      ])
      (λ g.
      elim (cases_eq g h) [
        | inl same ↦
            ap (λ k. (home_at (homes_of (set homes h w)) k).full) same ∙ ap (λ (x : HomeState). x.full) home-now ∙ full ∙ sym (ap (λ (x : HomeState). x.full) home-was)
            ∙ ap (λ k. (home_at (homes_of homes) k).full) (sym same)
        | inr apart ↦ ap (λ (x : HomeState). x.full) (others-same g apart)
      ])
      (λ g.
      elim (cases_eq g h) [
        | inl same ↦
            omega (
              arith,
              more,
              ap (λ k. (home_at (homes_of (set homes h w)) k).room) same,
              ap (λ (x : HomeState). x.room) home-now,
              ap (λ (x : HomeState). x.room) home-was,
              ap (λ k. (home_at (homes_of homes) k).room) same,
            )
        | inr apart ↦ omega (arith, ap (λ (x : HomeState). x.room) (others-same g apart))
      ])

-- and has room for a block
pub home-for : (homes : List Home) (found : HomeKey → Option ℕ) (key : HomeKey) (h : ℕ) (w : Home) → h < length homes → found key ≡ Some h → length w.ranks.items + w.full < vec_capacity w.ranks
    → IsHomeFor (homes_of (set homes h w)) found key h
home-for homes found key h w below is room =
    let now : home_at (homes_of (set homes h w)) h ≡ home_state w =
    ap (λ hs. home_at hs h) (map-set home_state homes h w) ∙ get_or-set_same (homes_of homes) h (home_state w) no_home (omega (arith, below, length-map homes home_state)) in
    record {
      below = omega (arith, below, length-map (set homes h w) home_state, length-set homes h w);
      is = is;
      room = subst (λ (x : HomeState). length x.ranks + x.full < x.room) (sym now) room;
    }
