-- The homes of a store after a row came or left, and after a block came or went.
use Rattle.std.proofs.Common.{◌≡◌, ◌≢◌, ℕ, ◌+◌, ◌<◌, ◌≤◌, inl, inr, Bool, true, false, not, cond, ◌&&◌, ◌||◌, nat_eq, nat_lt, List, [], ◌∷◌, ◌++◌, length, get_or, set, Option, Some, None, refl, sym, ap, ◌∙◌, subst, arith}
use Rattle.std.specs.Prelude.{option_map}
use Rattle.std.specs.List.{sum_by}
use Rattle.std.specs.Vec.{vec_capacity}
use Rattle.std.specs.HashMap.{get}
use Rattle.std.proofs.lemmas.Bool.{cases_lt, eq-eqb, false≢true, lt-ltb, le-ltb, ne_eqb}
use Rattle.std.proofs.lemmas.List.{get_or-map, get_or-set_same, get_or-set_other, get_or_past, get_or_append_left, length-map, length-append, map-set, map-append}
use Rattle.std.proofs.lemmas.List.Sums.{sum_by-append, sum_by-set, count_by-le-length}
use Rattle.std.proofs.Math.Seq.{get_or-append_seam}
use Rattle.world_model.specs.Members.{In, IsRising}
use Rattle.chunk_block.specs.Blocks.{BlockState}
use Rattle.archetype_store.specs.declared.numbers.TheConstants.{MOST_NUMBERS}
use Rattle.archetype_store.specs.declared.homes.Home.{Home}
use Rattle.archetype_store.specs.declared.homes.HomeKey.{HomeKey}
use Rattle.archetype_store.specs.declared.slots.Held.{Held}
use Rattle.archetype_store.specs.declared.store.ArchetypeStore.TheInside.{Inside}
use Rattle.archetype_store.specs.HomeKeys.{same_home}
use Rattle.archetype_store.specs.Homes.{AreFew, AreHomes, HomeState, IsHomeFor, Lodger, LosesRank, NotesRoom, TakesRank, has_rank, home_at, home_state, homes_of, is_crowded, is_roomy, is_roomy_at, key_of, lodger, lodgers, no_home}
use Rattle.archetype_store.specs.Slots.{slot_at, put_slot}
use Rattle.archetype_store.specs.Inside.{beside, IsConsistent}
use Rattle.archetype_store.proofs.Orders.{below_of, none_some, put-other, put-same, some_is}
use Rattle.archetype_store.proofs.Views.{slot-kept, slot-lodged}
use Rattle.archetype_store.proofs.Ranks.{told-all}
use Rattle.archetype_store.proofs.RankLists.{in-has, takes-last}
use Rattle.archetype_store.proofs.Lodged.{changed, home-below}

-- no home has too many blocks
pub few-homes : (s : Inside) → IsConsistent s → AreFew (homes_of s.homes.items)
few-homes s consistent h =
    elim (cases_lt h (length (homes_of s.homes.items))) [
      | inl below ↦
          omega (
            arith,
            consistent.1.1.0.full h below,
            count_by-le-length (is_crowded h) (lodgers s.slots.items),
            length-map s.slots.items (option_map lodger),
            length-map s.slots.items (option_map beside),
            consistent.0.few,
          )
      | inr past ↦ omega (arith, ap (λ (x : HomeState). x.full) (get_or_past (homes_of s.homes.items) h no_home past))
    ]

-- 1 at true, and 1 at false
abbrev one : Bool → ℕ
one b = cond b 1 0

abbrev none : Bool → ℕ
none b = cond b 0 1

flip : (b : Bool) → one (not b) ≡ none b
flip true = refl
flip false = refl

module _ (s : Inside) (consistent : IsConsistent s) (n : ℕ) (h : Held) (there : slot_at s.slots.items n ≡ Some h) where
  there-lodged : slot_at (lodgers s.slots.items) n ≡ Some (lodger h)
  there-lodged = slot-lodged s.slots.items n ∙ ap (option_map lodger) there

  below : n < length s.slots.items
  below = below_of s.slots.items n h there

  below-lodged : n < length (lodgers s.slots.items)
  below-lodged = omega (arith, below, length-map s.slots.items (option_map lodger))

  placed : slot_at s.order.items h.rank ≡ Some n
  placed = consistent.0.placed n (beside h) (slot-kept s.slots.items n ∙ ap (option_map beside) there)

  pub home-there : h.home < length s.homes.items
  home-there =
      omega (arith, home-below (homes_of s.homes.items) (get same_home s.found) (lodgers s.slots.items) s.order.items consistent.1.1.0 n (lodger h) there-lodged, length-map s.homes.items home_state)

  home-seen : h.home < length (homes_of s.homes.items)
  home-seen = home-below (homes_of s.homes.items) (get same_home s.found) (lodgers s.slots.items) s.order.items consistent.1.1.0 n (lodger h) there-lodged

  roomy-is : (g : ℕ) → is_roomy_at (lodgers s.slots.items) g (slot_at s.order.items h.rank) ≡ is_roomy g (Some (lodger h))
  roomy-is g = ap (is_roomy_at (lodgers s.slots.items) g) placed ∙ ap (is_roomy g) there-lodged

  -- another place has another number
  elsewhere : (r m : ℕ) → r ≢ h.rank → slot_at s.order.items r ≡ Some m → m ≢ n
  elsewhere r m differs at same =
      let t = told-all s.slots.items s.order.items consistent.0.ordered r m at in
      differs (omega (arith, t.1.1, ap (λ (x : Held). x.rank) (some_is h t.0 (sym there ∙ ap (slot_at s.slots.items) (sym same) ∙ t.1.0))))

  same-home-as : (y : Lodger) → Some (lodger h) ≡ Some y → y.home ≡ h.home
  same-home-as y is = ap (λ (x : Lodger). x.home) (sym (some_is (lodger h) y is))

  crowded-here : one (is_crowded h.home (Some (lodger h))) ≡ none (nat_lt (length h.block.rows) h.block.capacity)
  crowded-here =
      ap (λ b. one (b && not (nat_lt (length h.block.rows) h.block.capacity))) (eq-eqb h.home h.home refl) ∙ flip (nat_lt (length h.block.rows) h.block.capacity)

  module _ (v : Home) (at : v ≡ get_or s.homes.items h.home v) where
    home-is : home_at (homes_of s.homes.items) h.home ≡ home_state v
    home-is = get_or-map home_state s.homes.items h.home v no_home home-there ∙ ap home_state (sym at)

    pub home-rises : IsRising v.ranks.items
    home-rises = subst (λ (x : HomeState). IsRising x.ranks) home-is (consistent.1.1.0.rising h.home home-seen)

    pub home-has : has_rank h.rank v.ranks.items ≡ nat_lt (length h.block.rows) h.block.capacity
    home-has =
        sym (ap (λ (x : HomeState). has_rank h.rank x.ranks) home-is) ∙ consistent.1.1.0.ranks h.home home-seen h.rank ∙ roomy-is h.home
        ∙ ap (λ b. b && nat_lt (length h.block.rows) h.block.capacity) (eq-eqb h.home h.home refl)

    pub home-fits : length v.ranks.items + v.full ≤ vec_capacity v.ranks
    home-fits = subst (λ (x : HomeState). length x.ranks + x.full ≤ x.room) home-is (consistent.1.1.0.room h.home home-seen)

    pub home-full : nat_lt (length h.block.rows) h.block.capacity ≡ false → 0 < v.full
    home-full full =
        omega (
          arith,
          ap (λ (x : HomeState). x.full) home-is,
          consistent.1.1.0.full h.home home-seen,
          sum_by-set (λ (o : Option Lodger). cond (is_crowded h.home o) 1 0) (lodgers s.slots.items) n None None below-lodged,
          ap (λ (o : Option Lodger). one (is_crowded h.home o)) there-lodged,
          crowded-here,
          ap none full,
        )

    pub home-few : v.full ≤ MOST_NUMBERS
    home-few = omega (arith, ap (λ (x : HomeState). x.full) home-is, few-homes s consistent h.home)

    -- the block has room now or has none
    module _ (block : BlockState) (w : Home) (was is : Bool) (was_is : was ≡ nat_lt (length h.block.rows) h.block.capacity) (is_is : is ≡ nat_lt (length block.rows) block.capacity)
        (notes : NotesRoom (home_state v) (home_state w) h.rank was is) where
      abbrev after : Held
      after = record h { block = block }

      abbrev slots : List (Option Held)
      slots = set s.slots.items n (Some after)

      lodged : lodgers slots ≡ set (lodgers s.slots.items) n (Some (lodger after))
      lodged = map-set (option_map lodger) s.slots.items n (Some after)

      there-after : slot_at (set (lodgers s.slots.items) n (Some (lodger after))) n ≡ Some (lodger after)
      there-after = get_or-set_same (lodgers s.slots.items) n (Some (lodger after)) None below-lodged

      crowded-after : one (is_crowded h.home (Some (lodger after))) ≡ none (nat_lt (length block.rows) block.capacity)
      crowded-after = ap (λ b. one (b && not (nat_lt (length block.rows) block.capacity))) (eq-eqb h.home h.home refl) ∙ flip (nat_lt (length block.rows) block.capacity)

      pub homes-noted : AreHomes (homes_of (set s.homes.items h.home w)) (get same_home s.found) (lodgers slots) s.order.items
      homes-noted =
          subst (λ hs. AreHomes hs (get same_home s.found) (lodgers slots) s.order.items) (sym (map-set home_state s.homes.items h.home w))
          (subst (λ ls. AreHomes (set (homes_of s.homes.items) h.home (home_state w)) (get same_home s.found) ls s.order.items) (sym lodged)
          (changed (homes_of s.homes.items) (get same_home s.found) (lodgers s.slots.items) s.order.items consistent.1.1.0 (set (lodgers s.slots.items) n (Some (lodger after))) s.order.items n h.home h.rank (home_state w)
          (Some (lodger h)) (Some (lodger after)) home-seen there-after (λ m differs. get_or-set_other (lodgers s.slots.items) n m (Some (lodger after)) None differs) roomy-is
          (λ g. ap (is_roomy_at (set (lodgers s.slots.items) n (Some (lodger after))) g) placed ∙ ap (is_roomy g) there-after) (λ r differs. refl) elsewhere same-home-as
          (λ y same. (
            ap (λ (x : Lodger). x.home) (sym (some_is (lodger after) y same)),
            subst (λ (x : Lodger). get same_home s.found (key_of x) ≡ Some h.home) (some_is (lodger after) y same) (consistent.1.1.0.keys n (lodger h) there-lodged),
          ))
          (notes.here ∙ is_is ∙ sym (ap (λ b. b && nat_lt (length block.rows) block.capacity) (eq-eqb h.home h.home refl)))
          (λ r differs. notes.stay r differs ∙ sym (ap (λ (x : HomeState). has_rank r x.ranks) home-is)) notes.rising
          (λ g.
          omega (
            arith,
            sum_by-set (λ (o : Option Lodger). cond (is_crowded g o) 1 0) (lodgers s.slots.items) n (Some (lodger after)) None below-lodged,
            ap (λ (o : Option Lodger). one (is_crowded g o)) there-lodged,
          ))
          (omega (arith, notes.full, crowded-here, crowded-after, ap none was_is, ap none is_is, ap (λ (x : HomeState). x.full) home-is)) notes.room))

    -- the block goes, which had room
    module _ (roomy : nat_lt (length h.block.rows) h.block.capacity ≡ true) (w : Home) (full : w.full ≡ v.full) (loses : LosesRank v.ranks.items w.ranks.items h.rank) (room : vec_capacity w.ranks ≡ vec_capacity v.ranks) where
      gone-lodged : lodgers (set s.slots.items n None) ≡ set (lodgers s.slots.items) n None
      gone-lodged = map-set (option_map lodger) s.slots.items n None

      gone-there : slot_at (set (lodgers s.slots.items) n None) n ≡ None
      gone-there = get_or-set_same (lodgers s.slots.items) n None None below-lodged

      gone-placed : slot_at (set s.order.items h.rank None) h.rank ≡ None
      gone-placed = get_or-set_same s.order.items h.rank None None (below_of s.order.items h.rank n placed)

      others-has : (r : ℕ) → r ≢ h.rank → has_rank r w.ranks.items ≡ has_rank r v.ranks.items
      others-has r differs = loses.has r ∙ ap (λ b. not b && has_rank r v.ranks.items) (apart-eq r differs)
        where
          apart-eq : (k : ℕ) → k ≢ h.rank → nat_eq k h.rank ≡ false
          apart-eq k d = ne_eqb k h.rank d

      pub homes-gone : AreHomes (homes_of (set s.homes.items h.home w)) (get same_home s.found) (lodgers (set s.slots.items n None)) (set s.order.items h.rank None)
      homes-gone =
          subst (λ hs. AreHomes hs (get same_home s.found) (lodgers (set s.slots.items n None)) (set s.order.items h.rank None)) (sym (map-set home_state s.homes.items h.home w))
          (subst (λ ls. AreHomes (set (homes_of s.homes.items) h.home (home_state w)) (get same_home s.found) ls (set s.order.items h.rank None)) (sym gone-lodged)
          (changed (homes_of s.homes.items) (get same_home s.found) (lodgers s.slots.items) s.order.items consistent.1.1.0 (set (lodgers s.slots.items) n None) (set s.order.items h.rank None) n h.home h.rank (home_state w)
          (Some (lodger h)) None home-seen gone-there (λ m differs. get_or-set_other (lodgers s.slots.items) n m None None differs) roomy-is
          (λ g. ap (is_roomy_at (set (lodgers s.slots.items) n None) g) gone-placed) (λ r differs. get_or-set_other s.order.items h.rank r None None differs) elsewhere same-home-as
          (λ y same. absurd (none_some y same))
          (loses.has h.rank ∙ ap (λ b. not b && has_rank h.rank v.ranks.items) (eq-eqb h.rank h.rank refl))
          (λ r differs. others-has r differs ∙ sym (ap (λ (x : HomeState). has_rank r x.ranks) home-is)) loses.rising
          (λ g.
          omega (
            arith,
            sum_by-set (λ (o : Option Lodger). cond (is_crowded g o) 1 0) (lodgers s.slots.items) n None None below-lodged,
            ap (λ (o : Option Lodger). one (is_crowded g o)) there-lodged,
          ))
          (omega (arith, full, crowded-here, ap none roomy, ap (λ (x : HomeState). x.full) home-is)) (omega (arith, full, loses.count, room, home-fits))))

-- a block more, which has room
module _ (s : Inside) (consistent : IsConsistent s) (n : ℕ) (h : Held) (vacant : slot_at s.slots.items n ≡ None) (within : n ≤ length s.slots.items) (last : h.rank ≡ length s.order.items) (homes : List Home)
    (found : HomeKey → Option ℕ) (are : AreHomes (homes_of homes) found (lodgers s.slots.items) s.order.items) (for : IsHomeFor (homes_of homes) found (key_of (lodger h)) h.home) (roomy : nat_lt (length h.block.rows) h.block.capacity ≡ true)
    (v : Home) (at : v ≡ get_or homes h.home v) (w : Home) (full : w.full ≡ v.full) (more : w.ranks.items ≡ v.ranks.items ++ h.rank ∷ []) (room : vec_capacity w.ranks ≡ vec_capacity v.ranks) where
  new-home-is : home_at (homes_of homes) h.home ≡ home_state v
  new-home-is = get_or-map home_state homes h.home v no_home (omega (arith, for.below, length-map homes home_state)) ∙ ap home_state (sym at)

  new-lodged : lodgers (put_slot s.slots.items n h) ≡ put_slot (lodgers s.slots.items) n (lodger h)
  new-lodged =
      elim (cases_lt n (length s.slots.items)) [
        | inl under ↦
            ap (λ b. lodgers (cond b (set s.slots.items n (Some h)) (s.slots.items ++ Some h ∷ []))) (lt-ltb n (length s.slots.items) under)
            ∙ map-set (option_map lodger) s.slots.items n (Some h)
            ∙ sym (ap (λ b. cond b (set (lodgers s.slots.items) n (Some (lodger h))) (lodgers s.slots.items ++ Some (lodger h) ∷ [])) (lt-ltb n (length (lodgers s.slots.items)) (omega (arith, under, length-map s.slots.items (option_map lodger)))))
        | inr past ↦
            ap (λ b. lodgers (cond b (set s.slots.items n (Some h)) (s.slots.items ++ Some h ∷ []))) (le-ltb n (length s.slots.items) past)
            ∙ map-append (option_map lodger) s.slots.items (Some h ∷ [])
            ∙ sym (ap (λ b. cond b (set (lodgers s.slots.items) n (Some (lodger h))) (lodgers s.slots.items ++ Some (lodger h) ∷ [])) (le-ltb n (length (lodgers s.slots.items)) (omega (arith, past, length-map s.slots.items (option_map lodger)))))
      ]

  within-lodged : n ≤ length (lodgers s.slots.items)
  within-lodged = omega (arith, within, length-map s.slots.items (option_map lodger))

  vacant-lodged : slot_at (lodgers s.slots.items) n ≡ None
  vacant-lodged = slot-lodged s.slots.items n ∙ ap (option_map lodger) vacant

  new-there : slot_at (put_slot (lodgers s.slots.items) n (lodger h)) n ≡ Some (lodger h)
  new-there = put-same (lodgers s.slots.items) n (lodger h) within-lodged

  new-placed : slot_at (s.order.items ++ Some n ∷ []) h.rank ≡ Some n
  new-placed = ap (slot_at (s.order.items ++ Some n ∷ [])) last ∙ get_or-append_seam s.order.items (Some n) [] None

  old-placed : slot_at s.order.items h.rank ≡ None
  old-placed = ap (slot_at s.order.items) last ∙ get_or_past s.order.items (length s.order.items) None (omega arith)

  same-places : (r : ℕ) → r ≢ h.rank → slot_at (s.order.items ++ Some n ∷ []) r ≡ slot_at s.order.items r
  same-places r differs =
      elim (cases_lt r (length s.order.items)) [
        | inl under ↦ get_or_append_left s.order.items (Some n ∷ []) None r under
        | inr past ↦
            get_or_past (s.order.items ++ Some n ∷ []) r None (omega (arith, length-append s.order.items (Some n ∷ []), past, differs, last)) ∙ sym (get_or_past s.order.items r None past)
      ]

  elsewhere-new : (r m : ℕ) → r ≢ h.rank → slot_at s.order.items r ≡ Some m → m ≢ n
  elsewhere-new r m differs at_r same =
      let t = told-all s.slots.items s.order.items consistent.0.ordered r m at_r in
      none_some t.0 (sym vacant ∙ ap (slot_at s.slots.items) (sym same) ∙ t.1.0)

  sum-put : (f : Option Lodger → ℕ) → f None ≡ 0 → sum_by f (put_slot (lodgers s.slots.items) n (lodger h)) ≡ sum_by f (lodgers s.slots.items) + f (Some (lodger h))
  sum-put f zero_at =
      elim (cases_lt n (length (lodgers s.slots.items))) [
        | inl under ↦
            ap (λ b. sum_by f (cond b (set (lodgers s.slots.items) n (Some (lodger h))) (lodgers s.slots.items ++ Some (lodger h) ∷ []))) (lt-ltb n (length (lodgers s.slots.items)) under)
            ∙ omega (arith, sum_by-set f (lodgers s.slots.items) n (Some (lodger h)) None under, ap f vacant-lodged, zero_at)
        | inr past ↦
            ap (λ b. sum_by f (cond b (set (lodgers s.slots.items) n (Some (lodger h))) (lodgers s.slots.items ++ Some (lodger h) ∷ []))) (le-ltb n (length (lodgers s.slots.items)) past)
            ∙ sum_by-append f (lodgers s.slots.items) (Some (lodger h) ∷ []) ∙ omega arith
      ]

  -- the ranks of a home are those of places that are there
  ranks-below : (u : ℕ) → In u v.ranks.items → u < h.rank
  ranks-below u is =
      elim (cases_lt u (length s.order.items)) [
        | inl under ↦ omega (arith, under, last)
        | inr past ↦
            let has : has_rank u v.ranks.items ≡ true = in-has u v.ranks.items is in
            let none : is_roomy_at (lodgers s.slots.items) h.home (slot_at s.order.items u) ≡ false = ap (is_roomy_at (lodgers s.slots.items) h.home) (get_or_past s.order.items u None past) in
            absurd (false≢true (sym none ∙ sym (are.ranks h.home for.below u) ∙ ap (λ (x : HomeState). has_rank u x.ranks) new-home-is ∙ has))
      ]

  takes : TakesRank v.ranks.items w.ranks.items h.rank
  takes =
      subst (λ rs. TakesRank v.ranks.items rs h.rank) (sym more)
      (takes-last v.ranks.items h.rank (subst (λ (x : HomeState). IsRising x.ranks) new-home-is (are.rising h.home for.below)) ranks-below)

  not-crowded : one (is_crowded h.home (Some (lodger h))) ≡ 0
  not-crowded =
      ap (λ b. one (b && not (nat_lt (length h.block.rows) h.block.capacity))) (eq-eqb h.home h.home refl) ∙ ap (λ b. one (not b)) roomy

  pub homes-put : AreHomes (homes_of (set homes h.home w)) found (lodgers (put_slot s.slots.items n h)) (s.order.items ++ Some n ∷ [])
  homes-put =
      subst (λ hs. AreHomes hs found (lodgers (put_slot s.slots.items n h)) (s.order.items ++ Some n ∷ [])) (sym (map-set home_state homes h.home w))
      (subst (λ ls. AreHomes (set (homes_of homes) h.home (home_state w)) found ls (s.order.items ++ Some n ∷ [])) (sym new-lodged)
      (changed (homes_of homes) found (lodgers s.slots.items) s.order.items are (put_slot (lodgers s.slots.items) n (lodger h)) (s.order.items ++ Some n ∷ []) n h.home h.rank (home_state w)
      None (Some (lodger h)) for.below new-there (λ m differs. put-other (lodgers s.slots.items) n m (lodger h) within-lodged differs)
      (λ g. ap (is_roomy_at (lodgers s.slots.items) g) old-placed)
      (λ g. ap (is_roomy_at (put_slot (lodgers s.slots.items) n (lodger h)) g) new-placed ∙ ap (is_roomy g) new-there) same-places elsewhere-new
      (λ y same. absurd (none_some y same))
      (λ y same. (
        ap (λ (x : Lodger). x.home) (sym (some_is (lodger h) y same)),
        subst (λ (x : Lodger). found (key_of x) ≡ Some h.home) (some_is (lodger h) y same) for.is,
      ))
      (takes.has h.rank ∙ ap (λ b. b || has_rank h.rank v.ranks.items) (eq-eqb h.rank h.rank refl)
      ∙ sym (ap (λ b. b && nat_lt (length h.block.rows) h.block.capacity) (eq-eqb h.home h.home refl) ∙ roomy))
      (λ r differs. takes.has r ∙ ap (λ b. b || has_rank r v.ranks.items) (ne_eqb r h.rank differs) ∙ sym (ap (λ (x : HomeState). has_rank r x.ranks) new-home-is)) takes.rising
      (λ g. omega (arith, sum-put (λ (o : Option Lodger). cond (is_crowded g o) 1 0) refl))
      (omega (arith, full, not-crowded, ap (λ (x : HomeState). x.full) new-home-is))
      (omega (arith, full, takes.count, room, for.room, ap (λ (x : HomeState). length x.ranks + x.full) new-home-is, ap (λ (x : HomeState). x.room) new-home-is))))
