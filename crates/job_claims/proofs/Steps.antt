-- Each step keeps the rule.
use Rattle.std.proofs.Common.{◌≡◌, ◌≢◌, ℕ, zero, suc, ◌+◌, ◌-◌, ◌<◌, ◌≤◌, ◌⊎◌, inl, inr, ⊎_elim, Bool, true, false, ◌||◌, cond, List, [], ◌∷◌, ◌++◌, length, map, set, refl, sym, ◌∙◌, ap, arith, subst, min, Option, Some, slice_get, length-append, lit<, lit≤}
use Rattle.std.proofs.lemmas.List.{length-map}
use mathlib.Core.Option.{some, none, some-injective, some-ne-none}
use lib.ListN.{get_elem?}
use Rattle.atomic_table.proofs.Lists.{at_set, set_else, at_snoc}
use Rattle.job_claims.specs.declared.seat.View.{View}
use Rattle.job_claims.specs.Views.{opened, spent, after_split, split_off, with_drawn, with_end, joined}
use Rattle.job_claims.specs.Rule.{times, total, once_below, weight_going, Keeps, IsEachOnce}
use Rattle.job_claims.proofs.Totals.{total-set, total-snoc, total-one, total-alone, times-append, once_below-more, once_below-same}

-- as many weights go on as went on before a split
going-split : (b : Bool) (w : ℕ) → 1 < w → cond b 0 (w - 1) + cond b 0 1 ≡ cond b 0 w
going-split true w h = refl
going-split false w h = omega arith

-- no more weights go on after a join
going-joined : (b c : Bool) (v w : ℕ) → cond (b || c) 0 (v + w) ≤ cond b 0 v + cond c 0 w
going-joined true true v w = omega arith
going-joined true false v w = omega arith
going-joined false true v w = omega arith
going-joined false false v w = omega arith

either_ended : (b c : Bool) {P : Type 0} → (b ≡ true → P) → (c ≡ true → P) → (b || c) ≡ true → P
either_ended true c f g e = f refl
either_ended false c f g e = g e

module _ {T : Type 0} where
  the_one : (x v : View T) (seat : ℕ) → get_elem? (x ∷ []) seat ≡ some v → x ≡ v
  the_one x v zero e = some-injective x v e
  the_one x v (suc seat) e = absurd (some-ne-none v (sym e))

  home_of : (items : List T) (k : ℕ) (p : T) → slice_get items k ≡ Some p → get_elem? (map some (map (λ x. Some x) items)) k ≡ some (some (Some p))
  home_of [] k p e = absurd (cc)
  home_of (x ∷ xs) zero p e = ap (λ o. some (some o)) e
  home_of (x ∷ xs) (suc k) p e = home_of xs k p e

  pub opened_keeps : (items : List T) → Keeps (length (map some (map (λ x. Some x) items))) 0 (map some (map (λ x. Some x) items)) (opened items ∷ [])
  opened_keeps items = record {
    pieces = items;
    count = sym (length-map (map (λ x. Some x) items) (λ o. some o) ∙ length-map items (λ x. Some x));
    agree = λ seat v e. inr (ap (λ w. w.pieces) (sym (the_one (opened items) v seat e)), subst (λ w. 0 < w.weight) (the_one (opened items) v seat e) (lit< tt));
    weights = refl;
    word_is = refl;
    drawn = omega arith;
    once = λ x. grind arith;
    ended = λ seat v e over. let same = ap (λ w. w.ended) (the_one (opened items) v seat e) in absurd (cc);
    few_ends = lit≤ tt;
    home = λ k p h e. home_of items k p e;
  }

  piece_at : (xs : List T) (k : ℕ) → k < length xs → (p : T) × (slice_get xs k ≡ Some p)
  piece_at [] k h = absurd (omega arith)
  piece_at (x ∷ xs) zero h = (x, refl)
  piece_at (x ∷ xs) (suc k) h = piece_at xs k (omega arith)

  -- a view that has a weight agrees with the others about the pieces
  agrees : (n word : ℕ) (homes : List (mathlib.Core.Option.Option (Option T))) (views : List (View T)) (kept : Keeps n word homes views) (seat : ℕ) (v : View T)
      → get_elem? views seat ≡ some v → 0 < v.weight → v.pieces ≡ kept.pieces
  agrees n word homes views kept seat v at weighs = ⊎_elim (λ e. let w = ap (λ u. u.weight) e in absurd (omega arith)) (λ t. t.0) (kept.agree seat v at)

  -- a view that changed neither its pieces nor its weight still agrees, and so does each other view
  agree_after : (n word : ℕ) (homes : List (mathlib.Core.Option.Option (Option T))) (views : List (View T)) (seat : ℕ) (v w : View T) (kept : Keeps n word homes views)
      → get_elem? views seat ≡ some v → 0 < v.weight → w.pieces ≡ v.pieces → w.weight ≡ v.weight → (i : ℕ) (u : View T) → get_elem? (set views seat w) i ≡ some u
      → (u ≡ spent) ⊎ ((u.pieces ≡ kept.pieces) × (0 < u.weight))
  agree_after n word homes views seat v w kept at weighs pieces weight i u e =
      ⊎_elim
      (λ t. inr (ap (λ x. x.pieces) (sym t.1) ∙ (pieces ∙ agrees n word homes views kept seat v at weighs), subst (λ x. 0 < x.weight) t.1 (subst (λ k. 0 < k) (sym weight) weighs)))
      (λ t. kept.agree i u t.1)
      (at_set views seat i w u e)

  -- whose view it is, after one view changed and one came in
  whose : (views : List (View T)) (seat : ℕ) (l r : View T) (i : ℕ) (u : View T) → get_elem? (set views seat l ++ r ∷ []) i ≡ some u → (l ≡ u) ⊎ ((r ≡ u) ⊎ (get_elem? views i ≡ some u))
  whose views seat l r i u e =
      ⊎_elim (λ t. ⊎_elim (λ s. inl s.1) (λ s. inr (inr s.1)) (at_set views seat i l u t)) (λ t. inr (inl t)) (at_snoc (set views seat l) r u i e)

  -- a number of all views stays, where two views share that of one
  total-split : (f : View T → ℕ) (views : List (View T)) (seat : ℕ) (v l r : View T) → get_elem? views seat ≡ some v → f l + f r ≡ f v
      → total f (set views seat l ++ r ∷ []) ≡ total f views
  total-split f views seat v l r at same =
      let t = total-set f views seat v l at in let u = total-snoc f (set views seat l) r in omega arith

  -- what a draw finds where a piece is left
  pub record Found (n word : ℕ) (homes : List (mathlib.Core.Option.Option (Option T))) (views : List (View T)) (seat : ℕ) (v : View T) : Type 0 where
    pub piece : T
    pub is_piece : slice_get v.pieces word ≡ Some piece
    pub is_home : get_elem? homes word ≡ some (some (Some piece))
    pub is_new : times word v.mine ≡ 0
    pub has_room : length v.mine < length v.pieces
    pub keeps : Keeps n (word + 1) (set homes word none) (set views seat (with_drawn v word))

  -- the word is far from its type's end
  pub word_small : (n word : ℕ) (homes : List (mathlib.Core.Option.Option (Option T))) (views : List (View T)) → Keeps n word homes views → word ≤ n + 64
  word_small n word homes views kept =
      let d = kept.drawn in let w = kept.word_is in let few = kept.few_ends in omega arith

  drawn_keeps : (n word : ℕ) (homes : List (mathlib.Core.Option.Option (Option T))) (views : List (View T)) (seat : ℕ) (v : View T) → Keeps n word homes views
      → get_elem? views seat ≡ some v → 0 < v.weight → word < n → Keeps n (word + 1) (set homes word none) (set views seat (with_drawn v word))
  drawn_keeps n word homes views seat v kept at weighs left =
      let w : View T = with_drawn v word in
      let more : length w.mine ≡ length v.mine + 1 = length-append v.mine (word ∷ []) in
      let least : min n word ≡ word = omega arith in
      let least_more : min n (word + 1) ≡ word + 1 = omega arith in
      record {
        pieces = kept.pieces;
        count = kept.count;
        agree = agree_after n word homes views seat v w kept at weighs refl refl;
        weights = (let t = total-set (λ x. x.weight) views seat v w at in let k = kept.weights in omega arith);
        word_is = (let t = total-set (λ x. length x.mine) views seat v w at in let u = total-set (λ x. x.ends) views seat v w at in let k = kept.word_is in omega arith);
        drawn = (let t = total-set (λ x. length x.mine) views seat v w at in let k = kept.drawn in omega arith);
        once = λ x.
            (let t = total-set (λ y. times x y.mine) views seat v w at in
            let a : times x w.mine ≡ times x v.mine + times x (word ∷ []) = times-append x v.mine (word ∷ []) in
            let k : total (λ y. times x y.mine) views ≡ once_below x word = kept.once x ∙ ap (once_below x) least in
            let b : once_below x (min n (word + 1)) ≡ once_below x word + times x (word ∷ []) = ap (once_below x) least_more ∙ once_below-more x word in
            omega arith);
        ended = λ i u e over. ⊎_elim
            (λ t. let k = kept.ended seat v at (ap (λ x. x.ended) t.1 ∙ over) in omega arith)
            (λ t. let k = kept.ended i u t.1 over in omega arith)
            (at_set views seat i w u e);
        few_ends = (let t = total-set weight_going views seat v w at in let u = total-set (λ x. x.ends) views seat v w at in let k = kept.few_ends in omega arith);
        home = λ k p h e. set_else homes word k none (λ same. omega arith) ∙ kept.home k p (omega arith) e;
      }

  pub found : (n word : ℕ) (homes : List (mathlib.Core.Option.Option (Option T))) (views : List (View T)) (seat : ℕ) (v : View T) → Keeps n word homes views
      → get_elem? views seat ≡ some v → 0 < v.weight → word < n → Found n word homes views seat v
  found n word homes views seat v kept at weighs left =
      let same : v.pieces ≡ kept.pieces = agrees n word homes views kept seat v at weighs in
      let count = kept.count in
      let there = piece_at kept.pieces word (omega arith) in
      let least : min n word ≡ word = omega arith in
      record {
        piece = there.0;
        is_piece = ap (λ xs. slice_get xs word) same ∙ there.1;
        is_home = kept.home word there.0 (omega arith) there.1;
        is_new = (let one = total-one (λ y. times word y.mine) views seat v at in
            let k : total (λ y. times word y.mine) views ≡ 0 = kept.once word ∙ ap (once_below word) least ∙ once_below-same word in omega arith);
        has_room = (let one = total-one (λ y. length y.mine) views seat v at in let k = kept.drawn in let l : length v.pieces ≡ length kept.pieces = ap length same in omega arith);
        keeps = drawn_keeps n word homes views seat v kept at weighs left;
      }

  -- a draw finds no piece left
  pub ended_keeps : (n word : ℕ) (homes : List (mathlib.Core.Option.Option (Option T))) (views : List (View T)) (seat : ℕ) (v : View T) → Keeps n word homes views
      → get_elem? views seat ≡ some v → 0 < v.weight → v.ended ≡ false → n ≤ word → Keeps n (word + 1) homes (set views seat (with_end v))
  ended_keeps n word homes views seat v kept at weighs going past =
      let w : View T = with_end v in
      let least : min n (word + 1) ≡ min n word = omega arith in
      let before : weight_going v ≡ v.weight = ap (λ b. cond b 0 v.weight) going in
      record {
        pieces = kept.pieces;
        count = kept.count;
        agree = agree_after n word homes views seat v w kept at weighs refl refl;
        weights = (let t = total-set (λ x. x.weight) views seat v w at in let k = kept.weights in omega arith);
        word_is = (let t = total-set (λ x. length x.mine) views seat v w at in let u = total-set (λ x. x.ends) views seat v w at in let k = kept.word_is in omega arith);
        drawn = (let t = total-set (λ x. length x.mine) views seat v w at in let k = kept.drawn in omega arith);
        once = λ x.
            (let t = total-set (λ y. times x y.mine) views seat v w at in
            let k : total (λ y. times x y.mine) views ≡ once_below x (min n (word + 1)) = kept.once x ∙ ap (once_below x) (sym least) in
            omega arith);
        ended = λ i u e over. omega arith;
        few_ends = (let t = total-set weight_going views seat v w at in let u = total-set (λ x. x.ends) views seat v w at in let k = kept.few_ends in omega arith);
        home = λ k p h e. kept.home k p (omega arith) e;
      }

  -- one weight goes to a new seat
  pub split_keeps : (n word : ℕ) (homes : List (mathlib.Core.Option.Option (Option T))) (views : List (View T)) (seat : ℕ) (v : View T) → Keeps n word homes views
      → get_elem? views seat ≡ some v → 1 < v.weight → Keeps n word homes (set views seat (after_split v) ++ split_off v ∷ [])
  split_keeps n word homes views seat v kept at weighs =
      let l : View T = after_split v in
      let r : View T = split_off v in
      let all : (f : View T → ℕ) → f l + f r ≡ f v → total f (set views seat l ++ r ∷ []) ≡ total f views = λ f same. total-split f views seat v l r at same in
      let agreed : v.pieces ≡ kept.pieces = agrees n word homes views kept seat v at (omega arith) in
      record {
        pieces = kept.pieces;
        count = kept.count;
        agree = λ i u e. ⊎_elim
            (λ t. inr (ap (λ x. x.pieces) (sym t) ∙ agreed, subst (λ x. 0 < x.weight) t (omega arith)))
            (λ s. ⊎_elim (λ t. inr (ap (λ x. x.pieces) (sym t) ∙ agreed, subst (λ x. 0 < x.weight) t (lit< tt))) (λ t. kept.agree i u t) s)
            (whose views seat l r i u e);
        weights = all (λ x. x.weight) (omega arith) ∙ kept.weights;
        word_is = (let a = all (λ x. length x.mine) (omega arith) in let b = all (λ x. x.ends) (omega arith) in let k = kept.word_is in omega arith);
        drawn = all (λ x. length x.mine) (omega arith) ∙ kept.drawn;
        once = λ x. all (λ y. times x y.mine) (omega arith) ∙ kept.once x;
        ended = λ i u e over. ⊎_elim
            (λ t. kept.ended seat v at (ap (λ x. x.ended) t ∙ over))
            (λ s. ⊎_elim (λ t. kept.ended seat v at (ap (λ x. x.ended) t ∙ over)) (λ t. kept.ended i u t over) s)
            (whose views seat l r i u e);
        few_ends = (let a = all weight_going (going-split v.ended v.weight weighs) in let b = all (λ x. x.ends) (omega arith) in let k = kept.few_ends in omega arith);
        home = kept.home;
      }

  -- a whole view goes to a new seat
  pub move_keeps : (n word : ℕ) (homes : List (mathlib.Core.Option.Option (Option T))) (views : List (View T)) (seat : ℕ) (v : View T) → Keeps n word homes views
      → get_elem? views seat ≡ some v → Keeps n word homes (set views seat spent ++ v ∷ [])
  move_keeps n word homes views seat v kept at =
      let all : (f : View T → ℕ) → f spent ≡ 0 → total f (set views seat spent ++ v ∷ []) ≡ total f views = λ f same. total-split f views seat v spent v at (omega arith) in
      record {
        pieces = kept.pieces;
        count = kept.count;
        agree = λ i u e. ⊎_elim (λ t. inl (sym t)) (λ s. ⊎_elim (λ t. kept.agree seat u (at ∙ ap some t)) (λ t. kept.agree i u t) s) (whose views seat spent v i u e);
        weights = all (λ x. x.weight) refl ∙ kept.weights;
        word_is = (let a = all (λ x. length x.mine) refl in let b = all (λ x. x.ends) refl in let k = kept.word_is in omega arith);
        drawn = all (λ x. length x.mine) refl ∙ kept.drawn;
        once = λ x. all (λ y. times x y.mine) refl ∙ kept.once x;
        ended = λ i u e over. ⊎_elim
            (λ t. let s = ap (λ x. x.ended) t in absurd (cc))
            (λ s. ⊎_elim (λ t. kept.ended seat u (at ∙ ap some t) over) (λ t. kept.ended i u t over) s)
            (whose views seat spent v i u e);
        few_ends = (let a = all weight_going refl in let b = all (λ x. x.ends) refl in let k = kept.few_ends in omega arith);
        home = kept.home;
      }

  -- two views become one
  pub join_keeps : (n word : ℕ) (homes : List (mathlib.Core.Option.Option (Option T))) (views : List (View T)) (seat other : ℕ) (v w : View T) → Keeps n word homes views
      → get_elem? views seat ≡ some v → other ≢ seat → get_elem? (set views seat (joined v w)) other ≡ some w → 0 < v.weight
      → Keeps n word homes (set (set views seat (joined v w)) other spent)
  join_keeps n word homes views seat other v w kept at apart there weighs =
      let b : View T = joined v w in
      let at_other : get_elem? views other ≡ some w = sym (set_else views seat other b apart) ∙ there in
      let after : (f : View T → ℕ) → f spent ≡ 0 → (total f (set (set views seat b) other spent) + f w) + f v ≡ total f views + f b =
      λ f same. (let t = total-set f views seat v b at in let u = total-set f (set views seat b) other w spent there in omega arith) in
      let whose : (i : ℕ) (u : View T) → get_elem? (set (set views seat b) other spent) i ≡ some u → (spent ≡ u) ⊎ ((b ≡ u) ⊎ (get_elem? views i ≡ some u)) =
      λ i u e. ⊎_elim (λ s. inl s.1) (λ s. ⊎_elim (λ t. inr (inl t.1)) (λ t. inr (inr t.1)) (at_set views seat i b u s.1)) (at_set (set views seat b) other i spent u e) in
      record {
        pieces = kept.pieces;
        count = kept.count;
        agree = λ i u e. ⊎_elim
            (λ t. inl (sym t))
            (λ s. ⊎_elim
            (λ t. inr (ap (λ x. x.pieces) (sym t) ∙ agrees n word homes views kept seat v at weighs, subst (λ x. 0 < x.weight) t (omega arith)))
            (λ t. kept.agree i u t) s)
            (whose i u e);
        weights = (let a = after (λ x. x.weight) refl in let k = kept.weights in omega arith);
        word_is = (let a = after (λ x. length x.mine) refl in let l = length-append v.mine w.mine in let c = after (λ x. x.ends) refl in let k = kept.word_is in omega arith);
        drawn = (let a = after (λ x. length x.mine) refl in let l = length-append v.mine w.mine in let k = kept.drawn in omega arith);
        once = λ x. (let a = after (λ y. times x y.mine) refl in let l = times-append x v.mine w.mine in let k = kept.once x in omega arith);
        ended = λ i u e over. ⊎_elim
            (λ t. let s = ap (λ x. x.ended) t in absurd (cc))
            (λ s. ⊎_elim
            (λ t. either_ended v.ended w.ended (λ e. kept.ended seat v at e) (λ e. kept.ended other w at_other e) (ap (λ x. x.ended) t ∙ over))
            (λ t. kept.ended i u t over) s)
            (whose i u e);
        few_ends = (let a = after weight_going refl in let g = going-joined v.ended w.ended v.weight w.weight in let c = after (λ x. x.ends) refl in let k = kept.few_ends in omega arith);
        home = kept.home;
      }

  -- a seat with all the weight, to which no piece is left, has drawn every number once
  pub complete : (n word : ℕ) (homes : List (mathlib.Core.Option.Option (Option T))) (views : List (View T)) (seat : ℕ) (v : View T) → Keeps n word homes views
      → get_elem? views seat ≡ some v → v.weight ≡ 64 → v.ended ≡ true → IsEachOnce (length v.pieces) v.mine
  complete n word homes views seat v kept at whole over x =
      let past = kept.ended seat v at over in
      let least : min n word ≡ n = omega arith in
      let same : v.pieces ≡ kept.pieces = agrees n word homes views kept seat v at (omega arith) in
      let others : (i : ℕ) (w : View T) → get_elem? views i ≡ some w → w.weight ≡ 0 → times x w.mine ≡ 0 =
      λ i w e light. ⊎_elim (λ t. ap (λ u. times x u.mine) t) (λ t. absurd (omega (arith, t.1))) (kept.agree i w e) in
      sym (total-alone (λ y. times x y.mine) (λ y. y.weight) views seat v at (whole ∙ sym kept.weights) others)
      ∙ kept.once x ∙ ap (once_below x) (least ∙ sym (ap length same ∙ kept.count))
