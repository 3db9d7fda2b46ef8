-- What leaving makes of the rows of a world: one less.
use Rattle.std.proofs.Common.{◌≡◌, ℕ, ◌+◌, ◌≤◌, Bool, true, false, not, ◌||◌, cond, List, [], ◌∷◌, ◌++◌, map, filter, find, Option, Some, None, option_map, refl, sym, ap, ◌∙◌, append-nil, subst, arith}
use Rattle.std.specs.List.{list_any}
use Rattle.std.specs.Option.{option_or, is_some}
use Rattle.std.proofs.lemmas.List.Folds.{find-append}
use Rattle.ent_types.specs.declared.entity.Entity.{Entity}
use Rattle.world_model.specs.Members.{one_if, tally}
use Rattle.world_model.specs.Part.{same_entity}
use Rattle.world_model.specs.Row.{Row}
use Rattle.world_model.specs.World.{Home, Block}
use Rattle.world_model.specs.Found.{Found, placed_in, placed, is_of, found}
use Rattle.world_model.specs.Leave.{last_of, front_of, replaced, without_row, has_entity, left, no_rows, leave}
use Rattle.world_laws.proofs.Perms.{Perm, empty, keep, swap, follow, perm_is, perm_middle, perm_before, perm_after}
use Rattle.world_laws.proofs.Members.{none_found, found_counts, tally_append}

-- ---- leave, in one block

ends_are : (r : Row) (rs : List Row) → front_of r rs ++ last_of r rs ∷ [] ≡ r ∷ rs
ends_are r [] = refl
ends_are r (q ∷ rs) = ap (λ (xs : List Row). r ∷ xs) (ends_are q rs)

abbrev pub is_row : Entity → Row → Bool
is_row e r = same_entity e r.entity

module _ (e : Entity) where
  pub none_replaced : (by : Row) (rows : List Row) → tally (is_row e) rows ≡ 0 → replaced e by rows ≡ rows
  none_replaced by [] no_one = refl
  none_replaced by (r ∷ rs) no_one = step (is_row e r) no_one (none_replaced by rs)
    where
      step : (b : Bool) → one_if b + tally (is_row e) rs ≡ 0 → (tally (is_row e) rs ≡ 0 → replaced e by rs ≡ rs) → cond b by r ∷ replaced e by rs ≡ r ∷ rs
      step true f rest = absurd (omega arith)
      step false f rest = ap (λ (xs : List Row). r ∷ xs) (rest (omega arith))

  replaced_perm : (last r : Row) (front : List Row) → tally (is_row e) front ≤ 1 → find (is_row e) front ≡ Some r
      → Perm Row (last ∷ front) (r ∷ replaced e last front)
  replaced_perm last r [] few is = absurd (cc)
  replaced_perm last r (q ∷ qs) few is = step (is_row e q) few is (replaced_perm last r qs)
    where
      step : (b : Bool) → one_if b + tally (is_row e) qs ≤ 1 → cond b (Some q) (find (is_row e) qs) ≡ Some r
          → (tally (is_row e) qs ≤ 1 → find (is_row e) qs ≡ Some r → Perm Row (last ∷ qs) (r ∷ replaced e last qs))
          → Perm Row (last ∷ q ∷ qs) (r ∷ cond b last q ∷ replaced e last qs)
      step true few is rest =
          let same : q ≡ r = cc in
          follow (swap last q qs) (perm_is (ap (λ u. u ∷ last ∷ qs) same ∙ ap (λ (us : List Row). r ∷ last ∷ us) (sym (none_replaced last qs (omega arith)))))
      step false few is rest = follow (swap last q qs) (follow (keep q (rest (omega arith) is)) (swap q r (replaced e last qs)))

  without_perm : (r : Row) (rows : List Row) → tally (is_row e) rows ≤ 1 → find (is_row e) rows ≡ Some r → Perm Row rows (r ∷ without_row e rows)
  without_perm r [] few is = absurd (cc)
  without_perm r (q ∷ rs) few is =
      step (find (is_row e) f) refl
      (subst (λ xs. tally (is_row e) xs ≤ 1) (sym (ends_are q rs)) few)
      (sym (find-append (is_row e) f (l ∷ [])) ∙ (ap (find (is_row e)) (ends_are q rs) ∙ is))
    where
      f : List Row
      f = front_of q rs

      l : Row
      l = last_of q rs

      front : Perm Row (q ∷ rs) (l ∷ f)
      front = follow (perm_is (sym (ends_are q rs))) (follow (perm_middle f l []) (perm_is (ap (λ (xs : List Row). l ∷ xs) (append-nil f))))

      step : (o : Option Row) → find (is_row e) f ≡ o → tally (is_row e) (f ++ l ∷ []) ≤ 1 → option_or o (find (is_row e) (l ∷ [])) ≡ Some r
          → Perm Row (q ∷ rs) (r ∷ replaced e l f)
      step (Some s) got few is =
          let same : s ≡ r = cc in
          let sums = tally_append (is_row e) f (l ∷ []) in
          follow front (replaced_perm l r f (omega arith) (got ∙ is))
      step None got few is = last (is_row e l) (subst (λ n. n ≤ 1) (tally_append (is_row e) f (l ∷ [])) few) is
        where
          last : (b : Bool) → tally (is_row e) f + (one_if b + 0) ≤ 1 → cond b (Some l) None ≡ Some r → Perm Row (q ∷ rs) (r ∷ replaced e l f)
          last true few is =
              let same : l ≡ r = cc in
              follow front (perm_is (ap (λ u. u ∷ f) same ∙ ap (λ (us : List Row). r ∷ us) (sym (none_replaced l f (omega arith)))))
          last false few is = absurd (cc)

  pub has_is : (rows : List Row) → has_entity e rows ≡ is_some (find (is_row e) rows)
  has_is [] = refl
  has_is (r ∷ rs) = step (is_row e r) (has_is rs)
    where
      step : (b : Bool) → has_entity e rs ≡ is_some (find (is_row e) rs) → (b || has_entity e rs) ≡ is_some (cond b (Some r) (find (is_row e) rs))
      step true rest = refl
      step false rest = rest

  found_rows : (home : Home) (rows : List Row) → find (is_of e) (placed_in home rows) ≡ option_map (λ r. let x : Found = record { home = home; row = r } in x) (find (is_row e) rows)
  found_rows home [] = refl
  found_rows home (r ∷ rs) = step (is_row e r) (found_rows home rs)
    where
      x : Row → Found
      x r = record { home = home; row = r }

      step : (b : Bool) → find (is_of e) (placed_in home rs) ≡ option_map x (find (is_row e) rs)
          → cond b (Some (x r)) (find (is_of e) (placed_in home rs)) ≡ option_map x (cond b (Some r) (find (is_row e) rs))
      step true rest = refl
      step false rest = rest

  tally_rows : (home : Home) (rows : List Row) → tally (is_of e) (placed_in home rows) ≡ tally (is_row e) rows
  tally_rows home [] = refl
  tally_rows home (r ∷ rs) = ap (λ n. one_if (is_row e r) + n) (tally_rows home rs)

placed_perm : (home : Home) {rows qs : List Row} → Perm Row rows qs → Perm Found (placed_in home rows) (placed_in home qs)
placed_perm home empty = empty
placed_perm home (keep r p) = keep (record { home = home; row = r }) (placed_perm home p)
placed_perm home (swap r q rs) = swap (record { home = home; row = r }) (record { home = home; row = q }) (placed_in home rs)
placed_perm home (follow p q) = follow (placed_perm home p) (placed_perm home q)

-- ---- leave

kept_placed : (c : Block) (xs : List Block) → placed (cond (not (no_rows c.rows)) (c ∷ xs) xs) ≡ placed_in c.home c.rows ++ placed xs
kept_placed c xs = step c.rows refl
  where
    step : (rows : List Row) → c.rows ≡ rows → placed (cond (not (no_rows rows)) (c ∷ xs) xs) ≡ placed_in c.home c.rows ++ placed xs
    step [] e = ap (λ rs. placed_in c.home rs ++ placed xs) (sym e)
    step (r ∷ rs) e = refl

module _ (now : ℕ) (e : Entity) where
  left_is : (b : Block) (o : Option Row) → find (is_row e) b.rows ≡ o → left now e b ≡ cond (is_some o) (record b { rows = without_row e b.rows; order = now }) b
  left_is b o is = ap (λ t. cond t (record b { rows = without_row e b.rows; order = now }) b) (has_is e b.rows ∙ ap is_some is)

  leave_is : (b : Block) (bs : List Block) (o : Option Row) → find (is_row e) b.rows ≡ o
      → placed (leave now e (b ∷ bs)) ≡ placed_in b.home (cond (is_some o) (without_row e b.rows) b.rows) ++ placed (leave now e bs)
  unfolding leave
  leave_is b bs (Some r) is =
      ap (λ (c : Block). placed (cond (not (no_rows c.rows)) (c ∷ leave now e bs) (leave now e bs))) (left_is b (Some r) is)
      ∙ kept_placed (record b { rows = without_row e b.rows; order = now }) (leave now e bs)
  leave_is b bs None is =
      ap (λ (c : Block). placed (cond (not (no_rows c.rows)) (c ∷ leave now e bs) (leave now e bs))) (left_is b None is)
      ∙ kept_placed b (leave now e bs)

  leave_none : (bs : List Block) → tally (is_of e) (placed bs) ≡ 0 → placed (leave now e bs) ≡ placed bs
  unfolding leave
  leave_none [] none = refl
  leave_none (b ∷ bs) none =
      let sums = tally_append (is_of e) (placed_in b.home b.rows) (placed bs) in
      let here = tally_rows e b.home b.rows in
      leave_is b bs None (none_found (is_row e) b.rows (omega arith)) ∙ ap (λ xs. placed_in b.home b.rows ++ xs) (leave_none bs (omega arith))

  pub leave_perm : (x : Found) (bs : List Block) → tally (is_of e) (placed bs) ≤ 1 → found e bs ≡ Some x → Perm Found (placed bs) (x ∷ placed (leave now e bs))
  unfolding leave
  leave_perm x [] few is = absurd (cc)
  leave_perm x (b ∷ bs) few is =
      step (find (is_row e) b.rows) refl (subst (λ n. n ≤ 1) (tally_append (is_of e) (placed_in b.home b.rows) (placed bs)) few)
      (sym (find-append (is_of e) (placed_in b.home b.rows) (placed bs)) ∙ is) (leave_perm x bs)
    where
      make : Row → Found
      make r = record { home = b.home; row = r }

      step : (o : Option Row) → find (is_row e) b.rows ≡ o → tally (is_of e) (placed_in b.home b.rows) + tally (is_of e) (placed bs) ≤ 1
          → option_or (find (is_of e) (placed_in b.home b.rows)) (found e bs) ≡ Some x
          → (tally (is_of e) (placed bs) ≤ 1 → found e bs ≡ Some x → Perm Found (placed bs) (x ∷ placed (leave now e bs)))
          → Perm Found (placed_in b.home b.rows ++ placed bs) (x ∷ placed (leave now e (b ∷ bs)))
      step (Some r) got few is rest =
          let here = tally_rows e b.home b.rows in
          let some = found_counts (is_row e) r b.rows got in
          let first : option_or (option_map make (Some r)) (found e bs) ≡ Some x =
          ap (λ o. option_or o (found e bs)) (sym (found_rows e b.home b.rows ∙ ap (option_map make) got)) ∙ is in
          let same : make r ≡ x = cc in
          follow (perm_after (placed bs) (placed_perm b.home (without_perm e r b.rows (omega arith) got)))
          (perm_is (ap (λ y. y ∷ (placed_in b.home (without_row e b.rows) ++ placed bs)) same
          ∙ ap (λ ys. x ∷ ys) (ap (λ ys. placed_in b.home (without_row e b.rows) ++ ys) (sym (leave_none bs (omega arith))) ∙ sym (leave_is b bs (Some r) got))))
      step None got few is rest =
          let there : found e bs ≡ Some x = ap (λ o. option_or o (found e bs)) (sym (found_rows e b.home b.rows ∙ ap (option_map make) got)) ∙ is in
          follow (perm_before (placed_in b.home b.rows) (rest (omega arith) there))
          (follow (perm_middle (placed_in b.home b.rows) x (placed (leave now e bs))) (perm_is (ap (λ ys. x ∷ ys) (sym (leave_is b bs None got)))))
