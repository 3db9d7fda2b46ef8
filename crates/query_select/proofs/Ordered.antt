-- Candidates in block order.
use Rattle.std.proofs.Common.{◌≡◌, ℕ, inl, inr, nat_lt, Bool, true, false, cond, List, [], ◌∷◌, ◌++◌, length, map, filter, refl, sym, ap, ap₂, ◌∙◌, subst, arith, suc}
use Rattle.std.specs.List.{flat_map}
use Rattle.std.specs.List.Sorted.{IsNonDecreasingBy}
use Rattle.std.proofs.lemmas.Bool.{le-ltb, ltb-true, ltb-false, lt-ltb, eq-eqb, ne_eqb}
use Rattle.world_model.specs.Members.{In, IsRising, AreDistinct}
use Rattle.world_laws.proofs.Members.{map_in}
use Rattle.world_laws.proofs.Perms.{Perm, perm_back}
use Rattle.run_laws.proofs.Sorts.{Sorted, sort_perm, sorted_stays}
use Rattle.archetype_store.specs.Stores.{Numbered, rank_of}
use Rattle.world_places.specs.Placing.{numbers_of}
use Rattle.world_places.proofs.Lists.{map_same}
use Rattle.query_select.specs.declared.visits.Candidate.{Candidate}

-- ---- what is sorted by rank

abbrev before : Candidate → Candidate → Bool
before x y = nat_lt x.rank y.rank

later : (x y z : Candidate) → before x y ≡ true → before y z ≡ true → before x z ≡ true
later x y z e f = let a = ltb-true x.rank y.rank e in let b = ltb-true y.rank z.rank f in lt-ltb x.rank z.rank (omega arith)

once : (x y : Candidate) → before x y ≡ true → before y x ≡ false
once x y e = let a = ltb-true x.rank y.rank e in le-ltb y.rank x.rank (omega arith)

same_rank : (xs : List Candidate) (x y : Candidate) → IsRising (map (λ (c : Candidate). c.rank) xs) → In x xs → In y xs → x.rank ≡ y.rank → x ≡ y
same_rank [] x y rising i j e = absurd i
same_rank (z ∷ zs) x y rising (inl a) (inl b) e = a ∙ sym b
same_rank (z ∷ zs) x y rising (inl a) (inr j) e =
    let above = rising.0 y.rank (map_in (λ (c : Candidate). c.rank) y zs j) in let first : x.rank ≡ z.rank = ap (λ (c : Candidate). c.rank) a in absurd (omega arith)
same_rank (z ∷ zs) x y rising (inr i) (inl b) e =
    let above = rising.0 x.rank (map_in (λ (c : Candidate). c.rank) x zs i) in let first : y.rank ≡ z.rank = ap (λ (c : Candidate). c.rank) b in absurd (omega arith)
same_rank (z ∷ zs) x y rising (inr i) (inr j) e = same_rank zs x y rising.1 i j e

sorted_rising : (xs : List Candidate) → IsRising (map (λ (c : Candidate). c.rank) xs) → Sorted before xs
sorted_rising [] rising = tt
sorted_rising (x ∷ []) rising = tt
sorted_rising (x ∷ y ∷ ys) rising = (let up = rising.0 y.rank (inl refl) in le-ltb y.rank x.rank (omega arith), sorted_rising (y ∷ ys) rising.1)

sorted_up : (xs : List Candidate) → IsNonDecreasingBy (λ (c : Candidate). c.rank) xs → Sorted before xs
sorted_up [] up = tt
sorted_up (x ∷ []) up = tt
sorted_up (x ∷ y ∷ ys) up = (le-ltb y.rank x.rank (up 0 1 x (omega arith) (omega arith)), sorted_up (y ∷ ys) (λ i j d less within. up (suc i) (suc j) d (omega arith) (omega arith)))

-- candidates of different ranks have one order
pub sorted_are : (xs ys : List Candidate) → Perm Candidate ys xs → IsRising (map (λ (c : Candidate). c.rank) xs) → IsNonDecreasingBy (λ (c : Candidate). c.rank) ys → ys ≡ xs
sorted_are xs ys perm rising up =
    sym (sorted_stays before ys (sorted_up ys up)) ∙ sym (sort_perm before later once (perm_back perm) (λ x y i j e f. (let a = ltb-false x.rank y.rank e in let b = ltb-false y.rank x.rank f in same_rank xs x y rising i j (omega arith))))
    ∙ sorted_stays before xs (sorted_rising xs rising)

-- ---- ranks in block order

-- the rank of each block is the one at its place
pub ranks_are : (blocks : List Numbered) (ranks : List ℕ) → AreDistinct (numbers_of blocks) → length ranks ≡ length blocks → map (λ (b : Numbered). rank_of b.number blocks ranks) blocks ≡ ranks
ranks_are [] [] distinct same = refl
ranks_are [] (r ∷ rs) distinct same = absurd (omega arith)
ranks_are (b ∷ bs) [] distinct same = absurd (omega arith)
ranks_are (b ∷ bs) (r ∷ rs) distinct same =
    ap₂ (λ x xs. x ∷ xs) (ap (λ t. cond t r (rank_of b.number bs rs)) (eq-eqb b.number b.number refl))
    (map_same (λ (c : Numbered). rank_of c.number (b ∷ bs) (r ∷ rs)) (λ (c : Numbered). rank_of c.number bs rs) bs
    (λ c i. ap (λ t. cond t r (rank_of c.number bs rs)) (ne_eqb b.number c.number (λ e. distinct.0 (subst (λ n. In n (numbers_of bs)) (sym e) (map_in (λ (d : Numbered). d.number) c bs i)))))
    ∙ ranks_are bs rs distinct.1 (omega arith))

module _ (rank : Numbered → ℕ) where
  in_kept : (p : Numbered → Bool) (bs : List Numbered) (u : ℕ) → In u (map rank (filter p bs)) → In u (map rank bs)
  in_kept p [] u i = i
  in_kept p (b ∷ bs) u i = by (p b) i (in_kept p bs u)
    where
      by : (t : Bool) → In u (map rank (cond t (b ∷ filter p bs) (filter p bs))) → (In u (map rank (filter p bs)) → In u (map rank bs)) → In u (map rank (b ∷ bs))
      by true (inl e) rest = inl e
      by true (inr j) rest = inr (rest j)
      by false j rest = inr (rest j)

  pub kept_rising : (p : Numbered → Bool) (bs : List Numbered) → IsRising (map rank bs) → IsRising (map rank (filter p bs))
  kept_rising p [] rising = tt
  kept_rising p (b ∷ bs) rising = by (p b) (kept_rising p bs rising.1)
    where
      by : (t : Bool) → IsRising (map rank (filter p bs)) → IsRising (map rank (cond t (b ∷ filter p bs) (filter p bs)))
      by true rest = ((λ u i. rising.0 u (in_kept p bs u i)), rest)
      by false rest = rest

module _ (keeps : Numbered → Bool) (make : Numbered → Candidate) where
  abbrev one_if : Numbered → List Candidate
  one_if b = cond (keeps b) (make b ∷ []) []

  in_made : (bs : List Numbered) (u : ℕ) → In u (map (λ (c : Candidate). c.rank) (flat_map one_if bs)) → In u (map (λ b. (make b).rank) bs)
  in_made [] u i = i
  in_made (b ∷ bs) u i = by (keeps b) i (in_made bs u)
    where
      by : (t : Bool) → In u (map (λ (c : Candidate). c.rank) (cond t (make b ∷ []) [] ++ flat_map one_if bs))
          → (In u (map (λ (c : Candidate). c.rank) (flat_map one_if bs)) → In u (map (λ b. (make b).rank) bs)) → In u (map (λ b. (make b).rank) (b ∷ bs))
      by true (inl e) rest = inl e
      by true (inr j) rest = inr (rest j)
      by false j rest = inr (rest j)

  pub made_rising : (bs : List Numbered) → IsRising (map (λ b. (make b).rank) bs) → IsRising (map (λ (c : Candidate). c.rank) (flat_map one_if bs))
  made_rising [] rising = tt
  made_rising (b ∷ bs) rising = by (keeps b) (made_rising bs rising.1)
    where
      by : (t : Bool) → IsRising (map (λ (c : Candidate). c.rank) (flat_map one_if bs)) → IsRising (map (λ (c : Candidate). c.rank) (cond t (make b ∷ []) [] ++ flat_map one_if bs))
      by true rest = ((λ u i. rising.0 u (in_made bs u i)), rest)
      by false rest = rest
