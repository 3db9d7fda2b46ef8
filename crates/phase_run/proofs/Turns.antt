-- Items that run one after another, the last one first.
use Rattle.std.proofs.Common.{ℕ, zero, suc, ◌≡◌, ◌∙◌, ◌+◌, ◌<◌, refl, sym, ap, ap₂, subst, List, [], ◌∷◌, ◌++◌, length, drop, get_or, reverse, append_assoc, arith}
use Rattle.std.proofs.lemmas.List.{drop_at, drop_more, length_push, reverse-append}
use Rattle.chunk_block.specs.Blocks.{LoanState}
use Rattle.structural_ops.specs.Freezing.{FrozenState}
use Rattle.scenario_record.specs.declared.record.SystemEntry.{SystemEntry}
use Rattle.run_model.specs.Job.{texts_of}
use Rattle.query_select.specs.declared.visits.Visit.{Visit}
use Rattle.item_run.specs.Items.{IsItem}
use Rattle.item_run.specs.Writing.{Does}
use Rattle.phase_run.specs.Visited.{AreDone, AreItems, item_of, rows_of_loan}

-- the loans that wait are the first ones, and those after them have run
pub record AreRunning (f : FrozenState) (s : SystemEntry) (frame : ℕ) (vs : List Visit) (lent waiting done : List LoanState) : Type 0 where
  pub first : waiting ++ drop (length waiting) lent ≡ lent
  pub ran : AreDone f s frame (length waiting) (drop (length waiting) vs) (drop (length waiting) lent) (reverse done)

module _ (f : FrozenState) (s : SystemEntry) (frame : ℕ) where
  pub items_long : (number : ℕ) (vs : List Visit) (ls : List LoanState) → AreItems f s frame number vs ls → length ls ≡ length vs
  items_long number [] [] are = refl
  items_long number [] (l ∷ ls) are = absurd are
  items_long number (v ∷ vs) [] are = absurd are
  items_long number (v ∷ vs) (l ∷ ls) are = ap suc (items_long (number + 1) vs ls are.1)

  items_drop : (n number : ℕ) (vs : List Visit) (ls : List LoanState) → AreItems f s frame number vs ls → AreItems f s frame (number + n) (drop n vs) (drop n ls)
  items_drop zero number vs ls are = let same : number ≡ number + 0 = omega arith in subst (λ k. AreItems f s frame k vs ls) same are
  items_drop (suc n) number [] [] are = tt
  items_drop (suc n) number [] (l ∷ ls) are = absurd are
  items_drop (suc n) number (v ∷ vs) [] are = absurd are
  items_drop (suc n) number (v ∷ vs) (l ∷ ls) are =
      let same : (number + 1) + n ≡ number + suc n = omega arith in
      subst (λ k. AreItems f s frame k (drop n vs) (drop n ls)) same (items_drop n (number + 1) vs ls are.1)

  module _ (vs : List Visit) (lent : List LoanState) (items : AreItems f s frame 0 vs lent) where
    -- nothing has run
    pub all_wait : AreRunning f s frame vs lent lent []
    all_wait = record {
      first = ap (λ (ls : List LoanState). lent ++ ls) (past lent) ∙ nothing lent;
      ran = subst (λ (us : List Visit). AreDone f s frame (length lent) us (drop (length lent) lent) []) (sym (ends vs lent (items_long 0 vs lent items)))
          (subst (λ (ls : List LoanState). AreDone f s frame (length lent) [] ls []) (sym (past lent)) tt);
    }
      where
        past : {X : Type 0} (xs : List X) → drop (length xs) xs ≡ []
        past [] = refl
        past (x ∷ xs) = past xs

        ends : {X Y : Type 0} (xs : List X) (ys : List Y) → length ys ≡ length xs → drop (length ys) xs ≡ []
        ends xs ys long = ap (λ n. drop n xs) long ∙ past xs

        nothing : (ls : List LoanState) → ls ++ [] ≡ ls
        nothing [] = refl
        nothing (l ∷ ls) = ap (λ (ks : List LoanState). l ∷ ks) (nothing ls)

    -- the next item is the last of those that wait
    module _ (waiting left done : List LoanState) (loan : LoanState) (running : AreRunning f s frame vs lent waiting done) (is : waiting ≡ left ++ loan ∷ []) where
      count : length waiting ≡ length left + 1
      count = ap (λ (ls : List LoanState). length ls) is ∙ length_push left loan

      whole : left ++ (loan ∷ drop (length waiting) lent) ≡ lent
      whole = sym (append_assoc left (loan ∷ []) (drop (length waiting) lent)) ∙ (ap (λ (ls : List LoanState). ls ++ drop (length waiting) lent) (sym is) ∙ running.first)

      lent_left : drop (length left) lent ≡ loan ∷ drop (length waiting) lent
      lent_left = ap (drop (length left)) (sym whole) ∙ drop_at left (loan ∷ drop (length waiting) lent) (length left) refl

      pub within : length left < length vs
      within =
          let all = ap (λ (ls : List LoanState). length ls) whole in
          let long = items_long 0 vs lent items in
          more left loan (drop (length waiting) lent) (length vs) (all ∙ long)
        where
          more : (xs : List LoanState) (y : LoanState) (zs : List LoanState) (n : ℕ) → length (xs ++ (y ∷ zs)) ≡ n → length xs < n
          more [] y zs n same = omega (arith, same)
          more (x ∷ xs) y zs zero same = absurd (omega (arith, same))
          more (x ∷ xs) y zs (suc n) same = let rest = more xs y zs n (omega (arith, same)) in omega (arith, rest)

      module _ (v : Visit) (at : v ≡ get_or vs (length left) v) where
        visits_left : drop (length left) vs ≡ v ∷ drop (length waiting) vs
        visits_left =
            drop_more vs (length left) v within
            ∙ ap₂ (λ (u : Visit) n. u ∷ drop n vs) (sym at) (sym count)

        pub next_item : IsItem (item_of f s frame (length left) v.rows loan)
        next_item =
            let here : AreItems f s frame (length left) (drop (length left) vs) (drop (length left) lent) =
            subst (λ k. AreItems f s frame k (drop (length left) vs) (drop (length left) lent)) (let same : 0 + length left ≡ length left = omega arith in same)
            (items_drop (length left) 0 vs lent items) in
            let both : AreItems f s frame (length left) (v ∷ drop (length waiting) vs) (loan ∷ drop (length waiting) lent) =
            subst (λ (us : List Visit). AreItems f s frame (length left) us (loan ∷ drop (length waiting) lent)) visits_left
            (subst (AreItems f s frame (length left) (drop (length left) vs)) lent_left here) in
            both.0

        pub one_more : (new : LoanState) → Does (rows_of_loan f frame (length left) loan) (texts_of s) v.rows new → AreRunning f s frame vs lent left (done ++ new ∷ [])
        one_more new does = record {
          first = ap (λ (ls : List LoanState). left ++ ls) lent_left ∙ whole;
          ran =
              let both : AreDone f s frame (length left) (v ∷ drop (length waiting) vs) (loan ∷ drop (length waiting) lent) (new ∷ reverse done) =
              (does, subst (λ n. AreDone f s frame n (drop (length waiting) vs) (drop (length waiting) lent) (reverse done)) count running.ran) in
              subst (AreDone f s frame (length left) (drop (length left) vs) (drop (length left) lent)) (sym (reverse-append done (new ∷ [])))
              (subst (λ (us : List Visit). AreDone f s frame (length left) us (drop (length left) lent) (new ∷ reverse done)) (sym visits_left)
              (subst (λ (ls : List LoanState). AreDone f s frame (length left) (v ∷ drop (length waiting) vs) ls (new ∷ reverse done)) (sym lent_left) both));
        }

    -- all have run
    pub all_ran : (waiting done : List LoanState) → length waiting ≡ 0 → AreRunning f s frame vs lent waiting done → AreDone f s frame 0 vs lent (reverse done)
    all_ran waiting done none running = subst (λ n. AreDone f s frame n (drop n vs) (drop n lent) (reverse done)) none running.ran
