-- What holds between any two steps holds after each lawful one.
use Rattle.std.proofs.Common.{◌≡◌, ◌≢◌, ℕ, suc, ◌+◌, ◌<◌, ◌≤◌, ◌⊎◌, inl, inr, ⊎_elim, List, [], ◌∷◌, ◌++◌, length, map, set, replicate, slice_get, Some, All, true, refl, sym, ◌∙◌, ap, arith, subst, length-set, get_or, take, drop}
use Rattle.std.specs.Option.{option_map}
use Rattle.std.proofs.lemmas.List.{length-replicate, take_more}
use Rattle.std.proofs.lemmas.Option.{slice_get_within, slice_get-map, slice_get_past, slice_get-get_or}
use Rattle.std.proofs.lemmas.Bool.{cases_lt, cases_eq}
use Rattle.phase_core.specs.Work.{Work, after_row, run_to_end}
use Rattle.phase_core.specs.Core.{Core, opening, is_lawful, after, with_worker, with_row_run, rows_of, ran_of, Holds, HasRun, IsHeldOrRun, IsKept, IsFinished, IsSound, AllLawful, after_all, FaultComes, StopsAt}
use Rattle.phase_core.specs.declared.machine.StepFault.{StepFault}
use Rattle.phase_core.specs.declared.machine.StepOf.{StepOf}
use Rattle.phase_core.specs.declared.machine.WorkerState.{WorkerState}
use Rattle.phase_core.specs.declared.machine.WorkerState.TheVariants.{Idle, AtRow, Ended}
use Rattle.phase_core.proofs.Lookups.{split_at, some_same, option_map-none_run, get-set_same, get-set_other, get-set_cases, get-replicate, get-all, same_lookups, length-with_row_run, get-with_row_run_same, get-with_row_run_other, rows_of-run, ran_of-run, option_map-after_rows, option_map-run_to_end}

-- two workers that stand differently are two
two_workers : (ws : List WorkerState) (v w : ℕ) (a b : WorkerState) → slice_get ws v ≡ Some a → slice_get ws w ≡ Some b → a ≢ b → v ≢ w
two_workers ws v w a b e f n same = n (some_same _ _ (sym e ∙ ap (slice_get ws) same ∙ f))

-- where no two workers hold one item, and the worker that moves takes none of another, no two hold one afterwards
alone_after : (ws : List WorkerState) (w : ℕ) (at : WorkerState)
    → ((v u k q r : ℕ) → Holds ws v k q → Holds ws u k r → v ≡ u)
    → ((u k q r : ℕ) → at ≡ AtRow k q → Holds ws u k r → u ≡ w)
    → (v u k q r : ℕ) → Holds (set ws w at) v k q → Holds (set ws w at) u k r → v ≡ u
alone_after ws w at alone mine v u k q r e f =
    ⊎_elim
    (λ s. ⊎_elim (λ t. s.0 ∙ sym t.0) (λ t. s.0 ∙ sym (mine u k q r s.1 t.1)) (get-set_cases ws w u at (AtRow k r) f))
    (λ s. ⊎_elim (λ t. mine v k r q t.1 s.1 ∙ sym t.0) (λ t. alone v u k q r s.1 t.1) (get-set_cases ws w u at (AtRow k r) f))
    (get-set_cases ws w v at (AtRow k q) e)

module _ {C : Type 0} where
  pub opening_kept : (items : List (Work C)) (n : ℕ) → All (λ w. w.ran ≡ 0) items → 0 < n → IsKept (opening items n)
  opening_kept items n unrun some = record {
    unrun = unrun;
    some_worker = subst (λ m. 0 < m) (sym (length-replicate n Idle)) some;
    same_count = refl;
    within = omega arith;
    waiting = λ k h. refl;
    drawn = λ k h. absurd (omega arith);
    held = λ w k r e. let s = get-replicate n w Idle (AtRow k r) e in absurd (cc);
    alone = λ v w k q r e f. let s = get-replicate n v Idle (AtRow k q) e in absurd (cc);
    ended = λ w e. let s = get-replicate n w Idle Ended e in absurd (cc);
  }

  -- an idle worker draws item `next`
  pub drawn_kept : (c : Core C) (w : ℕ) → IsKept c → slice_get c.workers w ≡ Some Idle → c.next < length c.items → IsKept (record (with_worker c w (AtRow c.next 0)) { next = c.next + 1 })
  drawn_kept c w kept idle more =
      let there : w < length c.workers = slice_get_within c.workers w Idle idle in
      let fresh : HasRun c.opened c.items c.next 0 = record { within = omega arith; stands = kept.waiting c.next (omega arith) ∙ option_map-none_run (slice_get c.opened c.next) } in
      let at : WorkerState = AtRow c.next 0 in
      record {
        unrun = kept.unrun;
        some_worker = simp length-set kept.some_worker;
        same_count = kept.same_count;
        within = omega arith;
        waiting = λ k h. kept.waiting k (omega arith);
        drawn = λ k h. ⊎_elim
            (λ less. ⊎_elim
            (λ t. inl (t.0, t.1, get-set_other c.workers w t.0 at (two_workers c.workers t.0 w (AtRow k t.1) Idle t.2 idle (λ e. cc)) ∙ t.2, t.3))
            (λ t. inr ((λ v r e. ⊎_elim (λ s. let eq = s.1 in let same : c.next ≡ k = cc in omega arith) (λ s. t.0 v r s.1) (get-set_cases c.workers w v at (AtRow k r) e)), t.1))
            (kept.drawn k less))
            (λ more. let same : c.next ≡ k = omega arith in subst (λ i. IsHeldOrRun (record (with_worker c w at) { next = c.next + 1 }) i) same (inl (w, 0, get-set_same c.workers w at there, fresh)))
            (cases_lt k c.next);
        held = λ v k r e. ⊎_elim
            (λ s. let eq = s.1 in let same : c.next ≡ k = cc in let none : 0 ≡ r = cc in (omega arith, subst (λ i. HasRun c.opened c.items i r) same (subst (λ i. HasRun c.opened c.items c.next i) none fresh)))
            (λ s. let t = kept.held v k r s.1 in (omega (arith, t.0), t.1))
            (get-set_cases c.workers w v at (AtRow k r) e);
        alone = alone_after c.workers w at kept.alone (λ u k q r e f. let t = kept.held u k r f in let same : c.next ≡ k = cc in absurd (omega (arith, t.0)));
        ended = λ v e. ⊎_elim (λ s. let eq = s.1 in absurd (cc)) (λ s. let t = kept.ended v s.1 in absurd (omega arith)) (get-set_cases c.workers w v at Ended e);
      }

  -- an idle worker finds no item left
  pub ended_kept : (c : Core C) (w : ℕ) → IsKept c → slice_get c.workers w ≡ Some Idle → length c.items ≤ c.next → IsKept (with_worker c w Ended)
  ended_kept c w kept idle none =
      record {
        unrun = kept.unrun;
        some_worker = simp length-set kept.some_worker;
        same_count = kept.same_count;
        within = kept.within;
        waiting = kept.waiting;
        drawn = λ k h. ⊎_elim
            (λ t. inl (t.0, t.1, get-set_other c.workers w t.0 Ended (two_workers c.workers t.0 w (AtRow k t.1) Idle t.2 idle (λ e. cc)) ∙ t.2, t.3))
            (λ t. inr ((λ v r e. ⊎_elim (λ s. let eq = s.1 in absurd (cc)) (λ s. t.0 v r s.1) (get-set_cases c.workers w v Ended (AtRow k r) e)), t.1))
            (kept.drawn k h);
        held = λ v k r e. ⊎_elim (λ s. let eq = s.1 in absurd (cc)) (λ s. kept.held v k r s.1) (get-set_cases c.workers w v Ended (AtRow k r) e);
        alone = alone_after c.workers w Ended kept.alone (λ u k q r e f. absurd (cc));
        ended = λ v e. let at_most = kept.within in omega arith;
      }

  -- a worker runs the next row of its item
  pub row_kept : (c : Core C) (w k r : ℕ) → IsKept c → Holds c.workers w k r → r < rows_of c.items k → IsKept (record (with_worker c w (AtRow k (r + 1))) { items = with_row_run c.items k })
  row_kept c w k r kept here left =
      let there : w < length c.workers = slice_get_within c.workers w (AtRow k r) here in
      let at : WorkerState = AtRow k (r + 1) in
      let ws : List WorkerState = set c.workers w at in
      let items : List (Work C) = with_row_run c.items k in
      let below : k < c.next = (kept.held w k r here).0 in
      let run : HasRun c.opened c.items k r = (kept.held w k r here).1 in
      let rows : rows_of c.items k ≡ rows_of c.opened k = rows_of-run c.items c.opened k r run.stands in
      let more : HasRun c.opened items k (r + 1) = record {
        within = omega arith;
        stands = get-with_row_run_same c.items k ∙ ap (option_map after_row) run.stands ∙ option_map-after_rows r (slice_get c.opened k);
      } in
      let other : (j q : ℕ) → j ≢ k → HasRun c.opened c.items j q → HasRun c.opened items j q =
      λ j q n had. record { within = had.within; stands = get-with_row_run_other c.items k j n ∙ had.stands } in
      record {
        unrun = kept.unrun;
        some_worker = simp length-set kept.some_worker;
        same_count = length-with_row_run c.items k ∙ kept.same_count;
        within = simp length-with_row_run kept.within;
        waiting = λ j h. get-with_row_run_other c.items k j (λ e. omega arith) ∙ kept.waiting j h;
        drawn = λ j h. ⊎_elim
            (λ e. subst (λ i. IsHeldOrRun (record (with_worker c w at) { items = items }) i) (sym e) (inl (w, r + 1, get-set_same c.workers w at there, more)))
            (λ n. ⊎_elim
            (λ t. inl (t.0, t.1, get-set_other c.workers w t.0 at (two_workers c.workers t.0 w (AtRow j t.1) (AtRow k r) t.2 here (λ e. n (cc))) ∙ t.2, other j t.1 n t.3))
            (λ t. inr ((λ v q e. ⊎_elim (λ s. let eq = s.1 in n (cc)) (λ s. t.0 v q s.1) (get-set_cases c.workers w v at (AtRow j q) e)), other j (rows_of c.opened j) n t.1))
            (kept.drawn j h))
            (cases_eq j k);
        held = λ v j q e. ⊎_elim
            (λ s. let eq = s.1 in let same : k ≡ j = cc in let one : r + 1 ≡ q = cc in
            (omega arith, subst (λ i. HasRun c.opened items i q) same (subst (λ i. HasRun c.opened items k i) one more)))
            (λ s. let t = kept.held v j q s.1 in
            (t.0, other j q (λ same. s.0 (kept.alone v w k q r (subst (λ i. Holds c.workers v i q) same s.1) here)) t.1))
            (get-set_cases c.workers w v at (AtRow j q) e);
        alone = alone_after c.workers w at kept.alone (λ u j q p e f. let same : k ≡ j = cc in kept.alone u w j p r f (subst (λ i. Holds c.workers w i r) same here));
        ended = λ v e. ⊎_elim (λ s. let eq = s.1 in absurd (cc)) (λ s. simp length-with_row_run (kept.ended v s.1)) (get-set_cases c.workers w v at Ended e);
      }

  -- a worker puts down its item, of which all rows have run
  pub put_down_kept : (c : Core C) (w k r : ℕ) → IsKept c → Holds c.workers w k r → r ≡ rows_of c.items k → IsKept (with_worker c w Idle)
  put_down_kept c w k r kept here all =
      let run : HasRun c.opened c.items k r = (kept.held w k r here).1 in
      let rows : r ≡ rows_of c.opened k = all ∙ rows_of-run c.items c.opened k r run.stands in
      record {
        unrun = kept.unrun;
        some_worker = simp length-set kept.some_worker;
        same_count = kept.same_count;
        within = kept.within;
        waiting = kept.waiting;
        drawn = λ j h. ⊎_elim
            (λ e. subst (λ i. IsHeldOrRun (with_worker c w Idle) i) (sym e) (inr (
              (λ v q e. ⊎_elim (λ s. let eq = s.1 in absurd (cc)) (λ s. s.0 (kept.alone v w k q r s.1 here)) (get-set_cases c.workers w v Idle (AtRow k q) e)),
              subst (λ i. HasRun c.opened c.items k i) rows run,
            )))
            (λ n. ⊎_elim
            (λ t. inl (t.0, t.1, get-set_other c.workers w t.0 Idle (two_workers c.workers t.0 w (AtRow j t.1) (AtRow k r) t.2 here (λ e. n (cc))) ∙ t.2, t.3))
            (λ t. inr ((λ v q e. ⊎_elim (λ s. let eq = s.1 in absurd (cc)) (λ s. t.0 v q s.1) (get-set_cases c.workers w v Idle (AtRow j q) e)), t.1))
            (kept.drawn j h))
            (cases_eq j k);
        held = λ v j q e. ⊎_elim (λ s. let eq = s.1 in absurd (cc)) (λ s. kept.held v j q s.1) (get-set_cases c.workers w v Idle (AtRow j q) e);
        alone = alone_after c.workers w Idle kept.alone (λ u j q p e f. absurd (cc));
        ended = λ v e. ⊎_elim (λ s. let eq = s.1 in absurd (cc)) (λ s. kept.ended v s.1) (get-set_cases c.workers w v Idle Ended e);
      }

  -- where every worker is ended nothing is held, and every item was drawn
  all_run : (c : Core C) → IsKept c → All (λ at. at ≡ Ended) c.workers → (k : ℕ) → (k < c.next) ⊎ (c.next ≤ k) → c.next ≡ length c.items → slice_get c.items k ≡ slice_get (map run_to_end c.opened) k
  all_run c kept over k (inl less) all =
      ⊎_elim
      (λ t. let at = get-all (λ at. at ≡ Ended) c.workers t.0 (AtRow k t.1) over t.2 in absurd (cc))
      (λ t. t.1.stands ∙ option_map-run_to_end (slice_get c.opened k) ∙ sym (slice_get-map run_to_end c.opened k))
      (kept.drawn k less)
  all_run c kept over k (inr past) all =
      let count = kept.same_count in
      let no_item : length c.opened ≤ k = omega arith in
      kept.waiting k past ∙ slice_get_past c.opened k no_item ∙ ap (option_map run_to_end) (sym (slice_get_past c.opened k no_item)) ∙ sym (slice_get-map run_to_end c.opened k)

  finished : (c : Core C) → IsKept c → IsFinished c
  finished c kept over =
      let first = slice_get-get_or c.workers 0 Idle kept.some_worker in
      let at = over 0 Idle kept.some_worker in
      let all = kept.ended 0 (first ∙ ap Some at) in
      same_lookups c.items (map run_to_end c.opened) (λ k. all_run c kept over k (cases_lt k c.next) all)

  pub sound : (c : Core C) → IsKept c → IsSound c
  sound c kept = record { kept = kept; finished = finished c kept }

  -- a machine as it is opened
  pub opened_kept : (opened items : List (Work C)) (n : ℕ) (workers : List WorkerState) → opened ≡ items → workers ≡ replicate n Idle → All (λ w. w.ran ≡ 0) items → 0 < n
      → IsKept record { opened = opened; items = items; next = 0; workers = workers }
  opened_kept opened items n workers same idle unrun some =
      subst (λ o. IsKept record { opened = o; items = items; next = 0; workers = workers }) (sym same)
      (subst (λ ws. IsKept record { opened = items; items = items; next = 0; workers = ws }) (sym idle) (opening_kept items n unrun some))

  -- as many rows of a held item have run as its worker has run
  pub ran_of-held : (c : Core C) (w k r : ℕ) → IsKept c → Holds c.workers w k r → ran_of c.items k ≡ r
  ran_of-held c w k r kept here =
      let t = kept.held w k r here in
      let below = t.0 in let within = kept.within in let count = kept.same_count in
      ran_of-run c.items c.opened k r t.1.stands (omega arith) kept.unrun

  pub held_is_there : (c : Core C) (w k r : ℕ) → IsKept c → Holds c.workers w k r → k < length c.items
  held_is_there c w k r kept here = let t = kept.held w k r here in omega (arith, t.0, kept.within)

  -- lawful steps, and one more
  pub AllLawful-more : (c : Core C) (xs : List StepOf) (x : StepOf) → AllLawful c xs → is_lawful (after_all c xs) x ≡ true → AllLawful c (xs ++ x ∷ [])
  AllLawful-more c [] x all lawful = (lawful, tt)
  AllLawful-more c (y ∷ ys) x all lawful = (all.0, AllLawful-more (after c y) ys x all.1 lawful)

  pub after_all-more : (c : Core C) (xs : List StepOf) (x : StepOf) → after_all c (xs ++ x ∷ []) ≡ after (after_all c xs) x
  after_all-more c [] x = refl
  after_all-more c (y ∷ ys) x = after_all-more (after c y) ys x

  -- a fault at step i
  pub stops_at : (c d e : Core C) (steps : List StepOf) (i : ℕ) (x : StepOf) (fault : StepFault) → i < length steps → AllLawful c (take i steps) → d ≡ after_all c (take i steps)
      → e ≡ d → FaultComes d (get_or steps i x) fault → StopsAt c steps fault e
  stops_at c d e steps i x fault there lawful stands same comes = record {
    taken = take i steps;
    faulty = get_or steps i x;
    left = drop (suc i) steps;
    split = split_at steps i x there;
    all_lawful = lawful;
    stands = same ∙ stands;
    comes = subst (λ s. FaultComes s (get_or steps i x) fault) (sym same) comes;
  }

  -- the steps up to step i, and step i
  pub taken_more : (c d e : Core C) (steps : List StepOf) (i : ℕ) (x : StepOf) → i < length steps → AllLawful c (take i steps) → d ≡ after_all c (take i steps)
      → is_lawful d (get_or steps i x) ≡ true → e ≡ after d (get_or steps i x) → AllLawful c (take (i + 1) steps) × (e ≡ after_all c (take (i + 1) steps))
  taken_more c d e steps i x there lawful stands one then =
      let y = get_or steps i x in
      let more = take_more steps i x there in (
        subst (AllLawful c) (sym more) (AllLawful-more c (take i steps) y lawful (subst (λ s. is_lawful s y ≡ true) stands one)),
        then ∙ ap (λ s. after s y) stands ∙ sym (after_all-more c (take i steps) y) ∙ ap (after_all c) (sym more),
      )
