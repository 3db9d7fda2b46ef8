-- Blocks that are marked visit by visit, and the world after a run.
use Rattle.std.proofs.Common.{ℕ, ◌≡◌, ◌∙◌, inl, inr, Bool, true, false, ◌||◌, cond, nat_eq, refl, sym, ap, ap₂, subst, List, [], ◌∷◌, ◌++◌, length, map, Option, arith}
use Rattle.std.specs.Prelude.{⊤}
use Rattle.std.specs.Bool.{MatchBool}
use Rattle.std.proofs.lemmas.Bool.{eq-eqb, ne_eqb}
use Rattle.std.proofs.lemmas.Bool.Decides.{nat_tests}
use Rattle.ent_types.specs.declared.type_info.TypeInfo.{TypeInfo}
use Rattle.ent_types.specs.TypeSets.{has_type}
use Rattle.world_model.specs.Members.{In, AreDistinct}
use Rattle.world_model.specs.Row.{Row}
use Rattle.world_model.specs.World.{Block, Mark}
use Rattle.world_model.specs.Write.{marked}
use Rattle.world_laws.proofs.Members.{map_append}
use Rattle.world_places.proofs.Lists.{map_same}
use Rattle.world_loans.proofs.Lent.{has_append}
use Rattle.expr_eval.specs.Values.{OtherRows}
use Rattle.structural_ops.specs.Numbered.{OfNumbered, by_number, types_written, with_each}
use Rattle.structural_ops.specs.Worlds.{WorldState}
use Rattle.scenario_record.specs.declared.record.SystemEntry.{SystemEntry}
use Rattle.run_model.specs.Clock.{versions}
use Rattle.run_model.specs.Job.{writes}
use Rattle.run_model.specs.Query.{is_visited}
use Rattle.run_model.specs.Run.{blocks_after, item_after, rows_after}
use Rattle.query_select.specs.declared.visits.Visit.{Visit}
use Rattle.phase_run.specs.After.{blocks_ran, visit_marked}
use Rattle.phase_run.proofs.Chosen.{chosen, chosen_first, number_there, visit_at, visit_block}
use Rattle.phase_run.proofs.Numbers.{by_number_none, by_number_same, by_number_twice}

turned : (a b : ℕ) → nat_eq a b ≡ nat_eq b a
turned a b = grind (arith, nat_tests)

-- ---- one block

module _ (now : ℕ) (types : List ℕ) where
  mark_twice : (m : Mark) (t : Bool) → has_type types m.type_id ≡ t
      → cond (has_type types (let q : Mark = cond t (record m { moment = now }) m in q).type_id) (record (let q : Mark = cond t (record m { moment = now }) m in q) { moment = now }) (cond t (record m { moment = now }) m)
      ≡ cond t (record m { moment = now }) m
  mark_twice m true is = ap (λ b. cond b (record m { moment = now }) (record m { moment = now })) is
  mark_twice m false is = ap (λ b. cond b (record m { moment = now }) m) is

  marked_twice : (ms : List Mark) → marked now types (marked now types ms) ≡ marked now types ms
  marked_twice [] = refl
  marked_twice (m ∷ ms) = ap₂ (λ (q : Mark) (qs : List Mark). q ∷ qs) (mark_twice m (has_type types m.type_id) refl) (marked_twice ms)

  -- one visit more
  visit_more : (vs : List Visit) (v : Visit) (m : ℕ) (b : Block) → types_written v.block now types m (visit_marked vs now types m b) ≡ visit_marked (vs ++ v ∷ []) now types m b
  visit_more vs v m b =
      by (has_type (map visit_block vs) m) (nat_eq m v.block)
      ∙ ap (λ t. cond t (record b { marks = marked now types b.marks }) b)
      (sym (ap (λ ns. has_type ns m) (map_append visit_block vs (v ∷ [])) ∙ (has_append (map visit_block vs) (v.block ∷ []) m
      ∙ ap (λ t. has_type (map visit_block vs) m || (t || false)) (turned v.block m))))
    where
      by : (h e : Bool) → cond e (record (let c : Block = cond h (record b { marks = marked now types b.marks }) b in c) { marks = marked now types (let c : Block = cond h (record b { marks = marked now types b.marks }) b in c).marks })
          (cond h (record b { marks = marked now types b.marks }) b)
          ≡ cond (h || (e || false)) (record b { marks = marked now types b.marks }) b
      by true true = ap (λ (ms : List Mark). record b { marks = ms }) (marked_twice b.marks)
      by true false = refl
      by false true = refl
      by false false = refl

  pub none_marked : (w : WorldState) → with_each (visit_marked [] now types) w ≡ w
  none_marked w =
      ap (λ (bs : List Block). let y : WorldState = record w { world = record (w.world) { blocks = bs } } in y)
      (by_number_none (visit_marked [] now types) (λ m b. refl) w.numbers w.world.blocks)

  pub marked_more : (vs : List Visit) (v : Visit) (w : WorldState) → with_each (types_written v.block now types) (with_each (visit_marked vs now types) w) ≡ with_each (visit_marked (vs ++ v ∷ []) now types) w
  marked_more vs v w =
      ap (λ (bs : List Block). let y : WorldState = record w { world = record (w.world) { blocks = bs } } in y)
      (by_number_twice (types_written v.block now types) (visit_marked vs now types) w.numbers w.world.blocks
      ∙ by_number_same (λ m b. types_written v.block now types m (visit_marked vs now types m b)) (visit_marked (vs ++ v ∷ []) now types) (visit_more vs v) w.numbers w.world.blocks)

-- ---- a block of a number

pub there_as_long : (n : ℕ) (ns : List ℕ) (bs cs : List Block) → length bs ≡ length cs → OfNumbered n (λ _. ⊤) ns bs → OfNumbered n (λ _. ⊤) ns cs
there_as_long n [] bs cs long there = there
there_as_long n (m ∷ ms) [] cs long there = absurd there
there_as_long n (m ∷ ms) (b ∷ bs) [] long there = absurd (omega (arith, long))
there_as_long n (m ∷ ms) (b ∷ bs) (c ∷ cs) long there = by (nat_eq m n) there (there_as_long n ms bs cs (omega (arith, long)))
  where
    by : (t : Bool) → MatchBool t ⊤ (OfNumbered n (λ _. ⊤) ms bs) → (OfNumbered n (λ _. ⊤) ms bs → OfNumbered n (λ _. ⊤) ms cs) → MatchBool t ⊤ (OfNumbered n (λ _. ⊤) ms cs)
    by true h rest = tt
    by false h rest = rest h

-- ---- all blocks

module _ (registry : List TypeInfo) (s : SystemEntry) (last : Option ℕ) where
  -- a block is among those with these numbers where it is visited
  abbrev AreTested : List ℕ → List ℕ → List Block → Type 0
  AreTested among [] [] = Unit {0}
  AreTested among [] (b ∷ bs) = ⊥
  AreTested among (n ∷ ns) [] = ⊥
  AreTested among (n ∷ ns) (b ∷ bs) = (has_type among n ≡ is_visited registry versions s last b) × AreTested among ns bs

  not_there : (n : ℕ) (ns : List ℕ) → (In n ns → ⊥) → has_type ns n ≡ false
  not_there n [] none = refl
  not_there n (m ∷ ms) none = ap₂ (λ a b. a || b) (ne_eqb m n (λ same. none (inl (sym same)))) (not_there n ms (λ i. none (inr i)))

  not_chosen : (n : ℕ) (ns : List ℕ) (bs : List Block) → (In n ns → ⊥) → has_type (map visit_block (chosen registry s last ns bs)) n ≡ false
  not_chosen n ns bs none = from (chosen registry s last ns bs) (λ v i. i)
    where
      from : (vs : List Visit) → ((v : Visit) → In v vs → In v (chosen registry s last ns bs)) → has_type (map visit_block vs) n ≡ false
      from [] among = refl
      from (v ∷ vs) among =
          ap₂ (λ a b. a || b) (ne_eqb v.block n (λ same. none (subst (λ m. In m ns) same (number_there registry s last ns bs v (among v (inl refl))))))
          (from vs (λ u i. among u (inr i)))

  first_chosen : (n : ℕ) (b : Block) (ns : List ℕ) (bs : List Block) → (In n ns → ⊥)
      → has_type (map visit_block (chosen registry s last (n ∷ ns) (b ∷ bs))) n ≡ is_visited registry versions s last b
  first_chosen n b ns bs none =
      ap (λ (vs : List Visit). has_type (map visit_block vs) n) (chosen_first registry s last n b ns bs) ∙ by (is_visited registry versions s last b)
    where
      by : (t : Bool) → has_type (map visit_block (cond t (visit_at registry s last n b ∷ chosen registry s last ns bs) (chosen registry s last ns bs))) n ≡ t
      by true = ap (λ c. c || has_type (map visit_block (chosen registry s last ns bs)) n) (eq-eqb n n refl)
      by false = not_chosen n ns bs none

  later_chosen : (n m : ℕ) (b : Block) (ns : List ℕ) (bs : List Block) → (n ≡ m → ⊥)
      → has_type (map visit_block (chosen registry s last (n ∷ ns) (b ∷ bs))) m ≡ has_type (map visit_block (chosen registry s last ns bs)) m
  later_chosen n m b ns bs apart =
      ap (λ (vs : List Visit). has_type (map visit_block vs) m) (chosen_first registry s last n b ns bs) ∙ by (is_visited registry versions s last b)
    where
      by : (t : Bool) → has_type (map visit_block (cond t (visit_at registry s last n b ∷ chosen registry s last ns bs) (chosen registry s last ns bs))) m
          ≡ has_type (map visit_block (chosen registry s last ns bs)) m
      by true = ap (λ c. c || has_type (map visit_block (chosen registry s last ns bs)) m) (ne_eqb n m apart)
      by false = refl

  tested_from : (among : List ℕ) (ns : List ℕ) (bs : List Block) → AreDistinct ns → length ns ≡ length bs
      → ((n : ℕ) → In n ns → has_type among n ≡ has_type (map visit_block (chosen registry s last ns bs)) n) → AreTested among ns bs
  tested_from among [] [] distinct long same = tt
  tested_from among [] (b ∷ bs) distinct long same = absurd (omega (arith, long))
  tested_from among (n ∷ ns) [] distinct long same = absurd (omega (arith, long))
  tested_from among (n ∷ ns) (b ∷ bs) distinct long same = (
    same n (inl refl) ∙ first_chosen n b ns bs distinct.0,
    tested_from among ns bs distinct.1 (omega (arith, long))
        (λ m i. same m (inr i) ∙ later_chosen n m b ns bs (λ is. distinct.0 (subst (λ k. In k ns) (sym is) i))),
  )

  tested : (ns : List ℕ) (bs : List Block) → AreDistinct ns → length ns ≡ length bs → AreTested (map visit_block (chosen registry s last ns bs)) ns bs
  tested ns bs distinct long = tested_from (map visit_block (chosen registry s last ns bs)) ns bs distinct long (λ n i. refl)

  module _ (frame : ℕ) (others : OtherRows) where
    pub ran_length : (number : ℕ) (bs : List Block) → length (blocks_ran registry s last frame others number bs) ≡ length bs
    ran_length number [] = refl
    ran_length number (b ∷ bs) = let rest = ran_length (item_after versions registry s last number b) bs in omega (arith, rest)

    module _ (now : ℕ) (types : List ℕ) (written : (t : ℕ) → has_type types t ≡ has_type (writes s) t) where
      marks_same : (ms : List Mark) → marked now types ms ≡ marked now (writes s) ms
      marks_same ms =
          map_same (λ (m : Mark). cond (has_type types m.type_id) (record m { moment = now }) m) (λ (m : Mark). cond (has_type (writes s) m.type_id) (record m { moment = now }) m) ms
          (λ m i. ap (λ t. cond t (record m { moment = now }) m) (written m.type_id))

      marked_from : (visits : List Visit) (number : ℕ) (ns : List ℕ) (bs : List Block) → AreTested (map visit_block visits) ns bs
          → by_number (visit_marked visits now types) ns (blocks_ran registry s last frame others number bs) ≡ blocks_after versions registry s last frame others now number bs
      marked_from visits number [] [] are = refl
      marked_from visits number [] (b ∷ bs) are = absurd are
      marked_from visits number (n ∷ ns) [] are = refl
      marked_from visits number (n ∷ ns) (b ∷ bs) are =
          ap₂ (λ (c : Block) (cs : List Block). c ∷ cs)
          (ap (λ t. cond t (record (ran (is_visited registry versions s last b)) { marks = marked now types (ran (is_visited registry versions s last b)).marks }) (ran (is_visited registry versions s last b))) are.0
          ∙ by (is_visited registry versions s last b))
          (marked_from visits (item_after versions registry s last number b) ns bs are.1)
        where
          rows : List Row
          rows = rows_after registry s others frame number b.home 0 b.rows

          ran : Bool → Block
          ran t = cond t (record b { rows = rows }) b

          by : (t : Bool) → cond t (record (ran t) { marks = marked now types (ran t).marks }) (ran t) ≡ cond t (record b { marks = marked now (writes s) b.marks; rows = rows }) b
          by true = ap (λ (ms : List Mark). record b { marks = ms; rows = rows }) (marks_same b.marks)
          by false = refl

      -- the blocks with their marks are those of a run
      pub marked_after : (visits : List Visit) (ns : List ℕ) (bs : List Block) → visits ≡ chosen registry s last ns bs → AreDistinct ns → length ns ≡ length bs
          → by_number (visit_marked visits now types) ns (blocks_ran registry s last frame others 0 bs) ≡ blocks_after versions registry s last frame others now 0 bs
      marked_after visits ns bs is distinct long =
          marked_from visits 0 ns bs (subst (λ (vs : List Visit). AreTested (map visit_block vs) ns bs) (sym is) (tested ns bs distinct long))
