-- A world of which a plan was lent.
use Rattle.std.proofs.Common.{◌≡◌, ℕ, ◌+◌, ◌⊎◌, inl, inr, Bool, true, false, ◌&&◌, cond, nat_eq, List, [], ◌∷◌, map, filter, sum_by, refl, sym, ap, ap₂, ◌∙◌, subst}
use Rattle.std.specs.Prelude.{⊤}
use Rattle.std.proofs.lemmas.Bool.{cases_eq, eqb-true, eq-eqb, ne_eqb}
use Rattle.std.proofs.lemmas.List.Sums.{sum_by-cons}
use Rattle.ent_types.specs.declared.type_info.TypeInfo.{TypeInfo}
use Rattle.ent_types.specs.TypeSets.{has_type}
use Rattle.world_model.specs.Members.{In, AreDistinct, one_if, tally}
use Rattle.world_model.specs.World.{Block, capacity}
use Rattle.world_laws.proofs.Members.{in_map, map_in}
use Rattle.world_laws.proofs.Types.{filter_rising}
use Rattle.chunk_block.specs.Blocks.{BlockState, BlockType, LoanState, AreHeld, IsLoanOf, IsWhole, column_types, lent_type, new_types}
use Rattle.chunk_block.specs.Blocks.{AreDistinct as AreOnce}
use Rattle.archetype_store.specs.Stores.{Numbered, StoreState, IsStore, OfNumber, OfBlock}
use Rattle.block_laws.specs.Lending.{lent_pieces}
use Rattle.world_places.specs.Placing.{home_of, world_block, world_blocks, numbers_of}
use Rattle.world_places.proofs.Leaving.{new_whole}
use Rattle.world_places.proofs.Lists.{map_same}
use Rattle.world_places.proofs.Numbers.{number_in, of_in, of_member}
use Rattle.world_rows.specs.Rows.{own_types}
use Rattle.world_rows.proofs.CodeLawful.{code_rows}
use Rattle.world_loans.specs.Fitting.{AreFitting}
use Rattle.world_loans.proofs.Fitting.{lent_fits}
use Rattle.world_loans.specs.Plans.{AreApart, CanLend, after_lends, lent_by, lent_types, loan_from, loan_in, loans_from, planned}
use Rattle.world_loans.specs.Returns.{is_piece, pieces_in}
use Rattle.world_loans.proofs.Counted.{loan_count, loan_number, planned_once, rising_once}
use Rattle.world_loans.proofs.Lent.{lends_are, lends_can, lends_loans}
use Rattle.world_loans.proofs.Placed.{numbers_stay}
use Rattle.world_loans.proofs.Shown.{columns_own, columns_shown, shown_are, shown_has}
use Rattle.structural_ops.specs.Worlds.{WorldState, IsConsistent, state_of}
use Rattle.structural_ops.specs.Numbered.{HasBlock, whole_block, with_each}
use Rattle.structural_ops.specs.Freezing.{AreLoansOf, FrozenState, IsFrozen, IsPlan, blanked, block_at, frozen_by, frozen_of, lent_at, lent_block, lent_of, lents, loan_of}
use Rattle.structural_ops.specs.declared.tables.Tables.{Tables}
use Rattle.structural_ops.proofs.Numbered.{block_is_whole, capacity_is, each_by_number, of_numbered, to_numbered}
use Rattle.structural_ops.proofs.Present.{home_lawful, row_placed}

-- ---- what can be lent

whole_held : (ts : List ℕ) (xs : List BlockType) → IsWhole xs → AreHeld ts xs
whole_held ts [] whole = tt
whole_held ts (x ∷ xs) whole = (λ _. whole.0, whole_held ts xs whole.1)

module _ (w : Tables) (is : IsConsistent w) where
  -- each type of a block is there once
  pub columns_once : (b : Numbered) → In b w.store.blocks → AreOnce (column_types b.block.columns)
  columns_once b i =
      subst AreOnce (sym (ap column_types (is.agrees.placed.whole b i) ∙ columns_own w.registry b.block.types))
      (rising_once (own_types w.registry b.block.types) (filter_rising _ b.block.types (home_lawful w is b i).types))

  module _ (plan : List (ℕ × List ℕ)) (h : IsPlan plan (state_of w)) where
    plan_held : (e : ℕ × List ℕ) → In e plan → OfBlock e.0 (λ b. AreHeld e.1 b.columns) w.store.blocks
    plan_held e i =
        let (b, j, number, any) = of_member e.0 (λ b. ⊤) w.store.blocks (of_numbered e.0 (λ _. ⊤) w.store.blocks (h.there e i)) in
        of_in e.0 (λ b. AreHeld e.1 b.block.columns) w.store.blocks is.agrees.placed.numbers b j number
        (whole_held e.1 b.block.columns (subst IsWhole (sym (is.agrees.placed.whole b j)) (new_whole w.registry b.block.types)))

    pub can_freeze : CanLend plan w.store
    can_freeze = lends_can plan w.store h.apart plan_held

-- ---- the state

module _ (w : Tables) (is : IsConsistent w) (plan : List (ℕ × List ℕ)) where
  abbrev lent_blocks : List Numbered
  lent_blocks = map (lent_by (planned plan)) w.store.blocks

  abbrev pub after : Tables
  after = record w { store = record (w.store) { blocks = lent_blocks } }

  abbrev pub frozen_after : IsFrozen after
  frozen_after = record {
    before = w.store.blocks;
    types = planned plan;
    consistent = is;
    blocks = refl;
  }

  lents_are : (bs : List Numbered) → ((b : Numbered) → In b bs → b.block.columns ≡ new_types w.registry b.block.types)
      → map (λ (b : Numbered). lent_types b.block.columns) (map (lent_by (planned plan)) bs) ≡ lents w.registry (planned plan) (numbers_of bs) (world_blocks bs)
  lents_are [] whole = refl
  lents_are (b ∷ bs) whole =
      ap₂ (λ (ts : List ℕ) (tss : List (List ℕ)). ts ∷ tss)
      (ap (λ (xs : List BlockType). lent_types (map (lent_type (planned plan b.number)) xs)) (whole b (inl refl)) ∙ shown_are (planned plan b.number) w.registry b.block.types)
      (lents_are bs (λ c i. whole c (inr i)))

  pub frozen_state : frozen_of after ≡ frozen_by plan (state_of w)
  frozen_state =
      ap₂ (λ (bs : List Block) (ns : List ℕ). let s : WorldState = record (state_of w) { world = record ((state_of w).world) { blocks = bs }; numbers = ns } in
      let f : FrozenState = record { state = s; lent = map (λ (b : Numbered). lent_types b.block.columns) lent_blocks } in f)
      (each_by_number (lent_by (planned plan)) (blanked (planned plan)) (λ b. refl) w.store.blocks)
      (numbers_stay (lent_by (planned plan)) w.store.blocks (λ b i. refl))
      ∙ ap (λ (tss : List (List ℕ)). let f : FrozenState = record { state = with_each (blanked (planned plan)) (state_of w); lent = tss } in f)
      (lents_are w.store.blocks is.agrees.placed.whole)

-- ---- the loans

loan_at : (registry : List TypeInfo) (e : ℕ × List ℕ) (bs : List Numbered) → ((b : Numbered) → In b bs → b.block ≡ whole_block registry (world_block b))
    → loan_in e bs ≡ loan_from e (whole_block registry (block_at e.0 (numbers_of bs) (world_blocks bs)))
loan_at registry e [] whole = refl
loan_at registry e (b ∷ bs) whole = by (nat_eq b.number e.0) (loan_at registry e bs (λ c i. whole c (inr i)))
  where
    by : (t : Bool) → loan_in e bs ≡ loan_from e (whole_block registry (block_at e.0 (numbers_of bs) (world_blocks bs)))
        → cond t (loan_from e b.block) (loan_in e bs) ≡ loan_from e (whole_block registry (cond t (world_block b) (block_at e.0 (numbers_of bs) (world_blocks bs))))
    by true rest = ap (loan_from e) (whole b (inl refl))
    by false rest = rest

-- the loan of a block that is there
pub loan_here : (e : ℕ × List ℕ) (b : Numbered) (bs : List Numbered) → AreDistinct (numbers_of bs) → In b bs → b.number ≡ e.0 → loan_in e bs ≡ loan_from e b.block
loan_here e b [] distinct i same = absurd i
loan_here e b (c ∷ cs) distinct (inl is) same =
    ap (λ d. cond d (loan_from e c.block) (loan_in e cs)) (eq-eqb c.number e.0 (ap (λ (d : Numbered). d.number) (sym is) ∙ same)) ∙ ap (λ (d : Numbered). loan_from e d.block) (sym is)
loan_here e b (c ∷ cs) distinct (inr i) same =
    ap (λ d. cond d (loan_from e c.block) (loan_in e cs)) (ne_eqb c.number e.0 (λ other. distinct.0 (subst (λ n. In n (numbers_of cs)) (same ∙ sym other) (number_in b cs i))))
    ∙ loan_here e b cs distinct.1 i same

pub loans_are : (w : Tables) → IsConsistent w → IsStore w.store → (plan : List (ℕ × List ℕ)) → AreApart plan → loans_from plan w.store ≡ map (loan_of (state_of w)) plan
loans_are w is store plan apart =
    lends_loans plan w.store apart
    ∙ map_same (λ e. loan_in e w.store.blocks) (loan_of (state_of w)) plan (λ e i. loan_at w.registry e w.store.blocks (block_is_whole w is store))

-- ---- blocks of a frozen world

lent_there : (bs : List Numbered) → AreDistinct (numbers_of bs) → (b : Numbered) → In b bs → lent_at b.number (numbers_of bs) (map (λ (c : Numbered). lent_types c.block.columns) bs) ≡ lent_types b.block.columns
lent_there [] distinct b i = absurd i
lent_there (c ∷ cs) distinct b (inl same) =
    ap (λ t. cond t (lent_types c.block.columns) (lent_at b.number (numbers_of cs) (map (λ (d : Numbered). lent_types d.block.columns) cs)))
    (eq-eqb c.number b.number (ap (λ (d : Numbered). d.number) (sym same)))
    ∙ ap (λ (d : Numbered). lent_types d.block.columns) (sym same)
lent_there (c ∷ cs) distinct b (inr i) = by (nat_eq c.number b.number) refl (lent_there cs distinct.1 b i)
  where
    by : (t : Bool) → nat_eq c.number b.number ≡ t → lent_at b.number (numbers_of cs) (map (λ (d : Numbered). lent_types d.block.columns) cs) ≡ lent_types b.block.columns
        → cond t (lent_types c.block.columns) (lent_at b.number (numbers_of cs) (map (λ (d : Numbered). lent_types d.block.columns) cs)) ≡ lent_types b.block.columns
    by true is rest = absurd (distinct.0 (subst (λ n. In n (numbers_of cs)) (sym (eqb-true c.number b.number is)) (number_in b cs i)))
    by false is rest = rest

-- a number that no block has
lent_nowhere : (n : ℕ) (ns : List ℕ) (lent : List (List ℕ)) → (In n ns → ⊥) → lent_at n ns lent ≡ []
lent_nowhere n [] lent none = refl
lent_nowhere n (m ∷ ms) [] none = refl
lent_nowhere n (m ∷ ms) (ts ∷ lent) none =
    ap (λ t. cond t ts (lent_at n ms lent)) (ne_eqb m n (λ same. none (inl (sym same)))) ∙ lent_nowhere n ms lent (λ i. none (inr i))

module _ (w : Tables) (f : IsFrozen w) where
  -- the world as it was
  abbrev pub thawed : Tables
  thawed = record w { store = record (w.store) { blocks = f.before } }

  pub numbers_before : numbers_of w.store.blocks ≡ numbers_of f.before
  numbers_before = ap numbers_of f.blocks ∙ numbers_stay (lent_by f.types) f.before (λ b i. refl)

  pub numbers_distinct : AreDistinct (numbers_of w.store.blocks)
  numbers_distinct = subst AreDistinct (sym numbers_before) f.consistent.agrees.placed.numbers

  pub lent_before : (b : Numbered) → In b f.before → lent_of (frozen_of w) b.number ≡ lent_types (map (lent_type (f.types b.number)) b.block.columns)
  lent_before b i = lent_there w.store.blocks numbers_distinct (lent_by f.types b) (subst (In (lent_by f.types b)) (sym f.blocks) (map_in (lent_by f.types) b f.before i))

  pub lent_has : (b : Numbered) → In b f.before → (t : ℕ) → has_type (lent_of (frozen_of w) b.number) t ≡ (has_type (f.types b.number) t && has_type (column_types b.block.columns) t)
  lent_has b i t =
      ap (λ ts. has_type ts t) (lent_before b i)
      ∙ shown_has (f.types b.number) b.block.columns (subst IsWhole (sym (f.consistent.agrees.placed.whole b i)) (new_whole w.registry b.block.types)) t

  module _ (store : IsStore w.store) where
    pub block_is_lent : (c : Numbered) → In c w.store.blocks → c.block ≡ lent_block w.registry (lent_of (frozen_of w) c.number) (world_block c)
    block_is_lent c j = by (in_map (lent_by f.types) c f.before (subst (In c) f.blocks j))
      where
        by : ((b : Numbered) × In b f.before × (c ≡ lent_by f.types b)) → c.block ≡ lent_block w.registry (lent_of (frozen_of w) c.number) (world_block c)
        by (b, i, same) =
            let whole = f.consistent.agrees.placed.whole b i in
            let lent = f.types b.number in
            let shown : lent_of (frozen_of w) c.number ≡ lent_types (map (lent_type lent) (new_types w.registry b.block.types)) =
            ap (λ (d : Numbered). lent_of (frozen_of w) d.number) same ∙ lent_before b i ∙ ap (λ (xs : List BlockType). lent_types (map (lent_type lent) xs)) whole in
            let columns : c.block.columns ≡ map (lent_type (lent_of (frozen_of w) c.number)) (new_types w.registry c.block.types) =
            ap (λ (d : Numbered). d.block.columns) same
            ∙ ap (map (lent_type lent)) whole
            ∙ sym (columns_shown lent (new_types w.registry b.block.types) (new_whole w.registry b.block.types))
            ∙ ap (λ ts. map (lent_type ts) (new_types w.registry b.block.types)) (sym shown)
            ∙ ap (λ (d : Numbered). map (lent_type (lent_of (frozen_of w) c.number)) (new_types w.registry d.block.types)) (sym same) in
            ap₂ (λ (xs : List BlockType) cap. record (c.block) { columns = xs; capacity = cap }) columns (capacity_is w.registry w.store f.consistent.agrees.registered store c j)

    -- what holds of the store's blocks holds of the world's
    pub lent_seen : (n : ℕ) (P : BlockState → Type 0) → OfBlock n P w.store.blocks
        → HasBlock n (λ b. P (lent_block w.registry (lent_of (frozen_of w) n) b)) (state_of w)
    lent_seen n P is =
        let (c, j, number, holds) = of_member n (λ c. P c.block) w.store.blocks is in
        to_numbered n (λ b. P (lent_block w.registry (lent_of (frozen_of w) n) b)) w.store.blocks
        (of_in n (λ d. P (lent_block w.registry (lent_of (frozen_of w) n) (world_block d))) w.store.blocks numbers_distinct c j number
        (subst (λ m. P (lent_block w.registry (lent_of (frozen_of w) m) (world_block c))) number (subst P (block_is_lent c j) holds)))

    pub lent_unseen : (n : ℕ) (P : BlockState → Type 0) → HasBlock n (λ b. P (lent_block w.registry (lent_of (frozen_of w) n) b)) (state_of w) → OfBlock n P w.store.blocks
    lent_unseen n P is =
        let (c, j, number, holds) = of_member n (λ c. P (lent_block w.registry (lent_of (frozen_of w) n) (world_block c))) w.store.blocks
        (of_numbered n (λ b. P (lent_block w.registry (lent_of (frozen_of w) n) b)) w.store.blocks is) in
        of_in n (λ d. P d.block) w.store.blocks numbers_distinct c j number
        (subst P (sym (block_is_lent c j)) (subst (λ m. P (lent_block w.registry (lent_of (frozen_of w) m) (world_block c))) (sym number) holds))

-- ---- the loans are those of the frozen world

module _ (w : Tables) (is : IsConsistent w) (store : IsStore w.store) (plan : List (ℕ × List ℕ)) (h : IsPlan plan (state_of w)) where
  abbrev loans : List LoanState
  loans = map (λ e. loan_in e w.store.blocks) plan

  abbrev frozen : FrozenState
  frozen = frozen_of (after w is plan)

  -- what an entry has of a type, of a block that is there
  entry_count : (b : Numbered) → In b w.store.blocks → (t : ℕ) (e : ℕ × List ℕ)
      → pieces_in b.number t (loan_in e w.store.blocks) ≡ cond (nat_eq b.number e.0) (one_if (has_type e.1 t && has_type (column_types b.block.columns) t)) 0
  entry_count b i t e =
      ap (λ n. cond (nat_eq b.number n) (tally (is_piece t) (loan_in e w.store.blocks).pieces) 0) (loan_number e w.store.blocks)
      ∙ by (nat_eq b.number e.0) refl
    where
      by : (d : Bool) → nat_eq b.number e.0 ≡ d → cond d (tally (is_piece t) (loan_in e w.store.blocks).pieces) 0
          ≡ cond d (one_if (has_type e.1 t && has_type (column_types b.block.columns) t)) 0
      by true same =
          ap (λ (l : LoanState). tally (is_piece t) l.pieces) (loan_here e b w.store.blocks is.agrees.placed.numbers i (eqb-true b.number e.0 same))
          ∙ loan_count t e.1 b.block.capacity b.block.rows b.block.columns (columns_once w is b i)
      by false same = refl

  sums_same : (g k : ℕ × List ℕ → ℕ) → ((e : ℕ × List ℕ) → g e ≡ k e) → (es : List (ℕ × List ℕ)) → sum_by g es ≡ sum_by k es
  sums_same g k same [] = refl
  sums_same g k same (e ∷ es) = sum_by-cons g e es ∙ ap₂ (λ (m n : ℕ). m + n) (same e) (sums_same g k same es) ∙ sym (sum_by-cons k e es)

  sum_of_map : (g : LoanState → ℕ) (k : ℕ × List ℕ → LoanState) (es : List (ℕ × List ℕ)) → sum_by g (map k es) ≡ sum_by (λ e. g (k e)) es
  sum_of_map g k [] = refl
  sum_of_map g k (e ∷ es) = sum_by-cons g (k e) (map k es) ∙ ap (λ n. g (k e) + n) (sum_of_map g k es) ∙ sym (sum_by-cons (λ d. g (k d)) e es)

  no_entry : (n t : ℕ) (es : List (ℕ × List ℕ)) → ((e : ℕ × List ℕ) → In e es → n ≡ e.0 → ⊥) → sum_by (λ e. pieces_in n t (loan_in e w.store.blocks)) es ≡ 0
  no_entry n t [] none = refl
  no_entry n t (e ∷ es) none =
      sum_by-cons (λ d. pieces_in n t (loan_in d w.store.blocks)) e es
      ∙ ap₂ (λ (m k : ℕ). m + k)
      (ap (λ m. cond (nat_eq n m) (tally (is_piece t) (loan_in e w.store.blocks).pieces) 0) (loan_number e w.store.blocks)
      ∙ ap (λ d. cond d (tally (is_piece t) (loan_in e w.store.blocks).pieces) 0) (ne_eqb n e.0 (none e (inl refl))))
      (no_entry n t es (λ d i. none d (inr i)))

  once_there : (b : Numbered) → In b w.store.blocks → (t : ℕ) → sum_by (pieces_in b.number t) loans ≡ one_if (has_type (lent_of frozen b.number) t)
  once_there b i t =
      sum_of_map (pieces_in b.number t) (λ e. loan_in e w.store.blocks) plan
      ∙ sums_same (λ e. pieces_in b.number t (loan_in e w.store.blocks))
      (λ e. cond (nat_eq b.number e.0) (one_if (has_type e.1 t && has_type (column_types b.block.columns) t)) 0) (entry_count b i t) plan
      ∙ planned_once b.number t (has_type (column_types b.block.columns) t) plan h.apart
      ∙ ap one_if (sym (lent_has (after w is plan) (frozen_after w is plan) b i t))

  once_nowhere : (n t : ℕ) → (In n (numbers_of w.store.blocks) → ⊥) → sum_by (pieces_in n t) loans ≡ one_if (has_type (lent_of frozen n) t)
  once_nowhere n t none =
      sum_of_map (pieces_in n t) (λ e. loan_in e w.store.blocks) plan
      ∙ no_entry n t plan (λ e i same. absent e i same)
      ∙ ap (λ ts. one_if (has_type ts t))
      (sym (lent_nowhere n frozen.state.numbers frozen.lent (λ j. none (subst (In n) (numbers_before (after w is plan) (frozen_after w is plan)) j))))
    where
      absent : (e : ℕ × List ℕ) → In e plan → n ≡ e.0 → ⊥
      absent e i same =
          let (b, j, number, any) = of_member e.0 (λ b. ⊤) w.store.blocks (of_numbered e.0 (λ _. ⊤) w.store.blocks (h.there e i)) in
          none (subst (λ m. In m (numbers_of w.store.blocks)) (number ∙ sym same) (number_in b w.store.blocks j))

  there_or_not : (n : ℕ) (bs : List Numbered) → ((b : Numbered) × In b bs × (b.number ≡ n)) ⊎ (In n (numbers_of bs) → ⊥)
  there_or_not n [] = inr (λ i. i)
  there_or_not n (b ∷ bs) = by (cases_eq b.number n) (there_or_not n bs)
    where
      by : (b.number ≡ n) ⊎ (b.number ≡ n → ⊥) → ((c : Numbered) × In c bs × (c.number ≡ n)) ⊎ (In n (numbers_of bs) → ⊥)
          → ((c : Numbered) × In c (b ∷ bs) × (c.number ≡ n)) ⊎ (In n (numbers_of (b ∷ bs)) → ⊥)
      by (inl same) rest = inl (b, inl refl, same)
      by (inr other) (inl (c, i, same)) = inl (c, inr i, same)
      by (inr other) (inr none) = inr (λ i. neither i)
        where
          neither : In n (numbers_of (b ∷ bs)) → ⊥
          neither (inl same) = other (sym same)
          neither (inr i) = none i

  pub loans_once : (n t : ℕ) → sum_by (pieces_in n t) loans ≡ one_if (has_type (lent_of frozen n) t)
  loans_once n t = by (there_or_not n w.store.blocks)
    where
      by : ((b : Numbered) × In b w.store.blocks × (b.number ≡ n)) ⊎ (In n (numbers_of w.store.blocks) → ⊥) → sum_by (pieces_in n t) loans ≡ one_if (has_type (lent_of frozen n) t)
      by (inl (b, i, same)) = subst (λ m. sum_by (pieces_in m t) loans ≡ one_if (has_type (lent_of frozen m) t)) same (once_there b i t)
      by (inr none) = once_nowhere n t none

  -- what was lent of lawful rows fits
  loan_fits : (e : ℕ × List ℕ) (bs : List Numbered) → ((b : Numbered) → In b bs → In b w.store.blocks) → AreFitting w.registry (loan_in e bs).pieces
  loan_fits e [] there = λ x i. absurd i
  loan_fits e (b ∷ bs) there = by (nat_eq b.number e.0) (loan_fits e bs (λ c i. there c (inr i)))
    where
      i : In b w.store.blocks
      i = there b (inl refl)

      here : AreFitting w.registry (loan_from e b.block).pieces
      here =
          lent_fits w.registry b.block.types e.1 b.block.capacity b.block.rows
          (λ r j. (code_rows (capacity w.registry) (state_of w).world is.lawful (record { home = home_of b; row = r })
          (row_placed (world_block b) r (world_blocks w.store.blocks) (map_in world_block b w.store.blocks i) j)).cells)
          b.block.columns (λ t j. subst (In t) (ap column_types (is.agrees.placed.whole b i) ∙ columns_own w.registry b.block.types) j)

      by : (d : Bool) → AreFitting w.registry (loan_in e bs).pieces → AreFitting w.registry (cond d (loan_from e b.block) (loan_in e bs)).pieces
      by true rest = here
      by false rest = rest

  loans_fit : (l : LoanState) → In l loans → AreFitting w.registry l.pieces
  loans_fit l i =
      let (e, j, same) = in_map (λ e. loan_in e w.store.blocks) l plan i in
      subst (λ (m : LoanState). AreFitting w.registry m.pieces) (sym same) (loan_fits e w.store.blocks (λ b h. h))

  pub are_loans : IsStore (after w is plan).store → (ls : List LoanState) → ls ≡ loans
      → ((l : LoanState) → In l ls → OfBlock l.number (λ b. IsLoanOf b l) (after w is plan).store.blocks) → AreLoansOf frozen ls
  are_loans stored ls same own = record {
    each = λ l i. lent_seen (after w is plan) (frozen_after w is plan) stored l.number (λ b. IsLoanOf b l) (own l i);
    fit = λ l i. loans_fit l (subst (In l) same i);
    once = λ n t. ap (sum_by (pieces_in n t)) same ∙ loans_once n t;
  }
