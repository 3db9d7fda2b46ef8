-- A frozen world to which all loans came back.
use Rattle.std.proofs.Common.{◌≡◌, ℕ, ◌+◌, ◌≤◌, ◌<◌, inl, inr, ◌⊎◌, Bool, true, false, ◌&&◌, ◌||◌, cond, nat_eq, List, [], ◌∷◌, ◌++◌, map, fold, length, sum_by, refl, sym, ap, ap₂, ◌∙◌, subst, arith}
use Rattle.std.proofs.lemmas.Bool.{eq-eqb}
use Rattle.std.proofs.lemmas.List.{length-map}
use Rattle.ent_types.specs.declared.entity.Entity.{Entity}
use Rattle.ent_types.specs.TypeSets.{has_type}
use Rattle.system_version.specs.Versions.{version_of}
use Rattle.world_model.specs.Members.{In, AreDistinct, one_if, tally}
use Rattle.world_model.specs.Row.{Row, cell_type}
use Rattle.world_model.specs.World.{Home, Block, World, capacity}
use Rattle.world_model.specs.Found.{Found, placed_in, placed}
use Rattle.world_model.specs.Lawful.{IsLawfulBlock, IsLawfulRow}
use Rattle.world_model.specs.Versions.{block_versions, IsLawfulCode}
use Rattle.world_laws.proofs.Members.{in_append, in_map, map_append, map_in}
use Rattle.world_laws.proofs.Replaced.{entity_of, replaced_code}
use Rattle.world_laws.proofs.Versions.{placed_turned}
use Rattle.block_columns.specs.Types.{TypeState}
use Rattle.chunk_block.specs.Blocks.{BlockState, BlockType, LoanState, ArePiecesOf, IsLoanOf, IsWhole, column_types, given_rows, lent_row, lent_type}
use Rattle.archetype_store.specs.Stores.{Numbered, StoreState, IsStore, OfBlock}
use Rattle.block_laws.proofs.Rows.{rows_count}
use Rattle.world_places.specs.Placing.{home_of, world_block, world_blocks, numbers_of}
use Rattle.world_places.proofs.Leaving.{new_whole}
use Rattle.world_places.proofs.Lists.{map_same, map_twice}
use Rattle.world_places.proofs.Numbers.{of_member, one_of}
use Rattle.world_rows.proofs.CodeLawful.{code_rows}
use Rattle.world_loans.specs.Fitting.{AreFitting}
use Rattle.world_loans.specs.Plans.{lent_by}
use Rattle.world_loans.specs.Returns.{after_returns, given_by, is_piece, pieces_in, pieces_of, with_given}
use Rattle.world_loans.proofs.Columns.{columns_back}
use Rattle.world_loans.proofs.Counted.{piece_of_loan, pieces_tally}
use Rattle.world_loans.proofs.Fitting.{cells_distinct, rows_lawful}
use Rattle.world_loans.proofs.Placed.{KeepsPlaces, all_placed, numbers_stay}
use Rattle.world_loans.proofs.Shown.{columns_own}
use Rattle.world_loans.proofs.Returned.{entities_given, returns_are, rows_back}
use Rattle.structural_ops.specs.Worlds.{WorldState, IsConsistent, state_of}
use Rattle.structural_ops.specs.Numbered.{by_number, with_each}
use Rattle.structural_ops.specs.Freezing.{AreLoansOf, IsFrozen, frozen_of, lent_of, with_cells, with_loans}
use Rattle.structural_ops.specs.declared.tables.Tables.{Tables}
use Rattle.structural_ops.proofs.Freezing.{columns_once, lent_has, lent_unseen, numbers_before, thawed}
use Rattle.structural_ops.proofs.Numbered.{by_number_each, by_number_versions, each_by_number}
use Rattle.structural_ops.proofs.Present.{home_lawful, row_placed}

-- ---- rows of all blocks

in_block : (home : Home) (x : Found) (rows : List Row) → In x (placed_in home rows) → (r : Row) × In r rows × (x ≡ record { home = home; row = r })
in_block home x [] i = absurd i
in_block home x (r ∷ rs) (inl same) = (r, inl refl, same)
in_block home x (r ∷ rs) (inr i) = let (q, j, same) = in_block home x rs i in (q, inr j, same)

-- what holds of the rows of each block holds of all rows
pub all_rows : (P : Found → Type 0) (bs : List Block) → ((b : Block) → In b bs → (r : Row) → In r b.rows → P (record { home = b.home; row = r })) → (x : Found) → In x (placed bs) → P x
all_rows P [] holds x i = absurd i
all_rows P (b ∷ bs) holds x i = by (in_append x (placed_in b.home b.rows) (placed bs) i) (λ j. all_rows P bs (λ c k. holds c (inr k)) x j)
  where
    by : In x (placed_in b.home b.rows) ⊎ In x (placed bs) → (In x (placed bs) → P x) → P x
    by (inl j) rest = let (r, k, same) = in_block b.home x b.rows j in subst P (sym same) (holds b (inl refl) r k)
    by (inr j) rest = rest j

abbrev row_entity : Row → Entity
row_entity r = r.entity

block_entities : (home : Home) (rows : List Row) → map entity_of (placed_in home rows) ≡ map row_entity rows
block_entities home [] = refl
block_entities home (r ∷ rs) = ap (λ (es : List Entity). r.entity ∷ es) (block_entities home rs)

-- a change that keeps the entities of each block
by_number_entities : (f : ℕ → Block → Block) → ((m : ℕ) (b : Block) → map row_entity (f m b).rows ≡ map row_entity b.rows)
    → (ns : List ℕ) (bs : List Block) → map entity_of (placed (by_number f ns bs)) ≡ map entity_of (placed bs)
by_number_entities f same [] bs = refl
by_number_entities f same (n ∷ ns) [] = refl
by_number_entities f same (n ∷ ns) (b ∷ bs) =
    map_append entity_of (placed_in (f n b).home (f n b).rows) (placed (by_number f ns bs))
    ∙ ap₂ (λ (xs ys : List Entity). xs ++ ys) (block_entities (f n b).home (f n b).rows ∙ same n b ∙ sym (block_entities b.home b.rows)) (by_number_entities f same ns bs)
    ∙ sym (map_append entity_of (placed_in b.home b.rows) (placed bs))

-- ---- all loans came back

module _ (w : Tables) (f : IsFrozen w) (ls : List LoanState) where
  abbrev w0 : Tables
  w0 = thawed w f

  -- the loans have each type that is lent once
  abbrev pub Once : Type 0
  Once = (n t : ℕ) → sum_by (pieces_in n t) ls ≡ one_if (has_type (lent_of (frozen_of w) n) t)

  -- there is a piece of each type that is lent
  covers : Once → (b : Numbered) → In b f.before → (t : ℕ) → has_type (f.types b.number) t ≡ true → has_type (column_types b.block.columns) t ≡ true → 1 ≤ tally (is_piece t) (pieces_of ls b.number)
  covers each b i t lent has =
      let once : tally (is_piece t) (pieces_of ls b.number) ≡ 1 =
      pieces_tally b.number t ls ∙ each b.number t ∙ ap one_if (lent_has w f b i t) ∙ ap₂ (λ c d. one_if (c && d)) lent has in
      omega (arith, once)

  -- a block as it was, with the cells of the loans
  abbrev put : Numbered → Numbered
  put b = record b { block = record (b.block) { rows = fold given_rows b.block.rows (pieces_of ls b.number) } }

  has_in : (ts : List ℕ) (t : ℕ) → In t ts → has_type ts t ≡ true
  has_in [] t i = absurd i
  has_in (u ∷ us) t (inl same) = ap (λ b. b || has_type us t) (eq-eqb u t (sym same))
  has_in (u ∷ us) t (inr i) = ap (λ b. nat_eq u t || b) (has_in us t i) ∙ or_true (nat_eq u t)
    where
      or_true : (b : Bool) → (b || true) ≡ true
      or_true true = refl
      or_true false = refl

  row_lawful : (b : Numbered) → In b f.before → (r : Row) → In r b.block.rows → IsLawfulRow w.registry (record { home = home_of b; row = r })
  row_lawful b i r j =
      code_rows (capacity w.registry) (state_of w0).world f.consistent.lawful (record { home = home_of b; row = r })
      (row_placed (world_block b) r (world_blocks f.before) (map_in world_block b f.before i) j)

  cell_types_are : (b : Numbered) → In b f.before → (r : Row) → In r b.block.rows → map cell_type r.cells ≡ column_types b.block.columns
  cell_types_are b i r j =
      (row_lawful b i r j).cells.types_are ∙ sym (ap column_types (f.consistent.agrees.placed.whole b i) ∙ columns_own w.registry b.block.types)

  back_is : Once → (b : Numbered) → In b f.before → given_by ls (lent_by f.types b) ≡ put b
  back_is each b i =
      let ps = pieces_of ls b.number in
      let lent = f.types b.number in
      let whole = subst IsWhole (sym (f.consistent.agrees.placed.whole b i)) (new_whole w.registry b.block.types) in
      ap₂ (λ (xs : List BlockType) (rs : List Row). record b { block = record (b.block) { columns = xs; rows = rs } })
      (columns_back lent ps b.block.columns (columns_once w0 f.consistent b i) whole (covers each b i))
      (rows_back lent ps b.block.rows
      (λ r j. cells_distinct w.registry b.block.types r.cells (home_lawful w0 f.consistent b i).types (row_lawful b i r j).cells)
      (λ r j t has own. covers each b i t has (has_in (column_types b.block.columns) t (subst (In t) (cell_types_are b i r j) own))))

  pub blocks_back : Once → map (given_by ls) w.store.blocks ≡ map put f.before
  blocks_back each =
      ap (map (given_by ls)) f.blocks
      ∙ map_twice (given_by ls) (lent_by f.types) f.before
      ∙ map_same (λ b. given_by ls (lent_by f.types b)) put f.before (back_is each)

  -- ---- the invariant

  abbrev restored : Tables
  restored = record w { store = record (w.store) { blocks = map put f.before } }

  keeps : (b : Numbered) → In b f.before → KeepsPlaces b (put b)
  keeps b i = record { number = refl; block = record { types = refl; columns = refl; rows = entities_given (pieces_of ls b.number) b.block.rows } }

  -- the pieces have a cell for each row
  pieces_long : AreLoansOf (frozen_of w) ls → (store : IsStore w.store) (b : Numbered) → In b f.before → (p : TypeState) → In p (pieces_of ls b.number) → length p.cells ≡ length b.block.rows
  pieces_long of store b i p j =
      let (l, k, number, has) = piece_of_loan b.number ls p j in
      let (c, h, same, loan) = of_member l.number (λ c. IsLoanOf c.block l) w.store.blocks (lent_unseen w f store l.number (λ c. IsLoanOf c l) (of.each l k)) in
      let (d, m, is) = in_map (lent_by f.types) c f.before (subst (In c) f.blocks h) in
      let here : d ≡ b = one_of f.before f.consistent.agrees.placed.numbers d b m i (ap (λ (x : Numbered). x.number) (sym is) ∙ same ∙ number) in
      long c.block l.pieces loan p has
      ∙ ap (λ (x : Numbered). length x.block.rows) is
      ∙ length-map d.block.rows (lent_row (f.types d.number))
      ∙ ap (λ (x : Numbered). length x.block.rows) here
    where
      long : (s : BlockState) (xs : List TypeState) → ArePiecesOf s xs → (p : TypeState) → In p xs → length p.cells ≡ length s.rows
      long s [] are p i = absurd i
      long s (x ∷ xs) are p (inl same) = ap (λ (y : TypeState). length y.cells) same ∙ are.0.0
      long s (x ∷ xs) are p (inr i) = long s xs are.1 p i

  pieces_fit : AreLoansOf (frozen_of w) ls → (n : ℕ) → AreFitting w.registry (pieces_of ls n)
  pieces_fit of n p i = let (l, k, number, has) = piece_of_loan n ls p i in of.fit l k p has

  world_is : world_blocks (map put f.before) ≡ by_number (with_cells ls) (numbers_of f.before) (world_blocks f.before)
  world_is = each_by_number put (with_cells ls) (λ b. refl) f.before

  module _ (of : AreLoansOf (frozen_of w) ls) (store : IsStore w.store) where
    found_lawful : (x : Found) → In x (placed (world_blocks (map put f.before))) → IsLawfulRow w.registry x
    found_lawful =
        all_rows (IsLawfulRow w.registry) (world_blocks (map put f.before)) (λ c k r j.
        let (d, m, is) = in_map world_block c (map put f.before) k in
        let (b, i, same) = in_map put d f.before m in
        let block : c ≡ world_block (put b) = is ∙ ap world_block same in
        subst (λ (h : Home). IsLawfulRow w.registry (record { home = h; row = r })) (sym (ap (λ (e : Block). e.home) block))
        (rows_lawful w.registry (home_of b) (pieces_of ls b.number) b.block.rows (row_lawful b i) (pieces_fit of b.number) (pieces_long of store b i) r
        (subst (λ (e : Block). In r e.rows) block j)))

    abbrev l : IsLawfulCode (capacity w.registry) (state_of w0).world
    l = f.consistent.lawful

    abbrev v : ℕ → ℕ
    v = version_of l.first

    abbrev later : List Block
    later = by_number (with_cells ls) (numbers_of f.before) l.world.blocks

    stands : world_blocks (map put f.before) ≡ map (block_versions v) later
    stands =
        world_is
        ∙ ap (by_number (with_cells ls) (numbers_of f.before)) (ap (λ (c : World). c.blocks) l.stands)
        ∙ by_number_versions v (with_cells ls) (with_cells ls) (λ m b. refl) (numbers_of f.before) l.world.blocks

    block_stays : (m : ℕ) (b : Block) → IsLawfulBlock (capacity w.registry) l.world.moment b → IsLawfulBlock (capacity w.registry) l.world.moment (with_cells ls m b)
    block_stays m b h =
        let same = rows_count (pieces_of ls m) b.rows in
        record {
          some = subst (λ n. 1 ≤ n) (sym same) h.some;
          few = subst (λ n. n ≤ capacity w.registry b.home.types) (sym same) h.few;
          marked = h.marked;
          marks = h.marks;
          order = h.order;
        }

    pub restored_consistent : IsConsistent restored
    restored_consistent = record {
      agrees = record { placed = all_placed put f.consistent.agrees.placed keeps; registered = f.consistent.agrees.registered };
      lawful = subst (λ (bs : List Block). IsLawfulCode (capacity w.registry) (record ((state_of w0).world) { blocks = bs })) (sym stands)
          (replaced_code (capacity w.registry) (state_of w0).world l later
          (by_number_entities (with_cells ls) (λ m b. entities_given (pieces_of ls m) b.rows) (numbers_of f.before) l.world.blocks)
          (λ x i.
          subst (λ r. IsLawfulRow r x) (ap (λ (c : World). c.registry) l.stands)
          (found_lawful x (subst (λ (bs : List Block). In x (placed bs)) (sym stands) (subst (In x) (sym (placed_turned v later)) i))))
          (by_number_each (IsLawfulBlock (capacity w.registry) l.world.moment) (with_cells ls) block_stays (numbers_of f.before) l.world.blocks l.lawful.blocks));
    }

  -- ---- the state

  pub restored_state : state_of (record w { store = record (w.store) { blocks = map (given_by ls) w.store.blocks } }) ≡ with_loans ls (state_of w)
  restored_state =
      ap₂ (λ (bs : List Block) (ns : List ℕ). let s : WorldState = record (state_of w) { world = record ((state_of w).world) { blocks = bs }; numbers = ns } in s)
      (each_by_number (given_by ls) (with_cells ls) (λ b. refl) w.store.blocks)
      (numbers_stay (given_by ls) w.store.blocks (λ b i. refl))

  -- what came back is what the world as it was has with the loans' cells
  pub restored_thawed : Once → with_loans ls (state_of w) ≡ with_loans ls (state_of w0)
  restored_thawed each =
      sym restored_state
      ∙ ap (λ (bs : List Numbered). state_of (record w { store = record (w.store) { blocks = bs } })) (blocks_back each)
      ∙ ap₂ (λ (bs : List Block) (ns : List ℕ). let s : WorldState = record (state_of w) { world = record ((state_of w).world) { blocks = bs }; numbers = ns } in s) world_is
      (numbers_stay put f.before (λ b i. refl))
