-- Loans in another order or as they were lent, and what a frozen world shares with the world before.
use Rattle.std.proofs.Common.{◌≡◌, ℕ, ◌+◌, ◌≤◌, ◌<◌, ◌∙◌, ◌&&◌, inl, inr, Bool, true, false, cond, nat_eq, List, [], ◌∷◌, ◌++◌, find, map, fold, length, sum_by, Option, Some, None, refl, sym, ap, ap₂, subst}
use Rattle.std.specs.Option.{option_or}
use Rattle.std.specs.Prelude.{IsPermutation, is_some, option_and_then, option_map}
use Rattle.std.proofs.lemmas.List.Sorted.{sum_by-IsPermutation}
use Rattle.ent_types.specs.declared.entity.Entity.{Entity}
use Rattle.ent_types.specs.declared.value.Value.{Value}
use Rattle.ent_types.specs.TypeSets.{has_type}
use Rattle.world_model.specs.Found.{Found, cell_at, found, is_of, part_at, placed, placed_in, values_of}
use Rattle.world_model.specs.Members.{In, AreDistinct, IsRising, one_if, tally}
use Rattle.world_model.specs.Part.{same_entity}
use Rattle.world_model.specs.Row.{Row, Cell, cell_type}
use Rattle.world_model.specs.World.{Home, Block, capacity}
use Rattle.world_laws.proofs.Members.{in_map, map_append, map_in}
use Rattle.block_columns.specs.Types.{TypeState}
use Rattle.chunk_block.specs.Blocks.{LoanState, column_types, given_rows, lent_cell, lent_row}
use Rattle.archetype_store.specs.Stores.{Numbered, IsStore}
use Rattle.world_places.specs.Placing.{home_of, world_block, world_blocks, numbers_of}
use Rattle.world_places.proofs.Lists.{map_same}
use Rattle.world_rows.proofs.CodeLawful.{code_rows}
use Rattle.world_rows.proofs.Reading.{own_rising}
use Rattle.world_loans.specs.Plans.{AreApart, lent_by, loan_from, loan_in, planned}
use Rattle.world_loans.specs.Returns.{is_piece, pieces_in, pieces_of}
use Rattle.world_loans.proofs.Cells.{given}
use Rattle.world_loans.proofs.Counted.{loan_number, piece_of_loan, pieces_tally}
use Rattle.world_loans.proofs.Fitting.{cells_distinct}
use Rattle.world_loans.proofs.Ordered.{given_same, lent_cells, loan_piece, member_permuted, members_permuted, own_cells, own_rows_back, rows_same}
use Rattle.structural_ops.specs.Freezing.{AreLoansOf, FrozenState, IsFrozen, IsPlan, frozen_by, frozen_of, is_lent, lent_of, loan_of, with_cells, with_loans}
use Rattle.structural_ops.specs.Numbered.{by_number, with_each}
use Rattle.structural_ops.specs.Worlds.{WorldState, IsConsistent, state_of}
use Rattle.structural_ops.specs.declared.tables.Tables.{Tables}
use Rattle.structural_ops.proofs.Freezing.{after, frozen_after, frozen_state, loan_here, loans_once, thawed}
use Rattle.structural_ops.proofs.Numbered.{each_by_number}
use Rattle.structural_ops.proofs.Present.{home_lawful, row_placed}
use Rattle.structural_ops.proofs.Restoring.{Once, restored_thawed}
use Rattle.structural_ops.proofs.Sighted.{held_of}
use Rattle.structural_ops.proofs.Unlent.{cell_held, cell_lent}

-- ---- another order

pub loans_permuted : (f : FrozenState) (xs ys : List LoanState) → AreLoansOf f xs → IsPermutation xs ys → AreLoansOf f ys
loans_permuted f xs ys of order = record {
  each = members_permuted _ xs ys order of.each;
  fit = members_permuted _ xs ys order of.fit;
  once = λ n t. sum_by-IsPermutation (pieces_in n t) xs ys order ∙ of.once n t;
}

-- blocks that are changed alike
blocks_alike : (f g : ℕ → Block → Block) (bs : List Numbered) → ((b : Numbered) → In b bs → f b.number (world_block b) ≡ g b.number (world_block b))
    → by_number f (numbers_of bs) (world_blocks bs) ≡ by_number g (numbers_of bs) (world_blocks bs)
blocks_alike f g [] same = refl
blocks_alike f g (b ∷ bs) same = ap₂ (λ (c : Block) (cs : List Block). c ∷ cs) (same b (inl refl)) (blocks_alike f g bs (λ c i. same c (inr i)))

module _ (w : Tables) (is : IsConsistent w) where
  row_distinct : (b : Numbered) → In b w.store.blocks → (r : Row) → In r b.block.rows → AreDistinct (map cell_type r.cells)
  row_distinct b i r j =
      cells_distinct w.registry b.block.types r.cells (home_lawful w is b i).types
      (code_rows (capacity w.registry) (state_of w).world is.lawful (record { home = home_of b; row = r })
      (row_placed (world_block b) r (world_blocks w.store.blocks) (map_in world_block b w.store.blocks i) j)).cells

  row_rising : (b : Numbered) → In b w.store.blocks → (r : Row) → In r b.block.rows → IsRising (map cell_type r.cells)
  row_rising b i r j =
      own_rising w.registry (record { home = home_of b; row = r })
      (code_rows (capacity w.registry) (state_of w).world is.lawful (record { home = home_of b; row = r })
      (row_placed (world_block b) r (world_blocks w.store.blocks) (map_in world_block b w.store.blocks i) j))

  -- loans give the world the same cells in another order
  with_permuted : (xs ys : List LoanState) → IsPermutation xs ys → (lent : ℕ → List ℕ) → ((n t : ℕ) → sum_by (pieces_in n t) xs ≡ one_if (has_type (lent n) t)) → with_loans ys (state_of w) ≡ with_loans xs (state_of w)
  with_permuted xs ys order lent once =
      ap (λ (bs : List Block). let s : WorldState = record (state_of w) { world = record ((state_of w).world) { blocks = bs } } in s)
      (blocks_alike (with_cells ys) (with_cells xs) w.store.blocks (λ b i.
      ap (λ (rs : List Row). record (world_block b) { rows = rs })
      (rows_same (pieces_of ys b.number) (pieces_of xs b.number) b.block.rows (row_distinct b i)
      (λ k within c j.
      sym (given_same k (pieces_of xs b.number) (pieces_of ys b.number) c.type_id (record { values = c.values; off = c.off }) (has_type (lent b.number) c.type_id)
      (pieces_tally b.number c.type_id xs ∙ once b.number c.type_id)
      (pieces_tally b.number c.type_id ys ∙ sum_by-IsPermutation (pieces_in b.number c.type_id) xs ys order ∙ once b.number c.type_id)
      (λ q h. let (l, m, number, has) = piece_of_loan b.number ys q h in loan_piece b.number xs l q (member_permuted xs ys order l m) number has))))))

-- of a frozen world
pub frozen_permuted : (w : Tables) (f : IsFrozen w) (xs ys : List LoanState) → Once w f xs → IsPermutation xs ys → with_loans ys (state_of w) ≡ with_loans xs (state_of w)
frozen_permuted w f xs ys once order =
    restored_thawed w f ys (λ n t. sum_by-IsPermutation (pieces_in n t) xs ys order ∙ once n t)
    ∙ with_permuted (thawed w f) f.consistent xs ys order (lent_of (frozen_of w)) once
    ∙ sym (restored_thawed w f xs once)

-- ---- as they were lent

module _ (w : Tables) (is : IsConsistent w) (plan : List (ℕ × List ℕ)) where
  pub written_back : (loans : List LoanState) → Once (after w is plan) (frozen_after w is plan) loans → with_loans loans (frozen_of (after w is plan)).state ≡ with_loans loans (state_of w)
  written_back loans once = restored_thawed (after w is plan) (frozen_after w is plan) loans once

  -- the loans of a plan have the world's own cells
  own_back : with_loans (map (λ e. loan_in e w.store.blocks) plan) (state_of w) ≡ state_of w
  own_back =
      ap (λ (bs : List Block). let s : WorldState = record (state_of w) { world = record ((state_of w).world) { blocks = bs } } in s)
      (blocks_alike (with_cells loans) (λ n b. b) w.store.blocks (λ b i.
      ap (λ (rs : List Row). record (world_block b) { rows = rs })
      (own_rows_back (pieces_of loans b.number) b.block.rows (row_rising w is b i) (row_distinct w is b i) (own b i)))
      ∙ none w.store.blocks)
    where
      loans : List LoanState
      loans = map (λ e. loan_in e w.store.blocks) plan

      none : (bs : List Numbered) → by_number (λ n b. b) (numbers_of bs) (world_blocks bs) ≡ world_blocks bs
      none [] = refl
      none (b ∷ bs) = ap (λ (cs : List Block). world_block b ∷ cs) (none bs)

      own : (b : Numbered) → In b w.store.blocks → (p : TypeState) → In p (pieces_of loans b.number) → p.cells ≡ own_cells b.block.rows p
      own b i p j =
          let (l, k, number, has) = piece_of_loan b.number loans p j in
          let (e, m, same) = in_map (λ e. loan_in e w.store.blocks) l plan k in
          let here : b.number ≡ e.0 = sym number ∙ ap (λ (x : LoanState). x.number) same ∙ loan_number e w.store.blocks in
          let from : l ≡ loan_from e b.block = same ∙ loan_here e b w.store.blocks is.agrees.placed.numbers i here in
          lent_cells e.1 b.block.capacity b.block.rows b.block.columns p (subst (λ (x : LoanState). In p x.pieces) from has)

  pub unwritten_back : IsStore w.store → (h : IsPlan plan (state_of w)) (loans : List LoanState) → IsPermutation (map (λ e. loan_in e w.store.blocks) plan) loans
      → with_loans loans (frozen_of (after w is plan)).state ≡ state_of w
  unwritten_back store h loans order =
      let once = loans_once w is store plan h in
      frozen_permuted (after w is plan) (frozen_after w is plan) (map (λ e. loan_in e w.store.blocks) plan) loans once order
      ∙ written_back (map (λ e. loan_in e w.store.blocks) plan) once
      ∙ own_back

-- ---- what is read

module _ {A : Type 0} (seen : Found → A) where
  abbrev pair : Found → Entity × A
  pair x = (x.row.entity, seen x)

  abbrev first_of : Entity → List (Entity × A) → Option A
  first_of e [] = None
  first_of e (p ∷ ps) = cond (same_entity e p.0) (Some p.1) (first_of e ps)

  found_first : (e : Entity) (xs : List Found) → option_map seen (find (is_of e) xs) ≡ first_of e (map pair xs)
  found_first e [] = refl
  found_first e (x ∷ xs) = by (same_entity e x.row.entity) (found_first e xs)
    where
      by : (b : Bool) → option_map seen (find (is_of e) xs) ≡ first_of e (map pair xs) → option_map seen (cond b (Some x) (find (is_of e) xs)) ≡ cond b (Some (seen x)) (first_of e (map pair xs))
      by true rest = refl
      by false rest = rest

  rows_seen : (home : Home) (ts : List ℕ) (rows : List Row) → ((r : Row) → In r rows → seen (record { home = home; row = lent_row ts r }) ≡ seen (record { home = home; row = r }))
      → map pair (placed_in home (map (lent_row ts) rows)) ≡ map pair (placed_in home rows)
  rows_seen home ts [] same = refl
  rows_seen home ts (r ∷ rs) same = ap₂ (λ (a : A) (ps : List (Entity × A)). (r.entity, a) ∷ ps) (same r (inl refl)) (rows_seen home ts rs (λ q i. same q (inr i)))

  blocks_seen : (types : ℕ → List ℕ) (bs : List Numbered)
      → ((b : Numbered) → In b bs → (r : Row) → In r b.block.rows → seen (record { home = home_of b; row = lent_row (types b.number) r }) ≡ seen (record { home = home_of b; row = r }))
      → map pair (placed (world_blocks (map (lent_by types) bs))) ≡ map pair (placed (world_blocks bs))
  blocks_seen types [] same = refl
  blocks_seen types (b ∷ bs) same =
      map_append pair (placed_in (home_of b) (map (lent_row (types b.number)) b.block.rows)) (placed (world_blocks (map (lent_by types) bs)))
      ∙ ap₂ (λ (ps qs : List (Entity × A)). ps ++ qs) (rows_seen (home_of b) (types b.number) b.block.rows (same b (inl refl))) (blocks_seen types bs (λ c i. same c (inr i)))
      ∙ sym (map_append pair (placed_in (home_of b) b.block.rows) (placed (world_blocks bs)))

  pub found_seen : (types : ℕ → List ℕ) (bs : List Numbered)
      → ((b : Numbered) → In b bs → (r : Row) → In r b.block.rows → seen (record { home = home_of b; row = lent_row (types b.number) r }) ≡ seen (record { home = home_of b; row = r }))
      → (e : Entity) → option_map seen (found e (world_blocks (map (lent_by types) bs))) ≡ option_map seen (found e (world_blocks bs))
  found_seen types bs same e =
      found_first e (placed (world_blocks (map (lent_by types) bs))) ∙ ap (first_of e) (blocks_seen types bs same) ∙ sym (found_first e (placed (world_blocks bs)))

joined : {A B : Type 0} (f : A → Option B) (o : Option A) → option_and_then f o ≡ option_and_then (λ x. x) (option_map f o)
joined f None = refl
joined f (Some a) = refl

module _ (w : Tables) (is : IsConsistent w) (plan : List (ℕ × List ℕ)) where
  abbrev lent : List Block
  lent = world_blocks (map (lent_by (planned plan)) w.store.blocks)

  pub alive_same : (e : Entity) → is_some (found e lent) ≡ is_some (found e (world_blocks w.store.blocks))
  alive_same e = sym (kept (found e lent)) ∙ ap is_some (found_seen (λ x. x.home) (planned plan) w.store.blocks (λ b i r j. refl) e) ∙ kept (found e (world_blocks w.store.blocks))
    where
      kept : (o : Option Found) → is_some (option_map (λ (x : Found). x.home) o) ≡ is_some o
      kept None = refl
      kept (Some x) = refl

  pub types_same : (e : Entity) → option_map (λ (x : Found). x.home.types) (found e lent) ≡ option_map (λ (x : Found). x.home.types) (found e (world_blocks w.store.blocks))
  types_same e = found_seen (λ x. x.home.types) (planned plan) w.store.blocks (λ b i r j. refl) e

  pub has_same : (t : ℕ) (e : Entity) → is_some (option_and_then (values_of t) (found e lent)) ≡ is_some (option_and_then (values_of t) (found e (world_blocks w.store.blocks)))
  has_same t e =
      tests (found e lent)
      ∙ ap (or_else false) (found_seen (λ x. is_some (values_of t x)) (planned plan) w.store.blocks (λ b i r j. cell_there b r) e)
      ∙ sym (tests (found e (world_blocks w.store.blocks)))
    where
      or_else : Bool → Option Bool → Bool
      or_else b None = b
      or_else b (Some c) = c

      tests : (o : Option Found) → is_some (option_and_then (values_of t) o) ≡ or_else false (option_map (λ x. is_some (values_of t x)) o)
      tests None = refl
      tests (Some x) = refl

      cell_there : (b : Numbered) (r : Row) → is_some (values_of t (record { home = home_of b; row = lent_row (planned plan b.number) r })) ≡ is_some (values_of t (record { home = home_of b; row = r }))
      cell_there b r =
          ap (λ (o : Option Cell). is_some (option_or (option_map (λ (c : Cell). c.values) o) (part_at t b.shared))) (cell_lent (planned plan b.number) t r.cells)
          ∙ by (cell_at t r.cells)
        where
          by : (o : Option Cell) → is_some (option_or (option_map (λ (c : Cell). c.values) (option_map (lent_cell (planned plan b.number)) o)) (part_at t b.shared))
              ≡ is_some (option_or (option_map (λ (c : Cell). c.values) o) (part_at t b.shared))
          by None = refl
          by (Some c) = refl

  module _ (t : ℕ) (held : is_lent (frozen_of (after w is plan)) t ≡ false) where
    cell_stays : (b : Numbered) → In b w.store.blocks → (r : Row) → In r b.block.rows → cell_at t (lent_row (planned plan b.number) r).cells ≡ cell_at t r.cells
    cell_stays b i r j =
        cell_held (planned plan b.number) t r.cells
        (λ own. held_of (after w is plan) (frozen_after w is plan) t held b i
        (subst (In t) (code_rows (capacity w.registry) (state_of w).world is.lawful (record { home = home_of b; row = r })
        (row_placed (world_block b) r (world_blocks w.store.blocks) (map_in world_block b w.store.blocks i) j)).cells.types_are own))

    pub values_same : (e : Entity) → option_and_then (values_of t) (found e lent) ≡ option_and_then (values_of t) (found e (world_blocks w.store.blocks))
    values_same e =
        joined (values_of t) (found e lent)
        ∙ ap (option_and_then (λ x. x)) (found_seen (values_of t) (planned plan) w.store.blocks
        (λ b i r j. ap (λ (o : Option Cell). option_or (option_map (λ (c : Cell). c.values) o) (part_at t b.shared)) (cell_stays b i r j)) e)
        ∙ sym (joined (values_of t) (found e (world_blocks w.store.blocks)))

    pub cells_same : (e : Entity) → option_and_then (λ (x : Found). cell_at t x.row.cells) (found e lent) ≡ option_and_then (λ (x : Found). cell_at t x.row.cells) (found e (world_blocks w.store.blocks))
    cells_same e =
        joined (λ (x : Found). cell_at t x.row.cells) (found e lent)
        ∙ ap (option_and_then (λ x. x)) (found_seen (λ x. cell_at t x.row.cells) (planned plan) w.store.blocks cell_stays e)
        ∙ sym (joined (λ (x : Found). cell_at t x.row.cells) (found e (world_blocks w.store.blocks)))
