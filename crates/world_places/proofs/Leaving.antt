-- A row leaves its block: the last one takes its place, and an emptied block goes.
use Rattle.std.proofs.Common.{◌≡◌, ℕ, suc, ◌+◌, ◌-◌, ◌<◌, ◌≤◌, ◌⊎◌, inl, inr, Bool, true, false, not, ◌&&◌, cond, nat_eq, List, [], ◌∷◌, ◌++◌, length, map, filter, swap_remove, slice_get, Option, Some, None, option_map, is_some, refl, sym, ap, ap₂, ◌∙◌, subst, arith}
use Rattle.std.specs.Bool.{MatchBool}
use Rattle.std.specs.Option.{IfSome}
use Rattle.std.proofs.lemmas.Bool.{eq-eqb, ne_eqb, eqb-true, eqb-false, cases_eq, cases_lt, not-true}
use Rattle.std.proofs.lemmas.Option.{none-some, same_Some, slice_get_past}
use Rattle.ent_types.specs.declared.entity.Entity.{Entity}
use Rattle.ent_types.specs.declared.type_info.TypeInfo.{TypeInfo}
use Rattle.ent_types.specs.Registries.{type_at}
use Rattle.ent_types.specs.Types.{is_shared}
use Rattle.entity_table.specs.declared.table.Place.{Place}
use Rattle.entity_table.specs.Table.{Table, place_of, IsAlive, alive_count, without}
use Rattle.world_model.specs.Members.{In, AreDistinct}
use Rattle.world_model.specs.Row.{Row}
use Rattle.world_model.specs.World.{Block}
use Rattle.world_model.specs.Found.{placed}
use Rattle.world_model.specs.Leave.{no_rows, leave, without_row as rows_without, left as block_left}
use Rattle.chunk_block.specs.Blocks.{BlockState, BlockType, IsWhole, no_row, new_types, new_type_of, shape_of}
use Rattle.archetype_store.specs.Stores.{Numbered, OfNumber, OfBlock, with_block, left, is_emptied, without_row}
use Rattle.world_laws.proofs.Members.{in_filter, filter_passes}
use Rattle.world_laws.proofs.Perms.{perm_length}
use Rattle.world_laws.proofs.Leaving.{leave_perm}
use Rattle.world_places.specs.Placing.{home_of, world_block, world_blocks, row_at, entity_at, numbers_of, AreAtPlaces, IsPlaced, order_marked, mover_in, with_mover}
use Rattle.world_places.proofs.Lists.{filter_same, map_twice, swap_other, swap_past, swap_last}
use Rattle.world_places.proofs.Rows.{entity_in, Only, Lacks, row_below, lacks_has, only_has, only_left}
use Rattle.world_places.proofs.Numbers.{change, change_yes, change_no, numbers_same, block_twice, of_changed, later_apart, row_at_in, row_at_none}
use Rattle.world_places.proofs.Looking.{place_is, there_is, has_of, had_of, one_has, one_tally, entity_there, place_at_row}
use Rattle.world_places.proofs.Kept.{changed_member, order_placed}
use Rattle.world_places.proofs.Tables.{Moves, mover_moves, mover_cases, entity_cases, alive_at_place, without_rebinds, without_count}

-- ---- nothing is lent in a block that is whole

pub appended_whole : (xs ys : List BlockType) → IsWhole xs → IsWhole ys → IsWhole (xs ++ ys)
appended_whole [] ys first second = second
appended_whole (x ∷ xs) ys first second = (first.0, appended_whole xs ys first.1 second)

pub new_whole : (registry : List TypeInfo) (types : List ℕ) → IsWhole (new_types registry types)
new_whole registry [] = tt
new_whole registry (t ∷ ts) = appended_whole (new_type_of registry t) (new_types registry ts) (by (is_shared (type_at registry t).kind)) (new_whole registry ts)
  where
    by : (b : Bool) → IsWhole (cond b [] (record { shape = shape_of registry t; lent = false } ∷ []))
    by true = tt
    by false = (refl, tt)

-- ---- the blocks that are left, one by one

module _ (n k : ℕ) where
  -- a block at the head, unless it is emptied
  abbrev put : List Numbered → Numbered → List Numbered
  put bs c = cond (not (is_emptied n c)) (c ∷ left n k bs) (left n k bs)

  pub left_other : (b : Numbered) (bs : List Numbered) → (b.number ≡ n → ⊥) → left n k (b ∷ bs) ≡ b ∷ left n k bs
  left_other b bs apart =
      let is = ne_eqb b.number n apart in
      ap (put bs) (change_no n (without_row k) b is)
      ∙ ap (λ t. cond (not (t && nat_eq (length b.block.rows) 0)) (b ∷ left n k bs) (left n k bs)) is

  left_kept : (b : Numbered) (bs : List Numbered) → b.number ≡ n → (length (swap_remove b.block.rows k no_row) ≡ 0 → ⊥)
      → left n k (b ∷ bs) ≡ record b { block = without_row k b.block } ∷ left n k bs
  left_kept b bs same some =
      let is = eq-eqb b.number n same in
      ap (put bs) (change_yes n (without_row k) b is)
      ∙ ap (λ t. cond (not (t && nat_eq (length (swap_remove b.block.rows k no_row)) 0)) (record b { block = without_row k b.block } ∷ left n k bs) (left n k bs)) is
      ∙ ap (λ t. cond (not t) (record b { block = without_row k b.block } ∷ left n k bs) (left n k bs)) (ne_eqb (length (swap_remove b.block.rows k no_row)) 0 some)

  left_gone : (b : Numbered) (bs : List Numbered) → b.number ≡ n → length (swap_remove b.block.rows k no_row) ≡ 0 → left n k (b ∷ bs) ≡ left n k bs
  left_gone b bs same none =
      let is = eq-eqb b.number n same in
      ap (put bs) (change_yes n (without_row k) b is)
      ∙ ap (λ t. cond (not (t && nat_eq (length (swap_remove b.block.rows k no_row)) 0)) (record b { block = without_row k b.block } ∷ left n k bs) (left n k bs)) is
      ∙ ap (λ t. cond (not t) (record b { block = without_row k b.block } ∷ left n k bs) (left n k bs)) (eq-eqb (length (swap_remove b.block.rows k no_row)) 0 none)

  -- the block of the number is kept with fewer rows, or goes
  pub left_this : (b : Numbered) (bs : List Numbered) (P : List Numbered → Type 0) → b.number ≡ n
      → ((length (swap_remove b.block.rows k no_row) ≡ 0 → ⊥) → P (record b { block = without_row k b.block } ∷ left n k bs))
      → (length (swap_remove b.block.rows k no_row) ≡ 0 → P (left n k bs)) → P (left n k (b ∷ bs))
  left_this b bs P same some none = by (cases_eq (length (swap_remove b.block.rows k no_row)) 0)
    where
      by : (length (swap_remove b.block.rows k no_row) ≡ 0) ⊎ (length (swap_remove b.block.rows k no_row) ≡ 0 → ⊥) → P (left n k (b ∷ bs))
      by (inl empty) = subst P (sym (left_gone b bs same empty)) (none empty)
      by (inr full) = subst P (sym (left_kept b bs same full)) (some full)

  pub left_none : (bs : List Numbered) → (In n (numbers_of bs) → ⊥) → left n k bs ≡ bs
  left_none [] none = refl
  left_none (b ∷ bs) none = left_other b bs (λ same. none (inl (sym same))) ∙ ap (λ cs. b ∷ cs) (left_none bs (λ i. none (inr i)))

  pub row_at_left_other : (bs : List Numbered) (m j : ℕ) → (m ≡ n → ⊥) → row_at (left n k bs) m j ≡ row_at bs m j
  row_at_left_other [] m j apart = refl
  row_at_left_other (b ∷ bs) m j apart = by (cases_eq b.number n) (row_at_left_other bs m j apart)
    where
      by : (b.number ≡ n) ⊎ (b.number ≡ n → ⊥) → row_at (left n k bs) m j ≡ row_at bs m j → row_at (left n k (b ∷ bs)) m j ≡ row_at (b ∷ bs) m j
      by (inl same) rest =
          let other : nat_eq b.number m ≡ false = ne_eqb b.number m (λ is. apart (sym is ∙ same)) in
          let after : row_at (b ∷ bs) m j ≡ row_at bs m j = ap (λ t. cond t (slice_get b.block.rows j) (row_at bs m j)) other in
          left_this b bs (λ cs. row_at cs m j ≡ row_at (b ∷ bs) m j) same
          (λ some. ap (λ t. cond t (slice_get (swap_remove b.block.rows k no_row) j) (row_at (left n k bs) m j)) other ∙ rest ∙ sym after)
          (λ none. rest ∙ sym after)
      by (inr other) rest =
          ap (λ cs. row_at cs m j) (left_other b bs other) ∙ ap (λ (r : Option Row). cond (nat_eq b.number m) (slice_get b.block.rows j) r) rest

  pub row_at_left : (bs : List Numbered) → AreDistinct (numbers_of bs) → (b : Numbered) → In b bs → b.number ≡ n → (j : ℕ)
      → row_at (left n k bs) n j ≡ slice_get (swap_remove b.block.rows k no_row) j
  row_at_left [] distinct b i number j = absurd i
  row_at_left (c ∷ cs) distinct b (inl is) number j =
      left_this c cs (λ ds. row_at ds n j ≡ slice_get (swap_remove c.block.rows k no_row) j) at
      (λ some. ap (λ t. cond t (slice_get (swap_remove c.block.rows k no_row) j) (row_at (left n k cs) n j)) (eq-eqb c.number n at))
      (λ none.
      ap (λ ds. row_at ds n j) (left_none cs absent) ∙ row_at_none cs n j absent
      ∙ sym (slice_get_past (swap_remove c.block.rows k no_row) j (omega arith)))
      ∙ ap (λ (d : Numbered). slice_get (swap_remove d.block.rows k no_row) j) (sym is)
    where
      at : c.number ≡ n
      at = ap (λ (d : Numbered). d.number) (sym is) ∙ number

      absent : In n (numbers_of cs) → ⊥
      absent i = distinct.0 (subst (λ m. In m (numbers_of cs)) (sym at) i)
  row_at_left (c ∷ cs) distinct b (inr i) number j =
      ap (λ ds. row_at ds n j) (left_other c cs other) ∙ ap (λ t. cond t (slice_get c.block.rows j) (row_at (left n k cs) n j)) (ne_eqb c.number n other)
      ∙ row_at_left cs distinct.1 b i number j
    where
      other : c.number ≡ n → ⊥
      other same = later_apart c cs distinct b i (same ∙ sym number)

pub number_kept : (keeps : Numbered → Bool) (m : ℕ) (bs : List Numbered) → In m (numbers_of (filter keeps bs)) → In m (numbers_of bs)
number_kept keeps m [] i = i
number_kept keeps m (b ∷ bs) i = by (keeps b) i (number_kept keeps m bs)
  where
    by : (t : Bool) → In m (numbers_of (cond t (b ∷ filter keeps bs) (filter keeps bs))) → (In m (numbers_of (filter keeps bs)) → In m (numbers_of bs)) → In m (numbers_of (b ∷ bs))
    by true (inl is) rest = inl is
    by true (inr j) rest = inr (rest j)
    by false j rest = inr (rest j)

numbers_kept : (keeps : Numbered → Bool) (bs : List Numbered) → AreDistinct (numbers_of bs) → AreDistinct (numbers_of (filter keeps bs))
numbers_kept keeps [] distinct = tt
numbers_kept keeps (b ∷ bs) distinct = by (keeps b) (numbers_kept keeps bs distinct.1)
  where
    by : (t : Bool) → AreDistinct (numbers_of (filter keeps bs)) → AreDistinct (numbers_of (cond t (b ∷ filter keeps bs) (filter keeps bs)))
    by true rest = (λ i. distinct.0 (number_kept keeps b.number bs i), rest)
    by false rest = rest

pub left_numbers : (n k : ℕ) (bs : List Numbered) → AreDistinct (numbers_of bs) → AreDistinct (numbers_of (left n k bs))
left_numbers n k bs distinct =
    numbers_kept (λ c. not (is_emptied n c)) (with_block n (without_row k) bs) (subst AreDistinct (sym (numbers_same n (without_row k) bs)) distinct)

-- another block than the one that a row leaves
pub of_other_left : (m n k : ℕ) (P : Numbered → Type 0) (bs : List Numbered) → (m ≡ n → ⊥) → OfNumber m P bs → OfNumber m P (left n k bs)
of_other_left m n k P [] apart h = h
of_other_left m n k P (b ∷ bs) apart h = by (cases_eq b.number n) (nat_eq b.number m) refl h (of_other_left m n k P bs apart)
  where
    by : (b.number ≡ n) ⊎ (b.number ≡ n → ⊥) → (t : Bool) → nat_eq b.number m ≡ t → MatchBool t (P b) (OfNumber m P bs) → (OfNumber m P bs → OfNumber m P (left n k bs))
        → OfNumber m P (left n k (b ∷ bs))
    by (inl same) true is h rest = absurd (apart (sym (eqb-true b.number m is) ∙ same))
    by (inl same) false is h rest =
        left_this n k b bs (OfNumber m P) same
        (λ some. subst (λ t. MatchBool t (P (record b { block = without_row k b.block })) (OfNumber m P (left n k bs))) (sym is) (rest h)) (λ none. rest h)
    by (inr other) true is h rest =
        subst (OfNumber m P) (sym (left_other n k b bs other)) (subst (λ t. MatchBool t (P b) (OfNumber m P (left n k bs))) (sym is) h)
    by (inr other) false is h rest =
        subst (OfNumber m P) (sym (left_other n k b bs other)) (subst (λ t. MatchBool t (P b) (OfNumber m P (left n k bs))) (sym is) (rest h))

-- what holds of a block that is left, by what it was
pub left_member : (n k : ℕ) (bs : List Numbered) (P : Numbered → Type 0)
    → ((b : Numbered) → In b bs → b.number ≡ n → 1 ≤ length (swap_remove b.block.rows k no_row) → P (record b { block = without_row k b.block }))
    → ((b : Numbered) → In b bs → (b.number ≡ n → ⊥) → P b) → (b : Numbered) → In b (left n k bs) → P b
left_member n k bs P here others b i =
    changed_member n (without_row k) bs (λ c. not (is_emptied n c) ≡ true → P c)
    (λ c j number stays. here c j number (by (length (swap_remove c.block.rows k no_row)) (subst (λ t. not (t && nat_eq (length (swap_remove c.block.rows k no_row)) 0) ≡ true) (eq-eqb c.number n number) stays)))
    (λ c j apart stays. others c j apart) b (in_filter (λ c. not (is_emptied n c)) b (with_block n (without_row k) bs) i)
    (filter_passes (λ c. not (is_emptied n c)) b (with_block n (without_row k) bs) i)
  where
    by : (count : ℕ) → not (nat_eq count 0) ≡ true → 1 ≤ count
    by count is = let some = eqb-false count 0 (not-true (nat_eq count 0) is) in omega arith

-- ---- of an entity's row

-- the entity has no place, and the one that moves has its place
pub record Leaves (old new : Table) (e : Entity) (p : Place) (m : Option Entity) : Type 0 where
  pub gone : place_of new e ≡ None
  pub moved : (d : Entity) → m ≡ Some d → place_of new d ≡ Some p
  pub others : (d : Entity) → (d ≡ e → ⊥) → (m ≡ Some d → ⊥) → place_of new d ≡ place_of old d

module _ {registry : List TypeInfo} {blocks : List Numbered} {table : Table} (placed_is : IsPlaced registry blocks table) (e : Entity) (p : Place) (at : place_of table e ≡ Some p) where
  abbrev rows : List Row
  rows = (there_is placed_is e p at).block.block.rows

  pub block_ready : OfBlock p.block (λ b. (p.row < length b.rows) × IsWhole b.columns) blocks
  block_ready =
      let is = there_is placed_is e p at in
      has_of is (λ b. (p.row < length b.block.rows) × IsWhole b.block.columns) (
        row_below is.block.block.rows p.row e (entity_there placed_is e p at is.block is.member is.number),
        subst IsWhole (sym (placed_is.whole is.block is.member)) (new_whole registry is.block.block.types),
      )

  pub leave_ready : (now : ℕ) → OfBlock p.block (λ b. (p.row < length b.rows) × IsWhole b.columns) (with_block p.block (order_marked now) blocks)
  leave_ready now = of_changed p.block (order_marked now) (λ b. (p.row < length b.block.rows) × IsWhole b.block.columns) blocks block_ready

  leave_here : (now : ℕ) (b : Numbered) → b.number ≡ p.block → Only e p.row b.block.rows
      → (not (is_emptied p.block (record b { block = without_row p.row (order_marked now b.block) })) ≡ not (no_rows (block_left now e (world_block b)).rows))
      × (world_block (record b { block = without_row p.row (order_marked now b.block) }) ≡ block_left now e (world_block b))
  leave_here now b number only = (
    ap (λ t. not (t && nat_eq (length (swap_remove b.block.rows p.row no_row)) 0)) (eq-eqb b.number p.block number)
        ∙ ap not (empties (swap_remove b.block.rows p.row no_row))
        ∙ ap (λ (c : Block). not (no_rows c.rows)) is,
    is,
  )
    where
      empties : (qs : List Row) → nat_eq (length qs) 0 ≡ no_rows qs
      empties [] = refl
      empties (q ∷ qs) = ne_eqb (length (q ∷ qs)) 0 (λ no_way. omega arith)

      is : world_block (record b { block = without_row p.row (order_marked now b.block) }) ≡ block_left now e (world_block b)
      is =
          ap (λ qs. let new : Block = record { home = home_of b; marks = b.block.marks; rows = qs; order = now } in new) (sym (only_left e p.row b.block.rows no_row only))
          ∙ ap (λ t. cond t (let new : Block = record { home = home_of b; marks = b.block.marks; rows = rows_without e b.block.rows; order = now } in new) (world_block b))
          (sym (only_has e p.row b.block.rows only))

  leave_other : (now : ℕ) (b : Numbered) → (b.number ≡ p.block → ⊥) → 1 ≤ length b.block.rows → Lacks e b.block.rows
      → (not (is_emptied p.block b) ≡ not (no_rows (block_left now e (world_block b)).rows)) × (world_block b ≡ block_left now e (world_block b))
  leave_other now b apart some lacks =
      (ap (λ t. not (t && nat_eq (length b.block.rows) 0)) (ne_eqb b.number p.block apart) ∙ ap not (fills b.block.rows some) ∙ ap (λ (c : Block). not (no_rows c.rows)) is, is)
    where
      fills : (qs : List Row) → 1 ≤ length qs → false ≡ no_rows qs
      fills [] some = absurd (omega arith)
      fills (q ∷ qs) some = refl

      is : world_block b ≡ block_left now e (world_block b)
      is =
          ap (λ t. cond t (let new : Block = record { home = home_of b; marks = b.block.marks; rows = rows_without e b.block.rows; order = now } in new) (world_block b))
          (sym (lacks_has e b.block.rows lacks))

  pub left_is : (now : ℕ) → world_blocks (left p.block p.row (with_block p.block (order_marked now) blocks)) ≡ leave now e (world_blocks blocks)
  unfolding leave
  left_is now =
      ap (λ cs. map world_block (filter (λ c. not (is_emptied p.block c)) cs)) (block_twice p.block (without_row p.row) (order_marked now) blocks)
      ∙ filter_same (change p.block (λ c. without_row p.row (order_marked now c))) (λ (c : Numbered). not (is_emptied p.block c)) world_block
      (λ (b : Numbered). block_left now e (world_block b)) (λ (c : Block). not (no_rows c.rows)) blocks (λ b i. by b i (nat_eq b.number p.block) refl)
      ∙ ap (filter (λ (c : Block). not (no_rows c.rows))) (sym (map_twice (block_left now e) world_block blocks))
    where
      f : BlockState → BlockState
      f c = without_row p.row (order_marked now c)

      Same : Numbered → Numbered → Type 0
      Same b c = (not (is_emptied p.block c) ≡ not (no_rows (block_left now e (world_block b)).rows)) × (world_block c ≡ block_left now e (world_block b))

      by : (b : Numbered) → In b blocks → (t : Bool) → nat_eq b.number p.block ≡ t → Same b (change p.block f b)
      by b i true is =
          let number = eqb-true b.number p.block is in
          subst (Same b) (sym (change_yes p.block f b is)) (leave_here now b number ((one_has placed_is e p at).here b i number))
      by b i false is =
          let apart = eqb-false b.number p.block is in
          subst (Same b) (sym (change_no p.block f b is)) (leave_other now b apart (placed_is.filled b i) ((one_has placed_is e p at).others b i apart))

  -- there is one row less
  leave_length : (now : ℕ) → length (placed (world_blocks blocks)) ≡ suc (length (placed (leave now e (world_blocks blocks))))
  leave_length now =
      let is = there_is placed_is e p at in
      perm_length (leave_perm now e (record { home = home_of is.block; row = is.row }) (world_blocks blocks)
      (one_tally e p.block p.row blocks placed_is.numbers (one_has placed_is e p at)) is.is_found)

  -- ---- the row that takes the place

  module _ (m : Option Entity) (mover : OfBlock p.block (λ b. m ≡ mover_in p.row b) blocks) where
    mover_is : m ≡ mover_in p.row (there_is placed_is e p at).block.block
    mover_is = had_of (there_is placed_is e p at) (λ b. m ≡ mover_in p.row b.block) mover

    -- it is the last row, and another one than the entity's
    mover_last : (d : Entity) → m ≡ Some d → (p.row < length rows - 1) × (entity_in rows (length rows - 1) ≡ Some d)
    mover_last d is = by (cases_lt p.row (length rows - 1))
      where
        by : (p.row < length rows - 1) ⊎ (length rows - 1 ≤ p.row) → (p.row < length rows - 1) × (entity_in rows (length rows - 1) ≡ Some d)
        by (inl below) = (below, sym (ap (option_map (λ (r : Row). r.entity)) (swap_last rows p.row no_row below)) ∙ sym mover_is ∙ is)
        by (inr past) = absurd (none-some d (sym (mover_is ∙ ap (option_map (λ (r : Row). r.entity)) (swap_past rows p.row p.row no_row past)) ∙ is))

    -- the last row is that of the one that moves, if it isn't the entity's
    last_moves : (d : Entity) → p.row < length rows - 1 → entity_in rows (length rows - 1) ≡ Some d → m ≡ Some d
    last_moves d below is = mover_is ∙ ap (option_map (λ (r : Row). r.entity)) (swap_last rows p.row no_row below) ∙ is

    mover_place : (d : Entity) → m ≡ Some d → place_of table d ≡ Some (record { block = p.block; row = length rows - 1 })
    mover_place d is =
        let at_last = there_is placed_is e p at in
        place_at_row placed_is at_last.block at_last.member (length rows - 1) d (mover_last d is).1
        ∙ ap (λ n. let q : Option Place = Some (record { block = n; row = length rows - 1 }) in q) at_last.number

    pub mover_alive : (d : Entity) → m ≡ Some d → IsAlive table d
    mover_alive d is = ap is_some (mover_place d is)

    pub mover_if_alive : IfSome m (IsAlive table)
    mover_if_alive = by m mover_alive
      where
        by : (o : Option Entity) → ((d : Entity) → o ≡ Some d → IsAlive table d) → IfSome o (IsAlive table)
        by None alive = tt
        by (Some d) alive = alive d refl

    mover_apart : m ≡ Some e → ⊥
    mover_apart is =
        let same = same_Some _ _ (sym at ∙ mover_place e is) in
        let row : p.row ≡ length rows - 1 = ap (λ (q : Place). q.row) same in
        let below = (mover_last e is).0 in
        omega arith

    pub mover_moved : Moves table (with_mover m p table) m p
    mover_moved = mover_moves table m p mover_alive

    -- it stays in its block
    pub mover_block : (d : Entity) → option_map (λ q. q.block) (place_of (with_mover m p table) d) ≡ option_map (λ q. q.block) (place_of table d)
    mover_block d = by (mover_cases m d)
      where
        by : (m ≡ Some d) ⊎ (m ≡ Some d → ⊥) → option_map (λ q. q.block) (place_of (with_mover m p table) d) ≡ option_map (λ q. q.block) (place_of table d)
        by (inl is) = ap (option_map (λ (q : Place). q.block)) (mover_moved.there d is) ∙ sym (ap (option_map (λ (q : Place). q.block)) (mover_place d is))
        by (inr other) = ap (option_map (λ (q : Place). q.block)) (mover_moved.others d other)

    pub left_alive : IsAlive (with_mover m p table) e
    left_alive = alive_at_place (with_mover m p table) e p (mover_moved.others e mover_apart ∙ at)

    leaves_is : Leaves table (without (with_mover m p table) e) e p m
    leaves_is =
        let ends = without_rebinds (with_mover m p table) e left_alive in
        record {
          gone = ends.there;
          moved = λ d is. ends.others d (λ same. mover_apart (is ∙ ap Some same)) ∙ mover_moved.there d is;
          others = λ d apart other. ends.others d apart ∙ mover_moved.others d other;
        }

    rows_left : (j : ℕ) → entity_at (left p.block p.row blocks) p.block j ≡ entity_in (swap_remove rows p.row no_row) j
    rows_left j =
        let is = there_is placed_is e p at in
        ap (option_map (λ (r : Row). r.entity)) (row_at_left p.block p.row blocks placed_is.numbers is.block is.member is.number j)

    rows_were : (j : ℕ) → entity_at blocks p.block j ≡ entity_in rows j
    rows_were j =
        let is = there_is placed_is e p at in
        ap (option_map (λ (r : Row). r.entity)) (row_at_in blocks placed_is.numbers is.block is.member p.block j is.number)

    other_rows : (n j : ℕ) → (n ≡ p.block → ⊥) → entity_at (left p.block p.row blocks) n j ≡ entity_at blocks n j
    other_rows n j apart = ap (option_map (λ (r : Row). r.entity)) (row_at_left_other p.block p.row blocks n j apart)

    -- a row that neither leaves nor moves is where it was
    still_there : (d : Entity) (j : ℕ) → (j ≡ p.row → ⊥) → (m ≡ Some d → ⊥) → entity_in rows j ≡ Some d → entity_in (swap_remove rows p.row no_row) j ≡ Some d
    still_there d j apart other is = by (cases_lt j (length rows - 1))
      where
        below : j < length rows
        below = row_below rows j d is

        first_below : p.row < length rows
        first_below =
            let is = there_is placed_is e p at in
            row_below rows p.row e (entity_there placed_is e p at is.block is.member is.number)

        by : (j < length rows - 1) ⊎ (length rows - 1 ≤ j) → entity_in (swap_remove rows p.row no_row) j ≡ Some d
        by (inl before) = ap (option_map (λ (r : Row). r.entity)) (swap_other rows p.row j no_row apart before) ∙ is
        by (inr last) =
            let same : j ≡ length rows - 1 = omega (arith, below) in
            absurd (other (last_moves d (omega (arith, below, first_below)) (ap (entity_in rows) (sym same) ∙ is)))

    -- a row that is there now was there, or moved
    was_there : (d : Entity) (j : ℕ) → (j ≡ p.row → ⊥) → entity_in (swap_remove rows p.row no_row) j ≡ Some d → (j < length rows - 1) × (entity_in rows j ≡ Some d)
    was_there d j apart is = by (cases_lt j (length rows - 1))
      where
        by : (j < length rows - 1) ⊎ (length rows - 1 ≤ j) → (j < length rows - 1) × (entity_in rows j ≡ Some d)
        by (inl before) = (before, sym (ap (option_map (λ (r : Row). r.entity)) (swap_other rows p.row j no_row apart before)) ∙ is)
        by (inr past) = absurd (none-some d (sym (ap (option_map (λ (r : Row). r.entity)) (swap_past rows p.row j no_row past)) ∙ is))

    module _ (new : Table) (leaves : Leaves table new e p m) where
      left_there : (d : Entity) (q : Place) → place_of new d ≡ Some q → entity_at (left p.block p.row blocks) q.block q.row ≡ Some d
      left_there d q is = by (entity_cases d e) (mover_cases m d)
        where
          stays : place_of table d ≡ Some q → (d ≡ e → ⊥) → (m ≡ Some d → ⊥) → (q.block ≡ p.block) ⊎ (q.block ≡ p.block → ⊥) → entity_at (left p.block p.row blocks) q.block q.row ≡ Some d
          stays was apart other (inl same) =
              let here : entity_in rows q.row ≡ Some d = sym (rows_were q.row) ∙ (ap (λ n. entity_at blocks n q.row) (sym same) ∙ placed_is.places.there d q was) in
              ap (λ n. entity_at (left p.block p.row blocks) n q.row) same ∙ rows_left q.row
              ∙ still_there d q.row (λ row. apart (same_Some d e (sym here ∙ (ap (entity_in rows) row ∙ (sym (rows_were p.row) ∙ placed_is.places.there e p at))))) other here
          stays was apart other (inr elsewhere) = other_rows q.block q.row elsewhere ∙ placed_is.places.there d q was

          by : (d ≡ e) ⊎ (d ≡ e → ⊥) → (m ≡ Some d) ⊎ (m ≡ Some d → ⊥) → entity_at (left p.block p.row blocks) q.block q.row ≡ Some d
          by (inl same) moves = absurd (none-some q (sym (ap (place_of new) same ∙ leaves.gone) ∙ is))
          by (inr apart) (inl moves) =
              let same : p ≡ q = same_Some p q (sym (leaves.moved d moves) ∙ is) in
              subst (λ (o : Place). entity_at (left p.block p.row blocks) o.block o.row ≡ Some d) same (rows_left p.row ∙ sym mover_is ∙ moves)
          by (inr apart) (inr other) = stays (sym (leaves.others d apart other) ∙ is) apart other (cases_eq q.block p.block)

      left_found : (d : Entity) (q : Place) → entity_at (left p.block p.row blocks) q.block q.row ≡ Some d → place_of new d ≡ Some q
      left_found d q is = by (cases_eq q.block p.block) (cases_eq q.row p.row)
        where
          by : (q.block ≡ p.block) ⊎ (q.block ≡ p.block → ⊥) → (q.row ≡ p.row) ⊎ (q.row ≡ p.row → ⊥) → place_of new d ≡ Some q
          by (inl block) (inl row) =
              let moves : m ≡ Some d =
              mover_is ∙ (sym (rows_left p.row) ∙ (ap₂ (λ n j. entity_at (left p.block p.row blocks) n j) (sym block) (sym row) ∙ is)) in
              leaves.moved d moves ∙ ap Some (sym (place_is q p.block p.row block row))
          by (inl block) (inr apart) =
              let now_there : entity_in (swap_remove rows p.row no_row) q.row ≡ Some d =
              sym (rows_left q.row) ∙ (ap (λ n. entity_at (left p.block p.row blocks) n q.row) (sym block) ∙ is) in
              let (before, here) = was_there d q.row apart now_there in
              let was : place_of table d ≡ Some q = placed_is.places.found d q (ap (λ n. entity_at blocks n q.row) block ∙ (rows_were q.row ∙ here)) in
              leaves.others d (λ same. apart (ap (λ (o : Place). o.row) (same_Some q p (sym was ∙ (ap (place_of table) same ∙ at)))))
              (λ moves.
              let last : q.row ≡ length rows - 1 = ap (λ (o : Place). o.row) (same_Some q _ (sym was ∙ mover_place d moves)) in
              omega arith)
              ∙ was
          by (inr elsewhere) any =
              let was : place_of table d ≡ Some q = placed_is.places.found d q (sym (other_rows q.block q.row elsewhere) ∙ is) in
              leaves.others d (λ same. elsewhere (ap (λ (o : Place). o.block) (same_Some q p (sym was ∙ (ap (place_of table) same ∙ at)))))
              (λ moves. elsewhere (ap (λ (o : Place). o.block) (same_Some q _ (sym was ∙ mover_place d moves))))
              ∙ was

    left_places : AreAtPlaces (without (with_mover m p table) e) (left p.block p.row blocks)
    left_places = record {
      there = left_there (without (with_mover m p table) e) leaves_is;
      found = left_found (without (with_mover m p table) e) leaves_is;
    }

    left_counted : alive_count (without (with_mover m p table) e) + 1 ≡ alive_count table
    left_counted = without_count (with_mover m p table) e left_alive ∙ mover_moved.count

-- the blocks and the table after a row has left
pub left_placed : {registry : List TypeInfo} {blocks : List Numbered} {table : Table} (placed_is : IsPlaced registry blocks table) (e : Entity) (p : Place) → place_of table e ≡ Some p
    → (m : Option Entity) → OfBlock p.block (λ b. m ≡ mover_in p.row b) blocks → (now : ℕ)
    → IsPlaced registry (left p.block p.row (with_block p.block (order_marked now) blocks)) (without (with_mover m p table) e)
left_placed {registry} {blocks} {table} placed_is e p at m mover now =
    let marked = order_placed placed_is p.block now in
    let moves = of_changed p.block (order_marked now) (λ b. m ≡ mover_in p.row b.block) blocks mover in
    record {
      numbers = left_numbers p.block p.row (with_block p.block (order_marked now) blocks) marked.numbers;
      filled = left_member p.block p.row (with_block p.block (order_marked now) blocks) (λ b. 1 ≤ length b.block.rows) (λ b i number some. some) (λ b i apart. marked.filled b i);
      whole = left_member p.block p.row (with_block p.block (order_marked now) blocks) (λ b. b.block.columns ≡ new_types registry b.block.types)
          (λ b i number some. marked.whole b i) (λ b i apart. marked.whole b i);
      places = left_places marked e p at m moves;
      counted =
          let one_less = leave_length placed_is e p at now in
          let alive = left_counted placed_is e p at m mover in
          let before = placed_is.counted in
          let same : length (placed (world_blocks (left p.block p.row (with_block p.block (order_marked now) blocks)))) ≡ length (placed (leave now e (world_blocks blocks))) =
          ap (λ bs. length (placed bs)) (left_is placed_is e p at now) in
          omega arith;
    }
