-- The next version, and types of a block marked with the present one.
use Rattle.std.proofs.Common.{◌≡◌, ℕ, ◌≤◌, Bool, true, false, cond, nat_eq, inl, inr, List, [], ◌∷◌, ◌++◌, length, map, refl, sym, ap, ap₂, ◌∙◌, subst, arith}
use Rattle.std.specs.Prelude.{⊤}
use Rattle.std.proofs.lemmas.List.{append-nil, append_assoc}
use Rattle.system_version.specs.declared.version.SystemVersion.{SystemVersion}
use Rattle.system_version.specs.Versions.{next_version, version_of}
use Rattle.world_model.specs.Members.{In, AreDistinct}
use Rattle.world_model.specs.Row.{Row}
use Rattle.world_model.specs.World.{Home, Block, Mark, World, mark_type, capacity}
use Rattle.world_model.specs.Found.{Found, placed_in, placed}
use Rattle.world_model.specs.Lawful.{IsLawfulBlock, IsLawfulHome, IsLawfulRow}
use Rattle.world_model.specs.Versions.{block_versions, IsLawfulCode}
use Rattle.world_model.specs.Write.{marked}
use Rattle.world_laws.proofs.Blocks.{marked_now}
use Rattle.world_laws.proofs.Members.{in_left, in_right, map_in}
use Rattle.world_laws.proofs.Replaced.{entity_of, raised_code, replaced_code}
use Rattle.world_laws.proofs.Versions.{marked_turned}
use Rattle.archetype_store.specs.Stores.{Numbered, StoreState, OfBlock, with_block, with_block_in}
use Rattle.world_places.specs.Placing.{home_of, world_block, world_blocks, world_of, numbers_of, types_marked}
use Rattle.world_places.proofs.Kept.{marks_placed}
use Rattle.world_places.proofs.Marks.{none_types, types_stay, rising_distinct}
use Rattle.world_places.proofs.Numbers.{block_equal, block_id, change, numbers_same, of_in, of_member}
use Rattle.world_places.proofs.Steps.{types_next, lawful_marks}
use Rattle.world_rows.specs.Marks.{all_marked}
use Rattle.world_rows.proofs.CodeLawful.{code_rows}
use Rattle.structural_ops.specs.Worlds.{WorldState, IsConsistent, state_of}
use Rattle.structural_ops.specs.Numbered.{by_number, types_written, with_each}
use Rattle.structural_ops.specs.declared.tables.Tables.{Tables}
use Rattle.structural_ops.proofs.Numbered.{block_by_number, by_number_versions, by_number_each, by_number_placed}

-- ---- the next version

module _ (w : Tables) (is : IsConsistent w) (next : SystemVersion) (same : next.0 ≡ next_version w.version.0) where
  pub raised_consistent : IsConsistent (record w { version = next })
  raised_consistent = record {
    agrees = record { placed = is.agrees.placed; registered = is.agrees.registered };
    lawful = subst (λ n. IsLawfulCode (capacity w.registry) (world_of w.registry w.store.blocks w.table.table n)) (sym same) (raised_code (capacity w.registry) (state_of w).world is.lawful);
  }

  pub raised_state : (old : WorldState) → state_of w ≡ old → state_of (record w { version = next }) ≡ record old { world = record (old.world) { moment = next_version old.world.moment } }
  raised_state old view =
      ap (λ n. record (state_of w) { world = record ((state_of w).world) { moment = n } }) same
      ∙ ap (λ (s : WorldState). record s { world = record (s.world) { moment = next_version s.world.moment } }) view

-- ---- the home of a block

row_in_block : (home : Home) (r : Row) (rows : List Row) → In r rows → In (let x : Found = record { home = home; row = r } in x) (placed_in home rows)
row_in_block home r [] i = i
row_in_block home r (q ∷ qs) (inl same) = inl (ap (λ (s : Row). let x : Found = record { home = home; row = s } in x) same)
row_in_block home r (q ∷ qs) (inr i) = inr (row_in_block home r qs i)

-- a row of a block is one of the world's
pub row_placed : (b : Block) (r : Row) (bs : List Block) → In b bs → In r b.rows → In (let x : Found = record { home = b.home; row = r } in x) (placed bs)
row_placed b r [] i j = absurd i
row_placed b r (c ∷ cs) (inl same) j =
    subst (λ (d : Block). In (let x : Found = record { home = b.home; row = r } in x) (placed_in d.home d.rows ++ placed cs)) same
    (in_left (let x : Found = record { home = b.home; row = r } in x) (placed_in b.home b.rows) (placed cs) (row_in_block b.home r b.rows j))
row_placed b r (c ∷ cs) (inr i) j = in_right (let x : Found = record { home = b.home; row = r } in x) (placed_in c.home c.rows) (placed cs) (row_placed b r cs i j)

module _ (w : Tables) (is : IsConsistent w) where
  pub home_lawful : (b : Numbered) → In b w.store.blocks → IsLawfulHome w.registry (home_of b)
  home_lawful b i = by b.block.rows refl (is.agrees.placed.filled b i)
    where
      by : (rows : List Row) → b.block.rows ≡ rows → 1 ≤ length rows → IsLawfulHome w.registry (home_of b)
      by [] same some = absurd (omega (arith, some))
      by (r ∷ rows) same some =
          let j : In r b.block.rows = subst (In r) (sym same) (inl refl) in
          (code_rows (capacity w.registry) (state_of w).world is.lawful (record { home = home_of b; row = r })
          (row_placed (world_block b) r (world_blocks w.store.blocks) (map_in world_block b w.store.blocks i) j)).home

  -- ---- marks

  marks_distinct : (b : Numbered) → In b w.store.blocks → AreDistinct (map mark_type b.block.marks)
  marks_distinct b i =
      subst AreDistinct (sym (lawful_marks (capacity w.registry) w.registry w.store.blocks w.table.table w.version.0 is.lawful b i)) (rising_distinct b.block.types (home_lawful b i).types)

  module _ (n : ℕ) (there : OfBlock n (λ _. ⊤) w.store.blocks) where
    abbrev now : ℕ
    now = w.version.0

    each : OfBlock n (λ b. AreDistinct (map mark_type b.marks)) w.store.blocks
    each =
        let (b, i, number, any) = of_member n (λ _. ⊤) w.store.blocks there in
        of_in n (λ b. AreDistinct (map mark_type b.block.marks)) w.store.blocks is.agrees.placed.numbers b i number (marks_distinct b i)

    marked_from : (before types : List ℕ) → all_marked n now types (with_block_in n (types_marked now before) w.store) ≡ with_block_in n (types_marked now (before ++ types)) w.store
    marked_from before [] = ap (λ ts. with_block_in n (types_marked now ts) w.store) (sym (append-nil before))
    marked_from before (t ∷ ts) =
        ap (λ (bs : List Numbered). all_marked n now ts (record (w.store) { blocks = bs })) (types_next n w.store.blocks is.agrees.placed.numbers t now before each)
        ∙ marked_from (before ++ t ∷ []) ts
        ∙ ap (λ us. with_block_in n (types_marked now us) w.store) (append_assoc before (t ∷ []) ts)

    -- types of a block marked one after another
    pub marked_at_once : (types : List ℕ) → all_marked n now types w.store ≡ with_block_in n (types_marked now types) w.store
    marked_at_once types =
        ap (λ (bs : List Numbered). all_marked n now types (record (w.store) { blocks = bs }))
        (sym (block_equal n (types_marked now []) (λ b. b) w.store.blocks (λ b. ap (λ (marks : List Mark). record b { marks = marks }) (none_types now b.marks)) ∙ block_id n w.store.blocks))
        ∙ marked_from [] types

    module _ (types : List ℕ) where
      abbrev marked_blocks : List Numbered
      marked_blocks = with_block n (types_marked now types) w.store.blocks

      here : (b : Numbered) → world_block (change n (types_marked now types) b) ≡ types_written n now types b.number (world_block b)
      here b = by (nat_eq b.number n)
        where
          by : (t : Bool) → world_block (cond t (record b { block = types_marked now types b.block }) b) ≡ cond t (record (world_block b) { marks = marked now types b.block.marks }) (world_block b)
          by true = refl
          by false = refl

      blocks_are : world_blocks marked_blocks ≡ by_number (types_written n now types) (numbers_of w.store.blocks) (world_blocks w.store.blocks)
      blocks_are = block_by_number n (types_marked now types) (types_written n now types) here w.store.blocks

      pub marked_state : state_of (record w { store = with_block_in n (types_marked now types) w.store }) ≡ with_each (types_written n now types) (state_of w)
      marked_state =
          ap₂ (λ (bs : List Block) (ns : List ℕ). let s : WorldState = record (state_of w) { world = record ((state_of w).world) { blocks = bs }; numbers = ns } in s) blocks_are
          (numbers_same n (types_marked now types) w.store.blocks)

      -- the world of moments that it stands for
      abbrev l : IsLawfulCode (capacity w.registry) (state_of w).world
      l = is.lawful

      abbrev v : ℕ → ℕ
      v = version_of l.first

      turned : (m : ℕ) (b : Block) → types_written n (v l.world.moment) types m (block_versions v b) ≡ block_versions v (types_written n l.world.moment types m b)
      turned m b = by (nat_eq m n)
        where
          by : (t : Bool) → cond t (record (block_versions v b) { marks = marked (v l.world.moment) types (block_versions v b).marks }) (block_versions v b)
              ≡ block_versions v (cond t (record b { marks = marked l.world.moment types b.marks }) b)
          by true = ap (λ (marks : List Mark). record (block_versions v b) { marks = marks }) (marked_turned v l.world.moment types b.marks)
          by false = refl

      home_stays : (m : ℕ) (b : Block) → (types_written n l.world.moment types m b).home ≡ b.home
      home_stays m b = by (nat_eq m n)
        where
          by : (t : Bool) → (cond t (record b { marks = marked l.world.moment types b.marks }) b).home ≡ b.home
          by true = refl
          by false = refl

      rows_stay : (m : ℕ) (b : Block) → (types_written n l.world.moment types m b).rows ≡ b.rows
      rows_stay m b = by (nat_eq m n)
        where
          by : (t : Bool) → (cond t (record b { marks = marked l.world.moment types b.marks }) b).rows ≡ b.rows
          by true = refl
          by false = refl

      block_stays : (m : ℕ) (b : Block) → IsLawfulBlock (capacity w.registry) l.world.moment b → IsLawfulBlock (capacity w.registry) l.world.moment (types_written n l.world.moment types m b)
      block_stays m b h = by (nat_eq m n)
        where
          by : (t : Bool) → IsLawfulBlock (capacity w.registry) l.world.moment (cond t (record b { marks = marked l.world.moment types b.marks }) b)
          by true = record {
            some = h.some;
            few = h.few;
            marked = types_stay l.world.moment types b.marks ∙ h.marked;
            marks = marked_now l.world.moment l.lawful.moment types b.marks h.marks;
            order = h.order;
          }
          by false = h

      abbrev later : List Block
      later = by_number (types_written n l.world.moment types) (numbers_of w.store.blocks) l.world.blocks

      placed_same : placed later ≡ placed l.world.blocks
      placed_same = by_number_placed (types_written n l.world.moment types) home_stays rows_stay (numbers_of w.store.blocks) l.world.blocks

      stands : world_blocks marked_blocks ≡ map (block_versions v) later
      stands =
          blocks_are
          ∙ ap₂ (λ (m : ℕ) (bs : List Block). by_number (types_written n m types) (numbers_of w.store.blocks) bs) (ap (λ (c : World). c.moment) l.stands) (ap (λ (c : World). c.blocks) l.stands)
          ∙ by_number_versions v (types_written n (v l.world.moment) types) (types_written n l.world.moment types) turned (numbers_of w.store.blocks) l.world.blocks

      pub marked_consistent : IsConsistent (record w { store = with_block_in n (types_marked now types) w.store })
      marked_consistent = record {
        agrees = record { placed = marks_placed is.agrees.placed n now types; registered = is.agrees.registered };
        lawful = subst (λ (bs : List Block). IsLawfulCode (capacity w.registry) (record ((state_of w).world) { blocks = bs })) (sym stands)
            (replaced_code (capacity w.registry) (state_of w).world l later (ap (map entity_of) placed_same)
            (λ x i. l.lawful.rows x (subst (In x) placed_same i))
            (by_number_each (IsLawfulBlock (capacity w.registry) l.world.moment) (types_written n l.world.moment types) block_stays (numbers_of w.store.blocks) l.world.blocks l.lawful.blocks));
      }
