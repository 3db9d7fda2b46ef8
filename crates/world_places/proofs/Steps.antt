-- The steps by which a row is filled or written, as one change of its block.
use Rattle.std.proofs.Common.{slice_get, Some, ◌≡◌, ℕ, ◌<◌, List, [], ◌∷◌, ◌++◌, length, map, fold, slice_set, refl, sym, ap, ◌∙◌, subst}
use Rattle.std.proofs.lemmas.List.{get_or-set_same, set-get_or}
use Rattle.std.proofs.lemmas.Option.{get_or_from_slice_get}
use Rattle.std.proofs.Math.Seq.{get_or-append_seam, set-append_seam}
use Rattle.ent_types.specs.declared.entity.Entity.{Entity}
use Rattle.ent_types.specs.declared.type_info.TypeInfo.{TypeInfo}
use Rattle.entity_table.specs.declared.table.Place.{Place}
use Rattle.entity_table.specs.Table.{Table}
use Rattle.system_version.specs.Versions.{version_of}
use Rattle.world_model.specs.Members.{In, AreDistinct}
use Rattle.world_model.specs.Row.{Row}
use Rattle.world_model.specs.World.{Mark, Block, World, mark_type}
use Rattle.world_model.specs.Enter.{marks_at}
use Rattle.world_model.specs.Write.{marked}
use Rattle.world_model.specs.Versions.{IsLawfulCode, block_versions, mark_versions}
use Rattle.chunk_block.specs.Blocks.{BlockState, BlockType, new_row, no_row, row_in, with_mark}
use Rattle.archetype_store.specs.Stores.{Numbered, OfBlock, with_block}
use Rattle.world_laws.proofs.Members.{in_map, map_in}
use Rattle.world_places.specs.Placing.{world_block, world_of, numbers_of, IsThere, with_row, types_marked, order_marked, row_pushed, row_entered}
use Rattle.world_places.proofs.Lists.{set_twice}
use Rattle.world_places.proofs.Numbers.{block_apart, block_id, block_twice, block_same, block_equal, of_more}
use Rattle.world_places.proofs.Looking.{has_of}
use Rattle.world_places.proofs.Marks.{mark_is, mark_next, none_types, marked_all, all_marked}

-- types marked one after another, as one change
folded : (n now : ℕ) (types : List ℕ) (bs : List Numbered)
    → fold (λ cs t. with_block n (λ b. record b { marks = with_mark t now b.marks }) cs) bs types ≡ with_block n (λ b. record b { marks = fold (λ ms t. with_mark t now ms) b.marks types }) bs
folded n now [] bs = sym (block_id n bs)
folded n now (t ∷ ts) bs =
    folded n now ts (with_block n (λ b. record b { marks = with_mark t now b.marks }) bs)
    ∙ block_twice n (λ b. record b { marks = fold (λ ms u. with_mark u now ms) b.marks ts }) (λ b. record b { marks = with_mark t now b.marks }) bs

module _ (n : ℕ) (bs : List Numbered) (distinct : AreDistinct (numbers_of bs)) where
  -- ---- a new row

  pub pushed_is : (columns : List BlockType) (e : Entity) → OfBlock n (λ b. b.columns ≡ columns) bs
      → with_block n (λ b. record b { rows = b.rows ++ new_row b.columns e ∷ [] }) bs ≡ with_block n (row_pushed (new_row columns e)) bs
  pushed_is columns e is =
      block_same n (λ b. record b { rows = b.rows ++ new_row b.columns e ∷ [] }) (row_pushed (new_row columns e)) bs distinct
      (of_more n (λ b. b.block.columns ≡ columns) (λ b. record (b.block) { rows = b.block.rows ++ new_row b.block.columns e ∷ [] } ≡ row_pushed (new_row columns e) b.block) bs
      (λ b same. ap (λ cs. record (b.block) { rows = b.block.rows ++ new_row cs e ∷ [] }) same) is)

  -- the new row changed
  pub pushed_changed : (k : ℕ) (f : Row → Row) (row : Row) → OfBlock n (λ b. k ≡ length b.rows) bs
      → with_block n (λ b. record b { rows = slice_set b.rows k (f (row_in k b.rows)) }) (with_block n (row_pushed row) bs) ≡ with_block n (row_pushed (f row)) bs
  pushed_changed k f row last =
      block_twice n (λ b. record b { rows = slice_set b.rows k (f (row_in k b.rows)) }) (row_pushed row) bs
      ∙ block_same n (λ b. record b { rows = slice_set (b.rows ++ row ∷ []) k (f (row_in k (b.rows ++ row ∷ []))) }) (row_pushed (f row)) bs distinct
      (of_more n (λ b. k ≡ length b.block.rows)
      (λ b. record (b.block) { rows = slice_set (b.block.rows ++ row ∷ []) k (f (row_in k (b.block.rows ++ row ∷ []))) } ≡ row_pushed (f row) b.block) bs
      (λ b same. ap (λ rows. record (b.block) { rows = rows }) (by b.block.rows same)) last)
    where
      by : (rows : List Row) → k ≡ length rows → slice_set (rows ++ row ∷ []) k (f (row_in k (rows ++ row ∷ []))) ≡ rows ++ f row ∷ []
      by rows same =
          ap (λ j. slice_set (rows ++ row ∷ []) j (f (row_in j (rows ++ row ∷ [])))) same
          ∙ ap (λ r. slice_set (rows ++ row ∷ []) (length rows) (f r)) (get_or-append_seam rows row [] no_row)
          ∙ set-append_seam rows row [] (f row)

  -- then each type and the order marked
  pub pushed_entered : (now : ℕ) (types : List ℕ) (row : Row) → OfBlock n (λ b. b.types ≡ types) bs
      → with_block n (order_marked now) (with_block n (λ b. record b { marks = marks_at now types }) (with_block n (row_pushed row) bs)) ≡ with_block n (row_entered now row) bs
  pushed_entered now types row is =
      ap (with_block n (order_marked now)) (block_twice n (λ b. record b { marks = marks_at now types }) (row_pushed row) bs)
      ∙ block_twice n (order_marked now) (λ b. record b { rows = b.rows ++ row ∷ []; marks = marks_at now types }) bs
      ∙ block_same n (λ b. record b { rows = b.rows ++ row ∷ []; marks = marks_at now types; order = now }) (row_entered now row) bs distinct
      (of_more n (λ b. b.block.types ≡ types) (λ b. record (b.block) { rows = b.block.rows ++ row ∷ []; marks = marks_at now types; order = now } ≡ row_entered now row b.block) bs
      (λ b same. ap (λ ts. record (b.block) { rows = b.block.rows ++ row ∷ []; marks = marks_at now ts; order = now }) (sym same)) is)

  -- ---- a row in its place

  pub row_changed : (k : ℕ) (f : Row → Row) (row : Row) → OfBlock n (λ b. k < length b.rows) bs
      → with_block n (λ b. record b { rows = slice_set b.rows k (f (row_in k b.rows)) }) (with_block n (with_row k row) bs) ≡ with_block n (with_row k (f row)) bs
  row_changed k f row below =
      block_twice n (λ b. record b { rows = slice_set b.rows k (f (row_in k b.rows)) }) (with_row k row) bs
      ∙ block_same n (λ b. record b { rows = slice_set (slice_set b.rows k row) k (f (row_in k (slice_set b.rows k row))) }) (with_row k (f row)) bs distinct
      (of_more n (λ b. k < length b.block.rows)
      (λ b. record (b.block) { rows = slice_set (slice_set b.block.rows k row) k (f (row_in k (slice_set b.block.rows k row))) } ≡ with_row k (f row) b.block) bs
      (λ b here. ap (λ rows. record (b.block) { rows = rows }) (by b.block.rows here)) below)
    where
      by : (rows : List Row) → k < length rows → slice_set (slice_set rows k row) k (f (row_in k (slice_set rows k row))) ≡ slice_set rows k (f row)
      by rows here =
          ap (λ r. slice_set (slice_set rows k row) k (f r)) (get_or-set_same rows k row no_row here) ∙ set_twice rows k row (f row)

  -- the row that is there
  pub row_same : (k : ℕ) (row : Row) → OfBlock n (λ b. slice_get b.rows k ≡ Some row) bs → with_block n (with_row k row) bs ≡ bs
  row_same k row at =
      block_same n (with_row k row) (λ b. b) bs distinct
      (of_more n (λ b. slice_get b.block.rows k ≡ Some row) (λ b. with_row k row b.block ≡ b.block) bs
      (λ b is. ap (λ rows. record (b.block) { rows = rows })
      (ap (slice_set b.block.rows k) (sym (get_or_from_slice_get b.block.rows k row no_row is)) ∙ set-get_or b.block.rows k no_row)) at)
      ∙ block_id n bs

  -- and a type marked
  pub row_marked : (k t now : ℕ) (row : Row) → OfBlock n (λ b. AreDistinct (map mark_type b.marks)) bs
      → with_block n (λ b. record b { marks = with_mark t now b.marks }) (with_block n (with_row k row) bs) ≡ with_block n (λ b. types_marked now (t ∷ []) (with_row k row b)) bs
  row_marked k t now row each =
      block_twice n (λ b. record b { marks = with_mark t now b.marks }) (with_row k row) bs
      ∙ block_same n (λ b. record b { rows = slice_set b.rows k row; marks = with_mark t now b.marks }) (λ b. types_marked now (t ∷ []) (with_row k row b)) bs distinct
      (of_more n (λ b. AreDistinct (map mark_type b.block.marks))
      (λ b. record (b.block) { rows = slice_set b.block.rows k row; marks = with_mark t now b.block.marks } ≡ types_marked now (t ∷ []) (with_row k row b.block)) bs
      (λ b once. ap (λ marks. record (b.block) { rows = slice_set b.block.rows k row; marks = marks }) (mark_is t now b.block.marks once)) each)

  -- ---- types marked one after another

  pub types_next : (t now : ℕ) (before : List ℕ) → OfBlock n (λ b. AreDistinct (map mark_type b.marks)) bs
      → with_block n (λ b. record b { marks = with_mark t now b.marks }) (with_block n (types_marked now before) bs) ≡ with_block n (types_marked now (before ++ t ∷ [])) bs
  types_next t now before each =
      block_twice n (λ b. record b { marks = with_mark t now b.marks }) (types_marked now before) bs
      ∙ block_same n (λ b. record b { marks = with_mark t now (marked now before b.marks) }) (types_marked now (before ++ t ∷ [])) bs distinct
      (of_more n (λ b. AreDistinct (map mark_type b.block.marks))
      (λ b. record (b.block) { marks = with_mark t now (marked now before b.block.marks) } ≡ types_marked now (before ++ t ∷ []) b.block) bs
      (λ b once. ap (λ marks. record (b.block) { marks = marks }) (mark_next t now before b.block.marks once)) each)

  pub types_all : (now : ℕ) (types : List ℕ) → OfBlock n (λ b. map mark_type b.marks ≡ types) bs → with_block n (types_marked now types) bs ≡ with_block n (λ b. record b { marks = marks_at now types }) bs
  types_all now types each =
      block_same n (types_marked now types) (λ b. record b { marks = marks_at now types }) bs distinct
      (of_more n (λ b. map mark_type b.block.marks ≡ types) (λ b. types_marked now types b.block ≡ record (b.block) { marks = marks_at now types }) bs
      (λ b same. ap (λ marks. record (b.block) { marks = marks }) (marked_all now types b.block.marks same)) each)

  pub types_folded : (now : ℕ) (types : List ℕ) → AreDistinct types → OfBlock n (λ b. map mark_type b.marks ≡ types) bs
      → fold (λ cs t. with_block n (λ b. record b { marks = with_mark t now b.marks }) cs) bs types ≡ with_block n (λ b. record b { marks = marks_at now types }) bs
  types_folded now types once each =
      folded n now types bs
      ∙ block_same n (λ b. record b { marks = fold (λ ms t. with_mark t now ms) b.marks types }) (λ b. record b { marks = marks_at now types }) bs distinct
      (of_more n (λ b. map mark_type b.block.marks ≡ types) (λ b. record (b.block) { marks = fold (λ ms t. with_mark t now ms) b.block.marks types } ≡ record (b.block) { marks = marks_at now types }) bs
      (λ b same. ap (λ marks. record (b.block) { marks = marks }) (all_marked now types b.block.marks once same)) each)

-- ---- a row of one block, while another block changes

module _ (m n k : ℕ) (f : BlockState → BlockState) (row : Row) (bs : List Numbered) (apart : m ≡ n → ⊥) where
  -- the row changed again
  pub beside_changed : (g : Row → Row) → AreDistinct (numbers_of bs) → OfBlock n (λ b. k < length b.rows) bs
      → with_block n (λ b. record b { rows = slice_set b.rows k (g (row_in k b.rows)) }) (with_block m f (with_block n (with_row k row) bs))
      ≡ with_block m f (with_block n (with_row k (g row)) bs)
  beside_changed g distinct below =
      block_apart n m (λ b. record b { rows = slice_set b.rows k (g (row_in k b.rows)) }) f (with_block n (with_row k row) bs) (λ same. apart (sym same))
      ∙ ap (with_block m f) (row_changed n bs distinct k g row below)

  -- and the order of its block marked
  pub beside_marked : (now : ℕ) → with_block n (order_marked now) (with_block m f (with_block n (with_row k row) bs))
      ≡ with_block n (λ b. order_marked now (with_row k row b)) (with_block m f bs)
  beside_marked now =
      ap (with_block n (order_marked now)) (block_apart m n f (with_row k row) bs apart) ∙ block_twice n (order_marked now) (with_row k row) (with_block m f bs)

-- no type marked
pub row_unmarked : (n k now : ℕ) (row : Row) (bs : List Numbered) → with_block n (with_row k row) bs ≡ with_block n (λ b. types_marked now [] (with_row k row b)) bs
row_unmarked n k now row bs =
    block_equal n (with_row k row) (λ b. types_marked now [] (with_row k row b)) bs (λ b. ap (λ marks. record b { rows = slice_set b.rows k row; marks = marks }) (sym (none_types now b.marks)))

-- the row of an entity that has a place, changed
pub row_changed_first : {blocks : List Numbered} {e : Entity} {p : Place} (there : IsThere blocks e p) (f : Row → Row) → AreDistinct (numbers_of blocks)
    → with_block p.block (λ b. record b { rows = slice_set b.rows p.row (f (row_in p.row b.rows)) }) blocks ≡ with_block p.block (with_row p.row (f there.row)) blocks
row_changed_first {blocks} {e} {p} there f distinct =
    block_same p.block (λ b. record b { rows = slice_set b.rows p.row (f (row_in p.row b.rows)) }) (with_row p.row (f there.row)) blocks distinct
    (has_of there (λ b. record (b.block) { rows = slice_set b.block.rows p.row (f (row_in p.row b.block.rows)) } ≡ with_row p.row (f there.row) b.block)
    (ap (λ r. record (there.block.block) { rows = slice_set there.block.block.rows p.row (f r) }) (get_or_from_slice_get there.block.block.rows p.row there.row no_row there.at)))

-- ---- the marks of a lawful world

-- each block has one mark for each of its types
pub lawful_marks : (capacity : List ℕ → ℕ) (registry : List TypeInfo) (blocks : List Numbered) (table : Table) (now : ℕ) → IsLawfulCode capacity (world_of registry blocks table now)
    → (b : Numbered) → In b blocks → map mark_type b.block.marks ≡ b.block.types
lawful_marks capacity registry blocks table now code b i =
    let (c, j, is) = in_map (block_versions (version_of code.first)) (world_block b) code.world.blocks
    (subst (In (world_block b)) (ap (λ (w : World). w.blocks) code.stands) (map_in world_block b blocks i)) in
    ap (λ (d : Block). map mark_type d.marks) is ∙ same_types c.marks ∙ (code.lawful.blocks c j).marked ∙ sym (ap (λ (d : Block). d.home.types) is)
  where
    same_types : (marks : List Mark) → map mark_type (map (mark_versions (version_of code.first)) marks) ≡ map mark_type marks
    same_types [] = refl
    same_types (m ∷ ms) = ap (λ (ts : List ℕ). m.type_id ∷ ts) (same_types ms)
