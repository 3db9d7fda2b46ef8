-- What a block is after a row was pushed, filled and marked.
use Rattle.std.proofs.Common.{ℕ, ◌≡◌, ◌<◌, ◌∙◌, Bool, false, sym, ap, refl, subst, List, [], ◌∷◌, ◌++◌, length, set, fold, reverse, arith}
use Rattle.std.specs.Prelude.{⊤}
use Rattle.std.proofs.lemmas.List.{append-nil, length-set, length-append}
use Rattle.std.proofs.Math.Seq.{get_or-append_seam, set-append_seam}
use Rattle.ent_types.specs.declared.entity.Entity.{Entity}
use Rattle.ent_types.specs.declared.type_info.TypeInfo.{TypeInfo}
use Rattle.ent_types.specs.declared.value.Value.{Value}
use Rattle.world_model.specs.Members.{AreDistinct}
use Rattle.world_model.specs.Part.{PartOf}
use Rattle.world_model.specs.Row.{Row}
use Rattle.world_model.specs.Enter.{marks_at}
use Rattle.chunk_block.specs.Blocks.{BlockState, IsWhole, no_row, row_in, new_row, new_types, with_mark}
use Rattle.chunk_block.proofs.New.{whole_new}
use Rattle.archetype_store.specs.Stores.{Numbered, StoreState, OfBlock, with_block_in}
use Rattle.world_places.specs.Placing.{row_entered, order_marked, numbers_of}
use Rattle.world_places.proofs.Numbers.{block_twice, block_same, of_changed, of_more, of_both}
use Rattle.world_places.proofs.Marks.{all_marked as all_marks}
use Rattle.world_rows.specs.Rows.{AreParts, row_from}
use Rattle.world_rows.specs.Writes.{Write, AllTake, Takes, CanWrite, row_write, row_writes, block_write, block_writes, written, value_writes, bit_writes, all_type_writes, buffer_writes, fill_writes}
use Rattle.world_rows.specs.Marks.{block_marked, all_marked}
use Rattle.world_rows.specs.Entering.{IsOpen}
use Rattle.world_rows.proofs.Filled.{filled}
use Rattle.world_rows.proofs.Fitting.{fill_takes, take_left}

-- ---- writes one after another

pub written_append : (n k : ℕ) (ws vs : List Write) (s : StoreState) → written n k (ws ++ vs) s ≡ written n k vs (written n k ws s)
written_append n k [] vs s = refl
written_append n k (w ∷ ws) vs s = written_append n k ws vs (with_block_in n (block_write k w) s)

pub written_is : (n k : ℕ) (ws : List Write) (f : BlockState → BlockState) (s : StoreState)
    → written n k ws (with_block_in n f s) ≡ with_block_in n (λ b. block_writes k ws (f b)) s
written_is n k [] f s = refl
written_is n k (w ∷ ws) f s =
    ap (λ (bs : List Numbered). written n k ws (record s { blocks = bs })) (block_twice n (block_write k w) f s.blocks) ∙ written_is n k ws (λ b. block_write k w (f b)) s

-- the first of the writes can be made
pub can_first : (n k : ℕ) (w : Write) (ws : List Write) (s : StoreState) → CanWrite n k (w ∷ ws) s → OfBlock n (λ b. (k < length b.rows) × Takes w b.columns) s.blocks
can_first n k w ws s can = of_more n _ _ s.blocks (λ b is. (is.0, is.1.0)) can

-- and then the others
pub can_rest : (n k : ℕ) (w : Write) (ws : List Write) (s : StoreState) → CanWrite n k (w ∷ ws) s → CanWrite n k ws (with_block_in n (block_write k w) s)
can_rest n k w ws s can =
    of_changed n (block_write k w) (λ (b : Numbered). (k < length b.block.rows) × AllTake ws b.block.columns) s.blocks
    (of_more n _ _ s.blocks (λ b is. (subst (λ m. k < m) (sym (length-set b.block.rows k (row_write w (row_in k b.block.rows)))) is.0, is.1.1)) can)

pub can_left : (n k : ℕ) (ws vs : List Write) (s : StoreState) → CanWrite n k (ws ++ vs) s → CanWrite n k ws s
can_left n k ws vs s can = of_more n _ _ s.blocks (λ b is. (is.0, take_left ws vs b.block.columns is.1)) can

pub can_after : (n k : ℕ) (ws vs : List Write) (s : StoreState) → CanWrite n k (ws ++ vs) s → CanWrite n k vs (written n k ws s)
can_after n k [] vs s can = can
can_after n k (w ∷ ws) vs s can = can_after n k ws vs (with_block_in n (block_write k w) s) (can_rest n k w (ws ++ vs) s can)

-- ---- marks one after another

abbrev pub marks_all : ℕ → List ℕ → BlockState → BlockState
marks_all now [] b = b
marks_all now (t ∷ ts) b = marks_all now ts (block_marked t now b)

pub marked_is : (n now : ℕ) (ts : List ℕ) (f : BlockState → BlockState) (s : StoreState)
    → all_marked n now ts (with_block_in n f s) ≡ with_block_in n (λ b. marks_all now ts (f b)) s
marked_is n now [] f s = refl
marked_is n now (t ∷ ts) f s =
    ap (λ (bs : List Numbered). all_marked n now ts (record s { blocks = bs })) (block_twice n (block_marked t now) f s.blocks) ∙ marked_is n now ts (λ b. block_marked t now (f b)) s

marks_folded : (now : ℕ) (ts : List ℕ) (b : BlockState) → marks_all now ts b ≡ record b { marks = fold (λ ms t. with_mark t now ms) b.marks ts }
marks_folded now [] b = refl
marks_folded now (t ∷ ts) b = marks_folded now ts (block_marked t now b)

-- ---- one block

writes_end : (rs : List Row) (r : Row) (ws : List Write) (b : BlockState) → block_writes (length rs) ws (record b { rows = rs ++ r ∷ [] }) ≡ record b { rows = rs ++ row_writes ws r ∷ [] }
writes_end rs r [] b = refl
writes_end rs r (w ∷ ws) b =
    ap (λ (q : Row). block_writes (length rs) ws (record b { rows = set (rs ++ r ∷ []) (length rs) (row_write w q) })) (get_or-append_seam rs r [] no_row)
    ∙ ap (λ (qs : List Row). block_writes (length rs) ws (record b { rows = qs })) (set-append_seam rs r [] (row_write w r))
    ∙ writes_end rs (row_write w r) ws b

-- the block with another 'dying' in a row
abbrev pub dying_set : ℕ → Bool → BlockState → BlockState
dying_set k on b = record b { rows = set b.rows k (record (row_in k b.rows) { dying = on }) }

dying_end : (rs : List Row) (r : Row) (on : Bool) (b : BlockState) → dying_set (length rs) on (record b { rows = rs ++ r ∷ [] }) ≡ record b { rows = rs ++ record r { dying = on } ∷ [] }
dying_end rs r on b =
    ap (λ (q : Row). record b { rows = set (rs ++ r ∷ []) (length rs) (record q { dying = on }) }) (get_or-append_seam rs r [] no_row)
    ∙ ap (λ (qs : List Row). record b { rows = qs }) (set-append_seam rs r [] (record r { dying = on }))

abbrev pub pushed : Entity → BlockState → BlockState
pushed e b = record b { rows = b.rows ++ new_row b.columns e ∷ [] }

-- a block after a row was pushed, filled, said to be dying or not, and marked
abbrev pub row_put_last : ℕ → ℕ → List Write → List ℕ → Entity → Bool → BlockState → BlockState
row_put_last k now ws types e dying b = order_marked now (marks_all now types (dying_set k dying (block_writes k ws (pushed e b))))

module _ (registry : List TypeInfo) (types : List ℕ) (parts : List (PartOf Value)) (off : List ℕ) (are : AreParts registry types parts off) (distinct : AreDistinct types) (e : Entity) (now k : ℕ) where
  abbrev ws : List Write
  ws = fill_writes registry types parts off

  one_filled : (b : BlockState) → b.columns ≡ new_types registry types → k ≡ length b.rows
      → block_writes k (fill_writes registry types parts off) (pushed e b) ≡ record b { rows = b.rows ++ row_from registry types parts off e false ∷ [] }
  one_filled b columns last =
      ap (λ j. block_writes j ws (pushed e b)) last
      ∙ writes_end b.rows (new_row b.columns e) ws b
      ∙ ap (λ (r : Row). record b { rows = b.rows ++ r ∷ [] }) (ap (λ cs. row_writes ws (new_row cs e)) columns ∙ filled registry types parts off are distinct e)

  marks_end : (row : Row) (b : BlockState) → IsOpen registry types b → order_marked now (marks_all now types (record b { rows = b.rows ++ row ∷ [] })) ≡ row_entered now row b
  marks_end row b opened =
      ap (order_marked now) (marks_folded now types (record b { rows = b.rows ++ row ∷ [] }))
      ∙ ap (λ ms. let c : BlockState = record b { rows = b.rows ++ row ∷ []; marks = ms; order = now } in c)
      (all_marks now types b.marks distinct opened.marked ∙ ap (marks_at now) (sym opened.types_are))

  pub row_ends : (dying : Bool) (b : BlockState) → IsOpen registry types b → k ≡ length b.rows
      → row_put_last k now (fill_writes registry types parts off) types e dying b ≡ row_entered now (row_from registry types parts off e dying) b
  row_ends dying b opened last =
      ap (λ c. order_marked now (marks_all now types (dying_set k dying c))) (one_filled b opened.columns last)
      ∙ ap (λ j. order_marked now (marks_all now types (dying_set j dying (record b { rows = b.rows ++ row_from registry types parts off e false ∷ [] })))) last
      ∙ ap (λ c. order_marked now (marks_all now types c)) (dying_end b.rows (row_from registry types parts off e false) dying b)
      ∙ marks_end (row_from registry types parts off e dying) b opened

  -- ---- the store

  module _ (mid : StoreState) (n : ℕ) (numbers : AreDistinct (numbers_of mid.blocks)) (there : OfBlock n (IsOpen registry types) mid.blocks) (last : OfBlock n (λ b. k ≡ length b.rows) mid.blocks) where
    pub row_is_entered : (dying : Bool) → with_block_in n (order_marked now) (all_marked n now types (with_block_in n (dying_set k dying) (written n k (fill_writes registry types parts off) (with_block_in n (pushed e) mid))))
        ≡ with_block_in n (row_entered now (row_from registry types parts off e dying)) mid
    row_is_entered dying =
        ap (λ s. with_block_in n (order_marked now) (all_marked n now types (with_block_in n (dying_set k dying) s))) (written_is n k ws (pushed e) mid)
        ∙ ap (λ (bs : List Numbered). with_block_in n (order_marked now) (all_marked n now types (record mid { blocks = bs }))) (block_twice n (dying_set k dying) (λ b. block_writes k ws (pushed e b)) mid.blocks)
        ∙ ap (with_block_in n (order_marked now)) (marked_is n now types (λ b. dying_set k dying (block_writes k ws (pushed e b))) mid)
        ∙ ap (λ (bs : List Numbered). record mid { blocks = bs })
        (block_twice n (order_marked now) (λ b. marks_all now types (dying_set k dying (block_writes k ws (pushed e b)))) mid.blocks
        ∙ block_same n (row_put_last k now ws types e dying) (row_entered now (row_from registry types parts off e dying)) mid.blocks numbers
        (of_both n _ _ _ mid.blocks (λ b is at. row_ends dying b.block is at) there last))

-- ---- the writes of one type after another

module _ (registry : List TypeInfo) (parts : List (PartOf Value)) (off : List ℕ) (t : ℕ) (ts : List ℕ) (n k : ℕ) (s : StoreState) where
  abbrev values : List Write
  values = value_writes registry parts t

  abbrev bits : List Write
  bits = bit_writes registry off t

  pub one_type : written n k (all_type_writes registry parts off (t ∷ ts)) s ≡ written n k (all_type_writes registry parts off ts) (written n k (bit_writes registry off t) (written n k (value_writes registry parts t) s))
  one_type =
      written_append n k (values ++ bits) (all_type_writes registry parts off ts) s ∙ ap (written n k (all_type_writes registry parts off ts)) (written_append n k values bits s)

  module _ (can : CanWrite n k (all_type_writes registry parts off (t ∷ ts)) s) where
    pub can_values : CanWrite n k (value_writes registry parts t) s
    can_values = can_left n k values bits s (can_left n k (values ++ bits) (all_type_writes registry parts off ts) s can)

    pub can_bits : CanWrite n k (bit_writes registry off t) (written n k (value_writes registry parts t) s)
    can_bits = can_after n k values bits s (can_left n k (values ++ bits) (all_type_writes registry parts off ts) s can)

    pub can_types : CanWrite n k (all_type_writes registry parts off ts) (written n k (bit_writes registry off t) (written n k (value_writes registry parts t) s))
    can_types =
        subst (CanWrite n k (all_type_writes registry parts off ts)) (written_append n k values bits s) (can_after n k (values ++ bits) (all_type_writes registry parts off ts) s can)

-- ---- what the calls ask on the way

module _ (registry : List TypeInfo) (types : List ℕ) (parts : List (PartOf Value)) (off : List ℕ) (are : AreParts registry types parts off) (e : Entity) (k n : ℕ) (mid : StoreState)
    (there : OfBlock n (IsOpen registry types) mid.blocks) where
  pub push_ready : OfBlock n (λ b. (length b.rows < b.capacity) × IsWhole b.columns) mid.blocks
  push_ready = of_more n _ _ mid.blocks (λ b is. (is.room, subst IsWhole (sym is.columns) (whole_new registry types))) there

  module _ (last : OfBlock n (λ b. k ≡ length b.rows) mid.blocks) where
    fill_can : CanWrite n k (fill_writes registry types parts off) (with_block_in n (pushed e) mid)
    fill_can =
        of_changed n (pushed e) (λ (b : Numbered). (k < length b.block.rows) × AllTake (fill_writes registry types parts off) b.block.columns) mid.blocks
        (of_both n _ _ _ mid.blocks
        (λ b is at. (omega (arith, at, length-append b.block.rows (new_row b.block.columns e ∷ [])), subst (AllTake (fill_writes registry types parts off)) (sym is.columns) (fill_takes registry types parts off are)))
        there last)

    pub types_can : CanWrite n k (all_type_writes registry parts off types) (with_block_in n (pushed e) mid)
    types_can = can_left n k (all_type_writes registry parts off types) (reverse (buffer_writes registry types parts)) (with_block_in n (pushed e) mid) fill_can

    pub buffers_can : CanWrite n k (reverse (buffer_writes registry types parts)) (written n k (all_type_writes registry parts off types) (with_block_in n (pushed e) mid))
    buffers_can = can_after n k (all_type_writes registry parts off types) (reverse (buffer_writes registry types parts)) (with_block_in n (pushed e) mid) fill_can

    -- the row is still there
    pub row_can : OfBlock n (λ b. k < length b.rows) (written n k (reverse (buffer_writes registry types parts)) (written n k (all_type_writes registry parts off types) (with_block_in n (pushed e) mid))).blocks
    row_can =
        of_more n _ _ _ (λ b is. is.0)
        (can_after n k (reverse (buffer_writes registry types parts)) [] (written n k (all_type_writes registry parts off types) (with_block_in n (pushed e) mid))
        (subst (λ ws. CanWrite n k ws (written n k (all_type_writes registry parts off types) (with_block_in n (pushed e) mid))) (sym (append-nil (reverse (buffer_writes registry types parts)))) buffers_can))

-- a block that is there is there after it was marked
pub still_there : (n now : ℕ) (ts : List ℕ) (s : StoreState) → OfBlock n (λ _. ⊤) s.blocks → OfBlock n (λ _. ⊤) (all_marked n now ts s).blocks
still_there n now [] s there = there
still_there n now (t ∷ ts) s there = still_there n now ts (with_block_in n (block_marked t now) s) (of_changed n (block_marked t now) (λ _. ⊤) s.blocks there)
