-- What the code finds of the rows that it keeps.
use Rattle.std.proofs.Common.{ℕ, ◌≡◌, ◌<◌, ◌∙◌, ◌&&◌, Bool, true, false, not, nat_lt, sym, ap, ap₂, refl, subst, List, map, length, Option, Some, None, arith}
use Rattle.std.specs.Prelude.{IfSome, MatchOption}
use Rattle.std.proofs.lemmas.Bool.{and_parts, lt-ltb}
use Rattle.ent_types.specs.declared.entity.Entity.{Entity}
use Rattle.ent_types.specs.declared.entity.TypeId.{TypeId}
use Rattle.ent_types.specs.declared.limits.TheConstants.{MOST_BLOCK_ROWS}
use Rattle.ent_types.specs.declared.type_info.TypeInfo.{TypeInfo}
use Rattle.ent_types.specs.declared.value.Value.{Value}
use Rattle.ent_types.specs.TypeLookups.{is_enableable_at, is_shared_at}
use Rattle.ent_types.specs.TypeSets.{has_type}
use Rattle.enable_bits.specs.Masks.{has, places_where}
use Rattle.enable_bits.proofs.MaskLemmas.{has-places_where}
use Rattle.world_model.specs.Found.{part_at}
use Rattle.world_model.specs.Row.{Row}
use Rattle.world_laws.proofs.Types.{has_in}
use Rattle.block_columns.specs.Columns.{HoldsReferences, value_at}
use Rattle.block_columns.specs.Types.{HasField, TypeState, cell_in}
use Rattle.block_eval.specs.Columns.{HoldsValues}
use Rattle.chunk_block.specs.Blocks.{BlockState, Lacks, OfType, content_at}
use Rattle.chunk_block.specs.Pieces.{LacksPiece, OfPiece}
use Rattle.structural_ops.specs.Numbered.{HasBlock}
use Rattle.item_run.specs.ItemRows.{AreRowsOf, RowsState, ShowsNothing, ShowsType, frozen_block, own_row_at, registry_of, row_count, sources_in}
use Rattle.item_run.proofs.Columns.{at_number, of_number}
use Rattle.item_run.proofs.Seen.{entities_are, field_shown, field_value, field_values, has_column, on_always, on_blank, on_lacks, on_shown, shared_length, shared_value, shows_bare, shows_nothing, shows_piece}

-- `y` is what contracts see of the rows `x`
module _ {registry : List TypeInfo} {block : BlockState} {x : RowsState} (is : AreRowsOf registry block x) (y : RowsState) (view : x ≡ y) where
  pub kept : AreRowsOf registry block y
  kept = subst (AreRowsOf registry block) view is

  -- ---- one type

  pub in_loan : (t : ℕ) (r : TypeState) → OfPiece t (λ z. r ≡ z) x.loan.pieces → ShowsType t y r
  in_loan t r found = subst (λ (z : RowsState). ShowsType t z r) view (shows_piece x is.rows is.lawful t r found)

  pub in_block : {X : Type 0} (now : X → TypeState) (t : ℕ) (o : Option X) → LacksPiece t x.loan.pieces
      → MatchOption o (Lacks t block.columns) (λ r. OfType t (λ s. (now r).shape ≡ s) block.columns) → IfSome o (λ r. (now r).cells ≡ map (λ q. content_at t q.cells) block.rows)
      → MatchOption o (ShowsNothing t y) (λ r. ShowsType t y (now r))
  in_block now t None lacks shape cells =
      subst (ShowsNothing t) view (shows_nothing x is.rows is.lawful t lacks (subst (λ (b : BlockState). Lacks t b.columns) is.block_is shape))
  in_block now t (Some r) lacks shape cells =
      subst (λ (z : RowsState). ShowsType t z (now r)) view
      (shows_bare x is.rows is.lawful t (now r) lacks (subst (λ (b : BlockState). OfType t (λ s. (now r).shape ≡ s) b.columns) is.block_is shape)
      (subst (λ (b : BlockState). (now r).cells ≡ map (λ (q : Row). content_at t q.cells) b.rows) is.block_is cells))

  -- a type that the registry doesn't know
  pub unknown : (t : ℕ) → (t < length registry → ⊥) → has_type (frozen_block y).home.types t ≡ false
  unknown t never = by (has_type (frozen_block y).home.types t) refl
    where
      by : (b : Bool) → has_type (frozen_block y).home.types t ≡ b → b ≡ false
      by true there = absurd (never (subst (λ (r : List TypeInfo). t < length r) (sym kept.registry_is) (kept.lawful.home.known t (has_in t (frozen_block y).home.types there))))
      by false there = refl

  -- ---- shared types

  module _ (n : ℕ) (number : n ≡ x.loan.number) (ty : TypeId) (i : ℕ) (reads : (sources_in y).own ty i ≡ true) where
    pub shared_there : HasBlock n (λ b. has_type b.home.types ty.0 ≡ true) x.frozen.state
    shared_there =
        subst (λ m. HasBlock m (λ b. has_type b.home.types ty.0 ≡ true) x.frozen.state) (sym number)
        (of_number x.loan.number (λ b. has_type b.home.types ty.0 ≡ true) x.frozen.state.numbers x.frozen.state.world.blocks is.rows.there
        (and_parts (has_type (frozen_block x).home.types ty.0) _ (subst (λ (z : RowsState). (sources_in z).own ty i ≡ true) (sym view) reads)).0)

    module _ (shared : is_shared_at registry ty.0 ≡ true) (vs : List Value) (values : HasBlock n (λ b. part_at ty.0 b.home.shared ≡ Some vs) x.frozen.state) where
      shared_here : is_shared_at (registry_of y) ty.0 ≡ true
      shared_here = subst (λ (r : List TypeInfo). is_shared_at r ty.0 ≡ true) kept.registry_is shared

      values_here : part_at ty.0 (frozen_block y).home.shared ≡ Some vs
      values_here =
          subst (λ (z : RowsState). part_at ty.0 (frozen_block z).home.shared ≡ Some vs) view
          (at_number x.loan.number (λ b. part_at ty.0 b.home.shared ≡ Some vs) x.frozen.state.numbers x.frozen.state.world.blocks
          (subst (λ m. HasBlock m (λ b. part_at ty.0 b.home.shared ≡ Some vs) x.frozen.state) number values))

      pub value_there : i < length vs
      value_there = shared_length y kept.rows kept.lawful ty i reads shared_here vs values_here

      pub value_is : (v : Value) → v ≡ value_at i vs → (not (is_shared_at (registry_of y) ty.0) ≡ false) × ((k : ℕ) → k < row_count y → (own_row_at y k).field ty i ≡ v)
      value_is v same = (ap not shared_here, λ k below. shared_value y kept.rows kept.lawful ty i reads shared_here vs values_here k below ∙ sym same)

  pub apart : (ty : TypeId) → is_shared_at registry ty.0 ≡ false → not (is_shared_at (registry_of y) ty.0) ≡ true
  apart ty own = ap not (subst (λ (r : List TypeInfo). is_shared_at r ty.0 ≡ false) kept.registry_is own)

  -- ---- columns

  module _ (ty : TypeId) (i : ℕ) (reads : (sources_in y).own ty i ≡ true) (column : not (is_shared_at (registry_of y) ty.0) ≡ true) where
    pub column_shown : ShowsNothing ty.0 y → ⊥
    column_shown nothing = field_shown y kept.rows kept.lawful ty i reads column nothing

    pub column_there : (r : TypeState) → ShowsType ty.0 y r → HasField i r.shape
    column_there r shows = has_column y kept.rows kept.lawful ty i reads r shows

    pub column_values : (r : TypeState) (vs : List Value) → ShowsType ty.0 y r → vs ≡ map (λ c. value_at i c.values) r.cells → HoldsValues vs (row_count y) (λ k. (own_row_at y k).field ty i)
    column_values r vs shows are = field_values y kept.rows kept.lawful ty i reads column r shows vs are

    -- the value of a row in a field
    pub column_value : (r : TypeState) → ShowsType ty.0 y r → (k : ℕ) → k < row_count y → value_at i (cell_in k r.cells).values ≡ (own_row_at y k).field ty i
    column_value r shows k below = sym (field_value y kept.rows kept.lawful ty i reads column r shows k below)

    pub row_within : (r : TypeState) → ShowsType ty.0 y r → (k : ℕ) → k < row_count y → k < length r.cells
    row_within r shows k below = subst (λ n. k < n) (sym shows.size) below

  pub few : (k : ℕ) → k < row_count y → k < MOST_BLOCK_ROWS
  few k below = let most = kept.lawful.few in omega arith

  pub entities_here : (es : List Entity) → es ≡ map (λ r. r.entity) block.rows → HoldsReferences es (row_count y) (λ k. (own_row_at y k).me)
  entities_here es same =
      subst (λ (ds : List Entity). HoldsReferences ds (row_count y) (λ k. (own_row_at y k).me)) (sym (same ∙ ap (λ (b : BlockState). map (λ (r : Row). r.entity) b.rows) kept.block_is))
      (entities_are y kept.rows kept.lawful)

  -- ---- bits

  module _ (ty : TypeId) (n : ℕ) (rows : n ≡ length block.rows) (all : List ℕ) (first : all ≡ places_where (λ place. nat_lt place n)) where
    count_is : n ≡ row_count y
    count_is = rows ∙ ap (λ (b : BlockState). length b.rows) kept.block_is

    has_all : (k : ℕ) → k < row_count y → has all k ≡ true
    has_all k below =
        let small : k < 128 = (let few = kept.lawful.few in omega arith) in
        let within : k < n = subst (λ m. k < m) (sym count_is) below in
        ap (λ (m : List ℕ). has m k) first ∙ (has-places_where (λ place. nat_lt place n) k small ∙ lt-ltb k n within)

    module _ (there : has_type (frozen_block y).home.types ty.0 ≡ true) where
      pub always : is_enableable_at registry ty.0 ≡ false → (k : ℕ) → k < row_count y → has all k ≡ (own_row_at y k).on ty
      always never k below =
          has_all k below
          ∙ sym (on_always y kept.rows kept.lawful ty k below there (subst (λ (r : List TypeInfo). is_enableable_at r ty.0 ≡ false) kept.registry_is never))

      module _ (enableable : is_enableable_at registry ty.0 ≡ true) where
        can : is_enableable_at (registry_of y) ty.0 ≡ true
        can = subst (λ (r : List TypeInfo). is_enableable_at r ty.0 ≡ true) kept.registry_is enableable

        pub bits_shown : (r : TypeState) (off mask : List ℕ) → ShowsType ty.0 y r → ((k : ℕ) → has off k ≡ (cell_in k r.cells).off)
            → mask ≡ places_where (λ place. has all place && not (has off place)) → (k : ℕ) → k < row_count y → has mask k ≡ (own_row_at y k).on ty
        bits_shown r off mask shows disabled mask_is k below =
            let small : k < 128 = (let few = kept.lawful.few in omega arith) in
            ap (λ (m : List ℕ). has m k) mask_is
            ∙ (has-places_where (λ place. has all place && not (has off place)) k small
            ∙ (ap₂ (λ a b. a && not b) (has_all k below) (disabled k) ∙ sym (on_shown y kept.rows kept.lawful ty k below there can r shows)))

        pub bits_blank : ShowsNothing ty.0 y → (k : ℕ) → k < row_count y → has all k ≡ (own_row_at y k).on ty
        bits_blank nothing k below = has_all k below ∙ sym (on_blank y kept.rows kept.lawful ty k below there can nothing)

  pub lacks : (ty : TypeId) → has_type (frozen_block y).home.types ty.0 ≡ false → (k : ℕ) → k < row_count y → false ≡ (own_row_at y k).on ty
  lacks ty none k below = sym (on_lacks y kept.rows kept.lawful ty k below none)
