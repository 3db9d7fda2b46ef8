-- What is found in a frozen world.
use Rattle.std.proofs.Common.{ℕ, ◌≡◌, ◌+◌, ◌*◌, ◌/◌, ◌<◌, ◌≤◌, ◌∙◌, ◌&&◌, ◌||◌, inl, inr, Bool, true, false, not, cond, nat_eq, sym, ap, ap₂, refl, subst, List, [], ◌∷◌, length, map, Option, Some, None, slice_get, arith}
use Rattle.std.specs.List.{list_any}
use Rattle.std.specs.Prelude.{is_some, option_map, option_and_then}
use Rattle.std.proofs.Math.Nat.{mul-le-mul_right}
use Rattle.std.proofs.lemmas.Bool.{eq-eqb, eqb-true}
use Rattle.std.proofs.lemmas.Option.{get_or_from_slice_get, same_Some, slice_get_past}
use Rattle.ent_types.specs.declared.entity.Entity.{Entity}
use Rattle.ent_types.specs.TypeSets.{has_type}
use Rattle.entity_table.specs.declared.table.Place.{Place}
use Rattle.entity_table.specs.Table.{place_of}
use Rattle.world_model.specs.Found.{Found, cell_at, found, values_of}
use Rattle.world_model.specs.Reads.{buffer_of}
use Rattle.ent_types.specs.TypeLookups.{fields_at, is_buffer_at}
use Rattle.world_model.specs.Fits.{Fits}
use Rattle.world_rows.proofs.Buffers.{whole_elements}
use Rattle.structural_ops.proofs.Unlent.{cell_same}
use Rattle.structural_ops.specs.Worlds.{state_of}
use Rattle.world_model.specs.Members.{In}
use Rattle.world_model.specs.Row.{Row, Cell}
use Rattle.buffer_store.specs.Buffers.{Buffer, buffer, count_of}
use Rattle.ent_types.specs.declared.value.Value.{Value}
use Rattle.world_model.specs.World.{Block}
use Rattle.world_laws.proofs.Members.{find_in, find_passes, in_map, map_in}
use Rattle.block_laws.proofs.Rows.{or_parts}
use Rattle.chunk_block.specs.Blocks.{BlockType, column_types, lent_row, no_row, row_in}
use Rattle.archetype_store.specs.Stores.{Numbered, OfNumber}
use Rattle.world_places.specs.Placing.{IsPlaced, IsThere, home_of, world_block, world_blocks}
use Rattle.world_places.proofs.Looking.{alive_is, none_is, there_is}
use Rattle.world_places.proofs.Numbers.{of_at, of_in, one_of}
use Rattle.world_rows.specs.Reading.{CanRead, found_at}
use Rattle.world_rows.specs.Rows.{own_types}
use Rattle.world_loans.specs.Plans.{lent_by, lent_types}
use Rattle.world_loans.proofs.Placed.{KeepsPlaces, all_placed}
use Rattle.world_loans.proofs.Returned.{entities_lent}
use Rattle.world_loans.proofs.Shown.{columns_own}
use Rattle.structural_ops.specs.Freezing.{FrozenState, IsFrozen, frozen_of, is_lent, lent_of}
use Rattle.structural_ops.specs.Readable.{CanFind, CanReadType}
use Rattle.structural_ops.specs.declared.tables.Tables.{Tables}
use Rattle.structural_ops.proofs.Freezing.{lent_before, lent_has, numbers_distinct, thawed}
use Rattle.structural_ops.proofs.Looked.{can_read, there}

-- a row that is found: its block as it was, and what is seen of it
pub record Sees (w : Tables) (f : IsFrozen w) (e : Entity) (p : Place) : Type 0 where
  pub block : Numbered
  pub member : In block f.before
  pub number : block.number ≡ p.block
  pub can : CanRead w.registry p.row block
  pub is_found : found e (world_blocks w.store.blocks) ≡ Some (found_at p.row (lent_by f.types block))

module _ (w : Tables) (f : IsFrozen w) where
  -- the blocks with the rows that are seen, as if nothing were lent
  abbrev bare : Numbered → Numbered
  bare b = record b { block = record (b.block) { rows = map (lent_row (f.types b.number)) b.block.rows } }

  bare_placed : IsPlaced w.registry (map bare f.before) w.table.table
  bare_placed =
      all_placed bare f.consistent.agrees.placed
      (λ b i. record { number = refl; block = record { types = refl; columns = refl; rows = entities_lent (f.types b.number) b.block.rows } })

  same_world : (bs : List Numbered) → world_blocks (map (lent_by f.types) bs) ≡ world_blocks (map bare bs)
  same_world [] = refl
  same_world (b ∷ bs) = ap (λ (cs : List Block). world_block (bare b) ∷ cs) (same_world bs)

  world_same : world_blocks w.store.blocks ≡ world_blocks (map bare f.before)
  world_same = ap world_blocks f.blocks ∙ same_world f.before

  pub sees_none : (e : Entity) → place_of w.table.table e ≡ None → found e (world_blocks w.store.blocks) ≡ None
  sees_none e none = ap (found e) world_same ∙ none_is bare_placed e none

  pub sees_alive : (e : Entity) → is_some (place_of w.table.table e) ≡ is_some (found e (world_blocks w.store.blocks))
  sees_alive e = alive_is bare_placed e ∙ ap (λ bs. is_some (found e bs)) (sym world_same)

  module _ (e : Entity) (p : Place) (at : place_of w.table.table e ≡ Some p) where
    pub sees : Sees w f e p
    sees = by (in_map bare is.block f.before is.member)
      where
        is : IsThere (map bare f.before) e p
        is = there_is bare_placed e p at

        before : IsThere f.before e p
        before = there (thawed w f) f.consistent e p at

        by : ((b : Numbered) × In b f.before × (is.block ≡ bare b)) → Sees w f e p
        by (b, i, same) =
            let number : b.number ≡ p.block = ap (λ (c : Numbered). c.number) (sym same) ∙ is.number in
            record {
              block = b;
              member = i;
              number = number;
              can = subst (CanRead w.registry p.row) (one_of f.before f.consistent.agrees.placed.numbers before.block b before.member i (before.number ∙ sym number))
                  (can_read (thawed w f) f.consistent e p at);
              is_found = ap (found e) world_same
                  ∙ is.is_found
                  ∙ ap (λ (r : Row). Some (let x : Found = record { home = home_of is.block; row = r } in x)) (sym (get_or_from_slice_get is.block.block.rows p.row is.row no_row is.at))
                  ∙ ap (λ (c : Numbered). Some (found_at p.row c)) same;
            }

    seen_in : In (lent_by f.types sees.block) w.store.blocks
    seen_in = subst (In (lent_by f.types sees.block)) (sym f.blocks) (map_in (lent_by f.types) sees.block f.before sees.member)

    pub can_find : OfNumber p.block (CanFind w.registry p.row) w.store.blocks
    can_find =
        of_in p.block (CanFind w.registry p.row) w.store.blocks (numbers_distinct w f) (lent_by f.types sees.block) seen_in sees.number
        (record { whole = sees.block; lent = f.types sees.block.number; is = refl; can = sees.can })

    -- what holds of the block of the place holds of the block that is seen
    pub of_seen : (P : Numbered → Type 0) → OfNumber p.block P w.store.blocks → P (lent_by f.types sees.block)
    of_seen P is = of_at p.block P w.store.blocks (numbers_distinct w f) is (lent_by f.types sees.block) seen_in sees.number

  -- ---- a type that isn't lent of any block

  none_of_any : (t : ℕ) (tss : List (List ℕ)) → list_any (λ ts. has_type ts t) tss ≡ false → (ts : List ℕ) → In ts tss → has_type ts t ≡ false
  none_of_any t [] none ts i = absurd i
  none_of_any t (us ∷ tss) none ts (inl same) = ap (λ vs. has_type vs t) same ∙ (or_parts (has_type us t) (list_any (λ vs. has_type vs t) tss) none).0
  none_of_any t (us ∷ tss) none ts (inr i) = none_of_any t tss (or_parts (has_type us t) (list_any (λ vs. has_type vs t) tss) none).1 ts i

  pub held_of : (t : ℕ) → is_lent (frozen_of w) t ≡ false → (b : Numbered) → In b f.before → In t (own_types w.registry b.block.types) → has_type (f.types b.number) t ≡ false
  held_of t held b i own =
      let has : has_type (column_types b.block.columns) t ≡ true =
      in_has (column_types b.block.columns) (subst (In t) (sym (ap column_types (f.consistent.agrees.placed.whole b i) ∙ columns_own w.registry b.block.types)) own) in
      let shown : has_type (lent_of (frozen_of w) b.number) t ≡ false =
      ap (λ ts. has_type ts t) (lent_before w f b i)
      ∙ none_of_any t (frozen_of w).lent held (lent_types (lent_by f.types b).block.columns)
      (map_in (λ (c : Numbered). lent_types c.block.columns) (lent_by f.types b) w.store.blocks (subst (In (lent_by f.types b)) (sym f.blocks) (map_in (lent_by f.types) b f.before i))) in
      and_left (has_type (f.types b.number) t) (has_type (column_types b.block.columns) t) has (sym (lent_has w f b i t) ∙ shown)
    where
      and_left : (a c : Bool) → c ≡ true → (a && c) ≡ false → a ≡ false
      and_left true c h none = absurd (cc (sym h ∙ none))
      and_left false c h none = refl

      in_has : (ts : List ℕ) → In t ts → has_type ts t ≡ true
      in_has [] j = absurd j
      in_has (u ∷ us) (inl same) = ap (λ d. d || has_type us t) (eq-eqb u t (sym same))
      in_has (u ∷ us) (inr j) = ap (λ d. nat_eq u t || d) (in_has us j) ∙ or_true (nat_eq u t)
        where
          or_true : (d : Bool) → (d || true) ≡ true
          or_true true = refl
          or_true false = refl

  pub can_read_type : (e : Entity) (p : Place) (at : place_of w.table.table e ≡ Some p) (t : ℕ) → is_lent (frozen_of w) t ≡ false → OfNumber p.block (CanReadType w.registry t p.row) w.store.blocks
  can_read_type e p at t held =
      let s = sees e p at in
      of_in p.block (CanReadType w.registry t p.row) w.store.blocks (numbers_distinct w f) (lent_by f.types s.block) (seen_in e p at) s.number
      (record { row = record { whole = s.block; lent = f.types s.block.number; is = refl; can = s.can }; held = held_of t held s.block s.member })

-- ---- elements of a buffer

no_map : {A B : Type 0} (f : A → B) (o : Option A) → option_map f o ≡ None → o ≡ None
no_map f None is = refl
no_map f (Some a) is = absurd (cc is)

module _ (o : Option Cell) (width : ℕ) where
  pub elements_none : None ≡ option_map (λ (c : Cell). buffer width c.values) o → option_map (λ (c : Cell). c.values) o ≡ None
  elements_none is = ap (option_map (λ (c : Cell). c.values)) (no_map (λ (c : Cell). buffer width c.values) o (sym is))

  pub elements_some : (e : Buffer Value) → Some e ≡ option_map (λ (c : Cell). buffer width c.values) o → (e.width ≡ width) × (option_map (λ (c : Cell). c.values) o ≡ Some e.values)
  elements_some e is = by o is
    where
      by : (q : Option Cell) → Some e ≡ option_map (λ (c : Cell). buffer width c.values) q → (e.width ≡ width) × (option_map (λ (c : Cell). c.values) q ≡ Some e.values)
      by None h = absurd (cc h)
      by (Some c) h =
          let same : e ≡ buffer width c.values = same_Some e (buffer width c.values) h in
          (ap (λ (b : Buffer Value). b.width) same, ap (λ (b : Buffer Value). Some b.values) (sym same))

module _ (w : Tables) (f : IsFrozen w) (e : Entity) (t : ℕ) where
  pub no_buffer : place_of w.table.table e ≡ None → buffer_of (state_of w).world e t ≡ None
  no_buffer none = ap (λ o. option_map (λ (c : Cell). c.values) (option_and_then (λ (x : Found). cell_at t x.row.cells) o)) (sees_none w f e none)

  module _ (p : Place) (at : place_of w.table.table e ≡ Some p) where
    abbrev width : ℕ
    width = length (fields_at w.registry t)

    abbrev IsRead : Option (Buffer Value) → Numbered → Type 0
    IsRead o b = o ≡ option_map (λ (c : Cell). buffer width c.values) (cell_at t (row_in p.row b.block.rows).cells)

    is_buffer : buffer_of (state_of w).world e t ≡ option_map (λ (c : Cell). c.values) (cell_at t (row_in p.row (lent_by f.types (sees w f e p at).block).block.rows).cells)
    is_buffer = ap (λ o. option_map (λ (c : Cell). c.values) (option_and_then (λ (x : Found). cell_at t x.row.cells) o)) (sees w f e p at).is_found

    pub lacks_buffer : OfNumber p.block (IsRead None) w.store.blocks → buffer_of (state_of w).world e t ≡ None
    lacks_buffer is = is_buffer ∙ elements_none _ width (of_seen w f e p at (IsRead None) is)

    pub has_buffer : (d : Buffer Value) → OfNumber p.block (IsRead (Some d)) w.store.blocks → (d.width ≡ width) × (buffer_of (state_of w).world e t ≡ Some d.values)
    has_buffer d is = let got = elements_some _ width d (of_seen w f e p at (IsRead (Some d)) is) in (got.0, is_buffer ∙ got.1)

    -- the elements fit the type
    pub buffer_fits : is_lent (frozen_of w) t ≡ false → (d : Buffer Value) → OfNumber p.block (IsRead (Some d)) w.store.blocks → Fits w.registry t d.values
    buffer_fits held d is = by (cell_at t (row_in p.row s.block.block.rows).cells) refl
      where
        s : Sees w f e p
        s = sees w f e p at

        got : option_map (λ (c : Cell). c.values) (cell_at t (row_in p.row s.block.block.rows).cells) ≡ Some d.values
        got =
            ap (option_map (λ (c : Cell). c.values)) (sym (cell_same w.registry p.row s.block (f.types s.block.number) s.can t (held_of w f t held s.block s.member)))
            ∙ (elements_some _ width d (of_seen w f e p at (IsRead (Some d)) is)).1

        by : (o : Option Cell) → cell_at t (row_in p.row s.block.block.rows).cells ≡ o → Fits w.registry t d.values
        by None none = absurd (cc (sym (ap (option_map (λ (c : Cell). c.values)) none) ∙ got))
        by (Some c) some =
            let cells = (row_in p.row s.block.block.rows).cells in
            let same : c.values ≡ d.values = same_Some c.values d.values (sym (ap (option_map (λ (c : Cell). c.values)) some) ∙ got) in
            let type : c.type_id ≡ t = eqb-true c.type_id t (find_passes (λ (x : Cell). nat_eq x.type_id t) c cells some) in
            subst (Fits w.registry t) same
            (subst (λ u. Fits w.registry u c.values) type (s.can.lawful.cells.fit c (find_in (λ (x : Cell). nat_eq x.type_id t) c cells some)))

    -- no element has this place
    pub past_buffer : is_lent (frozen_of w) t ≡ false → is_buffer_at w.registry t ≡ true → (d : Buffer Value) → OfNumber p.block (IsRead (Some d)) w.store.blocks
        → (k field : ℕ) → field < width → count_of d ≤ k → option_and_then (λ (vs : List Value). slice_get vs (k * width + field)) (buffer_of (state_of w).world e t) ≡ None
    past_buffer held buffers d is k field below few =
        let got = has_buffer d is in
        let some : 1 ≤ width = omega (arith, below) in
        let whole = whole_elements w.registry t d.values buffers (buffer_fits held d is) some in
        let count : length d.values / width ≤ k = subst (λ n. length d.values / n ≤ k) got.0 few in
        let past : length d.values ≤ k * width + field = below_times (length d.values / width) k width (length d.values) field whole count in
        ap (option_and_then (λ (vs : List Value). slice_get vs (k * width + field))) got.1 ∙ slice_get_past d.values (k * width + field) past
      where
        below_times : (a k n size field : ℕ) → size ≡ a * n → a ≤ k → size ≤ k * n + field
        below_times a k n size field whole few = let more : a * n ≤ k * n = mul-le-mul_right n few in omega (arith, whole)
