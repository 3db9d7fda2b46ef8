-- The row of an alive entity enters another home and leaves its own.
use Rattle.std.proofs.Common.{◌≡◌, ℕ, ◌<◌, ◌⊎◌, inl, inr, Bool, true, false, not, ◌&&◌, cond, nat_eq, nat_lt, List, [], ◌∷◌, ◌++◌, length, filter, Option, Some, None, refl, sym, ap, ◌∙◌, subst}
use Rattle.std.specs.Bool.{MatchBool}
use Rattle.std.specs.List.{list_any}
use Rattle.std.specs.Cmp.Lexicographic.{pointwise}
use Rattle.std.proofs.lemmas.Bool.{eq-eqb, ne_eqb, eqb-true, cases_eq, and_parts, and_from, or_parts, or_from, not-true}
use Rattle.std.proofs.lemmas.List.{length-set}
use Rattle.std.proofs.lemmas.List.Elements.{filter-append}
use Rattle.std.proofs.lemmas.Option.{same_Some}
use Rattle.ent_types.specs.declared.entity.Entity.{Entity}
use Rattle.ent_types.specs.declared.type_info.TypeInfo.{TypeInfo}
use Rattle.ent_types.specs.declared.value.Value.{Value}
use Rattle.entity_table.specs.declared.table.Place.{Place}
use Rattle.entity_table.specs.Table.{Table, place_of, IsAlive, without, with_place, Rebinds}
use Rattle.world_model.specs.Members.{In, AreDistinct}
use Rattle.world_model.specs.Part.{PartOf, same_part}
use Rattle.world_model.specs.Row.{Row}
use Rattle.world_model.specs.World.{capacity}
use Rattle.world_model.specs.Found.{Found, placed, found}
use Rattle.world_model.specs.Enter.{enter}
use Rattle.world_model.specs.Leave.{leave}
use Rattle.chunk_block.specs.Blocks.{BlockState, IsWhole, no_row}
use Rattle.archetype_store.specs.Stores.{Numbered, StoreState, OfNumber, OfBlock, Opens, IsFirstWithRoom, IsStore, with_block, left, is_emptied, without_row, has_room, registry_of, types_at}
use Rattle.world_laws.proofs.Same.{home_is}
use Rattle.world_laws.proofs.Perms.{perm_length}
use Rattle.world_laws.proofs.Entering.{enter_perm}
use Rattle.world_places.specs.Placing.{home_of, world_blocks, numbers_of, IsPlaced, with_row, order_marked, row_entered, mover_in, with_mover}
use Rattle.world_places.proofs.Lists.{swap_any}
use Rattle.world_places.proofs.Numbers.{change, change_yes, change_no, numbers_same, block_twice, block_apart, block_equal, block_append, block_none, number_in, one_of, of_changed, of_before, of_other_changed, of_other_before, of_appended, of_unappended, of_more, mover_with_row}
use Rattle.world_places.proofs.Looking.{there_is}
use Rattle.world_places.proofs.Kept.{changed_member}
use Rattle.world_places.proofs.Leaving.{left_other, left_this, left_none, left_numbers, left_member, left_is, left_placed, left_alive, number_kept, of_other_left, block_ready}
use Rattle.world_places.proofs.Entering.{Fits, Gets, Has, Grows, Ready, fresh, first_member, archetype_same, gets_entered, gets_ready, entered_placed, store_fits, store_gets}
use Rattle.world_places.proofs.Tables.{place_rebinds, place_count, without_rebinds, without_count}

-- ---- a row leaves a block that the other row can't enter

-- no row of this home can enter the block, whatever its rows are
abbrev pub NoFit : ℕ → List (PartOf Value) → Numbered → Type 0
NoFit a shared b = (c : BlockState) → has_room a shared (record b { block = c }) ≡ false

module _ (q k : ℕ) (g : BlockState → BlockState) where
  abbrev after : List Numbered → List Numbered
  after bs = left q k (with_block q g bs)

  after_other : (b : Numbered) (bs : List Numbered) → (b.number ≡ q → ⊥) → after (b ∷ bs) ≡ b ∷ after bs
  after_other b bs apart =
      ap (λ c. left q k (c ∷ with_block q g bs)) (change_no q g b (ne_eqb b.number q apart)) ∙ left_other q k b (with_block q g bs) apart

  after_this : (b : Numbered) (bs : List Numbered) (P : List Numbered → Type 0) → b.number ≡ q → ((c : BlockState) → P (record b { block = c } ∷ after bs)) → P (after bs) → P (after (b ∷ bs))
  after_this b bs P same some none =
      subst (λ c. P (left q k (c ∷ with_block q g bs))) (sym (change_yes q g b (eq-eqb b.number q same)))
      (left_this q k (record b { block = g b.block }) (with_block q g bs) P same (λ full. some (without_row k (g b.block))) (λ empty. none))

  module _ (a : ℕ) (shared : List (PartOf Value)) where
    first_stays : (n : ℕ) (bs : List Numbered) → ((b : Numbered) → In b bs → b.number ≡ q → NoFit a shared b) → IsFirstWithRoom a shared n bs → IsFirstWithRoom a shared n (after bs)
    first_stays n [] fits first = first
    first_stays n (b ∷ bs) fits first = by (cases_eq b.number q) (has_room a shared b) refl first (first_stays n bs (λ c i. fits c (inr i)))
      where
        by : (b.number ≡ q) ⊎ (b.number ≡ q → ⊥) → (t : Bool) → has_room a shared b ≡ t → MatchBool t (b.number ≡ n) (IsFirstWithRoom a shared n bs)
            → (IsFirstWithRoom a shared n bs → IsFirstWithRoom a shared n (after bs)) → IsFirstWithRoom a shared n (after (b ∷ bs))
        by (inl same) true room first rest = let no_way : true ≡ false = sym room ∙ fits b (inl refl) same b.block in absurd (cc)
        by (inl same) false none first rest =
            after_this b bs (IsFirstWithRoom a shared n) same
            (λ c. subst (λ t. MatchBool t (b.number ≡ n) (IsFirstWithRoom a shared n (after bs))) (sym (fits b (inl refl) same c)) (rest first)) (rest first)
        by (inr apart) true room first rest =
            subst (IsFirstWithRoom a shared n) (sym (after_other b bs apart))
            (subst (λ t. MatchBool t (b.number ≡ n) (IsFirstWithRoom a shared n (after bs))) (sym room) first)
        by (inr apart) false none first rest =
            subst (IsFirstWithRoom a shared n) (sym (after_other b bs apart))
            (subst (λ t. MatchBool t (b.number ≡ n) (IsFirstWithRoom a shared n (after bs))) (sym none) (rest first))

    full_stays : (bs : List Numbered) → ((b : Numbered) → In b bs → b.number ≡ q → NoFit a shared b) → list_any (has_room a shared) bs ≡ false → list_any (has_room a shared) (after bs) ≡ false
    full_stays [] fits none = refl
    full_stays (b ∷ bs) fits none =
        let parts = or_parts (has_room a shared b) (list_any (has_room a shared) bs) none in
        by (cases_eq b.number q) parts.0 (full_stays bs (λ c i. fits c (inr i)) parts.1)
      where
        by : (b.number ≡ q) ⊎ (b.number ≡ q → ⊥) → has_room a shared b ≡ false → list_any (has_room a shared) (after bs) ≡ false → list_any (has_room a shared) (after (b ∷ bs)) ≡ false
        by (inl same) here rest =
            after_this b bs (λ cs. list_any (has_room a shared) cs ≡ false) same
            (λ c. or_from (has_room a shared (record b { block = c })) (list_any (has_room a shared) (after bs)) (fits b (inl refl) same c) rest) rest
        by (inr apart) here rest =
            ap (list_any (has_room a shared)) (after_other b bs apart) ∙ or_from (has_room a shared b) (list_any (has_room a shared) (after bs)) here rest

  absent_stays : (n : ℕ) (bs : List Numbered) → (In n (numbers_of bs) → ⊥) → In n (numbers_of (after bs)) → ⊥
  absent_stays n bs absent i =
      absent (subst (In n) (numbers_same q (without_row k) (with_block q g bs) ∙ numbers_same q g bs)
      (number_kept (λ c. not (is_emptied q c)) n (with_block q (without_row k) (with_block q g bs)) i))

  alone : (c : Numbered) → (c.number ≡ q → ⊥) → In q (numbers_of (c ∷ [])) → ⊥
  alone c apart (inl same) = apart (sym same)
  alone c apart (inr i) = i

  after_appended : (bs : List Numbered) (c : Numbered) → (c.number ≡ q → ⊥) → after (bs ++ c ∷ []) ≡ after bs ++ c ∷ []
  after_appended bs c apart =
      ap (λ cs. filter (λ d. not (is_emptied q d)) (with_block q (without_row k) cs)) (block_append q g bs (c ∷ []))
      ∙ ap (filter (λ d. not (is_emptied q d))) (block_append q (without_row k) (with_block q g bs) (with_block q g (c ∷ [])))
      ∙ filter-append (λ d. not (is_emptied q d)) (with_block q (without_row k) (with_block q g bs)) (with_block q (without_row k) (with_block q g (c ∷ [])))
      ∙ ap (λ cs. after bs ++ cs) (ap (left q k) (block_none q g (c ∷ []) (alone c apart)) ∙ left_none q k (c ∷ []) (alone c apart))

  -- ---- a change of another block may come first or last

  module _ (n : ℕ) (f : BlockState → BlockState) (apart : n ≡ q → ⊥) where
    emptied_same : (b : Numbered) → is_emptied q (change n f b) ≡ is_emptied q b
    emptied_same b = by (nat_eq b.number n) refl
      where
        by : (t : Bool) → nat_eq b.number n ≡ t → is_emptied q (change n f b) ≡ is_emptied q b
        by true is =
            let other = ne_eqb b.number q (λ same. apart (sym (eqb-true b.number n is) ∙ same)) in
            ap (is_emptied q) (change_yes n f b is) ∙ ap (λ t. t && nat_eq (length (f b.block).rows) 0) other ∙ sym (ap (λ t. t && nat_eq (length b.block.rows) 0) other)
        by false is = ap (is_emptied q) (change_no n f b is)

    kept_changed : (bs : List Numbered) → filter (λ d. not (is_emptied q d)) (with_block n f bs) ≡ with_block n f (filter (λ d. not (is_emptied q d)) bs)
    kept_changed [] = refl
    kept_changed (b ∷ bs) =
        ap (λ t. cond (not t) (change n f b ∷ filter (λ d. not (is_emptied q d)) (with_block n f bs)) (filter (λ d. not (is_emptied q d)) (with_block n f bs))) (emptied_same b)
        ∙ by (is_emptied q b) (kept_changed bs)
      where
        by : (t : Bool) → filter (λ d. not (is_emptied q d)) (with_block n f bs) ≡ with_block n f (filter (λ d. not (is_emptied q d)) bs)
            → cond (not t) (change n f b ∷ filter (λ d. not (is_emptied q d)) (with_block n f bs)) (filter (λ d. not (is_emptied q d)) (with_block n f bs))
            ≡ with_block n f (cond (not t) (b ∷ filter (λ d. not (is_emptied q d)) bs) (filter (λ d. not (is_emptied q d)) bs))
        by true rest = rest
        by false rest = ap (λ cs. change n f b ∷ cs) rest

    after_changed : (bs : List Numbered) → after (with_block n f bs) ≡ with_block n f (after bs)
    after_changed bs =
        ap (left q k) (block_apart q n g f bs (λ same. apart (sym same)))
        ∙ ap (filter (λ d. not (is_emptied q d))) (block_apart q n (without_row k) f (with_block q g bs) (λ same. apart (sym same)))
        ∙ kept_changed (with_block q (without_row k) (with_block q g bs))

-- what the row that leaves has become makes no difference
pub left_spoiled : (q k now : ℕ) (spoiled : Row) (bs : List Numbered) → left q k (with_block q (λ b. order_marked now (with_row k spoiled b)) bs) ≡ left q k (with_block q (order_marked now) bs)
left_spoiled q k now spoiled bs =
    ap (filter (λ d. not (is_emptied q d)))
    (block_twice q (without_row k) (λ b. order_marked now (with_row k spoiled b)) bs
    ∙ block_equal q (λ b. without_row k (order_marked now (with_row k spoiled b))) (λ b. without_row k (order_marked now b)) bs
    (λ b. ap (λ rows. record b { rows = rows; order = now }) (swap_any b.rows k spoiled no_row))
    ∙ sym (block_twice q (without_row k) (order_marked now) bs))

-- ---- of a store

module _ {registry : List TypeInfo} {s mid : StoreState} {table : Table} {a : ℕ} {shared : List (PartOf Value)} {n : ℕ}
    (placed_is : IsPlaced registry s.blocks table) (store : IsStore s) (same : registry_of s ≡ registry) (below : a < length s.archetypes) (opens : Opens s mid a shared n)
    (e : Entity) (p : Place) (at : place_of table e ≡ Some p)
    (x : Found) (is : found e (world_blocks s.blocks) ≡ Some x) (apart : x.home ≡ record { types = types_at s.archetypes a; shared = shared } → ⊥) where
  fits : (b : Numbered) → In b s.blocks → Fits registry s.archetypes b
  fits = store_fits placed_is store same below opens

  gets : Gets registry s.archetypes a shared n s.blocks mid.blocks
  gets = store_gets placed_is store same below opens

  -- the entity's block has another home
  no_fit : (b : Numbered) → In b s.blocks → b.number ≡ p.block → NoFit a shared b
  no_fit b i number c = by (has_room a shared (record b { block = c })) refl
    where
      by : (t : Bool) → has_room a shared (record b { block = c }) ≡ t → t ≡ false
      by false room = refl
      by true room =
          let there = there_is placed_is e p at in
          let parts = and_parts (nat_eq b.archetype a) (nat_lt (length c.rows) c.capacity && pointwise same_part shared b.shared) room in
          let second = (and_parts (nat_lt (length c.rows) c.capacity) (pointwise same_part shared b.shared) parts.1).1 in
          let first : pointwise nat_eq (types_at s.archetypes a) b.block.types ≡ true = sym (archetype_same {registry = registry} {archetypes = s.archetypes} a shared below store.apart b (fits b i)) ∙ parts.0 in
          let homes : record { types = types_at s.archetypes a; shared = shared } ≡ home_of b =
          home_is (record { types = types_at s.archetypes a; shared = shared }) (home_of b)
          (and_from (pointwise nat_eq (types_at s.archetypes a) b.block.types) (pointwise same_part shared b.shared) first second) in
          let block : b ≡ there.block = one_of s.blocks placed_is.numbers b there.block i there.member (number ∙ sym there.number) in
          let mine : x ≡ record { home = home_of there.block; row = there.row } = same_Some x _ (sym is ∙ there.is_found) in
          absurd (apart (ap (λ (y : Found). y.home) mine ∙ (sym (ap home_of block) ∙ sym homes)))

  pub moved_apart : n ≡ p.block → ⊥
  moved_apart equal = by gets
    where
      by : Gets registry s.archetypes a shared n s.blocks mid.blocks → ⊥
      by (Has first blocks) =
          let (c, i, number, room) = first_member a shared n s.blocks first in
          let no_way : true ≡ false = sym room ∙ no_fit c i (number ∙ equal) c.block in
          absurd (cc)
      by (Grows full absent blocks) =
          let there = there_is placed_is e p at in
          absent (subst (λ m. In m (numbers_of s.blocks)) (there.number ∙ sym equal) (number_in there.block s.blocks there.member))

  -- what holds of the entity's block holds before and after a block was added
  pub of_opened : (P : Numbered → Type 0) → OfNumber p.block P s.blocks → OfNumber p.block P mid.blocks
  of_opened P h = by gets
    where
      by : Gets registry s.archetypes a shared n s.blocks mid.blocks → OfNumber p.block P mid.blocks
      by (Has first blocks) = subst (OfNumber p.block P) (sym blocks) h
      by (Grows full absent blocks) = subst (OfNumber p.block P) (sym blocks) (of_appended p.block P s.blocks (fresh registry s.archetypes a shared n ∷ []) h)

  of_store : (P : Numbered → Type 0) → OfNumber p.block P mid.blocks → OfNumber p.block P s.blocks
  of_store P h = by gets
    where
      by : Gets registry s.archetypes a shared n s.blocks mid.blocks → OfNumber p.block P s.blocks
      by (Has first blocks) = subst (OfNumber p.block P) blocks h
      by (Grows full absent blocks) = of_unappended p.block P s.blocks (fresh registry s.archetypes a shared n) moved_apart (subst (OfNumber p.block P) blocks h)

  module _ (now : ℕ) (row spoiled : Row) where
    abbrev before : List Numbered
    before = with_block p.block (λ b. order_marked now (with_row p.row spoiled b)) (with_block n (row_entered now row) mid.blocks)

    -- the blocks after the row has left, without and with the block that the other one enters
    abbrev rest : List Numbered
    rest = left p.block p.row (with_block p.block (order_marked now) s.blocks)

    abbrev rest_mid : List Numbered
    rest_mid = left p.block p.row (with_block p.block (order_marked now) mid.blocks)

    pub moved_ready : OfBlock p.block (λ b. (p.row < length b.rows) × IsWhole b.columns)
        (with_block p.block (λ b. order_marked now (with_row p.row spoiled b)) (with_block n (row_entered now row) mid.blocks))
    moved_ready =
        of_changed p.block (λ b. order_marked now (with_row p.row spoiled b)) (λ b. (p.row < length b.block.rows) × IsWhole b.block.columns) (with_block n (row_entered now row) mid.blocks)
        (of_more p.block (λ b. (p.row < length b.block.rows) × IsWhole b.block.columns) (λ b. (p.row < length (with_row p.row spoiled b.block).rows) × IsWhole b.block.columns)
        (with_block n (row_entered now row) mid.blocks) (λ b h. (subst (λ m. p.row < m) (sym (length-set b.block.rows p.row spoiled)) h.0, h.1))
        (of_other_changed p.block n (row_entered now row) (λ b. (p.row < length b.block.rows) × IsWhole b.block.columns) mid.blocks (λ equal. moved_apart (sym equal))
        (of_opened (λ b. (p.row < length b.block.rows) × IsWhole b.block.columns) (block_ready placed_is e p at))))

    rest_gets : Gets registry s.archetypes a shared n rest rest_mid
    rest_gets = by gets
      where
        by : Gets registry s.archetypes a shared n s.blocks mid.blocks → Gets registry s.archetypes a shared n rest rest_mid
        by (Has first blocks) =
            Has (first_stays p.block p.row (order_marked now) a shared n s.blocks no_fit first) (ap (λ bs. left p.block p.row (with_block p.block (order_marked now) bs)) blocks)
        by (Grows full absent blocks) =
            Grows (ap not (full_stays p.block p.row (order_marked now) a shared s.blocks no_fit (not-true (list_any (has_room a shared) s.blocks) full)))
            (absent_stays p.block p.row (order_marked now) n s.blocks absent)
            (ap (λ bs. left p.block p.row (with_block p.block (order_marked now) bs)) blocks
            ∙ after_appended p.block p.row (order_marked now) s.blocks (fresh registry s.archetypes a shared n) moved_apart)

    rest_numbers : AreDistinct (numbers_of rest)
    rest_numbers =
        left_numbers p.block p.row (with_block p.block (order_marked now) s.blocks) (subst AreDistinct (sym (numbers_same p.block (order_marked now) s.blocks)) placed_is.numbers)

    rest_fits : (b : Numbered) → In b rest → Fits registry s.archetypes b
    rest_fits =
        left_member p.block p.row (with_block p.block (order_marked now) s.blocks) (Fits registry s.archetypes)
        (λ b i number some. let f = marked b i in record { there = f.there; types = f.types; holds = f.holds }) (λ b i other. marked b i)
      where
        marked : (b : Numbered) → In b (with_block p.block (order_marked now) s.blocks) → Fits registry s.archetypes b
        marked =
            changed_member p.block (order_marked now) s.blocks (Fits registry s.archetypes)
            (λ b i number. let f = fits b i in record { there = f.there; types = f.types; holds = f.holds }) (λ b i other. fits b i)

    -- the row may enter after the other one has left
    moved_blocks : left p.block p.row (with_block p.block (λ b. order_marked now (with_row p.row spoiled b)) (with_block n (row_entered now row) mid.blocks)) ≡ with_block n (row_entered now row) rest_mid
    moved_blocks =
        left_spoiled p.block p.row now spoiled (with_block n (row_entered now row) mid.blocks)
        ∙ after_changed p.block p.row (order_marked now) n (row_entered now row) moved_apart mid.blocks

    rest_entered : world_blocks (with_block n (row_entered now row) rest_mid)
        ≡ enter (capacity registry (types_at s.archetypes a)) now (record { types = types_at s.archetypes a; shared = shared }) row (world_blocks rest)
    rest_entered = gets_entered a shared below store.apart now row n rest rest_mid rest_numbers rest_fits rest_gets

    pub moved_is : world_blocks (left p.block p.row (with_block p.block (λ b. order_marked now (with_row p.row spoiled b)) (with_block n (row_entered now row) mid.blocks)))
        ≡ enter (capacity registry (types_at s.archetypes a)) now (record { types = types_at s.archetypes a; shared = shared }) row (leave now e (world_blocks s.blocks))
    moved_is =
        ap world_blocks moved_blocks ∙ rest_entered
        ∙ ap (enter (capacity registry (types_at s.archetypes a)) now (record { types = types_at s.archetypes a; shared = shared }) row) (left_is placed_is e p at now)

    module _ (m : Option Entity) (mover : OfBlock p.block (λ b. m ≡ mover_in p.row b) (with_block p.block (λ b. order_marked now (with_row p.row spoiled b)) (with_block n (row_entered now row) mid.blocks))) where
      -- the row that takes the place is the same as before
      pub moved_mover : OfBlock p.block (λ b. m ≡ mover_in p.row b) s.blocks
      moved_mover =
          of_store (λ b. m ≡ mover_in p.row b.block)
          (of_more p.block (λ b. m ≡ mover_in p.row (with_row p.row spoiled b.block)) (λ b. m ≡ mover_in p.row b.block) mid.blocks
          (λ b h. h ∙ mover_with_row p.row spoiled b.block)
          (of_other_before p.block n (row_entered now row) (λ b. m ≡ mover_in p.row (with_row p.row spoiled b.block)) mid.blocks (λ equal. moved_apart (sym equal))
          (of_before p.block (λ b. order_marked now (with_row p.row spoiled b)) (λ b. m ≡ mover_in p.row b.block) (with_block n (row_entered now row) mid.blocks) mover)))

      pub moved_placed : (k : ℕ) → row.entity ≡ e → OfBlock n (λ b. k ≡ length b.rows) mid.blocks
          → IsPlaced registry (left p.block p.row (with_block p.block (λ b. order_marked now (with_row p.row spoiled b)) (with_block n (row_entered now row) mid.blocks)))
          (with_place (with_mover m p table) e (record { block = n; row = k }))
      moved_placed k named last =
          subst (λ bs. IsPlaced registry bs (with_place (with_mover m p table) e (record { block = n; row = k }))) (sym moved_blocks)
          (entered_placed placed_rest ready now row e k named last_rest (with_place (with_mover m p table) e (record { block = n; row = k })) ended.there
          (record { there = replaced.there; others = λ d other. replaced.others d other ∙ sym (ended.others d other) })
          (place_count (with_mover m p table) e alive (record { block = n; row = k }) ∙ sym (without_count (with_mover m p table) e alive))
          (ap (λ bs. length (placed bs)) rest_entered
          ∙ perm_length (enter_perm (capacity registry (types_at s.archetypes a)) now (record { types = types_at s.archetypes a; shared = shared }) row (world_blocks rest))))
        where
          alive : IsAlive (with_mover m p table) e
          alive = left_alive placed_is e p at m moved_mover

          ended : Rebinds (with_mover m p table) (without (with_mover m p table) e) e None
          ended = without_rebinds (with_mover m p table) e alive

          replaced : Rebinds (with_mover m p table) (with_place (with_mover m p table) e (record { block = n; row = k })) e (Some (record { block = n; row = k }))
          replaced = place_rebinds (with_mover m p table) e alive (record { block = n; row = k })

          placed_rest : IsPlaced registry rest (without (with_mover m p table) e)
          placed_rest = left_placed placed_is e p at m moved_mover now

          ready : Ready registry n rest rest_mid
          ready = gets_ready placed_rest s.archetypes a shared n rest_mid rest_gets (subst (λ r. 0 < capacity r (types_at s.archetypes a)) same (store.fit a below))

          last_rest : OfBlock n (λ b. k ≡ length b.rows) rest_mid
          last_rest =
              of_other_left n p.block p.row (λ b. k ≡ length b.block.rows) (with_block p.block (order_marked now) mid.blocks) moved_apart
              (of_other_changed n p.block (order_marked now) (λ b. k ≡ length b.block.rows) mid.blocks moved_apart last)
