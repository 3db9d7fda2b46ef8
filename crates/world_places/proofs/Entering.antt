-- A row enters: the first block that has room, or a new last one.
use Rattle.std.proofs.Common.{map, ◌≡◌, ℕ, suc, ◌+◌, ◌<◌, ◌≤◌, ◌⊎◌, inl, inr, Bool, true, false, not, ◌&&◌, ◌||◌, cond, nat_eq, nat_lt, List, [], ◌∷◌, ◌++◌, length, slice_get, Some, None, option_map, refl, sym, ap, ap₂, ◌∙◌, subst, arith, length-append}
use Rattle.std.specs.Bool.{MatchBool}
use Rattle.std.specs.List.{list_any}
use Rattle.std.specs.Cmp.Lexicographic.{pointwise}
use Rattle.std.proofs.lemmas.Bool.{eq-eqb, ne_eqb, eqb-true, eqb-false, ltb-true, cases_eq, and_parts, or_parts, not-true}
use Rattle.std.proofs.lemmas.Option.{none-some, same_Some, slice_get_past}
use Rattle.ent_types.specs.declared.entity.Entity.{Entity}
use Rattle.ent_types.specs.declared.type_info.TypeInfo.{TypeInfo}
use Rattle.ent_types.specs.declared.value.Value.{Value}
use Rattle.entity_table.specs.declared.table.Place.{Place}
use Rattle.entity_table.specs.Table.{Table, place_of, alive_count, given_by, with_made, Rebinds}
use Rattle.world_model.specs.Members.{In, AreDistinct}
use Rattle.world_model.specs.Part.{PartOf, same_part}
use Rattle.world_model.specs.Row.{Row}
use Rattle.world_model.specs.World.{Block, mark_type, capacity}
use Rattle.world_model.specs.Found.{placed}
use Rattle.world_model.specs.Enter.{enter, entered, has_room as home_has_room}
use Rattle.chunk_block.specs.Blocks.{IsWhole, new_types, new_block, new_mark}
use Rattle.archetype_store.specs.Stores.{Numbered, StoreState, OfNumber, OfBlock, Opens, IsFirstWithRoom, IsStore, AreApart, with_block, has_room, is_full, registry_of, types_at}
use Rattle.world_laws.proofs.Members.{in_append, map_in}
use Rattle.world_laws.proofs.Perms.{perm_length}
use Rattle.world_laws.proofs.Entering.{enter_perm}
use Rattle.world_places.specs.Placing.{world_block, world_blocks, row_at, entity_at, numbers_of, IsPlaced, row_entered}
use Rattle.world_places.proofs.Lists.{get_pushed, get_pushed_other}
use Rattle.world_places.proofs.Numbers.{change, change_yes, change_no, numbers_same, block_none, of_at, of_both, of_in, later_apart, row_at_in, row_at_other, row_at_appended}
use Rattle.world_places.proofs.Looking.{place_is}
use Rattle.world_places.proofs.Kept.{changed_member}
use Rattle.world_places.proofs.Leaving.{new_whole}
use Rattle.world_places.proofs.Tables.{entity_cases, made_count}

-- ---- archetypes and homes

types_are : (ts us : List ℕ) → pointwise nat_eq ts us ≡ true → ts ≡ us
types_are [] [] same = refl
types_are [] (u ∷ us) same = absurd (cc)
types_are (t ∷ ts) [] same = absurd (cc)
types_are (t ∷ ts) (u ∷ us) same =
    let parts = and_parts (nat_eq t u) (pointwise nat_eq ts us) same in
    ap₂ (λ (v : ℕ) (vs : List ℕ). v ∷ vs) (eqb-true t u parts.0) (types_are ts us parts.1)

types_self : (ts : List ℕ) → pointwise nat_eq ts ts ≡ true
types_self [] = refl
types_self (t ∷ ts) = ap (λ b. b && pointwise nat_eq ts ts) (eq-eqb t t refl) ∙ types_self ts

-- a block is of its archetype
pub record Fits (registry : List TypeInfo) (archetypes : List (List ℕ)) (b : Numbered) : Type 0 where
  pub there : b.archetype < length archetypes
  pub types : b.block.types ≡ types_at archetypes b.archetype
  pub holds : b.block.capacity ≡ capacity registry b.block.types

-- a new block of an archetype, without rows
abbrev pub fresh : List TypeInfo → List (List ℕ) → ℕ → List (PartOf Value) → ℕ → Numbered
fresh registry archetypes a shared n = record {
  number = n;
  archetype = a;
  shared = shared;
  block = new_block registry (types_at archetypes a) (capacity registry (types_at archetypes a));
}

-- the blocks with one of this number that a row can enter: the first one that has room, or a new last one
pub data Gets (registry : List TypeInfo) (archetypes : List (List ℕ)) (a : ℕ) (shared : List (PartOf Value)) (n : ℕ) (bs mid : List Numbered) : Type 0 where
  Has : IsFirstWithRoom a shared n bs → mid ≡ bs → Gets registry archetypes a shared n bs mid
  Grows : is_full a shared bs ≡ true → (In n (numbers_of bs) → ⊥) → mid ≡ bs ++ fresh registry archetypes a shared n ∷ [] → Gets registry archetypes a shared n bs mid

number_absent : (n : ℕ) (bs : List Numbered) → list_any (λ b. nat_eq b.number n) bs ≡ false → In n (numbers_of bs) → ⊥
number_absent n [] none i = i
number_absent n (b ∷ bs) none (inl same) = eqb-false b.number n (or_parts (nat_eq b.number n) (list_any (λ c. nat_eq c.number n) bs) none).0 (sym same)
number_absent n (b ∷ bs) none (inr i) = number_absent n bs (or_parts (nat_eq b.number n) (list_any (λ c. nat_eq c.number n) bs) none).1 i

pub opens_gets : (s mid : StoreState) (a : ℕ) (shared : List (PartOf Value)) (n : ℕ) → Opens s mid a shared n → Gets (registry_of s) s.archetypes a shared n s.blocks mid.blocks
opens_gets s mid a shared n opens = by (is_full a shared s.blocks) refl
  where
    by : (b : Bool) → is_full a shared s.blocks ≡ b → Gets (registry_of s) s.archetypes a shared n s.blocks mid.blocks
    by false is =
        let same : mid ≡ s = opens.found is in
        Has (subst (λ (t : StoreState). IsFirstWithRoom a shared n t.blocks) same opens.first) (ap (λ (t : StoreState). t.blocks) same)
    by true is = let adds = opens.added is in Grows is (number_absent n s.blocks adds.new_number) adds.blocks.blocks

-- a first block with room has room
pub first_member : (a : ℕ) (shared : List (PartOf Value)) (n : ℕ) (bs : List Numbered) → IsFirstWithRoom a shared n bs → (b : Numbered) × In b bs × (b.number ≡ n) × (has_room a shared b ≡ true)
first_member a shared n [] first = absurd first
first_member a shared n (b ∷ bs) first = by (has_room a shared b) refl first (first_member a shared n bs)
  where
    by : (t : Bool) → has_room a shared b ≡ t → MatchBool t (b.number ≡ n) (IsFirstWithRoom a shared n bs)
        → (IsFirstWithRoom a shared n bs → (c : Numbered) × In c bs × (c.number ≡ n) × (has_room a shared c ≡ true))
        → (c : Numbered) × In c (b ∷ bs) × (c.number ≡ n) × (has_room a shared c ≡ true)
    by true room first rest = (b, inl refl, first, room)
    by false none first rest = let (c, i, number, room) = rest first in (c, inr i, number, room)

module _ {registry : List TypeInfo} {archetypes : List (List ℕ)} (a : ℕ) (shared : List (PartOf Value)) (below : a < length archetypes) (apart : AreApart archetypes) where
  pub archetype_same : (b : Numbered) → Fits registry archetypes b → nat_eq b.archetype a ≡ pointwise nat_eq (types_at archetypes a) b.block.types
  archetype_same b fits = by (cases_eq b.archetype a)
    where
      by : (b.archetype ≡ a) ⊎ (b.archetype ≡ a → ⊥) → nat_eq b.archetype a ≡ pointwise nat_eq (types_at archetypes a) b.block.types
      by (inl same) =
          let types : b.block.types ≡ types_at archetypes a = fits.types ∙ ap (types_at archetypes) same in
          eq-eqb b.archetype a same ∙ sym (ap (pointwise nat_eq (types_at archetypes a)) types ∙ types_self (types_at archetypes a))
      by (inr other) = ne_eqb b.archetype a other ∙ sym (of (pointwise nat_eq (types_at archetypes a) b.block.types) refl)
        where
          of : (t : Bool) → pointwise nat_eq (types_at archetypes a) b.block.types ≡ t → t ≡ false
          of false is = refl
          of true is = absurd (other (apart b.archetype a fits.there below (sym fits.types ∙ sym (types_are (types_at archetypes a) b.block.types is))))

  -- the store and the model agree on which blocks have room
  pub room_fits : (b : Numbered) → Fits registry archetypes b → has_room a shared b ≡ home_has_room (capacity registry (types_at archetypes a)) (record { types = types_at archetypes a; shared = shared }) (world_block b)
  room_fits b fits = by (nat_eq b.archetype a) refl (archetype_same b fits)
    where
      swapped : (s t : Bool) → (s && t) ≡ (t && s)
      swapped true true = refl
      swapped true false = refl
      swapped false true = refl
      swapped false false = refl

      by : (t : Bool) → nat_eq b.archetype a ≡ t → t ≡ pointwise nat_eq (types_at archetypes a) b.block.types
          → (t && (nat_lt (length b.block.rows) b.block.capacity && pointwise same_part shared b.shared))
          ≡ ((pointwise nat_eq (types_at archetypes a) b.block.types && pointwise same_part shared b.shared) && nat_lt (length b.block.rows) (capacity registry (types_at archetypes a)))
      by true is same =
          let archetype : b.archetype ≡ a = eqb-true b.archetype a is in
          let holds : b.block.capacity ≡ capacity registry (types_at archetypes a) = fits.holds ∙ ap (capacity registry) (fits.types ∙ ap (types_at archetypes) archetype) in
          swapped (nat_lt (length b.block.rows) b.block.capacity) (pointwise same_part shared b.shared)
          ∙ ap₂ (λ t c. (t && pointwise same_part shared b.shared) && nat_lt (length b.block.rows) c) same holds
      by false is same = ap (λ t. (t && pointwise same_part shared b.shared) && nat_lt (length b.block.rows) (capacity registry (types_at archetypes a))) same

  -- ---- the model's blocks

  module _ (now : ℕ) (row : Row) where
    enter_first : (n : ℕ) (bs : List Numbered) → AreDistinct (numbers_of bs) → ((b : Numbered) → In b bs → Fits registry archetypes b) → IsFirstWithRoom a shared n bs
        → world_blocks (with_block n (row_entered now row) bs) ≡ enter (capacity registry (types_at archetypes a)) now (record { types = types_at archetypes a; shared = shared }) row (world_blocks bs)
    unfolding enter
    enter_first n [] distinct fits first = absurd first
    enter_first n (b ∷ bs) distinct fits first =
        by (has_room a shared b) refl first (λ h. enter_first n bs distinct.1 (λ c i. fits c (inr i)) h)
      where
        after : Bool → List Block
        after t = cond t (entered now row (world_block b) ∷ world_blocks bs) (world_block b ∷ enter (capacity registry (types_at archetypes a)) now (record { types = types_at archetypes a; shared = shared }) row (world_blocks bs))

        by : (t : Bool) → has_room a shared b ≡ t → MatchBool t (b.number ≡ n) (IsFirstWithRoom a shared n bs)
            → (IsFirstWithRoom a shared n bs → world_blocks (with_block n (row_entered now row) bs) ≡ enter (capacity registry (types_at archetypes a)) now (record { types = types_at archetypes a; shared = shared }) row (world_blocks bs))
            → world_blocks (with_block n (row_entered now row) (b ∷ bs)) ≡ enter (capacity registry (types_at archetypes a)) now (record { types = types_at archetypes a; shared = shared }) row (world_blocks (b ∷ bs))
        by true room number rest =
            ap₂ (λ c cs. world_block c ∷ world_blocks cs) (change_yes n (row_entered now row) b (eq-eqb b.number n number))
            (block_none n (row_entered now row) bs (λ i. distinct.0 (subst (λ k. In k (numbers_of bs)) (sym number) i)))
            ∙ ap after (sym room ∙ room_fits b (fits b (inl refl)))
        by false none first rest =
            let (c, i, number, room) = first_member a shared n bs first in
            let other : b.number ≡ n → ⊥ = λ same. later_apart b bs distinct c i (same ∙ sym number) in
            ap₂ (λ (d : Block) (ds : List Block). d ∷ ds) (ap world_block (change_no n (row_entered now row) b (ne_eqb b.number n other))) (rest first)
            ∙ ap after (sym none ∙ room_fits b (fits b (inl refl)))

    enter_grown : (n : ℕ) (bs : List Numbered) → ((b : Numbered) → In b bs → Fits registry archetypes b) → is_full a shared bs ≡ true → (In n (numbers_of bs) → ⊥)
        → world_blocks (with_block n (row_entered now row) (bs ++ fresh registry archetypes a shared n ∷ []))
        ≡ enter (capacity registry (types_at archetypes a)) now (record { types = types_at archetypes a; shared = shared }) row (world_blocks bs)
    unfolding enter
    enter_grown n [] fits full absent = ap (λ c. world_block c ∷ []) (change_yes n (row_entered now row) (fresh registry archetypes a shared n) (eq-eqb n n refl))
    enter_grown n (b ∷ bs) fits full absent =
        let none = or_parts (has_room a shared b) (list_any (has_room a shared) bs) (not-true (has_room a shared b || list_any (has_room a shared) bs) full) in
        ap₂ (λ (d : Block) (ds : List Block). d ∷ ds)
        (ap world_block (change_no n (row_entered now row) b (ne_eqb b.number n (λ same. absent (inl (sym same))))))
        (enter_grown n bs (λ c i. fits c (inr i)) (ap not none.1) (λ i. absent (inr i)))
        ∙ ap (λ t. cond t (entered now row (world_block b) ∷ world_blocks bs)
        (world_block b ∷ enter (capacity registry (types_at archetypes a)) now (record { types = types_at archetypes a; shared = shared }) row (world_blocks bs)))
        (sym none.0 ∙ room_fits b (fits b (inl refl)))

    pub gets_entered : (n : ℕ) (bs mid : List Numbered) → AreDistinct (numbers_of bs) → ((b : Numbered) → In b bs → Fits registry archetypes b) → Gets registry archetypes a shared n bs mid
        → world_blocks (with_block n (row_entered now row) mid) ≡ enter (capacity registry (types_at archetypes a)) now (record { types = types_at archetypes a; shared = shared }) row (world_blocks bs)
    gets_entered n bs mid distinct fits (Has first same) =
        ap (λ cs. world_blocks (with_block n (row_entered now row) cs)) same ∙ enter_first n bs distinct fits first
    gets_entered n bs mid distinct fits (Grows full absent same) =
        ap (λ cs. world_blocks (with_block n (row_entered now row) cs)) same ∙ enter_grown n bs fits full absent

-- ---- the places

-- the blocks that a row is about to enter
pub record Ready (registry : List TypeInfo) (n : ℕ) (bs mid : List Numbered) : Type 0 where
  pub numbers : AreDistinct (numbers_of mid)
  pub block : Numbered
  pub member : In block mid
  pub number : block.number ≡ n
  pub few : length block.block.rows < block.block.capacity
  pub whole : (b : Numbered) → In b mid → b.block.columns ≡ new_types registry b.block.types
  pub others : (b : Numbered) → In b mid → (b.number ≡ n → ⊥) → In b bs
  pub same_rows : (m j : ℕ) → row_at mid m j ≡ row_at bs m j

numbers_grown : (bs : List Numbered) (c : Numbered) → AreDistinct (numbers_of bs) → (In c.number (numbers_of bs) → ⊥) → AreDistinct (numbers_of (bs ++ c ∷ []))
numbers_grown [] c distinct absent = (λ i. i, tt)
numbers_grown (b ∷ bs) c distinct absent = (λ i. by (number_of_grown bs i), numbers_grown bs c distinct.1 (λ i. absent (inr i)))
  where
    number_of_grown : (cs : List Numbered) → In b.number (numbers_of (cs ++ c ∷ [])) → In b.number (numbers_of cs) ⊎ (b.number ≡ c.number)
    number_of_grown [] (inl same) = inr same
    number_of_grown [] (inr i) = absurd i
    number_of_grown (d ∷ ds) (inl same) = inl (inl same)
    number_of_grown (d ∷ ds) (inr i) = more (number_of_grown ds i)
      where
        more : In b.number (numbers_of ds) ⊎ (b.number ≡ c.number) → In b.number (numbers_of (d ∷ ds)) ⊎ (b.number ≡ c.number)
        more (inl j) = inl (inr j)
        more (inr same) = inr same

    by : In b.number (numbers_of bs) ⊎ (b.number ≡ c.number) → ⊥
    by (inl i) = distinct.0 i
    by (inr same) = absent (inl (sym same))

in_last : (c : Numbered) (bs : List Numbered) → In c (bs ++ c ∷ [])
in_last c [] = inl refl
in_last c (b ∷ bs) = inr (in_last c bs)

pub gets_ready : {registry : List TypeInfo} {blocks : List Numbered} {table : Table} → IsPlaced registry blocks table → (archetypes : List (List ℕ)) (a : ℕ) (shared : List (PartOf Value)) (n : ℕ)
    (mid : List Numbered) → Gets registry archetypes a shared n blocks mid → 0 < capacity registry (types_at archetypes a) → Ready registry n blocks mid
gets_ready {registry} {blocks} {table} placed_is archetypes a shared n mid (Has first same) fit =
    let (b, i, number, room) = first_member a shared n blocks first in
    let second = (and_parts (nat_eq b.archetype a) (nat_lt (length b.block.rows) b.block.capacity && pointwise same_part shared b.shared) room).1 in
    let few = (and_parts (nat_lt (length b.block.rows) b.block.capacity) (pointwise same_part shared b.shared) second).0 in
    subst (Ready registry n blocks) (sym same) (record {
      numbers = placed_is.numbers;
      block = b;
      member = i;
      number = number;
      few = ltb-true (length b.block.rows) b.block.capacity few;
      whole = placed_is.whole;
      others = λ c j other. j;
      same_rows = λ m j. refl;
    })
gets_ready {registry} {blocks} {table} placed_is archetypes a shared n mid (Grows full absent same) fit =
    subst (Ready registry n blocks) (sym same) (record {
      numbers = numbers_grown blocks (fresh registry archetypes a shared n) placed_is.numbers absent;
      block = fresh registry archetypes a shared n;
      member = in_last (fresh registry archetypes a shared n) blocks;
      number = refl;
      few = fit;
      whole = λ b i. is_whole b (in_append b blocks (fresh registry archetypes a shared n ∷ []) i);
      others = λ b i other. is_old b other (in_append b blocks (fresh registry archetypes a shared n ∷ []) i);
      same_rows = λ m j. row_at_appended blocks (fresh registry archetypes a shared n) refl m j;
    })
  where
    is_whole : (b : Numbered) → In b blocks ⊎ In b (fresh registry archetypes a shared n ∷ []) → b.block.columns ≡ new_types registry b.block.types
    is_whole b (inl i) = placed_is.whole b i
    is_whole b (inr (inl is)) = subst (λ (c : Numbered). c.block.columns ≡ new_types registry c.block.types) (sym is) refl
    is_whole b (inr (inr i)) = absurd i

    is_old : (b : Numbered) → (b.number ≡ n → ⊥) → In b blocks ⊎ In b (fresh registry archetypes a shared n ∷ []) → In b blocks
    is_old b other (inl i) = i
    is_old b other (inr (inl is)) = absurd (other (ap (λ (c : Numbered). c.number) is))
    is_old b other (inr (inr i)) = absurd i

module _ {registry : List TypeInfo} {n : ℕ} {blocks mid : List Numbered} (ready : Ready registry n blocks mid) where
  pub ready_block : OfBlock n (λ b. (length b.rows < b.capacity) × IsWhole b.columns) mid
  ready_block =
      of_in n (λ b. (length b.block.rows < b.block.capacity) × IsWhole b.block.columns) mid ready.numbers ready.block ready.member ready.number
      (ready.few, subst IsWhole (sym (ready.whole ready.block ready.member)) (new_whole registry ready.block.block.types))

module _ {registry : List TypeInfo} {n : ℕ} {blocks mid : List Numbered} {table : Table} (placed_is : IsPlaced registry blocks table) (ready : Ready registry n blocks mid)
    (now : ℕ) (row : Row) where
  module _ (e : Entity) (k : ℕ) (named : row.entity ≡ e) (last : OfBlock n (λ b. k ≡ length b.rows) mid) where
    last_is : k ≡ length ready.block.block.rows
    last_is = of_at n (λ b. k ≡ length b.block.rows) mid ready.numbers last ready.block ready.member ready.number

    -- no row was at the place
    was_empty : entity_at blocks n k ≡ None
    was_empty =
        ap (option_map (λ (r : Row). r.entity))
        (sym (ready.same_rows n k) ∙ row_at_in mid ready.numbers ready.block ready.member n k ready.number
        ∙ slice_get_past ready.block.block.rows k (let same = last_is in omega arith))

    in_block : (j : ℕ) → row_at (with_block n (row_entered now row) mid) n j ≡ slice_get (ready.block.block.rows ++ row ∷ []) j
    in_block j =
        row_at_in (with_block n (row_entered now row) mid) (subst AreDistinct (sym (numbers_same n (row_entered now row) mid)) ready.numbers)
        (record (ready.block) { block = row_entered now row ready.block.block }) changed n j ready.number
      where
        changed : In (record (ready.block) { block = row_entered now row ready.block.block }) (with_block n (row_entered now row) mid)
        changed =
            subst (λ c. In c (with_block n (row_entered now row) mid)) (change_yes n (row_entered now row) ready.block (eq-eqb ready.block.number n ready.number))
            (map_in (change n (row_entered now row)) ready.block mid ready.member)

    is_there : entity_at (with_block n (row_entered now row) mid) n k ≡ Some e
    is_there =
        ap (option_map (λ (r : Row). r.entity)) (in_block k ∙ (ap (slice_get (ready.block.block.rows ++ row ∷ [])) last_is ∙ get_pushed ready.block.block.rows row))
        ∙ ap Some named

    elsewhere : (m j : ℕ) → (m ≡ n → j ≡ k → ⊥) → entity_at (with_block n (row_entered now row) mid) m j ≡ entity_at blocks m j
    elsewhere m j apart = ap (option_map (λ (r : Row). r.entity)) (by (cases_eq m n) ∙ ready.same_rows m j)
      where
        by : (m ≡ n) ⊎ (m ≡ n → ⊥) → row_at (with_block n (row_entered now row) mid) m j ≡ row_at mid m j
        by (inl same) =
            ap (λ i. row_at (with_block n (row_entered now row) mid) i j) same ∙ in_block j
            ∙ get_pushed_other ready.block.block.rows row j (λ is. apart same (is ∙ sym last_is))
            ∙ sym (row_at_in mid ready.numbers ready.block ready.member n j ready.number)
            ∙ ap (λ i. row_at mid i j) (sym same)
        by (inr other) = row_at_other m n j (row_entered now row) mid other

    module _ (new : Table) (none : place_of table e ≡ None) (rebinds : Rebinds table new e (Some (record { block = n; row = k }))) where
      entered_there : (d : Entity) (q : Place) → place_of new d ≡ Some q → entity_at (with_block n (row_entered now row) mid) q.block q.row ≡ Some d
      entered_there d q is = by (entity_cases d e)
        where
          by : (d ≡ e) ⊎ (d ≡ e → ⊥) → entity_at (with_block n (row_entered now row) mid) q.block q.row ≡ Some d
          by (inl same) =
              let at : record { block = n; row = k } ≡ q = same_Some _ q (sym rebinds.there ∙ (ap (place_of new) (sym same) ∙ is)) in
              subst (λ (o : Place). entity_at (with_block n (row_entered now row) mid) o.block o.row ≡ Some d) at (is_there ∙ ap Some (sym same))
          by (inr apart) =
              let was : entity_at blocks q.block q.row ≡ Some d = placed_is.places.there d q (sym (rebinds.others d apart) ∙ is) in
              elsewhere q.block q.row
              (λ block at_row. none-some d (sym was_empty ∙ (ap₂ (λ m j. entity_at blocks m j) (sym block) (sym at_row) ∙ was))) ∙ was

      entered_found : (d : Entity) (q : Place) → entity_at (with_block n (row_entered now row) mid) q.block q.row ≡ Some d → place_of new d ≡ Some q
      entered_found d q is = by (cases_eq q.block n) (cases_eq q.row k)
        where
          old : (q.block ≡ n → q.row ≡ k → ⊥) → place_of new d ≡ Some q
          old apart =
              let was : place_of table d ≡ Some q = placed_is.places.found d q (sym (elsewhere q.block q.row apart) ∙ is) in
              rebinds.others d (λ same. none-some q (sym none ∙ (ap (place_of table) (sym same) ∙ was))) ∙ was

          by : (q.block ≡ n) ⊎ (q.block ≡ n → ⊥) → (q.row ≡ k) ⊎ (q.row ≡ k → ⊥) → place_of new d ≡ Some q
          by (inl block) (inl at_row) =
              let same : e ≡ d = same_Some e d (sym is_there ∙ (ap₂ (λ m j. entity_at (with_block n (row_entered now row) mid) m j) (sym block) (sym at_row) ∙ is)) in
              ap (place_of new) (sym same) ∙ rebinds.there ∙ ap Some (sym (place_is q n k block at_row))
          by (inl block) (inr apart) = old (λ _ same. apart same)
          by (inr apart) any = old (λ same _. apart same)

      -- the blocks and a table that has the new row's place
      pub entered_placed : alive_count new ≡ alive_count table + 1 → length (placed (world_blocks (with_block n (row_entered now row) mid))) ≡ suc (length (placed (world_blocks blocks)))
          → IsPlaced registry (with_block n (row_entered now row) mid) new
      entered_placed alive one_more = record {
        numbers = subst AreDistinct (sym (numbers_same n (row_entered now row) mid)) ready.numbers;
        filled = changed_member n (row_entered now row) mid (λ b. 1 ≤ length b.block.rows)
            (λ b i number. let more = length-append b.block.rows (row ∷ []) in omega arith) (λ b i other. placed_is.filled b (ready.others b i other));
        whole = changed_member n (row_entered now row) mid (λ b. b.block.columns ≡ new_types registry b.block.types) (λ b i number. ready.whole b i) (λ b i other. ready.whole b i);
        places = record { there = entered_there; found = entered_found };
        counted = let before = placed_is.counted in omega arith;
      }

-- what the block has that a row enters
module _ {registry : List TypeInfo} (archetypes : List (List ℕ)) (a : ℕ) (shared : List (PartOf Value)) (n : ℕ) (bs mid : List Numbered) (numbers : AreDistinct (numbers_of bs)) where
  gets_of : (P : Numbered → Type 0) → ((b : Numbered) → In b bs → b.archetype ≡ a → P b) → P (fresh registry archetypes a shared n) → Gets registry archetypes a shared n bs mid → OfNumber n P mid
  gets_of P old new (Has first same) =
      let (b, i, number, room) = first_member a shared n bs first in
      let archetype = (and_parts (nat_eq b.archetype a) (nat_lt (length b.block.rows) b.block.capacity && pointwise same_part shared b.shared) room).0 in
      subst (OfNumber n P) (sym same) (of_in n P bs numbers b i number (old b i (eqb-true b.archetype a archetype)))
  gets_of P old new (Grows full absent same) =
      subst (OfNumber n P) (sym same)
      (of_in n P (bs ++ fresh registry archetypes a shared n ∷ []) (numbers_grown bs (fresh registry archetypes a shared n) numbers absent) (fresh registry archetypes a shared n)
      (in_last (fresh registry archetypes a shared n) bs) refl new)

  gets_types : ((b : Numbered) → In b bs → Fits registry archetypes b) → Gets registry archetypes a shared n bs mid → OfNumber n (λ b. b.block.types ≡ types_at archetypes a) mid
  gets_types fits = gets_of (λ b. b.block.types ≡ types_at archetypes a) (λ b i archetype. (fits b i).types ∙ ap (types_at archetypes) archetype) refl

  gets_marks : ((b : Numbered) → In b bs → map mark_type b.block.marks ≡ b.block.types) → Gets registry archetypes a shared n bs mid → OfNumber n (λ b. map mark_type b.block.marks ≡ b.block.types) mid
  gets_marks marked = gets_of (λ b. map mark_type b.block.marks ≡ b.block.types) (λ b i archetype. marked b i) (new_marks (types_at archetypes a))
    where
      new_marks : (ts : List ℕ) → map mark_type (map new_mark ts) ≡ ts
      new_marks [] = refl
      new_marks (t ∷ ts) = ap (λ (us : List ℕ). t ∷ us) (new_marks ts)

-- ---- of a store

module _ {registry : List TypeInfo} {s mid : StoreState} {table : Table} {a : ℕ} {shared : List (PartOf Value)} {n : ℕ}
    (placed_is : IsPlaced registry s.blocks table) (store : IsStore s) (same : registry_of s ≡ registry) (below : a < length s.archetypes) (opens : Opens s mid a shared n) where
  pub store_fits : (b : Numbered) → In b s.blocks → Fits registry s.archetypes b
  store_fits b i =
      let of = store.blocks b i in
      record { there = of.there; types = of.types; holds = of.capacity ∙ ap (λ r. capacity r b.block.types) same }

  pub store_gets : Gets registry s.archetypes a shared n s.blocks mid.blocks
  store_gets = subst (λ r. Gets r s.archetypes a shared n s.blocks mid.blocks) same (opens_gets s mid a shared n opens)

  pub store_ready : Ready registry n s.blocks mid.blocks
  store_ready = gets_ready placed_is s.archetypes a shared n mid.blocks store_gets (subst (λ r. 0 < capacity r (types_at s.archetypes a)) same (store.fit a below))

  pub room_same : (b : Numbered) → In b s.blocks → has_room a shared b ≡ home_has_room (capacity registry (types_at s.archetypes a)) (record { types = types_at s.archetypes a; shared = shared }) (world_block b)
  room_same b i = room_fits a shared below store.apart b (store_fits b i)

  -- the block can take one more row
  pub enter_ready : OfBlock n (λ b. (length b.rows < b.capacity) × IsWhole b.columns) mid.blocks
  enter_ready = ready_block store_ready

  -- the block is of the archetype
  pub opened_types : OfBlock n (λ b. b.types ≡ types_at s.archetypes a) mid.blocks
  opened_types = gets_types s.archetypes a shared n s.blocks mid.blocks placed_is.numbers store_fits store_gets

  pub opened_columns : OfBlock n (λ b. b.columns ≡ new_types registry (types_at s.archetypes a)) mid.blocks
  opened_columns =
      of_in n (λ b. b.block.columns ≡ new_types registry (types_at s.archetypes a)) mid.blocks store_ready.numbers store_ready.block store_ready.member store_ready.number
      (store_ready.whole store_ready.block store_ready.member
      ∙ ap (new_types registry) (of_at n (λ b. b.block.types ≡ types_at s.archetypes a) mid.blocks store_ready.numbers opened_types store_ready.block store_ready.member store_ready.number))

  -- it has a mark for each type, if each block has
  pub opened_marks : ((b : Numbered) → In b s.blocks → map mark_type b.block.marks ≡ b.block.types) → OfBlock n (λ b. map mark_type b.marks ≡ types_at s.archetypes a) mid.blocks
  opened_marks marked = of_both n (λ b. b.block.types ≡ types_at s.archetypes a) (λ b. map mark_type b.block.marks ≡ b.block.types)
      (λ b. map mark_type b.block.marks ≡ types_at s.archetypes a) mid.blocks (λ b types marks. marks ∙ types) opened_types
      (gets_marks s.archetypes a shared n s.blocks mid.blocks placed_is.numbers marked store_gets)

  pub opened_numbers : AreDistinct (numbers_of mid.blocks)
  opened_numbers = store_ready.numbers

  pub entered_is : (now : ℕ) (row : Row) → world_blocks (with_block n (row_entered now row) mid.blocks)
      ≡ enter (capacity registry (types_at s.archetypes a)) now (record { types = types_at s.archetypes a; shared = shared }) row (world_blocks s.blocks)
  entered_is now row = gets_entered a shared below store.apart now row n s.blocks mid.blocks placed_is.numbers store_fits store_gets

  pub entered_length : (now : ℕ) (row : Row) → length (placed (world_blocks (with_block n (row_entered now row) mid.blocks))) ≡ suc (length (placed (world_blocks s.blocks)))
  entered_length now row =
      ap (λ bs. length (placed bs)) (entered_is now row)
      ∙ perm_length (enter_perm (capacity registry (types_at s.archetypes a)) now (record { types = types_at s.archetypes a; shared = shared }) row (world_blocks s.blocks))

  -- a new entity
  pub made_placed : (now k : ℕ) (row : Row) → row.entity ≡ (given_by table).entity → OfBlock n (λ b. k ≡ length b.rows) mid.blocks
      → place_of table (given_by table).entity ≡ None
      → Rebinds table (with_made table (record { block = n; row = k })) (given_by table).entity (Some (record { block = n; row = k }))
      → IsPlaced registry (with_block n (row_entered now row) mid.blocks) (with_made table (record { block = n; row = k }))
  made_placed now k row named last none rebinds =
      entered_placed placed_is store_ready now row (given_by table).entity k named last (with_made table (record { block = n; row = k })) none rebinds
      (made_count table (record { block = n; row = k }) none rebinds) (entered_length now row)
