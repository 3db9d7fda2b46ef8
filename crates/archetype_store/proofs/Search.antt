-- The first block with room is found by the ids of its shared values.
use Rattle.std.proofs.Common.{◌≡◌, ℕ, zero, suc, ◌+◌, ◌≤◌, inl, Bool, true, false, not, ◌&&◌, ◌||◌, nat_eq, nat_lt, List, [], ◌∷◌, length, Option, Some, None, refl, sym, ap, ap₂, ◌∙◌, subst, arith}
use Rattle.std.specs.Prelude.{option_map, MatchOption}
use Rattle.std.specs.Bool.{MatchBool, Decides}
use Rattle.std.specs.Cmp.{signed_Decides, unsigned_Decides}
use Rattle.std.specs.Cmp.Lexicographic.{pointwise}
use Rattle.std.specs.HashMap.{get}
use Rattle.std.specs.List.{list_any, cons_option}
use Rattle.std.proofs.lemmas.Bool.{eq-eqb, eqb-true, false≢true, false_from_ne_true}
use Rattle.std.proofs.lemmas.Bool.Decides.{Decides-and}
use Rattle.std.proofs.lemmas.Slice.Eq.{slice_eq-Decides}
use Rattle.ent_types.specs.declared.entity.Entity.{Entity}
use Rattle.ent_types.specs.declared.value.Value.{Value}
use Rattle.ent_types.specs.declared.value.Value.TheVariants.{Int, Ref}
use Rattle.world_model.specs.Members.{IsRising}
use Rattle.world_model.specs.Part.{PartOf, same_entity, same_part, same_value}
use Rattle.shared_values.specs.declared.table.Slot.{Slot as Interned}
use Rattle.shared_values.specs.Holds.{AreOneEach}
use Rattle.archetype_store.specs.declared.shared_parts.SharedPart.{SharedPart}
use Rattle.archetype_store.specs.declared.homes.HomeKey.{HomeKey}
use Rattle.archetype_store.specs.declared.slots.Held.{Held}
use Rattle.archetype_store.specs.declared.store.ArchetypeStore.TheInside.{Inside}
use Rattle.archetype_store.specs.Holding.{AreTyped, Backs, StandAll, ids_of, parts_of}
use Rattle.archetype_store.specs.HomeKeys.{same_home}
use Rattle.archetype_store.specs.Homes.{first_number, has_rank, home_at, homes_of, is_roomy, is_roomy_at, key_of, lodger, lodgers, number_at_first}
use Rattle.archetype_store.specs.Slots.{slot_at}
use Rattle.archetype_store.specs.Stores.{IsFirstWithRoom, has_room, is_full}
use Rattle.archetype_store.specs.Inside.{Beside, beside, kept, numbered, blocks_in, IsConsistent}
use Rattle.archetype_store.proofs.Holding.{held_of}
use Rattle.archetype_store.proofs.Orders.{some_is, none_some}
use Rattle.archetype_store.proofs.Views.{slot-kept, slot-lodged}
use Rattle.archetype_store.proofs.Added.{backs-one}
use Rattle.archetype_store.proofs.Ranks.{Told, told-all, told-rest}
use Rattle.archetype_store.proofs.RankLists.{least}

-- ---- parts that are found the same are the same

value_decides : (v w : Value) → Decides (same_value v w) (v ≡ w)
value_decides (Int x) (Int y) = (λ h. ap Int ((signed_Decides x y).0 h), λ e. (signed_Decides x y).1 cc)
value_decides (Int x) (Ref e) = (λ h. absurd (false≢true h), λ h. cc)
value_decides (Ref d) (Int y) = (λ h. absurd (false≢true h), λ h. cc)
value_decides (Ref d) (Ref e) =
    let both : Decides (same_entity d e) ((d.index ≡ e.index) × (d.version ≡ e.version)) = Decides-and _ _ (unsigned_Decides d.index e.index) (unsigned_Decides d.version e.version) in (
      λ h. ap Ref (ap₂ (λ (i v : ℕ). let made : Entity = record { index = i; version = v } in made) (both.0 h).0 (both.0 h).1),
      λ same. let entities : d ≡ e = ap (entity_of d) same in both.1 (ap (λ (x : Entity). x.index) entities, ap (λ (x : Entity). x.version) entities),
    )
  where
    entity_of : Entity → Value → Entity
    entity_of f (Int x) = f
    entity_of f (Ref g) = g

part_decides : (p q : PartOf Value) → Decides (same_part p q) (p ≡ q)
part_decides p q =
    let both : Decides (same_part p q) ((p.type_id ≡ q.type_id) × (p.values ≡ q.values)) =
    Decides-and _ _ (unsigned_Decides p.type_id q.type_id) (slice_eq-Decides value_decides p.values q.values _ refl) in (
      λ h. ap₂ (λ (t : ℕ) (vs : List Value). let made : PartOf Value = record { type_id = t; values = vs } in made) (both.0 h).0 (both.0 h).1,
      λ e. both.1 (ap (λ (x : PartOf Value). x.type_id) e, ap (λ (x : PartOf Value). x.values) e),
    )

parts-decide : (ps qs : List (PartOf Value)) → Decides (pointwise same_part ps qs) (ps ≡ qs)
parts-decide ps qs = slice_eq-Decides part_decides ps qs _ refl

-- ---- the ids of parts

stand-of : (table : List Interned) (ps : List SharedPart) → Backs table (ids_of ps) → AreTyped table ps → StandAll table (parts_of table ps) (ids_of ps)
stand-of table [] backs typed = tt
stand-of table (p ∷ ps) backs typed =
    (record { held = held_of table (ids_of (p ∷ ps)) p.id backs (inl refl); type_is = typed.0; values_are = refl }, stand-of table ps (record { holds = λ id. omega (arith, backs.holds id) }) typed.1)

stand-one : (table : List Interned) → AreOneEach table → (parts : List (PartOf Value)) (xs ys : List ℕ) → StandAll table parts xs → StandAll table parts ys → xs ≡ ys
stand-one table one [] [] [] a b = refl
stand-one table one [] [] (y ∷ ys) a b = absurd b
stand-one table one [] (x ∷ xs) ys a b = absurd a
stand-one table one (p ∷ ps) [] ys a b = absurd a
stand-one table one (p ∷ ps) (x ∷ xs) [] a b = absurd b
stand-one table one (p ∷ ps) (x ∷ xs) (y ∷ ys) a b =
    ap₂ (λ (i : ℕ) (is : List ℕ). i ∷ is) (one x y (a.0).held (b.0).held ((a.0).type_is ∙ sym (b.0).type_is) ((a.0).values_are ∙ sym (b.0).values_are)) (stand-one table one ps xs ys a.1 b.1)

parts-by : (table : List Interned) (parts : List (PartOf Value)) (ps : List SharedPart) → StandAll table parts (ids_of ps) → AreTyped table ps → parts_of table ps ≡ parts
parts-by table [] [] stand typed = refl
parts-by table [] (p ∷ ps) stand typed = absurd stand
parts-by table (q ∷ qs) [] stand typed = absurd stand
parts-by table (q ∷ qs) (p ∷ ps) stand typed =
    ap₂ (λ (x : PartOf Value) (xs : List (PartOf Value)). x ∷ xs)
    (ap₂ (λ (t : ℕ) (vs : List Value). let made : PartOf Value = record { type_id = t; values = vs } in made) (sym typed.0 ∙ (stand.0).type_is) (stand.0).values_are) (parts-by table qs ps stand.1 typed.1)

both-true : (b c : Bool) → (b && c) ≡ true → (b ≡ true) × (c ≡ true)
both-true true c is = (refl, is)
both-true false c is = absurd (false≢true is)

module _ (s : Inside) (consistent : IsConsistent s) (one : AreOneEach s.shared) (a : ℕ) (parts : List (PartOf Value)) where
  abbrev Fits : ℕ → Held → Type 0
  Fits m h = (slot_at s.slots.items m ≡ Some h) × (has_room a parts (numbered s.shared m h) ≡ true)

  at-kept : (m : ℕ) (h : Held) → slot_at s.slots.items m ≡ Some h → slot_at (kept s.slots.items) m ≡ Some (beside h)
  at-kept m h at = slot-kept s.slots.items m ∙ ap (option_map beside) at

  at-lodged : (m : ℕ) (h : Held) → slot_at s.slots.items m ≡ Some h → slot_at (lodgers s.slots.items) m ≡ Some (lodger h)
  at-lodged m h at = slot-lodged s.slots.items m ∙ ap (option_map lodger) at

  typed-at : (m : ℕ) (h : Held) → slot_at s.slots.items m ≡ Some h → AreTyped s.shared h.shared.items
  typed-at m h at = consistent.1.0 m (beside h) (at-kept m h at)

  -- what a block has that a row can enter
  candidate : (m : ℕ) (h : Held) → Fits m h → (h.archetype ≡ a) × ((nat_lt (length h.block.rows) h.block.capacity ≡ true) × StandAll s.shared parts (ids_of h.shared.items))
  candidate m h fits =
      let first = both-true (nat_eq h.archetype a) (nat_lt (length h.block.rows) h.block.capacity && pointwise same_part parts (parts_of s.shared h.shared.items)) fits.1 in
      let second = both-true (nat_lt (length h.block.rows) h.block.capacity) (pointwise same_part parts (parts_of s.shared h.shared.items)) first.1 in
      let same : parts ≡ parts_of s.shared h.shared.items = (parts-decide parts (parts_of s.shared h.shared.items)).0 second.1 in (
        eqb-true h.archetype a first.0,
        (
          second.0,
          subst (λ ps. StandAll s.shared ps (ids_of h.shared.items)) (sym same)
              (stand-of s.shared h.shared.items (backs-one s.shared (kept s.slots.items) m (beside h) consistent.0.backs (at-kept m h fits.0)) (typed-at m h fits.0)),
        ),
      )

  none-fits : ((m : ℕ) (h : Held) → Fits m h → ⊥) → (os : List (Option ℕ)) → list_any (has_room a parts) (blocks_in s.slots.items s.shared os) ≡ false
  none-fits lacks [] = refl
  none-fits lacks (None ∷ os) = none-fits lacks os
  none-fits lacks (Some m ∷ os) = by (slot_at s.slots.items m) refl (none-fits lacks os)
    where
      by : (o : Option Held) → slot_at s.slots.items m ≡ o → list_any (has_room a parts) (blocks_in s.slots.items s.shared os) ≡ false
          → list_any (has_room a parts) (cons_option (option_map (numbered s.shared m) o) (blocks_in s.slots.items s.shared os)) ≡ false
      by None at rest = rest
      by (Some h) at rest = ap (λ b. b || list_any (has_room a parts) (blocks_in s.slots.items s.shared os)) (false_from_ne_true _ (λ room. lacks m h (at, room))) ∙ rest

  full-if : ((m : ℕ) (h : Held) → Fits m h → ⊥) → is_full a parts (blocks_in s.slots.items s.shared s.order.items) ≡ true
  full-if lacks = ap not (none-fits lacks s.order.items)

  module _ (n : ℕ) (h : Held) (fits : Fits n h) (least_rank : (m : ℕ) (g : Held) → Fits m g → h.rank ≤ g.rank) where
    first-walk : (i j : ℕ) (os : List (Option ℕ)) → Told s.slots.items i os → slot_at os j ≡ Some n → IsFirstWithRoom a parts n (blocks_in s.slots.items s.shared os)
    first-walk i j [] told at = absurd (none_some n at)
    first-walk i zero (None ∷ os) told at = absurd (none_some n at)
    first-walk i (suc j) (None ∷ os) told at = first-walk (i + 1) j os (told-rest s.slots.items i None os told) at
    first-walk i zero (Some m ∷ os) told at =
        let same : m ≡ n = some_is m n at in
        let there : slot_at s.slots.items m ≡ Some h = ap (slot_at s.slots.items) same ∙ fits.0 in
        subst (λ o. IsFirstWithRoom a parts n (cons_option (option_map (numbered s.shared m) o) (blocks_in s.slots.items s.shared os))) (sym there)
        (subst (λ t. MatchBool t (m ≡ n) (IsFirstWithRoom a parts n (blocks_in s.slots.items s.shared os))) (sym fits.1) same)
    first-walk i (suc j) (Some m ∷ os) told at =
        let t = told zero m refl in
        let u = told (suc j) n at in
        let rank : h.rank ≡ i + suc j = ap (λ (x : Held). x.rank) (some_is h u.0 (sym fits.0 ∙ u.1.0)) ∙ u.1.1 in
        let none : has_room a parts (numbered s.shared m t.0) ≡ false =
        false_from_ne_true _ (λ room. omega (arith, rank, t.1.1, least_rank m t.0 (t.1.0, room))) in
        subst (λ o. IsFirstWithRoom a parts n (cons_option (option_map (numbered s.shared m) o) (blocks_in s.slots.items s.shared os))) (sym t.1.0)
        (subst (λ b. MatchBool b (m ≡ n) (IsFirstWithRoom a parts n (blocks_in s.slots.items s.shared os))) (sym none) (first-walk (i + 1) j os (told-rest s.slots.items i (Some m) os told) at))

  -- without ids no block has room
  pub full-without : ((ids : List ℕ) → StandAll s.shared parts ids → ⊥) → is_full a parts (blocks_in s.slots.items s.shared s.order.items) ≡ true
  full-without lacks = full-if (λ m h fits. lacks (ids_of h.shared.items) (candidate m h fits).1.1)

  module _ (ids : List ℕ) (stand : StandAll s.shared parts ids) where
    abbrev key : HomeKey
    key = record { archetype = a; ids = ids }

    abbrev find : HomeKey → Option ℕ
    find = get same_home s.found

    key-is : (m : ℕ) (h : Held) → Fits m h → key_of (lodger h) ≡ key
    key-is m h fits =
        let c = candidate m h fits in
        ap₂ (λ (k : ℕ) (is : List ℕ). let made : HomeKey = record { archetype = k; ids = is } in made) c.0 (stand-one s.shared one parts (ids_of h.shared.items) ids c.1.1 stand)

    home-found : (m : ℕ) (h : Held) → Fits m h → find key ≡ Some h.home
    home-found m h fits = ap find (sym (key-is m h fits)) ∙ consistent.1.1.0.keys m (lodger h) (at-lodged m h fits.0)

    placed : (m : ℕ) (h : Held) → slot_at s.slots.items m ≡ Some h → slot_at s.order.items h.rank ≡ Some m
    placed m h at = consistent.0.placed m (beside h) (at-kept m h at)

    -- the rank of a block with room is among those of its home
    rank-there : (g : ℕ) → find key ≡ Some g → (m : ℕ) (h : Held) → Fits m h → has_rank h.rank (home_at (homes_of s.homes.items) g).ranks ≡ true
    rank-there g found m h fits =
        let home : h.home ≡ g = some_is h.home g (sym (home-found m h fits) ∙ found) in
        consistent.1.1.0.ranks g (consistent.1.1.0.known key g found) h.rank
        ∙ ap (is_roomy_at (lodgers s.slots.items) g) (placed m h fits.0) ∙ ap (is_roomy g) (at-lodged m h fits.0)
        ∙ ap (λ b. b && nat_lt (length h.block.rows) h.block.capacity) (eq-eqb h.home g home) ∙ (candidate m h fits).1.0

    -- and a block of that home with room can be entered
    roomy-fits : (g : ℕ) → find key ≡ Some g → (q : Option ℕ) → is_roomy_at (lodgers s.slots.items) g q ≡ true → (n : ℕ) × ((h : Held) × ((q ≡ Some n) × Fits n h))
    roomy-fits g found None is = absurd (false≢true is)
    roomy-fits g found (Some n) is = by (slot_at s.slots.items n) refl (sym (ap (is_roomy g) (slot-lodged s.slots.items n)) ∙ is)
      where
        by : (o : Option Held) → slot_at s.slots.items n ≡ o → is_roomy g (option_map lodger (slot_at s.slots.items n)) ≡ true → (k : ℕ) × ((h : Held) × ((Some n ≡ Some k) × Fits k h))
        by None at roomy = absurd (false≢true (sym (ap (λ o. is_roomy g (option_map lodger o)) at) ∙ roomy))
        by (Some h) at roomy =
            let both = both-true (nat_eq h.home g) (nat_lt (length h.block.rows) h.block.capacity) (sym (ap (λ o. is_roomy g (option_map lodger o)) at) ∙ roomy) in
            let home : h.home ≡ g = eqb-true h.home g both.0 in
            let same : key_of (lodger h) ≡ key = consistent.1.1.0.once (key_of (lodger h)) key g (consistent.1.1.0.keys n (lodger h) (at-lodged n h at) ∙ ap Some home) found in
            let stands : StandAll s.shared parts (ids_of h.shared.items) = subst (StandAll s.shared parts) (sym (ap (λ (k : HomeKey). k.ids) same)) stand in
            let of : h.archetype ≡ a = ap (λ (k : HomeKey). k.archetype) same in
            let are : parts_of s.shared h.shared.items ≡ parts = parts-by s.shared parts h.shared.items stands (typed-at n h at) in
            let room : has_room a parts (numbered s.shared n h) ≡ true =
            ap (λ b. b && (nat_lt (length h.block.rows) h.block.capacity && pointwise same_part parts (parts_of s.shared h.shared.items))) (eq-eqb h.archetype a of)
            ∙ ap (λ b. b && pointwise same_part parts (parts_of s.shared h.shared.items)) both.1
            ∙ (parts-decide parts (parts_of s.shared h.shared.items)).1 (sym are) in
            (n, (h, (refl, (at, room))))

    abbrev Answers : Option ℕ → Type 0
    Answers r = MatchOption r (is_full a parts (blocks_in s.slots.items s.shared s.order.items) ≡ true) (λ n. IsFirstWithRoom a parts n (blocks_in s.slots.items s.shared s.order.items))

    pub answers : Answers (first_number (homes_of s.homes.items) s.order.items (get same_home s.found key))
    answers = by (find key) refl
      where
        in-home : (g : ℕ) → find key ≡ Some g → (rs : List ℕ) → (home_at (homes_of s.homes.items) g).ranks ≡ rs → Answers (number_at_first s.order.items rs)
        in-home g found [] is = full-if (λ m h fits. false≢true (sym (ap (has_rank h.rank) is) ∙ rank-there g found m h fits))
        in-home g found (q ∷ qs) is =
            let within = consistent.1.1.0.known key g found in
            let there : has_rank q (q ∷ qs) ≡ true = ap (λ b. b || has_rank q qs) (eq-eqb q q refl) in
            let f = roomy-fits g found (slot_at s.order.items q) (sym (consistent.1.1.0.ranks g within q) ∙ ap (has_rank q) is ∙ there) in
            let n : ℕ = f.0 in
            let h : Held = f.1.0 in
            let rank : h.rank ≡ q =
            some_is h.rank q (ap (option_map (λ (x : Beside). x.rank)) (sym (at-kept n h f.1.1.1.0)) ∙ consistent.0.ordered q n f.1.1.0) in
            subst Answers (sym f.1.1.0)
            (first-walk n h f.1.1.1
            (λ m g2 fits. omega (arith, rank, least q qs g2.rank (subst IsRising is (consistent.1.1.0.rising g within)) (sym (ap (has_rank g2.rank) is) ∙ rank-there g found m g2 fits)))
            0 q s.order.items (told-all s.slots.items s.order.items consistent.0.ordered) f.1.1.0)

        by : (o : Option ℕ) → find key ≡ o → Answers (first_number (homes_of s.homes.items) s.order.items o)
        by None none = full-if (λ m h fits. none_some h.home (sym none ∙ home-found m h fits))
        by (Some g) found = in-home g found (home_at (homes_of s.homes.items) g).ranks refl
