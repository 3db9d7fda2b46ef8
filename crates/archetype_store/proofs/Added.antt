-- A store with one block more, and with one block less.
use Rattle.std.proofs.Common.{Vec, Global, get_or, zero, suc, ◌≡◌, ◌≢◌, ℕ, ◌+◌, ◌<◌, ◌≤◌, inl, inr, false, not, ◌||◌, cond, nat_eq, List, [], ◌∷◌, ◌++◌, length, set, map, filter, Option, Some, None, refl, sym, ap, ◌∙◌, subst, arith}
use Rattle.std.specs.Prelude.{option_map, count_by, is_some, unwrap_or}
use Rattle.std.proofs.lemmas.Bool.{cases_eq, cases_lt, lt-ltb, le-ltb, eq-eqb, ne_eqb}
use Rattle.std.proofs.lemmas.List.{get_or-set_same, get_or-set_other, length-set, length-map, length-append, map-set, map-append, append-nil, get_or-map}
use Rattle.std.proofs.Math.Seq.{map-set_same}
use Rattle.std.specs.List.{cons_option, list_any}
use Rattle.std.proofs.lemmas.List.Elements.{filter_map-append}
use Rattle.ent_types.specs.declared.value.Part.{Part}
use Rattle.world_model.specs.Part.{part_type, part_of as seen_part}
use Rattle.chunk_block.specs.Blocks.{BlockState, BlockType, new_types, new_block as block_of}
use Rattle.archetype_store.specs.declared.shared_parts.SharedPart.{SharedPart}
use Rattle.std.specs.Vec.{vec_capacity}
use Rattle.ent_types.specs.declared.type_info.TypeInfo.{TypeInfo}
use Rattle.world_model.specs.World.{capacity}
use Rattle.shared_values.specs.declared.table.Slot.{Slot as Interned}
use Rattle.archetype_store.specs.declared.numbers.TheConstants.{MOST_NUMBERS}
use Rattle.archetype_store.specs.declared.slots.Held.{Held}
use Rattle.archetype_store.specs.Holding.{Backs, KeepsValues, ids_of, parts_of}
use Rattle.world_model.specs.Members.{In}
use Rattle.archetype_store.specs.declared.store.ArchetypeStore.TheInside.{Inside}
use Rattle.archetype_store.proofs.Holding.{in-left, in-right, parts-kept-by}
use Rattle.archetype_store.specs.Slots.{of_slot, slot_at, put_slot, free_at, AreFree, AreOrdered}
use Rattle.archetype_store.specs.Stores.{types_at, shared_types}
use Rattle.archetype_store.specs.Inside.{Beside, beside, kept, all_ids, members_at, members_of, IsOfArchetype, IsOrderly, IsConsistent, numbered, numbered_at, blocks_in}
use Rattle.archetype_store.proofs.Times.{times-append}
use Rattle.archetype_store.proofs.Orders.{some_is, none_some, put-same, put-other, ordered-put, placed-put, numbers-put, ordered-gone, placed-gone, numbers-gone, count-put, count-gone, times-put, times-gone, free-pushed, numbers-lack, below_of}
use Rattle.std.proofs.lemmas.List.Sums.{sum_by-append}
use Rattle.archetype_store.proofs.Views.{slot-kept}

-- an id of a block is among those of all
pub among : (slots : List (Option Beside)) (n : ℕ) (x : Beside) → slot_at slots n ≡ Some x → (id : ℕ) → In id (ids_of x.shared) → In id (all_ids slots)
among [] n x at id is = absurd (none_some x at)
among (o ∷ os) zero x at id is = in-left id (ids_in o) (all_ids os) (subst (λ p. In id (ids_in p)) (sym at) is)
  where
    ids_in : Option Beside → List ℕ
    ids_in p = of_slot (λ (y : Beside). ids_of y.shared) p
among (o ∷ os) (suc n) x at id is = in-right id (of_slot (λ (y : Beside). ids_of y.shared) o) (all_ids os) (among os n x at id is)

-- the ids of one block are held
pub backs-one : (table : List Interned) (slots : List (Option Beside)) (n : ℕ) (x : Beside) → Backs table (all_ids slots) → slot_at slots n ≡ Some x → Backs table (ids_of x.shared)
backs-one table slots n x backs at =
    record { holds = λ id. omega (arith, backs.holds id, times-gone (λ (y : Beside). ids_of y.shared) slots n x at id) }

-- what is kept of a slot that is put
pub kept-put : (slots : List (Option Held)) (n : ℕ) (h : Held) → kept (put_slot slots n h) ≡ put_slot (kept slots) n (beside h)
kept-put slots n h =
    elim (cases_lt n (length slots)) [
      | inl below ↦
          ap (λ b. kept (cond b (set slots n (Some h)) (slots ++ Some h ∷ []))) (lt-ltb n (length slots) below)
          ∙ map-set (option_map beside) slots n (Some h)
          ∙ sym (ap (λ b. cond b (set (kept slots) n (Some (beside h))) (kept slots ++ Some (beside h) ∷ [])) (lt-ltb n (length (kept slots)) (omega (arith, below, length-map slots (option_map beside)))))
      | inr past ↦
          ap (λ b. kept (cond b (set slots n (Some h)) (slots ++ Some h ∷ []))) (le-ltb n (length slots) past)
          ∙ map-append (option_map beside) slots (Some h ∷ [])
          ∙ sym (ap (λ b. cond b (set (kept slots) n (Some (beside h))) (kept slots ++ Some (beside h) ∷ [])) (le-ltb n (length (kept slots)) (omega (arith, past, length-map slots (option_map beside)))))
    ]

pub length-kept : (slots : List (Option Held)) → length (kept slots) ≡ length slots
length-kept slots = length-map slots (option_map beside)

-- what is free is free of what is kept, and the other way round
pub free-kept : (slots : List (Option Held)) (free : List ℕ) → AreFree slots free → AreFree (kept slots) free
free-kept slots free are j below =
    let this = are j below in
    record {
      below = omega (arith, this.below, length-map slots (option_map beside));
      vacant = slot-kept slots (free_at free j) ∙ ap (option_map beside) this.vacant;
      once = this.once;
    }

pub kept-free : (slots : List (Option Held)) (free : List ℕ) → AreFree (kept slots) free → AreFree slots free
kept-free slots free are j below =
    let this = are j below in
    record {
      below = omega (arith, this.below, length-map slots (option_map beside));
      vacant = none_of (slot_at slots (free_at free j)) (sym (slot-kept slots (free_at free j)) ∙ this.vacant);
      once = this.once;
    }
  where
    none_of : (o : Option Held) → option_map beside o ≡ None → o ≡ None
    none_of None is = refl
    none_of (Some h) is = absurd (none_some (beside h) (sym is))

module _ (registry : Option (List TypeInfo)) (archetypes members : List (List ℕ)) (slots : List (Option Beside)) (free : List ℕ) (room : ℕ) (order : List (Option ℕ)) (table : List Interned)
    (orderly : IsOrderly registry archetypes members slots free room order table) where
  -- more room for free numbers, and other holders of the same ids
  pub orderly-more : (room' : ℕ) (table' : List Interned) → room ≤ room' → Backs table' (all_ids slots) → IsOrderly registry archetypes members slots free room' order table'
  orderly-more room' table' more backs = record {
    are_free = orderly.are_free;
    counted = orderly.counted;
    free_room = omega (arith, orderly.free_room, more);
    few = orderly.few;
    ordered = orderly.ordered;
    placed = orderly.placed;
    order_counted = orderly.order_counted;
    of_archetypes = orderly.of_archetypes;
    members_there = orderly.members_there;
    members_are = orderly.members_are;
    backs = backs;
    registered = orderly.registered;
    most = orderly.most;
    fit = orderly.fit;
  }

  -- a block more, at the end of the order
  pub orderly-put : (n : ℕ) (x : Beside) (free' : List ℕ) (room' : ℕ) (table' : List Interned) → slot_at slots n ≡ None → n ≤ length slots → x.rank ≡ length order
      → IsOfArchetype (unwrap_or registry []) archetypes x → AreFree (put_slot slots n x) free' → length free' + 1 + length slots ≡ length free + length (put_slot slots n x)
      → length (put_slot slots n x) ≤ room' → length (put_slot slots n x) ≤ MOST_NUMBERS → Backs table' (ids_of x.shared ++ all_ids slots)
      → IsOrderly registry archetypes (set members x.archetype (members_at members x.archetype ++ n ∷ [])) (put_slot slots n x) free' room' (order ++ Some n ∷ []) table'
  orderly-put n x free' room' table' vacant within last of_archetype are_free count fits few backs = record {
    are_free = are_free;
    counted = omega (arith, count, orderly.counted, count-put slots n x vacant);
    free_room = fits;
    few = few;
    ordered = ordered-put (λ y. y.rank) slots order orderly.ordered n x vacant within last;
    placed = placed-put (λ y. y.rank) slots order orderly.ordered n x vacant within last orderly.placed;
    order_counted = omega (arith, orderly.order_counted, count-put slots n x vacant, end order);
    of_archetypes = of_all;
    members_there = omega (arith, orderly.members_there, length-set members x.archetype (members_at members x.archetype ++ n ∷ []));
    members_are = members_by;
    backs = record { holds = λ id. omega (arith, backs.holds id, times-append id (ids_of x.shared) (all_ids slots), times-put (λ (y : Beside). ids_of y.shared) slots n x vacant id) };
    registered = orderly.registered;
    most = orderly.most;
    fit = orderly.fit;
  }
    where
      end : (os : List (Option ℕ)) → count_by is_some (os ++ Some n ∷ []) ≡ count_by is_some os + 1
      end os = sum_by-append (λ (o : Option ℕ). cond (is_some o) 1 0) os (Some n ∷ [])

      of_all : (m : ℕ) (y : Beside) → slot_at (put_slot slots n x) m ≡ Some y → IsOfArchetype (unwrap_or registry []) archetypes y
      of_all m y at =
          elim (cases_eq m n) [
            | inl same ↦ subst (IsOfArchetype (unwrap_or registry []) archetypes) (some_is x y (sym (ap (slot_at (put_slot slots n x)) same ∙ put-same slots n x within) ∙ at)) of_archetype
            | inr apart ↦ orderly.of_archetypes m y (sym (put-other slots n m x within apart) ∙ at)
          ]

      members_by : (a : ℕ) → a < length archetypes
          → members_at (set members x.archetype (members_at members x.archetype ++ n ∷ [])) a ≡ members_of (put_slot slots n x) a (order ++ Some n ∷ [])
      members_by a below =
          elim (cases_eq a x.archetype) [
            | inl same ↦
                ap (members_at (set members x.archetype (members_at members x.archetype ++ n ∷ []))) same
                ∙ get_or-set_same members x.archetype (members_at members x.archetype ++ n ∷ []) [] (omega (arith, of_archetype.there, orderly.members_there))
                ∙ ap (λ ns. ns ++ n ∷ []) (ap (members_at members) (sym same) ∙ orderly.members_are a below)
                ∙ ap (λ b. members_of slots a order ++ (cond b (n ∷ []) [])) (sym (eq-eqb x.archetype a (sym same)))
                ∙ sym (numbers-put (λ (y : Beside). y.rank) slots order orderly.ordered n x vacant within last (λ (y : Beside). nat_eq y.archetype a))
            | inr apart ↦
                get_or-set_other members x.archetype a (members_at members x.archetype ++ n ∷ []) [] apart
                ∙ orderly.members_are a below ∙ sym (append-nil (members_of slots a order))
                ∙ ap (λ b. members_of slots a order ++ (cond b (n ∷ []) [])) (sym (ne_eqb x.archetype a (λ e. apart (sym e))))
                ∙ sym (numbers-put (λ (y : Beside). y.rank) slots order orderly.ordered n x vacant within last (λ (y : Beside). nat_eq y.archetype a))
          ]

  -- a block less
  pub orderly-gone : (n : ℕ) (x : Beside) (table' : List Interned) → slot_at slots n ≡ Some x → Backs table' (all_ids (set slots n None))
      → IsOrderly registry archetypes (set members x.archetype (filter (λ m. not (nat_eq m n)) (members_at members x.archetype))) (set slots n None) (free ++ n ∷ []) room (set order x.rank None) table'
  orderly-gone n x table' there backs = record {
    are_free = free-pushed slots free n x orderly.are_free there;
    counted = omega (arith, orderly.counted, count-gone slots n x there, length-set slots n None, length-append free (n ∷ []));
    free_room = omega (arith, orderly.free_room, length-set slots n None);
    few = omega (arith, orderly.few, length-set slots n None);
    ordered = ordered-gone (λ y. y.rank) slots order orderly.ordered n x there orderly.placed;
    placed = placed-gone (λ y. y.rank) slots order orderly.ordered n x there orderly.placed;
    order_counted = omega (arith, orderly.order_counted, count-gone slots n x there, count-gone order x.rank n (orderly.placed n x there));
    of_archetypes = of_all;
    members_there = omega (arith, orderly.members_there, length-set members x.archetype (filter (λ m. not (nat_eq m n)) (members_at members x.archetype)));
    members_are = members_by;
    backs = backs;
    registered = orderly.registered;
    most = orderly.most;
    fit = orderly.fit;
  }
    where
      of_all : (m : ℕ) (y : Beside) → slot_at (set slots n None) m ≡ Some y → IsOfArchetype (unwrap_or registry []) archetypes y
      of_all m y at =
          elim (cases_eq m n) [
            | inl same ↦ absurd (none_some y (sym (ap (slot_at (set slots n None)) same ∙ get_or-set_same slots n None None (below_of slots n x there)) ∙ at))
            | inr apart ↦ orderly.of_archetypes m y (sym (get_or-set_other slots n m None None apart) ∙ at)
          ]

      without : (a : ℕ) → members_of (set slots n None) a (set order x.rank None) ≡ filter (λ m. not (nat_eq m n)) (members_of slots a order)
      without a = numbers-gone (λ (y : Beside). y.rank) slots order orderly.ordered n x there orderly.placed (λ (y : Beside). nat_eq y.archetype a)

      members_by : (a : ℕ) → a < length archetypes
          → members_at (set members x.archetype (filter (λ m. not (nat_eq m n)) (members_at members x.archetype))) a ≡ members_of (set slots n None) a (set order x.rank None)
      members_by a below =
          elim (cases_eq a x.archetype) [
            | inl same ↦
                ap (members_at (set members x.archetype (filter (λ m. not (nat_eq m n)) (members_at members x.archetype)))) same
                ∙ get_or-set_same members x.archetype (filter (λ m. not (nat_eq m n)) (members_at members x.archetype)) [] (omega (arith, (orderly.of_archetypes n x there).there, orderly.members_there))
                ∙ ap (filter (λ m. not (nat_eq m n))) (ap (members_at members) (sym same) ∙ orderly.members_are a below)
                ∙ sym (without a)
            | inr apart ↦
                get_or-set_other members x.archetype a (filter (λ m. not (nat_eq m n)) (members_at members x.archetype)) [] apart
                ∙ orderly.members_are a below ∙ sym (numbers-other a apart) ∙ sym (without a)
          ]
        where
          numbers-other : (a : ℕ) → a ≢ x.archetype → filter (λ m. not (nat_eq m n)) (members_of slots a order) ≡ members_of slots a order
          numbers-other a apart = numbers-lack Beside (λ (y : Beside). nat_eq y.archetype a) slots order n x there (ne_eqb x.archetype a (λ e. apart (sym e)))

-- ---- the numbers of each archetype, as lists of vectors

pub members-same : (ms : List (Vec ℕ Global)) (a : ℕ) (v d : Vec ℕ Global) → v.items ≡ (get_or ms a d).items → map (λ (w : Vec ℕ Global). w.items) (set ms a v) ≡ map (λ (w : Vec ℕ Global). w.items) ms
members-same ms a v d same = map-set_same (λ (w : Vec ℕ Global). w.items) ms a v d same

pub members-more : (ms : List (Vec ℕ Global)) (a n : ℕ) (v w d : Vec ℕ Global) → a < length ms → v.items ≡ (get_or ms a d).items → w.items ≡ v.items ++ n ∷ []
    → map (λ (w : Vec ℕ Global). w.items) (set (set ms a v) a w) ≡ set (map (λ (w : Vec ℕ Global). w.items) ms) a (members_at (map (λ (w : Vec ℕ Global). w.items) ms) a ++ n ∷ [])
members-more ms a n v w d below same more =
    map-set (λ (u : Vec ℕ Global). u.items) (set ms a v) a w
    ∙ ap (λ m. set m a w.items) (members-same ms a v d same)
    ∙ ap (set (map (λ (u : Vec ℕ Global). u.items) ms) a) (more ∙ ap (λ ns. ns ++ n ∷ []) (same ∙ sym (get_or-map (λ (u : Vec ℕ Global). u.items) ms a d [] below)))

-- a store that has taken room
module _ (s : Inside) (consistent : IsConsistent s) (a : ℕ) (v d : Vec ℕ Global) (same : v.items ≡ (get_or s.members.items a d).items) (slots : List (Option Held)) (slots_are : slots ≡ s.slots.items)
    (free : List ℕ) (free_are : free ≡ s.free.items) (room : ℕ) (more : vec_capacity s.free ≤ room) (order : List (Option ℕ)) (order_is : order ≡ s.order.items) where
  pub orderly-room : (table : List Interned) → Backs table (all_ids (kept s.slots.items))
      → IsOrderly s.registry s.archetypes.items (map (λ (w : Vec ℕ Global). w.items) (set s.members.items a v)) (kept slots) free room order table
  orderly-room table backs =
      subst (λ m. IsOrderly s.registry s.archetypes.items m (kept slots) free room order table) (sym (members-same s.members.items a v d same))
      (subst (λ o. IsOrderly s.registry s.archetypes.items (map (λ (w : Vec ℕ Global). w.items) s.members.items) (kept slots) free room o table) (sym order_is)
      (subst (λ f. IsOrderly s.registry s.archetypes.items (map (λ (w : Vec ℕ Global). w.items) s.members.items) (kept slots) f room s.order.items table) (sym free_are)
      (subst (λ k. IsOrderly s.registry s.archetypes.items (map (λ (w : Vec ℕ Global). w.items) s.members.items) (kept k) s.free.items room s.order.items table) (sym slots_are)
      (orderly-more s.registry s.archetypes.items (map (λ (w : Vec ℕ Global). w.items) s.members.items) (kept s.slots.items) s.free.items (vec_capacity s.free) s.order.items s.shared consistent.0 room table more backs))))

parts-one : (slots : List (Option Held)) (old new : List Interned) (m : ℕ) (h : Held) → KeepsValues old new (all_ids (kept slots)) → slot_at (kept slots) m ≡ Some (beside h)
    → parts_of new h.shared.items ≡ parts_of old h.shared.items
parts-one slots old new m h keeps at = parts-kept-by old new h.shared.items (λ id is. keeps.values id (among (kept slots) m (beside h) at id is))

-- blocks whose ids keep their values
pub blocks-kept : (slots : List (Option Held)) (old new : List Interned) (order : List (Option ℕ)) → KeepsValues old new (all_ids (kept slots)) → blocks_in slots new order ≡ blocks_in slots old order
blocks-kept slots old new [] keeps = refl
blocks-kept slots old new (None ∷ os) keeps = blocks-kept slots old new os keeps
blocks-kept slots old new (Some m ∷ os) keeps = by (slot_at slots m) refl (blocks-kept slots old new os keeps)
  where
    by : (o : Option Held) → slot_at slots m ≡ o → blocks_in slots new os ≡ blocks_in slots old os
        → cons_option (option_map (numbered new m) o) (blocks_in slots new os) ≡ cons_option (option_map (numbered old m) o) (blocks_in slots old os)
    by None at rest = rest
    by (Some h) at rest =
        ap (λ bs. numbered new m h ∷ bs) rest
        ∙ ap (λ parts. record { number = m; archetype = h.archetype; shared = parts; block = h.block } ∷ blocks_in slots old os) (parts-one slots old new m h keeps (slot-kept slots m ∙ ap (option_map beside) at))

-- there is a block for each place of the order that is taken
pub blocks-count : (slots : List (Option Held)) (table : List Interned) (order : List (Option ℕ)) → ((k n : ℕ) → slot_at order k ≡ Some n → (h : Held) × (slot_at slots n ≡ Some h))
    → length (blocks_in slots table order) ≡ count_by is_some order
blocks-count slots table [] there = refl
blocks-count slots table (None ∷ os) there = blocks-count slots table os (λ k n at. there (suc k) n at) ∙ omega arith
blocks-count slots table (Some m ∷ os) there =
    ap (λ o. length (cons_option (option_map (numbered table m) o) (blocks_in slots table os))) (there zero m refl).1
    ∙ omega (arith, blocks-count slots table os (λ k n at. there (suc k) n at), count-cons (Some m) os)
  where
    count-cons : (o : Option ℕ) (os : List (Option ℕ)) → count_by is_some (o ∷ os) ≡ cond (is_some o) 1 0 + count_by is_some os
    count-cons o os = sum_by-append (λ (p : Option ℕ). cond (is_some p) 1 0) (o ∷ []) os ∙ omega arith

pub order-there : (slots : List (Option Held)) (order : List (Option ℕ)) → AreOrdered (λ (x : Beside). x.rank) (kept slots) order → (k n : ℕ) → slot_at order k ≡ Some n → (h : Held) × (slot_at slots n ≡ Some h)
order-there slots order ordered k n at = by (slot_at slots n) (slot-kept slots n) refl
  where
    by : (o : Option Held) → slot_at (kept slots) n ≡ option_map beside (slot_at slots n) → slot_at slots n ≡ o → (h : Held) × (slot_at slots n ≡ Some h)
    by None is none = absurd (none_some k (sym (ap (option_map (λ (x : Beside). x.rank)) (is ∙ ap (option_map beside) none)) ∙ ordered k n at))
    by (Some h) is some = (h, some)

-- ---- what is added

pub types-of-parts : (table : List Interned) (ps : List SharedPart) → map part_type (parts_of table ps) ≡ map (λ p. p.ty.0) ps
types-of-parts table [] = refl
types-of-parts table (p ∷ ps) = ap (λ ts. p.ty.0 ∷ ts) (types-of-parts table ps)

pub types-seen : (parts : List Part) → map part_type (map seen_part parts) ≡ map (λ p. part_type (seen_part p)) parts
types-seen [] = refl
types-seen (p ∷ ps) = ap (λ ts. p.ty.0 ∷ ts) (types-seen ps)

-- a new block is of its archetype
pub new-of-archetype : (registry : List TypeInfo) (archetypes : List (List ℕ)) (table : List Interned) (a : ℕ) (types : List ℕ) (parts : List Part) (h : Held) → a < length archetypes → types ≡ types_at archetypes a
    → h.archetype ≡ a → h.block ≡ block_of registry types (capacity registry types) → parts_of table h.shared.items ≡ map seen_part parts
    → map (λ p. part_type (seen_part p)) parts ≡ shared_types registry (types_at archetypes a) → IsOfArchetype registry archetypes (beside h)
new-of-archetype registry archetypes table a types parts h below types_are archetype block shared asked =
    let of : types ≡ types_at archetypes h.archetype = types_are ∙ ap (types_at archetypes) (sym archetype) in
    record {
      there = subst (λ k. k < length archetypes) (sym archetype) below;
      types = ap (λ (b : BlockState). b.types) block ∙ of;
      capacity = ap (λ (b : BlockState). b.capacity) block ∙ ap (capacity registry) of;
      shapes = ap (λ (b : BlockState). map (λ (t : BlockType). t.shape) b.columns) block ∙ ap (λ ts. map (λ (t : BlockType). t.shape) (new_types registry ts)) of;
      shared =
          sym (types-of-parts table h.shared.items) ∙ ap (map part_type) shared ∙ types-seen parts ∙ asked ∙ ap (shared_types registry) (sym types_are ∙ of);
    }

-- the blocks with the new one at the end
pub blocks-put : (slots : List (Option Held)) (old new : List Interned) (order : List (Option ℕ)) (n : ℕ) (h : Held) → slot_at slots n ≡ None → n ≤ length slots
    → ((k m : ℕ) → slot_at order k ≡ Some m → (g : Held) × (slot_at slots m ≡ Some g)) → KeepsValues old new (all_ids (kept slots))
    → blocks_in (put_slot slots n h) new (order ++ Some n ∷ []) ≡ blocks_in slots old order ++ numbered new n h ∷ []
blocks-put slots old new order n h vacant within there keeps =
    filter_map-append (numbered_at (put_slot slots n h) new) order (Some n ∷ [])
    ∙ ap (λ bs. bs ++ cons_option (option_map (numbered new n) (slot_at (put_slot slots n h) n)) []) (same order there ∙ blocks-kept slots old new order keeps)
    ∙ ap (λ o. blocks_in slots old order ++ cons_option (option_map (numbered new n) o) []) (put-same slots n h within)
  where
    same : (os : List (Option ℕ)) → ((k m : ℕ) → slot_at os k ≡ Some m → (g : Held) × (slot_at slots m ≡ Some g)) → blocks_in (put_slot slots n h) new os ≡ blocks_in slots new os
    same [] there = refl
    same (None ∷ os) there = same os (λ k m at. there (suc k) m at)
    same (Some m ∷ os) there =
        let apart : m ≢ n = λ e. none_some (there zero m refl).0 (sym vacant ∙ ap (slot_at slots) (sym e) ∙ (there zero m refl).1) in
        ap (λ o. cons_option (option_map (numbered new m) o) (blocks_in (put_slot slots n h) new os)) (put-other slots n m h within apart)
        ∙ ap (λ bs. cons_option (option_map (numbered new m) (slot_at slots m)) bs) (same os (λ k m at. there (suc k) m at))

-- no block has a number without a block
pub number-new : (slots : List (Option Held)) (table : List Interned) (order : List (Option ℕ)) (n : ℕ) → slot_at slots n ≡ None → list_any (λ b. nat_eq b.number n) (blocks_in slots table order) ≡ false
number-new slots table [] n vacant = refl
number-new slots table (None ∷ os) n vacant = number-new slots table os n vacant
number-new slots table (Some m ∷ os) n vacant = by (slot_at slots m) refl (number-new slots table os n vacant)
  where
    by : (o : Option Held) → slot_at slots m ≡ o → list_any (λ b. nat_eq b.number n) (blocks_in slots table os) ≡ false
        → list_any (λ b. nat_eq b.number n) (cons_option (option_map (numbered table m) o) (blocks_in slots table os)) ≡ false
    by None at rest = rest
    by (Some g) at rest =
        let apart : m ≢ n = λ e. none_some g (sym vacant ∙ ap (slot_at slots) (sym e) ∙ at) in
        ap (λ b. b || list_any (λ b. nat_eq b.number n) (blocks_in slots table os)) (ne_eqb m n apart) ∙ rest

pub length-put-most : {X : Type 0} (slots : List (Option X)) (n : ℕ) (x : X) → length (put_slot slots n x) ≤ length slots + 1
length-put-most slots n x =
    elim (cases_lt n (length slots)) [
      | inl below ↦ omega (arith, ap (λ b. length (cond b (set slots n (Some x)) (slots ++ Some x ∷ []))) (lt-ltb n (length slots) below), length-set slots n (Some x))
      | inr past ↦ omega (arith, ap (λ b. length (cond b (set slots n (Some x)) (slots ++ Some x ∷ []))) (le-ltb n (length slots) past), length-append slots (Some x ∷ []))
    ]
