-- Blocks of another store, place by place of its block order.
use Rattle.std.proofs.Common.{◌≡◌, ◌≢◌, ℕ, zero, suc, ◌+◌, ◌<◌, ◌≤◌, inl, inr, cond, List, [], ◌∷◌, ◌++◌, append_assoc, length, take, drop, map, Option, Some, None, refl, sym, ap, ◌∙◌, subst, arith}
use Rattle.std.specs.Prelude.{option_map}
use Rattle.std.specs.List.{cons_option}
use Rattle.std.specs.Option.{IfSome, IsSome}
use Rattle.std.proofs.lemmas.Bool.{eq-eqb, ne_eqb}
use Rattle.std.proofs.lemmas.List.{append-nil, drop_all, get_or-set_other, get_or_append_left, length-append, take_all, take_more}
use Rattle.std.proofs.lemmas.List.Elements.{filter_map-append}
use Rattle.std.proofs.Math.Seq.{drop-cons, get_or-append_seam}
use Rattle.ent_types.specs.declared.type_info.TypeInfo.{TypeInfo}
use Rattle.world_model.specs.Members.{In, AreDistinct}
use Rattle.chunk_block.specs.Blocks.{BlockState}
use Rattle.shared_values.specs.declared.table.Slot.{Slot as Interned}
use Rattle.archetype_store.specs.declared.slots.Held.{Held}
use Rattle.archetype_store.specs.declared.store.ArchetypeStore.TheInside.{Inside}
use Rattle.archetype_store.specs.Slots.{slot_at}
use Rattle.archetype_store.specs.Stores.{IsStore, Numbered, OfBlock, StoreState, with_block, with_block_in}
use Rattle.archetype_store.specs.Inside.{Beside, IsConsistent, blocks_in, kept, number_at, numbered, numbered_at, view_of}
use Rattle.archetype_store.specs.Attached.{AddsHollow, Agree, CopiesAt, Each, Extends, Grows, IsHollow, IsMoved, IsOneKind, TakesAt}
use Rattle.archetype_store.proofs.Orders.{none_some, some_is}
use Rattle.archetype_store.proofs.Added.{order-there}
use Rattle.archetype_store.proofs.Attached.{in-numbers, of-number-at}

-- ---- growing

pub grows-none : (known : Option (List TypeInfo)) (s : StoreState) → Grows known s s
grows-none known s = record { more = []; archetypes = sym (append-nil s.archetypes); registry = inl refl }

pub grows-both : (known : Option (List TypeInfo)) (s t u : StoreState) → Grows known s t → Grows known t u → Grows known s u
grows-both known s t u first second = record {
  more = first.more ++ second.more;
  archetypes = second.archetypes ∙ ap (λ ts. ts ++ second.more) first.archetypes ∙ append_assoc s.archetypes first.more second.more;
  registry =
      elim second.registry [
        | inl same ↦
            elim first.registry [
              | inl was ↦ inl (same ∙ was)
              | inr is ↦ inr (same ∙ is)
            ]
        | inr is ↦ inr is
      ];
}

pub agree-grown : (s t other : StoreState) → Agree s other → Grows other.registry s t → Agree t other
agree-grown s t other agree grows =
    elim grows.registry [
      | inl same ↦ subst (λ r. IfSome r (λ r. IfSome other.registry (λ q. q ≡ r))) (sym same) agree
      | inr is ↦ subst (λ r. IfSome r (λ r. IfSome other.registry (λ q. q ≡ r))) (sym is) (self other.registry)
    ]
  where
    self : (o : Option (List TypeInfo)) → IfSome o (λ r. IfSome o (λ q. q ≡ r))
    self None = tt
    self (Some r) = refl

-- ---- one for each

each-map : (R Q : Numbered → ℕ → Numbered → Type 0) → ((b : Numbered) (n : ℕ) (c : Numbered) → R b n c → Q b n c) → (bs : List Numbered) (ns : List ℕ) (cs : List Numbered) → Each R bs ns cs → Each Q bs ns cs
each-map R Q so [] [] [] each = tt
each-map R Q so [] [] (c ∷ cs) each = absurd each
each-map R Q so [] (n ∷ ns) cs each = absurd each
each-map R Q so (b ∷ bs) [] cs each = absurd each
each-map R Q so (b ∷ bs) (n ∷ ns) [] each = absurd each
each-map R Q so (b ∷ bs) (n ∷ ns) (c ∷ cs) each = (so b n c each.0, each-map R Q so bs ns cs each.1)

each-push : (R : Numbered → ℕ → Numbered → Type 0) (bs : List Numbered) (ns : List ℕ) (cs : List Numbered) (b : Numbered) (n : ℕ) (c : Numbered) → Each R bs ns cs → R b n c → Each R (bs ++ b ∷ []) (ns ++ n ∷ []) (cs ++ c ∷ [])
each-push R [] [] [] b n c each is = (is, tt)
each-push R [] [] (d ∷ ds) b n c each is = absurd each
each-push R [] (m ∷ ms) cs b n c each is = absurd each
each-push R (a ∷ bs) [] cs b n c each is = absurd each
each-push R (a ∷ bs) (m ∷ ms) [] b n c each is = absurd each
each-push R (a ∷ bs) (m ∷ ms) (d ∷ ds) b n c each is = (each.0, each-push R bs ms ds b n c each.1 is)

each-length : (R : Numbered → ℕ → Numbered → Type 0) (bs : List Numbered) (ns : List ℕ) (cs : List Numbered) → Each R bs ns cs → (length cs ≡ length bs) × (length ns ≡ length bs)
each-length R [] [] [] each = (refl, refl)
each-length R [] [] (c ∷ cs) each = absurd each
each-length R [] (n ∷ ns) cs each = absurd each
each-length R (b ∷ bs) [] cs each = absurd each
each-length R (b ∷ bs) (n ∷ ns) [] each = absurd each
each-length R (b ∷ bs) (n ∷ ns) (c ∷ cs) each = let rest = each-length R bs ns cs each.1 in (ap suc rest.0, ap suc rest.1)

-- what is hollow stays so when archetypes are made
hollow-grown : (ts more : List (List ℕ)) (b : Numbered) (n : ℕ) (c : Numbered) → IsHollow ts b n c → IsHollow (ts ++ more) b n c
hollow-grown ts more b n c is = record {
  like = record {
    number = is.like.number;
    there = omega (arith, is.like.there, length-append ts more);
    types = get_or_append_left ts more [] c.archetype is.like.there ∙ is.like.types;
    shared = is.like.shared;
  };
  kind = is.kind;
  room = is.room;
}

module _ (known : Option (List TypeInfo)) (bs : List Numbered) (ns : List ℕ) (old : List Numbered) (s t : StoreState) (extends : Extends IsHollow bs ns old s) (grows : Grows known s t) where
  each-grown : Each (IsHollow t.archetypes) bs ns extends.added
  each-grown =
      subst (λ ts. Each (IsHollow ts) bs ns extends.added) (sym grows.archetypes)
      (each-map (IsHollow s.archetypes) (IsHollow (s.archetypes ++ grows.more)) (hollow-grown s.archetypes grows.more) bs ns extends.added extends.each)

  -- no block came
  pub extends-kept : t.blocks ≡ s.blocks → Extends IsHollow bs ns old t
  extends-kept same = record { added = extends.added; blocks = same ∙ extends.blocks; each = each-grown }

  -- a block came
  pub extends-more : (b : Numbered) (n : ℕ) → AddsHollow s t b n → Extends IsHollow (bs ++ b ∷ []) (ns ++ n ∷ []) old t
  extends-more b n adds = record {
    added = extends.added ++ adds.added ∷ [];
    blocks = adds.blocks ∙ ap (λ cs. cs ++ adds.added ∷ []) extends.blocks ∙ append_assoc old extends.added (adds.added ∷ []);
    each = each-push (IsHollow t.archetypes) bs ns extends.added b n adds.added each-grown adds.hollow;
  }

-- ---- places

module _ (slots : List (Option Held)) (table : List Interned) where
  abbrev seen : List (Option ℕ) → List Numbered
  seen os = blocks_in slots table os

  pub seen-in : (os : List (Option ℕ)) (k n : ℕ) (h : Held) → slot_at os k ≡ Some n → slot_at slots n ≡ Some h → In (numbered table n h) (blocks_in slots table os)
  seen-in [] k n h at there = absurd (none_some n at)
  seen-in (o ∷ os) zero n h at there =
      subst (λ p. In (numbered table n h) (blocks_in slots table (p ∷ os))) (sym at) (subst (λ q. In (numbered table n h) (cons_option (option_map (numbered table n) q) (seen os))) (sym there) (inl refl))
  seen-in (None ∷ os) (suc k) n h at there = seen-in os k n h at there
  seen-in (Some m ∷ os) (suc k) n h at there = by (slot_at slots m) (seen-in os k n h at there)
    where
      by : (q : Option Held) → In (numbered table n h) (seen os) → In (numbered table n h) (cons_option (option_map (numbered table m) q) (seen os))
      by None is = is
      by (Some g) is = inr is

  pub seen-one : (n : ℕ) (h : Held) → slot_at slots n ≡ Some h → blocks_in slots table (Some n ∷ []) ≡ numbered table n h ∷ []
  seen-one n h there = ap (λ q. cons_option (option_map (numbered table n) q) []) there

  pub seen-next : (os : List (Option ℕ)) (p : ℕ) → p < length os → blocks_in slots table (take (p + 1) os) ≡ blocks_in slots table (take p os) ++ blocks_in slots table (slot_at os p ∷ [])
  seen-next os p below = ap seen (take_more os p None below) ∙ filter_map-append (numbered_at slots table) (take p os) (slot_at os p ∷ [])

  pub seen-drop : (os : List (Option ℕ)) (p : ℕ) → p < length os → blocks_in slots table (drop p os) ≡ blocks_in slots table (slot_at os p ∷ []) ++ blocks_in slots table (drop (p + 1) os)
  seen-drop os p below =
      let step : suc p ≡ p + 1 = omega arith in
      ap seen (drop-cons os p None below) ∙ filter_map-append (numbered_at slots table) (slot_at os p ∷ []) (drop (suc p) os) ∙ ap (λ k. seen (slot_at os p ∷ []) ++ seen (drop k os)) step

  pub seen-before : (os : List (Option ℕ)) (p n : ℕ) (h : Held) → slot_at os p ≡ Some n → slot_at slots n ≡ Some h → length (blocks_in slots table (take p os)) < length (blocks_in slots table os)
  seen-before [] p n h at there = absurd (none_some n at)
  seen-before (o ∷ os) zero n h at there =
      let is : blocks_in slots table (o ∷ os) ≡ numbered table n h ∷ seen os =
      ap (λ q. blocks_in slots table (q ∷ os)) at ∙ ap (λ q. cons_option (option_map (numbered table n) q) (seen os)) there in
      omega (arith, ap length is)
  seen-before (None ∷ os) (suc p) n h at there = seen-before os p n h at there
  seen-before (Some m ∷ os) (suc p) n h at there = by (slot_at slots m) (seen-before os p n h at there)
    where
      by : (q : Option Held) → length (seen (take p os)) < length (seen os)
          → length (cons_option (option_map (numbered table m) q) (seen (take p os))) < length (cons_option (option_map (numbered table m) q) (seen os))
      by None less = less
      by (Some g) less = omega (arith, less)

-- what is copied place by place
module _ (o : Inside) (consistent : IsConsistent o) (other : StoreState) (view : view_of o ≡ other) (sound : IsStore other) (p : ℕ) where
  there : (n : ℕ) → slot_at o.order.items p ≡ Some n → (h : Held) × (slot_at o.slots.items n ≡ Some h)
  there n at = order-there o.slots.items o.order.items consistent.0.ordered p n at

  is-in : (n : ℕ) (at : slot_at o.order.items p ≡ Some n) → In (numbered o.shared n (there n at).0) other.blocks
  is-in n at = subst (λ (v : StoreState). In (numbered o.shared n (there n at).0) v.blocks) view (seen-in o.slots.items o.shared o.order.items p n (there n at).0 at (there n at).1)

  pub place-there : (q : Option ℕ) → slot_at o.order.items p ≡ q → IfSome q (λ n. OfBlock n (λ _. Unit {0}) other.blocks)
  place-there None at = tt
  place-there (Some n) at = of-number-at n (λ _. Unit {0}) other.blocks sound.numbers (numbered o.shared n (there n at).0) (is-in n at) refl tt

  module _ (ns : List ℕ) (first s : StoreState) (extends : Extends IsHollow (blocks_in o.slots.items o.shared (take p o.order.items)) ns first.blocks s) where
    pub place-few : (most : ℕ) → length first.blocks + length other.blocks ≤ most → (q : Option ℕ) → slot_at o.order.items p ≡ q → IfSome q (λ n. length s.blocks < most)
    place-few most few None at = tt
    place-few most few (Some n) at =
        omega (
          arith,
          few,
          ap length extends.blocks,
          length-append first.blocks extends.added,
          (each-length (IsHollow s.archetypes) (blocks_in o.slots.items o.shared (take p o.order.items)) ns extends.added extends.each).0,
          seen-before o.slots.items o.shared o.order.items p n (there n at).0 at (there n at).1,
          ap (λ (v : StoreState). length v.blocks) view,
        )

    module _ (below : p < length o.order.items) (t : StoreState) (grows : Grows other.registry s t) (ns' : List ℕ) where
      pub place-copied : (q : Option ℕ) → slot_at o.order.items p ≡ q → CopiesAt other.blocks s t ns ns' q → Extends IsHollow (blocks_in o.slots.items o.shared (take (p + 1) o.order.items)) ns' first.blocks t
      place-copied None at copies =
          let same : blocks_in o.slots.items o.shared (take (p + 1) o.order.items) ≡ blocks_in o.slots.items o.shared (take p o.order.items) =
          seen-next o.slots.items o.shared o.order.items p below
          ∙ ap (λ q. blocks_in o.slots.items o.shared (take p o.order.items) ++ blocks_in o.slots.items o.shared (q ∷ [])) at ∙ append-nil (blocks_in o.slots.items o.shared (take p o.order.items)) in
          subst (λ bs. Extends IsHollow bs ns' first.blocks t) (sym same)
          (subst (λ ms. Extends IsHollow (blocks_in o.slots.items o.shared (take p o.order.items)) ms first.blocks t) (sym copies.1)
          (extends-kept other.registry (blocks_in o.slots.items o.shared (take p o.order.items)) ns first.blocks s t extends grows copies.0))
      place-copied (Some n) at copies =
          let h : Held = (there n at).0 in
          let same : blocks_in o.slots.items o.shared (take (p + 1) o.order.items) ≡ blocks_in o.slots.items o.shared (take p o.order.items) ++ numbered o.shared n h ∷ [] =
          seen-next o.slots.items o.shared o.order.items p below
          ∙ ap (λ q. blocks_in o.slots.items o.shared (take p o.order.items) ++ blocks_in o.slots.items o.shared (q ∷ [])) at
          ∙ ap (λ bs. blocks_in o.slots.items o.shared (take p o.order.items) ++ bs) (seen-one o.slots.items o.shared n h (there n at).1) in
          subst (λ bs. Extends IsHollow bs ns' first.blocks t) (sym same)
          (subst (λ ms. Extends IsHollow (blocks_in o.slots.items o.shared (take p o.order.items) ++ numbered o.shared n h ∷ []) ms first.blocks t) (sym copies.numbers)
          (extends-more other.registry (blocks_in o.slots.items o.shared (take p o.order.items)) ns first.blocks s t extends grows (numbered o.shared n h) copies.number
          (copies.adds (numbered o.shared n h) (is-in n at) refl)))

-- ---- the blocks take their places

-- some of the last blocks are those of the first places of another store, the others have no rows yet
pub record Fills (slots : List (Option Held)) (table : List Interned) (order : List (Option ℕ)) (p : ℕ) (ns : List ℕ) (old : List Numbered) (new : StoreState) : Type 0 where
  pub before : List ℕ
  pub after : List ℕ
  pub moved : List Numbered
  pub hollow : List Numbered
  pub numbers : ns ≡ before ++ after
  pub blocks : new.blocks ≡ old ++ (moved ++ hollow)
  pub front : Each (IsMoved new.archetypes) (blocks_in slots table (take p order)) before moved
  pub back : Each (IsHollow new.archetypes) (blocks_in slots table (drop p order)) after hollow

with-none : (n : ℕ) (f : BlockState → BlockState) (bs : List Numbered) → (In n (map (λ (b : Numbered). b.number) bs) → ⊥) → with_block n f bs ≡ bs
with-none n f [] lacks = refl
with-none n f (b ∷ bs) lacks =
    ap (λ t. cond t (record b { block = f b.block }) b ∷ with_block n f bs) (ne_eqb b.number n (λ e. lacks (inl (sym e)))) ∙ ap (λ cs. b ∷ cs) (with-none n f bs (λ is. lacks (inr is)))

in-middle : (xs : List Numbered) (c : Numbered) (ys : List Numbered) → In c (xs ++ c ∷ ys)
in-middle [] c ys = inl refl
in-middle (x ∷ xs) c ys = inr (in-middle xs c ys)

with-middle : (n : ℕ) (f : BlockState → BlockState) (xs : List Numbered) (c : Numbered) (ys : List Numbered) → c.number ≡ n → AreDistinct (map (λ (b : Numbered). b.number) (xs ++ c ∷ ys))
    → with_block n f (xs ++ c ∷ ys) ≡ xs ++ record c { block = f c.block } ∷ ys
with-middle n f [] c ys same distinct =
    ap (λ t. cond t (record c { block = f c.block }) c ∷ with_block n f ys) (eq-eqb c.number n same)
    ∙ ap (λ cs. record c { block = f c.block } ∷ cs) (with-none n f ys (λ is. distinct.0 (subst (λ k. In k (map (λ (b : Numbered). b.number) ys)) (sym same) is)))
with-middle n f (x ∷ xs) c ys same distinct =
    let apart : x.number ≢ n =
    λ e. distinct.0 (subst (λ k. In k (map (λ (b : Numbered). b.number) (xs ++ c ∷ ys))) (same ∙ sym e) (in-numbers c (xs ++ c ∷ ys) (in-middle xs c ys))) in
    ap (λ t. cond t (record x { block = f x.block }) x ∷ with_block n f (xs ++ c ∷ ys)) (ne_eqb x.number n apart) ∙ ap (λ cs. x ∷ cs) (with-middle n f xs c ys same distinct.1)

-- a block that has no rows yet is the next one
record Next (R : Numbered → ℕ → Numbered → Type 0) (b : Numbered) (bs : List Numbered) (ns : List ℕ) (cs : List Numbered) : Type 0 where
  n : ℕ
  c : Numbered
  ns' : List ℕ
  cs' : List Numbered
  numbers : ns ≡ n ∷ ns'
  blocks : cs ≡ c ∷ cs'
  holds : R b n c
  each : Each R bs ns' cs'

next-of : (R : Numbered → ℕ → Numbered → Type 0) (b : Numbered) (bs : List Numbered) (ns : List ℕ) (cs : List Numbered) → Each R (b ∷ bs) ns cs → Next R b bs ns cs
next-of R b bs [] cs each = absurd each
next-of R b bs (n ∷ ns) [] each = absurd each
next-of R b bs (n ∷ ns) (c ∷ cs) each = record { n = n; c = c; ns' = ns; cs' = cs; numbers = refl; blocks = refl; holds = each.0; each = each.1 }

module _ (slots : List (Option Held)) (table : List Interned) (order : List (Option ℕ)) (p : ℕ) (below : p < length order) (ns : List ℕ) (old : List Numbered) (s : StoreState) (fills : Fills slots table order p ns old s)
    (distinct : AreDistinct (map (λ (b : Numbered). b.number) s.blocks)) where
  done-is : length fills.before ≡ length (blocks_in slots table (take p order))
  done-is = (each-length (IsMoved s.archetypes) (blocks_in slots table (take p order)) fills.before fills.moved fills.front).1

  -- at an empty place nothing changes
  pub fills-none : slot_at order p ≡ None → Fills slots table order (p + 1) ns old s
  fills-none at =
      let first : blocks_in slots table (take (p + 1) order) ≡ blocks_in slots table (take p order) =
      seen-next slots table order p below ∙ ap (λ q. blocks_in slots table (take p order) ++ blocks_in slots table (q ∷ [])) at ∙ append-nil (blocks_in slots table (take p order)) in
      let last : blocks_in slots table (drop p order) ≡ blocks_in slots table (drop (p + 1) order) =
      seen-drop slots table order p below ∙ ap (λ q. blocks_in slots table (q ∷ []) ++ blocks_in slots table (drop (p + 1) order)) at in
      record {
        before = fills.before;
        after = fills.after;
        moved = fills.moved;
        hollow = fills.hollow;
        numbers = fills.numbers;
        blocks = fills.blocks;
        front = subst (λ bs. Each (IsMoved s.archetypes) bs fills.before fills.moved) (sym first) fills.front;
        back = subst (λ bs. Each (IsHollow s.archetypes) bs fills.after fills.hollow) last fills.back;
      }

  module _ (m : ℕ) (at : slot_at order p ≡ Some m) (h : Held) (there : slot_at slots m ≡ Some h) where
    abbrev b : Numbered
    b = numbered table m h

    last : blocks_in slots table (drop p order) ≡ b ∷ blocks_in slots table (drop (p + 1) order)
    last =
        seen-drop slots table order p below ∙ ap (λ q. blocks_in slots table (q ∷ []) ++ blocks_in slots table (drop (p + 1) order)) at
        ∙ ap (λ bs. bs ++ blocks_in slots table (drop (p + 1) order)) (seen-one slots table m h there)

    next : Next (IsHollow s.archetypes) b (blocks_in slots table (drop (p + 1) order)) fills.after fills.hollow
    next = next-of (IsHollow s.archetypes) b (blocks_in slots table (drop (p + 1) order)) fills.after fills.hollow (subst (λ bs. Each (IsHollow s.archetypes) bs fills.after fills.hollow) last fills.back)

    numbers-are : ns ≡ fills.before ++ next.n ∷ next.ns'
    numbers-are = fills.numbers ∙ ap (λ ms. fills.before ++ ms) next.numbers

    whole : s.blocks ≡ (old ++ fills.moved) ++ next.c ∷ next.cs'
    whole = fills.blocks ∙ ap (λ cs. old ++ (fills.moved ++ cs)) next.blocks ∙ sym (append_assoc old fills.moved (next.c ∷ next.cs'))

    module _ (done : ℕ) (done_is : done ≡ length (blocks_in slots table (take p order))) where
      pub next-number : done < length ns
      next-number = omega (arith, ap length numbers-are, length-append fills.before (next.n ∷ next.ns'), done-is, done_is)

      number-is : number_at ns done ≡ next.n
      number-is = ap (λ ms. number_at ms done) numbers-are ∙ ap (number_at (fills.before ++ next.n ∷ next.ns')) (done_is ∙ sym done-is) ∙ get_or-append_seam fills.before next.n next.ns' 0

      pub next-kind : OfBlock (number_at ns done) (λ c. IsOneKind c h.block) s.blocks
      next-kind =
          of-number-at (number_at ns done) (λ c. IsOneKind c.block h.block) s.blocks distinct next.c (subst (In next.c) (sym whole) (in-middle (old ++ fills.moved) next.c next.cs'))
          (next.holds.like.number ∙ sym number-is) next.holds.kind

      -- the block comes into its number
      pub fills-more : (t : StoreState) → t ≡ with_block_in (number_at ns done) (λ _. h.block) s → Fills slots table order (p + 1) ns old t
      fills-more t is = record {
        before = fills.before ++ next.n ∷ [];
        after = next.ns';
        moved = fills.moved ++ now ∷ [];
        hollow = next.cs';
        numbers = numbers-are ∙ sym (append_assoc fills.before (next.n ∷ []) next.ns');
        blocks =
            ap (λ (v : StoreState). v.blocks) is
            ∙ ap (with_block (number_at ns done) (λ _. h.block)) whole
            ∙ with-middle (number_at ns done) (λ _. h.block) (old ++ fills.moved) next.c next.cs' (next.holds.like.number ∙ sym number-is) (subst (λ bs. AreDistinct (map (λ (x : Numbered). x.number) bs)) whole distinct)
            ∙ append_assoc old fills.moved (now ∷ next.cs') ∙ ap (λ cs. old ++ cs) (sym (append_assoc fills.moved (now ∷ []) next.cs'));
        front =
            subst (λ bs. Each (IsMoved t.archetypes) bs (fills.before ++ next.n ∷ []) (fills.moved ++ now ∷ [])) (sym first)
            (subst (λ ts. Each (IsMoved ts) (blocks_in slots table (take p order) ++ b ∷ []) (fills.before ++ next.n ∷ []) (fills.moved ++ now ∷ [])) (sym archetypes)
            (each-push (IsMoved s.archetypes) (blocks_in slots table (take p order)) fills.before fills.moved b next.n now fills.front
            (record { like = record { number = next.holds.like.number; there = next.holds.like.there; types = next.holds.like.types; shared = next.holds.like.shared }; block = refl })));
        back = subst (λ ts. Each (IsHollow ts) (blocks_in slots table (drop (p + 1) order)) next.ns' next.cs') (sym archetypes) next.each;
      }
        where
          now : Numbered
          now = record (next.c) { block = h.block }

          archetypes : t.archetypes ≡ s.archetypes
          archetypes = ap (λ (v : StoreState). v.archetypes) is

          first : blocks_in slots table (take (p + 1) order) ≡ blocks_in slots table (take p order) ++ b ∷ []
          first =
              seen-next slots table order p below ∙ ap (λ q. blocks_in slots table (take p order) ++ blocks_in slots table (q ∷ [])) at
              ∙ ap (λ bs. blocks_in slots table (take p order) ++ bs) (seen-one slots table m h there)

-- all blocks have come
pub fills-all : (slots : List (Option Held)) (table : List Interned) (order : List (Option ℕ)) (p : ℕ) (ns : List ℕ) (old : List Numbered) (s : StoreState) → length order ≤ p → Fills slots table order p ns old s
    → Extends IsMoved (blocks_in slots table order) ns old s
fills-all slots table order p ns old s past fills =
    let none = nothing (IsHollow s.archetypes) fills.after fills.hollow
    (subst (λ os. Each (IsHollow s.archetypes) (blocks_in slots table os) fills.after fills.hollow) (drop_all p order past) fills.back) in
    record {
      added = fills.moved;
      blocks = fills.blocks ∙ ap (λ cs. old ++ (fills.moved ++ cs)) none.1 ∙ ap (λ cs. old ++ cs) (append-nil fills.moved);
      each =
          subst (λ ms. Each (IsMoved s.archetypes) (blocks_in slots table order) ms fills.moved) (sym (fills.numbers ∙ ap (λ ms. fills.before ++ ms) none.0 ∙ append-nil fills.before))
          (subst (λ os. Each (IsMoved s.archetypes) (blocks_in slots table os) fills.before fills.moved) (take_all p order past) fills.front);
    }
  where
    nothing : (R : Numbered → ℕ → Numbered → Type 0) (ms : List ℕ) (cs : List Numbered) → Each R [] ms cs → (ms ≡ []) × (cs ≡ [])
    nothing R [] [] each = (refl, refl)
    nothing R [] (c ∷ cs) each = absurd each
    nothing R (m ∷ ms) cs each = absurd each

-- what one place changes
pub record Taken (o : Inside) (p : ℕ) (ns : List ℕ) (s t : StoreState) (slots' : List (Option Held)) (done' : ℕ) : Type 0 where
  pub registry : t.registry ≡ s.registry
  pub archetypes : t.archetypes ≡ s.archetypes
  pub done : done' ≡ length (blocks_in o.slots.items o.shared (take (p + 1) o.order.items))
  pub slots : (k n : ℕ) → p + 1 ≤ k → slot_at o.order.items k ≡ Some n → slot_at slots' n ≡ slot_at o.slots.items n
  pub fills : (old : List Numbered) → Fills o.slots.items o.shared o.order.items p ns old s → Fills o.slots.items o.shared o.order.items (p + 1) ns old t

module _ (o : Inside) (consistent : IsConsistent o) (p : ℕ) (below : p < length o.order.items) (slots : List (Option Held))
    (same : (k n : ℕ) → p ≤ k → slot_at o.order.items k ≡ Some n → slot_at slots n ≡ slot_at o.slots.items n) (ns : List ℕ) (s : StoreState) (distinct : AreDistinct (map (λ (b : Numbered). b.number) s.blocks)) (done : ℕ)
    (done_is : done ≡ length (blocks_in o.slots.items o.shared (take p o.order.items))) where
  here : (m : ℕ) → slot_at o.order.items p ≡ Some m → (h : Held) × (slot_at o.slots.items m ≡ Some h)
  here m at = order-there o.slots.items o.order.items consistent.0.ordered p m at

  left : (m : ℕ) (at : slot_at o.order.items p ≡ Some m) → slot_at slots m ≡ Some (here m at).0
  left m at = same p m (omega arith) at ∙ (here m at).1

  pub take-there : (q : Option ℕ) → slot_at o.order.items p ≡ q → IfSome q (λ m. IsSome (slot_at slots m))
  take-there None at = tt
  take-there (Some m) at = subst IsSome (sym (left m at)) refl

  module _ (old : List Numbered) (fills : Fills o.slots.items o.shared o.order.items p ns old s) where
    pub take-next : (q : Option ℕ) → slot_at o.order.items p ≡ q → IfSome q (λ m. done < length ns)
    take-next None at = tt
    take-next (Some m) at = next-number o.slots.items o.shared o.order.items p below ns old s fills distinct m at (here m at).0 (here m at).1 done done_is

    pub take-kind : (q : Option ℕ) → slot_at o.order.items p ≡ q → IfSome q (λ m. IfSome (slot_at slots m) (λ held. OfBlock (number_at ns done) (λ b. IsOneKind b held.block) s.blocks))
    take-kind None at = tt
    take-kind (Some m) at =
        subst (λ r. IfSome r (λ held. OfBlock (number_at ns done) (λ b. IsOneKind b held.block) s.blocks)) (sym (left m at))
        (next-kind o.slots.items o.shared o.order.items p below ns old s fills distinct m at (here m at).0 (here m at).1 done done_is)

  pub place-taken : (t : StoreState) (slots' : List (Option Held)) (done' : ℕ) (q : Option ℕ) → slot_at o.order.items p ≡ q → TakesAt s t slots slots' q (number_at ns done) done done' → Taken o p ns s t slots' done'
  place-taken t slots' done' None at takes = record {
    registry = ap (λ (v : StoreState). v.registry) takes.0;
    archetypes = ap (λ (v : StoreState). v.archetypes) takes.0;
    done =
        takes.1.1 ∙ done_is
        ∙ sym (ap length (seen-next o.slots.items o.shared o.order.items p below ∙ ap (λ q. blocks_in o.slots.items o.shared (take p o.order.items) ++ blocks_in o.slots.items o.shared (q ∷ [])) at
        ∙ append-nil (blocks_in o.slots.items o.shared (take p o.order.items))));
    slots = λ k n less at_k. ap (λ ss. slot_at ss n) takes.1.0 ∙ same k n (omega (arith, less)) at_k;
    fills = λ old fills. subst (Fills o.slots.items o.shared o.order.items (p + 1) ns old) (sym takes.0) (fills-none o.slots.items o.shared o.order.items p below ns old s fills distinct at);
  }
  place-taken t slots' done' (Some m) at takes = record {
    registry = ap (λ (v : StoreState). v.registry) (takes.0).store;
    archetypes = ap (λ (v : StoreState). v.archetypes) (takes.0).store;
    done = takes.1 ∙ more;
    slots = λ k n less at_k. ap (λ ss. slot_at ss n) (takes.0).slots_are ∙ get_or-set_other slots m n None None (other k n less at_k) ∙ same k n (omega (arith, less)) at_k;
    fills = λ old fills. fills-more o.slots.items o.shared o.order.items p below ns old s fills distinct m at (here m at).0 (here m at).1 done done_is t ((takes.0).store ∙ ap (λ (h : Held). with_block_in (number_at ns done) (λ _. h.block) s) held);
  }
    where
      held : (takes.0).held ≡ (here m at).0
      held = some_is (takes.0).held (here m at).0 (sym (takes.0).there ∙ left m at)

      more : done + 1 ≡ length (blocks_in o.slots.items o.shared (take (p + 1) o.order.items))
      more =
          omega (
            arith,
            ap length (seen-next o.slots.items o.shared o.order.items p below ∙ ap (λ q. blocks_in o.slots.items o.shared (take p o.order.items) ++ blocks_in o.slots.items o.shared (q ∷ [])) at
                ∙ ap (λ bs. blocks_in o.slots.items o.shared (take p o.order.items) ++ bs) (seen-one o.slots.items o.shared m (here m at).0 (here m at).1)),
            length-append (blocks_in o.slots.items o.shared (take p o.order.items)) (numbered o.shared m (here m at).0 ∷ []),
            done_is,
          )

      -- a number is at one place
      other : (k n : ℕ) → p + 1 ≤ k → slot_at o.order.items k ≡ Some n → n ≢ m
      other k n less at_k e =
          omega (
            arith,
            less,
            some_is p k
                (sym (consistent.0.ordered p m at) ∙ ap (λ i. option_map (λ (x : Beside). x.rank) (slot_at (kept o.slots.items) i)) (sym e) ∙ consistent.0.ordered k n at_k),
          )
