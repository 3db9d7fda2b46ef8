-- Blocks like those of another store, and those blocks.
use Rattle.std.proofs.Common.{◌≡◌, ◌≢◌, ℕ, ◌<◌, inl, inr, not, cond, List, [], ◌∷◌, ◌++◌, append_assoc, length, map, Some, refl, sym, ap, ◌∙◌, subst}
use Rattle.std.specs.Prelude.{unwrap_or}
use Rattle.std.specs.Bool.{MatchBool}
use Rattle.std.proofs.lemmas.Bool.{cases_eq, eq-eqb, ne_eqb}
use Rattle.std.proofs.lemmas.List.{append-nil}
use Rattle.ent_types.specs.declared.type_info.TypeInfo.{TypeInfo}
use Rattle.world_model.specs.Members.{In, AreDistinct}
use Rattle.world_model.specs.World.{capacity}
use Rattle.chunk_block.specs.Blocks.{new_types}
use Rattle.archetype_store.specs.Stores.{Adds, IsStore, Numbered, OfBlock, OfNumber, StoreState, new_numbered, registry_of, shape_list, types_at, without_block}
use Rattle.archetype_store.specs.Attached.{AddsHollow, Each, EndsHollow, IsHollow}

-- ---- a block by its number

-- what holds of the block of a number holds of a block that is there
pub block-of : (n : ℕ) (P : Numbered → Type 0) (bs : List Numbered) → OfNumber n P bs → (b : Numbered) × (In b bs × ((b.number ≡ n) × P b))
block-of n P [] is = absurd is
block-of n P (b ∷ bs) is =
    elim (cases_eq b.number n) [
      | inl same ↦ (b, (inl refl, (same, subst (λ t. MatchBool t (P b) (OfNumber n P bs)) (eq-eqb b.number n same) is)))
      | inr apart ↦
          let rest = block-of n P bs (subst (λ t. MatchBool t (P b) (OfNumber n P bs)) (ne_eqb b.number n apart) is) in
          (rest.0, (inr rest.1.0, rest.1.1))
    ]

pub in-numbers : (b : Numbered) (bs : List Numbered) → In b bs → In b.number (map (λ (c : Numbered). c.number) bs)
in-numbers b [] is = absurd is
in-numbers b (c ∷ cs) (inl e) = inl (ap (λ (x : Numbered). x.number) e)
in-numbers b (c ∷ cs) (inr is) = inr (in-numbers b cs is)

-- and of each block with that number
pub of-number-in : (n : ℕ) (P : Numbered → Type 0) (bs : List Numbered) → AreDistinct (map (λ (c : Numbered). c.number) bs) → OfNumber n P bs → (b : Numbered) → In b bs → b.number ≡ n → P b
of-number-in n P [] distinct is b there number = absurd is
of-number-in n P (c ∷ cs) distinct is b there number =
    elim (cases_eq c.number n) [
      | inl same ↦ here there (subst (λ t. MatchBool t (P c) (OfNumber n P cs)) (eq-eqb c.number n same) is) (number ∙ sym same)
      | inr apart ↦ rest there apart (of-number-in n P cs distinct.1 (subst (λ t. MatchBool t (P c) (OfNumber n P cs)) (ne_eqb c.number n apart) is) b)
    ]
  where
    here : In b (c ∷ cs) → P c → b.number ≡ c.number → P b
    here (inl e) holds same = subst P (sym e) holds
    here (inr more) holds same = absurd (distinct.0 (subst (λ k. In k (map (λ (x : Numbered). x.number) cs)) same (in-numbers b cs more)))

    rest : In b (c ∷ cs) → c.number ≢ n → (In b cs → b.number ≡ n → P b) → P b
    rest (inl e) apart holds = absurd (apart (sym (ap (λ (x : Numbered). x.number) e) ∙ number))
    rest (inr more) apart holds = holds more number

-- and the other way round
pub of-number-at : (n : ℕ) (P : Numbered → Type 0) (bs : List Numbered) → AreDistinct (map (λ (c : Numbered). c.number) bs) → (b : Numbered) → In b bs → b.number ≡ n → P b → OfNumber n P bs
of-number-at n P [] distinct b there number holds = absurd there
of-number-at n P (c ∷ cs) distinct b there number holds =
    elim (cases_eq c.number n) [
      | inl same ↦ subst (λ t. MatchBool t (P c) (OfNumber n P cs)) (sym (eq-eqb c.number n same)) (here there (number ∙ sym same))
      | inr apart ↦ subst (λ t. MatchBool t (P c) (OfNumber n P cs)) (sym (ne_eqb c.number n apart)) (rest there apart (λ more. of-number-at n P cs distinct.1 b more number holds))
    ]
  where
    here : In b (c ∷ cs) → b.number ≡ c.number → P c
    here (inl e) same = subst P e holds
    here (inr more) same = absurd (distinct.0 (subst (λ k. In k (map (λ (x : Numbered). x.number) cs)) same (in-numbers b cs more)))

    rest : In b (c ∷ cs) → c.number ≢ n → (In b cs → OfNumber n P cs) → OfNumber n P cs
    rest (inl e) apart go = absurd (apart (sym (ap (λ (x : Numbered). x.number) e) ∙ number))
    rest (inr more) apart go = go more

-- ---- the last of some blocks

in-last : (xs : List Numbered) (c : Numbered) → In c (xs ++ c ∷ [])
in-last [] c = inl refl
in-last (x ∷ xs) c = inr (in-last xs c)

distinct-last : (xs : List Numbered) (c : Numbered) → AreDistinct (map (λ (b : Numbered). b.number) (xs ++ c ∷ [])) → In c.number (map (λ (b : Numbered). b.number) xs) → ⊥
distinct-last [] c distinct is = is
distinct-last (x ∷ xs) c distinct (inl e) = distinct.0 (subst (λ k. In k (map (λ (b : Numbered). b.number) (xs ++ c ∷ []))) e (in-numbers c (xs ++ c ∷ []) (in-last xs c)))
distinct-last (x ∷ xs) c distinct (inr is) = distinct-last xs c distinct.1 is

without-last : (n : ℕ) (xs : List Numbered) (c : Numbered) → c.number ≡ n → (In n (map (λ (b : Numbered). b.number) xs) → ⊥) → without_block n (xs ++ c ∷ []) ≡ xs
without-last n [] c same lacks = ap (λ t. cond (not t) (c ∷ []) []) (eq-eqb c.number n same)
without-last n (x ∷ xs) c same lacks =
    ap (λ t. cond (not t) (x ∷ without_block n (xs ++ c ∷ [])) (without_block n (xs ++ c ∷ []))) (ne_eqb x.number n (λ e. lacks (inl (sym e))))
    ∙ ap (λ bs. x ∷ bs) (without-last n xs c same (λ is. lacks (inr is)))

record EndsEach (R : Numbered → ℕ → Numbered → Type 0) (ns : List ℕ) (n : ℕ) (cs : List Numbered) : Type 0 where
  like : List Numbered
  of : Numbered
  first : List Numbered
  last : Numbered
  is : cs ≡ first ++ last ∷ []
  each : Each R like ns first
  holds : R of n last

each-last : (R : Numbered → ℕ → Numbered → Type 0) (bs : List Numbered) (ns : List ℕ) (n : ℕ) (cs : List Numbered) → Each R bs (ns ++ n ∷ []) cs → EndsEach R ns n cs
each-last R [] [] n [] each = absurd each
each-last R [] [] n (c ∷ cs) each = absurd each
each-last R [] (m ∷ ms) n cs each = absurd each
each-last R (b ∷ bs) [] n [] each = absurd each
each-last R (b ∷ []) [] n (c ∷ []) each = record { like = []; of = b; first = []; last = c; is = refl; each = tt; holds = each.0 }
each-last R (b ∷ []) [] n (c ∷ (d ∷ ds)) each = absurd each.1
each-last R (b ∷ (d ∷ ds)) [] n (c ∷ cs) each = absurd each.1
each-last R (b ∷ bs) (m ∷ ms) n [] each = absurd each
each-last R (b ∷ bs) (m ∷ ms) n (c ∷ cs) each =
    let rest = each-last R bs ms n cs each.1 in
    record { like = b ∷ rest.like; of = rest.of; first = c ∷ rest.first; last = rest.last; is = ap (λ ds. c ∷ ds) rest.is; each = (each.0, rest.each); holds = rest.holds }

-- the last block is without rows, and goes
module _ (ns : List ℕ) (n : ℕ) (old : List Numbered) (store : StoreState) (distinct : AreDistinct (map (λ (b : Numbered). b.number) store.blocks)) (ends : EndsHollow (ns ++ n ∷ []) old store) where
  split : EndsEach (IsHollow store.archetypes) ns n ends.extends.added
  split = each-last (IsHollow store.archetypes) ends.like ns n ends.extends.added ends.extends.each

  abbrev rest : List Numbered
  rest = old ++ split.first

  whole : store.blocks ≡ rest ++ split.last ∷ []
  whole = ends.extends.blocks ∙ ap (λ cs. old ++ cs) split.is ∙ sym (append_assoc old split.first (split.last ∷ []))

  number : split.last.number ≡ n
  number = split.holds.like.number

  pub last-roomy : OfBlock n (λ b. length b.rows < b.capacity) store.blocks
  last-roomy =
      of-number-at n (λ b. length b.block.rows < b.block.capacity) store.blocks distinct split.last (subst (In split.last) (sym whole) (in-last rest split.last)) number split.holds.room

  pub last-gone : (new : StoreState) → new.archetypes ≡ store.archetypes → new.blocks ≡ without_block n store.blocks → EndsHollow ns old new
  last-gone new archetypes blocks =
      let lacks : In n (map (λ (b : Numbered). b.number) rest) → ⊥ =
      λ is. distinct-last rest split.last (subst (λ bs. AreDistinct (map (λ (b : Numbered). b.number) bs)) whole distinct) (subst (λ k. In k (map (λ (b : Numbered). b.number) rest)) (sym number) is) in
      record {
        like = split.like;
        extends = record {
          added = split.first;
          blocks = blocks ∙ ap (without_block n) whole ∙ without-last n rest split.last number lacks;
          each = subst (λ ts. Each (IsHollow ts) split.like ns split.first) (sym archetypes) split.each;
        };
      }

-- nothing was added
pub none-added : (old : List Numbered) (store : StoreState) → EndsHollow [] old store → store.blocks ≡ old
none-added old store ends = ends.extends.blocks ∙ by ends.like ends.extends.added ends.extends.each
  where
    by : (bs cs : List Numbered) → Each (IsHollow store.archetypes) bs [] cs → old ++ cs ≡ old
    by [] [] each = append-nil old
    by [] (c ∷ cs) each = absurd each
    by (b ∷ bs) cs each = absurd each

-- ---- a block was added that is like one of another store

module _ (other : StoreState) (sound : IsStore other) (b : Numbered) (is : In b other.blocks) (mid new : StoreState) (registry : List TypeInfo) (theirs : other.registry ≡ Some registry) (ours : mid.registry ≡ Some registry) (a n : ℕ)
    (types : types_at mid.archetypes a ≡ b.block.types) (there : a < length mid.archetypes) (adds : Adds mid new a b.shared n) where
  same-registry : registry_of mid ≡ registry_of other
  same-registry = ap (λ r. unwrap_or r []) (ours ∙ sym theirs)

  pub hollow-added : AddsHollow mid new b n
  hollow-added = record {
    added = new_numbered mid a b.shared n;
    blocks = adds.blocks.blocks;
    hollow = record {
      like = record {
        number = refl;
        there = subst (λ (ts : List (List ℕ)). a < length ts) (sym adds.blocks.archetypes) there;
        types = ap (λ ts. types_at ts a) adds.blocks.archetypes ∙ types;
        shared = refl;
      };
      kind = record {
        types = types;
        capacity =
            ap (λ r. capacity r (types_at mid.archetypes a)) same-registry ∙ ap (capacity (registry_of other)) types ∙ sym (sound.blocks b is).capacity;
        shapes =
            ap (λ r. shape_list (new_types r (types_at mid.archetypes a))) same-registry ∙ ap (λ ts. shape_list (new_types (registry_of other) ts)) types
            ∙ sym (sound.blocks b is).shapes;
      };
      room = adds.room;
    };
  }
