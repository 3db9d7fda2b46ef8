-- The block that a row is about to enter.
use Rattle.std.proofs.Common.{ℕ, ◌≡◌, ◌<◌, ◌∙◌, ◌&&◌, inl, inr, true, nat_eq, nat_lt, sym, ap, refl, subst, List, [], ◌∷◌, ◌++◌, length, map}
use Rattle.std.specs.Bool.{MatchBool}
use Rattle.std.specs.Cmp.Lexicographic.{pointwise}
use Rattle.std.proofs.lemmas.Bool.{eq-eqb, eqb-true, ne_eqb, ltb-true, and_parts}
use Rattle.ent_types.specs.declared.type_info.TypeInfo.{TypeInfo}
use Rattle.ent_types.specs.declared.value.Value.{Value}
use Rattle.world_model.specs.Members.{In, AreDistinct}
use Rattle.world_model.specs.Part.{PartOf, same_part}
use Rattle.world_model.specs.World.{mark_type}
use Rattle.world_laws.proofs.Members.{map_in}
use Rattle.chunk_block.specs.Blocks.{new_mark, new_types}
use Rattle.archetype_store.specs.Stores.{Numbered, StoreState, IsStore, OfNumber, OfBlock, Opens, has_room, registry_of, types_at}
use Rattle.world_places.specs.Placing.{numbers_of}
use Rattle.world_places.proofs.Entering.{Gets, Has, Grows, fresh, opens_gets, first_member}
use Rattle.world_rows.specs.Entering.{AreWhole, IsOpen}

-- a block that is there is the one with its number
pub of_member : (n : ℕ) (P : Numbered → Type 0) (bs : List Numbered) → AreDistinct (numbers_of bs) → (c : Numbered) → In c bs → c.number ≡ n → P c → OfNumber n P bs
of_member n P [] distinct c i number holds = absurd i
of_member n P (b ∷ bs) distinct c (inl same) number holds =
    subst (λ t. MatchBool t (P b) (OfNumber n P bs)) (sym (eq-eqb b.number n (ap (λ (d : Numbered). d.number) (sym same) ∙ number))) (subst P same holds)
of_member n P (b ∷ bs) distinct c (inr i) number holds =
    subst (λ t. MatchBool t (P b) (OfNumber n P bs))
    (sym (ne_eqb b.number n (λ e. distinct.0 (subst (λ k. In k (numbers_of bs)) (number ∙ sym e) (map_in (λ (d : Numbered). d.number) c bs i)))))
    (of_member n P bs distinct.1 c i number holds)

of_last : (n : ℕ) (P : Numbered → Type 0) (bs : List Numbered) (x : Numbered) → (In n (numbers_of bs) → ⊥) → x.number ≡ n → P x → OfNumber n P (bs ++ x ∷ [])
of_last n P [] x absent number holds = subst (λ t. MatchBool t (P x) ⊥) (sym (eq-eqb x.number n number)) holds
of_last n P (b ∷ bs) x absent number holds =
    subst (λ t. MatchBool t (P b) (OfNumber n P (bs ++ x ∷ []))) (sym (ne_eqb b.number n (λ e. absent (inl (sym e))))) (of_last n P bs x (λ i. absent (inr i)) number holds)

new_marks : (ts : List ℕ) → map mark_type (map new_mark ts) ≡ ts
new_marks [] = refl
new_marks (t ∷ ts) = ap (λ us. t ∷ us) (new_marks ts)

module _ (registry : List TypeInfo) (s mid : StoreState) (a : ℕ) (shared : List (PartOf Value)) (n : ℕ) (types : List ℕ) (store : IsStore s) (whole : AreWhole registry s.blocks)
    (same : registry_of s ≡ registry) (below : a < length s.archetypes) (are : types_at s.archetypes a ≡ types) (opens : Opens s mid a shared n) where
  -- a row can enter it
  pub opened_is : OfBlock n (IsOpen registry types) mid.blocks
  opened_is = by (opens_gets s mid a shared n opens)
    where
      has : (c : Numbered) → In c s.blocks → has_room a shared c ≡ true → IsOpen registry types c.block
      has c i room =
          let both = and_parts (nat_eq c.archetype a) (nat_lt (length c.block.rows) c.block.capacity && pointwise same_part shared c.shared) room in
          let space = and_parts (nat_lt (length c.block.rows) c.block.capacity) (pointwise same_part shared c.shared) both.1 in
          let own : c.block.types ≡ types = (store.blocks c i).types ∙ ap (types_at s.archetypes) (eqb-true c.archetype a both.0) ∙ are in
          record {
            types_are = own;
            columns = (whole c i).columns ∙ ap (new_types registry) own;
            marked = (whole c i).marked ∙ own;
            room = ltb-true (length c.block.rows) c.block.capacity space.0;
          }

      new : IsOpen registry types (fresh (registry_of s) s.archetypes a shared n).block
      new = record {
        types_are = are;
        columns = ap (λ r. new_types r (types_at s.archetypes a)) same ∙ ap (new_types registry) are;
        marked = new_marks (types_at s.archetypes a) ∙ are;
        room = store.fit a below;
      }

      by : Gets (registry_of s) s.archetypes a shared n s.blocks mid.blocks → OfBlock n (IsOpen registry types) mid.blocks
      by (Has first is) =
          let (c, i, number, room) = first_member a shared n s.blocks first in
          subst (OfBlock n (IsOpen registry types)) (sym is) (of_member n (λ b. IsOpen registry types b.block) s.blocks store.numbers c i number (has c i room))
      by (Grows full absent is) =
          subst (OfBlock n (IsOpen registry types)) (sym is) (of_last n (λ b. IsOpen registry types b.block) s.blocks (fresh (registry_of s) s.archetypes a shared n) absent refl new)
