-- Keys that are found equal are the same, so `==` is an equivalence and equal keys hash alike.
use Rattle.std.specs.Prelude.{◌≡◌, ℕ, List, ◌&&◌, nat_eq}
use Rattle.std.specs.Bool.{Decides}
use Rattle.std.specs.Cmp.{IsEquivalence, decided, unsigned_Decides, signed_Decides}
use Rattle.std.specs.Hash.{Alike, same_Alike}
use Rattle.std.proofs.Common.{ap, ap₂, refl}
use Rattle.std.proofs.lemmas.Bool.{false≢true}
use Rattle.std.proofs.lemmas.Bool.Decides.{Decides-and}
use Rattle.std.proofs.lemmas.Slice.Eq.{slice_eq-Decides}
use Rattle.ent_types.specs.declared.entity.Entity.{Entity}
use Rattle.ent_types.specs.declared.value.Value.{Value}
use Rattle.ent_types.specs.declared.value.Value.TheVariants.{Int, Ref}
use Rattle.ent_types.specs.contracts.value.ValuePartialEq.TheImpl as value_eq
use Rattle.shared_values.specs.declared.key.Key.{Key}
use Rattle.shared_values.specs.Keys.{same_key, key_writes}

same_entity : (d e : Entity) → (d.index ≡ e.index) × (d.version ≡ e.version) → d ≡ e
same_entity d e same = ap₂ (λ (i v : ℕ). let made : Entity = record { index = i; version = v } in made) same.0 same.1

entity_decides : (d e : Entity) → Decides (nat_eq d.index e.index && nat_eq d.version e.version) ((d.index ≡ e.index) × (d.version ≡ e.version))
entity_decides d e = Decides-and _ _ (unsigned_Decides d.index e.index) (unsigned_Decides d.version e.version)

-- the entity of a reference
abbrev entity_of : Entity → Value → Entity
entity_of d (Int x) = d
entity_of d (Ref e) = e

value_decides : (v w : Value) → Decides (value_eq.ghosts.eq v w) (v ≡ w)
value_decides (Int x) (Int y) = (λ h. ap Int ((signed_Decides x y).0 h), λ e. (signed_Decides x y).1 cc)
value_decides (Int x) (Ref e) = (λ h. absurd (false≢true h), λ h. cc)
value_decides (Ref d) (Int y) = (λ h. absurd (false≢true h), λ h. cc)
value_decides (Ref d) (Ref e) = (
  λ h. ap Ref (same_entity d e ((entity_decides d e).0 h)),
  λ same. let entities : d ≡ e = ap (entity_of d) same in
      (entity_decides d e).1 (ap (λ (x : Entity). x.index) entities, ap (λ (x : Entity). x.version) entities),
)

pub key_from : (a b : Key) → (a.ty.0 ≡ b.ty.0) × (a.values ≡ b.values) → a ≡ b
key_from a b same = ap₂ (λ (n : ℕ) (vs : List Value). let k : Key = record { ty = record { 0 = n }; values = vs } in k) same.0 same.1

pub key_decides : (a b : Key) → Decides (same_key a b) (a ≡ b)
key_decides a b =
    let both : Decides (same_key a b) ((a.ty.0 ≡ b.ty.0) × (a.values ≡ b.values)) =
    Decides-and _ _ (unsigned_Decides a.ty.0 b.ty.0) (slice_eq-Decides value_decides a.values b.values _ refl) in
    (λ h. key_from a b (both.0 h), λ e. both.1 (ap (λ (k : Key). k.ty.0) e, ap (λ (k : Key). k.values) e))

pub same_key_equiv : IsEquivalence same_key
same_key_equiv = decided same_key key_decides

pub key_writes_alike : Alike same_key key_writes
key_writes_alike = same_Alike key_writes key_decides
