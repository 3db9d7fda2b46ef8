-- The tests of sameness decide equality.
use Rattle.std.proofs.Common.{◌≡◌, ℕ, ℤ, Bool, true, false, ◌&&◌, nat_eq, List, [], ◌∷◌, refl, sym, ap, ap₂, ◌∙◌, eqb-true, eq-eqb}
use Rattle.std.specs.Cmp.Lexicographic.{pointwise}
use Rattle.std.specs.Ordering.{int_eq}
use Rattle.std.proofs.lemmas.Bool.{and_parts}
use Rattle.std.proofs.lemmas.Bool.Decides.{Decides-int_eq}
use Rattle.ent_types.specs.declared.entity.Entity.{Entity}
use Rattle.ent_types.specs.declared.value.Value.{Value}
use Rattle.ent_types.specs.declared.value.Value.TheVariants.{Int, Ref}
use Rattle.world_model.specs.Part.{PartOf, same_entity, same_value, same_part}
use Rattle.world_model.specs.World.{Home}
use Rattle.world_model.specs.Enter.{same_home}

pub entity_is : (d e : Entity) → same_entity d e ≡ true → d ≡ e
entity_is d e same =
    let parts = and_parts (nat_eq d.index e.index) (nat_eq d.version e.version) same in
    let index : d.index ≡ e.index = eqb-true d.index e.index parts.0 in
    let version : d.version ≡ e.version = eqb-true d.version e.version parts.1 in
    ap₂ (λ i v. let made : Entity = record { index = i; version = v } in made) index version

pub entity_self : (e : Entity) → same_entity e e ≡ true
entity_self e = rw (eq-eqb e.index e.index refl, eq-eqb e.version e.version refl) refl

value_is : (a b : Value) → same_value a b ≡ true → a ≡ b
value_is (Int y) (Int z) same = ap Int ((Decides-int_eq y z).0 same)
value_is (Int y) (Ref e) same = absurd (cc)
value_is (Ref d) (Int z) same = absurd (cc)
value_is (Ref d) (Ref e) same = ap Ref (entity_is d e same)

list_is : {X : Type 0} (test : X → X → Bool) → ((x y : X) → test x y ≡ true → x ≡ y) → (xs ys : List X) → pointwise test xs ys ≡ true → xs ≡ ys
list_is test tells [] [] same = refl
list_is test tells [] (y ∷ ys) same = absurd (cc)
list_is test tells (x ∷ xs) [] same = absurd (cc)
list_is test tells (x ∷ xs) (y ∷ ys) same =
    let parts = and_parts (test x y) (pointwise test xs ys) same in
    ap₂ (λ z zs. z ∷ zs) (tells x y parts.0) (list_is test tells xs ys parts.1)

pub part_is : (a b : PartOf Value) → same_part a b ≡ true → a ≡ b
part_is a b same =
    let parts = and_parts (nat_eq a.type_id b.type_id) (pointwise same_value a.values b.values) same in
    ap₂ (λ t vs. let made : PartOf Value = record { type_id = t; values = vs } in made)
    (eqb-true a.type_id b.type_id parts.0) (list_is same_value value_is a.values b.values parts.1)

pub home_is : (a b : Home) → same_home a b ≡ true → a ≡ b
home_is a b same =
    let parts = and_parts (pointwise nat_eq a.types b.types) (pointwise same_part a.shared b.shared) same in
    ap₂ (λ ts ps. let made : Home = record { types = ts; shared = ps } in made)
    (list_is nat_eq eqb-true a.types b.types parts.0) (list_is same_part part_is a.shared b.shared parts.1)
