use Rattle.std.proofs.Common.{◌≡◌, ℕ, ◌<◌, [], ◌∷◌, ◌++◌, length, map, Result, Ok, Err, IfOk, Some, None, sym, ap, ◌∙◌, subst, arith}
use Rattle.std.specs.Prelude.{unwrap_or}
use Rattle.ent_types.specs.declared.memory.Memory.{Memory}
use Rattle.world_model.specs.Members.{In}
use Rattle.world_model.specs.Part.{part_type, part_of as seen_part}
use Rattle.archetype_store.specs.Stores.{Adds, Finds, Numbered, StoreState, registry_of, shared_types, types_at}
use Rattle.archetype_store.specs.Attached.{AddsHollow}
use Rattle.archetype_store.proofs.Added.{types-seen}
use Rattle.archetype_store.proofs.Attached.{block-of, hollow-added, of-number-in}
use Rattle.archetype_store.proofs.store.ArchetypeStore.copy_block.Goals as goal

pub types_of-requires : goal.types_of-requires
types_of-requires c =
    let found = block-of c.args.number (λ b. c.archetype.result ≡ b.archetype) c.args.other.now.blocks c.archetype.ensures in
    subst (λ k. k < length c.args.other.now.archetypes) (sym found.1.1.1) (c.is_sound.ensures.blocks found.0 found.1.0).there

pub unreachable-requires : goal.unreachable-requires
unreachable-requires c =
    let found = block-of c.args.number (λ b. c.archetype.result ≡ b.archetype) c.args.other.now.blocks c.archetype.ensures in
    let none : c.args.other.now.registry ≡ None = sym (ap (λ (v : StoreState). v.registry) c.other.view_is) ∙ c.in-None.is in
    omega (arith, (c.is_sound.ensures.blocks found.0 found.1.0).there, ap length (c.is_sound.ensures.registered none))

pub add_block-requires-clause-parts : goal.add_block-requires-clause-parts
add_block-requires-clause-parts c =
    let other : StoreState = c.args.other.now in
    let mid : StoreState = c.archetype_of.new.self in
    let finds : Finds c.args.self.now mid c.in-Some.registry c.types_of.result.now c.in-Ok.a = c.in-Ok.ensures.ok in
    let found = block-of c.args.number (λ b. map seen_part c.in_ok-parts.parts.items ≡ b.shared) other.blocks c.in_ok-parts.ensures in
    let b : Numbered = found.0 in
    let archetype : c.archetype.result ≡ b.archetype =
    of-number-in c.args.number (λ b. c.archetype.result ≡ b.archetype) other.blocks c.is_sound.ensures.numbers c.archetype.ensures b found.1.0 found.1.1.0 in
    let types : types_at mid.archetypes c.in-Ok.a ≡ b.block.types =
    finds.types_are ∙ c.types_of.ensures ∙ ap (types_at other.archetypes) archetype ∙ sym (c.is_sound.ensures.blocks b found.1.0).types in
    let theirs : other.registry ≡ Some c.in-Some.registry = sym (ap (λ (v : StoreState). v.registry) c.other.view_is) ∙ c.in-Some.is in
    ap (map (λ p. part_type (seen_part p))) c.deref.ensures.value ∙ sym (types-seen c.in_ok-parts.parts.items) ∙ ap (map part_type) found.1.1.1
    ∙ (c.is_sound.ensures.blocks b found.1.0).shared
    ∙ ap (λ r. shared_types (unwrap_or r []) b.block.types) (theirs ∙ sym finds.registry_is) ∙ ap (shared_types (registry_of mid)) (sym types)

pub returns-clause-ok : goal.returns-clause-ok
returns-clause-ok c = by c.add_block.result c.add_block.ensures.ok
  where
    other : StoreState
    other = c.args.other.now

    mid : StoreState
    mid = c.archetype_of.new.self

    new : StoreState
    new = c.add_block.new.self

    finds : Finds c.args.self.now mid c.in-Some.registry c.types_of.result.now c.in-Ok.a
    finds = c.in-Ok.ensures.ok

    theirs : other.registry ≡ Some c.in-Some.registry
    theirs = sym (ap (λ (v : StoreState). v.registry) c.other.view_is) ∙ c.in-Some.is

    by : (r : Result ℕ Memory) → IfOk r (Adds mid new c.in-Ok.a (map seen_part c.deref.result.now))
        → IfOk r (λ n. (b : Numbered) → In b other.blocks → b.number ≡ c.args.number → AddsHollow c.args.self.now new b n)
    by (Err e) adds = tt
    by (Ok n) adds = λ b is number.
        let archetype : c.archetype.result ≡ b.archetype =
        of-number-in c.args.number (λ b. c.archetype.result ≡ b.archetype) other.blocks c.is_sound.ensures.numbers c.archetype.ensures b is number in
        let parts : map seen_part c.deref.result.now ≡ b.shared =
        ap (map seen_part) c.deref.ensures.value
        ∙ of-number-in c.args.number (λ b. map seen_part c.in_ok-parts.parts.items ≡ b.shared) other.blocks c.is_sound.ensures.numbers c.in_ok-parts.ensures b is number in
        let types : types_at mid.archetypes c.in-Ok.a ≡ b.block.types =
        finds.types_are ∙ c.types_of.ensures ∙ ap (types_at other.archetypes) archetype ∙ sym (c.is_sound.ensures.blocks b is).types in
        let hollow : AddsHollow mid new b n =
        hollow-added other c.is_sound.ensures b is mid new c.in-Some.registry theirs finds.registry_is c.in-Ok.a n types finds.there (subst (λ ps. Adds mid new c.in-Ok.a ps n) parts adds) in
        record { added = hollow.added; blocks = hollow.blocks ∙ ap (λ bs. bs ++ hollow.added ∷ []) finds.blocks; hollow = hollow.hollow }
