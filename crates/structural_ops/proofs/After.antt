-- Worlds after an operation, and the world without entities.
use Rattle.std.proofs.Common.{ℕ, ◌≡◌, ◌+◌, ◌<◌, ◌≤◌, ◌∙◌, inl, inr, nat_lt, Bool, true, false, refl, sym, ap, ap₂, subst, List, [], ◌∷◌, length, map, Option, Some, None, Result, Ok, Err, arith}
use Rattle.std.proofs.lemmas.List.{append-nil}
use Rattle.ent_types.specs.declared.entity.Entity.{Entity}
use Rattle.ent_types.specs.declared.limits.TheConstants.{MOST_TYPES}
use Rattle.ent_types.specs.declared.skip.Skip.{Skip}
use Rattle.ent_types.specs.declared.type_info.TypeInfo.{TypeInfo}
use Rattle.ent_types.specs.declared.value.Part.{Part}
use Rattle.ent_types.specs.declared.value.Value.{Value}
use Rattle.ent_types.specs.Fitting.{null_entity}
use Rattle.ent_types.specs.Registries.{IsLawfulRegistry}
use Rattle.system_version.specs.Versions.{version_of, IsVersion}
use Rattle.entity_table.specs.Table.{empty_table}
use Rattle.world_model.specs.Fits.{IsFitting}
use Rattle.world_model.specs.Members.{In, AreDistinct, one_if}
use Rattle.world_model.specs.Part.{PartOf, part_type, by_type, part_of as seen}
use Rattle.world_model.specs.World.{World, capacity, empty_world}
use Rattle.world_model.specs.Found.{Found, found}
use Rattle.world_model.specs.Lawful.{IsLawful, Suits}
use Rattle.world_model.specs.Operations.{Act, Answer, Outcome, Skips, Keeps, Writes, Moves, Ends, Makes, Operation, Create, On, apply, acted, decide, decide_create, sight, operate}
use Rattle.world_model.specs.Versions.{IsLawfulCode}
use Rattle.world_laws.proofs.Members.{in_map}
use Rattle.world_laws.proofs.Meanings.{capacity_fits}
use Rattle.world_laws.proofs.Versions.{operate_lawful_code}
use Rattle.archetype_store.specs.Stores.{StoreState, Opens, StayOrGrow, is_full}
use Rattle.world_places.specs.Placing.{world_of}
use Rattle.structural_ops.specs.declared.fault.OpFault.{OpFault}
use Rattle.structural_ops.specs.declared.fault.OpFault.TheVariants as fault
use Rattle.structural_ops.specs.declared.tables.Tables.{Tables}
use Rattle.structural_ops.specs.Worlds.{Agrees, IsConsistent, WorldState, GivesAlways, Gives, Grows, after, made, state_of}
use Rattle.structural_ops.specs.Worlds.{Makes as MakesRow}
use Rattle.world_model.specs.Operations.{home_of, cells_of, Reply}
use Rattle.world_rows.specs.Rows.{AreParts, home_from, cells_from}
use Rattle.world_rows.specs.Types.{set_of}
use Rattle.world_rows.proofs.PartsAre.{given_are}
use Rattle.world_rows.proofs.Becoming.{new_home, new_cells}
use Rattle.structural_ops.proofs.Given.{create_gives}
use Rattle.structural_ops.proofs.Shared.{seen_types}

-- ---- an operation keeps the registry

apply_registry : (cap : List ℕ → ℕ) (w : World) (e : Entity) (out : Outcome) → (apply cap w e out).world.registry ≡ w.registry
apply_registry cap w e (Skips cause) = refl
apply_registry cap w e Keeps = refl
apply_registry cap w e (Writes types cells dying) = refl
apply_registry cap w e (Moves home cells dying) = refl
apply_registry cap w e Ends = refl
apply_registry cap w e (Makes home cells) = refl

acted_registry : (cap : List ℕ → ℕ) (w : World) (e : Entity) (a : Act Value) (o : Option Found) → (acted cap w e a o).world.registry ≡ w.registry
acted_registry cap w e a None = refl
acted_registry cap w e a (Some x) = apply_registry cap w e (decide (sight cap w) x a)

operate_registry : (cap : List ℕ → ℕ) (w : World) (o : Operation) → (operate cap w o).world.registry ≡ w.registry
unfolding operate
operate_registry cap w (Create parts) = apply_registry cap w null_entity (decide_create (sight cap w) (by_type parts))
operate_registry cap w (On e a) = acted_registry cap w e a (found e w.blocks)

pub gives_registry : (old new : WorldState) (o : Operation) (r : Result Reply OpFault) → Gives old new o r → new.world.registry ≡ old.world.registry
gives_registry old new o (Ok reply) gives = ap (λ (w : World). w.registry) gives.1.world_is ∙ operate_registry (capacity old.world.registry) old.world o
gives_registry old new o (Err (fault.Skip cause)) gives = ap (λ (w : World). w.registry) gives.1.world
gives_registry old new o (Err fault.Memory) gives = ap (λ (w : World). w.registry) gives.world

-- ---- and the world lawful

lawful_world : (old new : WorldState) (o : Operation) → Suits old.world.registry o → IsLawfulCode (capacity old.world.registry) old.world → new.world ≡ (after old o).world
    → IsLawfulCode (capacity new.world.registry) new.world
lawful_world old new o suits lawful world =
    subst (λ w. IsLawfulCode (capacity w.registry) w) (sym world)
    (subst (λ registry. IsLawfulCode (capacity registry) (after old o).world) (sym (operate_registry (capacity old.world.registry) old.world o))
    (operate_lawful_code (capacity old.world.registry) (capacity_fits old.world.registry) old.world o suits lawful))

pub lawful_after : (old new : WorldState) (o : Operation) (r : Result Reply OpFault) → Suits old.world.registry o → IsLawfulCode (capacity old.world.registry) old.world → Gives old new o r
    → IsLawfulCode (capacity new.world.registry) new.world
lawful_after old new o (Ok reply) suits lawful gives = lawful_world old new o suits lawful gives.1.world_is
lawful_after old new o (Err (fault.Skip cause)) suits lawful gives = subst (λ w. IsLawfulCode (capacity w.registry) w) (sym gives.1.world) lawful
lawful_after old new o (Err fault.Memory) suits lawful gives = subst (λ w. IsLawfulCode (capacity w.registry) w) (sym gives.world) lawful

pub stands : (old new : Tables) → IsConsistent old → (o : Operation) (r : Result Reply OpFault) → Suits old.registry o → Agrees new → Gives (state_of old) (state_of new) o r → IsConsistent new
stands old new was o r suits agrees gives = record { agrees = agrees; lawful = lawful_after (state_of old) (state_of new) o r suits was.lawful gives }

-- also of an operation that takes no memory
pub lawful_always : (old new : WorldState) (o : Operation) (r : Result (Unit {0}) Skip) → Suits old.world.registry o → IsLawfulCode (capacity old.world.registry) old.world → GivesAlways old new o r
    → IsLawfulCode (capacity new.world.registry) new.world
lawful_always old new o (Ok u) suits lawful gives = lawful_world old new o suits lawful (sym (ap (λ (a : Answer). a.world) gives.0))
lawful_always old new o (Err cause) suits lawful gives = subst (λ (w : WorldState). IsLawfulCode (capacity w.world.registry) w.world) (sym gives.1) lawful

-- ---- creating

module _ (registry : List TypeInfo) (ps : List (PartOf Value)) (fits : (p : PartOf Value) → In p ps → IsFitting registry p) (distinct : AreDistinct (map part_type ps)) (types off : List ℕ)
    (are : types ≡ set_of (map part_type ps)) (none : off ≡ []) where
  pub created_are : AreParts registry types ps off
  created_are =
      subst (λ ts. AreParts registry ts ps off) (sym are) (subst (AreParts registry (set_of (map part_type ps)) ps) (sym none) (given_are registry ps fits distinct))

module _ (old new : WorldState) (ps : List (PartOf Value)) (distinct : AreDistinct (map part_type ps)) (types off : List ℕ) (are : types ≡ set_of (map part_type ps)) (none : off ≡ []) where
  home_is : home_from old.world.registry types ps ≡ home_of old.world.registry (by_type ps)
  home_is = ap (λ ts. home_from old.world.registry ts ps) are ∙ new_home old.world.registry ps distinct

  cells_are : cells_from old.world.registry types ps off ≡ cells_of old.world.registry (by_type ps)
  cells_are = ap₂ (λ ts us. cells_from old.world.registry ts ps us) are none ∙ new_cells old.world.registry ps distinct

  pub created : (r : Result Entity OpFault) → MakesRow old new (home_from old.world.registry types ps) (cells_from old.world.registry types ps off) r → Gives old new (Create ps) (made r)
  unfolding operate
  created r makes =
      create_gives old new (by_type ps) r
      (subst (λ cs. MakesRow old new (home_of old.world.registry (by_type ps)) cs r) cells_are
      (subst (λ h. MakesRow old new h (cells_from old.world.registry types ps off) r) home_is makes))

-- the types of parts that fit are below the most
pub types_below : (registry : List TypeInfo) → IsLawfulRegistry registry → (ps : List Part) → ((p : PartOf Value) → In p (map seen ps) → IsFitting registry p)
    → (t : ℕ) → In t (map (λ (p : Part). part_type (seen p)) ps) → t < MOST_TYPES
types_below registry lawful ps fits t i = from (in_map part_type t (map seen ps) (subst (In t) (seen_types ps) i))
  where
    from : ((p : PartOf Value) × In p (map seen ps) × (t ≡ part_type p)) → t < MOST_TYPES
    from (p, j, e) = let known : p.type_id < length registry = (fits p j).known in omega (arith, known, e, lawful.most)

-- ---- what a store keeps

pub opened_keeps : (s mid : StoreState) (a : ℕ) (shared : List (PartOf Value)) (n : ℕ) → Opens s mid a shared n → (mid.registry ≡ s.registry) × (mid.archetypes ≡ s.archetypes)
opened_keeps s mid a shared n opens = by (is_full a shared s.blocks) refl
  where
    by : (b : Bool) → is_full a shared s.blocks ≡ b → (mid.registry ≡ s.registry) × (mid.archetypes ≡ s.archetypes)
    by false is = (ap (λ (t : StoreState). t.registry) (opens.found is), ap (λ (t : StoreState). t.archetypes) (opens.found is))
    by true is = ((opens.added is).blocks.registry, (opens.added is).blocks.archetypes)

pub grown : (types : List ℕ) (old mid new : List (List ℕ)) → StayOrGrow types old mid → new ≡ mid → Grows old new
grown types old mid new (inl same) is = record { more = []; are = is ∙ same ∙ sym (append-nil old) }
grown types old mid new (inr more) is = record { more = types ∷ []; are = is ∙ more.1 }

-- ---- no entity

module _ (registry : List TypeInfo) (lawful : IsLawfulRegistry registry) (entity system : ℕ) (first : IsVersion entity) where
  none : (n : ℕ) → 0 + 0 ≤ n
  none n = omega arith

  pub empty_lawful : IsLawful (capacity registry) (empty_world registry entity 1)
  empty_lawful = record {
    registry = lawful;
    sound = λ i. none (one_if (nat_lt i 0));
    made = omega arith;
    alive = omega arith;
    rows = λ x i. absurd i;
    blocks = λ b i. absurd i;
    free = λ e i. absurd i;
    first = first;
    moment = omega arith;
  }

  pub empty_code : IsVersion system → IsLawfulCode (capacity registry) (world_of registry [] (empty_table entity) system)
  unfolding version_of
  empty_code version = record { first = system; world = empty_world registry entity 1; version = version; stands = refl; lawful = empty_lawful }
