-- The world that is built from nodes is lawful.
use Rattle.std.proofs.Common.{◌≡◌, ℕ, ◌+◌, ◌≤◌, inl, inr, nat_lt, true, false, ◌&&◌, List, [], ◌∷◌, map, Option, Some, None, refl, sym, ap, ◌∙◌, subst, arith, pos}
use Rattle.std.specs.Prelude.{fold}
use Rattle.ent_types.specs.declared.entity.Entity.{Entity}
use Rattle.ent_types.specs.declared.entity.TheConstants.TypeId.{SCENE_TAG}
use Rattle.ent_types.specs.declared.kinds.FieldKind.TheVariants.{I64}
use Rattle.ent_types.specs.declared.type_info.TypeInfo.{TypeInfo}
use Rattle.ent_types.specs.declared.value.Value.{Value}
use Rattle.ent_types.specs.declared.value.Value.TheVariants.{Int}
use Rattle.ent_types.specs.Fitting.{null_entity, fits_field, fits_type}
use Rattle.ent_types.specs.Registries.{type_at, IsLawfulRegistry}
use Rattle.ent_types.proofs.LawfulTypes.{scene_tag-at}
use Rattle.ent_types.proofs.RegistryLemmas.{least_types}
use Rattle.world_model.specs.Members.{In, one_if, AreDistinct}
use Rattle.world_model.specs.Part.{PartOf, part_type, part_map, by_type}
use Rattle.world_model.specs.World.{World, empty_world}
use Rattle.world_model.specs.Found.{Found, found}
use Rattle.world_model.specs.Fits.{IsKnown, IsFitting}
use Rattle.world_model.specs.Operations.{Operation, Create, On, SetEnabled, Reply, Made, Done, Skipped, Outcome, Skips, Keeps, Writes, Moves, Ends, Makes, sight, decide, decide_create, apply, acted, operate}
use Rattle.world_model.specs.Scenes.{Node, IsLawfulNode, Renaming, value_renamed, scene_tag, switched_off, all_off, node_built, node_renamings, built}
use Rattle.world_model.specs.Lawful.{IsLawful, HasRoomForParts, Suits}
use Rattle.world_laws.proofs.Members.{in_map}
use Rattle.world_laws.proofs.Kept.{operate_lawful}
use Rattle.world_laws.proofs.Moved.{renaming_keeps_fit, type_fits}

-- ---- operations keep the registry

apply_registry : (capacity : List ℕ → ℕ) (w : World) (e : Entity) (out : Outcome) → (apply capacity w e out).world.registry ≡ w.registry
apply_registry capacity w e (Skips cause) = refl
apply_registry capacity w e Keeps = refl
apply_registry capacity w e (Writes types cells dying) = refl
apply_registry capacity w e (Moves home cells dying) = refl
apply_registry capacity w e Ends = refl
apply_registry capacity w e (Makes home cells) = refl

pub operate_registry : (capacity : List ℕ → ℕ) (w : World) (o : Operation) → (operate capacity w o).world.registry ≡ w.registry
unfolding operate
operate_registry capacity w (Create parts) = apply_registry capacity w null_entity (decide_create (sight capacity w) (by_type parts))
operate_registry capacity w (On e a) = step (found e w.blocks)
  where
    step : (o : Option Found) → (acted capacity w e a o).world.registry ≡ w.registry
    step None = refl
    step (Some x) = apply_registry capacity w e (decide (sight capacity w) x a)

-- ---- the parts of a node

pub tag_fits : (registry : List TypeInfo) → IsLawfulRegistry registry → (load : ℕ) → fits_field I64 (Int (pos load)) ≡ true → IsFitting registry (scene_tag load)
unfolding fits_type
tag_fits registry l load fit = record {
  known = (let three = least_types registry l in omega arith);
  fit = subst (λ (t : TypeInfo). fits_type t (Int (pos load) ∷ []) ≡ true) (sym (scene_tag-at registry l)) (ap (λ b. b && true) fit);
}

abbrev pub parts_of : List Renaming → ℕ → Node → List (PartOf Value)
parts_of rs load node = scene_tag load ∷ map (part_map (value_renamed rs)) node.parts

same_types : {V W : Type 0} (f : V → W) (ps : List (PartOf V)) → map part_type (map (part_map f) ps) ≡ map part_type ps
same_types f [] = refl
same_types f (p ∷ ps) = ap (λ ts. p.type_id ∷ ts) (same_types f ps)

pub node_suits : (registry : List TypeInfo) → IsLawfulRegistry registry → (rs : List Renaming) (load : ℕ) → fits_field I64 (Int (pos load)) ≡ true → (node : Node) → IsLawfulNode registry node
    → Suits registry (Create (parts_of rs load node))
node_suits registry l rs load fit node h = (fits, subst (λ ts. AreDistinct (SCENE_TAG.0 ∷ ts)) (sym (same_types (value_renamed rs) node.parts)) h.distinct)
  where
    fits : (p : PartOf Value) → In p (parts_of rs load node) → IsFitting registry p
    fits p (inl is) = subst (IsFitting registry) (sym is) (tag_fits registry l load fit)
    fits p (inr i) =
        let (q, j, is) = in_map (part_map (value_renamed rs)) p node.parts i in
        let f = h.fit q j in
        subst (IsFitting registry) (sym is)
        (record { known = f.known; fit = type_fits (value_renamed rs) (renaming_keeps_fit rs) (type_at registry q.type_id) q.values ∙ f.fit })

-- ---- lawful

pub record IsGood (capacity : List ℕ → ℕ) (registry : List TypeInfo) (w : World) : Type 0 where
  pub lawful : IsLawful capacity w
  pub same : w.registry ≡ registry

module _ (capacity : List ℕ → ℕ) (fits : HasRoomForParts capacity) (registry : List TypeInfo) where
  pub operate_good : (w : World) (o : Operation) → IsGood capacity registry w → Suits registry o → IsGood capacity registry (operate capacity w o).world
  operate_good w o g suits = record {
    lawful = operate_lawful capacity fits w o (subst (λ r. Suits r o) (sym g.same) suits) g.lawful;
    same = operate_registry capacity w o ∙ g.same;
  }

  off_good : (e : Entity) (types : List ℕ) (w : World) → ((t : ℕ) → In t types → IsKnown registry t) → IsGood capacity registry w → IsGood capacity registry (fold (switched_off capacity e) w types)
  off_good e [] w known g = g
  off_good e (t ∷ ts) w known g = off_good e ts (switched_off capacity e w t) (λ u i. known u (inr i)) (operate_good w (On e (SetEnabled t false)) g (known t (inl refl)))

  all_off_good : (types : List ℕ) (w : World) (r : Reply) → ((t : ℕ) → In t types → IsKnown registry t) → IsGood capacity registry w → IsGood capacity registry (all_off capacity types (record { world = w; reply = r }))
  all_off_good types w (Made e) known g = off_good e types w known g
  all_off_good types w Done known g = g
  all_off_good types w (Skipped cause) known g = g

  module _ (lawful : IsLawfulRegistry registry) (load : ℕ) (fit : fits_field I64 (Int (pos load)) ≡ true) where
    node_good : (rs : List Renaming) (w : World) (node : Node) → IsLawfulNode registry node → IsGood capacity registry w → IsGood capacity registry (node_built capacity rs load w node)
    node_good rs w node h g =
        all_off_good node.disabled (operate capacity w (Create (parts_of rs load node))).world (operate capacity w (Create (parts_of rs load node))).reply h.known
        (operate_good w (Create (parts_of rs load node)) g (node_suits registry lawful rs load fit node h))

    nodes_good : (rs : List Renaming) (nodes : List Node) (w : World) → ((node : Node) → In node nodes → IsLawfulNode registry node) → IsGood capacity registry w
        → IsGood capacity registry (fold (node_built capacity rs load) w nodes)
    nodes_good rs [] w all g = g
    nodes_good rs (n ∷ ns) w all g = nodes_good rs ns (node_built capacity rs load w n) (λ m i. all m (inr i)) (node_good rs w n (all n (inl refl)) g)

    pub empty_good : IsGood capacity registry (empty_world registry 1 1)
    empty_good = record {
      lawful = record {
        registry = lawful;
        sound = λ i. none (one_if (nat_lt i 0));
        made = omega arith;
        alive = omega arith;
        rows = λ x i. absurd i;
        blocks = λ b i. absurd i;
        free = λ e i. absurd i;
        first = record { from_one = omega arith; within = omega arith };
        moment = omega arith;
      };
      same = refl;
    }
      where
        none : (n : ℕ) → 0 + 0 ≤ n
        none n = omega arith

    built_good : (nodes : List Node) → ((node : Node) → In node nodes → IsLawfulNode registry node) → IsGood capacity registry (built capacity registry nodes load)
    unfolding built
    built_good nodes all = nodes_good (node_renamings nodes) nodes (empty_world registry 1 1) all empty_good

pub built_lawful : (capacity : List ℕ → ℕ) → HasRoomForParts capacity → (registry : List TypeInfo) → IsLawfulRegistry registry → (load : ℕ) → fits_field I64 (Int (pos load)) ≡ true
    → (nodes : List Node) → ((node : Node) → In node nodes → IsLawfulNode registry node) → IsLawful capacity (built capacity registry nodes load)
built_lawful capacity fits registry lawful load fit nodes all = (built_good capacity fits registry lawful load fit nodes all).lawful

pub built_registry : (capacity : List ℕ → ℕ) → HasRoomForParts capacity → (registry : List TypeInfo) → IsLawfulRegistry registry → (load : ℕ) → fits_field I64 (Int (pos load)) ≡ true
    → (nodes : List Node) → ((node : Node) → In node nodes → IsLawfulNode registry node) → (built capacity registry nodes load).registry ≡ registry
built_registry capacity fits registry lawful load fit nodes all = (built_good capacity fits registry lawful load fit nodes all).same
