-- A row of a spawn: it is made, and some of its types are disabled.
use Rattle.std.proofs.Common.{◌≡◌, ℕ, suc, ◌+◌, ◌-◌, ◌≤◌, ◌<◌, ◌∙◌, arith, nat_eq, false, cond, sym, ap, ap₂, refl, subst, List, [], ◌∷◌, map, Result, Ok, Err}
use Rattle.std.specs.Prelude.{fold}
use Rattle.std.specs.List.{range_with_len}
use Rattle.std.proofs.lemmas.Bool.{ne_eqb}
use Rattle.ent_types.specs.declared.entity.Entity.{Entity}
use Rattle.ent_types.specs.declared.skip.Skip.{Skip}
use Rattle.ent_types.specs.declared.skip.Skip.TheVariants.{Full, TooLarge}
use Rattle.ent_types.specs.declared.type_info.TypeInfo.{TypeInfo}
use Rattle.ent_types.specs.declared.value.Value.{Value}
use Rattle.ent_types.specs.Fitting.{null_entity}
use Rattle.expr_trees.specs.declared.tree.CommandText.TheVariants as texts
use Rattle.expr_trees.specs.declared.tree.PartExpr.{PartExpr}
use Rattle.scenario_record.specs.declared.record.Scenario.{Scenario}
use Rattle.scenario_record.specs.declared.record.SpawnEntry.{SpawnEntry}
use Rattle.ent_types.specs.declared.value.Part.{Part}
use Rattle.world_model.specs.Part.{PartOf, by_type, part_map, part_of as seen, part_type}
use Rattle.world_model.specs.World.{World, capacity, empty_world}
use Rattle.world_model.specs.Ids.{next_id, room}
use Rattle.world_model.specs.Lawful.{Suits}
use Rattle.world_model.specs.Operations.{Answer, Create, Made, Makes, On, Reply, SetEnabled, Skipped, Skips, apply, cells_of, home_of, made, operate}
use Rattle.world_model.specs.Scenes.{all_off, switched_off}
use Rattle.world_laws.proofs.Built.{operate_registry}
use Rattle.expr_eval.specs.Values.{OwnRow}
use Rattle.run_model.specs.Commands.{part_given}
use Rattle.run_model.specs.Job.{no_row}
use Rattle.run_model.specs.Playback.{value_given}
use Rattle.run_model.specs.Tasks.{after_row_spawned, after_spawn, no_others, nothing_made, spawned}
use Rattle.run_laws.specs.Runnable.{SpawnRuns, as_part, types_of_parts}
use Rattle.run_laws.proofs.EntriesSuit.{deed_suits}
use Rattle.structural_ops.specs.declared.fault.OpFault.TheVariants as fault
use Rattle.structural_ops.specs.Worlds.{Gives, GivesAlways, WorldState, after}
use Rattle.world_spawns.specs.Parts.{part_for}
use Rattle.world_spawns.proofs.Room.{room_all_off, room_made}
use Rattle.world_spawns.proofs.Types.{same_order}

-- ---- what a call leaves

-- a type is disabled, or the call is skipped as the definition says
pub off_is : (old new : WorldState) (e : Entity) (t : ℕ) (r : Result (Unit {0}) Skip) → GivesAlways old new (On e (SetEnabled t false)) r
    → new.world ≡ switched_off (capacity old.world.registry) e old.world t
off_is old new e t (Ok u) gives = sym (ap (λ (a : Answer). a.world) gives.0)
off_is old new e t (Err cause) gives = ap (λ (w : WorldState). w.world) gives.1 ∙ sym (ap (λ (a : Answer). a.world) gives.0)

pub registry_off : (capacity : List ℕ → ℕ) (e : Entity) (w : World) (t : ℕ) → (switched_off capacity e w t).registry ≡ w.registry
registry_off capacity e w t = operate_registry capacity w (On e (SetEnabled t false))

pub registry_all_off : (capacity : List ℕ → ℕ) (e : Entity) (types : List ℕ) (w : World) → (fold (switched_off capacity e) w types).registry ≡ w.registry
registry_all_off capacity e [] w = refl
registry_all_off capacity e (t ∷ ts) w = registry_all_off capacity e ts (switched_off capacity e w t) ∙ registry_off capacity e w t

off_of_made : (capacity : List ℕ → ℕ) (types : List ℕ) (a : Answer) (e : Entity) → a.reply ≡ Made e → all_off capacity types a ≡ fold (switched_off capacity e) a.world types
off_of_made capacity types a e is = ap (λ (r : Reply). all_off capacity types (record { world = a.world; reply = r })) is

-- ---- the parts of a row

module _ (registry : List TypeInfo) (own : OwnRow) where
  parts_twice : (ps : List PartExpr) → map (part_map (value_given nothing_made)) (map (part_given registry own no_others) ps) ≡ map (part_for registry own) ps
  parts_twice [] = refl
  parts_twice (p ∷ ps) = ap (λ qs. part_for registry own p ∷ qs) (parts_twice ps)

  types_for : (ps : List PartExpr) → map part_type (map (part_for registry own) ps) ≡ map part_type (map as_part ps)
  types_for [] = refl
  types_for (p ∷ ps) = ap (λ ts. p.ty.0 ∷ ts) (types_for ps)

  pub types_are : (ps : List PartExpr) → map part_type (by_type (map (part_for registry own) ps)) ≡ types_of_parts ps
  types_are ps = same_order (map (part_for registry own) ps) (map as_part ps) (types_for ps)

module _ (registry : List TypeInfo) (s : SpawnEntry) (runs : SpawnRuns registry s) (n : ℕ) where
  pub spawn_suits : Suits registry (Create (map (part_for registry (no_row n 0)) s.parts))
  spawn_suits =
      subst (λ ps. Suits registry (Create ps)) (parts_twice registry (no_row n 0) s.parts)
      (deed_suits registry (no_row n 0) no_others nothing_made (texts.Create [] s.parts) (runs.parts, runs.once))

  pub spawn_small : nat_eq (capacity registry (map part_type (by_type (map (part_for registry (no_row n 0)) s.parts)))) 0 ≡ false
  spawn_small = ap (λ types. nat_eq (capacity registry types) 0) (types_are registry (no_row n 0) s.parts) ∙ runs.room

-- the parts that a buffer was filled with
pub parts_filled : (own : OwnRow) {registry r : List TypeInfo} {ps qs : List PartExpr} {items taken : List Part} → taken ≡ items → map seen items ≡ map (part_for r own) ps → r ≡ registry → ps ≡ qs
    → map seen taken ≡ map (part_for registry own) qs
parts_filled own {registry} {r} {ps} same filled registry_is parts_is =
    ap (map seen) same ∙ filled ∙ ap (λ (x : List TypeInfo). map (part_for x own) ps) registry_is ∙ ap (map (part_for registry own)) parts_is

-- ---- a row is made

module _ (capacity : List ℕ → ℕ) (w : World) (parts : List (PartOf Value)) (small : nat_eq (capacity (map part_type (by_type parts))) 0 ≡ false) (some : nat_eq (room w) 0 ≡ false) where
  abbrev made_of : World
  made_of = made capacity (home_of w.registry (by_type parts)) (cells_of w.registry (by_type parts)) w

  pub create_is : operate capacity w (Create parts) ≡ record { world = made_of; reply = Made (next_id w) }
  unfolding operate
  create_is =
      ap₂ (λ b c. apply capacity w null_entity (cond b (Skips TooLarge) (cond c (Skips Full) (Makes (home_of w.registry (by_type parts)) (cells_of w.registry (by_type parts)))))) small some

-- ---- the row of a spawn

module _ (old : WorldState) (s : SpawnEntry) (runs : SpawnRuns old.world.registry s) (some : 1 ≤ room old.world) (n : ℕ) where
  abbrev parts : List (PartOf Value)
  parts = map (part_for old.world.registry (no_row n 0)) s.parts

  open_ : nat_eq (room old.world) 0 ≡ false
  open_ = ne_eqb (room old.world) 0 (λ none. omega (arith, none, some))

  abbrev answer : Answer
  answer = after old (Create parts)

  answer_is : answer ≡ record { world = made_of (capacity old.world.registry) old.world parts (spawn_small old.world.registry s runs n) open_; reply = Made (next_id old.world) }
  answer_is = create_is (capacity old.world.registry) old.world parts (spawn_small old.world.registry s runs n) open_

  -- a row that is made leaves room for one row fewer
  answer_room : room answer.world + 1 ≡ room old.world
  answer_room =
      ap (λ (a : Answer). room a.world + 1) answer_is
      ∙ room_made (capacity old.world.registry) (home_of old.world.registry (by_type parts)) (cells_of old.world.registry (by_type parts)) old.world some

  module _ (new : WorldState) (ps : List (PartOf Value)) (are : ps ≡ parts) where
    -- it isn't skipped
    pub not_skipped : (cause : Skip) → Gives old new (Create ps) (Err (fault.Skip cause)) → ⊥
    not_skipped cause gives =
        let skips = subst (λ (qs : List (PartOf Value)). Gives old new (Create qs) (Err (fault.Skip cause))) are gives in
        let no_way : Made (next_id old.world) ≡ Skipped cause = ap (λ (a : Answer). a.reply) (sym answer_is ∙ skips.0) in
        cc

    module _ (e : Entity) (gives : Gives old new (Create ps) (Ok (Made e))) where
      makes : Gives old new (Create parts) (Ok (Made e))
      makes = subst (λ (qs : List (PartOf Value)). Gives old new (Create qs) (Ok (Made e))) are gives

      pub made_registry : new.world.registry ≡ old.world.registry
      made_registry = ap (λ (w : World). w.registry) makes.1.world_is ∙ operate_registry (capacity old.world.registry) old.world (Create parts)

      module _ (last : WorldState) (off : last.world ≡ fold (switched_off (capacity new.world.registry) e) new.world s.disabled) where
        last_is : last.world ≡ fold (switched_off (capacity old.world.registry) e) answer.world s.disabled
        last_is =
            off
            ∙ ap (λ (r : List TypeInfo). fold (switched_off (capacity r) e) new.world s.disabled) made_registry
            ∙ ap (λ (w : World). fold (switched_off (capacity old.world.registry) e) w s.disabled) makes.1.world_is

        pub row_world : last.world ≡ after_row_spawned (capacity old.world.registry) s old.world n
        row_world = last_is ∙ sym (off_of_made (capacity old.world.registry) s.disabled answer e makes.0)

        pub row_registry : last.world.registry ≡ old.world.registry
        row_registry =
            ap (λ (w : World). w.registry) last_is ∙ registry_all_off (capacity old.world.registry) e s.disabled answer.world
            ∙ operate_registry (capacity old.world.registry) old.world (Create parts)

        pub row_room : room last.world + 1 ≡ room old.world
        row_room = ap (λ (w : World). room w + 1) last_is ∙ ap (λ k. k + 1) (room_all_off (capacity old.world.registry) e s.disabled answer.world) ∙ answer_room

-- ---- all rows

-- the numbers of the rows that are left
pub range_next : (n count : ℕ) → n < count → range_with_len n (count - n) ≡ n ∷ range_with_len (n + 1) (count - (n + 1))
range_next n count below = ap (range_with_len n) (let more : count - n ≡ suc (count - (n + 1)) = omega arith in more)

pub spawned_is : (capacity : List ℕ → ℕ) (s : Scenario) (moment : ℕ) → spawned capacity s moment ≡ fold (after_spawn capacity) (empty_world s.registry s.first_entity_version moment) s.spawn
unfolding spawned
spawned_is capacity s moment = refl
