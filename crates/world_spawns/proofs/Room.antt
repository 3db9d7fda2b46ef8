-- How many more entities can be made after a row of a spawn: one fewer.
use Rattle.std.proofs.Common.{◌≡◌, ℕ, suc, ◌+◌, ◌-◌, ◌≤◌, ◌∙◌, Bool, true, false, cond, ap, refl, arith, List, [], ◌∷◌, length, Option, Some, None}
use Rattle.std.specs.Prelude.{fold, min, not}
use Rattle.std.proofs.lemmas.List.{length-map}
use Rattle.ent_types.specs.declared.entity.Entity.{Entity}
use Rattle.ent_types.specs.declared.limits.TheConstants.{MOST_ENTITIES, MOST_INDEXES}
use Rattle.ent_types.specs.declared.skip.Skip.TheVariants.{NoComponent, NotEnableable}
use Rattle.ent_types.specs.TypeLookups.{is_enableable_at}
use Rattle.ent_types.specs.TypeSets.{has_type}
use Rattle.world_model.specs.Row.{Cell, Row}
use Rattle.world_model.specs.World.{Home, World}
use Rattle.world_model.specs.Found.{Found, alive_count, found, placed}
use Rattle.world_model.specs.Ids.{next_id, room, room_of, take_id}
use Rattle.world_model.specs.Operations.{SetEnabled, Skips, Writes, acted, apply, made, operate, switched, written}
use Rattle.world_model.specs.Scenes.{switched_off}
use Rattle.world_laws.proofs.Entering.{enter_perm}
use Rattle.world_laws.proofs.Perms.{perm_length}
use Rattle.world_laws.proofs.Writing.{put_in, rewrite_placed}

-- ---- a row more

module _ (capacity : List ℕ → ℕ) (home : Home) (cells : List Cell) (w : World) where
  one_more : alive_count (made capacity home cells w) ≡ suc (alive_count w)
  one_more =
      perm_length
      (enter_perm (capacity home.types) w.moment home (let row : Row = record { entity = next_id w; cells = cells; dying = false } in row) w.blocks)

  -- the ids that are left
  fewer_ids : (free : List Entity) → 1 ≤ length free + (MOST_INDEXES - w.made)
      → length (take_id free w.made w.first_entity_version).free + (MOST_INDEXES - (take_id free w.made w.first_entity_version).made) + 1 ≡ length free + (MOST_INDEXES - w.made)
  fewer_ids [] some = omega arith
  fewer_ids (e ∷ es) some = omega arith

  least : (a b c d : ℕ) → a + 1 ≡ c → b + 1 ≡ d → min a b + 1 ≡ min c d
  least a b c d first second = omega arith

  pub room_made : 1 ≤ room w → room (made capacity home cells w) + 1 ≡ room w
  room_made some =
      least (MOST_ENTITIES - alive_count (made capacity home cells w)) _ (MOST_ENTITIES - alive_count w) _
      (let count = one_more in let few = left in omega arith)
      (fewer_ids w.free ids)
    where
      left : 1 ≤ MOST_ENTITIES - alive_count w
      left = omega (arith, some)

      ids : 1 ≤ length w.free + (MOST_INDEXES - w.made)
      ids = omega (arith, some)

-- ---- types disabled

module _ (capacity : List ℕ → ℕ) (e : Entity) where
  room_applied : (w : World) (types : List ℕ) (cells : List Cell) (dying : Bool) → room (written types (record { entity = e; cells = cells; dying = dying }) w) ≡ room w
  room_applied w types cells dying =
      ap (λ n. room_of n (length w.free) w.made)
      (ap length (rewrite_placed w.moment types row w.blocks) ∙ length-map (placed w.blocks) (put_in row))
    where
      row : Row
      row = record { entity = e; cells = cells; dying = dying }

  room_off : (w : World) (t : ℕ) → room (switched_off capacity e w t) ≡ room w
  unfolding operate
  room_off w t = by (found e w.blocks)
    where
      chosen : (x : Found) (a b : Bool) → room (apply capacity w e (cond a (Skips NotEnableable) (cond b (Skips NoComponent) (Writes (t ∷ []) (switched t false x.row.cells) x.row.dying)))).world ≡ room w
      chosen x true b = refl
      chosen x false true = refl
      chosen x false false = room_applied w (t ∷ []) (switched t false x.row.cells) x.row.dying

      by : (o : Option Found) → room (acted capacity w e (SetEnabled t false) o).world ≡ room w
      by None = refl
      by (Some x) = chosen x (not (is_enableable_at w.registry t)) (not (has_type x.home.types t))

  pub room_all_off : (types : List ℕ) (w : World) → room (fold (switched_off capacity e) w types) ≡ room w
  room_all_off [] w = refl
  room_all_off (t ∷ ts) w = room_all_off ts (switched_off capacity e w t) ∙ room_off w t
