-- The world after an entity has ended.
use Rattle.std.proofs.Common.{ℕ, ◌≡◌, ◌<◌, ◌∙◌, true, false, sym, ap, subst, List, length, Option, Some, option_map, is_some}
use Rattle.std.specs.Option.{IfSome}
use Rattle.ent_types.specs.declared.entity.Entity.{Entity}
use Rattle.ent_types.specs.declared.type_info.TypeInfo.{TypeInfo}
use Rattle.entity_table.specs.declared.table.Place.{Place}
use Rattle.entity_table.specs.Table.{Table, IsAlive, place_of, without}
use Rattle.world_model.specs.Operations.{ended}
use Rattle.chunk_block.specs.Blocks.{IsWhole}
use Rattle.archetype_store.specs.Stores.{Numbered, OfBlock, left, with_block}
use Rattle.world_places.specs.Placing.{IsPlaced, world_of, order_marked, mover_in, with_mover}
use Rattle.world_places.proofs.Leaving.{block_ready, left_placed, mover_block, mover_if_alive, left_alive}
use Rattle.world_places.proofs.Numbers.{of_value}
use Rattle.world_places.proofs.Tables.{without_rebinds}
use Rattle.world_places.proofs.Worlds.{world_ended}
use Rattle.structural_ops.proofs.Numbering.{Keeps, life_apart, others_keep}

module _ {registry : List TypeInfo} {blocks : List Numbered} {t : Table} (placed : IsPlaced registry blocks t) (e : Entity) (p : Place) (at : place_of t e ≡ Some p) where
  -- the entity whose row takes the place is alive
  pub leave_alive : OfBlock p.block (λ b. IfSome (mover_in p.row b) (IsAlive t)) blocks
  leave_alive =
      of_value p.block (λ b. mover_in p.row b.block) (λ b. (p.row < length b.block.rows) × IsWhole b.block.columns) (λ m. IfSome m (IsAlive t)) blocks (mover_if_alive placed e p at) (block_ready placed e p at)

  module _ (now : ℕ) (m : Option Entity) (mover : OfBlock p.block (λ b. m ≡ mover_in p.row b) blocks) (bs : List Numbered)
      (leaves : bs ≡ left p.block p.row (with_block p.block (order_marked now) blocks)) where
    pub still_alive : IsAlive (with_mover m p t) e
    still_alive = left_alive placed e p at m mover

    pub ended_is_placed : IsPlaced registry bs (without (with_mover m p t) e)
    ended_is_placed = subst (λ cs. IsPlaced registry cs (without (with_mover m p t) e)) (sym leaves) (left_placed placed e p at m mover now)

    pub ended_is : world_of registry bs (without (with_mover m p t) e) now ≡ ended e (world_of registry blocks t now)
    ended_is = ap (λ cs. world_of registry cs (without (with_mover m p t) e) now) leaves ∙ world_ended placed e p at now m

    pub ended_keeps : Keeps blocks bs
    ended_keeps =
        others_keep placed ended_is_placed e
        (life_apart placed ended_is_placed e
        (λ same. let no_way : false ≡ true = sym (ap is_some (without_rebinds (with_mover m p t) e still_alive).there) ∙ same ∙ ap is_some at in absurd (cc)))
        (λ d other. ap (option_map (λ (q : Place). q.block)) ((without_rebinds (with_mover m p t) e still_alive).others d other) ∙ mover_block placed e p at m mover d)
