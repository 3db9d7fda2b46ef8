-- A row is written in its place.
use Rattle.std.proofs.Common.{◌≡◌, ℕ, zero, suc, Bool, true, false, cond, nat_eq, List, [], ◌∷◌, map, slice_set, slice_get, Some, refl, sym, ap, ◌∙◌, subst}
use Rattle.std.proofs.lemmas.Bool.{eqb-true, eqb-false}
use Rattle.std.proofs.lemmas.Option.{same_Some}
use Rattle.ent_types.specs.declared.entity.Entity.{Entity}
use Rattle.ent_types.specs.declared.type_info.TypeInfo.{TypeInfo}
use Rattle.entity_table.specs.declared.table.Place.{Place}
use Rattle.entity_table.specs.Table.{Table, place_of}
use Rattle.world_model.specs.Members.{In}
use Rattle.world_model.specs.Row.{Row}
use Rattle.world_model.specs.World.{Block}
use Rattle.world_model.specs.Leave.{replaced}
use Rattle.world_model.specs.Write.{marked, rewritten, rewrite}
use Rattle.archetype_store.specs.Stores.{Numbered, with_block}
use Rattle.world_places.specs.Placing.{home_of, world_block, world_blocks, IsPlaced, with_row, types_marked}
use Rattle.world_places.proofs.Lists.{map_same, map_twice}
use Rattle.world_places.proofs.Rows.{entity_in, Only, Lacks, row_of_entity, only_has, only_replaced, lacks_has}
use Rattle.world_places.proofs.Numbers.{change, change_yes, change_no}
use Rattle.world_places.proofs.Looking.{one_has, entity_there}
use Rattle.world_places.proofs.Kept.{Keeps, kept_placed}

-- a row of the same entity
pub row_keeps : (rows : List Row) (k : ℕ) (row : Row) (r : Row) → slice_get rows k ≡ Some r → row.entity ≡ r.entity → map (λ q. q.entity) (slice_set rows k row) ≡ map (λ q. q.entity) rows
row_keeps [] k row r is same = absurd (cc)
row_keeps (q ∷ qs) zero row r is same = ap (λ (e : Entity). e ∷ map (λ (p : Row). p.entity) qs) (same ∙ ap (λ (p : Row). p.entity) (sym (same_Some q r is)))
row_keeps (q ∷ qs) (suc k) row r is same = ap (λ (es : List Entity). q.entity ∷ es) (row_keeps qs k row r is same)

module _ {registry : List TypeInfo} {blocks : List Numbered} {table : Table} (placed_is : IsPlaced registry blocks table) (e : Entity) (p : Place) (at : place_of table e ≡ Some p)
    (now : ℕ) (types : List ℕ) (row : Row) (same : row.entity ≡ e) where
  write_here : (b : Numbered) → Only row.entity p.row b.block.rows → world_block (record b { block = types_marked now types (with_row p.row row b.block) }) ≡ rewritten now types row (world_block b)
  write_here b only =
      ap (λ rows. let new : Block = record { home = home_of b; marks = marked now types b.block.marks; rows = rows; order = b.block.order } in new)
      (sym (only_replaced row.entity row p.row b.block.rows only))
      ∙ ap (λ t. cond t (let new : Block = record { home = home_of b; marks = marked now types b.block.marks; rows = replaced row.entity row b.block.rows; order = b.block.order } in new) (world_block b))
      (sym (only_has row.entity p.row b.block.rows only))

  write_other : (b : Numbered) → Lacks row.entity b.block.rows → world_block b ≡ rewritten now types row (world_block b)
  write_other b lacks =
      ap (λ t. cond t (let new : Block = record { home = home_of b; marks = marked now types b.block.marks; rows = replaced row.entity row b.block.rows; order = b.block.order } in new) (world_block b))
      (sym (lacks_has row.entity b.block.rows lacks))

  pub rewritten_is : world_blocks (with_block p.block (λ b. types_marked now types (with_row p.row row b)) blocks) ≡ rewrite now types row (world_blocks blocks)
  unfolding rewrite
  rewritten_is =
      map_twice world_block (change p.block (λ b. types_marked now types (with_row p.row row b))) blocks
      ∙ map_same (λ b. world_block (change p.block (λ c. types_marked now types (with_row p.row row c)) b)) (λ b. rewritten now types row (world_block b)) blocks
      (λ b i. by b i (nat_eq b.number p.block) refl)
      ∙ sym (map_twice (rewritten now types row) world_block blocks)
    where
      by : (b : Numbered) → In b blocks → (t : Bool) → nat_eq b.number p.block ≡ t
          → world_block (change p.block (λ c. types_marked now types (with_row p.row row c)) b) ≡ rewritten now types row (world_block b)
      by b i true is =
          ap world_block (change_yes p.block (λ c. types_marked now types (with_row p.row row c)) b is)
          ∙ write_here b (subst (λ d. Only d p.row b.block.rows) (sym same) ((one_has placed_is e p at).here b i (eqb-true b.number p.block is)))
      by b i false is =
          ap world_block (change_no p.block (λ c. types_marked now types (with_row p.row row c)) b is)
          ∙ write_other b (subst (λ d. Lacks d b.block.rows) (sym same) ((one_has placed_is e p at).others b i (eqb-false b.number p.block is)))

  pub rewritten_placed : IsPlaced registry (with_block p.block (λ b. types_marked now types (with_row p.row row b)) blocks) table
  rewritten_placed = kept_placed placed_is p.block (λ b. types_marked now types (with_row p.row row b)) (λ b i number. by b (entity_there placed_is e p at b i number))
    where
      by : (b : Numbered) → entity_in b.block.rows p.row ≡ Some e → Keeps b.block (types_marked now types (with_row p.row row b.block))
      by b is =
          let (r, there, entity) = row_of_entity b.block.rows p.row e is in
          record { types = refl; columns = refl; rows = row_keeps b.block.rows p.row row r there (same ∙ sym entity) }
