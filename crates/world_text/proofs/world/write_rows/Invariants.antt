use Rattle.std.proofs.Common.{◌≡◌}
use Rattle.std.specs.List.{flat_map}
use Rattle.ent_types.specs.declared.entity.Entity.{Entity}
use Rattle.entity_table.specs.declared.table.Place.{Place}
use Rattle.ent_io.specs.Text.{Leaves}
use Rattle.world_model.specs.Found.{found_by_index}
use Rattle.world_model.specs.Members.{In}
use Rattle.archetype_store.specs.Stores.{OfNumber}
use Rattle.world_rows.specs.Reading.{CanRead}
use Rattle.world_text.specs.ByPlace.{line_at}
use Rattle.world_text.specs.Lines.{row_line}
use Rattle.world_text.proofs.world.write_rows.Given as goal

-- the lines so far, and those of the entities that are left
abbrev pub invariant-loop-place : goal.invariant-loop-place
invariant-loop-place g l = record {
  text : Leaves (flat_map (row_line l.world.world.registry) (found_by_index l.world.world)) (flat_map (λ (e : Entity × Place). line_at l.world.world.registry l.store.blocks e.1) l.place-iterator) (g.W.Sink.text l.fn.out) (g.W.Sink.text l.out);
  faults : g.W.Sink.faults l.out ≡ g.W.Sink.faults l.fn.out;
  readable : (e : Entity × Place) → In e l.place-iterator → OfNumber e.1.block (CanRead l.world.world.registry e.1.row) l.store.blocks;
}
