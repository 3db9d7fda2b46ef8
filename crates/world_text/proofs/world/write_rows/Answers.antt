use Rattle.std.proofs.Common.{◌≡◌, ◌∙◌, inl, inr, ap, refl, sym, subst, List}
use Rattle.std.specs.List.{flat_map}
use Rattle.ent_types.specs.declared.entity.Entity.{Entity}
use Rattle.ent_types.specs.declared.type_info.TypeInfo.{TypeInfo}
use Rattle.entity_table.specs.declared.table.Place.{Place}
use Rattle.ent_io.specs.Text.{AppendsPrefix, Leaves, appended}
use Rattle.ent_io.proofs.Appends.{leaves_all, leaves_rest, prefix_left_within}
use Rattle.ent_io.proofs.Exits.{exit_writes}
use Rattle.world_model.specs.Found.{found_by_index}
use Rattle.world_model.specs.Members.{In}
use Rattle.archetype_store.specs.Stores.{OfNumber}
use Rattle.world_rows.specs.Reading.{CanRead}
use Rattle.world_text.specs.ByPlace.{line_at}
use Rattle.world_text.specs.Lines.{row_line}
use Rattle.world_text.proofs.Places.{can_read_walked, lines_walked}
use Rattle.world_text.proofs.world.write_rows.Goals as goal

pub loop-place-init : goal.loop-place-init
loop-place-init g c =
    let w = c.args.world.now in
    let s = c.store-store.result.now in
    let whole = flat_map (row_line w.world.registry) (found_by_index w.world) in
    let text = g.W.Sink.text c.args.out.now in
    let is : c.into_iter-place-iterator.result ≡ c.living-place-items.result = c.into_iter-place-iterator.ensures.into_iter_gives in
    record {
      text = subst (λ (left : List (Entity × Place)). Leaves whole (flat_map (λ (e : Entity × Place). line_at w.world.registry s.blocks e.1) left) text text) (sym is)
          (subst (λ left. Leaves whole left text text)
          (sym (lines_walked w s c.store-store.ensures c.living-place-items.result (found_by_index w.world) c.living-place-items.ensures.rows)) (leaves_all whole text));
      faults = refl;
      readable = λ e i.
          can_read_walked w s c.store-store.ensures c.living-place-items.result (found_by_index w.world) c.living-place-items.ensures.rows c.is_lawful.ensures e (subst (In e) is i);
    }

pub write_row-requires : goal.write_row-requires
write_row-requires g c =
    let e : Entity × Place = (c.in-Some.field-0-0, c.in-Some.place) in
    subst (λ (registry : List TypeInfo). OfNumber c.in-Some.place.block (CanRead registry c.in-Some.place.row) c.store-store.result.now.blocks) (sym c.registry-registry.ensures)
    (c.loop-place.invariant.readable e (subst (In e) (sym c.in-Some.ensures.steps) (inl refl)))

pub loop-place-preserved : goal.loop-place-preserved
loop-place-preserved g c =
    let w = c.args.world.now in
    let blocks = c.store-store.result.now.blocks in
    let line = λ (e : Entity × Place). line_at w.world.registry blocks e.1 in
    record {
      text = leaves_rest (flat_map (row_line w.world.registry) (found_by_index w.world)) (flat_map line c.loop-place.place-iterator) (line_at w.world.registry blocks c.in-Some.place) (flat_map line c.next.new.self)
          (g.W.Sink.text c.args.out.now) (g.W.Sink.text c.loop-place.out) (g.W.Sink.text c.write_row.new.out) c.loop-place.invariant.text (ap (flat_map line) c.in-Some.ensures.steps)
          (subst (λ (registry : List TypeInfo). g.W.Sink.text c.write_row.new.out ≡ appended (g.W.Sink.text c.loop-place.out) (line_at registry blocks c.in-Some.place)) c.registry-registry.ensures
          c.in_ok-write_row.ensures.text);
      faults = c.in_ok-write_row.ensures.causes ∙ c.loop-place.invariant.faults;
      readable = λ e i. c.loop-place.invariant.readable e (subst (In e) (sym c.in-Some.ensures.steps) (inr i));
    }

pub returns-in_err-write_row-clause-text : goal.returns-in_err-write_row-clause-text
returns-in_err-write_row-clause-text g c =
    let w = c.args.world.now in
    let blocks = c.store-store.result.now.blocks in
    let line = λ (e : Entity × Place). line_at w.world.registry blocks e.1 in
    exit_writes _ _ _ _ c.from_residual.ensures.0
    (prefix_left_within (flat_map (row_line w.world.registry) (found_by_index w.world)) (flat_map line c.loop-place.place-iterator) (line_at w.world.registry blocks c.in-Some.place) (flat_map line c.next.new.self)
    (g.W.Sink.text c.args.out.now) (g.W.Sink.text c.loop-place.out) (g.W.Sink.text c.write_row.new.out) c.loop-place.invariant.text (ap (flat_map line) c.in-Some.ensures.steps)
    (subst (λ (registry : List TypeInfo). AppendsPrefix (line_at registry blocks c.in-Some.place) (g.W.Sink.text c.loop-place.out) (g.W.Sink.text c.write_row.new.out)) c.registry-registry.ensures
    c.in_err-write_row.ensures.text))
