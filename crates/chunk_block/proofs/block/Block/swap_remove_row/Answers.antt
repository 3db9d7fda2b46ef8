use Rattle.std.proofs.Common.{ℕ, ◌≡◌, ◌<◌, ◌≤◌, ◌-◌, ◌∙◌, ap, refl, subst, length, map, arith, List, vec_capacity}
use Rattle.std.specs.Prelude.{slice_get}
use Rattle.std.proofs.lemmas.Option.{slice_get-map}
use Rattle.std.specs.List.{swap_remove}
use Rattle.ent_types.specs.declared.entity.Entity.{Entity}
use Rattle.ent_types.specs.Fitting.{null_entity}
use Rattle.enable_bits.specs.Masks.{swapped_back}
use Rattle.world_model.specs.Row.{Row}
use Rattle.block_columns.specs.Places.{tabulated}
use Rattle.block_columns.proofs.Lists.{length-swap_remove}
use Rattle.chunk_block.specs.Pieces.{Place, places_of, swapped_place}
use Rattle.chunk_block.specs.Blocks.{BlockState, BlockType, type_of, row_at, no_row, marks_of}
use Rattle.chunk_block.proofs.Swapped.{all_have_row, rows_swapped, types_swapped, sound_swapped}
use Rattle.chunk_block.proofs.Views.{seen, size, entities_of_rows}
use Rattle.chunk_block.proofs.block.Block.swap_remove_row.Goals as goal

pub count-rows-requires : goal.count-rows-requires
count-rows-requires c =
    let b = c.self.inside in
    let ps = places_of b.slots.items in
    let es = b.entities.items in
    let n = length es in
    let marks = marks_of b.marks.items in
    let inv = c.self.invariant in
    omega (arith, inv.few, inv.most)

pub remove_all-requires : goal.remove_all-requires
remove_all-requires c =
    let b = c.self.inside in
    let ps = places_of b.slots.items in
    let es = b.entities.items in
    let n = length es in
    let marks = marks_of b.marks.items in
    let inv = c.self.invariant in
    let within : c.args.row < n = subst (λ m. c.args.row < m) (size c.args.self.now b.types b.capacity ps b.dying es n marks b.order c.self.view_is) c.requires.within in
    all_have_row n b.capacity c.args.row ps within inv.suit

pub swap_back-requires-clause-within : goal.swap_back-requires-clause-within
swap_back-requires-clause-within c =
    let b = c.self.inside in
    let ps = places_of b.slots.items in
    let es = b.entities.items in
    let n = length es in
    let marks = marks_of b.marks.items in
    let inv = c.self.invariant in
    let within : c.args.row < n = subst (λ m. c.args.row < m) (size c.args.self.now b.types b.capacity ps b.dying es n marks b.order c.self.view_is) c.requires.within in
    rw c.count-rows.ensures within

pub swap_back-requires-clause-rows : goal.swap_back-requires-clause-rows
swap_back-requires-clause-rows c =
    let b = c.self.inside in
    let ps = places_of b.slots.items in
    let es = b.entities.items in
    let n = length es in
    let marks = marks_of b.marks.items in
    let inv = c.self.invariant in
    rw c.count-rows.ensures (omega (arith, inv.few, inv.most))

pub remove_entity-requires : goal.remove_entity-requires
remove_entity-requires c =
    let b = c.self.inside in
    let ps = places_of b.slots.items in
    let es = b.entities.items in
    let n = length es in
    let marks = marks_of b.marks.items in
    let inv = c.self.invariant in
    let within : c.args.row < n = subst (λ m. c.args.row < m) (size c.args.self.now b.types b.capacity ps b.dying es n marks b.order c.self.view_is) c.requires.within in
    within

pub invariant_of-self : goal.invariant_of-self
invariant_of-self c =
    let b = c.self.inside in
    let ps = places_of b.slots.items in
    let es = b.entities.items in
    let n = length es in
    let marks = marks_of b.marks.items in
    let inv = c.self.invariant in
    let within : c.args.row < n = subst (λ m. c.args.row < m) (size c.args.self.now b.types b.capacity ps b.dying es n marks b.order c.self.view_is) c.requires.within in
    let long : length c.remove_entity.new.entities.items ≡ n - 1 = ap length c.remove_entity.ensures.items ∙ length-swap_remove es c.args.row null_entity in
    rw (c.remove_all.ensures, c.swap_back.ensures, c.count-rows.ensures, long) (sound_swapped n (vec_capacity b.entities) _ b.capacity c.args.row b.dying ps within c.remove_entity.ensures.room inv)

pub returns-clause-block : goal.returns-clause-block
returns-clause-block c =
    let b = c.self.inside in
    let ps = places_of b.slots.items in
    let es = b.entities.items in
    let n = length es in
    let marks = marks_of b.marks.items in
    let inv = c.self.invariant in
    let within : c.args.row < n = subst (λ m. c.args.row < m) (size c.args.self.now b.types b.capacity ps b.dying es n marks b.order c.self.view_is) c.requires.within in
    let few : n ≤ 128 = omega (arith, inv.few, inv.most) in
    ap (λ (qs : List Place). seen b.types b.capacity qs c.swap_back.new.self c.remove_entity.new.entities.items (length c.remove_entity.new.entities.items) marks b.order) c.remove_all.ensures
    ∙ (ap (λ (off : List ℕ). seen b.types b.capacity (map (swapped_place c.args.row) ps) off c.remove_entity.new.entities.items (length c.remove_entity.new.entities.items) marks b.order) (c.swap_back.ensures ∙ ap (swapped_back b.dying c.args.row) c.count-rows.ensures)
    ∙ (ap (λ (ds : List Entity). seen b.types b.capacity (map (swapped_place c.args.row) ps) (swapped_back b.dying c.args.row n) ds (length ds) marks b.order) c.remove_entity.ensures.items
    ∙ (ap (λ m. seen b.types b.capacity (map (swapped_place c.args.row) ps) (swapped_back b.dying c.args.row n) (swap_remove es c.args.row null_entity) m marks b.order) (length-swap_remove es c.args.row null_entity)
    ∙ (ap (λ (ts : List BlockType). record { types = b.types; columns = ts; capacity = b.capacity; rows = tabulated (row_at (map (swapped_place c.args.row) ps) (swapped_back b.dying c.args.row n) (swap_remove es c.args.row null_entity)) 0 (n - 1); marks = marks; order = b.order }) (types_swapped c.args.row ps)
    ∙ (ap (λ (rs : List Row). record { types = b.types; columns = map type_of ps; capacity = b.capacity; rows = rs; marks = marks; order = b.order }) (rows_swapped n b.capacity c.args.row ps b.dying es refl within few inv.suit)
    ∙ ap (λ (s : BlockState). record s { rows = swap_remove s.rows c.args.row no_row }) c.self.view_is)))))

pub returns-clause-moved : goal.returns-clause-moved
returns-clause-moved c =
    let ps = places_of c.remove_all.new.slots.items in
    let es = c.remove_entity.new.entities.items in
    c.entity_in.ensures
    ∙ (ap (λ (ds : List Entity). slice_get ds c.args.row) (entities_of_rows ps c.swap_back.new.self es (length es) refl)
    ∙ slice_get-map (λ (r : Row). r.entity) (tabulated (row_at ps c.swap_back.new.self es) 0 (length es)) c.args.row)
