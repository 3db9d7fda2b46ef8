use Rattle.std.proofs.Common.{◌≡◌, ◌<◌, ◌∙◌, ap, refl, subst, length, map, List}
use Rattle.std.proofs.Math.ListN.{set}
use Rattle.std.proofs.lemmas.List.{length-set}
use Rattle.ent_types.specs.declared.entity.Entity.{Entity}
use Rattle.world_model.specs.Row.{Row}
use Rattle.chunk_block.specs.Pieces.{places_of}
use Rattle.chunk_block.specs.Blocks.{BlockState, type_of, row_in, marks_of}
use Rattle.chunk_block.proofs.Changed.{rows_renamed}
use Rattle.chunk_block.proofs.Views.{seen, size}
use Rattle.chunk_block.proofs.block.Block.put_entity.Goals as goal

pub replace_entity-requires : goal.replace_entity-requires
replace_entity-requires c =
    let b = c.self.inside in
    let ps = places_of b.slots.items in
    let es = b.entities.items in
    let n = length es in
    let marks = marks_of b.marks.items in
    let inv = c.self.invariant in
    let within : c.args.row < n = subst (λ m. c.args.row < m) (size c.args.self.now b.types b.capacity ps b.dying es n marks b.order c.self.view_is) c.requires in
    within

pub invariant_of-self : goal.invariant_of-self
invariant_of-self c =
    let b = c.self.inside in
    let ps = places_of b.slots.items in
    let es = b.entities.items in
    let n = length es in
    let marks = marks_of b.marks.items in
    let inv = c.self.invariant in
    let long : length c.replace_entity.new.entities.items ≡ n = ap length c.replace_entity.ensures.items ∙ length-set es c.args.row c.args.e in
    rw (long, c.replace_entity.ensures.room) inv

pub returns : goal.returns
returns c =
    let b = c.self.inside in
    let ps = places_of b.slots.items in
    let es = b.entities.items in
    let n = length es in
    let marks = marks_of b.marks.items in
    let inv = c.self.invariant in
    let within : c.args.row < n = subst (λ m. c.args.row < m) (size c.args.self.now b.types b.capacity ps b.dying es n marks b.order c.self.view_is) c.requires in
    ap (λ (ds : List Entity). seen b.types b.capacity ps b.dying ds (length ds) marks b.order) c.replace_entity.ensures.items
    ∙ (ap (λ m. seen b.types b.capacity ps b.dying (set es c.args.row c.args.e) m marks b.order) (length-set es c.args.row c.args.e)
    ∙ (ap (λ (rs : List Row). record { types = b.types; columns = map type_of ps; capacity = b.capacity; rows = rs; marks = marks; order = b.order }) (rows_renamed c.args.row n c.args.e ps b.dying es within refl)
    ∙ ap (λ (s : BlockState). record s { rows = set s.rows c.args.row (record (row_in c.args.row s.rows) { entity = c.args.e }) }) c.self.view_is))
