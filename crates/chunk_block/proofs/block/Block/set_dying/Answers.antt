use Rattle.std.proofs.Common.{ℕ, ◌<◌, ◌≤◌, ◌∙◌, ap, subst, length, map, arith, List, vec_capacity}
use Rattle.std.proofs.Math.ListN.{set}
use Rattle.world_model.specs.Row.{Row}
use Rattle.chunk_block.specs.Pieces.{places_of}
use Rattle.chunk_block.specs.Blocks.{BlockState, type_of, row_in, marks_of}
use Rattle.chunk_block.proofs.Changed.{rows_dying, sound_dying}
use Rattle.chunk_block.proofs.Views.{seen, size}
use Rattle.chunk_block.proofs.block.Block.set_dying.Goals as goal

pub set-requires : goal.set-requires
set-requires c =
    let b = c.self.inside in
    let ps = places_of b.slots.items in
    let es = b.entities.items in
    let n = length es in
    let marks = marks_of b.marks.items in
    let inv = c.self.invariant in
    let within : c.args.row < n = subst (λ m. c.args.row < m) (size c.args.self.now b.types b.capacity ps b.dying es n marks b.order c.self.view_is) c.requires in
    omega (arith, within, inv.few, inv.most)

pub invariant_of-self : goal.invariant_of-self
invariant_of-self c =
    let b = c.self.inside in
    let ps = places_of b.slots.items in
    let es = b.entities.items in
    let n = length es in
    let marks = marks_of b.marks.items in
    let inv = c.self.invariant in
    let within : c.args.row < n = subst (λ m. c.args.row < m) (size c.args.self.now b.types b.capacity ps b.dying es n marks b.order c.self.view_is) c.requires in
    rw c.set.ensures (sound_dying n (vec_capacity b.entities) b.capacity c.args.row c.args.on b.dying ps within inv)

pub returns : goal.returns
returns c =
    let b = c.self.inside in
    let ps = places_of b.slots.items in
    let es = b.entities.items in
    let n = length es in
    let marks = marks_of b.marks.items in
    let inv = c.self.invariant in
    let within : c.args.row < n = subst (λ m. c.args.row < m) (size c.args.self.now b.types b.capacity ps b.dying es n marks b.order c.self.view_is) c.requires in
    let few : n ≤ 128 = omega (arith, inv.few, inv.most) in
    ap (λ (off : List ℕ). seen b.types b.capacity ps off es n marks b.order) c.set.ensures
    ∙ (ap (λ (rs : List Row). record { types = b.types; columns = map type_of ps; capacity = b.capacity; rows = rs; marks = marks; order = b.order }) (rows_dying c.args.row n c.args.on ps b.dying es within few)
    ∙ ap (λ (s : BlockState). record s { rows = set s.rows c.args.row (record (row_in c.args.row s.rows) { dying = c.args.on }) }) c.self.view_is)
