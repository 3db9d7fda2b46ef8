use Rattle.std.proofs.Common.{◌≡◌, ◌<◌, ◌+◌, ◌∙◌, ◌++◌, ◌∷◌, [], false, sym, ap, refl, subst, length, map, arith, List, vec_capacity}
use Rattle.std.proofs.lemmas.List.{length_push}
use Rattle.ent_types.specs.declared.entity.Entity.{Entity}
use Rattle.enable_bits.specs.Masks.{has}
use Rattle.world_model.specs.Row.{Row}
use Rattle.block_columns.specs.Places.{tabulated}
use Rattle.block_columns.proofs.Lists.{length-tabulated}
use Rattle.chunk_block.specs.Pieces.{Place, places_of, pushed_place}
use Rattle.chunk_block.specs.Blocks.{BlockState, BlockType, type_of, row_at, IsWhole, marks_of, new_row}
use Rattle.chunk_block.proofs.Pushed.{all_have_room, rows_pushed, types_pushed, sound_pushed}
use Rattle.chunk_block.proofs.Views.{seen, size}
use Rattle.chunk_block.proofs.block.Block.push_row.Goals as goal

pub count-row-requires : goal.count-row-requires
count-row-requires c =
    let b = c.self.inside in
    let ps = places_of b.slots.items in
    let es = b.entities.items in
    let n = length es in
    let marks = marks_of b.marks.items in
    let inv = c.self.invariant in
    omega (arith, inv.few, inv.most)

pub push_all-requires : goal.push_all-requires
push_all-requires c =
    let b = c.self.inside in
    let ps = places_of b.slots.items in
    let es = b.entities.items in
    let n = length es in
    let marks = marks_of b.marks.items in
    let inv = c.self.invariant in
    let room : n < b.capacity = subst (λ m. m < b.capacity) (length-tabulated _ 0 n) (subst (λ (s : BlockState). length s.rows < s.capacity) (sym c.self.view_is) c.requires.room) in
    all_have_room n b.capacity ps room inv.suit

pub push_entity-requires : goal.push_entity-requires
push_entity-requires c =
    let b = c.self.inside in
    let ps = places_of b.slots.items in
    let es = b.entities.items in
    let n = length es in
    let marks = marks_of b.marks.items in
    let inv = c.self.invariant in
    let room : n < b.capacity = subst (λ m. m < b.capacity) (length-tabulated _ 0 n) (subst (λ (s : BlockState). length s.rows < s.capacity) (sym c.self.view_is) c.requires.room) in
    omega (arith, room, inv.reserved)

pub invariant_of-self : goal.invariant_of-self
invariant_of-self c =
    let b = c.self.inside in
    let ps = places_of b.slots.items in
    let es = b.entities.items in
    let n = length es in
    let marks = marks_of b.marks.items in
    let inv = c.self.invariant in
    let room : n < b.capacity = subst (λ m. m < b.capacity) (length-tabulated _ 0 n) (subst (λ (s : BlockState). length s.rows < s.capacity) (sym c.self.view_is) c.requires.room) in
    let long : length c.push_entity.new.entities.items ≡ n + 1 = ap length c.push_entity.ensures.items ∙ length_push es c.args.e in
    rw (c.push_all.ensures, long) (sound_pushed n (vec_capacity b.entities) _ b.capacity b.dying ps room c.push_entity.ensures.room inv)

pub returns-clause-place : goal.returns-clause-place
returns-clause-place c =
    let b = c.self.inside in
    let ps = places_of b.slots.items in
    let es = b.entities.items in
    let n = length es in
    let marks = marks_of b.marks.items in
    let inv = c.self.invariant in
    c.count-row.ensures ∙ sym (size c.args.self.now b.types b.capacity ps b.dying es n marks b.order c.self.view_is)

pub returns-clause-block : goal.returns-clause-block
returns-clause-block c =
    let b = c.self.inside in
    let ps = places_of b.slots.items in
    let es = b.entities.items in
    let n = length es in
    let marks = marks_of b.marks.items in
    let inv = c.self.invariant in
    let room : n < b.capacity = subst (λ m. m < b.capacity) (length-tabulated _ 0 n) (subst (λ (s : BlockState). length s.rows < s.capacity) (sym c.self.view_is) c.requires.room) in
    let whole = subst (λ (s : BlockState). IsWhole s.columns) (sym c.self.view_is) c.requires.whole in
    let alive : has b.dying n ≡ false = inv.past n (omega arith) in
    ap (λ (qs : List Place). seen b.types b.capacity qs b.dying c.push_entity.new.entities.items (length c.push_entity.new.entities.items) marks b.order) c.push_all.ensures
    ∙ (ap (λ (ds : List Entity). seen b.types b.capacity (map pushed_place ps) b.dying ds (length ds) marks b.order) c.push_entity.ensures.items
    ∙ (ap (λ m. seen b.types b.capacity (map pushed_place ps) b.dying (es ++ c.args.e ∷ []) m marks b.order) (length_push es c.args.e)
    ∙ (ap (λ (ts : List BlockType). record { types = b.types; columns = ts; capacity = b.capacity; rows = tabulated (row_at (map pushed_place ps) b.dying (es ++ c.args.e ∷ [])) 0 (n + 1); marks = marks; order = b.order }) (types_pushed ps)
    ∙ (ap (λ (rs : List Row). record { types = b.types; columns = map type_of ps; capacity = b.capacity; rows = rs; marks = marks; order = b.order }) (rows_pushed n b.capacity ps b.dying es c.args.e refl inv.suit whole alive)
    ∙ ap (λ (s : BlockState). record s { rows = s.rows ++ new_row s.columns c.args.e ∷ [] }) c.self.view_is))))
