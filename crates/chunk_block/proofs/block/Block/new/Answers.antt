use Rattle.std.proofs.Common.{◌∙◌, sym, ap, subst, length, map, [], List}
use Rattle.ent_types.specs.declared.entity.Entity.{Entity}
use Rattle.world_model.specs.World.{Mark}
use Rattle.chunk_block.specs.Pieces.{Place}
use Rattle.chunk_block.specs.Blocks.{BlockType, new_places, BlockState, IsWhole, new_mark, new_block, marks_of}
use Rattle.chunk_block.proofs.Views.{seen}
use Rattle.chunk_block.proofs.New.{sound_new, types_new, whole_new}
use Rattle.chunk_block.proofs.block.Block.new.Goals as goal

pub invariant_of-result : goal.invariant_of-result
invariant_of-result c =
    rw (c.empty.ensures, c.in_ok-slots.ensures)
    (sound_new c.args.registry.now _ _ c.in_ok-capacity.capacity c.args.types.now (ap length c.in_ok-entities.ensures.items) c.in_ok-capacity.ensures.most c.in_ok-entities.ensures.room c.in_ok-capacity.ensures.rising)

pub returns-clause-ok : goal.returns-clause-ok
returns-clause-ok c =
    let types = c.args.types.now in
    let cap = c.in_ok-capacity.capacity in
    let reg = c.args.registry.now in
    let es = c.in_ok-entities.entities.items in
    ap (λ (ps : List Place). seen types cap ps c.empty.result es (length es) (marks_of c.in_ok-marks.marks.items) 0) c.in_ok-slots.ensures
    ∙ (ap (λ (ds : List Entity). seen types cap (new_places reg cap types) c.empty.result ds (length ds) (marks_of c.in_ok-marks.marks.items) 0) c.in_ok-entities.ensures.items
    ∙ (ap (λ (ms : List Mark). seen types cap (new_places reg cap types) c.empty.result [] 0 ms 0) c.in_ok-marks.ensures
    ∙ (ap (λ (xs : List BlockType). record { types = types; columns = xs; capacity = cap; rows = []; marks = map new_mark types; order = 0 }) (types_new reg cap types)
    ∙ ap (new_block reg types) c.in_ok-capacity.ensures.value)))

pub returns-clause-whole : goal.returns-clause-whole
returns-clause-whole c = subst (λ (s : BlockState). IsWhole s.columns) (sym (returns-clause-ok c)) (whole_new c.args.registry.now c.args.types.now)
