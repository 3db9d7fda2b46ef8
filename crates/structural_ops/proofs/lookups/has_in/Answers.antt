use Rattle.std.proofs.Common.{◌≡◌, ◌∙◌, ◌<◌, false, ap, sym, subst, length}
use Rattle.std.specs.Prelude.{is_some}
use Rattle.ent_types.specs.TypeSets.{has_type}
use Rattle.world_model.specs.Found.{values_of}
use Rattle.chunk_block.specs.Blocks.{BlockState}
use Rattle.archetype_store.specs.Stores.{Numbered}
use Rattle.world_places.proofs.Numbers.{of_both, of_more}
use Rattle.world_rows.specs.Reading.{found_at}
use Rattle.structural_ops.specs.Readable.{CanFind}
use Rattle.structural_ops.proofs.Unlent.{find_has, find_unknown}
use Rattle.structural_ops.proofs.lookups.has_in.Goals as goal

pub returns-then-not-knows : goal.returns-then-not-knows
returns-then-not-knows c =
    of_more c.args.place.block (CanFind c.args.registry.now c.args.place.row) (λ (b : Numbered). false ≡ is_some (values_of c.args.ty.0 (found_at c.args.place.row b))) c.args.store.now.blocks
    (λ b r. find_unknown c.args.registry.now c.args.place.row b r c.args.ty.0 (λ known. (let v = c.if-not-knows.ensures.value in absurd (cc (v.1 known))))) c.requires

pub block-requires : goal.block-requires
block-requires c = of_more c.args.place.block _ _ c.args.store.now.blocks (λ b is. tt) c.requires

pub returns : goal.returns
returns c =
    of_both c.args.place.block (CanFind c.args.registry.now c.args.place.row) (λ (b : Numbered). c.block.result.now ≡ b.block)
    (λ (b : Numbered). c.has.result ≡ is_some (values_of c.args.ty.0 (found_at c.args.place.row b))) c.args.store.now.blocks
    (λ b r same.
    c.has.ensures.value
    ∙ ap (λ ts. has_type ts c.args.ty.0) (c.types.ensures.value ∙ ap (λ (s : BlockState). s.types) same)
    ∙ find_has c.args.registry.now c.args.place.row b r c.args.ty.0)
    c.requires c.block.ensures
