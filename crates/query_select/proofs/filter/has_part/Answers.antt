use Rattle.std.proofs.Common.{◌∙◌, ap₂}
use Rattle.std.specs.Cmp.Lexicographic.{pointwise}
use Rattle.std.specs.Option.{IsSome}
use Rattle.ent_types.specs.contracts.value.ValuePartialEq.TheImpl as value_eq
use Rattle.world_model.specs.Found.{part_at}
use Rattle.world_places.proofs.Numbers.{of_more}
use Rattle.query_select.specs.Filters.{CanCompare}
use Rattle.query_select.proofs.SharedParts.{part_same}
use Rattle.query_select.proofs.filter.has_part.Goals as goal

pub shared_of-requires : goal.shared_of-requires
shared_of-requires c =
    of_more c.args.number (CanCompare c.args.part.now) (λ b. IsSome (part_at c.args.part.now.ty.0 b.shared)) c.args.store.now.blocks (λ b h. h.there) c.requires

pub returns : goal.returns
returns c =
    part_same c.args.number c.args.store.now.blocks c.args.part.now c.shared_of.result.now c.eq.result c.requires c.shared_of.ensures
    (c.eq.ensures ∙ ap₂ (pointwise value_eq.ghosts.eq) c.as_slice.ensures c.as_slice-2.ensures)
