use Rattle.std.proofs.Common.{◌≡◌, ◌*◌, ◌/◌, ◌≤◌, length, sym, subst}
use Rattle.ent_types.specs.declared.limits.TheConstants.{MOST_ELEMENTS}
use Rattle.chunk_block.proofs.New.{width_at}
use Rattle.world_rows.proofs.Buffers.{few_elements, whole_elements}
use Rattle.structural_ops.proofs.buffers.elements_of.Goals as goal

pub from_slice-requires-clause-some : goal.from_slice-requires-clause-some
from_slice-requires-clause-some c =
    subst (λ fs. 1 ≤ length fs) (sym c.fields.ensures.value) (width_at c.args.registry.now c.types.ensures.lawful c.args.ty.0 c.requires.buffer).0

pub from_slice-requires-clause-narrow : goal.from_slice-requires-clause-narrow
from_slice-requires-clause-narrow c =
    subst (λ fs. length fs ≤ 8) (sym c.fields.ensures.value) (width_at c.args.registry.now c.types.ensures.lawful c.args.ty.0 c.requires.buffer).1

pub from_slice-requires-clause-few : goal.from_slice-requires-clause-few
from_slice-requires-clause-few c =
    subst (λ fs. length c.args.values.now / length fs ≤ MOST_ELEMENTS) (sym c.fields.ensures.value)
    (few_elements c.args.registry.now c.args.ty.0 c.args.values.now c.requires.buffer c.requires.fit (width_at c.args.registry.now c.types.ensures.lawful c.args.ty.0 c.requires.buffer).0)

pub from_slice-requires-clause-whole : goal.from_slice-requires-clause-whole
from_slice-requires-clause-whole c =
    subst (λ fs. length c.args.values.now ≡ (length c.args.values.now / length fs) * length fs) (sym c.fields.ensures.value)
    (whole_elements c.args.registry.now c.args.ty.0 c.args.values.now c.requires.buffer c.requires.fit (width_at c.args.registry.now c.types.ensures.lawful c.args.ty.0 c.requires.buffer).0)
