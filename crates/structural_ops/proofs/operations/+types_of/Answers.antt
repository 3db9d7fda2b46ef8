use Rattle.std.proofs.Common.{ℕ, inl, inr, refl, ap, sym, subst, map, List, length, arith}
use Rattle.ent_types.specs.declared.value.Part.{Part}
use Rattle.world_model.specs.Members.{In}
use Rattle.world_model.specs.Part.{part_type, part_of as seen}
use Rattle.structural_ops.proofs.operations.+types_of.Goals as goal

abbrev types : List Part → List ℕ
types ps = map (λ (p : Part). part_type (seen p)) ps

pub types_of-requires : goal.types_of-requires
types_of-requires t c = (
  omega (arith, c.decreases, ap length c.in-Some.ensures.cases.0),
  λ u i. c.requires u (subst (λ ps. In u (types ps)) (sym c.in-Some.ensures.cases.0) (inr i)),
)

pub with-requires : goal.with-requires
with-requires t c = c.requires c.in-Some.part.now.ty.0 (subst (λ ps. In c.in-Some.part.now.ty.0 (types ps)) (sym c.in-Some.ensures.cases.0) (inl refl))
