use Rattle.std.proofs.Common.{◌≡◌, ◌≤◌, ◌++◌, map, All}
use Rattle.ent_types.specs.TypeLookups.{column_size_at}
use Rattle.chunk_block.proofs.make.capacity_of.Given as goal

-- the sizes so far, each at most 512, and those of the types that are left
abbrev pub invariant-loop-ty : goal.invariant-loop-ty
invariant-loop-ty l = (l.sizes.items ++ map (column_size_at l.registry) l.ty-iterator ≡ map (column_size_at l.registry) l.types) × All (λ size. size ≤ 512) l.sizes.items
