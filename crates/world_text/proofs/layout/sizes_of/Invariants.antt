use Rattle.std.proofs.Common.{◌≡◌, ◌+◌, ◌≤◌, ◌++◌, length, map, All}
use Rattle.ent_types.specs.TypeLookups.{column_size_at}
use Rattle.world_text.proofs.layout.sizes_of.Given as goal

-- the sizes so far, each at most 512, and those of the types that are left
abbrev pub invariant-loop-ty : goal.invariant-loop-ty
invariant-loop-ty l = record {
  sizes : l.sizes.items ++ map (column_size_at l.registry) l.ty-iterator ≡ map (column_size_at l.registry) l.types;
  small : All (λ size. size ≤ 512) l.sizes.items;
  few : length l.sizes.items + length l.ty-iterator ≤ 256;
}
