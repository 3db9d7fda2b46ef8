use Rattle.std.proofs.Common.{◌≡◌}
use Rattle.std.specs.List.{list_any}
use Rattle.system_version.specs.Versions.{is_later}
use Rattle.chunk_block.specs.Blocks.{mark_at}
use Rattle.query_select.proofs.filter.any_changed.Given as goal

-- the types that are left
abbrev pub invariant-loop-ty : goal.invariant-loop-ty
invariant-loop-ty l = list_any (λ t. is_later (mark_at t l.block.marks) l.last.0) l.ty-iterator ≡ list_any (λ t. is_later (mark_at t l.block.marks) l.last.0) l.types
