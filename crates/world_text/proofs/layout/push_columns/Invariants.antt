use Rattle.std.proofs.Common.{ℕ, ◌≡◌, ◌+◌, ◌++◌, drop, length, zip}
use Rattle.std.specs.List.{flat_map}
use Rattle.world_model.specs.Fits.{IsKnown}
use Rattle.world_model.specs.Members.{In}
use Rattle.world_text.specs.Layout.{column_text}
use Rattle.world_text.proofs.layout.push_columns.Given as goal

-- the types so far, and those that are left
abbrev pub invariant-loop-ty : goal.invariant-loop-ty
invariant-loop-ty l = record {
  text : l.line.items ++ flat_map (column_text l.registry) (zip l.ty-iterator (drop l.at l.places)) ≡ l.fn.line.items ++ flat_map (column_text l.registry) (zip l.types l.places);
  known : (t : ℕ) → In t l.ty-iterator → IsKnown l.registry t;
  count : l.at + length l.ty-iterator ≡ length l.places;
}
