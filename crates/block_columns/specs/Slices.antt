-- A column as a slice of its own type.
use Rattle.std.specs.Prelude.{List, map}
use Rattle.ent_types.specs.declared.value.Value.{Value}
use Rattle.ent_types.specs.declared.value.Value.TheVariants.{Int, Ref}
use Rattle.block_columns.specs.declared.column.ColumnSlice.{ColumnSlice}
use Rattle.block_columns.specs.declared.column.ColumnSlice.TheVariants.{I32, I64, Refs}

-- the rows' values
abbrev pub slice_values : ColumnSlice → List Value
slice_values (I32 s) = map (λ z. Int z) s.now
slice_values (I64 s) = map (λ z. Int z) s.now
slice_values (Refs s) = map (λ e. Ref e) s.now
