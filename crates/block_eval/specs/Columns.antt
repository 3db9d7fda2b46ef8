-- Columns of numbers, one for each row of a block.
use Rattle.std.specs.Prelude.{ℕ, ℤ, ◌≡◌, ◌<◌, List, length}
use Rattle.ent_types.specs.declared.value.Value.{Value}
use Rattle.block_columns.specs.Columns.{value_at}
use Rattle.expr_trees.specs.declared.tree.BinaryOp.{BinaryOp}
use Rattle.expr_eval.specs.Values.{value_binary}

-- two numbers under an operator
unfoldable pub combined : BinaryOp → ℤ → ℤ → ℤ
combined op a b = value_binary op a b

-- a column of n values, each as `f` has it
pub record HoldsValues (column : List Value) (n : ℕ) (f : ℕ → Value) : Type 0 where
  pub size : length column ≡ n
  pub values : (k : ℕ) → k < n → value_at k column ≡ f k
