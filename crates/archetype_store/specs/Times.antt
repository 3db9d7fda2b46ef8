-- How often a number is in a list.
use Rattle.std.specs.Prelude.{ℕ, nat_eq, List}
use Rattle.world_model.specs.Members.{tally}

abbrev pub times : ℕ → List ℕ → ℕ
times id ids = tally (nat_eq id) ids
