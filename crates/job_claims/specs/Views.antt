-- The views of seats, and how a step changes them.
use Rattle.std.specs.Prelude.{ℕ, ◌+◌, ◌-◌, true, false, ◌||◌, List, [], ◌∷◌, ◌++◌}
use Rattle.ent_types.specs.declared.limits.TheConstants.{MOST_WORKERS}
use Rattle.job_claims.specs.declared.seat.View.{View}

module _ {T : Type 0} where
  -- the first seat's view: all the weight, and nothing drawn
  abbrev pub opened : List T → View T
  opened pieces = record { pieces = pieces; mine = []; ends = 0; ended = false; weight = MOST_WORKERS }

  -- the view of a seat that was given up
  abbrev pub spent : View T
  spent = record { pieces = []; mine = []; ends = 0; ended = false; weight = 0 }

  -- what a seat keeps when another is split off
  abbrev pub after_split : View T → View T
  after_split v = record v { weight = v.weight - 1 }

  -- the seat that is split off: it has drawn nothing
  abbrev pub split_off : View T → View T
  split_off v = record v { mine = []; ends = 0; weight = 1 }

  -- number k was drawn
  abbrev pub with_drawn : View T → ℕ → View T
  with_drawn v k = record v { mine = v.mine ++ k ∷ [] }

  -- a draw found no piece left
  abbrev pub with_end : View T → View T
  with_end v = record v { ends = v.ends + 1; ended = true }

  -- a seat takes in another
  abbrev pub joined : View T → View T → View T
  joined v w = record v { mine = v.mine ++ w.mine; ends = v.ends + w.ends; ended = v.ended || w.ended; weight = v.weight + w.weight }
