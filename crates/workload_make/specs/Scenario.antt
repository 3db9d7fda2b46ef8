-- The generated scenario: a template, whose marks are replaced by three drawn numbers in decimal.
use Rattle.std.specs.Prelude.{ℕ, ◌+◌, ◌==◌, if◌then◌else◌, List, [], ◌∷◌}
use Rattle.std.specs.List.{flat_map}
use Rattle.std.specs.Fmt.{decimal}
use Rattle.workload_make.specs.Draws.{draw_in, state_after}
use Rattle.workload_make.specs.declared.scenario.Numbers.{Numbers}
use Rattle.workload_make.specs.declared.scenario.TheConstants.{TEMPLATE}

-- the numbers of a scenario, drawn one after another from the state that is its number
abbrev pub numbers_of : ℕ → Numbers
numbers_of number =
    let first = state_after number in
    let second = state_after first in
    let third = state_after second in
    record { width = 50 + draw_in first 50; speed = 1 + draw_in second 5; lives = 1 + draw_in third 40 }

-- the bytes for a byte of the template: a number for `@`, `$` and `~`, and the byte itself for any other
abbrev pub shown : Numbers → ℕ → List ℕ
shown numbers byte =
    if byte == 64 then decimal numbers.width
    else (if byte == 36 then decimal numbers.speed
    else (if byte == 126 then decimal numbers.lives
    else byte ∷ []))

-- a template with the numbers in place of its marks
unfoldable pub filled : Numbers → List ℕ → List ℕ
filled numbers template = flat_map (shown numbers) template

-- the bytes of the scenario with this number
abbrev pub scenario_text : ℕ → List ℕ
scenario_text number = filled (numbers_of number) TEMPLATE.now
