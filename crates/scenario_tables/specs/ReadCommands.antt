-- The tables of a system's commands: `buffer`, `when`, `key`, `do`.
use Rattle.std.specs.Prelude.{ℕ, pos, ◌+◌, Bool, if◌then◌else◌, List, [], ◌∷◌, ◌++◌, codes, Option, None, Some, Ok}
use Rattle.toml.specs.Data.{Data, Members}
use Rattle.ent_types.specs.declared.limits.TheConstants.{MOST_COMMANDS}
use Rattle.ent_types.specs.declared.point.Point.{Point}
use Rattle.ent_types.specs.declared.point.Point.TheVariants.{BeginInitialization, EndInitialization, BeginSimulation, EndSimulation, BeginPresentation}
use Rattle.ent_types.specs.declared.type_info.TypeInfo.{TypeInfo}
use Rattle.ent_types.specs.Types.{same_name}
use Rattle.expr_read.specs.declared.scope.Made.{Made}
use Rattle.expr_trees.specs.declared.tree.CommandText.{CommandText}
use Rattle.expr_trees.specs.declared.tree.Expr.TheVariants.{Number, Variable}
use Rattle.expr_trees.specs.declared.tree.Variable.TheVariants.{Chunk}
use Rattle.scenario_record.specs.declared.fault.Cause.TheVariants.{BadWord}
use Rattle.scenario_record.specs.declared.record.CommandEntry.{CommandEntry}
pub use Rattle.scenario_record.specs.Lawful.{name_made, point_place, same_point}
use Rattle.scenario_record.specs.Readings.{Reading, ◌>>=◌, or_fault}
use Rattle.scenario_tables.specs.ReadKeys.{known_table, required, optional, text, list_up_to, each_over}
use Rattle.scenario_tables.specs.ReadTexts.{system_expr, system_command}

-- ---- `buffer`

abbrev pub point_named : List ℕ → Option Point
point_named s =
    if same_name s (codes "BeginInitialization") then Some BeginInitialization
    else if same_name s (codes "EndInitialization") then Some EndInitialization
    else if same_name s (codes "BeginSimulation") then Some BeginSimulation
    else if same_name s (codes "EndSimulation") then Some EndSimulation
    else if same_name s (codes "BeginPresentation") then Some BeginPresentation
    else None

abbrev pub point : Data → Reading Point
point d = text d >>= λ s. or_fault BadWord (point_named s)

-- ---- the names that earlier commands make

abbrev pub with_made : ℕ → Bool → Option (List ℕ) → List Made → List Made
with_made number same None made = made
with_made number same (Some n) made = record { name = n; number = number; same_buffer = same } ∷ made

-- what the commands make, where the first has this number, as a command into the buffer sees it
abbrev pub made_from : ℕ → Point → List CommandEntry → List Made
made_from i buffer [] = []
made_from i buffer (c ∷ cs) = with_made i (same_point c.buffer buffer) (name_made c.act) (made_from (i + 1) buffer cs)

-- ---- the table

-- the act of a command into this buffer
abbrev pub command_act : List TypeInfo → List ℕ → List CommandEntry → Point → Members → Reading CommandText
command_act registry bound earlier buffer ms =
    required (codes "do") (system_command registry bound (made_from 0 buffer earlier)) ms

abbrev pub command_keys : List TypeInfo → List ℕ → List CommandEntry → Members → Reading CommandEntry
command_keys registry bound earlier ms =
    optional (codes "buffer") EndSimulation point ms >>= λ buffer.
    optional (codes "when") (Number (pos 1)) (system_expr registry bound) ms >>= λ when.
    optional (codes "key") (Variable Chunk) (system_expr registry bound) ms >>= λ key.
    command_act registry bound earlier buffer ms >>= λ act.
    Ok (record { buffer = buffer; when = when; key = key; act = act })

unfoldable pub command : List TypeInfo → List ℕ → List CommandEntry → Data → Reading CommandEntry
command registry bound earlier d =
    known_table (codes "buffer" ∷ codes "when" ∷ codes "key" ∷ codes "do" ∷ []) d >>= λ ms.
    command_keys registry bound earlier ms

-- ---- the list

-- the commands with those before them
abbrev pub one_more_command : List TypeInfo → List ℕ → List CommandEntry → Data → Reading (List CommandEntry)
one_more_command registry bound earlier d = command registry bound earlier d >>= λ c. Ok (earlier ++ c ∷ [])

abbrev pub command_list : List TypeInfo → List ℕ → Data → Reading (List CommandEntry)
command_list registry bound d = list_up_to MOST_COMMANDS d >>= each_over (one_more_command registry bound) [] 0
