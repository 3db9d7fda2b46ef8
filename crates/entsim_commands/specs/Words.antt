-- The words after the program's name, and what each list of them asks for.
use Rattle.std.specs.Prelude.{ℕ, ◌+◌, ◌*◌, ◌-◌, ◌==◌, nat_le, Bool, true, false, not, ◌&&◌, ◌||◌, if◌then◌else◌, List, [], ◌∷◌, fold, codes, bytes_eq, Option, Some, None, is_some, option_map, option_and_then}
use Rattle.std.specs.Str.{all_ascii_digits}
use Rattle.ent_types.specs.declared.limits.TheConstants.{MOST_WORKERS}
use Rattle.entsim_commands.specs.declared.words.options.Options.{Options}
use Rattle.entsim_commands.specs.declared.words.Command.{Command as Borrowed}
use Rattle.entsim_commands.specs.declared.words.Command.TheVariants.{Run, Check, Layout, Plan, Dump, Make, Bench}

-- what the program is asked to do
pub data Command : Type 0 where
  run : (file : List ℕ) (workers : Option ℕ) (trace : Bool) → Command
  check : (file : List ℕ) → Command
  layout : (file : List ℕ) → Command
  plan : (file : List ℕ) → Command
  dump : (scenario scene : List ℕ) → Command
  make : (number : ℕ) (scene : Option ℕ) → Command
  bench : (number : ℕ) (workers : Option ℕ) → Command

-- FILE: a word that isn't empty and doesn't begin with a dash
abbrev pub file_of : List ℕ → Option (List ℕ)
file_of [] = None
file_of (byte ∷ bytes) = if byte == 45 then None else Some (byte ∷ bytes)

-- decimal digits without a leading zero, except `0` itself
abbrev pub is_numeral : List ℕ → Bool
is_numeral [] = false
is_numeral (digit ∷ []) = all_ascii_digits (digit ∷ [])
is_numeral (digit ∷ next ∷ digits) = not (digit == 48) && all_ascii_digits (digit ∷ next ∷ digits)

-- the number that decimal digits spell
abbrev pub numeral_value : List ℕ → ℕ
numeral_value digits = fold (λ n digit. 10 * n + (digit - 48)) 0 digits

-- NUMBER: such digits of a number of at most 18446744073709551615
abbrev pub number_of : List ℕ → Option ℕ
number_of word =
    if is_numeral word && nat_le (numeral_value word) 18446744073709551615 then Some (numeral_value word)
    else None

-- N and K: a number from `low` to `high`
abbrev pub number_between : ℕ → ℕ → List ℕ → Option ℕ
number_between low high word =
    option_and_then (λ n. if nat_le low n && nat_le n high then Some n else None) (number_of word)

abbrev pub no_options : Options
no_options = record { workers = None; trace = false; scene = None }

-- one option more, unless it was named before
abbrev pub with_workers : ℕ → Options → Option Options
with_workers n o = if is_some o.workers then None else Some (record o { workers = Some n })

abbrev pub with_trace : Options → Option Options
with_trace o = if o.trace then None else Some (record o { trace = true })

abbrev pub with_scene : ℕ → Options → Option Options
with_scene n o = if is_some o.scene then None else Some (record o { scene = Some n })

-- the options that the words name, each at most once; the value of `--workers` and `--scene` is the next word
abbrev pub options_of : List (List ℕ) → Option Options
options_of [] = Some no_options
options_of (word ∷ []) = if bytes_eq word (codes "--trace") then with_trace no_options else None
options_of (word ∷ value ∷ rest) =
    if bytes_eq word (codes "--trace") then option_and_then with_trace (options_of (value ∷ rest))
    else (if bytes_eq word (codes "--workers") then
    option_and_then (λ n. option_and_then (with_workers n) (options_of rest)) (number_between 1 MOST_WORKERS value)
    else (if bytes_eq word (codes "--scene") then
    option_and_then (λ n. option_and_then (with_scene n) (options_of rest)) (number_between 1 2 value)
    else None))

-- the words of a command after its name

-- `FILE`
abbrev pub lone_file : List (List ℕ) → Option (List ℕ)
lone_file (file ∷ []) = file_of file
lone_file _ = None

-- `FILE [--workers N] [--trace]`
abbrev pub run_of : List (List ℕ) → Option Command
run_of [] = None
run_of (file ∷ rest) =
    option_and_then (λ f.
    option_and_then (λ o. if is_some o.scene then None else Some (run f o.workers o.trace)) (options_of rest)) (file_of file)

-- `FILE FILE`
abbrev pub dump_of : List (List ℕ) → Option Command
dump_of (scenario ∷ scene ∷ []) = option_and_then (λ f. option_map (dump f) (file_of scene)) (file_of scenario)
dump_of _ = None

-- `NUMBER [--scene K]`
abbrev pub make_of : List (List ℕ) → Option Command
make_of [] = None
make_of (number ∷ rest) =
    option_and_then (λ n.
    option_and_then (λ o. if is_some o.workers || o.trace then None else Some (make n o.scene)) (options_of rest)) (number_of number)

-- `NUMBER [--workers N]`
abbrev pub bench_of : List (List ℕ) → Option Command
bench_of [] = None
bench_of (number ∷ rest) =
    option_and_then (λ n.
    option_and_then (λ o. if o.trace || is_some o.scene then None else Some (bench n o.workers)) (options_of rest)) (number_of number)

-- the command that the words ask for
abbrev pub command_of : List (List ℕ) → Option Command
command_of [] = None
command_of (name ∷ rest) =
    if bytes_eq name (codes "run") then run_of rest
    else (if bytes_eq name (codes "check") then option_map check (lone_file rest)
    else (if bytes_eq name (codes "layout") then option_map layout (lone_file rest)
    else (if bytes_eq name (codes "plan") then option_map plan (lone_file rest)
    else (if bytes_eq name (codes "dump") then dump_of rest
    else (if bytes_eq name (codes "make") then make_of rest
    else (if bytes_eq name (codes "bench") then bench_of rest
    else None))))))

-- the code's own command, with the bytes of its texts
abbrev pub command_view : Borrowed → Command
command_view (Run file workers trace) = run file.now workers trace
command_view (Check file) = check file.now
command_view (Layout file) = layout file.now
command_view (Plan file) = plan file.now
command_view (Dump scenario scene) = dump scenario.now scene.now
command_view (Make number scene) = make number scene
command_view (Bench number workers) = bench number workers
