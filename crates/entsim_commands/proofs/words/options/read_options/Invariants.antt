use Rattle.std.proofs.Common.{◌≡◌, map, string_bytes, length}
use Rattle.entsim_commands.specs.Words.{options_of}
use Rattle.entsim_commands.proofs.Merged.{completed}
use Rattle.entsim_commands.proofs.words.options.read_options.Given as goal

abbrev pub invariant-loop-word : goal.invariant-loop-word
invariant-loop-word l = completed l.options (map string_bytes l.left) ≡ options_of (map string_bytes l.words)

abbrev pub decreases-loop-word : goal.decreases-loop-word
decreases-loop-word l = length l.left
