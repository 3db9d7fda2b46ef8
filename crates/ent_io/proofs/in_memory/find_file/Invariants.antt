use Rattle.std.proofs.Common.{◌≡◌, drop}
use Rattle.ent_io.specs.Memory.{file_in, named_files}
use Rattle.ent_io.proofs.in_memory.find_file.Given as goal

-- what is left has the file that all of them have
abbrev pub invariant-loop-key : goal.invariant-loop-key
invariant-loop-key l = file_in (named_files (drop l.key-index l.files)) l.name ≡ file_in (named_files l.files) l.name
