-- What a store means: a function from names to files.
use Rattle.std.specs.Prelude.{ℕ, List, Option, None, Some}

-- the bytes of each file, and none where there is no file of that name
abbrev pub Files : Type 0
Files = List ℕ → Option (List ℕ)

-- what is told of one name: nothing, that there is no such file, or its bytes
abbrev pub told_file : Option Files → List ℕ → Option (Option (List ℕ))
told_file None name = None
told_file (Some files) name = Some (files name)
