-- How a name's bytes lie in an array of 32: the name, then zeros.
use Rattle.std.specs.Prelude.{ℕ, ◌≡◌, ◌-◌, ◌≤◌, List, [], ◌∷◌, ◌++◌, length, replicate, take, drop, IsTrue, refl}
use Rattle.std.proofs.Common.{arith, length-take, ap, sym, ◌∙◌, min}
use Rattle.std.proofs.lemmas.List.{take-append-drop}
use Rattle.ent_types.specs.declared.limits.TheConstants.{LONGEST_NAME}
use Rattle.ent_types.specs.Names.{is_name}

pub record IsPadded (bytes : List ℕ) (len : ℕ) : Type 0 where
  pub name : IsTrue (is_name (take len bytes))
  pub size : length bytes ≡ LONGEST_NAME
  pub within : len ≤ LONGEST_NAME
  pub zeros : drop len bytes ≡ replicate (LONGEST_NAME - len) 0

-- the name's length is that of its bytes
pub padded_length : (bytes : List ℕ) (len : ℕ) → IsPadded bytes len → length (take len bytes) ≡ len
padded_length bytes len h = omega (arith, length-take len bytes)

-- the array is the name followed by zeros
pub padded_bytes : (bytes : List ℕ) (len : ℕ) → IsPadded bytes len
    → take len bytes ++ replicate (LONGEST_NAME - length (take len bytes)) 0 ≡ bytes
padded_bytes bytes len h =
    rw (padded_length bytes len h, ← h.zeros) (take-append-drop len bytes)
