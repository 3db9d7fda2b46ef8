-- What a name is: 1 to 32 bytes, an ASCII letter or `_`, then letters, digits or `_`.
use Rattle.std.specs.Prelude.{ℕ, ◌≡◌, ◌-◌, ◌≤◌, List, [], ◌∷◌, ◌++◌, Bool, false, ◌||◌, ◌&&◌, ◌==◌, nat_lt, nat_le, slice_index_or, length, replicate, take, drop, IsTrue, Option, Some, None, if◌then◌else◌}
use Rattle.std.specs.List.{list_all}
use Rattle.std.specs.Char.{is_ascii_alphabetic, is_ascii_alphanumeric}
use Rattle.ent_types.specs.declared.limits.TheConstants.{LONGEST_NAME}

abbrev pub is_name_start : ℕ → Bool
is_name_start b = is_ascii_alphabetic b || b == 95

abbrev pub is_name_byte : ℕ → Bool
is_name_byte b = is_ascii_alphanumeric b || b == 95

abbrev pub is_name : List ℕ → Bool
is_name bytes = (nat_lt 0 (length bytes) && nat_le (length bytes) LONGEST_NAME) && (is_name_start (slice_index_or bytes 0 0) && list_all is_name_byte bytes)

-- the name with these bytes
abbrev pub name_of : List ℕ → Option (List ℕ)
name_of bytes = if is_name bytes then Some bytes else None
