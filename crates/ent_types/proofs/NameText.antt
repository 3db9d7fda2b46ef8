-- A name is a text.
use Rattle.std.proofs.Common.{ℕ, ◌≡◌, ◌<◌, List, [], ◌∷◌, true, arith}
use Rattle.std.specs.List.{list_all}
use Rattle.std.specs.Str.{IsAscii, IsUtf8}
use Rattle.std.proofs.lemmas.Bool.{and_parts}
use Rattle.std.proofs.lemmas.Bool.Decides.{nat_tests}
use Rattle.std.proofs.lemmas.Str.{IsUtf8-from_ascii}
use Rattle.std.proofs.lemmas.Str.Ascii.{IsAscii-nil, IsAscii-cons}
use Rattle.ent_types.specs.Names.{is_name, is_name_byte}

below_128 : (b : ℕ) → is_name_byte b ≡ true → b < 128
below_128 b h = grind (arith, nat_tests)

are_ascii : (bytes : List ℕ) → list_all is_name_byte bytes ≡ true → IsAscii bytes
are_ascii [] h = IsAscii-nil
are_ascii (b ∷ bytes) h = let both = and_parts (is_name_byte b) (list_all is_name_byte bytes) h in IsAscii-cons b bytes (below_128 b both.0) (are_ascii bytes both.1)

-- the bytes of a name are UTF-8
pub IsUtf8-name : (bytes : List ℕ) → is_name bytes ≡ true → IsUtf8 bytes
IsUtf8-name bytes h = IsUtf8-from_ascii bytes (are_ascii bytes (and_parts _ _ (and_parts _ _ h).1).1)
