-- Equality and hash of keys.
use Rattle.std.specs.Prelude.{ℕ, List, Bool, ◌&&◌, ◌++◌, nat_eq}
use Rattle.std.specs.Cmp.Lexicographic.{pointwise}
use Rattle.std.specs.Hash as fed
use Rattle.ent_types.specs.contracts.value.ValuePartialEq.TheImpl as value_eq
use Rattle.ent_types.specs.contracts.value.ValueHash.TheImpl as value_hash
use Rattle.shared_values.specs.declared.key.Key.{Key}

-- true if two keys have the same type and equal values
abbrev pub same_key : Key → Key → Bool
same_key a b = nat_eq a.ty.0 b.ty.0 && pointwise value_eq.ghosts.eq a.values b.values

-- the writes that hash a key
abbrev pub key_writes : Key → List (List ℕ)
key_writes k = fed.u16 k.ty.0 ++ fed.slice value_hash.ghosts.hash_input k.values
