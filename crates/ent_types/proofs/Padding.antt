-- A name that is copied over the front of 32 zeros.
use Rattle.std.proofs.Common.{ℕ, ◌≡◌, ◌+◌, ◌-◌, ◌≤◌, ◌<◌, List, [], ◌∷◌, ◌++◌, length, replicate, take, drop, IsTrue, Bool, true, false, ◌&&◌, nat_lt, nat_le, refl, arith, sym, subst, rules, ap, ◌∙◌, length-append, length-drop}
use Rattle.std.proofs.lemmas.Bool.{lt-ltb, le-leb, leb-true, and_parts}
use Rattle.std.proofs.Math.Seq.{take-append_seam, drop-append_seam}
use Rattle.std.proofs.lemmas.List.{drop-replicate}
use Rattle.ent_types.specs.Names.{is_name}
use Rattle.ent_types.specs.PaddedNames.{IsPadded}

-- the length of a name is in range
pub name_length : (name : List ℕ) → is_name name ≡ true → length name ≤ 32
name_length name is =
    leb-true (length name) 32 (and_parts _ _ ((and_parts _ _ is).0)).1

-- the tests of a name that lies within the lengths are those of its bytes
pub within_lengths : (bytes : List ℕ) (b : Bool) → 0 < length bytes → length bytes ≤ 32
    → (nat_lt 0 (length bytes) && nat_le (length bytes) 32) && b ≡ b
within_lengths bytes b some most = rw (lt-ltb 0 (length bytes) some, le-leb (length bytes) 32 most) refl

pub front_padded : (front name : List ℕ) → front ≡ name → true ≡ is_name name
    → IsPadded (front ++ drop (length name) (replicate 32 0)) (length name)
front_padded front name same is =
    let short : length name ≤ 32 = name_length name (sym is) in
    let rest : List ℕ = drop (length name) (replicate 32 0) in
    let rest_length : length rest ≡ 32 - length name = length-drop (length name) (replicate 32 0) in
    rw same
    (record {
      name = rw (take-append_seam name rest) (sym is);
      size = omega (arith, length-append name rest);
      within = short;
      zeros = drop-append_seam name rest ∙ drop-replicate (length name) 32 0;
    })
