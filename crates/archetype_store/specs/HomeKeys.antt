-- Equality and hash of the keys of homes. Keys that are found equal are the same.
use Rattle.std.specs.Prelude.{◌≡◌, ℕ, List, Bool, ◌&&◌, ◌++◌, nat_eq}
use Rattle.std.specs.Bool.{Decides}
use Rattle.std.specs.Cmp.{IsEquivalence, decided, unsigned_Decides}
use Rattle.std.specs.Cmp.Lexicographic.{pointwise}
use Rattle.std.specs.Hash.{Alike, same_Alike}
use Rattle.std.specs.Hash as fed
use Rattle.std.proofs.Common.{ap, ap₂, refl}
use Rattle.std.proofs.lemmas.Bool.Decides.{Decides-and}
use Rattle.std.proofs.lemmas.Slice.Eq.{slice_eq-Decides}
use Rattle.shared_values.specs.contracts.table.SharedIdPartialEq.TheImpl as id_eq
use Rattle.shared_values.specs.contracts.table.SharedIdHash.TheImpl as id_hash
use Rattle.archetype_store.specs.declared.homes.HomeKey.{HomeKey}

-- true if two keys have the same archetype and ids
abbrev pub same_home : HomeKey → HomeKey → Bool
same_home a b = nat_eq a.archetype b.archetype && pointwise id_eq.ghosts.eq a.ids b.ids

-- the writes that hash a key
abbrev pub home_writes : HomeKey → List (List ℕ)
home_writes k = fed.u32 k.archetype ++ fed.slice id_hash.ghosts.hash_input k.ids

pub home_from : (a b : HomeKey) → (a.archetype ≡ b.archetype) × (a.ids ≡ b.ids) → a ≡ b
home_from a b same = ap₂ (λ (n : ℕ) (is : List ℕ). let k : HomeKey = record { archetype = n; ids = is } in k) same.0 same.1

pub home_decides : (a b : HomeKey) → Decides (same_home a b) (a ≡ b)
home_decides a b =
    let both : Decides (same_home a b) ((a.archetype ≡ b.archetype) × (a.ids ≡ b.ids)) =
    Decides-and _ _ (unsigned_Decides a.archetype b.archetype) (slice_eq-Decides unsigned_Decides a.ids b.ids _ refl) in
    (λ h. home_from a b (both.0 h), λ e. both.1 (ap (λ (k : HomeKey). k.archetype) e, ap (λ (k : HomeKey). k.ids) e))

pub same_home_equiv : IsEquivalence same_home
same_home_equiv = decided same_home home_decides

pub home_writes_alike : Alike same_home home_writes
home_writes_alike = same_Alike home_writes home_decides
