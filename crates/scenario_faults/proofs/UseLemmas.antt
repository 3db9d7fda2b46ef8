-- The uses that a walk finds, and sets of types that grow by lists of types.
use Rattle.std.proofs.Common.{ℕ, ◌≡◌, List, [], ◌∷◌, ◌++◌, refl}
use Rattle.std.specs.List.{flat_map}
use Rattle.std.proofs.lemmas.List.Elements.{filter-append}
use Rattle.std.proofs.lemmas.List.Sums.{fold-append}
use Rattle.scenario_faults.specs.declared.uses.Touched.{Touched}
use Rattle.scenario_record.specs.Uses.{Use, own_number, own_ref, looked_up, has_type, on_type, made, read_types}
use Rattle.scenario_faults.specs.Found.{looked_up_types, tested_types, put_type, with_types, nothing, with_use, with_uses}

pub types-append : (set xs ys : List ℕ) → with_types set (xs ++ ys) ≡ with_types (with_types set xs) ys
types-append set xs ys = fold-append put_type set xs ys

pub uses-append : (t : Touched) (us vs : List Use) → with_uses t (us ++ vs) ≡ with_uses (with_uses t us) vs
uses-append t us vs = fold-append with_use t us vs

-- what a walk has found in each set
found_of : (t : Touched) (us : List Use) → with_uses t us ≡ record {
  read = with_types t.read (flat_map read_types us);
  looked_up = with_types t.looked_up (flat_map looked_up_types us);
  tested = with_types t.tested (flat_map tested_types us);
}
found_of t [] = refl
found_of t (own_number ty i ∷ us) = found_of (with_use t (own_number ty i)) us
found_of t (own_ref ty i ∷ us) = found_of (with_use t (own_ref ty i)) us
found_of t (looked_up ty i ∷ us) = found_of (with_use t (looked_up ty i)) us
found_of t (has_type ty ∷ us) = found_of (with_use t (has_type ty)) us
found_of t (on_type ty ∷ us) = found_of (with_use t (on_type ty)) us
found_of t (made k ∷ us) = found_of (with_use t (made k)) us

pub found-read : (us : List Use) → (with_uses nothing us).read ≡ with_types [] (flat_map read_types us)
found-read us = rw (found_of nothing us) refl

pub found-looked_up : (us : List Use) → (with_uses nothing us).looked_up ≡ with_types [] (flat_map looked_up_types us)
found-looked_up us = rw (found_of nothing us) refl

pub found-tested : (us : List Use) → (with_uses nothing us).tested ≡ with_types [] (flat_map tested_types us)
found-tested us = rw (found_of nothing us) refl

pub ruleset walks = (types-append, uses-append)

pub ruleset names = (filter-append, types-append)

pub ruleset reads = (found-read, types-append)

pub ruleset looks = (found-looked_up)
