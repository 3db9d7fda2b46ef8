-- A system without that fault looks up no type that it writes.
use Rattle.std.proofs.Common.{ℕ, ◌≡◌, ◌<◌, List, [], ◌∷◌, ◌++◌, Bool, true, false, ◌||◌, cond, map, None, eqb, inl, refl, sym, ap, ◌∙◌, arith}
use Rattle.std.specs.Prelude.{nat_lt}
use Rattle.std.proofs.lemmas.Bool.{both_ways, ltb-false, ne_eqb}
use Rattle.ent_types.specs.declared.limits.TheConstants.{MOST_TYPES}
use Rattle.ent_types.specs.TypeSets.{has_type, with_type, meets}
use Rattle.ent_types.proofs.TypeSetLemmas.{has_type-with_type}
use Rattle.expr_trees.specs.declared.tree.Assign.{Assign}
use Rattle.expr_trees.specs.declared.tree.Switch.{Switch}
use Rattle.scenario_record.specs.declared.fault.Cause.TheVariants.{LookupOfWritten}
use Rattle.scenario_record.specs.declared.record.SystemEntry.{SystemEntry}
use Rattle.scenario_record.specs.Uses.{looked_up, uses_of}
use Rattle.scenario_faults.specs.Found.{put_type, with_types, set_of, looked_up_types}
use Rattle.scenario_faults.specs.Touched.{written, looked_up_by}
use Rattle.scenario_faults.specs.Checks.{lookup_fault}
use Rattle.world_laws.proofs.Types.{has_in}
use Rattle.run_model.specs.Job.{Assigns, Switches, written_type, writes}
use Rattle.run_laws.proofs.Lists.{in_has}
use Rattle.scenario_laws.proofs.Faults.{not_faulty}
use Rattle.scenario_laws.proofs.Members.{fails, in_flattened}
use Rattle.scenario_laws.proofs.TextReads.{Looks}

-- ---- sets of types

has_put : (set : List ℕ) (u t : ℕ) → t < MOST_TYPES → has_type (put_type set u) t ≡ (eqb u t || has_type set t)
has_put set u t few = by (nat_lt u MOST_TYPES) refl
  where
    by : (b : Bool) → nat_lt u MOST_TYPES ≡ b → has_type (cond b (with_type set u) set) t ≡ (eqb u t || has_type set t)
    by true within = has_type-with_type set u t
    by false past = ap (λ (b : Bool). b || has_type set t) (sym (ne_eqb u t (λ e. omega (arith, few, e, ltb-false u MOST_TYPES past))))

-- a set that takes in the types of a list has them, and those that it had
has_types : (set ts : List ℕ) (t : ℕ) → t < MOST_TYPES → (has_type set t || has_type ts t) ≡ true → has_type (with_types set ts) t ≡ true
has_types set [] t few has = or_none (has_type set t) has
  where
    or_none : (b : Bool) → (b || false) ≡ true → b ≡ true
    or_none true is = refl
    or_none false is = is
has_types set (u ∷ us) t few has =
    has_types (put_type set u) us t few
    (ap (λ (b : Bool). b || has_type us t) (has_put set u t few) ∙ regrouped (has_type set t) (eqb u t) (has_type us t) has)
  where
    regrouped : (a b c : Bool) → (a || (b || c)) ≡ true → ((b || a) || c) ≡ true
    regrouped true true c is = refl
    regrouped true false c is = refl
    regrouped false true c is = refl
    regrouped false false c is = is

has_set : (ts : List ℕ) (t : ℕ) → t < MOST_TYPES → has_type ts t ≡ true → has_type (set_of ts) t ≡ true
has_set ts t few has = has_types [] ts t few has

-- ---- what a system writes

written_by_texts : (xs : List Assign) (ws : List Switch)
    → map written_type (map Assigns xs ++ map Switches ws) ≡ map (λ (a : Assign). a.ty.0) xs ++ map (λ (w : Switch). w.ty.0) ws
written_by_texts [] [] = refl
written_by_texts [] (w ∷ ws) = ap (λ ts. w.ty.0 ∷ ts) (written_by_texts [] ws)
written_by_texts (a ∷ xs) ws = ap (λ ts. a.ty.0 ∷ ts) (written_by_texts xs ws)

pub writes_are : (y : SystemEntry) → writes y ≡ written y
writes_are y = written_by_texts y.set y.enable

-- ---- what it looks up

-- the type isn't written, if it is one at all
abbrev pub IsUnwritten : SystemEntry → ℕ → Type 0
IsUnwritten y t = t < MOST_TYPES → has_type (writes y) t ≡ false

sets_apart : (y : SystemEntry) → lookup_fault y ≡ None → meets (set_of (looked_up_by y)) (set_of (written y)) ≡ false
unfolding lookup_fault
sets_apart y clear = not_faulty (meets (set_of (looked_up_by y)) (set_of (written y))) LookupOfWritten clear

pub looks_clear : (y : SystemEntry) → lookup_fault y ≡ None → Looks (IsUnwritten y) (uses_of y)
looks_clear y clear t i used few = ap (λ ts. has_type ts t) (writes_are y) ∙ by (has_type (written y) t) refl
  where
    looked : has_type (set_of (looked_up_by y)) t ≡ true
    looked = has_set (looked_up_by y) t few (in_has t (looked_up_by y) (in_flattened looked_up_types t (looked_up t i) (uses_of y) used (inl refl)))

    apart : has_type (set_of (written y)) t ≡ false
    apart = fails (has_type (set_of (written y))) t (set_of (looked_up_by y)) (sets_apart y clear) (has_in t (set_of (looked_up_by y)) looked)

    by : (b : Bool) → has_type (written y) t ≡ b → b ≡ false
    by true is = absurd (both_ways _ apart (has_set (written y) t few is))
    by false is = refl
