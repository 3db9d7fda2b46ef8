-- Rows of the types of a spawn fit into a block, in whatever order the types stand.
use Rattle.std.proofs.Common.{ℕ, ◌≡◌, ◌≤◌, ◌+◌, List, [], ◌∷◌, Bool, true, false, cond, map, sum_by, None, refl, sym, ap, ◌∙◌, subst, arith}
use Rattle.std.specs.Prelude.{nat_lt, nat_eq, ◌==◌}
use Rattle.std.proofs.lemmas.Bool.{ne_eqb, eqb-false}
use Rattle.std.proofs.lemmas.List.Sums.{sum_by-cons}
use Rattle.chunk_layout.specs.Capacity.{column_bytes, Fits, capacity_of}
use Rattle.chunk_layout.proofs.CapacityLemmas.{capacity_of-le}
use Rattle.ent_types.specs.declared.type_info.TypeInfo.{TypeInfo}
use Rattle.ent_types.specs.Registries.{type_at}
use Rattle.ent_types.specs.Types.{column_size}
use Rattle.ent_types.specs.TypeSets.{with_type}
use Rattle.expr_trees.specs.declared.tree.PartExpr.{PartExpr}
use Rattle.scenario_record.specs.declared.fault.Cause.TheVariants.{TooLarge}
use Rattle.scenario_record.specs.declared.record.SpawnEntry.{SpawnEntry}
use Rattle.scenario_faults.specs.Checks.{sizes_of, spawn_fault}
use Rattle.world_model.specs.Part.{part_type, by_type}
use Rattle.world_model.specs.World.{capacity}
use Rattle.world_laws.proofs.Types.{typed_types}
use Rattle.run_laws.specs.Runnable.{as_part, types_of_parts}
use Rattle.scenario_laws.proofs.Faults.{not_faulty}

sum_mapped : {A : Type 0} (f : ℕ → ℕ) (g : A → ℕ) (xs : List A) → sum_by f (map g xs) ≡ sum_by (λ x. f (g x)) xs
sum_mapped f g [] = refl
sum_mapped f g (x ∷ xs) = sum_by-cons f (g x) (map g xs) ∙ (ap (λ n. f (g x) + n) (sum_mapped f g xs) ∙ sym (sum_by-cons (λ y. f (g y)) x xs))

module _ (size : ℕ → ℕ) where
  -- a type more adds its size at most
  sum_with : (t : ℕ) (ts : List ℕ) → sum_by size (with_type ts t) ≤ size t + sum_by size ts
  sum_with t [] = omega (arith, sum_by-cons size t [])
  sum_with t (s ∷ ts) = by (nat_lt t s) (s == t) (sum_with t ts)
    where
      by : (less same : Bool) → sum_by size (with_type ts t) ≤ size t + sum_by size ts
          → sum_by size (cond less (t ∷ s ∷ ts) (cond same (s ∷ ts) (s ∷ with_type ts t))) ≤ size t + sum_by size (s ∷ ts)
      by true same rest = omega (arith, sum_by-cons size t (s ∷ ts))
      by false true rest = omega arith
      by false false rest = omega (arith, rest, sum_by-cons size s (with_type ts t), sum_by-cons size s ts)

  sum_parts : (parts : List PartExpr) → sum_by size (types_of_parts parts) ≤ sum_by (λ (p : PartExpr). size p.ty.0) parts
  sum_parts [] = omega arith
  sum_parts (p ∷ ps) =
      subst (λ ts. sum_by size ts ≤ sum_by (λ (q : PartExpr). size q.ty.0) (p ∷ ps)) (sym (typed_types part_type (as_part p) (by_type (map as_part ps))))
      (omega (arith, sum_with p.ty.0 (types_of_parts ps), sum_parts ps, sum_by-cons (λ (q : PartExpr). size q.ty.0) p ps))

module _ (registry : List TypeInfo) where
  abbrev size_of : ℕ → ℕ
  size_of t = column_size (type_at registry t)

  fits_by_type : (parts : List PartExpr) (n : ℕ) → Fits (map (λ (p : PartExpr). size_of p.ty.0) parts) n → Fits (map size_of (types_of_parts parts)) n
  fits_by_type parts n fits =
      omega (
        arith,
        fits,
        sum_parts (λ t. column_bytes n (size_of t)) parts,
        sum_mapped (column_bytes n) (λ (p : PartExpr). size_of p.ty.0) parts,
        sum_mapped (column_bytes n) size_of (types_of_parts parts),
      )

  pub has_room : (p : SpawnEntry) → spawn_fault registry p ≡ None → nat_eq (capacity registry (types_of_parts p.parts)) 0 ≡ false
  has_room p clear =
      ne_eqb (capacity registry (types_of_parts p.parts)) 0
      (λ none. eqb-false (capacity_of (sizes_of registry p)) 0 (not_faulty (capacity_of (sizes_of registry p) == 0) TooLarge clear)
      (omega (arith, none, capacity_of-le (map size_of (types_of_parts p.parts)) (sizes_of registry p) (λ n few fits. fits_by_type p.parts n fits))))
