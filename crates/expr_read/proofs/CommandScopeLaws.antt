-- The scope of a real place has what the theory of commands asks of it.
use Rattle.std.proofs.Common.{ℕ, zero, suc, ◌≡◌, ◌+◌, ◌<◌, ◌^◌, List, [], ◌∷◌, Bool, true, false, not, ◌&&◌, Some, length, refl, ap, ◌∙◌, arith, inl, inr}
use Rattle.std.proofs.lemmas.Bool.{and_parts, and_from, or_cases, or_left, or_right, ltb-true, not-true, not_from_false, false≢true}
use Rattle.ent_types.specs.declared.entity.TypeId.{TypeId}
use Rattle.ent_types.specs.declared.type_info.TypeInfo.{TypeInfo}
use Rattle.ent_types.specs.Registries.{type_at, type_id_named, IsLawfulRegistry}
use Rattle.expr_read.specs.declared.scope.TextPlace.{TextPlace}
use Rattle.expr_read.specs.declared.scope.Made.{Made}
use Rattle.expr_grammar.specs.declared.words.TypeUse.{TypeUse}
use Rattle.expr_grammar.specs.CommandScopes.{ServesCommands}
use Rattle.expr_read.specs.ScopeOf.{some_type_from, allows_of, is_listed, has_type_left, scope_of}
use Rattle.expr_read.proofs.NewNames.{new_name}
use Rattle.expr_read.proofs.ScopeLaws.{found}

module _ (passes : TypeId → Bool) where
  one_of : (n : ℕ) (types : List TypeInfo) → some_type_from passes n types ≡ true → (ty : TypeId) × (passes ty ≡ true)
  one_of n [] some = absurd (false≢true some)
  one_of n (t ∷ ts) some =
      elim (or_cases _ _ some) [ inl here ↦ (record { 0 = n }, here) | inr later ↦ one_of (n + 1) ts later ]

  some_at : (types : List TypeInfo) (n k : ℕ) (ty : TypeId) → k < length types → ty.0 ≡ n + k → passes ty ≡ true → some_type_from passes n types ≡ true
  some_at [] n k ty within at here = absurd (omega arith)
  some_at (t ∷ ts) n zero ty within at here =
      let first : n ≡ ty.0 = omega arith in
      or_left _ _ (ap (λ (m : ℕ). passes (record { 0 = m })) first ∙ here)
  some_at (t ∷ ts) n (suc k) ty within at here =
      or_right _ _ (some_at ts (n + 1) k ty (omega arith) (omega arith) here)

module _ (types : List TypeInfo) (lawful : IsLawfulRegistry types) (place : TextPlace) (bound : List ℕ) (made : List Made) where
  known : (role : TypeUse) (ty : TypeId) → allows_of types place bound role ty ≡ true → ty.0 < length types
  known role ty allowed = ltb-true _ _ (and_parts _ _ allowed).0

  type_there : (role : TypeUse) (used : List TypeId) → has_type_left types place bound role used ≡ true
      → (t : List ℕ) × (ty : TypeId) × (type_id_named types t ≡ Some ty) × (allows_of types place bound role ty ≡ true) × (is_listed used ty ≡ false)
  type_there role used some =
      let (ty, passes) = one_of (λ ty. allows_of types place bound role ty && not (is_listed used ty)) 0 types some in
      let (allowed, unlisted) = and_parts _ _ passes in
      ((type_at types ty.0).name, ty, found types lawful place bound made ty.0 (known role ty allowed), allowed, not-true _ unlisted)

  type_known : (role : TypeUse) (used : List TypeId) (t : List ℕ) (ty : TypeId)
      → type_id_named types t ≡ Some ty → allows_of types place bound role ty ≡ true → is_listed used ty ≡ false → has_type_left types place bound role used ≡ true
  type_known role used t ty named allowed unlisted =
      some_at (λ u. allows_of types place bound role u && not (is_listed used u)) types 0 ty.0 ty (known role ty allowed) (omega arith)
      (and_from _ _ allowed (not_from_false _ unlisted))

  pub scope_serves_commands : length made < 2 ^ 64 → ServesCommands (scope_of types place bound made)
  scope_serves_commands few = record { type_there = type_there; type_known = type_known; holds_none = λ ty. refl; holds_more = λ u used ty. refl; new_there = new_name made few }
