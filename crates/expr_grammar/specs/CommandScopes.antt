-- What the theory of commands needs of a scope in addition to `IsLawful`: if a type or a new name is expected, there is one.
use Rattle.std.specs.Prelude.{ℕ, ◌≡◌, List, [], ◌∷◌, true, false, ◌||◌, ◌==◌, Some}
use Rattle.ent_types.specs.declared.entity.TypeId.{TypeId}
use Rattle.expr_grammar.specs.declared.words.TypeUse.{TypeUse}
use Rattle.expr_grammar.specs.Scopes.{Scope}

pub record ServesCommands (s : Scope) : Type 0 where
  -- a type that is left has a name
  pub type_there : (role : TypeUse) (used : List TypeId) → s.has_type role used ≡ true
      → (t : List ℕ) × (ty : TypeId) × (s.find t ≡ Some ty) × (s.allows role ty ≡ true) × (s.holds used ty ≡ false)
  -- a type that may be named and isn't in the list is left
  pub type_known : (role : TypeUse) (used : List TypeId) (t : List ℕ) (ty : TypeId)
      → s.find t ≡ Some ty → s.allows role ty ≡ true → s.holds used ty ≡ false → s.has_type role used ≡ true
  -- a list holds its elements
  pub holds_none : (ty : TypeId) → s.holds [] ty ≡ false
  pub holds_more : (u : TypeId) (used : List TypeId) (ty : TypeId) → s.holds (u ∷ used) ty ≡ ((u.0 == ty.0) || s.holds used ty)
  -- some name can be made
  pub new_there : (name : List ℕ) × (s.is_new name ≡ true)
