-- What the names of a text mean in its scope.
use Rattle.std.specs.Prelude.{ℕ, ◌≡◌, List, Bool, true, Option, Some, codes}
use Rattle.ent_types.specs.declared.entity.TypeId.{TypeId}
use Rattle.expr_trees.specs.declared.tree.Variable.{Variable}
use Rattle.expr_trees.specs.declared.tree.RefExpr.{RefExpr}
use Rattle.expr_grammar.specs.declared.words.Call.{Call}
use Rattle.expr_grammar.specs.declared.words.Call.TheVariants.{Get, Has, On}
use Rattle.expr_trees.specs.declared.tree.RefExpr.TheVariants.{Null}
use Rattle.expr_grammar.specs.declared.words.FieldUse.{FieldUse}
use Rattle.expr_grammar.specs.declared.words.FieldUse.TheVariants.{Looked}
use Rattle.expr_grammar.specs.declared.words.TypeUse.TheVariants.{Asked, Own}
use Rattle.expr_grammar.specs.declared.words.TypeUse.{TypeUse}

pub record Scope : Type 0 where
  -- the variable of this name
  pub variable : List ℕ → Option Variable
  -- the call of this name that is allowed here
  pub call : List ℕ → Option Call
  -- the reference that a name alone is: `null`, `self`, or, where the first argument is true, a made name
  pub reference : Bool → List ℕ → Option RefExpr
  -- the known type of this name
  pub find : List ℕ → Option TypeId
  -- the place of the type's field of this name, where it may be named so
  pub field : FieldUse → TypeId → List ℕ → Option ℕ
  -- whether some field of the type may be named so
  pub has_field : FieldUse → TypeId → Bool
  -- whether the type may be named so
  pub allows : TypeUse → TypeId → Bool
  -- whether some type that isn't in the list may be named so
  pub has_type : TypeUse → List TypeId → Bool
  -- whether the type is in the list
  pub holds : List TypeId → TypeId → Bool
  -- for each field of the type, in order, whether it is a ref field
  pub refs : TypeId → List Bool
  -- whether the type's field at this place is a ref field
  pub is_ref : TypeId → ℕ → Bool
  -- whether a command may make this name
  pub is_new : List ℕ → Bool

-- What the theory needs of a scope: each answer of one part has its answer in the other.
pub record IsLawful (s : Scope) : Type 0 where
  pub field_known : (role : FieldUse) (ty : TypeId) (f : List ℕ) (i : ℕ) → s.field role ty f ≡ Some i → s.has_field role ty ≡ true
  pub field_there : (role : FieldUse) (ty : TypeId) → s.has_field role ty ≡ true → (f : List ℕ) × (i : ℕ) × (s.field role ty f ≡ Some i)
  -- `null` is a reference everywhere
  pub null : (made : Bool) → s.reference made (codes "null") ≡ Some Null
  -- a call that is allowed has types to name
  pub looked : (name : List ℕ) → s.call name ≡ Some Get → (t : List ℕ) × (ty : TypeId) × (s.find t ≡ Some ty) × (s.has_field Looked ty ≡ true)
  pub asked : (name : List ℕ) → s.call name ≡ Some Has → (t : List ℕ) × (ty : TypeId) × (s.find t ≡ Some ty) × (s.allows Asked ty ≡ true)
  pub owned : (name : List ℕ) → s.call name ≡ Some On → (t : List ℕ) × (ty : TypeId) × (s.find t ≡ Some ty) × (s.allows Own ty ≡ true)
