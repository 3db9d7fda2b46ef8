-- The text of an expression in a scope where every name is allowed at any place.
use Rattle.std.specs.Prelude.{ℕ, ◌≡◌, List, [], Bool, true, ◌&&◌, nat_lt, length, map, codes, not, if◌then◌else◌, Option, Some, None}
use Rattle.ent_types.specs.declared.entity.TypeId.{TypeId}
use Rattle.ent_types.specs.declared.type_info.TypeInfo.{TypeInfo}
use Rattle.ent_types.specs.Registries.{type_id_named, type_at}
use Rattle.ent_types.specs.Types.{field_named, same_name}
use Rattle.expr_tokens.specs.Tokens.{Placed, AreTokens}
use Rattle.expr_trees.specs.declared.tree.Expr.{Expr}
use Rattle.expr_trees.specs.declared.tree.RefExpr.{RefExpr}
use Rattle.expr_trees.specs.declared.tree.RefExpr.TheVariants.{Null, Me}
use Rattle.expr_trees.specs.declared.tree.Variable.{Variable}
use Rattle.expr_trees.specs.declared.tree.Variable.TheVariants.{N}
use Rattle.expr_grammar.specs.declared.words.FieldUse.{FieldUse}
use Rattle.expr_grammar.specs.Fitting.{FitsExpr}
use Rattle.expr_grammar.specs.Grammar.{Syntax, expr, spell}
use Rattle.expr_grammar.specs.Meaning.{meaning}
use Rattle.expr_read.specs.PrintedTexts.{is_printable}
use Rattle.expr_read.specs.ScopeOf.{is_known, is_listed, is_new_name, is_ref_at, refs_of, some_type_from, system_call, system_variable}
use Rattle.expr_grammar.specs.Scopes.{Scope}

abbrev pub any_variable : List ℕ → Option Variable
any_variable name = if same_name name (codes "n") then Some N else system_variable name

abbrev pub any_reference : Bool → List ℕ → Option RefExpr
any_reference made name =
    if same_name name (codes "null") then Some Null
    else if same_name name (codes "self") then Some Me
    else None

-- the place of the known type's field of this name, whatever it holds and is used for
abbrev pub any_field : List TypeInfo → FieldUse → TypeId → List ℕ → Option ℕ
any_field types role ty name = if is_known types ty then field_named (type_at types ty.0) name else None

-- `self`, every variable, every call and every type and field of the registry is allowed at any place
abbrev pub anywhere : List TypeInfo → Scope
anywhere types =
    record {
      variable = any_variable;
      call = system_call;
      reference = any_reference;
      find = type_id_named types;
      field = any_field types;
      has_field = λ role ty. is_known types ty && nat_lt 0 (length (type_at types ty.0).fields);
      allows = λ role ty. is_known types ty;
      has_type = λ role used. some_type_from (λ ty. is_known types ty && not (is_listed used ty)) 0 types;
      holds = is_listed;
      refs = refs_of types;
      is_ref = is_ref_at types;
      is_new = is_new_name [];
    }

-- the registry knows the types and fields of the expression, its numbers are at least 0, and no reference is a made name
abbrev pub IsPrintable : List TypeInfo → Expr → Type 0
IsPrintable types e = is_printable types e ≡ true

-- the tokens of the text derive the expression by the grammar, whatever its length and nesting
pub record Prints (types : List TypeInfo) (e : Expr) (text : List ℕ) : Type 0 where
  pub tokens : List Placed
  pub tokens_are : AreTokens 0 text tokens
  pub tree : Syntax expr
  pub spelled : spell tree [] ≡ map (λ p. p.token) tokens
  pub limit : ℕ
  pub fits : FitsExpr (anywhere types) limit 0 tree
  pub means : meaning tree ≡ e
