-- What the trees mean. Parentheses leave nothing, and a tail means a function of what is on its left.
use Rattle.std.specs.Prelude.{map, pos}
use Rattle.ent_types.specs.declared.entity.TypeId.{TypeId}
use Rattle.expr_trees.specs.declared.tree.Expr.{Expr}
use Rattle.expr_trees.specs.declared.tree.Expr.TheVariants as exprs
use Rattle.expr_trees.specs.declared.tree.RefExpr.{RefExpr}
use Rattle.expr_trees.specs.declared.tree.RefExpr.TheVariants as refs
use Rattle.expr_trees.specs.declared.tree.ValueExpr.{ValueExpr}
use Rattle.expr_trees.specs.declared.tree.ValueExpr.TheVariants as values
use Rattle.expr_trees.specs.declared.tree.PartExpr.{PartExpr}
use Rattle.expr_trees.specs.declared.tree.Assign.{Assign}
use Rattle.expr_trees.specs.declared.tree.Switch.{Switch}
use Rattle.expr_trees.specs.declared.tree.CommandText.{CommandText}
use Rattle.expr_trees.specs.declared.tree.CommandText.TheVariants as commands
use Rattle.expr_grammar.specs.declared.words.Change.{Change}
use Rattle.expr_grammar.specs.declared.words.Change.TheVariants as changes
use Rattle.expr_grammar.specs.declared.words.Turn.{Turn}
use Rattle.expr_grammar.specs.declared.words.Turn.TheVariants as turns
use Rattle.expr_grammar.specs.Grammar.{plain, own, Ref, entity, called, Sort, operand, suffix, expr, tail, Syntax, number, group, signed, named, alone, field, two, pick, get, alive, has, same, on, lone, chain, stop, more, Value, int, ref, Part, AssignText, SwitchText, Command, create, destroy, change, turn, instantiate}

abbrev pub meaning_ref : Ref → RefExpr
meaning_ref (entity index version) = refs.Entity (record { index = index; version = version })
meaning_ref (called name (plain r)) = r
meaning_ref (called name (own f ty i)) = refs.Own ty i

abbrev pub Meant : Sort → Type 0
Meant operand = Expr
Meant suffix = Expr
Meant expr = Expr
Meant tail = Expr → Expr

abbrev pub meaning : {s : Sort} → Syntax s → Meant s
meaning (number n) = exprs.Number (pos n)
meaning (group e) = meaning e
meaning (signed s op o) = exprs.Unary op (meaning o)
meaning (named name after) = meaning after
meaning (alone v) = exprs.Variable v
meaning (field f ty i) = exprs.Own ty i
meaning (two op a b) = exprs.Binary op (meaning a) (meaning b)
meaning (pick c a b) = exprs.Pick (meaning c) (meaning a) (meaning b)
meaning (get r t ty f i) = exprs.Get (meaning_ref r) ty i
meaning (alive r) = exprs.Alive (meaning_ref r)
meaning (has r t ty) = exprs.Has (meaning_ref r) ty
meaning (same r q) = exprs.Same (meaning_ref r) (meaning_ref q)
meaning (on t ty) = exprs.On ty
meaning (lone o) = meaning o
meaning (chain e t) = (meaning t) (meaning e)
meaning stop = λ left. left
meaning (more s op e t) = λ left. (meaning t) (exprs.Binary op left (meaning e))

abbrev pub meaning_value : Value → ValueExpr
meaning_value (int e) = values.Int (meaning e)
meaning_value (ref r) = values.Ref (meaning_ref r)

abbrev pub meaning_part : Part → PartExpr
meaning_part p = record { ty = p.ty; values = map meaning_value p.values }

abbrev pub meaning_assign : AssignText → Assign
meaning_assign a = record { ty = a.ty; field = a.place; value = meaning_value a.value }

abbrev pub meaning_switch : SwitchText → Switch
meaning_switch w = record { ty = w.ty; value = meaning w.value }

abbrev pub changed : Change → RefExpr → PartExpr → CommandText
changed changes.Add r p = commands.Add r p
changed changes.Set r p = commands.Set r p
changed changes.SetShared r p = commands.SetShared r p

abbrev pub turned : Turn → RefExpr → TypeId → CommandText
turned turns.Remove r ty = commands.Remove r ty
turned turns.Enable r ty = commands.Enable r ty
turned turns.Disable r ty = commands.Disable r ty

abbrev pub meaning_command : Command → CommandText
meaning_command (create name parts) = commands.Create name (map meaning_part parts)
meaning_command (destroy r) = commands.Destroy (meaning_ref r)
meaning_command (change c r p) = changed c (meaning_ref r) (meaning_part p)
meaning_command (turn t r name ty) = turned t (meaning_ref r) ty
meaning_command (instantiate name r) = commands.Instantiate name (meaning_ref r)
