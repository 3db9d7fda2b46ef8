-- The five sorts of texts.
use Rattle.std.specs.Prelude.{[], false}
use Rattle.expr_trees.specs.declared.tree.Expr.{Expr}
use Rattle.expr_trees.specs.declared.tree.RefExpr.{RefExpr}
use Rattle.expr_trees.specs.declared.tree.Assign.{Assign}
use Rattle.expr_trees.specs.declared.tree.Switch.{Switch}
use Rattle.expr_trees.specs.declared.tree.CommandText.{CommandText}
use Rattle.expr_grammar.specs.Grammar.{Syntax, expr, Ref, AssignText, SwitchText, Command, spell, spell_ref, spell_assign, spell_switch, spell_command}
use Rattle.expr_grammar.specs.Fitting.{FitsExpr, FitsRef, FitsAssign, FitsSwitch, FitsCommand}
use Rattle.expr_grammar.specs.Meaning.{meaning, meaning_ref, meaning_assign, meaning_switch, meaning_command}
use Rattle.expr_grammar.specs.Faults.{Texts}
use Rattle.expr_grammar.specs.Scopes.{Scope}

abbrev pub exprs : Scope → Texts (Syntax expr) Expr
exprs s = record { fits = λ limit e. FitsExpr s limit 0 e; spelled = λ e. spell e []; means = λ e. meaning e }

abbrev pub refs : Scope → Texts Ref RefExpr
refs s = record { fits = λ limit r. FitsRef s false r; spelled = λ r. spell_ref r []; means = meaning_ref }

abbrev pub assigns : Scope → Texts AssignText Assign
assigns s = record { fits = FitsAssign s; spelled = spell_assign; means = meaning_assign }

abbrev pub switches : Scope → Texts SwitchText Switch
switches s = record { fits = FitsSwitch s; spelled = spell_switch; means = meaning_switch }

abbrev pub commands : Scope → Texts Command CommandText
commands s = record { fits = FitsCommand s; spelled = spell_command; means = meaning_command }
