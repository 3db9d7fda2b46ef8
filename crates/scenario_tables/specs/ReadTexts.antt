-- The texts of a scenario. The fault of a text has the text's own cause, and the place of the invalid token.
use Rattle.std.specs.Prelude.{ℕ, ◌≡◌, List, [], Some, Result, Ok, Err}
use Rattle.toml.specs.Data.{Data}
use Rattle.ent_types.specs.declared.type_info.TypeInfo.{TypeInfo}
use Rattle.expr_grammar.specs.declared.fault.ExprCause.{ExprCause}
use Rattle.expr_grammar.specs.declared.fault.ExprCause.TheVariants as texts
use Rattle.expr_grammar.specs.declared.fault.ExprFault.{ExprFault}
use Rattle.expr_grammar.specs.Scopes.{Scope}
use Rattle.expr_read.specs.declared.scope.TextPlace.TheVariants.{Spawn, Event, System}
use Rattle.expr_read.specs.declared.scope.Made.{Made}
use Rattle.expr_trees.specs.declared.tree.Expr.{Expr}
use Rattle.expr_trees.specs.declared.tree.RefExpr.{RefExpr}
use Rattle.expr_trees.specs.declared.tree.Assign.{Assign}
use Rattle.expr_trees.specs.declared.tree.Switch.{Switch}
use Rattle.expr_trees.specs.declared.tree.CommandText.{CommandText}
use Rattle.expr_read.specs.ScopeOf.{scope_of}
use Rattle.expr_grammar.specs.Answers.{expr_answer, ref_answer, assign_answer, switch_answer, command_answer}
use Rattle.scenario_record.specs.declared.fault.Cause.{Cause}
use Rattle.scenario_record.specs.declared.fault.Cause.TheVariants.{TooLong, BadChar, NumberRange, TooDeep, UnknownName, Unexpected}
use Rattle.scenario_record.specs.declared.fault.BadScenario.{BadScenario}
use Rattle.scenario_record.specs.declared.fault.ScenarioFault.{ScenarioFault}
use Rattle.scenario_record.specs.declared.fault.ScenarioFault.TheVariants.{Bad, Memory}
use Rattle.scenario_record.specs.Readings.{Reading, ◌>>=◌}
use Rattle.scenario_tables.specs.ReadKeys.{text}

-- the cause of a text's fault; running out of memory is no fault of a text
abbrev pub text_cause : ExprCause → Cause
text_cause texts.TooLong = TooLong
text_cause texts.BadChar = BadChar
text_cause texts.NumberRange = NumberRange
text_cause texts.TooDeep = TooDeep
text_cause texts.UnknownName = UnknownName
text_cause texts.Unexpected = Unexpected
text_cause texts.Memory = Unexpected

abbrev pub text_fault : ExprFault → BadScenario
text_fault f = record { cause = text_cause f.cause; key = []; at = Some f.at }

-- the tree of a text, or its fault as one of the scenario
abbrev pub text_reading : {A : Type 0} → Result A ExprFault → Reading A
text_reading (Ok x) = Ok x
text_reading (Err f) = Err (text_fault f)

-- the fault of the scenario for a fault of a text
abbrev pub IsTextFault : ExprCause → ℕ → ScenarioFault → Type 0
IsTextFault texts.Memory at fault = fault ≡ Memory
IsTextFault cause at fault = fault ≡ Bad (record { cause = text_cause cause; key = []; at = Some at })

-- ---- the texts of a system, whose rows have the bound types

-- the text of a system where earlier commands make these names; `answer` is what it is in a scope
abbrev pub system_text : {A : Type 0} → (Scope → List ℕ → Result A ExprFault) → List TypeInfo → List ℕ → List Made → Data → Reading A
system_text answer registry bound made d = text d >>= λ s. text_reading (answer (scope_of registry System bound made) s)

abbrev pub system_expr : List TypeInfo → List ℕ → Data → Reading Expr
system_expr registry bound d = system_text expr_answer registry bound [] d

abbrev pub system_assign : List TypeInfo → List ℕ → Data → Reading Assign
system_assign registry bound d = system_text assign_answer registry bound [] d

abbrev pub system_switch : List TypeInfo → List ℕ → Data → Reading Switch
system_switch registry bound d = system_text switch_answer registry bound [] d

abbrev pub system_command : List TypeInfo → List ℕ → List Made → Data → Reading CommandText
system_command registry bound made d = system_text command_answer registry bound made d

-- ---- the texts of a spawn and of an event

abbrev pub spawn_expr : List TypeInfo → List ℕ → Reading Expr
spawn_expr registry s = text_reading (expr_answer (scope_of registry Spawn [] []) s)

abbrev pub spawn_ref : List TypeInfo → List ℕ → Reading RefExpr
spawn_ref registry s = text_reading (ref_answer (scope_of registry Spawn [] []) s)

abbrev pub event_command : List TypeInfo → Data → Reading CommandText
event_command registry d = text d >>= λ s. text_reading (command_answer (scope_of registry Event [] []) s)
