-- What an answer claims of a text.
use Rattle.std.specs.Prelude.{ℕ, List}
use Rattle.expr_grammar.specs.Faults.{Texts}
use Rattle.expr_grammar.specs.Readings.{IsMeant, IsFault}
use Rattle.expr_grammar.specs.Languages.{exprs, refs, assigns, switches, commands}
use Rattle.expr_grammar.specs.Scopes.{Scope}
use Rattle.text_cases.specs.declared.answer.Answer.{Answer}
use Rattle.text_cases.specs.declared.answer.Answer.TheVariants.{Tree as IsTree, Fault}
use Rattle.text_cases.specs.declared.reading.Sort.{Sort}
use Rattle.text_cases.specs.declared.reading.Sort.TheVariants as sorts

module _ {Tree Meaning : Type 0} (texts : Texts Tree Meaning) where
  -- the text has a meaning, or this is its first fault
  abbrev pub ClaimsOf : List ℕ → Answer → Type 0
  ClaimsOf text IsTree = (meaning : Meaning) × IsMeant texts text meaning
  ClaimsOf text (Fault f) = IsFault texts text f.cause f.at

-- what an answer claims of a text that is to be read so
abbrev pub Claims : Scope → Sort → List ℕ → Answer → Type 0
Claims s sorts.Expr = ClaimsOf (exprs s)
Claims s sorts.Ref = ClaimsOf (refs s)
Claims s sorts.Assign = ClaimsOf (assigns s)
Claims s sorts.Switch = ClaimsOf (switches s)
Claims s sorts.Command = ClaimsOf (commands s)
