use Rattle.std.proofs.Common.{ℕ, List, [], subst}
use Rattle.expr_read.specs.ScopeOf.{scope_of}
use Rattle.scenario_record.specs.Readings.{Answers}
use Rattle.scenario_tables.specs.ReadTexts.{text_reading}
use Rattle.scenario_tables.proofs.texts.rowless_text.Goals as goal

pub returns : goal.returns
returns g c =
    subst (λ (bound : List ℕ). Answers (text_reading (g.T.Text.answer (scope_of c.args.registry.now c.args.place bound []) c.args.text.now)) c.text_reading.result)
    c.empty-none.ensures (c.text_reading.ensures _ c.read_in.ensures)
