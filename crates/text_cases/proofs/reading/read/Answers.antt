use Rattle.std.proofs.Common.{◌≡◌, sym, subst}
use Rattle.expr_grammar.specs.Languages.{switches}
use Rattle.expr_read.specs.ScopeOf.{scope_of}
use Rattle.text_cases.specs.declared.reading.Sort.{Sort}
use Rattle.text_cases.specs.Claims.{Claims}
use Rattle.text_cases.proofs.Claimed.{claimed}
use Rattle.text_cases.proofs.reading.read.Goals as goal

pub returns-in-Switch : goal.returns-in-Switch
returns-in-Switch c =
    let s = scope_of c.args.scope.now.registry.now c.args.scope.now.place c.args.scope.now.bound.now c.args.scope.now.made.now in
    subst (λ (sort : Sort). Claims s sort c.args.text.now c.told-in-Switch.result) (sym c.in-Switch.is)
    (claimed (switches s) c.args.text.now c.read_switch.result c.told-in-Switch.result c.read_switch.ensures.reads c.told-in-Switch.ensures)
