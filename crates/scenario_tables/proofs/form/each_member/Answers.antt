use Rattle.std.proofs.Common.{◌≡◌, ◌∙◌, All, Ok, sym, ap, subst, arith, string_bytes}
use Rattle.std.proofs.lemmas.Grind.{common_steps}
use Rattle.std.proofs.lemmas.List.Elements.{All-push}
use Rattle.toml.specs.View.{view, members_view}
use Rattle.scenario_tables.specs.ReadKeys.{each_member}
use Rattle.scenario_tables.proofs.ListLemmas.{onto, next_member}
use Rattle.scenario_tables.proofs.form.each_member.Goals as goal

pub loop-key-preserved : goal.loop-key-preserved
loop-key-preserved g c =
    let form = c.args.form.now in
    let reads = g.F.KeyForm.reads form in
    let sound = g.F.KeyForm.sound in
    let rest = members_view c.next.new.self in
    let key = string_bytes c.in-Some.key.now in
    let d = view c.in-Some.value.now in
    let read : reads key d ≡ Ok c.in_ok-item.item = grind (arith, common_steps) in
    let well : sound c.in_ok-item.item = grind (arith, common_steps) in
    record {
      left =
          ap (λ xs. onto xs (each_member reads rest)) c.in_ok-push.ensures.ok
          ∙ next_member reads key d rest c.loop-key.found c.in_ok-item.item read
          ∙ sym (ap (λ es. onto c.loop-key.found (each_member reads (members_view es))) c.in-Some.ensures.steps)
          ∙ c.loop-key.invariant.left;
      sound = subst (λ xs. All sound xs) (sym c.in_ok-push.ensures.ok) (All-push sound c.loop-key.found c.in_ok-item.item c.loop-key.invariant.sound well);
    }
