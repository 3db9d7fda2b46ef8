use Rattle.std.proofs.Common.{◌≡◌, ◌∙◌, sym, ap, map, true, false, arith, string_bytes}
use Rattle.std.proofs.lemmas.Grind.{common_steps}
use Rattle.std.specs.List.{list_any}
use Rattle.toml.specs.View.{view, members_view}
use Rattle.ent_types.specs.Types.{same_name}
use Rattle.scenario_tables.specs.ReadKeys.{unknown_key}
use Rattle.scenario_tables.proofs.KeyLemmas.{unknown_later, unknown_here}
use Rattle.scenario_tables.proofs.keys.only_known.Goals as goal

pub returns-then-not-is_known : goal.returns-then-not-is_known
returns-then-not-is_known c =
    let known : list_any (λ name. same_name (string_bytes c.in-Some.key.now) name.now) c.args.known.now ≡ false = grind (arith, common_steps) in
    let here = unknown_here c.args.known.now (string_bytes c.in-Some.key.now) (view c.in-Some.field-0-1.now) (members_view c.next.new.self) known in
    grind (arith, common_steps, here, c.loop-key.invariant)

pub loop-key-preserved : goal.loop-key-preserved
loop-key-preserved c =
    let known : list_any (λ name. same_name (string_bytes c.in-Some.key.now) name.now) c.args.known.now ≡ true = grind (arith, common_steps) in
    let later = unknown_later c.args.known.now (string_bytes c.in-Some.key.now) (view c.in-Some.field-0-1.now) (members_view c.next.new.self) known in
    sym later ∙ sym (ap (λ es. unknown_key (map (λ name. name.now) c.args.known.now) (members_view es)) c.in-Some.ensures.steps) ∙ c.loop-key.invariant
