use Rattle.std.proofs.Common.{[], ◌∷◌, refl, sym, ap, subst, length, map, Some, ◌<◌, ◌∙◌}
use Rattle.std.proofs.lemmas.List.{length-map}
use mathlib.Core.Option.{some}
use Rattle.job_claims.specs.Views.{opened}
use Rattle.job_claims.specs.Rule.{Keeps}
use Rattle.job_claims.proofs.Steps.{opened_keeps}
use Rattle.job_claims.proofs.table.ClaimTable.new.Goals as goal

pub new-requires : goal.new-requires
new-requires g c = (
  refl,
  subst (λ slots. Keeps (length (map some slots)) 0 (map some slots) (opened c.of-about.result.value.items ∷ [])) (sym c.in_ok-at_home.ensures)
      (subst (λ v. Keeps (length (map some (map (λ x. Some x) c.args.items.items))) 0 (map some (map (λ x. Some x) c.args.items.items)) (opened v.items ∷ [])) (sym c.of-about.ensures)
      (opened_keeps c.args.items.items)),
)

pub invariant_of-result : goal.invariant_of-result
invariant_of-result g c =
    let e = c.in-Ok.ensures.ok in
    (e.0, subst (λ n. n < 4294967296) (sym (e.1 ∙ ap length c.in_ok-at_home.ensures ∙ length-map c.args.items.items (λ x. Some x))) c.requires)
