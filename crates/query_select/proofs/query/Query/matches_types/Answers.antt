use Rattle.std.proofs.Common.{◌≡◌, ◌∙◌, ◌&&◌, ◌||◌, not, true, ap, ap₂, sym}
use Rattle.std.specs.List.{list_any}
use Rattle.ent_types.specs.TypeLookups.{is_enableable_at}
use Rattle.ent_types.specs.TypeSets.{has_type, meets}
use Rattle.run_model.specs.Query.{is_empty}
use Rattle.run_laws.proofs.Lists.{any_eq}
use Rattle.query_select.specs.Entries.{unfiltered}
use Rattle.query_select.proofs.RowMasks.{admits, passes_are}
use Rattle.query_select.proofs.query.Query.matches_types.Goals as goal
use Rattle.query_select.proofs.query.Query.matches_types.Goals.{then-admits, else-admits}

pub returns-then-has_any : goal.returns-then-has_any
returns-then-has_any c = λ registry same.
    let query = c.args.self.now in
    let types = c.args.types.now in
    let both : (admits (unfiltered query) types ≡ true) × ((is_empty query.any || meets query.any types) ≡ true) = elim c.if-admits.branch [
      | then-admits w ↦ (sym c.admits.ensures ∙ w.if-admits.true, sym w.has_any.ensures ∙ sym w.value-is ∙ c.if-has_any.true)
      | else-admits w ↦ absurd (cc (sym w.value-is ∙ c.if-has_any.true))
    ] in
    c.can_be_disabled.ensures
    ∙ ap not (any_eq (λ t. has_type types t && not (has_type c.args.enableable.now t)) (λ t. has_type types t && not (is_enableable_at registry t)) query.none
    (λ t i. ap (λ e. has_type types t && not e) (same t i)))
    ∙ sym (passes_are registry (unfiltered query) types ∙ ap₂ (λ a b. a && (b && not (list_any (λ t. has_type types t && not (is_enableable_at registry t)) query.none))) both.0 both.1)
