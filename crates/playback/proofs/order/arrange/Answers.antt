use Rattle.std.proofs.Common.{Err, sym, ap, ◌∙◌, subst, rules}
use Rattle.std.specs.List.Sorted.{IsSortedBy}
use Rattle.std.specs.Ordering.{is_lt}
use Rattle.std.proofs.lemmas.Result.{err_from_is_err_and}
use Rattle.std.proofs.lemmas.List.Sorted.{answers_always}
use Rattle.world_model.specs.Members.{In}
use Rattle.playback.specs.declared.places.Place.{Place}
use Rattle.playback.specs.Order.{Arranges, all_entries}
use Rattle.playback.specs.Places.{TellsShared, shared_in}
use Rattle.playback.proofs.Turns.{turn_cmp}
use Rattle.playback.proofs.Arranged.{all_placed, is_arranged, tells_shared, is_defined}
use Rattle.playback.proofs.order.arrange.Goals as goal

pub returns-in_err-refuse_shared-clause-arranges : goal.returns-in_err-refuse_shared-clause-arranges
returns-in_err-refuse_shared-clause-arranges c =
    let sorted : IsSortedBy (λ (p q : Place). is_lt (turn_cmp p.turn q.turn)) c.sort_unstable_by_key.new.self.items =
    c.sort_unstable_by_key.ensures.sorted (λ (p : Place). p.turn) (answers_always _ _ _ (λ f a r g called. search rules)) in
    let p = err_from_is_err_and c.from_residual-in_err-refuse_shared.result c.from_residual-in_err-refuse_shared.ensures.1 in
    subst (Arranges (all_entries c.args.chains.now)) (sym (p.1 ∙ ap Err p.2))
    (tells_shared c.args.chains.now c.in_ok-places.places.items c.sort_unstable_by_key.new.self.items c.in_ok-places.ensures c.sort_unstable_by_key.ensures.permutation sorted c.requires
    c.in_err-refuse_shared.field-0.0 (subst (λ ps. TellsShared (shared_in ps) (Err c.in_err-refuse_shared.field-0.0)) c.deref.ensures.value c.in_err-refuse_shared.ensures))

pub entries_at-requires : goal.entries_at-requires
entries_at-requires c = λ p i.
    all_placed c.args.chains.now c.in_ok-places.places.items c.sort_unstable_by_key.new.self.items c.in_ok-places.ensures c.sort_unstable_by_key.ensures.permutation p
    (subst (In p) c.deref-2.ensures.value i)

pub returns-clause-arranges : goal.returns-clause-arranges
returns-clause-arranges c =
    let sorted : IsSortedBy (λ (p q : Place). is_lt (turn_cmp p.turn q.turn)) c.sort_unstable_by_key.new.self.items =
    c.sort_unstable_by_key.ensures.sorted (λ (p : Place). p.turn) (answers_always _ _ _ (λ f a r g called. search rules)) in
    is_arranged c.args.chains.now c.in_ok-places.places.items c.sort_unstable_by_key.new.self.items c.in_ok-places.ensures c.sort_unstable_by_key.ensures.permutation sorted c.requires
    c.deref-2.result.now c.deref-2.ensures.value c.in_ok-entries_at.field-0 c.in_ok-entries_at.ensures (ap shared_in (sym c.deref.ensures.value) ∙ c.in_ok-refuse_shared.ensures)

pub returns-clause-defined : goal.returns-clause-defined
returns-clause-defined c =
    let sorted : IsSortedBy (λ (p q : Place). is_lt (turn_cmp p.turn q.turn)) c.sort_unstable_by_key.new.self.items =
    c.sort_unstable_by_key.ensures.sorted (λ (p : Place). p.turn) (answers_always _ _ _ (λ f a r g called. search rules)) in
    is_defined c.args.chains.now c.in_ok-places.places.items c.sort_unstable_by_key.new.self.items c.in_ok-places.ensures c.sort_unstable_by_key.ensures.permutation sorted c.requires
    c.deref-2.result.now c.deref-2.ensures.value c.in_ok-entries_at.field-0 c.in_ok-entries_at.ensures
