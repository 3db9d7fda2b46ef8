use Rattle.std.proofs.Common.{◌≡◌, ◌∙◌, ap, ap₂, sym, arith, pos, w32, to_z, of_z, rules}
use Rattle.std.specs.Prelude.{int_lt}
use Rattle.std.proofs.lemmas.Bool.Decides.{Decides-at}
use Rattle.std.proofs.lemmas.Int.{to_z-of_z}
use Rattle.system_version.specs.Versions.{is_later}
use Rattle.system_version.proofs.VersionLemmas.{is_later-difference, is_later-moments, version_of-some}
use Rattle.system_version.proofs.version.SystemVersion.did_change.Goals as goal

answer : (c : goal.After-cast_signed) → int_lt (pos 0) (to_z w32 (of_z w32 c.cast_signed.result)) ≡ is_later c.args.self.0 c.args.required.0
answer c =
    ap (int_lt (pos 0)) (to_z-of_z w32 c.cast_signed.result (search rules) ∙ c.cast_signed.ensures)
    ∙ sym (is_later-difference c.args.self.0 c.args.required.0 (search rules) c.if-required-eq0.false)

pub returns-then-required-eq0-clause-moments : goal.returns-then-required-eq0-clause-moments
returns-then-required-eq0-clause-moments c = λ first changed seen version changed_is seen_is changed_at seen_at.
    absurd (omega (arith, version_of-some first seen version seen_is, c.if-required-eq0.true))

pub returns-else-required-eq0-clause-value : goal.returns-else-required-eq0-clause-value
returns-else-required-eq0-clause-value c = answer c

pub returns-else-required-eq0-clause-moments : goal.returns-else-required-eq0-clause-moments
returns-else-required-eq0-clause-moments c = λ first changed seen version changed_is seen_is changed_at seen_at.
    Decides-at _ _ (answer c ∙ ap₂ is_later changed_at seen_at) (is_later-moments first changed seen version changed_is seen_is)
