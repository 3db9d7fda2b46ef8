use Rattle.std.proofs.Common.{◌∙◌, ap, sym}
use Rattle.std.proofs.lemmas.Bool.{ne_eqb, cond-false}
use Rattle.system_version.specs.declared.version.TheConstants.{LAST_VERSION}
use Rattle.system_version.specs.Versions.{next_version}
use Rattle.system_version.proofs.VersionLemmas.{version_of-next}
use Rattle.system_version.proofs.version.SystemVersion.next.Goals as goal

pub returns-then-self-eq-LAST_VERSION-clause-moment : goal.returns-then-self-eq-LAST_VERSION-clause-moment
returns-then-self-eq-LAST_VERSION-clause-moment c = λ first moment from_one is.
    sym (version_of-next first moment from_one ∙ ap next_version (sym is) ∙ ap next_version c.if-self-eq-LAST_VERSION.true)

pub returns-else-self-eq-LAST_VERSION-clause-moment : goal.returns-else-self-eq-LAST_VERSION-clause-moment
returns-else-self-eq-LAST_VERSION-clause-moment c = λ first moment from_one is.
    sym (version_of-next first moment from_one ∙ ap next_version (sym is) ∙ cond-false _ 1 _ (ne_eqb c.args.self.0 LAST_VERSION c.if-self-eq-LAST_VERSION.false))
