use Rattle.std.proofs.Common.{◌≡◌, ◌∙◌, ap₂, subst}
use Rattle.std.proofs.lemmas.Bool.Decides.{Decides-at}
use Rattle.ent_types.specs.TypeSets.{is_subset_of, IsRisingBelow}
use Rattle.ent_types.proofs.TypeBits.{IsRisingBelow-types_of}
use Rattle.ent_types.proofs.TypePairs.{is_covered-types_of}
use Rattle.ent_types.proofs.TypeSetRelations.{Decides-is_subset_of}
use Rattle.ent_types.proofs.type_set.TypeSet.is_subset.Goals as goal

answer : (c : goal.After-are_covered) → c.are_covered.result ≡ is_subset_of c.args.self.now c.args.other.now
answer c =
    c.are_covered.ensures ∙ is_covered-types_of c.self.inside.words c.other.inside.words c.self.invariant c.other.invariant
    ∙ ap₂ is_subset_of c.self.view_is c.other.view_is

pub returns-clause-value : goal.returns-clause-value
returns-clause-value c = answer c

pub returns-clause-each : goal.returns-clause-each
returns-clause-each c = Decides-at c.are_covered.result _ (answer c) (Decides-is_subset_of c.args.self.now c.args.other.now)

pub returns-clause-rising : goal.returns-clause-rising
returns-clause-rising c = (
  subst (IsRisingBelow 256) c.self.view_is (IsRisingBelow-types_of c.self.inside.words),
  subst (IsRisingBelow 256) c.other.view_is (IsRisingBelow-types_of c.other.inside.words),
)
