use Rattle.std.proofs.Common.{◌≡◌, ◌∙◌, ap₂, subst}
use Rattle.std.proofs.lemmas.Bool.Decides.{Decides-at}
use Rattle.ent_types.specs.TypeSets.{meets, IsRisingBelow}
use Rattle.ent_types.proofs.TypeBits.{IsRisingBelow-types_of}
use Rattle.ent_types.proofs.TypePairs.{is_shared-types_of}
use Rattle.ent_types.proofs.TypeSetRelations.{Decides-meets}
use Rattle.ent_types.proofs.type_set.TypeSet.meets.Goals as goal

answer : (c : goal.After-share_a_bit) → c.share_a_bit.result ≡ meets c.args.self.now c.args.other.now
answer c =
    c.share_a_bit.ensures ∙ is_shared-types_of c.self.inside.words c.other.inside.words c.self.invariant c.other.invariant
    ∙ ap₂ meets c.self.view_is c.other.view_is

pub returns-clause-value : goal.returns-clause-value
returns-clause-value c = answer c

pub returns-clause-some : goal.returns-clause-some
returns-clause-some c = Decides-at c.share_a_bit.result _ (answer c) (Decides-meets c.args.self.now c.args.other.now)

pub returns-clause-rising : goal.returns-clause-rising
returns-clause-rising c = (
  subst (IsRisingBelow 256) c.self.view_is (IsRisingBelow-types_of c.self.inside.words),
  subst (IsRisingBelow 256) c.other.view_is (IsRisingBelow-types_of c.other.inside.words),
)
