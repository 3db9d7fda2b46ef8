use Rattle.std.proofs.Common.{◌∙◌, ap₂, eqb}
use Rattle.std.specs.Cmp.Lexicographic.{pointwise}
use Rattle.ent_types.proofs.TypePairs.{same_words}
use Rattle.ent_types.proofs.type_set.TypeSetPartialEq.eq.Goals as goal

pub returns : goal.returns
returns c =
    c.eq.ensures ∙ same_words c.self.inside.words c.other.inside.words c.self.invariant c.other.invariant
    ∙ ap₂ (pointwise eqb) c.self.view_is c.other.view_is
