use Rattle.std.proofs.Common.{◌≡◌, ◌∙◌, ap, sym, subst, fold}
use Rattle.std.specs.Hash as fed
use Rattle.ent_types.specs.TypeWords.{words_of}
use Rattle.ent_types.specs.TypeWordsBack.{words_of-types_of}
use Rattle.ent_types.proofs.type_set.TypeSetHash.hash.Goals as goal

pub returns : goal.returns
returns g c =
    subst (λ words. c.hash.new.state ≡ fold g.H.Hasher.write c.args.state.now (fed.slice fed.u64 words))
    (sym (words_of-types_of c.self.inside.words c.self.invariant) ∙ ap words_of c.self.view_is) c.hash.ensures
