use Rattle.std.proofs.Common.{refl, subst}
use Rattle.run_model.specs.Job.{texts_of}
use Rattle.item_run.specs.Items.{Finishes, ItemState}
use Rattle.item_run.proofs.Systems.{item_after}
use Rattle.item_run.proofs.item.Item.finish.Goals as goal

pub invariant_of-self : goal.invariant_of-self
invariant_of-self c = item_after _ c.self.invariant (texts_of c.self.inside.system.now) c.self.inside.left c.empty-self-inside.result c.do_texts.new.loan c.do_texts.ensures c.empty-self-inside.ensures

pub returns : goal.returns
returns c =
    subst (λ (old : ItemState). Finishes old (record { at = record { frozen = c.self.inside.frozen.now; loan = c.do_texts.new.loan; item = c.self.inside.item; frame = c.self.inside.frame }; system = c.self.inside.system.now; left = c.empty-self-inside.result })) c.self.view_is
    (record { does = c.do_texts.ensures; at = refl; system = refl; left = c.empty-self-inside.ensures })
