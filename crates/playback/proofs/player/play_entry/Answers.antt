use Rattle.std.proofs.Common.{Ok, Err, refl, inr, subst}
use Rattle.std.proofs.lemmas.Result.{on_ok_weaker}
use Rattle.playback.specs.Asked.{operation_for}
use Rattle.playback.specs.Makers.{made_in}
use Rattle.playback.specs.Played.{Does}
use Rattle.playback.proofs.Ends.{whatever_err}
use Rattle.playback.proofs.Steps.{at_done, at_made, at_skip, world_made, world_skipped}
use Rattle.playback.proofs.player.play_entry.Goals as goal

pub returns-in-Ok-None-clause-ok : goal.returns-in-Ok-None-clause-ok
returns-in-Ok-None-clause-ok c =
    let does = subst (λ o. Does c.args.world.now c.apply.new.world (operation_for (made_in c.args.player.now.made c.args.entry.now.item) c.args.entry.now.command) (Ok o))
    c.in-Ok-None.field-0-is c.in-Ok-None.ensures in
    λ p at. at_done p c.args.world.now c.apply.new.world c.args.player.now _ c.args.entry.now at c.requires.kept does refl refl refl

pub returns-in-Ok-Some-clause-ok : goal.returns-in-Ok-Some-clause-ok
returns-in-Ok-Some-clause-ok c =
    let does = subst (λ o. Does c.args.world.now c.apply.new.world (operation_for (made_in c.args.player.now.made c.args.entry.now.item) c.args.entry.now.command) (Ok o))
    c.in-Ok-Some.field-0-is c.in-Ok-Some.ensures in
    on_ok_weaker c.keep.result
    (λ made p at. at_made p c.args.world.now c.apply.new.world c.args.player.now c.keep.new.player c.args.entry.now at c.requires.kept c.in-Ok-Some.e does c.keep.ensures.keeps c.keep.ensures.notes made)
    c.keep.ensures.made

pub returns-in-Ok-Some-clause-err : goal.returns-in-Ok-Some-clause-err
returns-in-Ok-Some-clause-err c =
    let does = subst (λ o. Does c.args.world.now c.apply.new.world (operation_for (made_in c.args.player.now.made c.args.entry.now.item) c.args.entry.now.command) (Ok o))
    c.in-Ok-Some.field-0-is c.in-Ok-Some.ensures in
    whatever_err c.keep.result
    (λ p at. inr (world_made p c.args.world.now c.apply.new.world c.args.player.now c.keep.new.player c.args.entry.now at c.requires.kept c.in-Ok-Some.e does))

pub returns-in-Err-Skip-clause-ok : goal.returns-in-Err-Skip-clause-ok
returns-in-Err-Skip-clause-ok c =
    let does = subst (λ f. Does c.args.world.now c.apply.new.world (operation_for (made_in c.args.player.now.made c.args.entry.now.item) c.args.entry.now.command) (Err f))
    c.in-Err-Skip.field-0-is c.in-Err-Skip.ensures in
    on_ok_weaker c.add_note.result
    (λ notes p at. at_skip p c.args.world.now c.apply.new.world c.args.player.now c.add_note.new.player c.args.entry.now at c.requires.kept c.in-Err-Skip.skip does
    c.add_note.ensures.keeps c.add_note.ensures.made notes)
    c.add_note.ensures.notes

pub returns-in-Err-Skip-clause-err : goal.returns-in-Err-Skip-clause-err
returns-in-Err-Skip-clause-err c =
    let does = subst (λ f. Does c.args.world.now c.apply.new.world (operation_for (made_in c.args.player.now.made c.args.entry.now.item) c.args.entry.now.command) (Err f))
    c.in-Err-Skip.field-0-is c.in-Err-Skip.ensures in
    whatever_err c.add_note.result
    (λ p at. inr (world_skipped p c.args.world.now c.apply.new.world c.args.player.now c.add_note.new.player c.args.entry.now at c.requires.kept c.in-Err-Skip.skip does))
