use Rattle.std.proofs.Common.{codes}
use Rattle.world_text.specs.Lines.{count_text, world_line}
use Rattle.world_text.proofs.Appended.{three_pieces}
use Rattle.world_text.proofs.world.push_head.Goals as goal

pub returns : goal.returns
unfolding world_line
returns c =
    three_pieces c.args.line.now.items (count_text (codes "world frames=") c.args.frames) (count_text (codes " entities=") c.args.entities) (codes "\n")
    c.push_key_number.new.line.items c.push_key_number-2.new.line.items c.push.new.self.items
    c.in_ok-push_key_number.ensures c.in_ok-push_key_number-2.ensures c.in_ok-push.ensures.items
