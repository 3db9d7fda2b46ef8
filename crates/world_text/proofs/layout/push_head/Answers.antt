use Rattle.world_text.proofs.Listing.{head_is}
use Rattle.world_text.proofs.layout.push_head.Goals as goal

pub returns : goal.returns
returns c =
    head_is c.args.blocks c.args.line.now.items c.push_key_number.new.line.items c.push.new.self.items c.in_ok-push_key_number.ensures c.in_ok-push.ensures.items
