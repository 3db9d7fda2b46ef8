use Rattle.std.proofs.Common.{◌++◌, ◌∙◌, ap, codes, w32}
use Rattle.std.proofs.lemmas.Int.{to_z-of_z}
use Rattle.std.specs.Fmt.{signed_decimal}
use Rattle.world_text.specs.Lines.{buffer_text, count_text, key_shared_line, word_text}
use Rattle.world_text.proofs.Appended.{five_pieces}
use Rattle.world_text.proofs.notes.push_key_shared.Goals as goal

pub returns : goal.returns
unfolding key_shared_line
returns c =
    five_pieces c.args.line.now.items (buffer_text (codes "error keyshared") c.args.frame c.args.system.now c.args.point) (word_text (codes " key=") (signed_decimal c.args.key))
    (count_text (codes " items=") c.args.first_item) (count_text (codes ",") c.args.second_item) (codes "\n") c.push_buffer_start.new.line.items c.push_key_number.new.line.items
    c.push_key_number-2.new.line.items c.push_key_number-3.new.line.items c.push.new.self.items c.in_ok-push_buffer_start.ensures
    (c.in_ok-push_key_number.ensures ∙ ap (λ z. c.push_buffer_start.new.line.items ++ word_text (codes " key=") (signed_decimal z)) (to_z-of_z w32 c.args.key c.ranges.key))
    c.in_ok-push_key_number-2.ensures c.in_ok-push_key_number-3.ensures c.in_ok-push.ensures.items
