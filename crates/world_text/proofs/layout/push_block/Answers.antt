use Rattle.std.proofs.Common.{◌∙◌, ◌++◌, ℕ, List, ap, codes, length, subst, zip}
use Rattle.std.specs.Fmt.{decimal}
use Rattle.std.specs.List.{flat_map}
use Rattle.world_model.specs.Members.{In}
use Rattle.world_text.specs.Layout.{column_text, places_of}
use Rattle.world_text.specs.Lines.{word_text}
use Rattle.world_text.proofs.Listing.{block_is}
use Rattle.world_text.proofs.layout.push_block.Goals as goal

pub push_types-requires-clause-known : goal.push_types-requires-clause-known
push_types-requires-clause-known c = λ t i. c.requires.known t (subst (In t) c.types.ensures.value i)

pub returns : goal.returns
returns c =
    block_is c.args.registry.now c.args.k c.args.block.now.types (length c.args.block.now.rows) c.args.line.now.items c.push_key_number.new.line.items c.push_key_number-2.new.line.items
    c.push_key_number-3.new.line.items c.extend_from_slice.new.self.items c.push_types.new.line.items c.push.new.self.items c.in_ok-push_key_number.ensures
    (c.in_ok-push_key_number-2.ensures ∙ ap (λ n. c.push_key_number.new.line.items ++ word_text (codes " rows=") (decimal n)) c.len.ensures.value)
    (c.in_ok-push_key_number-3.ensures ∙ ap (λ n. c.push_key_number-2.new.line.items ++ word_text (codes " capacity=") (decimal n)) (c.capacity.ensures.value ∙ c.requires.capacity_is))
    c.in_ok-extend_from_slice.ensures.items
    (c.in_ok-push_types.ensures
    ∙ ap (λ (types : List ℕ). c.extend_from_slice.new.self.items ++ flat_map (column_text c.args.registry.now) (zip types (places_of c.args.registry.now types))) c.types.ensures.value)
    c.in_ok-push.ensures.items
