use Rattle.std.proofs.Common.{◌∙◌, sym, ap, ◌++◌, List, ℕ}
use Rattle.std.proofs.lemmas.Result.{on_ok_weaker}
use Rattle.ent_types.specs.declared.type_info.TypeInfo.{TypeInfo}
use Rattle.world_text.proofs.Listing.{column_with, column_without}
use Rattle.world_text.proofs.layout.push_column.Goals as goal

pub returns-then-not-has_column : goal.returns-then-not-has_column
returns-then-not-has_column c =
    column_without c.args.registry.now c.args.ty.0 c.args.place c.args.line.now.items c.push.new.self.items c.extend_from_slice.new.self.items c.in_ok-push.ensures.items
    (c.in_ok-extend_from_slice.ensures.items ∙ ap (λ (text : List ℕ). c.push.new.self.items ++ text) (c.as_bytes.ensures ∙ ap (λ (t : TypeInfo). t.name) c.info.ensures.value))
    (sym c.has_column.ensures ∙ c.if-not-has_column.true)

pub returns : goal.returns
returns c =
    on_ok_weaker c.push_key_number.result
    (λ number.
    column_with c.args.registry.now c.args.ty.0 c.args.place c.args.line.now.items c.push.new.self.items c.extend_from_slice.new.self.items c.push_key_number.new.line.items c.in_ok-push.ensures.items
    (c.in_ok-extend_from_slice.ensures.items ∙ ap (λ (text : List ℕ). c.push.new.self.items ++ text) (c.as_bytes.ensures ∙ ap (λ (t : TypeInfo). t.name) c.info.ensures.value)) number
    (sym c.has_column.ensures ∙ c.if-not-has_column.false))
    c.push_key_number.ensures
