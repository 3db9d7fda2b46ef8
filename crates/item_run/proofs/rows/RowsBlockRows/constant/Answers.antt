use Rattle.std.proofs.Common.{pos, ◌<◌, sym, ap₂, subst, length, get_or, List}
use Rattle.ent_types.specs.declared.value.Value.{Value}
use Rattle.ent_types.specs.declared.value.Value.TheVariants.{Int}
use Rattle.item_run.proofs.Held.{shared_there, value_is, value_there}
use Rattle.item_run.proofs.rows.RowsBlockRows.constant.Goals as goal

pub shared_of-values-requires-clause-there : goal.shared_of-values-requires-clause-there
shared_of-values-requires-clause-there c = shared_there c.self.invariant c.args.self.now c.self.view_is c.number.result c.number.ensures c.args.ty c.args.field c.requires

pub bounds-as_slice-from : goal.bounds-as_slice-from
bounds-as_slice-from c =
    subst (λ i. i < length c.as_slice.result.now) (sym c.from.ensures)
    (subst (λ (vs : List Value). c.args.field < length vs) (sym c.as_slice.ensures)
    (value_there c.self.invariant c.args.self.now c.self.view_is c.number.result c.number.ensures c.args.ty c.args.field c.requires (sym c.if-not-is_shared.ensures) c.shared_of-values.result.now c.shared_of-values.ensures))

pub returns : goal.returns
returns c =
    value_is c.self.invariant c.args.self.now c.self.view_is c.number.result c.number.ensures c.args.ty c.args.field c.requires (sym c.if-not-is_shared.ensures) c.shared_of-values.result.now c.shared_of-values.ensures
    _ (ap₂ (λ (vs : List Value) i. get_or vs i (Int (pos 0))) c.as_slice.ensures c.from.ensures)
