use Rattle.std.proofs.Common.{◌<◌, ◌∙◌, ap, length, map}
use Rattle.std.proofs.lemmas.List.{length-map}
use Rattle.ent_types.specs.declared.value.Value.TheVariants.{Int, Ref}
use Rattle.block_columns.proofs.Lists.{map-swap_remove}
use Rattle.block_columns.proofs.cells.Cells.swap_remove.Goals as goal

pub returns-in-I32-clause-values : goal.returns-in-I32-clause-values
returns-in-I32-clause-values c =
    let within : c.args.row < length c.in-I32.numbers.items = simp length-map at (rw c.in-I32.is at c.requires) in
    rw c.in-I32.is (ap (map (λ z. Int z)) c.swap_remove.ensures.items ∙ map-swap_remove (λ z. Int z) c.in-I32.numbers.items c.args.row _ _ within)

pub returns-in-I64-clause-values : goal.returns-in-I64-clause-values
returns-in-I64-clause-values c =
    let within : c.args.row < length c.in-I64.numbers.items = simp length-map at (rw c.in-I64.is at c.requires) in
    rw c.in-I64.is (ap (map (λ z. Int z)) c.swap_remove-in-I64.ensures.items ∙ map-swap_remove (λ z. Int z) c.in-I64.numbers.items c.args.row _ _ within)

pub returns-in-Refs-clause-values : goal.returns-in-Refs-clause-values
returns-in-Refs-clause-values c =
    let within : c.args.row < length c.in-Refs.references.items = simp length-map at (rw c.in-Refs.is at c.requires) in
    rw c.in-Refs.is (ap (map (λ e. Ref e)) c.swap_remove-in-Refs.ensures.items ∙ map-swap_remove (λ e. Ref e) c.in-Refs.references.items c.args.row _ _ within)
