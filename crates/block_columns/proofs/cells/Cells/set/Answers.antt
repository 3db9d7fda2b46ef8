use Rattle.std.proofs.Common.{◌∙◌, ap, map, w32, w64, rules}
use Rattle.std.proofs.Math.ListN.{set}
use Rattle.std.proofs.lemmas.Int.{to_z-of_z}
use Rattle.std.proofs.lemmas.List.{map-set}
use Rattle.ent_types.specs.declared.value.Value.TheVariants.{Int, Ref}
use Rattle.block_columns.proofs.cells.Cells.set.Goals as goal

pub returns-in-I32-clause-values : goal.returns-in-I32-clause-values
returns-in-I32-clause-values c =
    rw c.in-I32.is
    (ap (map (λ z. Int z)) c.put.ensures.items
    ∙ (map-set (λ z. Int z) c.in-I32.numbers.items c.args.row _
    ∙ ap (λ y. set (map (λ z. Int z) c.in-I32.numbers.items) c.args.row y) (ap (λ z. Int z) (to_z-of_z w32 c.narrow_number.result (search rules)) ∙ c.narrow_number.ensures)))

pub returns-in-I64-clause-values : goal.returns-in-I64-clause-values
returns-in-I64-clause-values c =
    rw c.in-I64.is
    (ap (map (λ z. Int z)) c.put-in-I64.ensures.items
    ∙ (map-set (λ z. Int z) c.in-I64.numbers.items c.args.row _
    ∙ ap (λ y. set (map (λ z. Int z) c.in-I64.numbers.items) c.args.row y) (ap (λ z. Int z) (to_z-of_z w64 c.wide_number.result (search rules)) ∙ c.wide_number.ensures)))

pub returns-in-Refs-clause-values : goal.returns-in-Refs-clause-values
returns-in-Refs-clause-values c =
    rw c.in-Refs.is
    (ap (map (λ e. Ref e)) c.put-in-Refs.ensures.items
    ∙ (map-set (λ e. Ref e) c.in-Refs.references.items c.args.row _
    ∙ ap (λ y. set (map (λ e. Ref e) c.in-Refs.references.items) c.args.row y) c.reference.ensures))
