use Rattle.std.proofs.Common.{◌∷◌, [], ◌∙◌, Ok, not, cond, ap, sym}
use Rattle.std.specs.Prelude.{⊤}
use Rattle.ent_types.specs.declared.skip.Skip.TheVariants as skip
use Rattle.world_model.specs.Operations.{On, Set, Skips, values_set}
use Rattle.world_model.specs.Part.{part_of as seen}
use Rattle.world_places.proofs.Looking.{none_is}
use Rattle.world_rows.specs.Reading.{found_at}
use Rattle.structural_ops.specs.Worlds.{WritesIn, state_of}
use Rattle.world_rows.specs.Types.{row_put}
use Rattle.chunk_block.specs.Blocks.{row_in}
use Rattle.structural_ops.proofs.After.{lawful_always}
use Rattle.structural_ops.proofs.Decided.{none_always, skip_always, write_always}
use Rattle.structural_ops.proofs.Looked.{entity_there, found_there, of_block, of_number}
use Rattle.structural_ops.proofs.Written.{has_is, its, put_there}
use Rattle.structural_ops.proofs.values.set.Goals as goal

pub returns-in_default-clause-gives : goal.returns-in_default-clause-gives
returns-in_default-clause-gives c =
    none_always (state_of c.args.w.now) c.args.e (Set (seen c.args.part.now)) (none_is c.requires.consistent.agrees.placed c.args.e (sym c.place_of.ensures.value ∙ c.in_default.is))

pub block-requires : goal.block-requires
block-requires c = of_block c.args.w.now c.requires.consistent c.args.e c.in-Some.place (sym c.place_of.ensures.value ∙ c.in-Some.is) (λ _. ⊤) tt

pub returns-then-not-has-clause-gives : goal.returns-then-not-has-clause-gives
returns-then-not-has-clause-gives c =
    let w = c.args.w.now in
    let q = seen c.args.part.now in
    let at = sym c.place_of.ensures.value ∙ c.in-Some.is in
    let x = found_at c.in-Some.place.row (its w c.requires.consistent c.args.e c.in-Some.place at) in
    skip_always (state_of w) c.args.e (Set q) x (found_there w c.requires.consistent c.args.e c.in-Some.place at) skip.NoComponent
    (ap (λ b. cond (not b) (Skips skip.NoComponent) (values_set x q.type_id (λ _. q.values)))
    (has_is w c.requires.consistent c.args.e c.in-Some.place at c.block.result.now c.types.result.now q.type_id _ c.block.ensures c.types.ensures.value c.if-not-has.ensures.value))

pub put_values-requires-clause-there : goal.put_values-requires-clause-there
put_values-requires-clause-there c =
    let w = c.args.w.now in
    let at = sym c.place_of.ensures.value ∙ c.in-Some.is in
    put_there w c.requires.consistent c.args.e c.in-Some.place at c.args.part.now.ty.0
    (has_is w c.requires.consistent c.args.e c.in-Some.place at c.block.result.now c.types.result.now c.args.part.now.ty.0 _ c.block.ensures c.types.ensures.value c.if-not-has.ensures.value)

pub returns : goal.returns
returns c =
    let w = c.args.w.now in
    let q = seen c.args.part.now in
    let at = sym c.place_of.ensures.value ∙ c.in-Some.is in
    let x = found_at c.in-Some.place.row (its w c.requires.consistent c.args.e c.in-Some.place at) in
    let gives = write_always (state_of w) c.args.e (Set q) x (found_there w c.requires.consistent c.args.e c.in-Some.place at) (state_of c.put_values.new.w) q.type_id _
    (ap (λ b. cond (not b) (Skips skip.NoComponent) (values_set x q.type_id (λ _. q.values)))
    (has_is w c.requires.consistent c.args.e c.in-Some.place at c.block.result.now c.types.result.now q.type_id _ c.block.ensures c.types.ensures.value c.if-not-has.ensures.value))
    (entity_there w c.requires.consistent c.args.e c.in-Some.place at)
    (of_number w c.requires.consistent c.args.e c.in-Some.place at (λ b. WritesIn (state_of w) (state_of c.put_values.new.w) (q.type_id ∷ []) (row_put q (row_in c.in-Some.place.row b.block.rows))) c.put_values.ensures.puts) in
    record {
      consistent = record {
        agrees = c.put_values.ensures.agrees;
        lawful = lawful_always (state_of w) (state_of c.put_values.new.w) (On c.args.e (Set q)) (Ok tt) c.requires.suits c.requires.consistent.lawful gives;
      };
      gives = gives;
    }
