use Rattle.std.proofs.Common.{◌∙◌, ap, length}
use Rattle.std.proofs.lemmas.List.{length-map}
use Rattle.chunk_layout.specs.Places.{Layout}
use Rattle.ent_types.specs.TypeLookups.{column_size_at}
use Rattle.world_text.proofs.Listing.{as_many_places}
use Rattle.world_text.proofs.layout.push_types.Goals as goal

pub push_columns-requires-clause-places : goal.push_columns-requires-clause-places
push_columns-requires-clause-places c =
    ap length (c.places.ensures ∙ ap (λ (l : Layout). l.places) c.in-Some.ensures.places) ∙ as_many_places _ _ c.as_slice.result.now
    ∙ ap length (c.as_slice.ensures.value ∙ c.sizes_of-sizes.ensures.value) ∙ length-map c.args.types.now (column_size_at c.args.registry.now)
