use Rattle.std.proofs.Common.{◌≡◌, ◌++◌, ◌<◌, ◌∙◌, ap, sym, subst, length, map, List, ℕ, Some}
use Rattle.std.proofs.lemmas.List.{length-map}
use Rattle.std.proofs.lemmas.Result.{on_ok_weaker}
use Rattle.world_model.specs.Found.{part_at}
use Rattle.world_model.specs.Members.{In}
use Rattle.world_model.specs.Row.{Row}
use Rattle.chunk_block.specs.Blocks.{BlockState, Lacks, OfType, content_at}
use Rattle.archetype_store.specs.Stores.{Numbered}
use Rattle.world_places.proofs.Numbers.{of_both, of_member, of_more}
use Rattle.world_rows.specs.Reading.{CanRead, found_at}
use Rattle.world_rows.proofs.ByType.{shared_there}
use Rattle.structural_ops.proofs.Readable.{at_block}
use Rattle.world_text.specs.Lines.{type_text}
use Rattle.world_text.proofs.RowText.{cell_fits, not_lacks, own_shape, own_text_read, shared_text}
use Rattle.world_text.proofs.rows.push_type.Goals as goal

pub shared_of-requires : goal.shared_of-requires
shared_of-requires c =
    of_more c.args.place.block _ _ c.args.store.now.blocks (λ b is. shared_there c.args.registry.now (found_at c.args.place.row b) is.0.lawful c.args.ty.0 (sym c.if-is_shared.ensures) is.1) c.requires

pub push_shared-requires-clause-known : goal.push_shared-requires-clause-known
push_shared-requires-clause-known c =
    let (b, i, number, can) = of_member c.args.place.block (λ (b : Numbered). CanRead c.args.registry.now c.args.place.row b × In c.args.ty.0 b.block.types) c.args.store.now.blocks c.requires in
    can.0.lawful.home.known c.args.ty.0 can.1

pub returns-then-is_shared : goal.returns-then-is_shared
returns-then-is_shared c =
    on_ok_weaker c.push_shared.result
    (λ pushed.
    of_both c.args.place.block (λ (b : Numbered). CanRead c.args.registry.now c.args.place.row b × In c.args.ty.0 b.block.types) (λ (b : Numbered). part_at c.args.ty.0 b.shared ≡ Some c.shared_of.result.now)
    (λ (b : Numbered). c.push_shared.new.line.items ≡ c.args.line.now.items ++ type_text c.args.registry.now (found_at c.args.place.row b) c.args.ty.0) c.args.store.now.blocks
    (λ b can there.
    pushed
    ∙ ap (λ (text : List ℕ). c.args.line.now.items ++ text)
    (shared_text c.args.registry.now c.args.place.row c.args.ty.0 b can.0 can.1 (sym c.if-is_shared.ensures) c.as_slice-values.result.now (there ∙ ap Some (sym c.as_slice-values.ensures))))
    c.requires c.shared_of.ensures)
    c.push_shared.ensures

pub block-requires : goal.block-requires
block-requires c = of_more c.args.place.block _ _ c.args.store.now.blocks (λ b is. tt) c.requires

pub push_own-requires-clause-known : goal.push_own-requires-clause-known
push_own-requires-clause-known c =
    at_block c.args.place.block (λ (b : Numbered). CanRead c.args.registry.now c.args.place.row b × In c.args.ty.0 b.block.types) c.args.store.now.blocks c.block.result.now c.block.ensures c.requires
    (λ b is can. can.0.lawful.home.known c.args.ty.0 can.1)

pub push_own-requires-clause-within : goal.push_own-requires-clause-within
push_own-requires-clause-within c =
    at_block c.args.place.block (λ (b : Numbered). CanRead c.args.registry.now c.args.place.row b × In c.args.ty.0 b.block.types) c.args.store.now.blocks c.block.result.now c.block.ensures c.requires
    (λ b is can.
    subst (λ n. c.args.place.row < n)
    (sym (ap length c.in-Some.ensures.cells ∙ length-map c.block.result.now.rows (λ (r : Row). content_at c.args.ty.0 r.cells) ∙ ap (λ (s : BlockState). length s.rows) is)) can.0.there)

pub push_own-requires-clause-shape : goal.push_own-requires-clause-shape
push_own-requires-clause-shape c =
    at_block c.args.place.block (λ (b : Numbered). CanRead c.args.registry.now c.args.place.row b × In c.args.ty.0 b.block.types) c.args.store.now.blocks c.block.result.now c.block.ensures c.requires
    (λ b is can.
    own_shape c.args.registry.now c.args.place.row c.args.ty.0 b can.0 can.1 (sym c.if-is_shared.ensures) c.in-Some.rows.now.shape
    (subst (λ (s : BlockState). OfType c.args.ty.0 (λ shape. c.in-Some.rows.now.shape ≡ shape) s.columns) is c.in-Some.ensures.shape))

pub push_own-requires-clause-fit : goal.push_own-requires-clause-fit
push_own-requires-clause-fit c =
    at_block c.args.place.block (λ (b : Numbered). CanRead c.args.registry.now c.args.place.row b × In c.args.ty.0 b.block.types) c.args.store.now.blocks c.block.result.now c.block.ensures c.requires
    (λ b is can.
    cell_fits c.args.registry.now c.args.place.row c.args.ty.0 b can.0 can.1 (sym c.if-is_shared.ensures) c.in-Some.rows.now.cells
    (c.in-Some.ensures.cells ∙ ap (λ (s : BlockState). map (λ (r : Row). content_at c.args.ty.0 r.cells) s.rows) is))

pub unreachable-requires : goal.unreachable-requires
unreachable-requires c =
    at_block c.args.place.block (λ (b : Numbered). CanRead c.args.registry.now c.args.place.row b × In c.args.ty.0 b.block.types) c.args.store.now.blocks c.block.result.now c.block.ensures c.requires
    (λ b is can.
    not_lacks c.args.registry.now c.args.place.row c.args.ty.0 b can.0 can.1 (sym c.if-is_shared.ensures) (subst (λ (s : BlockState). Lacks c.args.ty.0 s.columns) is c.in-None.ensures.shape))

pub returns : goal.returns
returns c =
    on_ok_weaker c.push_own.result
    (λ pushed.
    of_both c.args.place.block (λ (b : Numbered). CanRead c.args.registry.now c.args.place.row b × In c.args.ty.0 b.block.types) (λ (b : Numbered). c.block.result.now ≡ b.block)
    (λ (b : Numbered). c.push_own.new.line.items ≡ c.args.line.now.items ++ type_text c.args.registry.now (found_at c.args.place.row b) c.args.ty.0) c.args.store.now.blocks
    (λ b can is.
    pushed
    ∙ ap (λ (text : List ℕ). c.args.line.now.items ++ text)
    (own_text_read c.args.registry.now c.args.place.row c.args.ty.0 b can.0 can.1 (sym c.if-is_shared.ensures) c.in-Some.rows.now.cells
    (c.in-Some.ensures.cells ∙ ap (λ (s : BlockState). map (λ (r : Row). content_at c.args.ty.0 r.cells) s.rows) is)))
    c.requires c.block.ensures)
    c.push_own.ensures
