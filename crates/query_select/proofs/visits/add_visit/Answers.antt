use Rattle.std.proofs.Common.{◌≡◌, ◌∙◌, ◌++◌, ◌∷◌, [], List, nat_lt, true, false, cond, length, sym, ap, append-nil, arith, le-ltb, lt-ltb}
use Rattle.std.specs.Prelude.{⊤}
use Rattle.chunk_block.specs.Blocks.{IsWhole}
use Rattle.archetype_store.specs.Stores.{registry_of}
use Rattle.world_places.proofs.Numbers.{of_more}
use Rattle.query_select.specs.declared.visits.Visit.{Visit}
use Rattle.query_select.specs.Entries.{entry_of}
use Rattle.query_select.specs.Visits.{IsWholeOf}
use Rattle.query_select.proofs.ByNumber.{of_seen}
use Rattle.query_select.proofs.Visited.{places_of_number, visit_is}
use Rattle.query_select.proofs.visits.add_visit.Goals as goal

pub block-requires : goal.block-requires
block-requires c = of_more c.args.number (IsWholeOf (registry_of c.args.store.now)) (λ b. ⊤) c.args.store.now.blocks (λ b h. tt) c.requires

pub row_mask-rows-requires : goal.row_mask-rows-requires
row_mask-rows-requires c =
    of_seen c.args.number c.args.store.now.blocks c.block.result.now (IsWholeOf (registry_of c.args.store.now)) (λ s. IsWhole s.columns) (λ b h. h.whole) c.requires c.block.ensures

pub returns-then-count-eq0 : goal.returns-then-count-eq0
returns-then-count-eq0 c = λ filter.
    let s = c.args.store.now in
    let rows = c.row_mask-rows.result in
    let none : nat_lt 0 (length rows) ≡ false = le-ltb 0 (length rows) (omega (arith, c.count.ensures.value, c.if-count-eq0.true)) in
    sym (append-nil c.args.visits.now.items)
    ∙ ap (λ (vs : List Visit). c.args.visits.now.items ++ vs)
    (sym (ap (λ t. cond t ((let v : Visit = record { block = c.args.number; rows = rows } in v) ∷ []) []) none)
    ∙ visit_is s (entry_of c.args.query.now filter) c.args.number rows
    (places_of_number s (entry_of c.args.query.now filter) c.args.number c.block.result.now rows c.requires c.block.ensures (c.row_mask-rows.ensures (registry_of s) filter)))

pub returns : goal.returns
returns c = λ filter.
    let s = c.args.store.now in
    let rows = c.row_mask-rows.result in
    let some : nat_lt 0 (length rows) ≡ true = lt-ltb 0 (length rows) (omega (arith, c.count.ensures.value, c.if-count-eq0.false)) in
    c.in_ok-push.ensures.items
    ∙ ap (λ (vs : List Visit). c.args.visits.now.items ++ vs)
    (sym (ap (λ t. cond t ((let v : Visit = record { block = c.args.number; rows = rows } in v) ∷ []) []) some)
    ∙ visit_is s (entry_of c.args.query.now filter) c.args.number rows
    (places_of_number s (entry_of c.args.query.now filter) c.args.number c.block.result.now rows c.requires c.block.ensures (c.row_mask-rows.ensures (registry_of s) filter)))
