use Rattle.std.proofs.Common.{◌∙◌, sym, subst, ap}
use Rattle.enable_bits.specs.Masks.{IsMask}
use Rattle.enable_bits.proofs.MaskLemmas.{places_where-IsMask}
use Rattle.query_select.specs.Entries.{entry_of}
use Rattle.query_select.proofs.RowMasks.{admits, empty_places, empty_is, places_of_all, places_of_any}
use Rattle.query_select.proofs.query.Query.row_mask.Goals as goal

pub returns-then-not-admits : goal.returns-then-not-admits
returns-then-not-admits c = λ registry filter shared shapes.
    c.empty.ensures
    ∙ empty_places registry (entry_of c.args.self.now filter) (record { types = c.args.block.now.types; shared = shared }) c.args.block.now.rows
    (ap (admits (entry_of c.args.self.now filter)) (sym c.types.ensures.value) ∙ sym c.admits.ensures ∙ c.if-not-admits.true)

pub without_disabled-rows-requires-clause-mask : goal.without_disabled-rows-requires-clause-mask
without_disabled-rows-requires-clause-mask c = subst IsMask (sym c.all_rows.ensures.rows) (places_where-IsMask _)

pub returns-then-is_empty : goal.returns-then-is_empty
returns-then-is_empty c = λ registry filter shared shapes.
    places_of_all registry (entry_of c.args.self.now filter) c.args.block.now c.types.ensures.distinct c.types.ensures.cells shapes c.all_rows.ensures.few shared
    (ap (admits (entry_of c.args.self.now filter)) (sym c.types.ensures.value) ∙ sym c.admits.ensures ∙ c.if-not-admits.false)
    c.all_rows.result c.without_disabled-rows.result c.without_any_on-rows.result c.without_any_on-rows-2.result c.all_rows.ensures.rows
    c.without_disabled-rows.ensures.rows c.without_any_on-rows.ensures.rows c.without_any_on-rows-2.ensures.rows
    (sym (empty_is c.is_empty.result c.args.self.now.any c.is_empty.ensures) ∙ c.if-is_empty.true) c.without_any_on-rows-2.ensures.mask

pub returns : goal.returns
returns c = λ registry filter shared shapes.
    c.and_not.ensures
    ∙ places_of_any registry (entry_of c.args.self.now filter) c.args.block.now c.types.ensures.distinct c.types.ensures.cells shapes c.all_rows.ensures.few shared
    (ap (admits (entry_of c.args.self.now filter)) (sym c.types.ensures.value) ∙ sym c.admits.ensures ∙ c.if-not-admits.false)
    c.all_rows.result c.without_disabled-rows.result c.without_any_on-rows.result c.without_any_on-rows-2.result c.all_rows.ensures.rows
    c.without_disabled-rows.ensures.rows c.without_any_on-rows.ensures.rows c.without_any_on-rows-2.ensures.rows
    (sym (empty_is c.is_empty.result c.args.self.now.any c.is_empty.ensures) ∙ c.if-is_empty.false) c.without_any_on.result c.without_any_on.ensures.rows
