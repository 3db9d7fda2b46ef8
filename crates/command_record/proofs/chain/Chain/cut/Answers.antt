use Rattle.std.proofs.Common.{◌≡◌, ◌<◌, ◌∙◌, Some, length, slice_get, take, refl, ap, ap₂, arith}
use Rattle.std.proofs.lemmas.Option.{slice_get_read}
use Rattle.command_record.specs.Chains.{ChainState}
use Rattle.command_record.specs.Heads.{entries_from}
use Rattle.command_record.proofs.Chains.{kept_cut, entries_cut, count_entries}
use Rattle.command_record.proofs.chain.Chain.cut.Goals as goal

first_cut : (c : goal.After-truncate-3) → slice_get c.self.inside.heads.items c.args.len ≡ Some c.index-next.result.now
first_cut c =
    let chain = c.self.inside in
    let below : c.args.len < length chain.heads.items = omega (
      arith,
      c.requires,
      c.if-len.false,
      c.len.ensures,
      chain.heads.ok.0,
      count_entries chain.item chain.parts.items chain.values.items chain.heads.items,
      ap (λ (s : ChainState). length s.entries) c.self.view_is,
    ) in
    slice_get_read chain.heads.items (length chain.heads.items) c.args.len c.index-next.result.now refl below c.index-next.ensures

pub invariant_of-self : goal.invariant_of-self
invariant_of-self c =
    let chain = c.self.inside in
    rw (c.truncate.ensures.items, c.truncate-2.ensures.items, c.truncate-3.ensures.items)
    (kept_cut chain.parts.items chain.values.items chain.heads.items c.self.invariant c.args.len c.index-next.result.now (first_cut c))

pub returns : goal.returns
returns c =
    let chain = c.self.inside in
    let next = c.index-next.result.now in
    rw (← c.self.view_is) (ap (λ es. let s : ChainState = record { item = chain.item; entries = es } in s)
    (ap (entries_from chain.item c.truncate-2.new.self.items c.truncate-3.new.self.items) c.truncate.ensures.items
    ∙ ap₂ (λ parts values. entries_from chain.item parts values (take c.args.len chain.heads.items)) c.truncate-2.ensures.items c.truncate-3.ensures.items
    ∙ entries_cut chain.parts.items chain.values.items chain.heads.items c.self.invariant c.args.len next (first_cut c) chain.item))
