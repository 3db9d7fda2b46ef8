use Rattle.std.proofs.Common.{◌≡◌, ◌<◌, ◌∙◌, [], ◌∷◌, ◌++◌, length, ap, arith, of_z, to_z, w32}
use Rattle.std.proofs.lemmas.Int.{to_z-of_z}
use Rattle.command_record.specs.declared.chain.Entry.{Entry}
use Rattle.command_record.specs.declared.chain.Head.{Head}
use Rattle.command_record.specs.declared.chain.TheConstants.{MOST_ENTRIES}
use Rattle.command_record.specs.Chains.{ChainState}
use Rattle.command_record.specs.Heads.{entries_from}
use Rattle.command_record.proofs.Chains.{IsAdded, kept_added, entries_added, count_entries}
use Rattle.command_record.proofs.chain.Chain.add.Goals as goal

abbrev head_of : goal.After-push_reserved → Head
head_of c = record {
  key = to_z w32 (of_z w32 c.args.key);
  row = c.args.row;
  number = c.args.number;
  act = c.make_act.result;
  parts = record { start = c.len-parts.result; end = c.len.result };
  values = record { start = c.len-values.result; end = c.len-2.result };
}

head_added : (c : goal.After-push_reserved) → IsAdded c.keep.new.heads.items c.self.inside.parts.items c.keep.new.values.items c.self.inside.values.items c.args.command.now (head_of c)
head_added c = record {
  parts_are = c.in_default.ensures.heads;
  values_are = c.in_default.ensures.values;
  act = c.make_act.ensures;
  parts_start = c.len-parts.ensures ∙ c.self.inside.parts.ok.0;
  parts_end = c.len.ensures ∙ c.keep.new.heads.ok.0;
  values_start = c.len-values.ensures ∙ c.self.inside.values.ok.0;
  values_end = c.len-2.ensures ∙ c.keep.new.values.ok.0;
}

heads_are : (c : goal.After-push_reserved) → c.push_reserved.new.self.items ≡ c.self.inside.heads.items ++ head_of c ∷ []
heads_are c = c.push_reserved.ensures.items ∙ ap (λ hs. hs ++ head_of c ∷ []) c.reserve.ensures.items

pub invariant_of-self-2 : goal.invariant_of-self-2
invariant_of-self-2 c =
    let chain = c.self.inside in
    let few : length chain.heads.items < MOST_ENTRIES =
    omega (arith, c.requires, count_entries chain.item chain.parts.items chain.values.items chain.heads.items, ap (λ (s : ChainState). length s.entries) c.self.view_is) in
    rw (heads_are c)
    (kept_added chain.parts.items chain.values.items chain.heads.items c.self.invariant c.keep.new.heads.items c.keep.new.values.items c.args.command.now (head_of c) (head_added c) few)

pub returns-clause-ok : goal.returns-clause-ok
returns-clause-ok c =
    let chain = c.self.inside in
    let entries = entries_from chain.item chain.parts.items chain.values.items chain.heads.items in
    rw (← c.self.view_is) (ap (λ es. let s : ChainState = record { item = chain.item; entries = es } in s)
    (ap (entries_from chain.item c.keep.new.heads.items c.keep.new.values.items) (heads_are c)
    ∙ entries_added chain.parts.items chain.values.items chain.heads.items c.self.invariant c.keep.new.heads.items c.keep.new.values.items c.args.command.now (head_of c) (head_added c) chain.item
    ∙ ap (λ key. entries ++ (let e : Entry = record { key = key; item = chain.item; row = c.args.row; number = c.args.number; command = c.args.command.now } in e) ∷ [])
    (to_z-of_z w32 c.args.key c.ranges.key)))
