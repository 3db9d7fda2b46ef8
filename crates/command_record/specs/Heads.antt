-- A chain as it is kept: a head for each entry, which says where the entry's parts and values are in two flat lists.
use Rattle.std.specs.Prelude.{ℕ, ◌≤◌, List, length, map, All, AllPairs}
use Rattle.command_record.specs.declared.command.CmdValue.{CmdValue}
use Rattle.command_record.specs.declared.kept.PartHead.{PartHead}
use Rattle.command_record.specs.declared.kept.Span.{Span}
use Rattle.command_record.specs.declared.chain.Entry.{Entry}
use Rattle.command_record.specs.declared.chain.Head.{Head}
use Rattle.command_record.specs.declared.chain.TheConstants.{MOST_ENTRIES}
use Rattle.command_record.specs.declared.chain.Chain.TheInside.{Inside}
use Rattle.command_record.specs.Kept.{within, count_in, command_from}
use Rattle.command_record.specs.Chains.{ChainState}

-- the entry of a head
abbrev pub entry_from : ℕ → List PartHead → List CmdValue → Head → Entry
entry_from item parts values h = record {
  key = h.key;
  item = item;
  row = h.row;
  number = h.number;
  command = command_from h.act (within parts h.parts) (within values h.values);
}

abbrev pub entries_from : ℕ → List PartHead → List CmdValue → List Head → List Entry
entries_from item parts values heads = map (entry_from item parts values) heads

abbrev pub chain_of : Inside → ChainState
chain_of c = record { item = c.item; entries = entries_from c.item c.parts.items c.values.items c.heads.items }

-- the span lies within a list of this length
pub record Fits (span : Span) (len : ℕ) : Type 0 where
  pub ordered : span.start ≤ span.end
  pub ends : span.end ≤ len

-- what a head names is there: its part heads, and as many values as they count
pub record IsThere (part_heads : List PartHead) (all_values : List CmdValue) (h : Head) : Type 0 where
  pub parts : Fits h.parts (length part_heads)
  pub values : Fits h.values (length all_values)
  pub counts : count_in (within part_heads h.parts) ≤ length (within all_values h.values)

-- what a head names lies before what a later head names
pub record IsBefore (earlier later : Head) : Type 0 where
  pub parts : earlier.parts.end ≤ later.parts.start
  pub values : earlier.values.end ≤ later.values.start

-- what every chain keeps
pub record AreKept (parts : List PartHead) (values : List CmdValue) (heads : List Head) : Type 0 where
  pub there : All (IsThere parts values) heads
  pub rising : AllPairs IsBefore heads
  pub few : length heads ≤ MOST_ENTRIES

abbrev pub IsKept : Inside → Type 0
IsKept c = AreKept c.parts.items c.values.items c.heads.items
