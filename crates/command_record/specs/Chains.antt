-- What contracts see of a chain.
use Rattle.std.specs.Prelude.{◌≡◌, ℕ, ℤ, List, [], ◌∷◌, ◌++◌}
use Rattle.world_model.specs.Members.{In}
use Rattle.command_record.specs.declared.command.Command.{Command}
use Rattle.command_record.specs.declared.chain.Entry.{Entry}

-- the number of the item, and what it recorded, in order
pub record ChainState : Type 0 where
  pub item : ℕ
  pub entries : List Entry

-- each entry has the item's number
abbrev pub AreOwn : ChainState → Type 0
AreOwn c = (e : Entry) → In e c.entries → e.item ≡ c.item

-- the chain after its item recorded one more command
abbrev pub with_entry : ChainState → ℤ → ℕ → ℕ → Command → ChainState
with_entry c key row number command = record c {
  entries = c.entries ++ record { key = key; item = c.item; row = row; number = number; command = command } ∷ [];
}
