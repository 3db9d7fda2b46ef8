-- Rows that can be read, though types of their blocks may be lent.
use Rattle.std.specs.Prelude.{ℕ, ◌≡◌, false, List}
use Rattle.ent_types.specs.declared.type_info.TypeInfo.{TypeInfo}
use Rattle.ent_types.specs.TypeSets.{has_type}
use Rattle.world_model.specs.Members.{In}
use Rattle.archetype_store.specs.Stores.{Numbered}
use Rattle.world_rows.specs.Reading.{CanRead}
use Rattle.world_rows.specs.Rows.{own_types}
use Rattle.world_loans.specs.Plans.{lent_by}

-- the block has the row, and some of its types are lent
pub record CanFind (registry : List TypeInfo) (k : ℕ) (b : Numbered) : Type 0 where
  pub whole : Numbered
  pub lent : List ℕ
  pub is : b ≡ lent_by (λ _. lent) whole
  pub can : CanRead registry k whole

-- and this type isn't lent
pub record CanReadType (registry : List TypeInfo) (t k : ℕ) (b : Numbered) : Type 0 where
  pub row : CanFind registry k b
  pub held : In t (own_types registry row.whole.block.types) → has_type row.lent t ≡ false
