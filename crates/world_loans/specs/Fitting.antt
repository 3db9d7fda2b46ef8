-- Pieces whose values fit their types.
use Rattle.std.specs.Prelude.{ℕ, ◌≡◌, ◌<◌, true, List, length}
use Rattle.ent_types.specs.declared.type_info.TypeInfo.{TypeInfo}
use Rattle.ent_types.specs.TypeLookups.{is_enableable_at}
use Rattle.world_model.specs.Fits.{Fits}
use Rattle.world_model.specs.Members.{In}
use Rattle.block_columns.specs.Types.{TypeState, Content, cell_in}

-- the values fit the type, which is enableable if it is disabled
abbrev pub FitsType : List TypeInfo → ℕ → Content → Type 0
FitsType registry t c = Fits registry t c.values × (c.off ≡ true → is_enableable_at registry t ≡ true)

-- each cell of each piece fits
abbrev pub AreFitting : List TypeInfo → List TypeState → Type 0
AreFitting registry pieces = (x : TypeState) → In x pieces → (k : ℕ) → k < length x.cells → FitsType registry x.shape.ty.0 (cell_in k x.cells)
