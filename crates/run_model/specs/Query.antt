-- Which rows a system takes: its five lists of types, the two tags, and the filters of blocks.
use Rattle.std.specs.Prelude.{ℕ, ◌+◌, Bool, true, false, not, ◌&&◌, ◌||◌, if◌then◌else◌, nat_eq, List, [], ◌∷◌, ◌++◌, Option, Some, None}
use Rattle.std.specs.List.{list_any, list_all}
use Rattle.ent_types.specs.declared.entity.TypeId.{TypeId}
use Rattle.ent_types.specs.declared.entity.TheConstants.TypeId.{DISABLED, PREFAB}
use Rattle.ent_types.specs.declared.type_info.TypeInfo.{TypeInfo}
use Rattle.ent_types.specs.TypeLookups.{is_enableable_at}
use Rattle.ent_types.specs.TypeSets.{has_type}
use Rattle.world_model.specs.Part.{same_part, part_of}
use Rattle.world_model.specs.Row.{Cell, Row}
use Rattle.world_model.specs.World.{Home, Block}
use Rattle.world_model.specs.Found.{Found}
use Rattle.scenario_record.specs.declared.record.SystemEntry.{SystemEntry}
use Rattle.run_model.specs.Clock.{Clock}

-- a row at its place in a block
pub record PlacedRow : Type 0 where
  pub place : ℕ
  pub row : Row

-- a block that a run visits, with its matching rows
pub record Visit : Type 0 where
  pub block : Block
  pub rows : List PlacedRow

abbrev pub is_empty : List ℕ → Bool
is_empty [] = true
is_empty (t ∷ ts) = false

-- ---- types

-- A tag hides the rows that have it. A system sees them where it includes them, or names the tag in `all` or `any`.
abbrev pub is_seen : SystemEntry → TypeId → Bool → List ℕ → Bool
is_seen s tag included types = not (has_type types tag.0) || (included || (has_type s.all tag.0 || has_type s.any tag.0))

abbrev pub are_tags_seen : SystemEntry → List ℕ → Bool
are_tags_seen s types = is_seen s DISABLED s.include_disabled types && is_seen s PREFAB s.include_prefab types

-- the values of the filter are those of the home
abbrev pub has_shared : SystemEntry → Home → Bool
has_shared s home = list_all (λ p. list_any (same_part (part_of p)) home.shared) s.shared

module _ (registry : List TypeInfo) where
  -- ---- rows

  -- whether an enableable type is disabled in some cells
  abbrev pub is_off : ℕ → List Cell → Bool
  is_off t cells = is_enableable_at registry t && list_any (λ c. nat_eq c.type_id t && c.off) cells

  -- a type is on in a row: the row has it, its own or shared, and it isn't disabled there
  abbrev pub is_on : Found → ℕ → Bool
  is_on x t = has_type x.home.types t && not (is_off t x.row.cells)

  abbrev pub is_disabled : Found → ℕ → Bool
  is_disabled x t = has_type x.home.types t && is_off t x.row.cells

  -- Each `all` type is on; there is no `any` type, or one is on; no `none` type is on; each `disabled` type is there and
  -- disabled; no `absent` type is there; and the two tags don't hide the row.
  abbrev pub matches : SystemEntry → Found → Bool
  matches s x =
      list_all (is_on x) s.all && ((is_empty s.any || list_any (is_on x) s.any)
      && (not (list_any (is_on x) s.none) && (list_all (is_disabled x) s.disabled
      && (not (list_any (has_type x.home.types) s.absent) && are_tags_seen s x.home.types))))

  -- ---- blocks

  -- some choice of what is disabled lets a row with these types match
  abbrev pub passes : SystemEntry → List ℕ → Bool
  passes s types =
      list_all (has_type types) s.all && ((is_empty s.any || list_any (has_type types) s.any)
      && (not (list_any (λ t. has_type types t && not (is_enableable_at registry t)) s.none) && (list_all (has_type types) s.disabled
      && (not (list_any (has_type types) s.absent) && are_tags_seen s types))))

  module _ (clock : Clock) (s : SystemEntry) where
    -- The change filter. It lets each block pass where the system never ran, or where it names nothing and doesn't ask for
    -- the order. Else one of its types, or the order where it asks for it, was marked after the last run.
    abbrev pub is_fresh : Option ℕ → Block → Bool
    is_fresh None b = true
    is_fresh (Some last) b =
        (is_empty s.changed && not s.order_changed)
        || (list_any (λ m. has_type s.changed m.type_id && clock.is_later m.moment last) b.marks
        || (s.order_changed && clock.is_later b.order last))

    abbrev pub is_visited : Option ℕ → Block → Bool
    is_visited last b =
        (passes s b.home.types && has_shared s b.home)
        && (is_fresh last b && list_any (λ r. matches s (record { home = b.home; row = r })) b.rows)

    -- ---- visits

    -- the matching rows among those of a home, from this place on
    abbrev pub matching_rows : Home → ℕ → List Row → List PlacedRow
    matching_rows home place [] = []
    matching_rows home place (r ∷ rs) =
        (if matches s (record { home = home; row = r }) then record { place = place; row = r } ∷ [] else [])
        ++ matching_rows home (place + 1) rs

    -- the visits of a run, in block order
    abbrev pub visits : Option ℕ → List Block → List Visit
    visits last [] = []
    visits last (b ∷ bs) =
        (if is_visited last b then record { block = b; rows = matching_rows b.home 0 b.rows } ∷ [] else []) ++ visits last bs
