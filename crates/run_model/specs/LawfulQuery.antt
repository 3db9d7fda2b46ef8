-- Which queries and filters are lawful: what is guaranteed of each system that was read. And rows with other bits.
use Rattle.std.specs.Prelude.{◌≡◌, ℕ, ◌≤◌, Bool, true, false, ◌&&◌, List, ◌++◌, length, map}
use Rattle.ent_types.specs.declared.limits.TheConstants.{MOST_CHANGED, MOST_SHARED_FILTERS}
use Rattle.ent_types.specs.declared.type_info.TypeInfo.{TypeInfo}
use Rattle.ent_types.specs.declared.value.Part.{Part}
use Rattle.ent_types.specs.TypeLookups.{is_shared_at, is_enableable_at}
use Rattle.world_model.specs.Members.{In, AreDistinct}
use Rattle.world_model.specs.Fits.{Fits, IsKnown}
use Rattle.world_model.specs.Row.{Cell}
use Rattle.world_model.specs.Found.{Found}
use Rattle.scenario_record.specs.declared.record.SystemEntry.{SystemEntry}
use Rattle.run_model.specs.Query.{matches}

-- the types of the five lists of a query
abbrev pub query_types : SystemEntry → List ℕ
query_types s = s.all ++ (s.any ++ (s.none ++ (s.disabled ++ s.absent)))

pub record IsLawfulQuery (registry : List TypeInfo) (s : SystemEntry) : Type 0 where
  pub known : (t : ℕ) → In t (query_types s) → IsKnown registry t
  -- no type is in two of the lists, or twice in one
  pub once : AreDistinct (query_types s)
  pub disabled : (t : ℕ) → In t s.disabled → is_enableable_at registry t ≡ true

-- a type of the change filter is in `all` and isn't shared
pub record IsWatched (registry : List TypeInfo) (s : SystemEntry) (t : ℕ) : Type 0 where
  pub bound : In t s.all
  pub own : is_shared_at registry t ≡ false

-- a part of the shared filter is a shared type of `all`, with values that fit
pub record IsShared (registry : List TypeInfo) (s : SystemEntry) (p : Part) : Type 0 where
  pub bound : In p.ty.0 s.all
  pub shared : is_shared_at registry p.ty.0 ≡ true
  pub fit : Fits registry p.ty.0 p.values

pub record IsLawfulFilter (registry : List TypeInfo) (s : SystemEntry) : Type 0 where
  pub few_changed : length s.changed ≤ MOST_CHANGED
  pub changed : (t : ℕ) → In t s.changed → IsWatched registry s t
  pub few_shared : length s.shared ≤ MOST_SHARED_FILTERS
  pub once : AreDistinct (map (λ (p : Part). p.ty.0) s.shared)
  pub shared : (p : Part) → In p s.shared → IsShared registry s p

-- ---- bits

-- a row in which other types are disabled: of those that can be, the ones for which `off` holds
abbrev pub with_bits : List TypeInfo → (ℕ → Bool) → Found → Found
with_bits registry off x = record x {
  row = record (x.row) { cells = map (λ (c : Cell). record c { off = is_enableable_at registry c.type_id && off c.type_id }) x.row.cells };
}

-- some choice of what is disabled in a row lets it match
pub record SomeBitsMatch (registry : List TypeInfo) (s : SystemEntry) (x : Found) : Type 0 where
  pub off : ℕ → Bool
  pub is_match : matches registry s (with_bits registry off x) ≡ true
