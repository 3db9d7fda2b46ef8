-- The cache of a query: which archetypes match.
use Rattle.std.specs.Prelude.{ℕ, ◌≡◌, ◌≤◌, List, length, filter}
use Rattle.std.specs.List.{range_with_len}
use Rattle.ent_types.specs.declared.type_info.TypeInfo.{TypeInfo}
use Rattle.archetype_store.specs.Stores.{types_at}
use Rattle.scenario_record.specs.declared.record.SystemEntry.{SystemEntry}
use Rattle.run_model.specs.Query.{passes}

-- A cache has looked at the first archetypes, `seen` of them. `matching` has the ids of those whose types pass.
pub record CacheState : Type 0 where
  pub matching : List ℕ
  pub seen : ℕ

module _ (registry : List TypeInfo) (s : SystemEntry) (archetypes : List (List ℕ)) where
  -- the archetypes that match among the first ones
  abbrev pub matching_among : ℕ → List ℕ
  matching_among seen = filter (λ a. passes registry s (types_at archetypes a)) (range_with_len 0 seen)

  abbrev pub cache_after : ℕ → CacheState
  cache_after seen = record { matching = matching_among seen; seen = seen }

  -- the cache that has looked at all archetypes
  abbrev pub full_cache : CacheState
  full_cache = cache_after (length archetypes)

  -- the cache was used with this query and these archetypes alone
  pub record IsCacheOf (c : CacheState) : Type 0 where
    pub within : c.seen ≤ length archetypes
    pub is : c ≡ cache_after c.seen
