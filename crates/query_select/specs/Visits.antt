-- The visits of a run, by the numbers of the blocks.
use Rattle.std.specs.Prelude.{ℕ, ◌≡◌, ◌+◌, ◌-◌, if◌then◌else◌, nat_eq, List, [], ◌∷◌, ◌++◌, length, map, filter, find, Option, Some, None}
use Rattle.std.specs.List.{list_any}
use Rattle.std.specs.Option.{IfSome}
use Rattle.ent_types.specs.declared.type_info.TypeInfo.{TypeInfo}
use Rattle.ent_types.specs.TypeSets.{has_type}
use Rattle.world_model.specs.Members.{In, IsRising, tally}
use Rattle.world_model.specs.World.{Block, mark_type}
use Rattle.chunk_block.specs.Blocks.{BlockState, IsWhole, new_types}
use Rattle.archetype_store.specs.Stores.{Numbered, StoreState, OfNumber, numbers_in, rank_of, registry_of, shape_list}
use Rattle.world_places.specs.Placing.{home_of}
use Rattle.scenario_record.specs.declared.record.SystemEntry.{SystemEntry}
use Rattle.run_model.specs.Clock.{Clock}
use Rattle.run_model.specs.Query.{Visit as ModelVisit, matches, passes, visits}
use Rattle.query_select.specs.declared.filter.Filter.{Filter}
use Rattle.query_select.specs.declared.visits.Visit.{Visit}
use Rattle.query_select.specs.declared.visits.Candidate.{Candidate}
use Rattle.query_select.specs.Filters.{CanFilter, passes_filter}
use Rattle.query_select.specs.Rows.{matching_places}

-- ---- what contracts see

-- a visit of a run, by the number of its block and the places of its rows
abbrev pub visit_of : ℕ → ModelVisit → Visit
visit_of n v = record { block = n; rows = map (λ p. p.place) v.rows }

-- the visits of a run to blocks that have these numbers, in block order
abbrev pub numbered_visits : Clock → List TypeInfo → SystemEntry → Option ℕ → List ℕ → List Block → List Visit
numbered_visits clock registry s last [] bs = []
numbered_visits clock registry s last (n ∷ ns) [] = []
numbered_visits clock registry s last (n ∷ ns) (b ∷ bs) =
    map (visit_of n) (visits registry clock s last (b ∷ [])) ++ numbered_visits clock registry s last ns bs

-- The most steps that a call takes: one for each archetype that the cache hasn't seen, one for each archetype whose types pass, and
-- one for each block of these.
abbrev pub most_steps : List TypeInfo → SystemEntry → List (List ℕ) → List Block → ℕ → ℕ
most_steps registry s archetypes blocks seen =
    (length archetypes - seen) + (tally (passes registry s) archetypes + tally (λ b. passes registry s b.home.types) blocks)

-- ---- blocks by their numbers

abbrev pub block_at : ℕ → List Numbered → Option Numbered
block_at n blocks = find (λ b. nat_eq b.number n) blocks

abbrev pub of_found : {X : Type 0} → (Numbered → List X) → Option Numbered → List X
of_found f None = []
of_found f (Some b) = f b

-- the block of a number, if it passes the filter
abbrev pub candidate_if : StoreState → Filter → ℕ → ℕ → Numbered → List Candidate
candidate_if s filter last n b = if passes_filter filter last b then record { rank = rank_of n s.blocks s.ranks; number = n } ∷ [] else []

abbrev pub candidates_at : StoreState → Filter → ℕ → ℕ → List Candidate
candidates_at s filter last n = of_found (candidate_if s filter last n) (block_at n s.blocks)

-- the visit of the block of a number, if some row of it matches
abbrev pub visit_if : List TypeInfo → SystemEntry → ℕ → Numbered → List Visit
visit_if registry s n b =
    if list_any (λ r. matches registry s (record { home = home_of b; row = r })) b.block.rows
    then record { block = n; rows = matching_places registry s (home_of b) b.block.rows } ∷ []
    else []

abbrev pub visits_at : StoreState → SystemEntry → ℕ → List Visit
visits_at s entry n = of_found (visit_if (registry_of s) entry n) (block_at n s.blocks)

-- ---- blocks of archetypes

-- the blocks of some archetypes, in block order
abbrev pub blocks_among : List ℕ → List Numbered → List Numbered
blocks_among matching blocks = filter (λ b. has_type matching b.archetype) blocks

-- the visit of a block, if it passes the filter and some row of it matches
abbrev pub visits_if : StoreState → SystemEntry → Filter → ℕ → Numbered → List Visit
visits_if s entry filter last b = if passes_filter filter last b then visit_if (registry_of s) entry b.number b else []

-- ---- what is asked of blocks

-- the blocks of an archetype can be filtered
abbrev pub AreFilterable : Filter → StoreState → ℕ → Type 0
AreFilterable filter s a = (n : ℕ) → In n (numbers_in a s.blocks) → OfNumber n (CanFilter filter) s.blocks

-- nothing of a block is lent, and its types are those of a registry
pub record IsWholeOf (registry : List TypeInfo) (b : Numbered) : Type 0 where
  pub whole : IsWhole b.block.columns
  pub shapes : shape_list b.block.columns ≡ shape_list (new_types registry b.block.types)

-- nothing of a block is lent, and there is one mark for each of its types
pub record IsReady (b : BlockState) : Type 0 where
  pub whole : IsWhole b.columns
  pub marked : map mark_type b.marks ≡ b.types
  pub rising : IsRising b.types

-- the blocks of a store are ready, and their types are those of the registry
pub record CanSelect (registry : List TypeInfo) (s : StoreState) : Type 0 where
  pub registered : IfSome s.registry (λ r. r ≡ registry)
  pub blocks : (b : Numbered) → In b s.blocks → IsReady b.block
