-- Visits that are alike: of two systems with one query and one filter, of two clocks, and with numbers or without.
use Rattle.std.proofs.Common.{◌≡◌, ℕ, ◌+◌, inl, inr, Bool, true, false, cond, List, [], ◌∷◌, ◌++◌, length, map, map-id, filter, Option, Some, None, refl, sym, ap, ap₂, ◌∙◌, arith, length-append}
use Rattle.std.specs.Prelude.{option_map}
use Rattle.std.specs.List.{range_with_len}
use Rattle.std.proofs.lemmas.List.{get_or_append_left}
use Rattle.ent_types.specs.declared.type_info.TypeInfo.{TypeInfo}
use Rattle.system_version.specs.Versions.{version_of, IsVersion}
use Rattle.world_model.specs.Found.{Found}
use Rattle.world_model.specs.Members.{In}
use Rattle.world_model.specs.Row.{Row}
use Rattle.world_model.specs.Versions.{block_versions}
use Rattle.world_model.specs.World.{Block, Home, World}
use Rattle.archetype_store.specs.Stores.{types_at}
use Rattle.scenario_record.specs.declared.record.SystemEntry.{SystemEntry}
use Rattle.run_model.specs.Clock.{Clock, moments, versions}
use Rattle.run_model.specs.Query.{PlacedRow, Visit as ModelVisit, is_visited, matches, matching_rows, passes, visits}
use Rattle.run_laws.specs.Versions.{HasMoments, IsLast}
use Rattle.run_laws.proofs.Clocks.{versions_alike, visited_same}
use Rattle.query_select.specs.declared.filter.Filter.{Filter}
use Rattle.query_select.specs.declared.query.Query.{Query}
use Rattle.query_select.specs.declared.visits.Visit.{Visit}
use Rattle.query_select.specs.Caches.{CacheState, IsCacheOf}
use Rattle.query_select.specs.Entries.{IsEntryOf, entry_of}
use Rattle.query_select.specs.Visits.{numbered_visits, visit_of}
use Rattle.query_select.proofs.Archetypes.{in_range}
use Rattle.query_select.proofs.Grouped.{filter_on}

-- ---- two systems, two clocks

module _ (c d : Clock) (registry : List TypeInfo) (s t : SystemEntry) (match : (x : Found) → matches registry s x ≡ matches registry t x) where
  rows_alike : (home : Home) (place : ℕ) (rows : List Row) → matching_rows registry c s home place rows ≡ matching_rows registry d t home place rows
  rows_alike home place [] = refl
  rows_alike home place (r ∷ rs) =
      ap₂ (λ b (rest : List PlacedRow). cond b (record { place = place; row = r } ∷ []) [] ++ rest) (match (record { home = home; row = r })) (rows_alike home (place + 1) rs)

  module _ (o p : Option ℕ) (f : Block → Block) (homes : (b : Block) → (f b).home ≡ b.home) (rows : (b : Block) → (f b).rows ≡ b.rows) where
    visit_alike : (n : ℕ) (b : Block) → is_visited registry c s o (f b) ≡ is_visited registry d t p b
        → map (visit_of n) (visits registry c s o (f b ∷ [])) ≡ map (visit_of n) (visits registry d t p (b ∷ []))
    visit_alike n b e =
        ap (λ v. map (visit_of n) (cond v (record { block = f b; rows = matching_rows registry c s (f b).home 0 (f b).rows } ∷ []) [] ++ [])) e
        ∙ by (is_visited registry d t p b)
      where
        same : matching_rows registry c s (f b).home 0 (f b).rows ≡ matching_rows registry d t b.home 0 b.rows
        same = ap₂ (λ home rs. matching_rows registry c s home 0 rs) (homes b) (rows b) ∙ rows_alike b.home 0 b.rows

        by : (v : Bool) → map (visit_of n) (cond v (record { block = f b; rows = matching_rows registry c s (f b).home 0 (f b).rows } ∷ []) [] ++ [])
            ≡ map (visit_of n) (cond v (record { block = b; rows = matching_rows registry d t b.home 0 b.rows } ∷ []) [] ++ [])
        by true = ap (λ (ps : List PlacedRow). (let x : Visit = record { block = n; rows = map (λ (q : PlacedRow). q.place) ps } in x) ∷ []) same
        by false = refl

    pub numbered_alike : (ns : List ℕ) (bs : List Block) → ((b : Block) → In b bs → is_visited registry c s o (f b) ≡ is_visited registry d t p b)
        → numbered_visits c registry s o ns (map f bs) ≡ numbered_visits d registry t p ns bs
    numbered_alike [] bs same = refl
    numbered_alike (n ∷ ns) [] same = refl
    numbered_alike (n ∷ ns) (b ∷ bs) same = ap₂ (λ xs ys. xs ++ ys) (visit_alike n b (same b (inl refl))) (numbered_alike ns bs (λ e i. same e (inr i)))

pub entries_alike : (query : Query) (filter : Filter) (s : SystemEntry) → IsEntryOf query filter s → (clock : Clock) (registry : List TypeInfo) (last : Option ℕ) (ns : List ℕ) (bs : List Block)
    → numbered_visits clock registry (entry_of query filter) last ns bs ≡ numbered_visits clock registry s last ns bs
entries_alike query filter s is clock registry last ns bs =
    ap (numbered_visits clock registry (entry_of query filter) last ns) (sym (map-id bs))
    ∙ numbered_alike clock clock registry (entry_of query filter) s match last last (λ b. b) (λ b. refl) (λ b. refl) ns bs (λ b i. visited last b)
  where
    match : (x : Found) → matches registry (entry_of query filter) x ≡ matches registry s x
    match x = λ i. matches registry (record (entry_of query filter) {
      all = sym is.all i;
      any = sym is.any i;
      none = sym is.none i;
      disabled = sym is.disabled i;
      absent = sym is.absent i;
      include_disabled = sym is.include_disabled i;
      include_prefab = sym is.include_prefab i;
      changed = sym is.changed i;
      order_changed = sym is.order i;
      shared = sym is.shared i;
    }) x

    visited : (o : Option ℕ) (b : Block) → is_visited registry clock (entry_of query filter) o b ≡ is_visited registry clock s o b
    visited None b = λ i. is_visited registry clock (record (entry_of query filter) {
      all = sym is.all i;
      any = sym is.any i;
      none = sym is.none i;
      disabled = sym is.disabled i;
      absent = sym is.absent i;
      include_disabled = sym is.include_disabled i;
      include_prefab = sym is.include_prefab i;
      changed = sym is.changed i;
      order_changed = sym is.order i;
      shared = sym is.shared i;
    }) None b
    visited (Some l) b = λ i. is_visited registry clock (record (entry_of query filter) {
      all = sym is.all i;
      any = sym is.any i;
      none = sym is.none i;
      disabled = sym is.disabled i;
      absent = sym is.absent i;
      include_disabled = sym is.include_disabled i;
      include_prefab = sym is.include_prefab i;
      changed = sym is.changed i;
      order_changed = sym is.order i;
      shared = sym is.shared i;
    }) (Some l) b

pub moments_alike : (first : ℕ) (s : SystemEntry) (last : Option ℕ) (ns : List ℕ) (w : World) → IsVersion first → IsLast last → HasMoments w
    → numbered_visits versions w.registry s (option_map (version_of first) last) ns (map (block_versions (version_of first)) w.blocks) ≡ numbered_visits (moments first) w.registry s last ns w.blocks
moments_alike first s last ns w version last_is has =
    numbered_alike versions (moments first) w.registry s s (λ x. refl) (option_map (version_of first) last) last (block_versions (version_of first)) (λ b. refl) (λ b. refl) ns w.blocks
    (λ b i. visited_same (moments first) versions (version_of first) w.registry s last b (versions_alike first s last w version last_is has b i))

-- ---- with numbers or without

pub rows_of_visits : (clock : Clock) (registry : List TypeInfo) (s : SystemEntry) (last : Option ℕ) (ns : List ℕ) (bs : List Block) → length ns ≡ length bs
    → map (λ (v : Visit). v.rows) (numbered_visits clock registry s last ns bs) ≡ map (λ (v : ModelVisit). map (λ (p : PlacedRow). p.place) v.rows) (visits registry clock s last bs)
rows_of_visits clock registry s last [] [] same = refl
rows_of_visits clock registry s last [] (b ∷ bs) same = absurd (omega arith)
rows_of_visits clock registry s last (n ∷ ns) [] same = absurd (omega arith)
rows_of_visits clock registry s last (n ∷ ns) (b ∷ bs) same = by (is_visited registry clock s last b) (rows_of_visits clock registry s last ns bs (omega arith))
  where
    visit : ModelVisit
    visit = record { block = b; rows = matching_rows registry clock s b.home 0 b.rows }

    by : (t : Bool) → map (λ (v : Visit). v.rows) (numbered_visits clock registry s last ns bs) ≡ map (λ (v : ModelVisit). map (λ (p : PlacedRow). p.place) v.rows) (visits registry clock s last bs)
        → map (λ (v : Visit). v.rows) (map (visit_of n) (cond t (visit ∷ []) [] ++ []) ++ numbered_visits clock registry s last ns bs)
        ≡ map (λ (v : ModelVisit). map (λ (p : PlacedRow). p.place) v.rows) (cond t (visit ∷ []) [] ++ visits registry clock s last bs)
    by true rest = ap (λ (xs : List (List ℕ)). map (λ (p : PlacedRow). p.place) visit.rows ∷ xs) rest
    by false rest = rest

-- ---- caches

pub cache_stays : (registry : List TypeInfo) (s : SystemEntry) (archetypes more : List (List ℕ)) (c : CacheState) → IsCacheOf registry s archetypes c → IsCacheOf registry s (archetypes ++ more) c
cache_stays registry s archetypes more c h = record {
  within = (let long = length-append archetypes more in omega (arith, long, h.within));
  is = h.is ∙ ap (λ (m : List ℕ). let v : CacheState = record { matching = m; seen = c.seen } in v)
      (filter_on (λ a. passes registry s (types_at archetypes a)) (λ a. passes registry s (types_at (archetypes ++ more) a)) (range_with_len 0 c.seen)
      (λ a i. let within = in_range a 0 c.seen i in
      ap (λ (ts : List ℕ). passes registry s ts) (sym (get_or_append_left archetypes more [] a (omega (arith, within.1, h.within))))));
}
