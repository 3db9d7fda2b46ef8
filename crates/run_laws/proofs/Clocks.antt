-- Versions stand for moments in a run: a run over versions gives the versions of the run over moments.
use Rattle.std.proofs.Common.{◌≡◌, ℕ, ◌≤◌, ◌+◌, ◌<◌, inl, inr, Bool, true, false, not, ◌&&◌, ◌||◌, if◌then◌else◌, List, [], ◌∷◌, ◌++◌, map, find, Option, Some, None, option_map, refl, sym, ap, ap₂, ◌∙◌, subst, arith, nat_lt, ltb-true, lt-ltb}
use Rattle.std.specs.List.{list_any, flat_map}
use Rattle.std.specs.Bool.{Decides}
use Rattle.ent_types.specs.declared.type_info.TypeInfo.{TypeInfo}
use Rattle.ent_types.specs.TypeSets.{has_type}
use Rattle.ent_types.specs.declared.limits.TheConstants.{MOST_MOMENTS}
use Rattle.system_version.specs.Versions.{version_of, is_later, IsVersion, IsMoment}
use Rattle.system_version.proofs.VersionLemmas.{version_of-next, is_later-moments}
use Rattle.world_model.specs.Members.{In, tally, one_if}
use Rattle.world_model.specs.World.{Mark, Block, World}
use Rattle.world_model.specs.Found.{Found, is_of}
use Rattle.world_model.specs.Write.{marked}
use Rattle.world_model.specs.Lawful.{IsPast, IsLawful}
use Rattle.world_model.specs.Versions.{mark_versions, block_versions, world_versions}
use Rattle.world_laws.proofs.Versions.{placed_turned}
use Rattle.expr_eval.specs.Values.{OtherRows}
use Rattle.expr_eval.specs.Rows.{others_of}
use Rattle.scenario_record.specs.declared.record.SystemEntry.{SystemEntry}
use Rattle.run_model.specs.Clock.{Clock, moments, versions}
use Rattle.run_model.specs.Query.{is_empty, has_shared, matches, passes, is_fresh, is_visited}
use Rattle.run_model.specs.Job.{writes, others_in}
use Rattle.run_model.specs.Run.{Entry, RunResult, entries_at, rows_after, visited, recorded_of, matched_in, item_after, matched, blocks_after, entries_of, run}
use Rattle.run_laws.specs.Versions.{run_versions, IsLast, HasMoments}

-- two clocks, of which the second counts with what a function gives for the moments of the first
module _ (c d : Clock) (v : ℕ → ℕ) (registry : List TypeInfo) (s : SystemEntry) (last : Option ℕ) where
  abbrev turned : List Block → List Block
  turned bs = map (block_versions v) bs

  abbrev pub Alike : ℕ → Option ℕ → Type 0
  Alike m None = Unit {0}
  Alike m (Some l) = d.is_later (v m) (v l) ≡ c.is_later m l

  -- the clocks agree about a block's marks and the last run
  abbrev pub BlockAlike : Block → Type 0
  BlockAlike b = ((m : Mark) → In m b.marks → Alike m.moment last) × Alike b.order last

  marks_same : (l : ℕ) (ms : List Mark) → ((m : Mark) → In m ms → Alike m.moment (Some l))
      → list_any (λ (m : Mark). has_type s.changed m.type_id && d.is_later m.moment (v l)) (map (mark_versions v) ms)
      ≡ list_any (λ (m : Mark). has_type s.changed m.type_id && c.is_later m.moment l) ms
  marks_same l [] h = refl
  marks_same l (m ∷ ms) h =
      ap₂ (λ a b. (has_type s.changed m.type_id && a) || b) (h m (inl refl)) (marks_same l ms (λ n i. h n (inr i)))

  fresh_same : (o : Option ℕ) (b : Block) → ((m : Mark) → In m b.marks → Alike m.moment o) → Alike b.order o
      → is_fresh registry d s (option_map v o) (block_versions v b) ≡ is_fresh registry c s o b
  fresh_same None b h k = refl
  fresh_same (Some l) b h k =
      ap₂ (λ x y. (is_empty s.changed && not s.order_changed) || (x || (s.order_changed && y))) (marks_same l b.marks h) k

  pub visited_same : (b : Block) → BlockAlike b → is_visited registry d s (option_map v last) (block_versions v b) ≡ is_visited registry c s last b
  visited_same b h =
      ap (λ f. (passes registry s b.home.types && has_shared s b.home) && (f && list_any (λ r. matches registry s (record { home = b.home; row = r })) b.rows))
      (fresh_same last b h.0 h.1)

  marked_same : (now : ℕ) (types : List ℕ) (ms : List Mark) → marked (v now) types (map (mark_versions v) ms) ≡ map (mark_versions v) (marked now types ms)
  marked_same now types [] = refl
  marked_same now types (m ∷ ms) = ap₂ (λ (x : Mark) xs. x ∷ xs) (by (has_type types m.type_id)) (marked_same now types ms)
    where
      by : (t : Bool) → (if t then record (mark_versions v m) { moment = v now } else mark_versions v m) ≡ mark_versions v (if t then record m { moment = now } else m)
      by true = refl
      by false = refl

  module _ (frame : ℕ) (others : OtherRows) where
    blocks_same : (now item : ℕ) (bs : List Block) → ((b : Block) → In b bs → BlockAlike b)
        → blocks_after d registry s (option_map v last) frame others (v now) item (turned bs) ≡ turned (blocks_after c registry s last frame others now item bs)
    blocks_same now item [] h = refl
    blocks_same now item (b ∷ bs) h =
        subst (λ t. ((if t then visited registry s others frame (v now) item (block_versions v b) else block_versions v b)
        ∷ blocks_after d registry s (option_map v last) frame others (v now) (if t then item + 1 else item) (turned bs))
        ≡ turned (blocks_after c registry s last frame others now item (b ∷ bs)))
        (sym (visited_same b (h b (inl refl))))
        (ap₂ (λ (x : Block) xs. x ∷ xs) (by (is_visited registry c s last b)) (blocks_same now (item_after c registry s last item b) bs (λ e i. h e (inr i))))
      where
        by : (t : Bool) → (if t then visited registry s others frame (v now) item (block_versions v b) else block_versions v b)
            ≡ block_versions v (if t then visited registry s others frame now item b else b)
        by true = ap (λ (ms : List Mark). record (block_versions v b) { marks = ms; rows = rows_after registry s others frame item b.home 0 b.rows }) (marked_same now (writes s) b.marks)
        by false = refl

    met_same : (item : ℕ) (bs : List Block) → ((b : Block) → In b bs → BlockAlike b)
        → matched d registry s (option_map v last) item (turned bs) ≡ matched c registry s last item bs
    met_same item [] h = refl
    met_same item (b ∷ bs) h =
        ap (λ t. (if t then matched_in registry s item b.home 0 b.rows else []) ++ matched d registry s (option_map v last) (if t then item + 1 else item) (turned bs)) (visited_same b (h b (inl refl)))
        ∙ ap (λ ms. (if is_visited registry c s last b then matched_in registry s item b.home 0 b.rows else []) ++ ms) (met_same (item_after c registry s last item b) bs (λ e i. h e (inr i)))

  visits_same : (bs : List Block) → ((b : Block) → In b bs → BlockAlike b) → tally (is_visited registry d s (option_map v last)) (turned bs) ≡ tally (is_visited registry c s last) bs
  visits_same [] h = refl
  visits_same (b ∷ bs) h = ap₂ (λ t n. one_if t + n) (visited_same b (h b (inl refl))) (visits_same bs (λ e i. h e (inr i)))

  passing_same : (bs : List Block) → tally (λ (b : Block). passes registry s b.home.types) (turned bs) ≡ tally (λ (b : Block). passes registry s b.home.types) bs
  passing_same [] = refl
  passing_same (b ∷ bs) = ap (λ n. one_if (passes registry s b.home.types) + n) (passing_same bs)

-- a run by either clock
run_same : (c d : Clock) (v : ℕ → ℕ) (s : SystemEntry) (last : Option ℕ) (frame : ℕ) (w : World)
    → d.next (v w.moment) ≡ v (c.next w.moment) → ((b : Block) → In b w.blocks → BlockAlike c d v w.registry s last b)
    → run d s (option_map v last) frame (world_versions v w) ≡ run_versions v (run c s last frame w)
unfolding run
run_same c d v s last frame w next alike =
    let others : others_in (world_versions v w) ≡ others_in w =
    ap (λ (xs : List Found). others_of (λ e. find (is_of e) xs)) (placed_turned v w.blocks) in
    let blocks : blocks_after d w.registry s (option_map v last) frame (others_in (world_versions v w)) (d.next (v w.moment)) 0 (map (block_versions v) w.blocks)
    ≡ map (block_versions v) (blocks_after c w.registry s last frame (others_in w) (c.next w.moment) 0 w.blocks) =
    ap₂ (λ o n. blocks_after d w.registry s (option_map v last) frame o n 0 (map (block_versions v) w.blocks)) others next
    ∙ blocks_same c d v w.registry s last frame (others_in w) (c.next w.moment) 0 w.blocks alike in
    let entries : entries_of d w.registry s (option_map v last) frame (others_in (world_versions v w)) (map (block_versions v) w.blocks)
    ≡ entries_of c w.registry s last frame (others_in w) w.blocks =
    ap₂ (λ o ms. flat_map (λ m. entries_at m (recorded_of w.registry s o frame m)) ms) others (met_same c d v w.registry s last frame (others_in w) 0 w.blocks alike) in
    ap₂ (λ (x : ℕ × List Block) (y : ℕ × ℕ × List Entry).
    (let r : RunResult = record { world = record (world_versions v w) { moment = x.0; blocks = x.1 }; visits = y.0; passing = y.1; entries = y.2 } in r))
    (ap₂ (λ n bs. (n, bs)) next blocks)
    (ap₂ (λ n (z : ℕ × List Entry). (n, z.0, z.1)) (visits_same c d v w.registry s last w.blocks alike) (ap₂ (λ n es. (n, es)) (passing_same c d v w.registry s last w.blocks) entries))

-- ---- moments and versions

later_same : (first m l : ℕ) → IsVersion first → IsMoment m → IsMoment l → is_later (version_of first m) (version_of first l) ≡ nat_lt l m
later_same first m l version m_is l_is =
    by (is_later (version_of first m) (version_of first l)) (nat_lt l m) refl refl (is_later-moments first m l version m_is l_is)
  where
    by : (a b : Bool) → is_later (version_of first m) (version_of first l) ≡ a → nat_lt l m ≡ b → Decides (is_later (version_of first m) (version_of first l)) (l < m) → a ≡ b
    by true true e f h = refl
    by false false e f h = refl
    by true false e f h = sym (lt-ltb l m (h.0 e)) ∙ f
    by false true e f h = sym e ∙ h.1 (ltb-true l m f)

-- the two clocks agree about each block
pub versions_alike : (first : ℕ) (s : SystemEntry) (last : Option ℕ) (w : World) → IsVersion first → IsLast last → HasMoments w
    → (b : Block) → In b w.blocks → BlockAlike (moments first) versions (version_of first) w.registry s last b
versions_alike first s last w version last_is has b i = ((λ m j. at last last_is m.moment (has.marks b i m j)), at last last_is b.order (has.order b i))
  where
    at : (o : Option ℕ) → IsLast o → (m : ℕ) → IsMoment m → Alike (moments first) versions (version_of first) w.registry s last m o
    at None h m m_is = tt
    at (Some l) h m m_is = later_same first m l version m_is h

pub versions_run : (first : ℕ) (s : SystemEntry) (last : Option ℕ) (frame : ℕ) (w : World) → IsVersion first → IsLast last → HasMoments w
    → run versions s (option_map (version_of first) last) frame (world_versions (version_of first) w) ≡ run_versions (version_of first) (run (moments first) s last frame w)
versions_run first s last frame w version last_is has =
    run_same (moments first) versions (version_of first) s last frame w (sym (version_of-next first w.moment has.now)) (versions_alike first s last w version last_is has)

-- ---- lawful worlds

past_moment : (now moment : ℕ) → now ≤ MOST_MOMENTS → IsPast now moment → IsMoment moment
past_moment now moment few h = let a = h.within in record { from_one = h.from_one; within = omega arith }

pub lawful_moments : (capacity : List ℕ → ℕ) (w : World) → IsLawful capacity w → w.moment ≤ MOST_MOMENTS → HasMoments w
lawful_moments capacity w lawful few = record {
  now = lawful.moment;
  marks = λ b i m j. past_moment w.moment m.moment few ((lawful.blocks b i).marks m j);
  order = λ b i. past_moment w.moment b.order few (lawful.blocks b i).order;
}
