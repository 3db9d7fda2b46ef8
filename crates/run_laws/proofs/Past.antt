-- Every mark of a world is a moment from the first one up to its present moment, and each task keeps that.
use Rattle.std.proofs.Common.{◌≡◌, ℕ, ◌+◌, ◌≤◌, ◌⊎◌, inl, inr, zero, suc, Bool, true, false, not, if◌then◌else◌, List, [], ◌∷◌, ◌++◌, map, Option, Some, None, refl, sym, subst, slice_set, arith}
use Rattle.ent_types.specs.declared.entity.Entity.{Entity}
use Rattle.ent_types.specs.declared.type_info.TypeInfo.{TypeInfo}
use Rattle.ent_types.specs.declared.value.Value.{Value}
use Rattle.ent_types.specs.Fitting.{null_entity}
use Rattle.ent_types.specs.TypeSets.{has_type}
use Rattle.world_model.specs.Members.{In}
use Rattle.world_model.specs.Part.{by_type}
use Rattle.world_model.specs.Row.{Row}
use Rattle.world_model.specs.World.{Home, Mark, Block, World, empty_world}
use Rattle.world_model.specs.Found.{Found, found}
use Rattle.world_model.specs.Enter.{marks_at, has_room, entered, enter}
use Rattle.world_model.specs.Leave.{has_entity, replaced, without_row, no_rows, left, leave}
use Rattle.world_model.specs.Write.{marked, rewritten, rewrite}
use Rattle.world_model.specs.Lawful.{IsPast}
use Rattle.world_model.specs.Operations.{Act, Operation, Create, On, Outcome, Skips, Keeps, Writes, Moves, Ends, Makes, sight, decide, decide_create, apply, acted, operate}
use Rattle.world_model.specs.Scenes.{arrivals, value_renamed, block_moved, moved}
use Rattle.world_laws.proofs.Members.{in_append, in_map, in_filter}
use Rattle.expr_eval.specs.Values.{OtherRows}
use Rattle.scenario_record.specs.declared.record.Scenario.{Scenario}
use Rattle.scenario_record.specs.declared.record.SystemEntry.{SystemEntry}
use Rattle.run_model.specs.Clock.{moments}
use Rattle.run_model.specs.Query.{is_visited}
use Rattle.run_model.specs.Job.{others_in, writes}
use Rattle.run_model.specs.Run.{visited, item_after, blocks_after, run}
use Rattle.run_model.specs.Tasks.{spawned, FrameStep, DoesEvents, Plays, Runs, Task}
use Rattle.run_model.specs.Frames.{State, Course, Goes, Stops, course_after}
use Rattle.run_laws.specs.Lawful.{OnGoes}
use Rattle.run_laws.proofs.Walk.{spawns_keep, IsDone, LastsAfter, task_keeps}
use Rattle.run_laws.proofs.Steady.{IsAfter, task_steady}

-- ---- blocks

abbrev pub ArePastMarks : ℕ → List Mark → Type 0
ArePastMarks now ms = (m : Mark) → In m ms → IsPast now m.moment

pub record IsPastBlock (now : ℕ) (b : Block) : Type 0 where
  pub marks : ArePastMarks now b.marks
  pub order : IsPast now b.order

abbrev pub AreAllPast : ℕ → List Block → Type 0
AreAllPast now bs = (b : Block) → In b bs → IsPastBlock now b

-- a world whose marks are past
pub record ArePast (w : World) : Type 0 where
  pub now : 1 ≤ w.moment
  pub blocks : AreAllPast w.moment w.blocks

module _ (now : ℕ) (some : 1 ≤ now) where
  present : IsPast now now
  present = record { from_one = some; within = omega arith }

  new_marks : (types : List ℕ) → ArePastMarks now (marks_at now types)
  new_marks [] m i = absurd i
  new_marks (t ∷ ts) m (inl e) = subst (λ (n : Mark). IsPast now n.moment) (sym e) present
  new_marks (t ∷ ts) m (inr i) = new_marks ts m i

  marked_past : (types : List ℕ) (ms : List Mark) → ArePastMarks now ms → ArePastMarks now (marked now types ms)
  marked_past types ms h m i =
      let (n, j, e) = in_map (λ (k : Mark). if has_type types k.type_id then record k { moment = now } else k) m ms i in
      subst (λ (k : Mark). IsPast now k.moment) (sym e) (by (has_type types n.type_id) n (h n j))
    where
      by : (b : Bool) (n : Mark) → IsPast now n.moment → IsPast now (if b then record n { moment = now } else n).moment
      by true n k = present
      by false n k = k

  enter_past : (capacity : ℕ) (home : Home) (row : Row) (bs : List Block) → AreAllPast now bs → AreAllPast now (enter capacity now home row bs)
  unfolding enter
  enter_past capacity home row [] h b (inl e) = subst (IsPastBlock now) (sym e) (record { marks = new_marks home.types; order = present })
  enter_past capacity home row [] h b (inr i) = absurd i
  enter_past capacity home row (c ∷ cs) h b i = by (has_room capacity home c) i (enter_past capacity home row cs (λ d j. h d (inr j)) b)
    where
      by : (t : Bool) → In b (if t then entered now row c ∷ cs else c ∷ enter capacity now home row cs)
          → (In b (enter capacity now home row cs) → IsPastBlock now b) → IsPastBlock now b
      by true (inl e) rest = subst (IsPastBlock now) (sym e) (record { marks = new_marks c.home.types; order = present })
      by true (inr j) rest = h b (inr j)
      by false (inl e) rest = h b (inl e)
      by false (inr j) rest = rest j

  leave_past : (e : Entity) (bs : List Block) → AreAllPast now bs → AreAllPast now (leave now e bs)
  unfolding leave
  leave_past e bs h b i =
      let (c, j, is) = in_map (left now e) b bs (in_filter (λ (d : Block). not (no_rows d.rows)) b (map (left now e) bs) i) in
      subst (IsPastBlock now) (sym is) (by c (has_entity e c.rows) (h c j))
    where
      by : (c : Block) (t : Bool) → IsPastBlock now c → IsPastBlock now (if t then record c { rows = without_row e c.rows; order = now } else c)
      by c true k = record { marks = k.marks; order = present }
      by c false k = k

  rewrite_past : (types : List ℕ) (row : Row) (bs : List Block) → AreAllPast now bs → AreAllPast now (rewrite now types row bs)
  unfolding rewrite
  rewrite_past types row bs h b i =
      let (c, j, is) = in_map (rewritten now types row) b bs i in
      subst (IsPastBlock now) (sym is) (by c (has_entity row.entity c.rows) (h c j))
    where
      by : (c : Block) (t : Bool) → IsPastBlock now c
          → IsPastBlock now (if t then record c { rows = replaced row.entity row c.rows; marks = marked now types c.marks } else c)
      by c true k = record { marks = marked_past types c.marks k.marks; order = k.order }
      by c false k = k

  blocks_past : (first : ℕ) (registry : List TypeInfo) (s : SystemEntry) (last : Option ℕ) (frame : ℕ) (others : OtherRows) (item : ℕ) (bs : List Block)
      → AreAllPast now bs → AreAllPast now (blocks_after (moments first) registry s last frame others now item bs)
  blocks_past first registry s last frame others item [] h b i = absurd i
  blocks_past first registry s last frame others item (c ∷ cs) h b (inl e) =
      subst (IsPastBlock now) (sym e) (by (is_visited registry (moments first) s last c))
    where
      by : (t : Bool) → IsPastBlock now (if t then visited registry s others frame now item c else c)
      by true = record { marks = marked_past (writes s) c.marks (h c (inl refl)).marks; order = (h c (inl refl)).order }
      by false = h c (inl refl)
  blocks_past first registry s last frame others item (c ∷ cs) h b (inr i) =
      blocks_past first registry s last frame others (item_after (moments first) registry s last item c) cs (λ d j. h d (inr j)) b i

-- ---- worlds

abbrev pub Keep : World → World → Type 0
Keep w u = ArePast w → ArePast u

same : (w : World) → Keep w w
same w h = h

onward : (w u v : World) → Keep w u → Keep u v → Keep w v
onward w u v h k p = k (h p)

module _ (capacity : List ℕ → ℕ) where
  apply_past : (w : World) (e : Entity) (out : Outcome) → Keep w (apply capacity w e out).world
  apply_past w e (Skips cause) h = h
  apply_past w e Keeps h = h
  apply_past w e (Writes types cells dying) h =
      record { now = h.now; blocks = rewrite_past w.moment h.now types (record { entity = e; cells = cells; dying = dying }) w.blocks h.blocks }
  apply_past w e (Moves home cells dying) h = record {
    now = h.now;
    blocks = enter_past w.moment h.now (capacity home.types) home (record { entity = e; cells = cells; dying = dying }) (leave w.moment e w.blocks)
        (leave_past w.moment h.now e w.blocks h.blocks);
  }
  apply_past w e Ends h = record { now = h.now; blocks = leave_past w.moment h.now e w.blocks h.blocks }
  apply_past w e (Makes home cells) h = record { now = h.now; blocks = enter_past w.moment h.now (capacity home.types) home _ w.blocks h.blocks }

  acted_past : (w : World) (e : Entity) (a : Act Value) (x : Option Found) → Keep w (acted capacity w e a x).world
  acted_past w e a None h = h
  acted_past w e a (Some x) h = apply_past w e (decide (sight capacity w) x a) h

  operate_past : (w : World) (operation : Operation) → Keep w (operate capacity w operation).world
  unfolding operate
  operate_past w (Create parts) h = apply_past w null_entity (decide_create (sight capacity w) (by_type parts)) h
  operate_past w (On e a) h = acted_past w e a (found e w.blocks) h

  moved_past : (w scene : World) → Keep w (moved w scene)
  unfolding moved
  moved_past w scene h = record { now = h.now; blocks = λ b i. by b (in_append b w.blocks (map arrive scene.blocks) i) }
    where
      arrive : Block → Block
      arrive b = block_moved w.moment (arrivals w scene) (value_renamed (arrivals w scene)) b

      by : (b : Block) → In b w.blocks ⊎ In b (map arrive scene.blocks) → IsPastBlock w.moment b
      by b (inl i) = h.blocks b i
      by b (inr i) =
          let (c, j, e) = in_map arrive b scene.blocks i in
          subst (IsPastBlock w.moment) (sym e) (record { marks = new_marks w.moment h.now c.home.types; order = present w.moment h.now })

  -- the spawns leave marks of the first moment
  pub spawned_past : (s : Scenario) (moment : ℕ) → 1 ≤ moment → ArePast (spawned capacity s moment)
  unfolding spawned
  spawned_past s moment some =
      spawns_keep capacity Keep same onward operate_past moved_past s.spawn (empty_world s.registry s.first_entity_version moment)
      (record { now = some; blocks = λ b i. absurd i })

  -- ---- states

  -- the marks and the last runs are past
  pub record IsPastState (st : State) : Type 0 where
    pub world : ArePast st.world
    pub lasts : (l : ℕ) → In (Some l) st.lasts → IsPast st.world.moment l

  later : (now m : ℕ) → IsPast now m → IsPast (now + 1) m
  later now m h = record { from_one = h.from_one; within = (let a = h.within in omega arith) }

  raise_past : (w : World) → ArePast w → ArePast (record w { moment = w.moment + 1 })
  raise_past w h = record {
    now = (let a = h.now in omega arith);
    blocks = λ b i. (let p = h.blocks b i in record { marks = λ m j. later w.moment m.moment (p.marks m j); order = later w.moment b.order p.order });
  }

  ran_past : (first : ℕ) (s : SystemEntry) (last : Option ℕ) (frame : ℕ) (w : World) → Keep (record w { moment = w.moment + 1 }) (run (moments first) s last frame w).world
  unfolding run
  ran_past first s last frame w h =
      record { now = h.now; blocks = blocks_past (w.moment + 1) h.now first w.registry s last frame (others_in w) 0 w.blocks h.blocks }

  in_set : (l : ℕ) (ls : List (Option ℕ)) (n m : ℕ) → In (Some l) (slice_set ls n (Some m)) → (l ≡ m) ⊎ In (Some l) ls
  in_set l [] n m i = inr i
  in_set l (x ∷ xs) zero m (inl e) = inl (let is : l ≡ m = cc in is)
  in_set l (x ∷ xs) zero m (inr i) = inr (inr i)
  in_set l (x ∷ xs) (suc n) m (inl e) = inr (inl e)
  in_set l (x ∷ xs) (suc n) m (inr i) = further (in_set l xs n m i)
    where
      further : (l ≡ m) ⊎ In (Some l) xs → (l ≡ m) ⊎ In (Some l) (x ∷ xs)
      further (inl e) = inl e
      further (inr j) = inr (inr j)

  task_past : (first : ℕ) (trace : Bool) (st : State) (step : FrameStep) → IsPastState st
      → (u : State) → IsDone capacity Keep same onward operate_past moved_past (moments first) trace st step u
      → u.world.moment ≡ st.world.moment + 1 → IsPastState u
  task_past first trace st step h u done now =
      record { world = done.world (raise_past st.world h.world); lasts = lasts step done.lasts }
    where
      old : (l : ℕ) → In (Some l) st.lasts → IsPast u.world.moment l
      old l i = subst (λ m. IsPast m l) (sym now) (later st.world.moment l (h.lasts l i))

      new : (l : ℕ) → l ≡ st.world.moment + 1 → IsPast u.world.moment l
      new l e = record { from_one = omega (arith, e); within = omega (arith, e, now) }

      either : (l : ℕ) → (l ≡ st.world.moment + 1) ⊎ In (Some l) st.lasts → IsPast u.world.moment l
      either l (inl is) = new l is
      either l (inr j) = old l j

      set : (n : ℕ) → u.lasts ≡ slice_set st.lasts n (Some (st.world.moment + 1)) → (l : ℕ) → In (Some l) u.lasts → IsPast u.world.moment l
      set n e l i = either l (in_set l st.lasts n (st.world.moment + 1) (subst (In (Some l)) e i))

      lasts : (step : FrameStep) → LastsAfter capacity Keep same onward operate_past moved_past (moments first) trace st step u.lasts
          → (l : ℕ) → In (Some l) u.lasts → IsPast u.world.moment l
      lasts (DoesEvents es) e l i = old l (subst (In (Some l)) e i)
      lasts (Plays point) e l i = old l (subst (In (Some l)) e i)
      lasts (Runs n s) e l i = set n e l i

  -- a task keeps the marks and the last runs past
  pub past_after : (first : ℕ) (trace : Bool) (st : State) (t : Task) → IsPastState st → OnGoes IsPastState (course_after (moments first) capacity trace st t)
  past_after first trace st t h =
      on (course_after (moments first) capacity trace st t)
      (task_keeps capacity Keep same onward operate_past moved_past (moments first) trace (ran_past first) st t.frame t.step)
      (task_steady capacity (moments first) trace st t)
    where
      on : (course : Course) → OnGoes (IsDone capacity Keep same onward operate_past moved_past (moments first) trace st t.step) course
          → IsAfter capacity (moments first) trace (record (st.world) { moment = st.world.moment + 1 }) course → OnGoes IsPastState course
      on (Goes u) done k = task_past first trace st t.step h u done k.moment
      on (Stops lines) done k = tt
