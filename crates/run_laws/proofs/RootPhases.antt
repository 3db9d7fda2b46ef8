-- The phases of a frame are those of the running systems of each root.
use Rattle.std.proofs.Common.{◌≡◌, ℕ, Bool, true, false, if◌then◌else◌, List, [], ◌∷◌, ◌++◌, map, filter, sym, ap, ◌∙◌, append_assoc}
use Rattle.std.proofs.lemmas.List.{append-nil}
use Rattle.ent_types.specs.declared.point.Point.TheVariants.{BeginInitialization, EndInitialization, BeginSimulation, EndSimulation, BeginPresentation}
use Rattle.scenario_record.specs.declared.plan.Step.{Step}
use Rattle.scenario_record.specs.declared.plan.Step.TheVariants.{Run}
use Rattle.scenario_record.specs.declared.record.Scenario.{Scenario}
use Rattle.run_model.specs.Steps.{numbers_below, steps_of}
use Rattle.run_model.specs.FrameParts.{FramePart, EventsPart, PointPart, parts_from, conflict_at, runs_at, frame_parts, phases_below}

module _ (conflict : ℕ → ℕ → Bool) (runs : ℕ → Bool) where
  abbrev parts : List ℕ → List Step → List FramePart
  parts systems steps = parts_from conflict runs systems steps

  runs_joined : (ns systems : List ℕ) (rest : List Step) → parts systems (map (λ n. Run n) ns ++ rest) ≡ parts (systems ++ filter runs ns) rest
  runs_joined [] systems rest = ap (λ xs. parts xs rest) (sym (append-nil systems))
  runs_joined (n ∷ ns) systems rest = by (runs n) (runs_joined ns (systems ++ n ∷ []) rest) (runs_joined ns systems rest)
    where
      by : (b : Bool) → parts (systems ++ n ∷ []) (map (λ n. Run n) ns ++ rest) ≡ parts ((systems ++ n ∷ []) ++ filter runs ns) rest
          → parts systems (map (λ n. Run n) ns ++ rest) ≡ parts (systems ++ filter runs ns) rest
          → parts (if b then systems ++ n ∷ [] else systems) (map (λ n. Run n) ns ++ rest) ≡ parts (systems ++ (if b then n ∷ filter runs ns else filter runs ns)) rest
      by true joins stays = joins ∙ ap (λ xs. parts xs rest) (append_assoc systems (n ∷ []) (filter runs ns))
      by false joins stays = stays

pub root_phases : (s : Scenario) (frame : ℕ) → frame_parts s frame (steps_of s)
    ≡ EventsPart ∷ PointPart BeginInitialization ∷ (phases_below s frame 0 ++ (PointPart EndInitialization ∷
    PointPart BeginSimulation ∷ (phases_below s frame 1 ++ (PointPart EndSimulation ∷
    PointPart BeginPresentation ∷ phases_below s frame 2))))
unfolding frame_parts steps_of
root_phases s frame =
    ap (λ ps. EventsPart ∷ PointPart BeginInitialization ∷ ps)
    (joined (numbers_below s 0) _
    ∙ ap (λ ps. phases_below s frame 0 ++ (PointPart EndInitialization ∷ PointPart BeginSimulation ∷ ps))
    (joined (numbers_below s 1) _
    ∙ ap (λ ps. phases_below s frame 1 ++ (PointPart EndSimulation ∷ PointPart BeginPresentation ∷ ps)) (last (numbers_below s 2))))
  where
    all : List ℕ → List Step → List FramePart
    all systems steps = parts_from (conflict_at s) (runs_at s frame) systems steps

    joined : (ns : List ℕ) (rest : List Step) → all [] (map (λ n. Run n) ns ++ rest) ≡ all (filter (runs_at s frame) ns) rest
    joined ns rest = runs_joined (conflict_at s) (runs_at s frame) ns [] rest

    last : (ns : List ℕ) → all [] (map (λ n. Run n) ns) ≡ all (filter (runs_at s frame) ns) []
    last ns = ap (all []) (sym (append-nil (map (λ n. Run n) ns))) ∙ joined ns []
