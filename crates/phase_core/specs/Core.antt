-- The phase machine as plain data: its steps, which of them are lawful, and what holds in every order.
use Rattle.std.specs.Prelude.{◌≡◌, ℕ, zero, suc, ◌+◌, ◌<◌, ◌≤◌, ◌⊎◌, Bool, true, false, List, [], ◌∷◌, ◌++◌, length, map, replicate, slice_get, slice_set, nat_lt, ◌==◌, if◌then◌else◌, Option, None, Some, All}
use Rattle.std.specs.Option.{option_map, option_map_or}
use Rattle.phase_core.specs.Work.{Work, after_row, after_rows, run_to_end}
use Rattle.phase_core.specs.declared.machine.StepOf.{StepOf}
use Rattle.phase_core.specs.declared.machine.StepOf.TheVariants.{Draw, Row, Drop}
use Rattle.phase_core.specs.declared.machine.StepFault.{StepFault}
use Rattle.phase_core.specs.declared.machine.StepFault.TheVariants.{NotAllowed, Memory}
use Rattle.phase_core.specs.declared.machine.WorkerState.{WorkerState}
use Rattle.phase_core.specs.declared.machine.WorkerState.TheVariants.{Idle, AtRow, Ended}

-- The items as they were opened and as they are, the number that is drawn next, and the state of each worker
pub record Core (C : Type 0) : Type 0 where
  pub opened : List (Work C)
  pub items : List (Work C)
  pub next : ℕ
  pub workers : List WorkerState

-- the machine at the start: number 0 is next, and every worker is idle
abbrev pub opening : {C : Type 0} → List (Work C) → ℕ → Core C
opening items workers = record { opened = items; items = items; next = 0; workers = replicate workers Idle }

abbrev pub is_idle : Option WorkerState → Bool
is_idle (Some Idle) = true
is_idle (Some (AtRow k r)) = false
is_idle (Some Ended) = false
is_idle None = false

abbrev pub IsRow : StepOf → Type 0
IsRow (Draw w) = ⊥
IsRow (Row w) = Unit {0}
IsRow (Drop w) = ⊥

-- worker w holds item k, at its row r
abbrev pub Holds : List WorkerState → ℕ → ℕ → ℕ → Type 0
Holds workers w k r = slice_get workers w ≡ Some (AtRow k r)

module _ {C : Type 0} where
  -- how many rows item k has
  abbrev pub rows_of : List (Work C) → ℕ → ℕ
  rows_of items k = option_map_or (λ w. w.rows) (slice_get items k) 0

  -- how many rows of item k have run
  abbrev pub ran_of : List (Work C) → ℕ → ℕ
  ran_of items k = option_map_or (λ w. w.ran) (slice_get items k) 0

  -- a worker is at a row that its item has
  abbrev pub is_before_row : List (Work C) → Option WorkerState → Bool
  is_before_row items (Some Idle) = false
  is_before_row items (Some (AtRow k r)) = nat_lt r (rows_of items k)
  is_before_row items (Some Ended) = false
  is_before_row items None = false

  -- a worker is at the end of its item
  abbrev pub is_at_end : List (Work C) → Option WorkerState → Bool
  is_at_end items (Some Idle) = false
  is_at_end items (Some (AtRow k r)) = r == rows_of items k
  is_at_end items (Some Ended) = false
  is_at_end items None = false

  -- true if the machine takes a step
  abbrev pub is_lawful : Core C → StepOf → Bool
  is_lawful c (Draw w) = is_idle (slice_get c.workers w)
  is_lawful c (Row w) = is_before_row c.items (slice_get c.workers w)
  is_lawful c (Drop w) = is_at_end c.items (slice_get c.workers w)

  -- the items, with item k after its next row
  abbrev pub with_row_run : List (Work C) → ℕ → List (Work C)
  with_row_run [] k = []
  with_row_run (x ∷ xs) zero = after_row x ∷ xs
  with_row_run (x ∷ xs) (suc k) = x ∷ with_row_run xs k

  abbrev pub with_worker : Core C → ℕ → WorkerState → Core C
  with_worker c w at = record c { workers = slice_set c.workers w at }

  abbrev pub after_draw : Core C → ℕ → Core C
  after_draw c w = if nat_lt c.next (length c.items) then record (with_worker c w (AtRow c.next 0)) { next = c.next + 1 } else with_worker c w Ended

  abbrev pub after_row_of : Core C → ℕ → Option WorkerState → Core C
  after_row_of c w (Some Idle) = c
  after_row_of c w (Some (AtRow k r)) = record (with_worker c w (AtRow k (r + 1))) { items = with_row_run c.items k }
  after_row_of c w (Some Ended) = c
  after_row_of c w None = c

  -- the machine after a lawful step
  abbrev pub after : Core C → StepOf → Core C
  after c (Draw w) = after_draw c w
  after c (Row w) = after_row_of c w (slice_get c.workers w)
  after c (Drop w) = with_worker c w Idle

  -- the machine after lawful steps
  abbrev pub after_all : Core C → List StepOf → Core C
  after_all c [] = c
  after_all c (x ∷ xs) = after_all (after c x) xs

  -- each step is lawful when it is taken
  abbrev pub AllLawful : Core C → List StepOf → Type 0
  AllLawful c [] = Unit {0}
  AllLawful c (x ∷ xs) = (is_lawful c x ≡ true) × AllLawful (after c x) xs

  -- a lawful step was taken
  abbrev pub Takes : Core C → StepOf → Core C → Type 0
  Takes c x d = (is_lawful c x ≡ true) × (d ≡ after c x)

  -- the steps were taken one after the other, each lawful when it was taken
  abbrev pub TakesAll : Core C → List StepOf → Core C → Type 0
  TakesAll c xs d = AllLawful c xs × (d ≡ after_all c xs)

  -- when each fault comes: the step isn't lawful, or it is a lawful row that ran out of memory
  abbrev pub FaultComes : Core C → StepOf → StepFault → Type 0
  FaultComes c x NotAllowed = is_lawful c x ≡ false
  FaultComes c x Memory = (is_lawful c x ≡ true) × IsRow x

  -- the steps before the faulty one were taken, and no more
  pub record StopsAt (c : Core C) (steps : List StepOf) (fault : StepFault) (d : Core C) : Type 0 where
    pub taken : List StepOf
    pub faulty : StepOf
    pub left : List StepOf
    pub split : steps ≡ taken ++ faulty ∷ left
    pub all_lawful : AllLawful c taken
    pub stands : d ≡ after_all c taken
    pub comes : FaultComes d faulty fault

  -- the first r rows of item k have run, and no others
  pub record HasRun (opened items : List (Work C)) (k r : ℕ) : Type 0 where
    pub within : r ≤ rows_of opened k
    pub stands : slice_get items k ≡ option_map (after_rows r) (slice_get opened k)

  -- item k is held by a worker at row r and has run its first r rows, or is held by none and has run all its rows
  abbrev pub IsHeldOrRun : Core C → ℕ → Type 0
  IsHeldOrRun c k =
      ((w : ℕ) × (r : ℕ) × Holds c.workers w k r × HasRun c.opened c.items k r)
      ⊎ (((w r : ℕ) → ¬ Holds c.workers w k r) × HasRun c.opened c.items k (rows_of c.opened k))

  -- What holds between any two steps, whatever their order
  pub record IsKept (c : Core C) : Type 0 where
    pub unrun : All (λ w. w.ran ≡ 0) c.opened
    pub some_worker : 0 < length c.workers
    pub same_count : length c.items ≡ length c.opened
    pub within : c.next ≤ length c.items
    pub waiting : (k : ℕ) → c.next ≤ k → slice_get c.items k ≡ slice_get c.opened k
    pub drawn : (k : ℕ) → k < c.next → IsHeldOrRun c k
    pub held : (w k r : ℕ) → Holds c.workers w k r → (k < c.next) × HasRun c.opened c.items k r
    pub alone : (v w k q r : ℕ) → Holds c.workers v k q → Holds c.workers w k r → v ≡ w
    pub ended : (w : ℕ) → slice_get c.workers w ≡ Some Ended → c.next ≡ length c.items

  -- if every worker is ended, each item has run to its end
  abbrev pub IsFinished : Core C → Type 0
  IsFinished c = All (λ at. at ≡ Ended) c.workers → c.items ≡ map run_to_end c.opened

  pub record IsSound (c : Core C) : Type 0 where
    pub kept : IsKept c
    pub finished : IsFinished c
