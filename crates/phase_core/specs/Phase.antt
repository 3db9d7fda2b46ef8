-- The value of a machine in a contract.
use Rattle.std.specs.Prelude.{ℕ, List, map}
use Rattle.phase_core.specs.Work.{Work}
use Rattle.phase_core.specs.Core.{Core}
use Rattle.phase_core.specs.declared.machine.WorkerState.{WorkerState}

-- the items as they were opened and as they are, the number that is drawn next, and the state of each worker
pub record Phase (I : Type 0) : Type 0 where
  pub opened : List I
  pub items : List I
  pub next : ℕ
  pub workers : List WorkerState

-- the same, with the meaning of each item instead of the item
abbrev pub core_of : {I C : Type 0} → (I → Work C) → Phase I → Core C
core_of work p = record { opened = map work p.opened; items = map work p.items; next = p.next; workers = p.workers }
