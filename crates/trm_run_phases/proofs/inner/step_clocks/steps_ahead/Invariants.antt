-- Invariant: the run reached clock g.at + k in phase 1 without an answer, with at most k steps (`Stepped`).
use Rattle.trm_run_phases.proofs.Laws.Serial.{Stepped}
use Prim.Native.Nat.{◌+◌, ◌≤◌}
use lib.ListN.{length}
use Rattle.trm_clock_scalars.specs.Unit.{in_flight}
use Rattle.trm_run_phases.proofs.inner.step_clocks.steps_ahead.Given as goal

abbrev pub invariant-loop-k : goal.invariant-loop-k
invariant-loop-k l = Stepped l.pins l.w l.g l.regs
    l.cache l.store (in_flight l.w l.u) l.k × (l.g.at + l.k ≤ length l.pins)
