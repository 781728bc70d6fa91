-- Invariant: the run reached clock i in its phase without an answer (`On`), for any word.
use Rattle.trm_run_phases.proofs.Laws.Ahead.{On}
use Prim.Native.Nat.{ℕ}
use Rattle.trm_run_phases.proofs.inner.phase_clocks.held_ahead.Given as goal

abbrev pub invariant-loop-i : goal.invariant-loop-i
invariant-loop-i l =
    (w : ℕ) → On l.pins w l.g.scalars.running.phase l.g (record { scalars = l.c; at = l.i; finished = l.g.finished }) l.regs
    l.cache l.cache l.store l.store
