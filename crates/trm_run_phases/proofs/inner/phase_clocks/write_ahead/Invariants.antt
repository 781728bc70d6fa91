-- Invariant: the run reached clock i in phase 2 without an answer (`On`).
use Rattle.trm_run_phases.proofs.Laws.Ahead.{On}
use Rattle.trm_run_phases.proofs.inner.phase_clocks.write_ahead.Given as goal

abbrev pub invariant-loop-i : goal.invariant-loop-i
invariant-loop-i l =
    On l.pins l.w 2 l.g (record { scalars = l.c; at = l.i; finished = l.g.finished }) l.regs l.cache
    l.cache l.initial.store l.store
