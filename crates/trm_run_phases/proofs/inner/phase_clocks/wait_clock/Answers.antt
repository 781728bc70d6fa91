use native.Mathlib.Omega.{arith}
use Rattle.trm_run_phases.proofs.inner.phase_clocks.wait_clock.Goals as goal

pub hold-requires : goal.hold-requires
hold-requires c = c.requires.0

pub returns-then-is_stalled : goal.returns-then-is_stalled
returns-then-is_stalled c = rw (← c.is_stalled.ensures, c.if-is_stalled.true) c.hold.ensures

pub overflow_add-c : goal.overflow_add-c
overflow_add-c c = omega (arith, c.requires.1)

pub advance-requires : goal.advance-requires
advance-requires c = (c.requires.0, omega arith, omega arith)

pub returns : goal.returns
returns c =
    rw (
      ← c.is_stalled.ensures,
      c.if-is_stalled.false,
      ← c.in_phase.ensures,
    ) c.advance.ensures
