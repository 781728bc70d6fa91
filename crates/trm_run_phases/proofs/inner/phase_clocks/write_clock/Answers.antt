use native.Mathlib.Omega.{arith}
use Rattle.trm_run_phases.proofs.inner.phase_clocks.write_clock.Goals as goal

pub hold-requires : goal.hold-requires
hold-requires c = c.requires.0

pub returns-then-is_stalled : goal.returns-then-is_stalled
returns-then-is_stalled c = (
  rw (← c.is_stalled.ensures, c.if-is_stalled.true) c.hold.ensures,
  rw (
    ← c.is_stalled.ensures,
    c.if-is_stalled.true,
  ),
)

pub write_word-requires : goal.write_word-requires
write_word-requires c = (c.requires.1, c.requires.2, c.requires.3)

pub overflow_add-k : goal.overflow_add-k
overflow_add-k c = omega (arith, c.requires.2)

pub advance-requires : goal.advance-requires
advance-requires c = (c.requires.0, omega arith, omega arith)

pub returns : goal.returns
returns c = (
  rw (
    ← c.is_stalled.ensures,
    c.if-is_stalled.false,
    ← c.in_phase.ensures,
  ) c.advance.ensures,
  rw (
    ← c.is_stalled.ensures,
    c.if-is_stalled.false,
  ) c.write_word.ensures,
)
