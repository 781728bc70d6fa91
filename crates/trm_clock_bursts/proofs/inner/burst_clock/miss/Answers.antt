use native.Mathlib.Omega.{arith}
use Rattle.trm_core.specs.Clock.{missing}
use Rattle.trm_clock_bursts.proofs.inner.burst_clock.miss.Goals as goal

pub returns-then-line_dirty : goal.returns-then-line_dirty
unfolding missing
returns-then-line_dirty c = (
  λ k s. rw (← c.line_dirty.ensures, c.if-line_dirty.true, c.moves.ensures),
  rw c.moves.ensures
      (omega arith),
  rw c.moves.ensures (omega arith),
)

pub returns : goal.returns
unfolding missing
returns c = let e = c.empty_line.ensures in (
  λ k s. rw (
    ← c.line_dirty.ensures,
    c.if-line_dirty.false,
    c.moves-2.ensures,
    e,
  ),
  rw c.moves-2.ensures (omega arith),
  rw c.moves-2.ensures (omega arith),
)
