use native.Mathlib.Omega.{arith}
use Rattle.trm_reference.specs.Geometry.{burst}
use Rattle.trm_core.specs.Clock.{filling}
use Rattle.trm_clock_bursts.proofs.inner.burst_clock.end_refill.Goals as goal

pub returns : goal.returns
unfolding filling burst
returns c = let e = c.fill_line.ensures in (
  λ k. rw (c.moves.ensures, ← c.fill_word.ensures, e),
  rw c.moves.ensures (omega arith),
  rw c.moves.ensures (omega arith),
)
