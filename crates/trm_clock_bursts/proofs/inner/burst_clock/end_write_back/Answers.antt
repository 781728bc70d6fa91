use Rattle.trm_reference.specs.Geometry.{burst}
use Rattle.trm_core.specs.Clock.{writing}
use Rattle.trm_clock_bursts.proofs.inner.burst_clock.end_write_back.Goals as goal

pub returns : goal.returns
unfolding writing burst
returns c = let e = c.written_back.ensures in (
  λ k. rw (← c.write_word.ensures, ← c.clean_line.ensures) (e.0 k _),
  e.1,
  e.2,
)
