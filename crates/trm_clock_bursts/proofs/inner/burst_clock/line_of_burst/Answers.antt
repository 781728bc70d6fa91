use native.Mathlib.Omega.{arith}
use native.Mathlib.Nat.{mod-lt}
use Rattle.trm_core.specs.Clock.{write_line}
use Rattle.trm_reference.specs.Geometry.{line_of, block_of}
use Rattle.trm_reference.specs.Access.{target_block, target_line}
use Rattle.trm_clock_bursts.proofs.inner.burst_clock.line_of_burst.Goals as goal

pub returns-then-clears : goal.returns-then-clears
unfolding write_line target_line target_block line_of block_of
returns-then-clears c = (rw (← c.requires.1, c.if-clears.true) c.dirty_lines-d.ensures.1, c.dirty_lines-d.ensures.2)

pub returns : goal.returns
unfolding write_line target_line target_block line_of block_of
returns c = (rw (← c.requires.1, c.if-clears.false, c.target_of-a.ensures), mod-lt _ (omega arith))
