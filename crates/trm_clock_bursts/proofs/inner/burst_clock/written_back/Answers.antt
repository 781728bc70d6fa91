-- By cases: the cache is turned off with no dirty line left, or with one; or an access empties its line.
use native.Mathlib.Omega.{arith}
use borrow.Author.Tests.{eq-eqb, ne_eqb}
use Rattle.trm_core.specs.Clock.{written}
use Rattle.trm_clock_bursts.proofs.inner.burst_clock.written_back.Goals as goal

pub returns-then-d-eq0 : goal.returns-then-d-eq0
unfolding written
returns-then-d-eq0 c = (
  λ k s. rw (
    c.if-clears.true,
    ← c.dirty_lines-d.ensures.0,
    eq-eqb _ _ c.if-d-eq0.true,
    c.moves.ensures,
  ),
  rw c.moves.ensures (omega arith),
  rw c.moves.ensures (omega arith),
)

pub returns-then-clears : goal.returns-then-clears
unfolding written
returns-then-clears c = (
  λ k s. rw (
    c.if-clears.true,
    ← c.dirty_lines-d.ensures.0,
    ne_eqb _ _ c.if-d-eq0.false,
    c.moves-then-clears.ensures,
  ),
  rw c.moves-then-clears.ensures (omega arith),
  rw c.moves-then-clears.ensures (omega arith),
)

pub returns : goal.returns
unfolding written
returns c = let e = c.empty_line.ensures in (
  λ k s. rw (c.if-clears.false, c.moves-2.ensures, e),
  rw c.moves-2.ensures (omega arith),
  rw c.moves-2.ensures (omega arith),
)
