-- By cases of the unit: product-stepped for MUL, pair-stepped for DIV.
use Rattle.trm_clock_scalars.proofs.Laws.Unit.{product-stepped, pair-stepped}
use Rattle.trm_clock_scalars.proofs.inner.packed_unit.Unit.step.Goals as goal

pub returns-then-w-eq8 : goal.returns-then-w-eq8
returns-then-w-eq8 c =
    λ v p q. rw c.step.ensures (product-stepped _ v c.args.self _ _ c.ranges.a.fits c.ranges.b.fits c.requires.0 p q c.if-w-eq8.true)

pub returns-else-w-eq8 : goal.returns-else-w-eq8
returns-else-w-eq8 c =
    λ v p q. rw (c.step-else-w-eq8.ensures, c.requires.1) (pair-stepped _ v c.args.self _ _ c.ranges.a.fits c.ranges.b.fits c.requires.0 p q
    c.if-w-eq8.false)
