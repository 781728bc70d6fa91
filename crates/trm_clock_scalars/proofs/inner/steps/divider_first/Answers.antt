use Rattle.trm_clock_scalars.proofs.Laws.Steps.{div-first}
use Rattle.trm_clock_scalars.proofs.inner.steps.divider_first.Goals as goal

pub returns : goal.returns
returns c = rw (c.step-after.ensures, c.in_phase.ensures, div-first c.args.a c.args.b c.ranges.b.fits _ c.start.ensures)
