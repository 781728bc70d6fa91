use Rattle.trm_clock_scalars.proofs.Laws.Steps.{mul-first}
use Rattle.trm_clock_scalars.proofs.inner.steps.multiplier_first.Goals as goal

pub returns : goal.returns
returns c = rw (c.step.ensures, c.in_phase.ensures, mul-first c.args.a c.args.b c.ranges.b.fits c.ranges.a.fits)
