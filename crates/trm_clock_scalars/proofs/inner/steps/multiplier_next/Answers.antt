use Rattle.trm_clock_scalars.proofs.Laws.Steps.{mul_next}
use Rattle.trm_clock_scalars.proofs.inner.steps.multiplier_next.Goals as goal

pub returns : goal.returns
returns c =
    let k = c.requires.0 in
    let z = c.requires.1 in
    rw (
      c.step.ensures,
      mul_next c.args.a c.args.b c.ranges.b.fits _ _ c.ranges.a.fits k.few (k.product z),
      k.remainder z,
      k.quotient z,
    )
