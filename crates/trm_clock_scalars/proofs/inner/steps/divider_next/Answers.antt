use Rattle.trm_clock_scalars.proofs.Laws.Steps.{div-next}
use Rattle.trm_clock_scalars.proofs.inner.steps.divider_next.Goals as goal

pub returns : goal.returns
returns c =
    let k = c.requires.0 in
    let z = c.requires.1 in
    rw (
      c.step-after.ensures,
      div-next c.args.a c.args.b c.ranges.b.fits _ _ _ k.few (k.remainder z) (k.quotient z),
      k.product z,
    )
