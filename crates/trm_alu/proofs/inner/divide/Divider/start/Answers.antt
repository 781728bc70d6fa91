-- Both registers are 0 for A not above 0; otherwise no bit of |B| is shifted in yet (law `div-start`).
use Rattle.trm_alu.proofs.Laws.Division.{above0-no, above0-yes, registers-none, div-start}
use Rattle.trm_alu.proofs.inner.divide.Divider.start.Goals as goal

pub returns-then-not-above0 : goal.returns-then-not-above0
returns-then-not-above0 c = registers-none _ c.args.b 0 (above0-no _ _ c.above0.ensures c.if-not-above0.true)

pub returns : goal.returns
returns c =
    let p = above0-yes _ _ c.above0.ensures c.if-not-above0.false in
    rw c.magnitude.ensures (div-start c.args.a c.args.b p.0 p.1 c.ranges.b.fits)
