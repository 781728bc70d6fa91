-- By cases of the unit; one step's registers are `stepping` (multiplied-is, divided-is).
use Rattle.trm_clock_scalars.proofs.Laws.Steps.{multiplied-is, divided-is}
use Rattle.trm_clock_scalars.proofs.inner.steps.first_step.Goals as goal

pub returns-then-w-eq8 : goal.returns-then-w-eq8
returns-then-w-eq8 c =
    rw (c.multiplier_first.ensures, c.operand_a-a.ensures, c.operand_b-b.ensures, c.requires.0.fresh c.requires.1)
    (multiplied-is _ _ 1 c.if-w-eq8.true)

pub returns-else-w-eq8 : goal.returns-else-w-eq8
returns-else-w-eq8 c =
    rw (c.divider_first.ensures, c.operand_a-a.ensures, c.operand_b-b.ensures, c.requires.0.fresh c.requires.1)
    (divided-is _ _ 1 c.requires.0.stepped c.if-w-eq8.false)
