use native.Mathlib.Omega.{arith}
use Rattle.trm_clock_scalars.proofs.Laws.Steps.{multiplies, multiplied-is}
use Rattle.trm_run_machine.proofs.machine.Machine.multiplier_step.Goals as goal

pub multiplier_step-running-requires : goal.multiplier_step-running-requires
multiplier_step-running-requires c = rw (c.operand_a-a.ensures, c.operand_b-b.ensures) (multiplies _ _ _ c.requires.0 c.requires.1)

pub advance-self-requires : goal.advance-self-requires
advance-self-requires c = (c.requires.2, omega arith, omega arith)

pub returns : goal.returns
returns c = rw (
  c.advance-self.ensures,
  c.multiplier_step-running.ensures,
  c.operand_a-a.ensures,
  c.operand_b-b.ensures,
  multiplied-is _ _ _ c.requires.1,
)
