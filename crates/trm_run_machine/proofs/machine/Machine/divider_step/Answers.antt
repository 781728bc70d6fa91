use native.Mathlib.Omega.{arith}
use Rattle.trm_clock_scalars.proofs.Laws.Steps.{divides, divided-is}
use Rattle.trm_run_machine.proofs.machine.Machine.divider_step.Goals as goal

pub divider_step-running-requires : goal.divider_step-running-requires
divider_step-running-requires c = rw (c.operand_a-a.ensures, c.operand_b-b.ensures)
    (divides _ _ _ c.requires.0 (λ z. omega (arith, c.requires.1, z)))

pub advance-self-requires : goal.advance-self-requires
advance-self-requires c = (c.requires.2, omega arith, omega arith)

pub returns : goal.returns
returns c = rw (
  c.advance-self.ensures,
  c.divider_step-running.ensures,
  c.operand_a-a.ensures,
  c.operand_b-b.ensures,
  divided-is _ _ _ c.requires.0.stepped (λ z. omega (arith, c.requires.1, z)),
)
