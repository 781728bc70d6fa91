-- One step of the divider, by trm_alu's law.
use Rattle.std.proofs.Common.{ap, ◌∙◌, ◌≤◌, arith}
use Rattle.trm_alu.specs.Divide.{div_step}
use Rattle.trm_alu.specs.declared.inner.divide.Divider.{Divider}
use Rattle.trm_alu.proofs.Theorems.{theorems}
use Rattle.trm_test_vectors.proofs.arithmetic.divided_so_far.Goals as goal

pub loop-k-preserved : goal.loop-k-preserved
loop-k-preserved c h =
    let l : c.loop-k._k ≤ 32 = omega arith in
    c.step-d.ensures ∙ ap (λ (d : Divider). div_step d.rem d.quot c.args.a) (c.loop-k.invariant l)
    ∙ theorems.div_steps c.args.a c.args.b c.loop-k._k c.ranges.b.fits (omega arith)
