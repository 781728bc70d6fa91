-- After 32 steps the registers in flight are the closed forms (product_is, remainder_is, quotient_is), from which the result follows.
use mathlib.Core.Path.{◌∙◌}
use Rattle.trm_alu.specs.Flags.{flags_of}
use Rattle.trm_reference.specs.Visible.{with_register}
use Rattle.trm_reference.specs.Execute.{calculated}
use Rattle.trm_core.proofs.Laws.Rule.{widths-from}
use Rattle.trm_clock_scalars.proofs.Laws.Steps.{product_is, remainder_is, quotient_is}
use Rattle.trm_core.specs.Record.{gathered}
use Rattle.trm_clock_execute.proofs.Laws.{stepped-either, stepped-few, execute-arithmetic}
use Rattle.trm_clock_execute.proofs.inner.execute.long.Goals as goal

pub outcome_of-out-requires : goal.outcome_of-out-requires
outcome_of-out-requires c = rw (c.operand_a-a.ensures, c.operand_b-b.ensures)
    (product_is _ _ _ c.requires.3, stepped-either c.args.w c.requires.2, remainder_is _ _ _ c.requires.4, quotient_is _ _ _ c.requires.5)

pub finish-requires : goal.finish-requires
finish-requires c = rw c.settle.ensures (widths-from _ c.requires.0).pc

pub returns : goal.returns
unfolding calculated flags_of with_register
returns c =
    let e = execute-arithmetic c.args.w (gathered c.args.c c.args.regs.now) 0 (stepped-few c.args.w c.requires.2) in
    let b = c.operand_b-b.ensures in
    let a = c.operand_a-a.ensures in
    let out = c.outcome_of-out.ensures c.args.c.h in (
      c.finish.ensures.0 ∙ rw (e, c.settle.ensures, c.flags_after-flags.ensures, out, a, b),
      c.finish.ensures.1 ∙ rw (e, c.settle.ensures, out, a, b),
    )
