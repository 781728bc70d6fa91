-- By execute-arithmetic; H is kept since the operation is neither 8 nor 9 (unstepped).
use mathlib.Core.Path.{◌∙◌}
use Rattle.trm_alu.specs.Flags.{flags_of}
use Rattle.trm_alu.specs.Results.{result_of, high_of}
use Rattle.trm_reference.specs.Visible.{with_register}
use Rattle.trm_reference.specs.Execute.{calculated}
use Rattle.trm_core.proofs.Laws.Rule.{widths-from}
use Rattle.trm_core.specs.Record.{gathered}
use Rattle.trm_clock_execute.proofs.Laws.{unstepped, execute-arithmetic}
use Rattle.trm_clock_execute.proofs.inner.execute.calculate.Goals as goal

pub finish-requires : goal.finish-requires
finish-requires c = rw c.tick.ensures (widths-from _ c.requires.0).pc

pub returns : goal.returns
unfolding calculated flags_of result_of high_of with_register
returns c =
    let u = unstepped c.args.w c.requires.4 in
    let e = execute-arithmetic c.args.w (gathered c.args.c c.args.regs.now) 0 c.requires.3 in
    let b = c.operand_b-b.ensures in
    let a = c.operand_a-a.ensures in
    let x = c.short_result-x.ensures in (
      c.finish.ensures.0 ∙ rw (e, u.0, u.1, c.tick.ensures, c.flags_after-flags.ensures, x, c.requires.5, a, b),
      c.finish.ensures.1 ∙ rw (e, u.0, u.1, c.tick.ensures, x, c.requires.5, a, b),
    )
