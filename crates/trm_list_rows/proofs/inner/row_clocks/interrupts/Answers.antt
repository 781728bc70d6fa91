use mathlib.Core.Path.{refl}
use native.Mathlib.Omega.{arith}
use Rattle.trm_run_phases.proofs.Laws.Here.{interrupt_here}
use Rattle.trm_list_rows.proofs.Laws.Onward.{onward-interrupted}
use Rattle.trm_list_rows.proofs.Laws.Gone.{good_able, taken-idle}
use Rattle.trm_list_rows.proofs.inner.row_clocks.interrupts.Goals as goal

pub take_interrupt-c-requires : goal.take_interrupt-c-requires
take_interrupt-c-requires c =
    let gd = good_able _ _ c.args.l _ _ _ c.args.buf.now
    c.requires.0 _ refl in
    (gd.widths, gd.counts)

pub returns : goal.returns
returns c =
    let pre = c.requires in
    let t = c.take_interrupt-c.ensures in (
      onward-interrupted _ _ _ _ _ _ _ pre.0 pre.1 pre.3 _ (taken-idle _ _ _ pre.4 pre.5) pre.6 _ _
          (interrupt_here _ _ _ _ _ _ pre.3 pre.4 _ pre.5 pre.6 _ _ t.0 t.1) _ _
          c.interrupted.ensures,
      omega (arith, c.interrupted.ensures.left, pre.1),
    )
