-- The contract of `first_clock` gives one clock of `clock_of`; that of `went` its row.
use mathlib.Core.Path.{sym}
use native.Mathlib.Omega.{arith}
use Rattle.trm_run_phases.proofs.Laws.Here.{ready-here}
use Rattle.trm_list_rows.proofs.Laws.Onward.{onward-went}
use Rattle.trm_list_rows.proofs.Laws.Gone.{good_able, taken-idle}
use Rattle.trm_list_rows.proofs.inner.row_clocks.begins.Goals as goal

pub first_clock-r-requires : goal.first_clock-r-requires
first_clock-r-requires c = (
  good_able _ _ c.args.l _ _ _ c.args.buf.now c.requires.0 _ c.word_at-w.ensures,
  c.requires.4,
)

pub returns : goal.returns
returns c =
    let pre = c.requires in (
      onward-went _ _ _ _ _ _ _ pre.0 pre.1 pre.3 (taken-idle _ _ 0 pre.4 (sym pre.5)) _ _ _ _
          (ready-here _ _ _ _ _ _ _ c.word_at-w.ensures pre.3 pre.4 pre.5 _ c.first_clock-r.ensures) _ c.word_at-w.ensures _ _
          c.went.ensures,
      omega (arith, c.went.ensures.left, pre.1),
    )
