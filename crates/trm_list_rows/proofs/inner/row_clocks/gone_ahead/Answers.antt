-- By cases of the phase: in phase 5 no clock is run; else Laws/Gone for the clocks of `flight_ahead`.
use mathlib.Core.Path.{refl, sym, ap, ◌∙◌, subst}
use native.Mathlib.Omega.{arith}
use mathlib.Core.List.{[]}
use lib.ListN.{length, length-replicate}
use Rattle.trm_clock_laws.specs.Made.{Ends}
use Rattle.trm_run_phases.specs.Reached.{point}
use Rattle.trm_list_rows.proofs.Laws.Gone.{under_able, gone-below, onward-gone, line_bytes_same}
use Rattle.trm_list_rows.proofs.inner.row_clocks.gone_ahead.Goals as goal

pub flight_ahead-h-requires : goal.flight_ahead-h-requires
flight_ahead-h-requires c =
    let pre = c.requires in (
      under_able _ _ c.args.l _ _ _ [] pre.0 _
          pre.3 pre.4 _ (line_bytes_same _ _ pre.4) _ c.word_at-w.ensures,
      pre.2,
      c.if-l-eq5.false,
    )

pub overflow_sub-result : goal.overflow_sub-result
overflow_sub-result c =
    let pre = c.requires in
    let q = c.flight_ahead-h.ensures in
    let below = gone-below _ _ c.args.l _ _ _ [] pre.0 _ pre.3 pre.4 _ (line_bytes_same _ _ pre.4) pre.1 pre.2 _
    c.word_at-w.ensures (point
    c.flight_ahead-h.result _ _ _) q.0 q.3 in
    omega (arith, below, pre.3)

pub overflow_add-result : goal.overflow_add-result
overflow_add-result c =
    let pre = c.requires in
    let q = c.flight_ahead-h.ensures in
    let below = gone-below _ _ c.args.l _ _ _ [] pre.0 _ pre.3 pre.4 _ (line_bytes_same _ _ pre.4) pre.1 pre.2 _
    c.word_at-w.ensures (point
    c.flight_ahead-h.result _ _ _) q.0 q.3 in
    omega (arith, below, pre.4, pre.0.few, pre.0.room)

pub returns : goal.returns
returns c =
    let pre = c.requires in
    let q = c.flight_ahead-h.ensures in
    let same = line_bytes_same _ c.args.pins pre.4 in
    let below = gone-below _ _ c.args.l _ _ _ [] pre.0 _ pre.3 pre.4 _ same pre.1 pre.2 _
    c.word_at-w.ensures (point
    c.flight_ahead-h.result _ _ _) q.0 q.3 in (
      λ b f. onward-gone _ _ c.args.l _ _ _ b pre.0 _ pre.3 pre.4 _ same pre.1 pre.2 _
          c.word_at-w.ensures (point
          c.flight_ahead-h.result _ _ _) q.0 q.3 f,
      q.1,
      λ z. pre.2 (sym q.2 ∙ z),
      refl,
      omega arith,
      omega (arith, below, pre.3),
      λ more.
          let long = ap length same ∙ length-replicate c.args.m
          c.args.pins in
          subst (λ w. Ends w c.flight_ahead-h.result.scalars.running)
          c.word_at-w.ensures
          (q.4 (omega (arith, below, pre.3, more, long))),
    )
