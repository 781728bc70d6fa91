-- Two continuations in sequence: the clocks of `gone_ahead`, then the last clock of the phase with its row.
use mathlib.Core.Path.{sym, ap, ◌∙◌, subst}
use Prim.Native.Nat.{◌≤◌}
use native.Mathlib.Omega.{arith}
use Rattle.trm_reference.specs.Visible.{word_at}
use Rattle.trm_clock_laws.specs.Made.{Ends}
use Rattle.trm_run_phases.proofs.Laws.Here.{flight_here}
use Rattle.trm_list_rows.proofs.Laws.Onward.{onward-went, onward_then}
use Rattle.trm_list_rows.proofs.Laws.Gone.{good-onward, none-in_flight}
use Rattle.trm_list_rows.proofs.inner.row_clocks.goes_on.Goals as goal

pub flight_end-r-requires : goal.flight_end-r-requires
flight_end-r-requires c =
    let g = c.gone_ahead-gone.ensures in
    let o = g.0 c.args.buf.now (omega (
      arith,
      c.requires.2,
    )) in
    let w = c.word_at-w.ensures in (
      good-onward _ _ _ _ _ _ _ _ _ _ o _ w,
      g.2,
      subst (λ x. Ends x c.gone_ahead-gone.result.scalars.running) (sym (w ∙ ap (λ i. word_at
          c.args.program.now i) g.1))
          (g.6 (omega (arith, g.4, g.5, c.if-l-gone.false))),
    )

pub returns : goal.returns
returns c =
    let pre = c.requires in
    let g = c.gone_ahead-gone.ensures in
    let o = g.0 c.args.buf.now (omega (arith, pre.2)) in
    let m : c.min-m.result ≤ c.args.l.left = omega (arith, c.min-m.ensures) in (
      onward_then _ _ o (onward-went _ _ _ _ _ _ _ o.able (omega (
        arith,
        g.4,
        g.5,
        c.if-l-gone.false,
        m,
      )) pre.3
          (none-in_flight _ _ g.2) _ _ _ _
          (flight_here _ _ _ _ _ _ _ c.word_at-w.ensures pre.3 g.2 _ c.flight_end-r.ensures) _ c.word_at-w.ensures
          _ _ c.went.ensures),
      omega (
        arith,
        c.went.ensures.left,
        g.4,
        g.5,
        c.if-l-gone.false,
        m,
      ),
    )
