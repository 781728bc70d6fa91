-- The proof of trm_list_rows::inner::phase_clock::flight_ahead.
use mathlib.Core.Path.{sym, ◌∙◌}
use native.Mathlib.Omega.{arith}
use Rattle.trm_clock_laws.proofs.Laws.Facts.{facts}
use Rattle.trm_clock_laws.proofs.Laws.Flight.{wait-left}
use Rattle.trm_run_phases.proofs.Laws.Here.{good-here}
use Rattle.trm_list_rows.proofs.inner.phase_clock.flight_ahead.Goals as goal

pub wait_ahead-requires : goal.wait_ahead-requires
wait_ahead-requires c =
    let g = c.requires in
    let n = c.in_default.in_default-own.rest in (
      g.0,
      wait-left _ _ _ _ _ (facts _ _ _ _ _ (good-here _ _ _ _ _ _ _ _ _ _ g.0.so _ g.0.word)) g.1 g.2 n.0.0.1
          n.0.1
          n.1,
    )

pub returns-in_default : goal.returns-in_default
returns-in_default c =
    let m = c.wait_ahead.ensures in
    let g = c.requires in
    let n = c.in_default.in_default-own.rest in (
      m.0,
      m.1,
      m.2 ∙ sym (wait-left _ _ _ _ _ (facts _ _ _ _ _ (good-here _ _ _ _ _ _ _ _ _ _ g.0.so _ g.0.word)) g.1 g.2
          n.0.0.1 n.0.1 n.1),
      m.4,
      λ more. record {
        steps = λ z. absurd (omega (arith, m.2, z));
        writes = λ z. absurd (omega (arith, m.2, z));
        fills = λ z. absurd (omega (arith, m.2, z));
        waits = λ _. m.5 more;
      },
    )
