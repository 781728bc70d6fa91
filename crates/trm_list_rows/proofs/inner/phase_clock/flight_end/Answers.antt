-- The proof of trm_list_rows::inner::phase_clock::flight_end.
use Rattle.trm_clock_laws.proofs.Laws.Flight.{due-ends}
use Rattle.trm_clock_laws.proofs.Laws.Facts.{facts}
use Rattle.trm_clock_laws.proofs.Laws.Late.{late}
use Rattle.trm_clock_laws.proofs.Laws.Worked.{ends-worked}
use Rattle.trm_list_rows.proofs.inner.phase_clock.flight_end.Goals as goal

pub last_clock-requires : goal.last_clock-requires
last_clock-requires c =
    let n = c.in_default.in_default-own.rest in (
      c.requires.0,
      late _ _ _ _ _ (facts _ _ _ _ _
          c.requires.0)
          c.requires.1 n.0.0.0.1 n.0.0.1 n.0.1 n.1,
    )

pub returns-in_default : goal.returns-in_default
returns-in_default c =
    let n = c.in_default.in_default-own.rest in
    ends-worked _ _ _ _ _ _ _ (due-ends _ _ _ _ _ (facts _ _ _ _ _
    c.requires.0)
    c.requires.1 n.0.0.0.1
    n.0.0.1 n.0.1 n.1).0 _ c.last_clock.ensures
