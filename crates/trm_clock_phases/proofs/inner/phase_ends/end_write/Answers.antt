-- By write-end: the tenth clock of a write-back is `writing`, which is not the instruction's last clock (goes-worked).
use Rattle.trm_clock_laws.proofs.Laws.Facts.{facts}
use Rattle.trm_clock_laws.proofs.Laws.Flight.{write-at, write-end}
use Rattle.trm_clock_laws.proofs.Laws.Worked.{goes-worked}
use Rattle.trm_clock_phases.proofs.inner.phase_ends.end_write.Goals as goal

pub line_of_burst-l-requires : goal.line_of_burst-l-requires
line_of_burst-l-requires c = (
  c.requires.0.legal,
  c.turns_cache_off-clears.ensures,
)

pub end_write_back-m-requires : goal.end_write_back-m-requires
end_write_back-m-requires c =
    let p = write-at _ _ _ _ _ (facts _ _ _ _ _ c.requires.0) c.requires.1 _ _
    c.turns_cache_off-clears.ensures
    c.line_of_burst-l.ensures.0 in (p.line, p.inside)

pub goes_on-requires : goal.goes_on-requires
goes_on-requires c = (
  c.requires.0.counts,
  c.end_write_back-m.ensures.1,
  c.end_write_back-m.ensures.2,
)

pub returns : goal.returns
returns c =
    let p = write-end _ _ _ _ _ (facts
    _ _ _ _ _ c.requires.0) c.requires.1 c.requires.2 _ _ c.turns_cache_off-clears.ensures
    c.line_of_burst-l.ensures.0 in
    goes-worked _ _ _ _ _ _ _ _ p _ _ _ _ _ _ c.goes_on.ensures (c.end_write_back-m.ensures.0 _)
