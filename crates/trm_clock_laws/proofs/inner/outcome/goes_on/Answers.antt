use Rattle.trm_clock_laws.proofs.inner.outcome.goes_on.Goals as goal

pub returns : goal.returns
returns c = rw (c.quiet.ensures, c.advance.ensures)
