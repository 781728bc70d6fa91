use native.Mathlib.Omega.{arith}
use Rattle.trm_clock_laws.proofs.inner.outcome.enters.Goals as goal

pub goes_on-requires : goal.goes_on-requires
goes_on-requires c = (c.requires, omega arith, omega arith)

pub returns : goal.returns
returns c = rw (c.goes_on.ensures, c.in_phase.ensures)
