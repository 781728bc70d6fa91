use Rattle.trm_clock_bursts.proofs.inner.burst_clock.moves.Goals as goal

pub returns : goal.returns
returns c = rw c.in_phase-running.ensures
