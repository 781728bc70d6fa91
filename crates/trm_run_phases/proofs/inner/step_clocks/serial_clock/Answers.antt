use Rattle.trm_run_phases.proofs.inner.step_clocks.serial_clock.Goals as goal

pub returns-then-is_stalled : goal.returns-then-is_stalled
returns-then-is_stalled c = λ v p q. rw (← c.is_stalled.ensures, c.if-is_stalled.true)

pub step-requires : goal.step-requires
step-requires c = c.requires

pub returns : goal.returns
returns c = λ v p q. rw (← c.is_stalled.ensures, c.if-is_stalled.false, c.step.ensures v p q)
