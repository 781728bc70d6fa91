use Rattle.trm_run_machine.proofs.machine.Machine.acknowledge.Goals as goal

pub returns : goal.returns
returns c = let e = c.take_interrupt-self.ensures in rw (e.0, e.1)
