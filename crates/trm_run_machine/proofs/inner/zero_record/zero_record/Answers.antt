use Rattle.trm_core.specs.Record.{reset_of}
use Rattle.trm_run_machine.proofs.inner.zero_record.zero_record.Goals as goal

pub returns : goal.returns
unfolding reset_of
returns c = rw c.zero_scalars-scalars.ensures
