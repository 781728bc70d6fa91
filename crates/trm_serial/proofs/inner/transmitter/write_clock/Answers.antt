use Rattle.std.proofs.Common.{rules}
use Rattle.trm_serial.specs.Serial.{left_after, sent_after, ready_after}
use Rattle.trm_serial.specs.Timing.{frame}
use Rattle.trm_serial.proofs.inner.transmitter.write_clock.Goals as goal

pub returns : goal.returns
unfolding left_after sent_after ready_after frame
returns c = search rules
