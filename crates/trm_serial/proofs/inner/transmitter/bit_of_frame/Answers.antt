use Rattle.std.proofs.Common.{arith}
use Rattle.trm_serial.proofs.Laws.Narrow.{data_bit, stop-bit}
use Rattle.trm_serial.proofs.inner.transmitter.bit_of_frame.Goals as goal

pub returns-in-1-to-8 : goal.returns-in-1-to-8
returns-in-1-to-8 c = (data_bit c.args.byte c.args.place (omega arith) (omega arith), omega arith)

pub returns-in_default : goal.returns-in_default
returns-in_default c = (stop-bit c.args.byte c.args.place (omega arith), omega arith)
