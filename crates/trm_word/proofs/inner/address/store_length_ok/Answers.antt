-- The ten lengths are the powers of two from 64 to 32,768 (Laws.Length).
use Rattle.std.proofs.Common.{arith}
use Rattle.trm_word.proofs.Laws.Length.{below, above, inside}
use Rattle.trm_word.proofs.inner.address.store_length_ok.Goals as goal

pub returns-then-length-le32768 : goal.returns-then-length-le32768
returns-then-length-le32768 c = grind (arith, inside)

pub returns-else-length-le32768 : goal.returns-else-length-le32768
returns-else-length-le32768 c = grind (arith, below, above)
