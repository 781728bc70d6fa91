use native.Mathlib.Omega.{arith}
use Rattle.trm_cache.proofs.inner.switch_off.count_one.Goals as goal

pub returns-then-d : goal.returns-then-d
returns-then-d c = rw c.if-d.true

pub returns-else-d : goal.returns-else-d
returns-else-d c = rw c.if-d.false (omega arith)
