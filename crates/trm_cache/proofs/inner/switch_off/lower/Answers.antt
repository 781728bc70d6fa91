-- By cases of its two tests.
use borrow.Author.Tests.{eq-eqb, ne_eqb}
use native.Mathlib.Omega.{arith}
use Rattle.trm_cache.proofs.inner.switch_off.lower.Goals as goal

pub returns-then-count-ne0 : goal.returns-then-count-ne0
returns-then-count-ne0 c = (rw (ne_eqb _ _ c.if-count-ne0.true), c.requires.0)

pub returns-then-d : goal.returns-then-d
returns-then-d c = (rw (eq-eqb _ _ c.if-count-ne0.false, c.if-d.true), c.requires.1)

pub returns-else-d : goal.returns-else-d
returns-else-d c = (rw (eq-eqb _ _ c.if-count-ne0.false, c.if-d.false), omega arith)
