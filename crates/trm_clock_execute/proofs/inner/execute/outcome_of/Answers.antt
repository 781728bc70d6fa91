-- By cases of the operation: mul_ends of trm_alu for 8, the contract of `finish` for 9.
use borrow.Author.Tests.{eq-eqb, ne_eqb}
use Rattle.trm_alu.specs.Results.{result_of, high_of}
use Rattle.trm_alu.proofs.Theorems.{theorems}
use Rattle.trm_clock_execute.proofs.inner.execute.outcome_of.Goals as goal

pub returns-then-op-eq8 : goal.returns-then-op-eq8
unfolding result_of high_of
returns-then-op-eq8 c = λ h. let ends = theorems.mul_ends c.args.a c.args.b in
    rw (eq-eqb _ _ c.if-op-eq8.true, c.requires.0 c.if-op-eq8.true, ends.0, ends.1)

pub returns : goal.returns
unfolding result_of high_of
returns c = λ h. rw (ne_eqb _ _ c.if-op-eq8.false, eq-eqb _ _ (c.requires.1 c.if-op-eq8.false), c.finish-d.ensures)
