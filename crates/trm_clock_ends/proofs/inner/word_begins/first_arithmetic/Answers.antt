-- Operation 10 is the last clock (first_quick), 8 and 9 take a step (first-longer).
use native.Mathlib.Omega.{arith}
use Rattle.trm_clock_laws.proofs.Laws.Facts.{facts}
use Rattle.trm_clock_laws.proofs.Laws.Kinds.{stepped-of, unstepped_of, kind-stepped, kind-short}
use Rattle.trm_clock_laws.proofs.Laws.First.{first-longer, first_quick, idle-running}
use Rattle.trm_clock_laws.proofs.Laws.Worked.{goes-worked, ends-worked}
use Rattle.trm_clock_laws.proofs.Laws.Words.{other-made}
use Rattle.trm_clock_ends.proofs.inner.word_begins.first_arithmetic.Goals as goal

pub rotate-requires : goal.rotate-requires
rotate-requires c = (
  c.requires.0.widths,
  c.requires.0.counts,
  idle-running _ _ _ _ _ (facts _ _ _ _ _ c.requires.0) c.requires.1,
  c.if-w-eq10.true,
)

pub returns-then-w-eq10 : goal.returns-then-w-eq10
returns-then-w-eq10 c = let o = c.if-w-eq10.true in
    ends-worked _ _ _ _ _ _ _
    (first_quick _ _ _ _ _ (facts _ _ _ _ _ c.requires.0) c.requires.1
    (kind-short _ _ _ c.requires.3 (unstepped_of _ (λ z. omega (arith, o, z)) (λ z. omega (arith, o, z))))).0 _
    (other-made _ _ _ _ _ _ _ (λ z. omega (arith, o, z)) (λ z. omega (arith, o, z)) (λ z. omega (arith, o, z)) _ _ _
    c.carried.ensures c.rotate.ensures.0 c.rotate.ensures.1)

pub first_step-requires : goal.first_step-requires
first_step-requires c = (
  (first-longer _ _ _ _ _ (facts _ _ _ _ _ c.requires.0) c.requires.1
      (kind-stepped _ _ _ (stepped-of _ c.requires.2 c.requires.3 c.if-w-eq10.false))).1,
  c.requires.1,
)

pub goes_on-requires : goal.goes_on-requires
goes_on-requires c = (c.requires.0.counts, omega arith, omega arith)

pub returns : goal.returns
returns c = goes-worked _ _ _ _ _ _ _ _ (first-longer _ _ _ _ _ (facts _ _ _ _ _ c.requires.0) c.requires.1
    (kind-stepped _ _ _ (stepped-of _ c.requires.2 c.requires.3 c.if-w-eq10.false))).0
    _ _ _ _ _ _ c.goes_on.ensures (rw c.first_step.ensures)
