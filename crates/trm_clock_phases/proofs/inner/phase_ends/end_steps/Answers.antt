-- By step-ends: the registers are those after 32 steps, and this is the last clock (ends-worked).
use native.Mathlib.Omega.{arith}
use Rattle.trm_clock_execute.proofs.Laws.{stepped-few}
use Rattle.trm_clock_laws.proofs.Laws.Words.{other-made}
use Rattle.trm_clock_laws.proofs.Laws.Facts.{facts}
use Rattle.trm_clock_laws.proofs.Laws.Flight.{stepping-word, step-ends}
use Rattle.trm_clock_laws.proofs.Laws.Worked.{ends-worked}
use Rattle.trm_clock_phases.proofs.inner.phase_ends.end_steps.Goals as goal

pub long-requires : goal.long-requires
long-requires c =
    let f = facts _ _ _ _ _ c.requires.0 in
    let e = (step-ends _ _ _ _ _ f c.requires.1 c.requires.2).1 in
    (c.requires.0.widths, c.requires.0.counts, stepping-word _ _ _ _ _ f c.requires.1, e.product, e.remainder, e.quotient)

pub returns : goal.returns
returns c =
    let f = facts _ _ _ _ _ c.requires.0 in
    let few = stepped-few _ (stepping-word _ _ _ _ _ f c.requires.1) in
    ends-worked _ _ _ _ _ _ _ (step-ends _ _ _ _ _ f c.requires.1 c.requires.2).0 _
    (other-made _ _ _ _ _ _ _ (λ z. omega (arith, few, z)) (λ z. omega (arith, few, z)) (λ z. omega (arith, few, z)) _ _ _
    c.carried.ensures c.long.ensures.0 c.long.ensures.1)
