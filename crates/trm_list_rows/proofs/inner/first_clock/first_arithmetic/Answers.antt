-- The proof of trm_list_rows::inner::first_clock::first_arithmetic.
use mathlib.Core.Path.{sym, ◌∙◌}
use native.Mathlib.Omega.{arith}
use Rattle.trm_clock_laws.proofs.Laws.Facts.{facts}
use Rattle.trm_clock_laws.proofs.Laws.Kinds.{charged-of, cheap_of, kind-stepped, kind-short}
use Rattle.trm_clock_laws.proofs.Laws.First.{first-longer, first_quick, idle-running}
use Rattle.trm_clock_laws.proofs.Laws.Worked.{goes-worked, ends-worked}
use Rattle.trm_clock_laws.proofs.Laws.Words.{other-made}
use Rattle.trm_list_rows.proofs.inner.first_clock.first_arithmetic.Goals as goal

pub short-requires : goal.short-requires
short-requires c = let g = c.requires in (
  g.0.widths,
  g.0.counts,
  idle-running _ _ _ _ _ (facts _ _ _ _ _ g.0) g.1,
  g.2,
  cheap_of _ (sym (c.of.ensures) ∙ c.if-of-eq1.true),
)

pub returns-then-of-eq1 : goal.returns-then-of-eq1
returns-then-of-eq1 c = let g = c.requires in
    let q = cheap_of _ (sym (c.of.ensures) ∙ c.if-of-eq1.true) in
    ends-worked _ _ _ _ _ _ _ (first_quick _ _ _ _ _ (facts _ _ _ _ _ g.0) g.1 (kind-short _ _ _ g.2 q)).0 _
    (other-made _ _ _ _ _ _ _ (λ z. omega (arith, g.2, z)) (λ z. omega (arith, g.2, z)) (λ z. omega (arith, g.2, z)) _ _ _
    c.carried.ensures c.short.ensures.0 c.short.ensures.1)

pub first_step-requires : goal.first_step-requires
first_step-requires c = let g = c.requires in (
  (first-longer _ _ _ _ _ (facts _ _ _ _ _ g.0) g.1 (kind-stepped _ _ _ (charged-of _ g.2
      (λ o. c.if-of-eq1.false (c.of.ensures ∙ o))))).1,
  g.1,
)

pub returns : goal.returns
returns c = let g = c.requires in
    goes-worked _ _ _ _ _ _ _ _ (first-longer _ _ _ _ _ (facts _ _ _ _ _ g.0) g.1
    (kind-stepped _ _ _ (charged-of _ g.2
    (λ o. c.if-of-eq1.false (c.of.ensures ∙ o))))).0
    _ _ _ _ _ _ c.goes_on.ensures (rw c.first_step.ensures)
