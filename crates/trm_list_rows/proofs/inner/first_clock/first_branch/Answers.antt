-- The proof of trm_list_rows::inner::first_clock::first_branch.
use mathlib.Core.Path.{refl, sym, ◌∙◌}
use native.Mathlib.Omega.{arith}
use Rattle.trm_clock_laws.proofs.Laws.Facts.{facts}
use Rattle.trm_clock_laws.proofs.Laws.Kinds.{kind-taken, kind-not_taken}
use Rattle.trm_clock_laws.proofs.Laws.First.{first-second, first_quick}
use Rattle.trm_clock_execute.proofs.Laws.{execute-not_taken}
use Rattle.trm_clock_laws.proofs.Laws.Worked.{goes-worked, ends-worked}
use Rattle.trm_clock_laws.proofs.Laws.Words.{other-made}
use Rattle.trm_list_rows.proofs.inner.first_clock.first_branch.Goals as goal

pub returns-then-branch_taken : goal.returns-then-branch_taken
returns-then-branch_taken c = let g = c.requires in
    goes-worked _ _ _ _ _ _ _ _ (first-second _ _ _ _ _ (facts _ _ _ _ _ g.0) g.1 (kind-taken _ _ _ g.2
    (sym c.branch_taken.ensures ∙ c.if-branch_taken.true))) _ _ _ _ _ _ c.enters.ensures refl

pub pass-requires : goal.pass-requires
pass-requires c = let g = c.requires in
    (g.0.widths, g.0.counts, execute-not_taken _ _ 0 g.2 (sym c.branch_taken.ensures ∙ c.if-branch_taken.false))

pub returns : goal.returns
returns c = let g = c.requires in
    ends-worked _ _ _ _ _ _ _
    (first_quick _ _ _ _ _ (facts _ _ _ _ _ g.0) g.1 (kind-not_taken _ _ _ g.2 (sym
    c.branch_taken.ensures ∙ c.if-branch_taken.false))).0 _
    (other-made _ _ _ _ _ _ _ (λ z. omega (arith, g.2, z)) (λ z. omega (arith, g.2, z)) (λ z. omega (arith, g.2, z)) _ _ _
    c.carried.ensures c.pass.ensures.0 c.pass.ensures.1)
