-- By fill_end: the tenth clock of a refill is `filling`, which is not the instruction's last clock (goes-worked).
use mathlib.Core.Path.{ap, sym, ◌∙◌}
use Prim.Native.Nat.{◌/◌}
use native.Mathlib.Omega.{arith}
use native.Mathlib.Nat.{mod-lt}
use Rattle.trm_core.proofs.Laws.Fit.{legal_small}
use Rattle.trm_clock_laws.proofs.Laws.Facts.{facts}
use Rattle.trm_clock_laws.proofs.Laws.Flight.{fill-at, fill_end}
use Rattle.trm_clock_laws.proofs.Laws.Kinds.{block_at}
use Rattle.trm_clock_laws.proofs.Laws.Worked.{goes-worked}
use Rattle.trm_clock_phases.proofs.inner.phase_ends.end_fill.Goals as goal

pub end_refill-m-requires : goal.end_refill-m-requires
end_refill-m-requires c = let p = fill-at _ _ _ _ _
    (facts _ _ _ _ _ c.requires.0) c.requires.1 _
    (ap (λ a. a / 8) c.target_of-b.ensures ∙ sym (block_at _ _ _)) in
    (mod-lt _ (omega arith), omega (arith, p.inside, legal_small _ c.requires.0.legal), p.inside)

pub goes_on-requires : goal.goes_on-requires
goes_on-requires c =
    (c.requires.0.counts, c.end_refill-m.ensures.1, c.end_refill-m.ensures.2)

pub returns : goal.returns
returns c =
    let p = fill_end _ _ _ _ _ (facts _ _ _ _ _ c.requires.0) c.requires.1 c.requires.2 _
    (ap (λ a. a / 8) c.target_of-b.ensures ∙ sym (block_at _ _ _)) in
    goes-worked _ _ _ _ _ _ _ _ p _ _ _ _ _ _ c.goes_on.ensures (c.end_refill-m.ensures.0 _)
