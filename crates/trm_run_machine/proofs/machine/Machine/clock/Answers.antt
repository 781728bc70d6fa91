-- By cases of the method: interrupt_here for an interrupt, step-clock for a step; any other clock by the contract of `other_clock`.
use mathlib.Core.Path.{refl}
use Rattle.trm_run_phases.proofs.Laws.Here.{interrupt_here}
use Rattle.trm_clock_laws.proofs.Laws.Facts.{facts, few-clocks}
use Rattle.trm_run_machine.proofs.Laws.Step.{clock-good, good-word, steps-at, step-asks, step-clock}
use Rattle.trm_run_machine.proofs.machine.Machine.clock.Goals as goal

pub acknowledge-requires : goal.acknowledge-requires
acknowledge-requires c = let g = clock-good _ _ _ _ _ _ c.requires in (g.widths, g.counts, c.in-Some.ensures.idle)

pub returns-in-Some : goal.returns-in-Some
returns-in-Some c =
    let k = c.in-Some.ensures in
    rw (c.quiet.ensures, c.acknowledge.ensures)
    (interrupt_here _ _ _ _ _ _ k.unheld k.idle _ k.chosen k.some _ _ refl refl)

pub unit_now-requires : goal.unit_now-requires
unit_now-requires c = few-clocks _ _ _ _ _ (facts _ _ _ _ _ (clock-good _ _ _ _ _ _ c.requires))

pub multiplier_step-requires : goal.multiplier_step-requires
multiplier_step-requires c =
    let g = good-word _ _ _ _ _ _ c.requires _ c.word_at-w.ensures in
    let u = rw c.in-Some-Multiplier.field-0-is at c.in-Some-Multiplier.ensures in
    (step-asks _ _ _ _ _ (steps-at _ 8 u.operation refl) g u.more, u.operation, g.counts)

pub returns-in-Some-Multiplier : goal.returns-in-Some-Multiplier
returns-in-Some-Multiplier c =
    let g = good-word _ _ _ _ _ _ c.requires _ c.word_at-w.ensures in
    let u = rw c.in-Some-Multiplier.field-0-is at c.in-Some-Multiplier.ensures in
    rw (c.quiet-in-Some-Multiplier.ensures, c.multiplier_step.ensures)
    (step-clock _ _ _ _ _ _ _ c.word_at-w.ensures g (steps-at _ 8 u.operation refl) u.more u.unheld
    (c.in_default.ensures u.unheld))

pub divider_step-requires : goal.divider_step-requires
divider_step-requires c =
    let g = good-word _ _ _ _ _ _ c.requires _ c.word_at-w.ensures in
    let u = rw c.in-Some-Divider.field-0-is at c.in-Some-Divider.ensures in
    (step-asks _ _ _ _ _ (steps-at _ 9 u.operation refl) g u.more, u.operation, g.counts)

pub returns-in-Some-Divider : goal.returns-in-Some-Divider
returns-in-Some-Divider c =
    let g = good-word _ _ _ _ _ _ c.requires _ c.word_at-w.ensures in
    let u = rw c.in-Some-Divider.field-0-is at c.in-Some-Divider.ensures in
    rw (c.quiet-in-Some-Divider.ensures, c.divider_step.ensures)
    (step-clock _ _ _ _ _ _ _ c.word_at-w.ensures g (steps-at _ 9 u.operation refl) u.more u.unheld
    (c.in_default.ensures u.unheld))
