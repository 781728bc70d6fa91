-- By cases: held, in flight, interrupt (interrupt_here), or the loop over instructions; each call's contract gives the turn.
use native.Mathlib.Omega.{arith}
use mathlib.Core.Path.{refl, sym, ◌∙◌}
use Rattle.trm_run_phases.proofs.Laws.Did.{did-quiet}
use Rattle.trm_run_phases.proofs.Laws.Here.{interrupt_here}
use Rattle.trm_run_phases.proofs.Laws.Next.{quiet-answered, few-done}
use Rattle.trm_run_phases.proofs.Laws.Next.{under_at, good-at_turn}
use Rattle.trm_run_machine.proofs.inner.turns.turn.Goals as goal

pub bounds-pins-at : goal.bounds-pins-at
bounds-pins-at c =
    let c-pre = c.requires in
    c-pre.1

pub held_ahead-requires : goal.held_ahead-requires
held_ahead-requires c =
    let c-pre = c.requires in
    let a = c-pre.0 in
    let mo = c-pre.1 in (
      record { word = _; under = under_at _ _ _ _ _ _ _ a refl },
      mo,
      sym c.is_stalled.ensures ∙ c.if-is_stalled.true,
    )

pub returns-then-is_stalled : goal.returns-then-is_stalled
returns-then-is_stalled c =
    (λ x₀ k. c.held_ahead.ensures.0 _ _ _ _ _ x₀ refl k, did-quiet _ _ _ _ c.held_ahead.ensures.1)

pub flight_turn-requires : goal.flight_turn-requires
flight_turn-requires c =
    let c-pre = c.requires in
    let a = c-pre.0 in
    let mo = c-pre.1 in
    let fr = sym c.is_stalled.ensures ∙ c.if-is_stalled.false in (
      a,
      c.word_at-w.ensures,
      mo,
      fr,
      c.if-c-ne0.true,
    )

pub returns-then-c-ne0 : goal.returns-then-c-ne0
returns-then-c-ne0 c =
    c.flight_turn.ensures

pub take_interrupt-requires : goal.take_interrupt-requires
take_interrupt-requires c =
    let c-pre = c.requires in
    let a = c-pre.0 in
    let gd = good-at_turn _ _ _ _ _ _ _ _ _ _ a refl in
    (gd.widths, gd.counts)

pub quietly-requires : goal.quietly-requires
quietly-requires c =
    let c-pre = c.requires in
    let a = c-pre.0 in
    let mo = c-pre.1 in
    let k = few-done _ _ _ _ _ _ _ _ _ _ a.so mo in
    (k.0, k.1, omega arith)

pub returns-then-to-ne0 : goal.returns-then-to-ne0
returns-then-to-ne0 c =
    let c-pre = c.requires in
    let mo = c-pre.1 in
    let fr = sym c.is_stalled.ensures ∙ c.if-is_stalled.false in (
      λ x₀ k. quiet-answered _ _ _ x₀ _ _ _ _ _ _ k mo _ 0 _ _ _
          (interrupt_here _ _ _ _ _ _ fr c.if-c-ne0.false _ c.interrupt_chosen-to.ensures.0
          c.if-to-ne0.true
          _ _ c.take_interrupt.ensures.0 c.take_interrupt.ensures.1) _ c.quietly.ensures,
      did-quiet _ _ _ _ (rw c.quietly.ensures (omega arith)),
    )

pub ready_turn-requires : goal.ready_turn-requires
ready_turn-requires c =
    let c-pre = c.requires in
    let a = c-pre.0 in
    let mo = c-pre.1 in
    let fr = sym c.is_stalled.ensures ∙ c.if-is_stalled.false in (
      a,
      record {
        more = mo;
        unheld = fr;
        none = sym c.interrupt_chosen-to.ensures.0 ∙ c.if-to-ne0.false;
        idle = c.if-c-ne0.false;
      },
    )

pub returns : goal.returns
returns c =
    c.ready_turn.ensures
