use Rattle.trm_run_phases.proofs.Laws.Ahead.{past-held}
use Rattle.trm_run_phases.proofs.Laws.Ahead.{on_none, good-on, held_on}
use native.Mathlib.Omega.{arith}
use lib.ListN.{length}
use mathlib.Core.Path.{◌≡◌, refl, sym, ◌∙◌}
use Rattle.trm_run_phases.proofs.inner.phase_clocks.held_ahead.Goals as goal

pub loop-i-init : goal.loop-i-init
loop-i-init c = λ w. on_none _ _ _ _ _ _ _ refl

pub bounds-pins-i : goal.bounds-pins-i
bounds-pins-i c = c.loop-i-test.true

pub returns-then-not-is_stalled : goal.returns-then-not-is_stalled
returns-then-not-is_stalled c = (
  λ w. (c.loop-i.invariant w).quietly,
  past-held c.args.pins.now _ _ (c.loop-i.invariant 0).onto c.requires.2 (sym c.is_stalled.ensures ∙ c.if-not-is_stalled.true),
)

pub hold-c-requires : goal.hold-c-requires
hold-c-requires c =
    let u = c.requires.0 in
    (good-on _ _ _ _ _ _ _ _ _ _ (c.loop-i.invariant u.word) u.under).counts

pub loop-i-preserved : goal.loop-i-preserved
loop-i-preserved c =
    λ w. rw c.hold-c.ensures (held_on _ _ _ _ _ _ _ _ _ _ (c.loop-i.invariant w) c.loop-i-test.true
    (sym c.is_stalled.ensures ∙ c.if-not-is_stalled.false))

pub returns : goal.returns
returns c =
    let e : length c.args.pins.now ≡ c.loop-i.i = omega (arith, c.loop-i-test.false, c.loop-i.auto.i-end c.requires.0.under.so.below) in
    rw e (λ w. (c.loop-i.invariant w).quietly, omega (arith, c.requires.1, c.loop-i-test.false))
