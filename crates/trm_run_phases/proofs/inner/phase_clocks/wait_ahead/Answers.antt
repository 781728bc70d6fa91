use Rattle.trm_clock_laws.proofs.Laws.Facts.{few-clocks, charge-small}
use Rattle.trm_clock_laws.proofs.Laws.Flight.{wait-more}
use Rattle.trm_run_phases.proofs.Laws.Ahead.{wait-facts}
use Rattle.trm_run_phases.proofs.Laws.Ahead.{on_none, good-on, wait-on}
use Rattle.trm_word.specs.Fields.{operation}
use Rattle.trm_reference.specs.Charge.{uncached_charge}
use native.Mathlib.Omega.{arith}
use Prim.Native.Nat.{◌+◌}
use mathlib.Core.Path.{◌≡◌, refl, sym, ap, ◌∙◌}
use lib.ListN.{length, get_or}
use Rattle.trm_reference.specs.Visible.{Visible}
use Rattle.trm_run_phases.proofs.inner.phase_clocks.wait_ahead.Goals as goal

pub overflow_add-all : goal.overflow_add-all
unfolding uncached_charge
overflow_add-all c =
    omega (
      arith,
      c.of-all.ensures,
      charge-small c.args.w,
    )

pub loop-i-init : goal.loop-i-init
unfolding uncached_charge
loop-i-init c = on_none _ _ _ _ _ _ _ c.requires.1

pub overflow_add-c : goal.overflow_add-c
unfolding uncached_charge
overflow_add-c c =
    omega (
      arith,
      few-clocks _ _ _ _ _ (wait-facts _ _ _ _ _ _ _ _ _ c.requires.0 c.loop-i.invariant),
    )

pub returns-then-c-all : goal.returns-then-c-all
unfolding uncached_charge
returns-then-c-all c =
    let n = c.loop-i.invariant in (
      n.quietly,
      ap (λ (v : Visible). v.pc) n.seen,
      n.phase,
      n.onto,
      refl,
      λ _. c.if-c-all.true ∙ ap (λ k. k + 4) c.of-all.ensures,
    )

pub bounds-pins-i : goal.bounds-pins-i
unfolding uncached_charge
bounds-pins-i c = c.loop-i-test.true

pub wait_clock-c-requires : goal.wait_clock-c-requires
unfolding uncached_charge
wait_clock-c-requires c =
    let n = c.loop-i.invariant in
    let u = c.requires.0 in (
      (good-on _ _ _ _ _ _ _ _ _ _ n u).counts,
      (wait-more _ _ _ _ _ (wait-facts _ _ _ _ _ _ _ _ _ u n) n.phase
          (λ z. c.if-c-all.false (z ∙ sym (ap (λ k. k + 4) c.of-all.ensures)))).1,
    )

pub loop-i-preserved : goal.loop-i-preserved
unfolding uncached_charge
loop-i-preserved c =
    let n = c.loop-i.invariant in
    let u = c.requires.0 in
    wait-on _ _ _ _ _ _ _ _ _ u n c.loop-i-test.true (λ z. c.if-c-all.false (z ∙ sym
    (ap (λ k. k + 4) c.of-all.ensures))) _ c.wait_clock-c.ensures

pub returns : goal.returns
unfolding uncached_charge
returns c =
    let n = c.loop-i.invariant in
    let e : length c.args.pins.now ≡ c.loop-i.i = omega (arith, c.loop-i-test.false, c.loop-i.auto.i-end c.requires.0.so.below) in
    rw e (n.quietly, ap (λ (v : Visible). v.pc) n.seen, n.phase, n.onto, refl, λ more. absurd (omega (arith, more)))
