use Rattle.trm_run_phases.proofs.Laws.Ahead.{on_none, good-on, fill-block, fills, fill_on}
use native.Mathlib.Omega.{arith}
use native.Mathlib.Nat.{mod-lt}
use lib.ListN.{length}
use mathlib.Core.Path.{◌≡◌, refl, ap}
use Rattle.trm_reference.specs.Visible.{Visible}
use Rattle.trm_core.proofs.Laws.Rows.{legal_of}
use Rattle.trm_core.proofs.Laws.Fit.{legal_small}
use Rattle.trm_run_phases.proofs.inner.phase_clocks.fill_ahead.Goals as goal

pub target_of-b-requires : goal.target_of-b-requires
target_of-b-requires c = legal_of _ _ c.requires.0.so.store

pub loop-i-init : goal.loop-i-init
loop-i-init c = on_none _ _ _ _ _ _ _ c.requires.1

pub returns-then-c-eq9 : goal.returns-then-c-eq9
returns-then-c-eq9 c =
    let n = c.loop-i.invariant in
    (n.quietly, ap (λ (v : Visible). v.pc) n.seen, n.phase, n.onto, refl, λ _. c.if-c-eq9.true)

pub bounds-pins-i : goal.bounds-pins-i
bounds-pins-i c = c.loop-i-test.true

pub fill_clock-c-requires : goal.fill_clock-c-requires
fill_clock-c-requires c =
    let n = c.loop-i.invariant in
    let u = c.requires.0 in
    let q = fill-block _ _ _ _ _ _ _ _ _ u n _ c.target_of-b.ensures in
    let f = fills _ _ _ _ _ _ _ _ _ u n _ q in (
      (good-on _ _ _ _ _ _ _ _ _ _ n u).counts,
      mod-lt _ (omega arith),
      f.few,
      omega (
        arith,
        f.inside,
        legal_small _ (legal_of _ _
            u.so.store),
      ),
      f.inside,
    )

pub loop-i-preserved : goal.loop-i-preserved
loop-i-preserved c =
    let n = c.loop-i.invariant in
    let u = c.requires.0 in
    fill_on _ _ _ _ _ _ _ _ _ u n c.loop-i-test.true c.if-c-eq9.false _ (fill-block _ _ _ _ _ _ _ _ _ u n _ c.target_of-b.ensures) _ _
    c.fill_clock-c.ensures.0 c.fill_clock-c.ensures.1

pub returns : goal.returns
returns c =
    let n = c.loop-i.invariant in
    let e : length c.args.pins.now ≡ c.loop-i.i = omega (arith, c.loop-i-test.false, c.loop-i.auto.i-end c.requires.0.so.below) in
    rw e (n.quietly, ap (λ (v : Visible). v.pc) n.seen, n.phase, n.onto, refl, λ more. absurd (omega (arith, more)))
