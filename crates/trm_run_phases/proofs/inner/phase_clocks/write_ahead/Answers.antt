use Rattle.trm_run_phases.proofs.Laws.Ahead.{long-on}
use Rattle.trm_run_phases.proofs.Laws.Ahead.{on_none, good-on, clears_on, line_on, writes, write-on}
use native.Mathlib.Omega.{arith}
use lib.ListN.{length}
use mathlib.Core.Path.{◌≡◌, refl, ap}
use Rattle.trm_reference.specs.Visible.{Visible}
use Rattle.trm_core.proofs.Laws.Rows.{legal_of}
use Rattle.trm_run_phases.proofs.inner.phase_clocks.write_ahead.Goals as goal

pub line_of_burst-l-requires : goal.line_of_burst-l-requires
line_of_burst-l-requires c = (legal_of _ _ c.requires.0.so.store, c.turns_cache_off-clears.ensures)

pub loop-i-init : goal.loop-i-init
loop-i-init c = on_none _ _ _ _ _ _ _ c.requires.1

pub shape_of-store-then-c-eq9 : goal.shape_of-store-then-c-eq9
shape_of-store-then-c-eq9 c =
    long-on _ _ _ _ _ _ _ _ _ _ c.loop-i.invariant c.requires.0

pub returns-then-c-eq9 : goal.returns-then-c-eq9
returns-then-c-eq9 c =
    let n = c.loop-i.invariant in
    (n.quietly, ap (λ (v : Visible). v.pc) n.seen, n.phase, n.onto, refl, λ _. c.if-c-eq9.true)

pub bounds-pins-i : goal.bounds-pins-i
bounds-pins-i c = c.loop-i-test.true

pub write_clock-c-requires : goal.write_clock-c-requires
write_clock-c-requires c =
    let n = c.loop-i.invariant in
    let u = c.requires.0 in
    let f = writes _ _ _ _ _ _ _ _ _ u n _ _ (clears_on _ _ _ _ _ _ _ _ _ u n _ c.turns_cache_off-clears.ensures)
    (line_on _ _ _ _ _ _ _ _ _ u n _ c.line_of_burst-l.ensures.0) in
    ((good-on _ _ _ _ _ _ _ _ _ _ n u).counts, f.line, f.few, f.inside)

pub loop-i-preserved : goal.loop-i-preserved
loop-i-preserved c =
    let n = c.loop-i.invariant in
    let u = c.requires.0 in
    write-on _ _ _ _ _ _ _ _ _ u n c.loop-i-test.true c.if-c-eq9.false _ _
    (clears_on _ _ _ _ _ _ _ _ _ u n _ c.turns_cache_off-clears.ensures) (line_on _ _ _ _ _ _
    _ _ _ u n _ c.line_of_burst-l.ensures.0) _ _ c.write_clock-c.ensures.0 c.write_clock-c.ensures.1

pub shape_of-store : goal.shape_of-store
shape_of-store c =
    long-on _ _ _ _ _ _ _ _ _ _ c.loop-i.invariant c.requires.0

pub returns : goal.returns
returns c =
    let n = c.loop-i.invariant in
    let e : length c.args.pins.now ≡ c.loop-i.i = omega (arith, c.loop-i-test.false, c.loop-i.auto.i-end c.requires.0.so.below) in
    rw e (n.quietly, ap (λ (v : Visible). v.pc) n.seen, n.phase, n.onto, refl, λ more. absurd (omega (arith, more)))
