use mathlib.Core.Path.{sym, ◌∙◌}
use native.Mathlib.Omega.{arith}
use Rattle.trm_board_calls.proofs.Laws.Run.{lengths-from, running-begins, running-ends}
use Rattle.trm_board_calls.proofs.inner.board_clocks.board_clocks.Goals as goal

pub loop-g-init : goal.loop-g-init
loop-g-init c =
    let c-pre = c.requires in
    let c-args = c.args in
    let a = c-pre in
    running-begins _ _ _ _ _ _ _ _ a.0 (lengths-from _ c-args.joined _ _ _ _ _ _ a.0 a.1 a.2 a.3 a.4)

pub quiet_ahead-g-requires : goal.quiet_ahead-g-requires
quiet_ahead-g-requires c =
    record { switches = _; here = record { from = _; so = c.loop-g.invariant } }

pub next_clock-g-requires : goal.next_clock-g-requires
next_clock-g-requires c =
    (record { from = _; so = c.quiet_ahead-g.ensures.0 _ _ c.loop-g.invariant }, c.if-g-given.true)

pub loop-g-smaller-then-g-given : goal.loop-g-smaller-then-g-given
loop-g-smaller-then-g-given c =
    omega (arith, c.quiet_ahead-g.ensures.1, c.next_clock-g.ensures.1, c.loop-g-test.true)

pub loop-g-preserved-then-g-given : goal.loop-g-preserved-then-g-given
loop-g-preserved-then-g-given c =
    c.next_clock-g.ensures.0 _ (c.quiet_ahead-g.ensures.0 _ _ c.loop-g.invariant)

pub loop-g-smaller : goal.loop-g-smaller
loop-g-smaller c =
    omega (arith, c.if-g-given.false, c.loop-g-test.true)

pub loop-g-preserved : goal.loop-g-preserved
loop-g-preserved c =
    c.quiet_ahead-g.ensures.0 _ _ c.loop-g.invariant

pub shape_of-store : goal.shape_of-store
shape_of-store c =
    c.loop-g.invariant.size

pub shape_of-levels : goal.shape_of-levels
shape_of-levels c =
    let c-pre = c.requires in
    c.loop-g.invariant.lengths.wide ∙ sym c-pre.2

pub shape_of-bytes : goal.shape_of-bytes
shape_of-bytes c =
    let c-pre = c.requires in
    c.loop-g.invariant.lengths.broad ∙ sym c-pre.3

pub shape_of-outs : goal.shape_of-outs
shape_of-outs c =
    let c-pre = c.requires in
    c.loop-g.invariant.lengths.long ∙ sym c-pre.4

pub returns : goal.returns
returns c =
    let c-pre = c.requires in
    let c-args = c.args in
    let a = c-pre in
    running-ends _ _ _ _ _ _ _ _ _ _ _ c.loop-g.invariant c.loop-g-test.false (lengths-from _ c-args.joined _ _ _ _ _ _ a.0 a.1 a.2 a.3 a.4)
