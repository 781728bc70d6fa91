use native.Mathlib.Omega.{arith}
use Rattle.trm_board_calls.proofs.Laws.Run.{ready-one, done-fits, running-on}
use Rattle.trm_board_calls.proofs.inner.board_clocks.next_clock.Goals as goal

pub bounds-given-at : goal.bounds-given-at
bounds-given-at c =
    let c-pre = c.requires in
    c-pre.1

pub bounds-switches-at : goal.bounds-switches-at
bounds-switches-at c =
    let c-pre = c.requires in
    omega (arith, c-pre.1, c-pre.0.so.lengths.same)

pub board_clock-t-requires : goal.board_clock-t-requires
board_clock-t-requires c =
    let c-pre = c.requires in
    ready-one _ _ _ _ _ _ _ _ _ _ _ c-pre.0.so c-pre.1

pub bounds-levels-at : goal.bounds-levels-at
bounds-levels-at c =
    let c-pre = c.requires in
    omega (arith, c-pre.1, c-pre.0.so.lengths.wide)

pub bounds-bytes-at : goal.bounds-bytes-at
bounds-bytes-at c =
    let c-pre = c.requires in
    omega (arith, c-pre.1, c-pre.0.so.lengths.broad)

pub offset_bounds-outs-at : goal.offset_bounds-outs-at
offset_bounds-outs-at c =
    let c-pre = c.requires in
    record { fits = omega (arith, c-pre.1, c-pre.0.so.lengths.many) }

pub bounds-outs-at : goal.bounds-outs-at
bounds-outs-at c =
    let c-pre = c.requires in
    omega (arith, c-pre.1, c-pre.0.so.lengths.long)

pub overflow_add-result : goal.overflow_add-result
overflow_add-result c =
    let c-pre = c.requires in
    record { fits = omega (arith, c-pre.1, c-pre.0.so.lengths.many) }

pub overflow_add-result-2 : goal.overflow_add-result-2
overflow_add-result-2 c =
    let c-pre = c.requires in
    let r = c-pre.0.so in
    let d = done-fits _ _ _ _ _ _ _ _ _ _ _ r c-pre.1 _ c.board_clock-t.ensures in
    record { fits = omega (arith, d, r.few, c-pre.1, r.lengths.many) }

pub returns : goal.returns
returns c =
    let c-pre = c.requires in
    ((λ q₀ k. running-on _ _ _ _ q₀ _ _ _ _ _ _ k c-pre.1 _ c.board_clock-t.ensures), omega arith)
