use mathlib.Core.Path.{sym, ◌∙◌}
use native.Mathlib.Omega.{arith}
use Rattle.trm_board_calls.proofs.Laws.Ahead.{coming-on, coming-ends}
use Rattle.trm_board_calls.proofs.inner.quiet_devices.devices_ahead.Goals as goal

pub loop-i-init : goal.loop-i-init
loop-i-init c = λ p ws q₀ y total k. k

pub level_sent-level-requires : goal.level_sent-level-requires
level_sent-level-requires c =
    let c-pre = c.requires in
    let k = c.loop-i.invariant _ _ _ _ _ c-pre.so in
    k.so.ready.devices.serial

pub bounds-given-i : goal.bounds-given-i
bounds-given-i c =
    let c-pre = c.requires in
    let k = c.loop-i.invariant _ _ _ _ _ c-pre.so in
    omega (arith, k.below, c.loop-i-test.true)

pub line_of-line-requires : goal.line_of-line-requires
line_of-line-requires c =
    c.level_sent-level.ensures.1

pub overflow_add-count : goal.overflow_add-count
overflow_add-count c =
    let c-pre = c.requires in
    let k = c.loop-i.invariant _ _ _ _ _ c-pre.so in
    record { fits = omega (arith, k.counted, k.so.ready.room, k.below, c.loop-i-test.true) }

pub device_clock-d-requires : goal.device_clock-d-requires
device_clock-d-requires c =
    let c-pre = c.requires in
    let k = c.loop-i.invariant _ _ _ _ _ c-pre.so in
    (k.so.ready.devices, c.line_of-line.ensures.1)

pub overflow_cast-levels : goal.overflow_cast-levels
overflow_cast-levels c =
    record { fits = omega (arith, c.level_sent-level.ensures.1) }

pub bounds-levels-i : goal.bounds-levels-i
bounds-levels-i c =
    let c-pre = c.requires in
    let k = c.loop-i.invariant _ _ _ _ _ c-pre.so in
    omega (arith, k.below, k.so.lengths.wide, c.loop-i-test.true)

pub bounds-bytes-i : goal.bounds-bytes-i
bounds-bytes-i c =
    let c-pre = c.requires in
    let k = c.loop-i.invariant _ _ _ _ _ c-pre.so in
    omega (arith, k.below, k.so.lengths.broad, c.loop-i-test.true)

pub offset_bounds-outs-i : goal.offset_bounds-outs-i
offset_bounds-outs-i c =
    let c-pre = c.requires in
    let k = c.loop-i.invariant _ _ _ _ _ c-pre.so in
    record { fits = omega (arith, k.so.lengths.many, k.below, c.loop-i-test.true) }

pub bounds-outs-i : goal.bounds-outs-i
bounds-outs-i c =
    let c-pre = c.requires in
    let k = c.loop-i.invariant _ _ _ _ _ c-pre.so in
    omega (arith, k.below, k.so.lengths.long, c.loop-i-test.true)

pub loop-i-preserved : goal.loop-i-preserved
loop-i-preserved c =
    λ p ws q₀ y total k. coming-on p _ _ ws q₀ y total _ _ _ _ _ _ _ (c.loop-i.invariant p ws q₀ y total k) c.loop-i-test.true _ _
    c.level_sent-level.ensures.0 c.line_of-line.ensures.0 _ c.device_clock-d.ensures

pub shape_of-levels : goal.shape_of-levels
shape_of-levels c =
    let c-pre = c.requires in
    let k = c.loop-i.invariant _ _ _ _ _ c-pre.so in
    k.so.lengths.wide ∙ sym c-pre.so.so.lengths.wide

pub shape_of-bytes : goal.shape_of-bytes
shape_of-bytes c =
    let c-pre = c.requires in
    let k = c.loop-i.invariant _ _ _ _ _ c-pre.so in
    k.so.lengths.broad ∙ sym c-pre.so.so.lengths.broad

pub shape_of-outs : goal.shape_of-outs
shape_of-outs c =
    let c-pre = c.requires in
    let k = c.loop-i.invariant _ _ _ _ _ c-pre.so in
    k.so.lengths.long ∙ sym c-pre.so.so.lengths.long

pub returns : goal.returns
returns c =
    λ p ws q₀ y total k. coming-ends p _ _ ws q₀ y total _ _ _ _ _ _ _ (c.loop-i.invariant p ws q₀ y total k) c.loop-i-test.false
