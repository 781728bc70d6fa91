-- The core goes ahead (able_from, coming-from), and the devices follow (`devices_ahead`).
use mathlib.Core.Path.{sym, ◌∙◌}
use native.Mathlib.Omega.{arith}
use Rattle.trm_board_calls.proofs.Laws.Lines.{lines-count}
use Rattle.trm_board_calls.proofs.Laws.Ahead.{able_from, coming-from}
use Rattle.trm_board_calls.proofs.inner.board_clocks.quiet_ahead.Goals as goal

pub stretch-k-requires : goal.stretch-k-requires
stretch-k-requires c =
    let c-pre = c.requires in
    c-pre.here.so.below

pub line_bytes-lines-requires : goal.line_bytes-lines-requires
line_bytes-lines-requires c =
    let c-pre = c.requires in
    let r = c-pre.here.so in
    (r.ready.devices.tick, c.stretch-k.ensures.0, c.stretch-k.ensures.1, r.lengths.many)

pub slice_bounds-lines-end : goal.slice_bounds-lines-end
slice_bounds-lines-end c =
    omega (arith, c.stretch-k.ensures.0, c.line_bytes-lines.ensures.1)

pub slice_bounds-quiet_clocks-end : goal.slice_bounds-quiet_clocks-end
slice_bounds-quiet_clocks-end c =
    lines-count _ _ _ _ _ c.stretch-k.ensures.1 c.line_bytes-lines.ensures.0

pub quiet_clocks-h-requires : goal.quiet_clocks-h-requires
quiet_clocks-h-requires c =
    let c-pre = c.requires in
    able_from _ _ _ _ _ _ _ _ _ _ _ _ c-pre.here.so _ _ c.stretch-k.ensures.0 c.stretch-k.ensures.1 c.line_bytes-lines.ensures.0

pub overflow_add-to : goal.overflow_add-to
overflow_add-to c =
    let c-pre = c.requires in
    let r = c-pre.here.so in
    record {
      fits = omega (
        arith,
        r.lengths.many,
        c.stretch-k.ensures.1,
        lines-count _ _ _ _ _ c.stretch-k.ensures.1 c.line_bytes-lines.ensures.0,
        c.quiet_clocks-h.ensures.0,
      );
    }

pub devices_ahead-devices-requires : goal.devices_ahead-devices-requires
devices_ahead-devices-requires c =
    let c-pre = c.requires in
    record {
      program = _;
      switches = _;
      from = _;
      core = _;
      total = _;
      so = coming-from _ _ _ _ _ _ _ _ _ _ _ _ _ c-pre.here.so _ _ c.stretch-k.ensures.1 c.stretch-k.ensures.2 c.line_bytes-lines.ensures.0
          _ _
          c.quiet_clocks-h.ensures.0 c.quiet_clocks-h.ensures.1;
    }

pub overflow_add-result : goal.overflow_add-result
overflow_add-result c =
    let c-pre = c.requires in
    let r = c.devices_ahead-devices.ensures _ _ _ _ _ (coming-from _ _ _ _ _ _ _ _ _ _ _ _ _ c-pre.here.so _ _ c.stretch-k.ensures.1
    c.stretch-k.ensures.2 c.line_bytes-lines.ensures.0 _ _
    c.quiet_clocks-h.ensures.0 c.quiet_clocks-h.ensures.1) in
    record { fits = omega (arith, r.few, r.below, r.lengths.many) }

pub shape_of-store : goal.shape_of-store
shape_of-store c =
    let c-pre = c.requires in
    let r = c.devices_ahead-devices.ensures _ _ _ _ _ (coming-from _ _ _ _ _ _ _ _ _ _ _ _ _ c-pre.here.so _ _ c.stretch-k.ensures.1
    c.stretch-k.ensures.2 c.line_bytes-lines.ensures.0 _ _
    c.quiet_clocks-h.ensures.0 c.quiet_clocks-h.ensures.1) in
    r.size ∙ sym c-pre.here.so.size

pub returns : goal.returns
returns c = (
  (λ ws q₀ k. c.devices_ahead-devices.ensures _ ws q₀ _ _
      (coming-from _ _ _ _ _ _ _ _ _ _ _ _ _ k _ _ c.stretch-k.ensures.1 c.stretch-k.ensures.2 c.line_bytes-lines.ensures.0 _ _
      c.quiet_clocks-h.ensures.0 c.quiet_clocks-h.ensures.1)),
  omega arith,
)
