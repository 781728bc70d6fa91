-- The run begins with buffers and input words of zeros, and `all_turns` writes no answer (Laws/Quiet).
use mathlib.Core.Path.{refl, ◌∙◌}
use Rattle.trm_run_machine.proofs.Laws.Quiet.{zeros_in, zeros-count, able_reached, silent-from}
use Rattle.trm_run_machine.proofs.inner.quiet_clocks.quiet_clocks.Goals as goal

pub slice_bounds-inputs-end : goal.slice_bounds-inputs-end
slice_bounds-inputs-end c =
    let c-pre = c.requires in
    c-pre.few

pub slice_bounds-all_turns-end : goal.slice_bounds-all_turns-end
slice_bounds-all_turns-end c =
    let c-args = c.args in
    let c-pre = c.requires in
    zeros-count c-args.pins.now c-pre.few

pub slice_bounds-bytes-end : goal.slice_bounds-bytes-end
slice_bounds-bytes-end c =
    let c-pre = c.requires in
    c-pre.few

pub slice_bounds-all_turns-end-2 : goal.slice_bounds-all_turns-end-2
slice_bounds-all_turns-end-2 c =
    let c-args = c.args in
    let c-pre = c.requires in
    zeros-count c-args.pins.now c-pre.few

pub slice_bounds-outs-end : goal.slice_bounds-outs-end
slice_bounds-outs-end c =
    let c-pre = c.requires in
    c-pre.few

pub slice_bounds-all_turns-end-3 : goal.slice_bounds-all_turns-end-3
slice_bounds-all_turns-end-3 c =
    let c-args = c.args in let c-pre = c.requires in
    zeros-count c-args.pins.now c-pre.few

pub all_turns-requires : goal.all_turns-requires
all_turns-requires c =
    let c-args = c.args in let c-pre = c.requires in
    let z = zeros_in c-args.pins.now c-pre.few in
    record { from = _; so = able_reached _ _ _ c-pre _ z _ _ z z }

pub shape_of-store : goal.shape_of-store
shape_of-store c =
    let c-args = c.args in
    let c-pre = c.requires in
    let z = zeros_in c-args.pins.now c-pre.few in
    (c.all_turns.ensures.0 _ (able_reached _ _ _ c-pre _ z _ _ z z)).long

pub returns : goal.returns
returns c =
    let c-args = c.args in
    let c-pre = c.requires in
    let z = zeros_in c-args.pins.now c-pre.few in
    let e = c.all_turns.ensures in
    silent-from _ _ _ c-pre _ z _ _ _ (e.0 _ (able_reached _ _ _ c-pre _ z _ _ z z)) (e.3 refl ∙ z)
