use mathlib.Core.Path.{◌≡◌, refl, subst, ◌∙◌}
use native.Mathlib.Omega.{arith}
use lib.ListN.{take, drop, length-set}
use Rattle.trm_board_calls.specs.Running.{lines_of}
use Rattle.trm_board_calls.proofs.Laws.Lines.{lines_next}
use Rattle.trm_board_calls.proofs.inner.quiet_devices.line_bytes.Goals as goal

pub loop-i-init : goal.loop-i-init
loop-i-init c = (omega arith, unfold lines_of in refl, refl)

pub overflow_add-at : goal.overflow_add-at
overflow_add-at c =
    let c-pre = c.requires in
    record { fits = omega (arith, c-pre.2, c-pre.3, c.loop-i-test.true) }

pub bounds-given-at : goal.bounds-given-at
bounds-given-at c =
    let c-pre = c.requires in
    omega (arith, c-pre.2, c.loop-i-test.true)

pub pins_byte-requires : goal.pins_byte-requires
pins_byte-requires c =
    let c-pre = c.requires in
    c-pre.0

pub bounds-lines-i : goal.bounds-lines-i
bounds-lines-i c =
    let c-pre = c.requires in
    omega (arith, c-pre.1, c.loop-i-test.true)

pub loop-i-preserved : goal.loop-i-preserved
loop-i-preserved c =
    let c-args = c.args in let c-pre = c.requires in (
      omega (arith, c.loop-i-test.true),
      lines_next c-args.tick c-args.at c.loop-i.i c-args.given.now c.loop-i.lines _ (omega (
        arith,
        c-pre.2,
        c.loop-i-test.true,
      ))
          (omega (arith, c.loop-i.invariant.2, c-pre.1, c.loop-i-test.true)) c.loop-i.invariant.1 c.pins_byte.ensures.0,
      length-set c.loop-i.lines _ _ ∙ c.loop-i.invariant.2,
    )

pub returns : goal.returns
returns c =
    let c-args = c.args in
    let all : c.loop-i.i ≡ c-args.k = omega (arith, c.loop-i.invariant.0, c.loop-i-test.false) in (
      subst (λ i. take i c.loop-i.lines ≡ lines_of c-args.tick (take i (drop c-args.at c-args.given.now))) all c.loop-i.invariant.1,
      c.loop-i.invariant.2,
    )
