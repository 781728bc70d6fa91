use Rattle.trm_run_phases.proofs.Laws.Serial.{stepped-begins, stepped-on, serves, packed, serial_room}
use Rattle.trm_clock_laws.proofs.Laws.Facts.{charge-some}
use native.Mathlib.Omega.{arith}
use Prim.Native.Nat.{◌-◌}
use mathlib.Core.Path.{◌≡◌, refl, ap}
use lib.ListN.{length, get_or}
use Rattle.trm_word.specs.Fields.{operation}
use Rattle.trm_reference.specs.Visible.{Visible}
use Rattle.trm_run_phases.proofs.inner.step_clocks.steps_ahead.Goals as goal

pub overflow_sub-last : goal.overflow_sub-last
overflow_sub-last c =
    omega (
      arith,
      c.of-last.ensures,
      charge-some
          c.args.w,
    )

pub pack-u-requires : goal.pack-u-requires
pack-u-requires c =
    packed _ _ _ _ _ _ c.requires.0
    c.requires.1 _ c.operand_b-b.ensures (omega
    (arith, c.operand_b-b.type_inv))

pub overflow_sub-left : goal.overflow_sub-left
overflow_sub-left c = c.requires.0.so.below

pub loop-k-init : goal.loop-k-init
loop-k-init c = (
  stepped-begins _ _ _ _ _ _ _ c.pack-u.ensures c.requires.1,
  omega (
    arith,
    c.requires.0.so.below,
  ),
)

pub after_serial-requires : goal.after_serial-requires
after_serial-requires c =
    let n = c.loop-k.invariant.0 in
    let r = serial_room _ _ _ _ _ _ _ _ c.requires.0 n.0 in
    (r.0, r.1, r.2, n.1, n.2)

pub returns-then-u-last : goal.returns-then-u-last
returns-then-u-last c =
    let n = c.loop-k.invariant.0.0 in
    rw c.after_serial.ensures (
      n.quietly,
      ap (λ (v : Visible). v.pc)
          n.seen,
      n.phase,
      n.onto,
      refl,
      λ _.
          omega (
            arith,
            c.if-u-last.true,
            c.of-last.ensures,
            charge-some c.args.w,
          ),
    )

pub overflow_add-g : goal.overflow_add-g
overflow_add-g c =
    omega (
      arith,
      c.loop-k.invariant.1,
      c.requires.0.so.feed.many,
    )

pub bounds-pins-g : goal.bounds-pins-g
bounds-pins-g c = omega (arith, c.loop-k-test.true)

pub serial_clock-u-requires : goal.serial_clock-u-requires
serial_clock-u-requires c = (
  serves _ _ _ _ _ _ _ _ c.requires.0 c.loop-k.invariant.0.0 (λ z. c.if-u-last.false
      (omega (
        arith,
        z,
        c.of-last.ensures,
        charge-some
            c.args.w,
      ))) _ _
      c.operand_a-a.ensures
      c.operand_b-b.ensures,
  c.divisor-divisor.ensures,
)

pub loop-k-preserved : goal.loop-k-preserved
loop-k-preserved c = (
  stepped-on _ _ _ _ _ _ _ _ _ c.requires.0 c.loop-k.invariant.0 (omega
      (arith, c.loop-k-test.true)) (λ z. c.if-u-last.false
      (omega (
        arith,
        z,
        c.of-last.ensures,
        charge-some c.args.w,
      ))) (c.serial_clock-u.ensures _ c.operand_a-a.ensures c.operand_b-b.ensures),
  omega (
    arith,
    c.loop-k-test.true,
  ),
)

-- the loop ended: k is the number of clocks left
pub after_serial-requires-2 : goal.after_serial-requires-2
after_serial-requires-2 c =
    let n = c.loop-k.invariant.0 in
    let r = serial_room _ _ _ _ _ _ _ _ c.requires.0 n.0 in
    let e : length c.args.pins.now - c.args.g.at ≡ c.loop-k.k =
    omega (arith, c.loop-k-test.false, c.loop-k.auto.k-end, c.loop-k.invariant.1, c.requires.0.so.below) in
    rw e (r.0, r.1, r.2, n.1, n.2)

pub returns : goal.returns
returns c =
    let n = c.loop-k.invariant.0.0 in
    let e : length c.args.pins.now - c.args.g.at ≡ c.loop-k.k =
    omega (arith, c.loop-k-test.false, c.loop-k.auto.k-end, c.loop-k.invariant.1, c.requires.0.so.below) in
    rw (c.after_serial-2.ensures, e) (
      n.quietly,
      ap (λ (v : Visible). v.pc) n.seen,
      n.phase,
      n.onto,
      refl,
      λ more. absurd (omega (arith, more, c.loop-k-test.false, c.requires.0.so.below)),
    )
