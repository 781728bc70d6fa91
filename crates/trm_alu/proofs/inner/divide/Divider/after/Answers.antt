-- A left shift by k mod 2^32 keeps the low 32 − k bits, moved up by k (law `div-closed`).
use Rattle.std.proofs.Common.{◌-◌, ◌/◌, ◌^◌, div-le_self, arith}
use lib.Pow.{shr_le}
use Rattle.trm_alu.proofs.Laws.Division.{above0-no, above0-yes, magnitude-le, registers-none, div-closed}
use Rattle.trm_alu.proofs.inner.divide.Divider.after.Goals as goal

pub returns-then-not-above0 : goal.returns-then-not-above0
returns-then-not-above0 c =
    registers-none _ c.args.b c.args.k (above0-no _ _ c.above0.ensures c.if-not-above0.true)

pub nonzero_rem-result : goal.nonzero_rem-result
nonzero_rem-result c = omega (arith, (above0-yes _ _ c.above0.ensures c.if-not-above0.false).0)

pub nonzero_div-result : goal.nonzero_div-result
nonzero_div-result c = omega (arith, (above0-yes _ _ c.above0.ensures c.if-not-above0.false).0)

pub overflow_add-result : goal.overflow_add-result
overflow_add-result c =
    let t = c.magnitude-m.result / 2 ^ (32 - c.args.k) in
    let s = magnitude-le c.args.b c.ranges.b.fits in
    omega (
      arith,
      c.magnitude-m.ensures,
      div-le_self t c.args.a,
      shr_le c.magnitude-m.result (32 - c.args.k),
    )

pub returns : goal.returns
returns c =
    let p = above0-yes _ _ c.above0.ensures c.if-not-above0.false in
    rw c.from-w.ensures (div-closed c.args.a c.args.b p.0 p.1 c.args.k _ c.requires c.magnitude-m.ensures)
