-- A legal length is a power of two, so the mask is the remainder (Laws.Length).
use Rattle.std.proofs.Common.{◌<◌, arith, lt-ltb}
use Rattle.trm_word.proofs.Laws.Length.{length-power, power_pos, power-mask}
use Rattle.trm_word.proofs.inner.address.place_of.Goals as goal

pub overflow_sub-result : goal.overflow_sub-result
overflow_sub-result c = omega (arith, power_pos (length-power _ c.requires))

pub returns-then-address-lt65472 : goal.returns-then-address-lt65472
returns-then-address-lt65472 c =
    let a = c.args.address in
    let h : a < 0xFFC0 = omega (arith, c.if-address-lt65472.true) in
    rw (lt-ltb _ _ h, power-mask a (length-power _ c.requires))
