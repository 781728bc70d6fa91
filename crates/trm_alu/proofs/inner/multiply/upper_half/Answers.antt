-- The result is the offset number of B × 2^31 minus its offset, mod 2^64 (law `upper-half-is`).
use Rattle.std.proofs.Common.{sym}
use Rattle.trm_alu.proofs.Laws.Product.{upper-half-is}
use Rattle.trm_alu.proofs.inner.multiply.upper_half.Goals as goal

pub returns : goal.returns
returns c = rw c.biased.ensures (sym (upper-half-is c.args.b c.ranges.b.fits))
