-- The low 32 bits of the exact difference are those of B + (2^32 − A) (law `difference-is`).
use Rattle.std.proofs.Common.{sym}
use Rattle.trm_alu.proofs.Laws.Sums.{difference-is}
use Rattle.trm_alu.proofs.inner.sums.subtract.Goals as goal

pub returns : goal.returns
returns c = sym (difference-is c.args.a c.args.b c.ranges.a.fits c.ranges.b.fits)
