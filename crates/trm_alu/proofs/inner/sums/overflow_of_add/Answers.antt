-- The exact result plus 2^32 is within 2^31 of 2^32 if and only if the exact result fits (law `overflow-is`).
use Rattle.std.proofs.Common.{ℕ, ◌+◌, ◌/◌, ◌%◌, ◌^◌, ap, ◌∙◌}
use Rattle.trm_alu.specs.Results.{exact_sum}
use Rattle.trm_alu.specs.Flags.{overflow_of_add}
use Rattle.trm_alu.proofs.Laws.Sums.{off-sum, overflow-is}
use Rattle.trm_alu.proofs.inner.sums.overflow_of_add.Goals as goal

pub returns : goal.returns
unfolding overflow_of_add
returns c =
    ap (λ (x : ℕ). ((x + 2 ^ 31) / 2 ^ 32 + 1) % 2) c.biased_sum.ensures
    ∙ overflow-is (exact_sum c.args.a c.args.b) _
    (off-sum c.args.a c.args.b c.ranges.a.fits c.ranges.b.fits)
