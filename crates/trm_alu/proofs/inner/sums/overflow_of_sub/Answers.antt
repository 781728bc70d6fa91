-- The exact result plus 2^32 is within 2^31 of 2^32 if and only if the exact result fits (law `overflow-is`).
use Rattle.std.proofs.Common.{ℕ, ◌+◌, ◌/◌, ◌%◌, ◌^◌, ap, ◌∙◌}
use Rattle.trm_alu.specs.Results.{exact_difference}
use Rattle.trm_alu.specs.Flags.{overflow_of_sub}
use Rattle.trm_alu.proofs.Laws.Sums.{off-exact_difference, overflow-is}
use Rattle.trm_alu.proofs.inner.sums.overflow_of_sub.Goals as goal

pub returns : goal.returns
unfolding overflow_of_sub
returns c =
    ap (λ (x : ℕ). ((x + 2 ^ 31) / 2 ^ 32 + 1) % 2) c.biased_difference.ensures
    ∙ overflow-is (exact_difference c.args.a c.args.b) _
    (off-exact_difference c.args.a c.args.b c.ranges.a.fits c.ranges.b.fits)
