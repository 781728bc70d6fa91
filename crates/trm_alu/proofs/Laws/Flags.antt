-- Laws of the flags after an operation, so that laws of other crates need not unfold how C and V are computed.
--   flags-below          each flag is 0 or 1 if C and V were
--   sub-carry, sub-zero  C and Z after SUB, as comparisons of B and A without sign
use Rattle.std.proofs.Common.{◌≡◌, ℕ, ◌+◌, ◌^◌, ◌<◌, Bool, eqb, leb, refl, ap, mod-lt, arith}
use Rattle.trm_laws.proofs.Tests.{chosen}
use Rattle.trm_alu.specs.declared.inner.flags.Flags.{Flags}
use Rattle.trm_alu.specs.Word.{flag}
use Rattle.trm_alu.specs.Results.{exact_sum, exact_difference, short_result, result_of}
use Rattle.trm_alu.specs.Flags.{too_wide, carry_of_add, carry_of_sub, overflow_of_add, overflow_of_sub, sign_flag, zero_flag}
use Rattle.trm_alu.specs.Flags.{carry_after, overflow_after, flags_after, flags_of}
use Rattle.trm_alu.proofs.Laws.Sums.{difference-zero}

pub record Below (f : Flags) : Type 0 where
  pub n : f.n < 2
  pub z : f.z < 2
  pub c : f.c < 2
  pub v : f.v < 2

abbrev Bit : ℕ → Type 0
Bit x = x < 2

flag-below : (t : Bool) → Bit (flag t)
flag-below t = chosen Bit t (omega arith) (omega arith)

pub flags-below : (op a b c v : ℕ) → c < 2 → v < 2 → Below (flags_of op a b c v)
unfolding flags_of flags_after sign_flag zero_flag carry_after overflow_after carry_of_add carry_of_sub overflow_of_add overflow_of_sub
flags-below op a b c v hc hv =
    record {
      n = flag-below (leb (2 ^ 31) r);
      z = flag-below (eqb r 0);
      c = chosen Bit (eqb op 2) (flag-below (leb (2 ^ 32) (b + a)))
          (chosen Bit (eqb op 3) (flag-below (leb a b)) (chosen Bit (eqb op 10) (mod-lt r {m = 2} (omega arith)) hc));
      v = chosen Bit (eqb op 2) (flag-below (too_wide (exact_sum a b)))
          (chosen Bit (eqb op 3) (flag-below (too_wide (exact_difference a b))) hv);
    }
  where
    r : ℕ
    r = result_of op a b

pub sub-carry : (a b c v : ℕ) → (flags_of 3 a b c v).c ≡ flag (leb a b)
unfolding flags_of flags_after carry_after carry_of_sub
sub-carry a b c v = refl

pub sub-zero : (a b c v : ℕ) → a < 2 ^ 32 → b < 2 ^ 32 → (flags_of 3 a b c v).z ≡ flag (eqb a b)
unfolding flags_of flags_after zero_flag result_of short_result
sub-zero a b c v ha hb = ap flag (difference-zero a b ha hb)
