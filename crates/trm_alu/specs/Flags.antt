-- N Z C V after operations 0–10, as numbers 0 or 1.
-- Paper: "N and Z are taken from the 32-bit result of 0–10. Among 0–10, C and V change only here: after ADD and SUB, .. V is 1 when
-- [the exact signed result] does not fit 32 bits; after ROR, C is bit 0 of the result."
-- Request A2: "After ADD [C] is the carry out of bit 31, and after SUB it is 1 exactly when B is at or above A, both without sign."
--   carry_of_add, carry_of_sub         C after ADD, after SUB
--   overflow_of_add, overflow_of_sub   V after ADD, after SUB
--   flags_after op a b r c v        all four; r is the result, c and v are C and V before
use Rattle.std.specs.Prelude.{ℕ, ◌+◌, ◌%◌, ◌^◌, Bool, cond, ℤ, pos, negsuc, ◌==◌, nat_le}
use Rattle.trm_alu.specs.declared.inner.flags.Flags.{Flags}
use Rattle.trm_alu.specs.Word.{flag}
use Rattle.trm_alu.specs.Results.{exact_sum, exact_difference, result_of}

-- below −2^31, or 2^31 and above
unfoldable pub too_wide : ℤ → Bool
too_wide (pos n) = nat_le (2 ^ 31) n
too_wide (negsuc n) = nat_le (2 ^ 31) n

-- the sum of the two words without sign does not fit bits 31–0
unfoldable pub carry_of_add : ℕ → ℕ → ℕ
carry_of_add a b = flag (nat_le (2 ^ 32) (b + a))

-- B is at or above A, without sign
unfoldable pub carry_of_sub : ℕ → ℕ → ℕ
carry_of_sub a b = flag (nat_le a b)

unfoldable pub overflow_of_add : ℕ → ℕ → ℕ
overflow_of_add a b = flag (too_wide (exact_sum a b))

unfoldable pub overflow_of_sub : ℕ → ℕ → ℕ
overflow_of_sub a b = flag (too_wide (exact_difference a b))

-- N: the sign of a 32-bit result
unfoldable pub sign_flag : ℕ → ℕ
sign_flag r = flag (nat_le (2 ^ 31) r)

-- Z
unfoldable pub zero_flag : ℕ → ℕ
zero_flag r = flag (r == 0)

-- 2 is ADD, 3 is SUB, 10 is ROR
unfoldable pub carry_after : ℕ → ℕ → ℕ → ℕ → ℕ → ℕ
carry_after op a b r c =
    cond (op == 2) (carry_of_add a b) (cond (op == 3) (carry_of_sub a b) (cond (op == 10) (r % 2) c))

unfoldable pub overflow_after : ℕ → ℕ → ℕ → ℕ → ℕ
overflow_after op a b v = cond (op == 2) (overflow_of_add a b) (cond (op == 3) (overflow_of_sub a b) v)

unfoldable pub flags_after : ℕ → ℕ → ℕ → ℕ → ℕ → ℕ → Flags
flags_after op a b r c v =
    record { n = sign_flag r; z = zero_flag r; c = carry_after op a b r c; v = overflow_after op a b v }

-- the flags after operation op, from its own result
unfoldable pub flags_of : ℕ → ℕ → ℕ → ℕ → ℕ → Flags
flags_of op a b c v = flags_after op a b (result_of op a b) c v
