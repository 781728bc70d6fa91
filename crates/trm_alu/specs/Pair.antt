-- The divider's two registers packed into one number, and one step on it.
-- Paper: "With t = floor(|B|/2^(32−k)), the divider holds remainder t mod A and quotient register ..".
--   paired rem quot        the number        pair_divisor a   A at the remainder's place
--   pair_step pair place    the number after one more step
use Rattle.std.specs.Prelude.{ℕ, ◌+◌, ◌-◌, ◌*◌, ◌%◌, ◌^◌, cond, nat_lt}
use Rattle.trm_alu.specs.Divide.{above0}

-- the remainder above the quotient register's 32 bits
unfoldable pub paired : ℕ → ℕ → ℕ
paired rem quot = rem * 2 ^ 32 + quot

-- for A at or below 0 "both hold zero": then a number above the pair, so that nothing is subtracted
unfoldable pub pair_divisor : ℕ → ℕ
pair_divisor a = cond (above0 a) (a * 2 ^ 32) (2 ^ 63)

-- shift left by one; if A is at most the upper half it is subtracted, and the quotient bit is 1
unfoldable pub pair_step : ℕ → ℕ → ℕ
pair_step pair place =
    cond (nat_lt (pair % 2 ^ 63 * 2) place) (pair % 2 ^ 63 * 2) (pair % 2 ^ 63 * 2 - place + 1)
