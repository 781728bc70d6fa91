-- DIV: the quotient rounded down with its remainder, and the divider's two registers step by step.
-- Paper: "9 DIV, signed: for A above 0 the quotient rounded down, with remainder 0 to A−1 in H. For A at or
-- below 0, R.d becomes 0 and H the dividend"; "With t = floor(|B|/2^(32−k)), the divider holds ..".
--   divided a b          R.d and H of DIV
--   divider_at a b k      the two registers after k steps
--   div_step rem quot a   the two registers after one more step, from any registers
use Rattle.std.specs.Prelude.{ℕ, suc, ◌+◌, ◌-◌, ◌*◌, ◌/◌, ◌%◌, ◌^◌, Bool, cond, ◌&&◌, ℤ, pos, negsuc, nat_lt, unsigned_abs}
use Rattle.trm_alu.specs.declared.inner.divide.Divider.{Divider}
use Rattle.trm_alu.specs.declared.inner.divide.Divided.{Divided}
use Rattle.trm_alu.specs.Word.{signed, word}

-- A above 0, as a signed word
unfoldable pub above0 : ℕ → Bool
above0 a = nat_lt 0 a && nat_lt a (2 ^ 31)

-- the quotient of a signed number by m above 0, rounded down: −(n + 1) divided by m is −(floor(n / m) + 1)
unfoldable pub floor_div : ℤ → ℕ → ℤ
floor_div (pos n) m = pos (n / m)
floor_div (negsuc n) m = negsuc (n / m)

-- its remainder, 0 to m − 1; n % m is below m, so the difference does not truncate
unfoldable pub floor_mod : ℤ → ℕ → ℕ
floor_mod (pos n) m = n % m
floor_mod (negsuc n) m = m - suc (n % m)

-- R.d of DIV
unfoldable pub quotient : ℕ → ℕ → ℕ
quotient a b = cond (above0 a) (word 32 (floor_div (signed b) a)) 0

-- H of DIV
unfoldable pub remainder : ℕ → ℕ → ℕ
remainder a b = cond (above0 a) (floor_mod (signed b) a) b

abbrev pub divided : ℕ → ℕ → Divided
divided a b = record { quotient = quotient a b; remainder = remainder a b }

-- t = floor(|B|/2^(32−k)), k at most 32
unfoldable pub taken : ℕ → ℕ → ℕ
taken b k = unsigned_abs (signed b) / 2 ^ (32 - k)

-- "remainder t mod A .. for A at or below 0 both hold zero"
unfoldable pub div_rem : ℕ → ℕ → ℕ → ℕ
div_rem a b k = cond (above0 a) (taken b k % a) 0

-- "quotient register (|B| mod 2^(32−k))×2^k + floor(t/A)"
unfoldable pub div_quot : ℕ → ℕ → ℕ → ℕ
div_quot a b k = cond (above0 a) (unsigned_abs (signed b) % 2 ^ (32 - k) * 2 ^ k + taken b k / a) 0

abbrev pub divider_at : ℕ → ℕ → ℕ → Divider
divider_at a b k = record { rem = div_rem a b k; quot = div_quot a b k }

-- the remainder's 32 bits shifted left by one, with the quotient register's bit 31 shifted in
unfoldable pub div_trial : ℕ → ℕ → ℕ
div_trial rem quot = rem % 2 ^ 32 * 2 + quot / 2 ^ 31 % 2

-- the quotient register's other 31 bits shifted left by one; bit 0 is free for the next quotient bit
unfoldable pub div_rest : ℕ → ℕ
div_rest quot = quot % 2 ^ 31 * 2

-- One shift-and-subtract step: if A is at most the trial it is subtracted, and the quotient bit is 1.
unfoldable pub div_step : ℕ → ℕ → ℕ → Divider
div_step rem quot a =
    cond (above0 a)
    (cond (nat_lt (div_trial rem quot) a)
    (record { rem = div_trial rem quot; quot = div_rest quot })
    (record { rem = div_trial rem quot - a; quot = div_rest quot + 1 }))
    (record { rem = 0; quot = 0 })
