-- MUL: the signed product, its two words, and the multiplier's 64-bit register step by step.
-- Paper: "8 MUL: signed 64-bit product, low word to R.d, high word to H"; "After k multiplier steps .."
--   product a b        the signed product
--   low_word, high_word  its two words
--   mul_after a b k     the register after k steps, as a 64-bit word
--   mul_step acc b last the register after one more step, from any register
use Rattle.std.specs.Prelude.{ℕ, ◌+◌, ◌-◌, ◌*◌, ◌/◌, ◌%◌, ◌^◌, Bool, cond, ℤ, pos, ◌+ℤ◌, ◌*ℤ◌, nat_lt}
use Rattle.trm_alu.specs.Word.{signed, word}

unfoldable pub product : ℕ → ℕ → ℤ
product a b = signed b *ℤ signed a

unfoldable pub low_word : ℤ → ℕ
low_word z = word 32 z

unfoldable pub high_word : ℤ → ℕ
high_word z = word 64 z / 2 ^ 32

-- "B×(A mod 2^k)×2^(32−k) + floor(A/2^k), A unsigned and B signed"; k is at most 31, so 32 − k does not truncate
unfoldable pub partial_product : ℕ → ℕ → ℕ → ℤ
partial_product a b k = signed b *ℤ pos (a % 2 ^ k * 2 ^ (32 - k)) +ℤ pos (a / 2 ^ k)

-- "k = 1–31 ..; after 32 it is the product"; before the first step, k = 0, it is A without sign
unfoldable pub mul_after : ℕ → ℕ → ℕ → ℕ
mul_after a b k = word 64 (cond (nat_lt k 32) (partial_product a b k) (product a b))

-- the register shifted right by one, arithmetically
unfoldable pub shifted_right : ℕ → ℕ
shifted_right acc = acc / 2 + acc / 2 ^ 63 * 2 ^ 63

-- B at the place of the upper half after the shift
unfoldable pub upper_half : ℕ → ℕ
upper_half b = word 64 (signed b *ℤ pos (2 ^ 31))

-- One add-and-shift step: shift, and if the bit shifted out is set, add B to the upper half; the last step subtracts it.
-- The product of a bit and a 64-bit word is below 2^64, so the difference does not truncate.
unfoldable pub mul_step : ℕ → ℕ → Bool → ℕ
mul_step acc b last =
    (shifted_right acc + cond last (2 ^ 64 - acc % 2 * upper_half b) (acc % 2 * upper_half b)) % 2 ^ 64
