-- The fields of an 18-bit word, by their bits.
-- Paper: "Operation = bits 17–14, d = bits 13–11, s = bits 2–0", and the fields that each operation names.
--   bits hi lo w   bits hi to lo of w as a number       low_bits n w   the low n bits, n − 1 to 0       bit i w   bit i
use Rattle.std.specs.Prelude.{ℕ, suc, ◌-◌, ◌/◌, ◌%◌, ◌^◌, Bool, ◌&&◌, ◌==◌}

-- hi is at or above lo, so the difference does not truncate
abbrev pub bits : ℕ → ℕ → ℕ → ℕ
bits hi lo w = w / 2 ^ lo % 2 ^ (suc hi - lo)

abbrev pub low_bits : ℕ → ℕ → ℕ
low_bits n w = w % 2 ^ n

abbrev pub bit : ℕ → ℕ → ℕ
bit i w = w / 2 ^ i % 2

abbrev pub operation : ℕ → ℕ
operation w = bits 17 14 w

-- d
abbrev pub destination : ℕ → ℕ
destination w = bits 13 11 w

-- s, bits 2–0
abbrev pub source : ℕ → ℕ
source w = low_bits 3 w

-- operations 0–10: "A is R.s if bit 10 is set, else bits 9–0 without sign"
abbrev pub literal : ℕ → ℕ
literal w = low_bits 10 w

-- 11 with bit 10 clear: "status := bits 3–0"
abbrev pub new_status : ℕ → ℕ
new_status w = low_bits 4 w

-- 11 with bit 10 set: "by bits 9–8"
abbrev pub jump_form : ℕ → ℕ
jump_form w = bits 9 8 w

-- 12 and 13: "bits 10–3"
abbrev pub memory_offset : ℕ → ℕ
memory_offset w = bits 10 3 w

-- 14: "condition bits 13–10"
abbrev pub condition : ℕ → ℕ
condition w = bits 13 10 w

-- 14: "signed bits 9–0", here the ten bits unsigned; the machine extends their sign when it adds them
abbrev pub branch_offset : ℕ → ℕ
branch_offset w = low_bits 10 w

-- 15: "bits 11–0"
abbrev pub call_offset : ℕ → ℕ
call_offset w = low_bits 12 w

-- "0 MOV A, or H if bits 10 and 3 are both set"
abbrev pub moves_high : ℕ → Bool
moves_high w = operation w == 0 && (bit 10 w == 1 && bit 3 w == 1)
