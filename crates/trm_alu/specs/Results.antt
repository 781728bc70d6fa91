-- The results of operations 0–10: what they write to R.d and H.
-- Paper: "What a programmer sees", the list from 0 MOV to 9 DIV. A is R.s, the literal, or H for MOV from H (`operand_a` of
-- trm_reference); B is R.d.
--   result_of op a b    R.d after operation op
--   high_of op a b h    H after operation op, h before it
use Rattle.std.specs.Prelude.{ℕ, ◌+◌, ◌-◌, ◌*◌, ◌/◌, ◌%◌, ◌^◌, cond, [], ◌∷◌, ℤ, ◌+ℤ◌, ◌-ℤ◌, ◌==◌, bit_and, bit_or, bit_xor, slice_index_or}
use Rattle.trm_alu.specs.Word.{signed, word}
use Rattle.trm_alu.specs.Multiply.{product, low_word, high_word}
use Rattle.trm_alu.specs.Divide.{quotient, remainder}

-- the exact signed results of ADD and SUB, before they are truncated to 32 bits
unfoldable pub exact_sum : ℕ → ℕ → ℤ
exact_sum a b = signed b +ℤ signed a

unfoldable pub exact_difference : ℕ → ℕ → ℤ
exact_difference a b = signed b -ℤ signed a

unfoldable pub sum : ℕ → ℕ → ℕ
sum a b = word 32 (exact_sum a b)

unfoldable pub difference : ℕ → ℕ → ℕ
difference a b = word 32 (exact_difference a b)

-- every bit of the word a inverted; a is below 2^32
abbrev pub not_word : ℕ → ℕ
not_word a = 2 ^ 32 - 1 - a

-- "B and not A"
abbrev pub bic : ℕ → ℕ → ℕ
bic a b = bit_and b (not_word a)

-- "B rotated right by A mod 32": the low A mod 32 bits go to the top
unfoldable pub ror : ℕ → ℕ → ℕ
ror a b = b / 2 ^ (a % 32) + b % 2 ^ (a % 32) * 2 ^ (32 - a % 32)

-- 0 MOV, 1 NOT, 2 ADD, 3 SUB, 4 AND, 5 BIC, 6 OR, 7 XOR, and by default 10 ROR; not used for 8 and 9
unfoldable pub short_result : ℕ → ℕ → ℕ → ℕ
short_result op a b =
    slice_index_or
    (a ∷ not_word a ∷ sum a b ∷ difference a b ∷ bit_and b a ∷ bic a b ∷ bit_or b a ∷ bit_xor b a ∷ [])
    op
    (ror a b)

-- R.d: 8 MUL the low word of the product, 9 DIV the quotient
unfoldable pub result_of : ℕ → ℕ → ℕ → ℕ
result_of op a b = cond (op == 8) (low_word (product a b)) (cond (op == 9) (quotient a b) (short_result op a b))

-- H: 8 MUL the high word of the product, 9 DIV the remainder; no other operation changes it
unfoldable pub high_of : ℕ → ℕ → ℕ → ℕ → ℕ
high_of op a b h = cond (op == 8) (high_word (product a b)) (cond (op == 9) (remainder a b) h)
