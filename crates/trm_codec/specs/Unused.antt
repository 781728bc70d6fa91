-- The bits that a word's form uses, as a table of masks, and a word with its unused bits made zero.
-- Paper: "Unused bits encode as zero; RTI encodes as 01". A bit is unused if no field of the word's form contains it.
--   used_bits w     the mask of the form that w has       unused_zero w   w with every unused bit zero
use Rattle.std.specs.Prelude.{ℕ, ◌-◌, cond, List, [], ◌∷◌, ltb, eqb, get_or}
use Rattle.std.specs.Int.Bits.{bit_and}
use Rattle.trm_word.specs.Fields.{bit, moves_high, operation, jump_form}

-- 0–10. MOV H: bits 17–10 and 3 (9–4 and s unused). Register: bits 17–10 and s (9–3 unused; for MOV bit 3 is 0). Literal: all.
abbrev pub used_arithmetic : ℕ → ℕ
used_arithmetic w = cond (moves_high w) 0x3FC08 (cond (eqb (bit 10 w) 1) 0x3FC07 0x3FFFF)

-- 11. Bit 10 clear: bits 17–14, 10 and 3–0. Bit 10 set: bits 17–14, 10, 9–8 and s; d where bits 9–8 are 10; RTI without bit 9.
abbrev pub used_control : ℕ → ℕ
used_control w =
    cond (eqb (bit 10 w) 0) 0x3C40F (cond (eqb (jump_form w) 0) 0x3C707 (cond (eqb (jump_form w) 2) 0x3FF07 0x3C507))

-- 12, 13 and 14: all
abbrev pub used_others : ℕ → List ℕ
used_others w = used_control w ∷ 0x3FFFF ∷ 0x3FFFF ∷ 0x3FFFF ∷ []

-- 15: bits 17–14 and 11–0
abbrev pub used_bits : ℕ → ℕ
used_bits w =
    cond (ltb (operation w) 11) (used_arithmetic w) (get_or (used_others w) (operation w - 11) 0x3CFFF)

unfoldable pub unused_zero : ℕ → ℕ
unused_zero w = bit_and w (used_bits w)
