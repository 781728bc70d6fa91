-- Table: what each form of a word changes: PC, registers, H, flags and status, and no other register.
-- Paper: "What a programmer sees", from 0 MOV to 15, and the program words beyond the lent ones.
use Rattle.std.specs.Prelude.{ℕ, ◌+◌, cond, List, [], ◌∷◌}
use Rattle.trm_reference.specs.Visible.{Visible, word_at}
use Rattle.trm_reference.specs.Execute.{execute, branch_taken}
use Rattle.trm_reference.specs.Tables.{Row, row, word_of, literal_word, register_word, status_word, jump_word, load_word, store_word}
use Rattle.trm_reference.specs.Tables.{branch_word, call_word, holding, seen, shown}

-- the visible state after the word is executed; LD loads BEEFH
abbrev pub carried : ℕ → Visible → List ℕ
carried w v = shown v (execute w v 0xBEEF)

-- 1 if a branch under condition k is taken, with these flags
abbrev pub taken_with : ℕ → ℕ → ℕ → ℕ → ℕ → ℕ
taken_with k n z c v = cond (branch_taken (branch_word k 5) (seen 0x123 n z c v 0)) 1 0

-- the same for NZCV 0000, 0001, 0010 and so on up to 1111
unfoldable pub taken_under : ℕ → List ℕ
taken_under k =
    taken_with k 0 0 0 0 ∷ taken_with k 0 0 0 1 ∷ taken_with k 0 0 1 0 ∷ taken_with k 0 0 1 1
    ∷ taken_with k 0 1 0 0 ∷ taken_with k 0 1 0 1 ∷ taken_with k 0 1 1 0 ∷ taken_with k 0 1 1 1
    ∷ taken_with k 1 0 0 0 ∷ taken_with k 1 0 0 1 ∷ taken_with k 1 0 1 0 ∷ taken_with k 1 0 1 1
    ∷ taken_with k 1 1 0 0 ∷ taken_with k 1 1 0 1 ∷ taken_with k 1 1 1 0 ∷ taken_with k 1 1 1 1
    ∷ []

unfoldable pub executed : List Row
executed =
    -- 11 with bit 10 clear: status := bits 3–0, for any other bits
    row (carried (status_word 11) (seen 0x123 1 0 1 0 4)) (0x124 ∷ 0x8000_0005 ∷ 1 ∷ 0 ∷ 1 ∷ 0 ∷ 11 ∷ [])
    ∷ row (carried (word_of 11 7 0x3F5) (seen 0xFFF 0 1 0 1 8)) (0 ∷ 0x8000_0005 ∷ 0 ∷ 1 ∷ 0 ∷ 1 ∷ 5 ∷ [])
    -- "PC := low 12 bits of R.s, and by bits 9–8: 00 nothing more"
    ∷ row (carried (jump_word 0 3 6) (seen 0x123 0 1 0 1 3)) (0xFFF ∷ 0x8000_0005 ∷ 0 ∷ 1 ∷ 0 ∷ 1 ∷ 3 ∷ [])
    -- "10 puts PC+1 in R.d": in bank 0, in bank 1, and with d = s, "R.s being read first"
    ∷ row (carried (jump_word 2 3 6) (seen 0x123 0 1 0 1 3)) (0xFFF ∷ 3 ∷ 0x124 ∷ 0x8000_0005 ∷ 0 ∷ 1 ∷ 0 ∷ 1 ∷ 3 ∷ [])
    ∷ row (carried (jump_word 2 3 6) (seen 0x123 0 1 0 1 7)) (0xABC ∷ 11 ∷ 0x124 ∷ 0x8000_0005 ∷ 0 ∷ 1 ∷ 0 ∷ 1 ∷ 7 ∷ [])
    ∷ row (carried (jump_word 2 6 6) (seen 0xFFF 0 1 0 1 3)) (0xFFF ∷ 6 ∷ 0 ∷ 0x8000_0005 ∷ 0 ∷ 1 ∷ 0 ∷ 1 ∷ 3 ∷ [])
    -- "01 and 11 (RTI) also set NZCV from R.s bits 31–28 and the mode to 0": from mode 1, by bank 1's R6; from mode 0
    ∷ row (carried (jump_word 1 3 6) (seen 0x123 1 0 1 0 15)) (0xABC ∷ 0x8000_0005 ∷ 0 ∷ 1 ∷ 0 ∷ 1 ∷ 11 ∷ [])
    ∷ row (carried (jump_word 3 3 6) (seen 0x123 1 0 1 0 15)) (0xABC ∷ 0x8000_0005 ∷ 0 ∷ 1 ∷ 0 ∷ 1 ∷ 11 ∷ [])
    ∷ row (carried (jump_word 1 3 6) (seen 0x123 0 1 0 1 3)) (0xFFF ∷ 0x8000_0005 ∷ 1 ∷ 0 ∷ 1 ∷ 0 ∷ 3 ∷ [])
    ∷ row (carried (jump_word 3 3 6) (seen 0x123 0 1 0 1 3)) (0xFFF ∷ 0x8000_0005 ∷ 1 ∷ 0 ∷ 1 ∷ 0 ∷ 3 ∷ [])
    -- the flags 1100 and 0110, which distinguish any two flags: from R1, with PC 0, H 0 and all flags clear before
    ∷ row (carried (jump_word 1 3 1) (holding 0xC000_0ABC 0 3)) (0xABC ∷ 0 ∷ 1 ∷ 1 ∷ 0 ∷ 0 ∷ 3 ∷ [])
    ∷ row (carried (jump_word 3 3 1) (holding 0x6000_0ABC 0 3)) (0xABC ∷ 0 ∷ 0 ∷ 1 ∷ 1 ∷ 0 ∷ 3 ∷ [])
    -- "14: .. PC := PC+1+signed bits 9–0": by 5, by 511, by −1 and by −512
    ∷ row (carried (branch_word 14 5) (seen 0x123 0 0 0 0 0)) (0x129 ∷ 0x8000_0005 ∷ 0 ∷ 0 ∷ 0 ∷ 0 ∷ 0 ∷ [])
    ∷ row (carried (branch_word 14 511) (seen 0x123 0 0 0 0 0)) (0x323 ∷ 0x8000_0005 ∷ 0 ∷ 0 ∷ 0 ∷ 0 ∷ 0 ∷ [])
    ∷ row (carried (branch_word 14 1023) (seen 0x323 0 0 0 0 0)) (0x323 ∷ 0x8000_0005 ∷ 0 ∷ 0 ∷ 0 ∷ 0 ∷ 0 ∷ [])
    ∷ row (carried (branch_word 14 512) (seen 0x323 0 0 0 0 0)) (0x124 ∷ 0x8000_0005 ∷ 0 ∷ 0 ∷ 0 ∷ 0 ∷ 0 ∷ [])
    -- by −1 under condition 1, not Z, whose lowest bit is next to the ten bits of the offset
    ∷ row (carried (branch_word 1 1023) (seen 0x323 0 0 0 0 0)) (0x323 ∷ 0x8000_0005 ∷ 0 ∷ 0 ∷ 0 ∷ 0 ∷ 0 ∷ [])
    -- "PC and PC+1 are taken mod 4,096": from 4,095 by 511 and by −1, from 0 by −512
    ∷ row (carried (branch_word 14 511) (seen 0xFFF 0 0 0 0 0)) (511 ∷ 0x8000_0005 ∷ 0 ∷ 0 ∷ 0 ∷ 0 ∷ 0 ∷ [])
    ∷ row (carried (branch_word 14 1023) (seen 0xFFF 0 0 0 0 0)) (4095 ∷ 0x8000_0005 ∷ 0 ∷ 0 ∷ 0 ∷ 0 ∷ 0 ∷ [])
    ∷ row (carried (branch_word 14 512) (seen 0 0 0 0 0 0)) (3585 ∷ 0x8000_0005 ∷ 0 ∷ 0 ∷ 0 ∷ 0 ∷ 0 ∷ [])
    -- "if condition bits 13–10 hold": Z, C, N, V, each where that flag alone is set, and not taken where it alone is clear
    ∷ row (carried (branch_word 0 5) (seen 0x123 0 1 0 0 0)) (0x129 ∷ 0x8000_0005 ∷ 0 ∷ 1 ∷ 0 ∷ 0 ∷ 0 ∷ [])
    ∷ row (carried (branch_word 2 5) (seen 0x123 0 0 1 0 0)) (0x129 ∷ 0x8000_0005 ∷ 0 ∷ 0 ∷ 1 ∷ 0 ∷ 0 ∷ [])
    ∷ row (carried (branch_word 4 5) (seen 0x123 1 0 0 0 0)) (0x129 ∷ 0x8000_0005 ∷ 1 ∷ 0 ∷ 0 ∷ 0 ∷ 0 ∷ [])
    ∷ row (carried (branch_word 6 5) (seen 0x123 0 0 0 1 0)) (0x129 ∷ 0x8000_0005 ∷ 0 ∷ 0 ∷ 0 ∷ 1 ∷ 0 ∷ [])
    ∷ row (carried (branch_word 0 5) (seen 0x123 1 0 1 1 0)) (0x124 ∷ 0x8000_0005 ∷ 1 ∷ 0 ∷ 1 ∷ 1 ∷ 0 ∷ [])
    ∷ row (carried (branch_word 2 5) (seen 0x123 1 1 0 1 0)) (0x124 ∷ 0x8000_0005 ∷ 1 ∷ 1 ∷ 0 ∷ 1 ∷ 0 ∷ [])
    ∷ row (carried (branch_word 4 5) (seen 0x123 0 1 1 1 0)) (0x124 ∷ 0x8000_0005 ∷ 0 ∷ 1 ∷ 1 ∷ 1 ∷ 0 ∷ [])
    ∷ row (carried (branch_word 6 5) (seen 0xFFF 1 1 1 0 0)) (0 ∷ 0x8000_0005 ∷ 1 ∷ 1 ∷ 1 ∷ 0 ∷ 0 ∷ [])
    -- "Conditions 0–15: Z; not Z; C; not C; N; not N; V; not V; C and not Z; its opposite; N=V; N≠V; N=V and not Z; its opposite;
    -- always; never": each under the sixteen NZCV
    ∷ row (taken_under 0) (0 ∷ 0 ∷ 0 ∷ 0 ∷ 1 ∷ 1 ∷ 1 ∷ 1 ∷ 0 ∷ 0 ∷ 0 ∷ 0 ∷ 1 ∷ 1 ∷ 1 ∷ 1 ∷ [])
    ∷ row (taken_under 1) (1 ∷ 1 ∷ 1 ∷ 1 ∷ 0 ∷ 0 ∷ 0 ∷ 0 ∷ 1 ∷ 1 ∷ 1 ∷ 1 ∷ 0 ∷ 0 ∷ 0 ∷ 0 ∷ [])
    ∷ row (taken_under 2) (0 ∷ 0 ∷ 1 ∷ 1 ∷ 0 ∷ 0 ∷ 1 ∷ 1 ∷ 0 ∷ 0 ∷ 1 ∷ 1 ∷ 0 ∷ 0 ∷ 1 ∷ 1 ∷ [])
    ∷ row (taken_under 3) (1 ∷ 1 ∷ 0 ∷ 0 ∷ 1 ∷ 1 ∷ 0 ∷ 0 ∷ 1 ∷ 1 ∷ 0 ∷ 0 ∷ 1 ∷ 1 ∷ 0 ∷ 0 ∷ [])
    ∷ row (taken_under 4) (0 ∷ 0 ∷ 0 ∷ 0 ∷ 0 ∷ 0 ∷ 0 ∷ 0 ∷ 1 ∷ 1 ∷ 1 ∷ 1 ∷ 1 ∷ 1 ∷ 1 ∷ 1 ∷ [])
    ∷ row (taken_under 5) (1 ∷ 1 ∷ 1 ∷ 1 ∷ 1 ∷ 1 ∷ 1 ∷ 1 ∷ 0 ∷ 0 ∷ 0 ∷ 0 ∷ 0 ∷ 0 ∷ 0 ∷ 0 ∷ [])
    ∷ row (taken_under 6) (0 ∷ 1 ∷ 0 ∷ 1 ∷ 0 ∷ 1 ∷ 0 ∷ 1 ∷ 0 ∷ 1 ∷ 0 ∷ 1 ∷ 0 ∷ 1 ∷ 0 ∷ 1 ∷ [])
    ∷ row (taken_under 7) (1 ∷ 0 ∷ 1 ∷ 0 ∷ 1 ∷ 0 ∷ 1 ∷ 0 ∷ 1 ∷ 0 ∷ 1 ∷ 0 ∷ 1 ∷ 0 ∷ 1 ∷ 0 ∷ [])
    ∷ row (taken_under 8) (0 ∷ 0 ∷ 1 ∷ 1 ∷ 0 ∷ 0 ∷ 0 ∷ 0 ∷ 0 ∷ 0 ∷ 1 ∷ 1 ∷ 0 ∷ 0 ∷ 0 ∷ 0 ∷ [])
    ∷ row (taken_under 9) (1 ∷ 1 ∷ 0 ∷ 0 ∷ 1 ∷ 1 ∷ 1 ∷ 1 ∷ 1 ∷ 1 ∷ 0 ∷ 0 ∷ 1 ∷ 1 ∷ 1 ∷ 1 ∷ [])
    ∷ row (taken_under 10) (1 ∷ 0 ∷ 1 ∷ 0 ∷ 1 ∷ 0 ∷ 1 ∷ 0 ∷ 0 ∷ 1 ∷ 0 ∷ 1 ∷ 0 ∷ 1 ∷ 0 ∷ 1 ∷ [])
    ∷ row (taken_under 11) (0 ∷ 1 ∷ 0 ∷ 1 ∷ 0 ∷ 1 ∷ 0 ∷ 1 ∷ 1 ∷ 0 ∷ 1 ∷ 0 ∷ 1 ∷ 0 ∷ 1 ∷ 0 ∷ [])
    ∷ row (taken_under 12) (1 ∷ 0 ∷ 1 ∷ 0 ∷ 0 ∷ 0 ∷ 0 ∷ 0 ∷ 0 ∷ 1 ∷ 0 ∷ 1 ∷ 0 ∷ 0 ∷ 0 ∷ 0 ∷ [])
    ∷ row (taken_under 13) (0 ∷ 1 ∷ 0 ∷ 1 ∷ 1 ∷ 1 ∷ 1 ∷ 1 ∷ 1 ∷ 0 ∷ 1 ∷ 0 ∷ 1 ∷ 1 ∷ 1 ∷ 1 ∷ [])
    ∷ row (taken_under 14) (1 ∷ 1 ∷ 1 ∷ 1 ∷ 1 ∷ 1 ∷ 1 ∷ 1 ∷ 1 ∷ 1 ∷ 1 ∷ 1 ∷ 1 ∷ 1 ∷ 1 ∷ 1 ∷ [])
    ∷ row (taken_under 15) (0 ∷ 0 ∷ 0 ∷ 0 ∷ 0 ∷ 0 ∷ 0 ∷ 0 ∷ 0 ∷ 0 ∷ 0 ∷ 0 ∷ 0 ∷ 0 ∷ 0 ∷ 0 ∷ [])
    -- "Program words beyond the lent ones are 3BC00H (branch never)": with a program of two words
    ∷ row
    (word_at (7 ∷ 8 ∷ []) 0 ∷ word_at (7 ∷ 8 ∷ []) 1 ∷ word_at (7 ∷ 8 ∷ []) 2 ∷ word_at (7 ∷ 8 ∷ []) 4095 ∷ [])
    (7 ∷ 8 ∷ 0x3BC00 ∷ 0x3BC00 ∷ [])
    ∷ row (carried 0x3BC00 (seen 0x123 1 1 1 1 0)) (0x124 ∷ 0x8000_0005 ∷ 1 ∷ 1 ∷ 1 ∷ 1 ∷ 0 ∷ [])
    -- "15: R7 := PC+1, PC := PC+1+bits 11–0": with wrap, in bank 0 and in bank 1
    ∷ row (carried (call_word 0xFFE) (seen 5 1 0 1 0 0)) (4 ∷ 7 ∷ 6 ∷ 0x8000_0005 ∷ 1 ∷ 0 ∷ 1 ∷ 0 ∷ 0 ∷ [])
    ∷ row (carried (call_word 1) (seen 0xFFF 1 0 1 0 4)) (1 ∷ 15 ∷ 0 ∷ 0x8000_0005 ∷ 1 ∷ 0 ∷ 1 ∷ 0 ∷ 4 ∷ [])
    -- "0 MOV A": bits 9–0 without sign, zero, a register, in bank 1; C and V stay
    ∷ row (carried (literal_word 0 1 0x3FF) (seen 0xFFF 1 1 1 1 0)) (0 ∷ 1 ∷ 0x3FF ∷ 0x8000_0005 ∷ 0 ∷ 0 ∷ 1 ∷ 1 ∷ 0 ∷ [])
    ∷ row (carried (literal_word 0 1 0) (seen 0x123 1 0 0 1 0)) (0x124 ∷ 1 ∷ 0 ∷ 0x8000_0005 ∷ 0 ∷ 1 ∷ 0 ∷ 1 ∷ 0 ∷ [])
    ∷ row (carried (register_word 0 1 6) (seen 0x123 0 1 1 0 0)) (0x124 ∷ 1 ∷ 0xA000_0FFF ∷ 0x8000_0005 ∷ 1 ∷ 0 ∷ 1 ∷ 0 ∷ 0 ∷ [])
    ∷ row (carried (register_word 0 1 6) (seen 0x123 1 1 0 1 4)) (0x124 ∷ 9 ∷ 0x5000_0ABC ∷ 0x8000_0005 ∷ 0 ∷ 0 ∷ 0 ∷ 1 ∷ 4 ∷ [])
    -- "or H if bits 10 and 3 are both set": MOV H; bit 3 of a literal; another operation with bits 10 and 3 set, ADD R1, R2
    ∷ row (carried (register_word 0 1 (8 + 6)) (seen 0x123 0 1 0 1 0)) (0x124 ∷ 1 ∷ 0x8000_0005 ∷ 0x8000_0005 ∷ 1 ∷ 0 ∷ 0 ∷ 1 ∷ 0 ∷ [])
    ∷ row (carried (literal_word 0 1 8) (seen 0x123 0 1 0 1 0)) (0x124 ∷ 1 ∷ 8 ∷ 0x8000_0005 ∷ 0 ∷ 0 ∷ 0 ∷ 1 ∷ 0 ∷ [])
    ∷ row (carried (register_word 2 1 (8 + 2)) (seen 0x123 1 1 1 1 0)) (0x124 ∷ 1 ∷ 0x203 ∷ 0x8000_0005 ∷ 0 ∷ 0 ∷ 0 ∷ 0 ∷ 0 ∷ [])
    -- "1 NOT A. 2 ADD. 3 SUB, B−A. 4 AND. 5 BIC, B and not A. 6 OR. 7 XOR": R1, which is 101H, with a literal
    ∷ row (carried (literal_word 1 1 1) (seen 0x123 0 1 1 1 0)) (0x124 ∷ 1 ∷ 0xFFFF_FFFE ∷ 0x8000_0005 ∷ 1 ∷ 0 ∷ 1 ∷ 1 ∷ 0 ∷ [])
    ∷ row (carried (literal_word 2 1 1) (seen 0x123 1 1 1 1 0)) (0x124 ∷ 1 ∷ 0x102 ∷ 0x8000_0005 ∷ 0 ∷ 0 ∷ 0 ∷ 0 ∷ 0 ∷ [])
    ∷ row (carried (literal_word 3 1 0x102) (seen 0x123 0 1 1 1 0)) (0x124 ∷ 1 ∷ 0xFFFF_FFFF ∷ 0x8000_0005 ∷ 1 ∷ 0 ∷ 0 ∷ 0 ∷ 0 ∷ [])
    ∷ row (carried (literal_word 4 1 3) (seen 0x123 1 1 1 1 0)) (0x124 ∷ 1 ∷ 1 ∷ 0x8000_0005 ∷ 0 ∷ 0 ∷ 1 ∷ 1 ∷ 0 ∷ [])
    ∷ row (carried (literal_word 5 1 3) (seen 0x123 1 1 1 1 0)) (0x124 ∷ 1 ∷ 0x100 ∷ 0x8000_0005 ∷ 0 ∷ 0 ∷ 1 ∷ 1 ∷ 0 ∷ [])
    ∷ row (carried (literal_word 6 1 3) (seen 0x123 1 1 1 1 0)) (0x124 ∷ 1 ∷ 0x103 ∷ 0x8000_0005 ∷ 0 ∷ 0 ∷ 1 ∷ 1 ∷ 0 ∷ [])
    ∷ row (carried (literal_word 7 1 3) (seen 0x123 1 1 1 1 0)) (0x124 ∷ 1 ∷ 0x102 ∷ 0x8000_0005 ∷ 0 ∷ 0 ∷ 1 ∷ 1 ∷ 0 ∷ [])
    -- A2, C with a literal as with a register: R6, which is A0000FFFH, plus 1 has no carry; R1 minus 101H and minus 1 is not below 0
    ∷ row (carried (literal_word 2 6 1) (seen 0x123 0 1 1 1 0)) (0x124 ∷ 6 ∷ 0xA000_1000 ∷ 0x8000_0005 ∷ 1 ∷ 0 ∷ 0 ∷ 0 ∷ 0 ∷ [])
    ∷ row (carried (literal_word 3 1 0x101) (seen 0x123 1 0 0 1 0)) (0x124 ∷ 1 ∷ 0 ∷ 0x8000_0005 ∷ 0 ∷ 1 ∷ 1 ∷ 0 ∷ 0 ∷ [])
    ∷ row (carried (literal_word 3 1 1) (seen 0x123 1 1 0 1 0)) (0x124 ∷ 1 ∷ 0x100 ∷ 0x8000_0005 ∷ 0 ∷ 0 ∷ 1 ∷ 0 ∷ 0 ∷ [])
    -- "8 MUL: .. low word to R.d, high word to H", 101H × 3; "9 DIV": 101H by 16 is 16, remainder 1
    ∷ row (carried (literal_word 8 1 3) (seen 0x123 1 1 1 1 0)) (0x124 ∷ 1 ∷ 0x303 ∷ 0 ∷ 0 ∷ 0 ∷ 1 ∷ 1 ∷ 0 ∷ [])
    ∷ row (carried (literal_word 9 1 16) (seen 0x123 1 1 1 1 0)) (0x124 ∷ 1 ∷ 16 ∷ 1 ∷ 0 ∷ 0 ∷ 1 ∷ 1 ∷ 0 ∷ [])
    -- "10 ROR, B rotated right by A mod 32": 101H by 33, by 32 and by 9; "C is bit 0 of the result"
    ∷ row (carried (literal_word 10 1 33) (seen 0x123 0 1 1 1 0)) (0x124 ∷ 1 ∷ 0x8000_0080 ∷ 0x8000_0005 ∷ 1 ∷ 0 ∷ 0 ∷ 1 ∷ 0 ∷ [])
    ∷ row (carried (literal_word 10 1 32) (seen 0x123 1 1 0 0 0)) (0x124 ∷ 0x8000_0005 ∷ 0 ∷ 0 ∷ 1 ∷ 0 ∷ 0 ∷ [])
    ∷ row (carried (literal_word 10 1 9) (seen 0x123 1 1 1 0 0)) (0x124 ∷ 1 ∷ 0x8080_0000 ∷ 0x8000_0005 ∷ 1 ∷ 0 ∷ 0 ∷ 0 ∷ 0 ∷ [])
    -- 12 LD, in bank 0 and in bank 1; 13 ST
    ∷ row (carried (load_word 3 7 0) (seen 0x123 1 1 0 1 0)) (0x124 ∷ 3 ∷ 0xBEEF ∷ 0x8000_0005 ∷ 1 ∷ 1 ∷ 0 ∷ 1 ∷ 0 ∷ [])
    ∷ row (carried (load_word 3 7 0) (seen 0xFFF 0 1 1 0 4)) (0 ∷ 11 ∷ 0xBEEF ∷ 0x8000_0005 ∷ 0 ∷ 1 ∷ 1 ∷ 0 ∷ 4 ∷ [])
    ∷ row (carried (store_word 3 7 0) (seen 0x123 1 0 1 0 0)) (0x124 ∷ 0x8000_0005 ∷ 1 ∷ 0 ∷ 1 ∷ 0 ∷ 0 ∷ [])
    ∷ []
