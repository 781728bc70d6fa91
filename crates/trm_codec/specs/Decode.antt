-- Decode: the instruction that a word encodes, or the refusal 3.
-- Paper: "What a programmer sees", the format of each operation; row 3, "one above 3FFFFH, a lone word to decode included".
--   decode_of w   the answer, `None` if refused       instruction_of w   the instruction of a word below 2^18
use Rattle.std.specs.Prelude.{ℕ, ◌-◌, cond, List, [], ◌∷◌, Option, Some, None, ltb, eqb, get_or}
use Rattle.trm_codec.specs.declared.instruction.Operand.{Operand}
use Rattle.trm_codec.specs.declared.instruction.Operand.TheVariants.{Register, Literal}
use Rattle.trm_codec.specs.declared.instruction.Instruction.{Instruction}
use Rattle.trm_codec.specs.declared.instruction.Instruction.TheVariants.{Arithmetic, MoveHigh, SetStatus, Jump, JumpAndLink}
use Rattle.trm_codec.specs.declared.instruction.Instruction.TheVariants.{ReturnFromInterrupt, Load, Store, Branch, Call}
use Rattle.trm_word.specs.Fields.{bit, moves_high, operation, destination, source, literal}
use Rattle.trm_word.specs.Fields.{new_status, jump_form, memory_offset, condition, branch_offset, call_offset}
use Rattle.trm_codec.specs.Operations.{operation_at}

-- "the operand A is R.s if bit 10 is set, else bits 9–0 without sign"
abbrev pub operand_of : ℕ → Operand
operand_of w = cond (eqb (bit 10 w) 1) (Register (source w)) (Literal (literal w))

-- 0–10
unfoldable pub arithmetic_of : ℕ → Instruction
arithmetic_of w =
    cond (moves_high w)
    (MoveHigh (destination w))
    (Arithmetic (operation_at (operation w)) (destination w) (operand_of w))

-- 11; with bit 10 set "by bits 9–8: 00 nothing more; 10 puts PC+1 in R.d ..; 01 and 11 (RTI)"
unfoldable pub control_of : ℕ → Instruction
control_of w =
    cond (eqb (bit 10 w) 0)
    (SetStatus (new_status w))
    (cond (eqb (jump_form w) 0)
    (Jump (source w))
    (cond (eqb (jump_form w) 2) (JumpAndLink (destination w) (source w)) (ReturnFromInterrupt (source w))))

-- 11, 12 LD, 13 ST, 14
abbrev pub other_forms : ℕ → List Instruction
other_forms w =
    control_of w
    ∷ Load (destination w) (source w) (memory_offset w)
    ∷ Store (destination w) (source w) (memory_offset w)
    ∷ Branch (condition w) (branch_offset w)
    ∷ []

-- 0–10, then 11 to 14; the default is 15
unfoldable pub instruction_of : ℕ → Instruction
instruction_of w =
    cond (ltb (operation w) 11) (arithmetic_of w) (get_or (other_forms w) (operation w - 11) (Call (call_offset w)))

unfoldable pub decode_of : ℕ → Option Instruction
decode_of w = cond (ltb 0x3FFFF w) None (Some (instruction_of w))
