-- Encode: the word of an instruction, its unused bits zero, or the refusal 10.
-- Paper: "What a programmer sees", the format of each operation; "Unused bits encode as zero; RTI encodes as 01"; row 10.
--   encode_of i   the answer, `None` if refused       fits i   every field fits its width       placed i   the fields at their bits
use Rattle.std.specs.Prelude.{ℕ, ◌+◌, ◌*◌, ◌^◌, Bool, cond, ◌&&◌, Option, Some, None, ltb}
use Rattle.trm_codec.specs.declared.instruction.Operand.{Operand}
use Rattle.trm_codec.specs.declared.instruction.Operand.TheVariants.{Register, Literal}
use Rattle.trm_codec.specs.declared.instruction.Instruction.{Instruction}
use Rattle.trm_codec.specs.declared.instruction.Instruction.TheVariants.{Arithmetic, MoveHigh, SetStatus, Jump, JumpAndLink}
use Rattle.trm_codec.specs.declared.instruction.Instruction.TheVariants.{ReturnFromInterrupt, Load, Store, Branch, Call}
use Rattle.trm_codec.specs.Operations.{number_of}

-- "a field outside its width": d and s have 3 bits, a literal 10, the status 4, the offset of LD and ST 8,
-- a condition 4, a branch's offset 10, a call's 12
abbrev pub operand_fits : Operand → Bool
operand_fits (Register s) = ltb s 8
operand_fits (Literal n) = ltb n 1024

abbrev pub memory_fits : ℕ → ℕ → ℕ → Bool
memory_fits d s offset = ltb d 8 && (ltb s 8 && ltb offset 256)

abbrev pub fits : Instruction → Bool
fits (Arithmetic o d x) = ltb d 8 && operand_fits x
fits (MoveHigh d) = ltb d 8
fits (SetStatus status) = ltb status 16
fits (Jump s) = ltb s 8
fits (JumpAndLink d s) = ltb d 8 && ltb s 8
fits (ReturnFromInterrupt s) = ltb s 8
fits (Load d s offset) = memory_fits d s offset
fits (Store d s offset) = memory_fits d s offset
fits (Branch condition offset) = ltb condition 16 && ltb offset 1024
fits (Call offset) = ltb offset 4096

-- bit 10 is set for a register; with bit 3 set as well the operand is H
abbrev pub operand_placed : Operand → ℕ
operand_placed (Register s) = 2 ^ 10 + s
operand_placed (Literal n) = n

abbrev pub memory_placed : ℕ → ℕ → ℕ → ℕ → ℕ
memory_placed op d s offset = op * 2 ^ 14 + d * 2 ^ 11 + offset * 2 ^ 3 + s

-- bits 9–8 of 11 are 10 (bit 9) for a jump that links, and 01 (bit 8) for RTI
abbrev pub placed : Instruction → ℕ
placed (Arithmetic o d x) = number_of o * 2 ^ 14 + d * 2 ^ 11 + operand_placed x
placed (MoveHigh d) = d * 2 ^ 11 + (2 ^ 10 + 2 ^ 3)
placed (SetStatus status) = 11 * 2 ^ 14 + status
placed (Jump s) = 11 * 2 ^ 14 + 2 ^ 10 + s
placed (JumpAndLink d s) = 11 * 2 ^ 14 + 2 ^ 10 + 2 ^ 9 + d * 2 ^ 11 + s
placed (ReturnFromInterrupt s) = 11 * 2 ^ 14 + 2 ^ 10 + 2 ^ 8 + s
placed (Load d s offset) = memory_placed 12 d s offset
placed (Store d s offset) = memory_placed 13 d s offset
placed (Branch condition offset) = 14 * 2 ^ 14 + condition * 2 ^ 10 + offset
placed (Call offset) = 15 * 2 ^ 14 + offset

abbrev pub encoded_as : Bool → ℕ → Option ℕ
encoded_as ok w = cond ok (Some w) None

unfoldable pub encode_of : Instruction → Option ℕ
encode_of i = encoded_as (fits i) (placed i)

-- LD and ST; op is 12 or 13
abbrev pub memory_encoded : ℕ → ℕ → ℕ → ℕ → Option ℕ
memory_encoded op d s offset = encoded_as (memory_fits d s offset) (memory_placed op d s offset)
