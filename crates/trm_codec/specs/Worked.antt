-- Words encoded by hand from the paper's formats, one for each operation and form.
-- Paper: the example image (00005H, 20003H, 3BBFFH), 3BC00H "branch never".
--   rows   a word and its instruction       RowsHold rs   each word decodes to its instruction, which encodes to it
use Rattle.std.specs.Prelude.{ℕ, ◌≡◌, List, [], ◌∷◌, Some}
use Rattle.trm_codec.specs.declared.instruction.Operation.TheVariants as O
use Rattle.trm_codec.specs.declared.instruction.Operand.TheVariants.{Register, Literal}
use Rattle.trm_codec.specs.declared.instruction.Instruction.{Instruction}
use Rattle.trm_codec.specs.declared.instruction.Instruction.TheVariants.{Arithmetic, MoveHigh, SetStatus, Jump, JumpAndLink}
use Rattle.trm_codec.specs.declared.instruction.Instruction.TheVariants.{ReturnFromInterrupt, Load, Store, Branch, Call}
use Rattle.trm_codec.specs.Decode.{decode_of}
use Rattle.trm_codec.specs.Encode.{encode_of}

pub record Row : Type 0 where
  pub word : ℕ
  pub instruction : Instruction

abbrev pub row : ℕ → Instruction → Row
row w i = record { word = w; instruction = i }

abbrev pub rows : List Row
rows =
    -- MOV R0, 5; NOT R1, R2; ADD R1, R2; SUB R1, 3; AND R2, 255; BIC R3, R4; OR R4, 1; XOR R5, R6
    row 0x00005 (Arithmetic O.Mov 0 (Literal 5))
    ∷ row 0x04C02 (Arithmetic O.Not 1 (Register 2))
    ∷ row 0x08C02 (Arithmetic O.Add 1 (Register 2))
    ∷ row 0x0C803 (Arithmetic O.Sub 1 (Literal 3))
    ∷ row 0x110FF (Arithmetic O.And 2 (Literal 255))
    ∷ row 0x15C04 (Arithmetic O.Bic 3 (Register 4))
    ∷ row 0x1A001 (Arithmetic O.Or 4 (Literal 1))
    ∷ row 0x1EC06 (Arithmetic O.Xor 5 (Register 6))
    -- MUL R0, 3; DIV R6, R7; ROR R7, 1023; MOV R3, H
    ∷ row 0x20003 (Arithmetic O.Mul 0 (Literal 3))
    ∷ row 0x27407 (Arithmetic O.Div 6 (Register 7))
    ∷ row 0x2BBFF (Arithmetic O.Ror 7 (Literal 1023))
    ∷ row 0x01C08 (MoveHigh 3)
    -- status 9; jump to R7; jump to R5 with PC + 1 to R6; RTI by R7
    ∷ row 0x2C009 (SetStatus 9)
    ∷ row 0x2C407 (Jump 7)
    ∷ row 0x2F605 (JumpAndLink 6 5)
    ∷ row 0x2C507 (ReturnFromInterrupt 7)
    -- LD R2, R1 + 255; ST R2, 1 (s = 7, base zero); branch always −1; branch never; call 4,095
    ∷ row 0x317F9 (Load 2 1 255)
    ∷ row 0x3500F (Store 2 7 1)
    ∷ row 0x3BBFF (Branch 14 1023)
    ∷ row 0x3BC00 (Branch 15 0)
    ∷ row 0x3CFFF (Call 4095)
    ∷ []

unfoldable pub RowsHold : List Row → Type 0
RowsHold [] = Unit {0}
RowsHold (r ∷ rs) =
    ((decode_of r.word ≡ Some r.instruction) × (encode_of r.instruction ≡ Some r.word)) × RowsHold rs
