-- An instruction as plain numbers, as C passes it: the number of its form, and a field for each part that some form has.
-- Paper: "What a programmer sees", the format of each operation; row 10, "a field outside its width".
--   fields_of i   the fields of an instruction          instruction_at f   the instruction of these fields
--   fields_fit f  they are those of an instruction, each within its width; a field that the form does not have is 0
use Rattle.std.specs.Prelude.{ℕ, Bool, ◌&&◌, List, [], ◌∷◌, eqb, get_or}
use Rattle.trm_codec.specs.declared.instruction.Operand.{Operand}
use Rattle.trm_codec.specs.declared.instruction.Operand.TheVariants.{Register, Literal}
use Rattle.trm_codec.specs.declared.instruction.Instruction.{Instruction}
use Rattle.trm_codec.specs.declared.instruction.Instruction.TheVariants.{Arithmetic, MoveHigh, SetStatus, Jump, JumpAndLink}
use Rattle.trm_codec.specs.declared.instruction.Instruction.TheVariants.{ReturnFromInterrupt, Load, Store, Branch, Call}
use Rattle.trm_codec.specs.Operations.{operation_at, number_of}
use Rattle.trm_codec.specs.Encode.{fits}
use Rattle.trm_codec.specs.declared.plain_fields.Fields.{Fields}

abbrev pub arithmetic_fields : ℕ → ℕ → Operand → Fields
arithmetic_fields op d (Register s) = record { form = 0; operation = op; condition = 0; d = d; s = s; value = 0 }
arithmetic_fields op d (Literal n) = record { form = 1; operation = op; condition = 0; d = d; s = 0; value = n }

abbrev pub plain_fields : ℕ → ℕ → ℕ → ℕ → Fields
plain_fields form d s value =
    record { form = form; operation = 0; condition = 0; d = d; s = s; value = value }

abbrev pub fields_of : Instruction → Fields
fields_of (Arithmetic o d x) = arithmetic_fields (number_of o) d x
fields_of (MoveHigh d) = plain_fields 2 d 0 0
fields_of (SetStatus status) = plain_fields 3 0 0 status
fields_of (Jump s) = plain_fields 4 0 s 0
fields_of (JumpAndLink d s) = plain_fields 5 d s 0
fields_of (ReturnFromInterrupt s) = plain_fields 6 0 s 0
fields_of (Load d s offset) = plain_fields 7 d s offset
fields_of (Store d s offset) = plain_fields 8 d s offset
fields_of (Branch condition offset) =
    record { form = 9; operation = 0; condition = condition; d = 0; s = 0; value = offset }
fields_of (Call offset) = plain_fields 10 0 0 offset

-- forms 0 to 9
abbrev pub forms : Fields → List Instruction
forms f =
    Arithmetic (operation_at f.operation) f.d (Register f.s)
    ∷ Arithmetic (operation_at f.operation) f.d (Literal f.value)
    ∷ MoveHigh f.d
    ∷ SetStatus f.value
    ∷ Jump f.s
    ∷ JumpAndLink f.d f.s
    ∷ ReturnFromInterrupt f.s
    ∷ Load f.d f.s f.value
    ∷ Store f.d f.s f.value
    ∷ Branch f.condition f.value
    ∷ []

-- the default, form 10, is a call
abbrev pub instruction_at : Fields → Instruction
instruction_at f = get_or (forms f) f.form (Call f.value)

abbrev pub same_fields : Fields → Fields → Bool
same_fields f g =
    eqb f.form g.form
    && (eqb f.operation g.operation
    && (eqb f.condition g.condition
    && (eqb f.d g.d && (eqb f.s g.s && eqb f.value g.value))))

-- false also for a form above 10, an operation above 10 and a nonzero field that the form does not have: then the fields are not those of
-- the instruction
unfoldable pub fields_fit : Fields → Bool
fields_fit f = same_fields f (fields_of (instruction_at f)) && fits (instruction_at f)
