-- The operations 0–10 and their numbers.
-- Paper: "0 MOV .. 1 NOT A. 2 ADD. 3 SUB, B−A. 4 AND. 5 BIC .. 6 OR. 7 XOR. 10 ROR ..; 8 MUL ..; 9 DIV".
--   operation_at n   the operation of number n, 0 to 10       number_of o   the number of operation o
use Rattle.std.specs.Prelude.{ℕ, List, [], ◌∷◌, get_or}
use Rattle.trm_codec.specs.declared.instruction.Operation.{Operation}
use Rattle.trm_codec.specs.declared.instruction.Operation.TheVariants.{Mov, Not, Add, Sub, And, Bic, Or, Xor, Mul, Div, Ror}

-- 0 to 9, in the order of their numbers
abbrev pub operations : List Operation
operations = Mov ∷ Not ∷ Add ∷ Sub ∷ And ∷ Bic ∷ Or ∷ Xor ∷ Mul ∷ Div ∷ []

-- 10 is ROR; n is at most 10
abbrev pub operation_at : ℕ → Operation
operation_at n = get_or operations n Ror

abbrev pub number_of : Operation → ℕ
number_of Mov = 0
number_of Not = 1
number_of Add = 2
number_of Sub = 3
number_of And = 4
number_of Bic = 5
number_of Or = 6
number_of Xor = 7
number_of Mul = 8
number_of Div = 9
number_of Ror = 10
