-- Numbers and operations are inverse.
-- By the eleven cases.
use mathlib.Core.Path.{◌≡◌, refl}
use Prim.Native.Nat.{ℕ, zero, suc, ◌<◌}
use native.Mathlib.Omega.{arith}
use Rattle.trm_codec.specs.declared.instruction.Operation.{Operation}
use Rattle.trm_codec.specs.declared.instruction.Operation.TheVariants.{Mov, Not, Add, Sub, And, Bic, Or, Xor, Mul, Div, Ror}
use Rattle.trm_codec.specs.Operations.{operation_at, number_of}

pub number_at : (n : ℕ) → n < 11 → number_of (operation_at n) ≡ n
number_at zero h = refl
number_at (suc zero) h = refl
number_at (suc (suc zero)) h = refl
number_at (suc (suc (suc zero))) h = refl
number_at (suc (suc (suc (suc zero)))) h = refl
number_at (suc (suc (suc (suc (suc zero))))) h = refl
number_at (suc (suc (suc (suc (suc (suc zero)))))) h = refl
number_at (suc (suc (suc (suc (suc (suc (suc zero))))))) h = refl
number_at (suc (suc (suc (suc (suc (suc (suc (suc zero)))))))) h = refl
number_at (suc (suc (suc (suc (suc (suc (suc (suc (suc zero))))))))) h = refl
number_at (suc (suc (suc (suc (suc (suc (suc (suc (suc (suc n)))))))))) h = omega arith

pub at-number : (o : Operation) → operation_at (number_of o) ≡ o
at-number Mov = refl
at-number Not = refl
at-number Add = refl
at-number Sub = refl
at-number And = refl
at-number Bic = refl
at-number Or = refl
at-number Xor = refl
at-number Mul = refl
at-number Div = refl
at-number Ror = refl

pub number_lt : (o : Operation) → number_of o < 11
number_lt Mov = omega arith
number_lt Not = omega arith
number_lt Add = omega arith
number_lt Sub = omega arith
number_lt And = omega arith
number_lt Bic = omega arith
number_lt Or = omega arith
number_lt Xor = omega arith
number_lt Mul = omega arith
number_lt Div = omega arith
number_lt Ror = omega arith
