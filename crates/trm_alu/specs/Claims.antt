-- Claims about the arithmetic beyond the contracts: one statement per field.
-- Paper: "Clock by clock" (the registers after k steps), "9 DIV", "Bench cases"; request A2 (carry). Proved in proofs/Theorems.antt.
use Rattle.std.specs.Prelude.{◌≡◌, ℕ, ◌+◌, ◌-◌, ◌*◌, ◌/◌, ◌%◌, ◌^◌, ◌<◌, true, pos, ◌+ℤ◌, ◌*ℤ◌, ◌==◌}
use Rattle.trm_alu.specs.Word.{signed}
use Rattle.trm_alu.specs.Multiply.{product, low_word, high_word, mul_after, mul_step}
use Rattle.trm_alu.specs.Divide.{above0, quotient, remainder, div_rem, div_quot, divider_at, div_step}
use Rattle.trm_alu.specs.Results.{sum, difference}
use Rattle.trm_alu.specs.Flags.{carry_of_add, carry_of_sub}
use Rattle.trm_alu.specs.Bench.{rows, AllHold}

-- Before the first step the multiplier's register is A without sign.
abbrev pub MulStarts : Type 0
MulStarts = (a b : ℕ) → a < 2 ^ 32 → b < 2 ^ 32 → mul_after a b 0 ≡ a

-- The step takes the register after k steps to that after k + 1, k = 0 to 31; the 32nd is the last.
abbrev pub MulSteps : Type 0
MulSteps =
    (a b k : ℕ) → a < 2 ^ 32 → b < 2 ^ 32 → k < 32 → mul_step (mul_after a b k) b (k == 31) ≡ mul_after a b (k + 1)

-- After 32 steps the register's two words are those of the product.
abbrev pub MulEnds : Type 0
MulEnds =
    (a b : ℕ) → (mul_after a b 32 % 2 ^ 32 ≡ low_word (product a b)) × (mul_after a b 32 / 2 ^ 32 ≡ high_word (product a b))

-- The two words together, the high one signed, are the exact signed product.
abbrev pub MulExact : Type 0
MulExact =
    (a b : ℕ) → a < 2 ^ 32 → b < 2 ^ 32
    → signed (high_word (product a b)) *ℤ pos (2 ^ 32) +ℤ pos (low_word (product a b)) ≡ product a b

-- The step takes the divider's registers after k steps to those after k + 1, k = 0 to 31, whatever A is.
abbrev pub DivSteps : Type 0
DivSteps =
    (a b k : ℕ) → b < 2 ^ 32 → k < 32 → div_step (div_rem a b k) (div_quot a b k) a ≡ divider_at a b (k + 1)

-- For A above 0 the words of DIV are the floor quotient and remainder: Q × A + R = B, and R is 0 to A − 1.
abbrev pub DivFloors : Type 0
DivFloors =
    (a b : ℕ) → b < 2 ^ 32 → above0 a ≡ true
    → (signed (quotient a b) *ℤ pos a +ℤ pos (remainder a b) ≡ signed b) × (remainder a b < a)

-- A2: "the carry out of bit 31": the result of ADD and C as bit 32 above it are the sum of the two words without sign.
abbrev pub AddCarries : Type 0
AddCarries = (a b : ℕ) → a < 2 ^ 32 → b < 2 ^ 32 → sum a b + carry_of_add a b * 2 ^ 32 ≡ b + a

-- A2: the result of SUB and C as bit 32 above it are B plus 2^32 − A, without sign: C is 0 when SUB borrows.
abbrev pub SubCarries : Type 0
SubCarries = (a b : ℕ) → a < 2 ^ 32 → b < 2 ^ 32 → difference a b + carry_of_sub a b * 2 ^ 32 ≡ b + (2 ^ 32 - a)

-- Every row of the table of bench cases holds.
abbrev pub BenchHolds : Type 0
BenchHolds = AllHold rows

pub record Claims : Type 0 where
  pub mul_starts : MulStarts
  pub mul_steps : MulSteps
  pub mul_ends : MulEnds
  pub mul_exact : MulExact
  pub div_steps : DivSteps
  pub div_floors : DivFloors
  pub add_carries : AddCarries
  pub sub_carries : SubCarries
  pub bench_holds : BenchHolds
