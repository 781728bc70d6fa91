-- Words and the signed numbers that they represent, in two's complement.
-- Paper: registers and operands are 32-bit words; MUL, DIV, ADD and SUB take them as signed, C of ADD and SUB without sign (A2).
--   signed n   the signed number of the 32-bit word n
--   word k z   the low k bits of the signed number z
--   biased n   the signed number of the word n, plus 2^31: its representation in the code
--   flag t     1 if t holds, else 0
use Rattle.std.specs.Prelude.{ℕ, suc, ◌+◌, ◌-◌, ◌%◌, ◌^◌, Bool, cond, ℤ, pos, negsuc, nat_lt}

-- from 2^31 on a word represents n − 2^32, which is −(2^32 − n); `negsuc m` is −(m + 1). n is below 2^32.
unfoldable pub signed : ℕ → ℤ
signed n = cond (nat_lt n (2 ^ 31)) (pos n) (negsuc (2 ^ 32 - suc n))

-- the remainder mod 2^k, from 0 to 2^k − 1; the difference cannot truncate, since a remainder is below 2^k
unfoldable pub word : ℕ → ℤ → ℕ
word k (pos n) = n % 2 ^ k
word k (negsuc n) = 2 ^ k - suc (n % 2 ^ k)

abbrev pub biased : ℕ → ℕ
biased n = (n + 2 ^ 31) % 2 ^ 32

-- flags are numbers in the machine record
abbrev pub flag : Bool → ℕ
flag t = cond t 1 0
