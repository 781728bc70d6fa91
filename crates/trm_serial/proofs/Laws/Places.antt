-- Where a clock stands in its frame, and what eight samples make.
-- Idea: a place and a clock of it are a quotient and a remainder; of eight shifts each is one computed case.
use Prim.Native.Nat.{ℕ, zero, suc, ◌+◌, ◌-◌, ◌*◌, ◌/◌, ◌%◌, ◌^◌, ◌≤◌, ◌<◌}
use mathlib.Core.Path.{◌≡◌}
use lib.ListN.{get_or}
use native.Mathlib.Omega.{arith}
use native.Mathlib.Nat.{mul-add-div, mul-add-mod_self_left, mod-eq_of_lt, div-eq_of_lt, div-add-mod, mul-le-mul_left}
use native.Mathlib.Decide.{dec_le}
use Rattle.trm_serial.specs.Serial.{levels}

-- j data samples are in the register, b being sent
abbrev pub Holds : ℕ → ℕ → ℕ → Type 0
Holds j bits b = bits / 2 ^ (8 - j) ≡ b % 2 ^ j

pub one_more : (j bits b : ℕ) → j < 8 → bits < 256 → Holds j bits b → Holds (suc j) (bits / 2 + 128 * get_or (levels b) (suc j) 1) b
one_more zero bits b l f h = omega arith
one_more (suc zero) bits b l f h = omega arith
one_more (suc (suc zero)) bits b l f h = omega arith
one_more (suc (suc (suc zero))) bits b l f h = omega arith
one_more (suc (suc (suc (suc zero)))) bits b l f h = omega arith
one_more (suc (suc (suc (suc (suc zero))))) bits b l f h = omega arith
one_more (suc (suc (suc (suc (suc (suc zero)))))) bits b l f h = omega arith
one_more (suc (suc (suc (suc (suc (suc (suc zero))))))) bits b l f h = omega arith
one_more (suc (suc (suc (suc (suc (suc (suc (suc j)))))))) bits b l f h = absurd (omega arith)

-- after eight samples the register is the byte
pub complete : (bits b : ℕ) → b < 256 → Holds 8 bits b → bits ≡ b
complete bits b f h = omega arith

-- a level is low or high
pub level-bit : (b i : ℕ) → get_or (levels b) i 1 ≤ 1
level-bit b zero = omega arith
level-bit b (suc zero) = omega arith
level-bit b (suc (suc zero)) = omega arith
level-bit b (suc (suc (suc zero))) = omega arith
level-bit b (suc (suc (suc (suc zero)))) = omega arith
level-bit b (suc (suc (suc (suc (suc zero))))) = omega arith
level-bit b (suc (suc (suc (suc (suc (suc zero)))))) = omega arith
level-bit b (suc (suc (suc (suc (suc (suc (suc zero))))))) = omega arith
level-bit b (suc (suc (suc (suc (suc (suc (suc (suc zero)))))))) = omega arith
level-bit b (suc (suc (suc (suc (suc (suc (suc (suc (suc zero))))))))) = omega arith
level-bit b (suc (suc (suc (suc (suc (suc (suc (suc (suc (suc i)))))))))) = omega arith

-- the clock that samples place p, and the place of a clock that samples
module _ (P S k p : ℕ) (low : 1 ≤ S) (high : S ≤ P) where
  pub place_is : k + 1 ≡ P * p + S → k / P ≡ p
  place_is e =
      let k-is : k ≡ P * p + (S - 1) = omega arith in
      let none : (S - 1) / P ≡ 0 = div-eq_of_lt (omega arith) in
      let q : (P * p + (S - 1)) / P ≡ p + (S - 1) / P = mul-add-div (omega arith) p (S - 1) in
      rw k-is (omega arith)

  pub sample-is : k + 1 ≡ P * p + S → k % P + 1 ≡ S
  sample-is e =
      let k-is : k ≡ P * p + (S - 1) = omega arith in
      let m : (P * p + (S - 1)) % P ≡ (S - 1) % P = mul-add-mod_self_left P p (S - 1) in
      let n : (S - 1) % P ≡ S - 1 = mod-eq_of_lt (omega arith) in
      rw k-is (omega arith)

pub sampled-at : (P S k : ℕ) → k % P + 1 ≡ S → k + 1 ≡ P * (k / P) + S
sampled-at P S k e = let d = div-add-mod k P in omega arith

-- the samples before place j + 1 are j: no other data place is sampled there
pub no_other : (P S k j p : ℕ) → 1 ≤ P → k + 1 ≡ P * p + S → k < P * suc j + S → (1 ≤ j → P * j + S ≤ k) → 1 ≤ p → p ≡ suc j
no_other P S k j p one e below above pos = go (dec_le p j)
  where
    go : Dec (p ≤ j) → p ≡ suc j
    go (yes l) = absurd (let m = mul-le-mul_left P l in let a = above (omega arith) in omega arith)
    go (no g) = go' (dec_le p (suc j))
      where
        go' : Dec (p ≤ suc j) → p ≡ suc j
        go' (yes l) = omega (arith, g)
        go' (no h) = absurd (let w : suc (suc j) ≤ p = omega (arith, h) in let m = mul-le-mul_left P w in omega arith)
