-- The exact sum and difference of two signed words, plus 2^32: their 32-bit results and their flags.
-- By cases of the signs the offset number is a sum of naturals; overflow is a quotient of it by 2^32, carry one of the words' own sum.
--   off-sum, off-exact_difference   the offset numbers        sum_is, difference-is   the results
--   quotient-flag, overflow-is      the flags                 carry-out, carry-no_borrow   a result with its carry
--   difference-zero                 Z of SUB
use Rattle.std.proofs.Common.{◌≡◌, ℕ, zero, suc, ◌+◌, ◌-◌, ◌*◌, ◌/◌, ◌%◌, ◌^◌, ◌<◌, ◌≤◌, Bool, true, false, eqb, leb, ◌⊎◌, ℤ, pos, negsuc}
use Rattle.std.proofs.Common.{◌+ℤ◌, ◌-ℤ◌, neg_ℤ, sym, refl, ap, ◌∙◌, inl, inr, add-zero, arith, leb-false, leb-true}
use native.Mathlib.Nat.{add-mod}
use lib.Arith.{digits_div}
use lib.IntN.{+ℤ_comm}
use Rattle.trm_laws.proofs.Tests.{same_test}
use Rattle.trm_alu.specs.Word.{signed, biased, flag}
use Rattle.trm_alu.specs.Results.{exact_sum, exact_difference, sum, difference}
use Rattle.trm_alu.specs.Flags.{too_wide, carry_of_add, carry_of_sub}
use Rattle.trm_alu.proofs.Laws.Signed.{Sign, plus, minus, sign, OffBy, off-word, off-difference}

mod_same : (x y : ℕ) → (x ≡ y) ⊎ ((x + 2 ^ 32 ≡ y) ⊎ (x ≡ y + 2 ^ 32)) → x % 2 ^ 32 ≡ y % 2 ^ 32
mod_same x y (inl e) = omega arith
mod_same x y (inr (inl e)) = omega arith
mod_same x y (inr (inr e)) = omega arith

-- a number below 2^33 is its low 32 bits, and 2^32 more if t
low_and_bit_32 : (x : ℕ) (t : Bool) → x < 2 ^ 33 → (t ≡ true → 2 ^ 32 ≤ x) → (t ≡ false → x < 2 ^ 32)
    → x % 2 ^ 32 + flag t * 2 ^ 32 ≡ x
low_and_bit_32 x true h p q = omega (arith, p refl)
low_and_bit_32 x false h p q = omega (arith, q refl)

module _ (a b : ℕ) (ha : a < 2 ^ 32) (hb : b < 2 ^ 32) where
  pub off-sum : OffBy (2 ^ 32) (exact_sum a b) (biased b + biased a)
  unfolding exact_sum
  off-sum = go (sign b hb) (sign a ha)
    where
      go : Sign b → Sign a → OffBy (2 ^ 32) (signed b +ℤ signed a) (biased b + biased a)
      go (plus m hm i s p) (plus l hl j r q) = rw (s, r) (omega arith)
      go (plus m hm i s p) (minus l hl j r q) =
          rw (s, r)
          (rw (+ℤ_comm (pos m) (negsuc l))
          (off-difference (2 ^ 32) (suc l) m _ (omega arith) (omega arith) (omega arith)))
      go (minus m hm i s p) (plus l hl j r q) =
          rw (s, r) (off-difference (2 ^ 32) (suc m) l _ (omega arith) (omega arith) (omega arith))
      go (minus m hm i s p) (minus l hl j r q) = rw (s, r) (omega arith)

  pub off-exact_difference : OffBy (2 ^ 32) (exact_difference a b) (biased b + 2 ^ 32 - biased a)
  unfolding exact_difference
  off-exact_difference = go (sign b hb) (sign a ha)
    where
      go : Sign b → Sign a → OffBy (2 ^ 32) (signed b -ℤ signed a) (biased b + 2 ^ 32 - biased a)
      go (plus m hm i s p) (plus l hl j r q) =
          rw (s, r)
          (rw (+ℤ_comm (pos m) (neg_ℤ (pos l)))
          (off-difference (2 ^ 32) l m _ (omega arith) (omega arith) (omega arith)))
      go (plus m hm i s p) (minus l hl j r q) = rw (s, r) (omega arith)
      go (minus m hm i s p) (plus zero hl j r q) =
          rw (s, r) (off-difference (2 ^ 32) (suc m) 0 _ (omega arith) (omega arith) (omega arith))
      go (minus m hm i s p) (plus (suc l) hl j r q) = rw (s, r) (omega arith)
      go (minus m hm i s p) (minus l hl j r q) =
          rw (s, r) (off-difference (2 ^ 32) (suc m) (suc l) _ (omega arith) (omega arith) (omega arith))

  pub sum_is : sum a b ≡ (b + a) % 2 ^ 32
  unfolding sum
  sum_is =
      off-word 32 (2 ^ 32) (exact_sum a b) (biased b + biased a) (omega arith) off-sum
      ∙ ap (λ (x : ℕ). x % 2 ^ 32) (add-zero (biased b + biased a))
      ∙ sym (add-mod (b + 2 ^ 31) (a + 2 ^ 31) (2 ^ 32))
      ∙ omega arith

  pub difference-is : difference a b ≡ (b + (2 ^ 32 - a)) % 2 ^ 32
  unfolding difference
  difference-is =
      off-word 32 (2 ^ 32) (exact_difference a b) (biased b + 2 ^ 32 - biased a) (omega arith) off-exact_difference
      ∙ go (sign b hb) (sign a ha)
    where
      go : Sign b → Sign a → (biased b + 2 ^ 32 - biased a + 0) % 2 ^ 32 ≡ (b + (2 ^ 32 - a)) % 2 ^ 32
      go (plus m hm i s p) (plus l hl j r q) = mod_same _ _ (inl (omega arith))
      go (plus m hm i s p) (minus l hl j r q) = mod_same _ _ (inr (inr (omega arith)))
      go (minus m hm i s p) (plus l hl j r q) = mod_same _ _ (inr (inl (omega arith)))
      go (minus m hm i s p) (minus l hl j r q) = mod_same _ _ (inl (omega arith))

  pub carry-out : sum a b + carry_of_add a b * 2 ^ 32 ≡ b + a
  unfolding carry_of_add
  carry-out =
      rw sum_is
      (low_and_bit_32 (b + a) (leb (2 ^ 32) (b + a)) (omega arith) (leb-true (2 ^ 32) (b + a)) (leb-false (2 ^ 32) (b + a)))

  pub carry-no_borrow : difference a b + carry_of_sub a b * 2 ^ 32 ≡ b + (2 ^ 32 - a)
  unfolding carry_of_sub
  carry-no_borrow =
      rw difference-is
      (low_and_bit_32 (b + (2 ^ 32 - a)) (leb a b) (omega arith) (λ (t : leb a b ≡ true). omega (arith, leb-true a b t))
      (λ (t : leb a b ≡ false). omega (arith, leb-false a b t)))

  -- the difference is 0 for equal words only
  pub difference-zero : eqb (difference a b) 0 ≡ eqb a b
  difference-zero =
      rw difference-is
      (same_test ((b + (2 ^ 32 - a)) % 2 ^ 32) 0 a b (λ (e : (b + (2 ^ 32 - a)) % 2 ^ 32 ≡ 0). omega (arith, e))
      (λ (e : a ≡ b). omega (arith, e)))

-- the quotient of a number below twice the divisor is a comparison
pub quotient-flag : (d m : ℕ) → m < d + d → m / d ≡ flag (leb d m)
quotient-flag d m h = go (leb d m) refl
  where
    go : (t : Bool) → leb d m ≡ t → m / d ≡ flag t
    go true t =
        let p : d ≤ m = leb-true d m t in
        ap (λ (x : ℕ). x / d) (omega arith) ∙ digits_div 1 {m = d} {r = m - d} (omega arith)
    go false t =
        let p : m < d = leb-false d m t in
        ap (λ (x : ℕ). x / d) (omega arith) ∙ digits_div 0 {m = d} {r = m} p

pub overflow-is : (e : ℤ) (x : ℕ) → OffBy (2 ^ 32) e x → ((x + 2 ^ 31) / 2 ^ 32 + 1) % 2 ≡ flag (too_wide e)
unfolding too_wide
overflow-is (pos m) x h =
    let q : (x + 2 ^ 31) / 2 ^ 32 ≡ 1 + m / 2 ^ 31 = omega arith in omega arith ∙ quotient-flag (2 ^ 31) m (omega (arith, h.1))
overflow-is (negsuc m) x h =
    let q : (x + 2 ^ 31) / 2 ^ 32 + m / 2 ^ 31 ≡ 1 = omega arith in omega arith ∙ quotient-flag (2 ^ 31) m (omega (arith, h.1))
