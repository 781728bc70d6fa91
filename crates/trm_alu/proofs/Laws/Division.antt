-- The divider's two registers: before the first step, after k steps by a shift, and from one step to the next.
-- t is the top k bits of |B|; a step appends one bit to t, and one bit to the quotient of t by A.
--   above0-pos, -true                  when A is above 0       quotient_digits   q × a + r has quotient q, remainder r
--   magnitude, -le                     |B|                     rem_is, quot_is   the registers for A above 0
--   registers-none, div-start, div-closed, div-step            both 0 for A not above 0; before, after k, one step more
--   taken-lt                           how many bits t has
use Rattle.std.proofs.Common.{◌≡◌, ℕ, ◌+◌, ◌-◌, ◌*◌, ◌/◌, ◌%◌, ◌^◌, ◌<◌, ◌≤◌, Bool, true, false, cond, ltb, nat_abs, sym, refl, ap, ◌∙◌}
use Rattle.std.proofs.Common.{subst, ap₂, lt_of_le_of_lt, mod-lt, mul_assoc, mul_comm, add-mul, div-add-mod', div-le_self, arith, shr-shr}
use Rattle.std.proofs.Common.{shr_lt, ltb-false, ltb-true, lt-ltb}
use mathlib.Core.Bool.{and-eq-true_iff}
use native.Mathlib.Nat.{zero-mod, zero-div}
use lib.Arith.{digits_div, digits_mod}
use Rattle.trm_alu.specs.declared.inner.divide.Divider.{Divider}
use Rattle.trm_alu.specs.Word.{signed}
use Rattle.trm_alu.specs.Divide.{above0, taken, div_rem, div_quot, divider_at, div_trial, div_rest, div_step}
use Rattle.trm_alu.proofs.Laws.Modular.{mul_pow_next, shl_mod, parts-lt, shl-next}
use Rattle.trm_alu.proofs.Laws.Signed.{Sign, plus, minus, sign}

-- ---- A above 0

pub above0-pos : (a : ℕ) → 0 < a → a < 2 ^ 31 → above0 a ≡ true
unfolding above0
above0-pos a h l = rw (lt-ltb 0 a h, lt-ltb a (2 ^ 31) l)

pub above0_true : (a : ℕ) → above0 a ≡ true → (0 < a) × (a < 2 ^ 31)
unfolding above0
above0_true a e =
    let p = (and-eq-true_iff (ltb 0 a) (ltb a (2 ^ 31))).0 e in
    (ltb-true 0 a p.0, ltb-true a (2 ^ 31) p.1)

-- ---- digits

-- from the test in the code, which equals the one in the definition
pub above0-no : (t : Bool) (a : ℕ) → t ≡ above0 a → t ≡ false → above0 a ≡ false
above0-no t a e n = sym e ∙ n

pub above0-yes : (t : Bool) (a : ℕ) → t ≡ above0 a → t ≡ true → (0 < a) × (a < 2 ^ 31)
above0-yes t a e n = above0_true a (sym e ∙ n)

pub quotient_digits : (t q r a : ℕ) → t ≡ q * a + r → r < a → (t / a ≡ q) × (t % a ≡ r)
quotient_digits t q r a e h = (ap (λ (x : ℕ). x / a) e ∙ digits_div q h, ap (λ (x : ℕ). x % a) e ∙ digits_mod q h)

-- t has one bit more than floor(t/2); by cases of the trial subtraction
module _ (t a : ℕ) (ha : 0 < a) where
  digit-sum : t ≡ t / 2 / a * 2 * a + (t / 2 % a * 2 + t % 2)
  digit-sum =
      omega (arith, div-add-mod' (t / 2) a, mul_assoc (t / 2 / a) 2 a, mul_comm 2 a, mul_assoc (t / 2 / a) a 2)

  digit-zero : t / 2 % a * 2 + t % 2 < a → (t / a ≡ t / 2 / a * 2) × (t % a ≡ t / 2 % a * 2 + t % 2)
  digit-zero h = quotient_digits t (t / 2 / a * 2) (t / 2 % a * 2 + t % 2) a digit-sum h

  digit-one : a ≤ t / 2 % a * 2 + t % 2 → (t / a ≡ t / 2 / a * 2 + 1) × (t % a ≡ t / 2 % a * 2 + t % 2 - a)
  digit-one h =
      quotient_digits t (t / 2 / a * 2 + 1) (t / 2 % a * 2 + t % 2 - a) a
      (omega (arith, digit-sum, add-mul (t / 2 / a * 2) 1 a))
      (omega (arith, mod-lt (t / 2) ha))

-- ---- the magnitude

abbrev pub magnitude : ℕ → ℕ
magnitude b = nat_abs (signed b)

pub magnitude-le : (b : ℕ) → b < 2 ^ 32 → magnitude b ≤ 2 ^ 31
magnitude-le b h = go (sign b h)
  where
    go : Sign b → nat_abs (signed b) ≤ 2 ^ 31
    go (plus m hm i s p) = rw s (omega arith)
    go (minus m hm i s p) = rw s (omega arith)

-- ---- the registers

divider-same : {r s p q : ℕ} → r ≡ s → p ≡ q
    → ◌≡◌ {A = Divider} (record { rem = r; quot = p }) (record { rem = s; quot = q })
divider-same e f = λ i. record { rem = e i; quot = f i }

pub registers-none : (a b k : ℕ) → above0 a ≡ false → record { rem = 0; quot = 0 } ≡ divider_at a b k
unfolding div_rem div_quot
registers-none a b k e = divider-same (rw e) (rw e)

module _ (a b : ℕ) (ha : 0 < a) (ha' : a < 2 ^ 31) where
  pub rem_is : (k : ℕ) → div_rem a b k ≡ magnitude b / 2 ^ (32 - k) % a
  unfolding div_rem taken
  rem_is k = rw (above0-pos a ha ha')

  pub quot_is : (k : ℕ)
      → div_quot a b k ≡ magnitude b % 2 ^ (32 - k) * 2 ^ k + magnitude b / 2 ^ (32 - k) / a
  unfolding div_quot taken
  quot_is k = rw (above0-pos a ha ha')

  pub div-start : b < 2 ^ 32 → record { rem = 0; quot = magnitude b } ≡ divider_at a b 0
  div-start hb =
      let l = magnitude-le b hb in
      let d : magnitude b / 2 ^ 32 ≡ 0 = omega arith in
      let r = ap (λ (x : ℕ). x % a) d ∙ zero-mod a in
      let q = ap (λ (x : ℕ). x / a) d ∙ zero-div a in
      divider-same (sym (rem_is 0 ∙ r)) (omega (arith, quot_is 0))

  pub div-closed : (k m : ℕ) → k ≤ 32 → m ≡ magnitude b
      → record { rem = m / 2 ^ (32 - k) % a; quot = (m * 2 ^ k) % 2 ^ 64 % 2 ^ 32 + m / 2 ^ (32 - k) / a }
      ≡ divider_at a b k
  div-closed k m hk e =
      let s = shl_mod (magnitude b) (32 - k) k 32 (omega arith) in
      rw e (divider-same (sym (rem_is k)) (omega (arith, quot_is k)))

-- after k steps t has k bits
pub taken-lt : (b k : ℕ) → b < 2 ^ 32 → k ≤ 32 → magnitude b / 2 ^ (32 - k) < 2 ^ k
taken-lt b k hb hk =
    let s : 32 ≡ k + (32 - k) = omega arith in
    let l : magnitude b < 2 ^ 32 = omega (arith, magnitude-le b hb) in
    shr_lt k (32 - k) (subst (λ (x : ℕ). magnitude b < 2 ^ x) s l)

-- step k + 1 appends bit i = 31 − k of the magnitude; t is the magnitude down to that bit
module _ (a b k i : ℕ) (ha : 0 < a) (ha' : a < 2 ^ 31) (hb : b < 2 ^ 32) (hi : i + k ≡ 31) where
  t : ℕ
  t = magnitude b / 2 ^ i

  t-half : magnitude b / 2 ^ (32 - k) ≡ t / 2
  unfolding t
  t-half = ap (λ (x : ℕ). magnitude b / 2 ^ x) (omega arith) ∙ sym (shr-shr (magnitude b) i 1)

  t-half_lt : t / 2 < 2 ^ k
  t-half_lt = subst (λ (x : ℕ). x < 2 ^ k) t-half (taken-lt b k hb (omega arith))

  -- the quotient register without its top bit, the next one: the remaining bits of |B|, then the quotient so far
  rest : ℕ
  rest = magnitude b % 2 ^ i * 2 ^ k + t / 2 / a

  quot_digits : (div_quot a b k / 2 ^ 31 ≡ t % 2) × (div_quot a b k % 2 ^ 31 ≡ rest)
  unfolding t rest
  quot_digits =
      let s : 32 - k ≡ 1 + i = omega arith in
      quotient_digits (div_quot a b k) (t % 2) rest (2 ^ 31)
      (quot_is a b ha ha' k
      ∙ ap₂ (λ (x y : ℕ). magnitude b % 2 ^ x * 2 ^ k + y / a) s t-half
      ∙ omega (arith, shl-next (magnitude b) i k 31 hi))
      (parts-lt (magnitude b) (t / 2 / a) i k 31 hi (lt_of_le_of_lt (div-le_self (t / 2) a) t-half_lt))

  trial_is : div_trial (div_rem a b k) (div_quot a b k) ≡ t / 2 % a * 2 + t % 2
  unfolding div_trial
  trial_is =
      let r = rem_is a b ha ha' k ∙ ap (λ (x : ℕ). x % a) t-half in
      omega (arith, quot_digits.0, mod-lt (t / 2) ha)

  rest-is : div_rest (div_quot a b k) ≡ rest * 2
  unfolding div_rest
  rest-is = ap (λ (x : ℕ). x * 2) quot_digits.1

  next-rem : div_rem a b (k + 1) ≡ t % a
  unfolding t
  next-rem = rem_is a b ha ha' (k + 1) ∙ ap (λ (x : ℕ). magnitude b / 2 ^ x % a) (omega arith)

  next_quot : div_quot a b (k + 1) + t / 2 / a * 2 ≡ rest * 2 + t / a
  unfolding t rest
  next_quot =
      let e : div_quot a b (k + 1) ≡ magnitude b % 2 ^ i * 2 ^ (k + 1) + t / a =
      quot_is a b ha ha' (k + 1)
      ∙ ap (λ (x : ℕ). magnitude b % 2 ^ x * 2 ^ (k + 1) + magnitude b / 2 ^ x / a) (omega arith) in
      omega (arith, mul_pow_next (magnitude b % 2 ^ i) k (k + 1) refl)

  step-above : cond (ltb (div_trial (div_rem a b k) (div_quot a b k)) a)
      (record { rem = div_trial (div_rem a b k) (div_quot a b k); quot = div_rest (div_quot a b k) })
      (record { rem = div_trial (div_rem a b k) (div_quot a b k) - a; quot = div_rest (div_quot a b k) + 1 })
      ≡ divider_at a b (k + 1)
  step-above = rw (trial_is, rest-is) (go (ltb (t / 2 % a * 2 + t % 2) a) refl)
    where
      go : (s : Bool) → ltb (t / 2 % a * 2 + t % 2) a ≡ s
          → cond s
          (record { rem = t / 2 % a * 2 + t % 2; quot = rest * 2 })
          (record { rem = t / 2 % a * 2 + t % 2 - a; quot = rest * 2 + 1 })
          ≡ divider_at a b (k + 1)
      go true s =
          let d = digit-zero t a ha (ltb-true _ a s) in
          divider-same (sym (next-rem ∙ d.1)) (omega (arith, next_quot, d.0))
      go false s =
          let d = digit-one t a ha (ltb-false _ a s) in
          divider-same (sym (next-rem ∙ d.1)) (omega (arith, next_quot, d.0))

pub div-step : (a b k : ℕ) → b < 2 ^ 32 → k < 32 → div_step (div_rem a b k) (div_quot a b k) a ≡ divider_at a b (k + 1)
unfolding div_step
div-step a b k hb hk = go (above0 a) refl
  where
    go : (t : Bool) → above0 a ≡ t → div_step (div_rem a b k) (div_quot a b k) a ≡ divider_at a b (k + 1)
    go true e =
        let p = above0_true a e in
        rw e (step-above a b k (31 - k) p.0 p.1 hb (omega arith))
    go false e = rw e (registers-none a b (k + 1) e)
