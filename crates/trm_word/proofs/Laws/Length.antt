-- A legal store length is a power of two from 64 to 32,768: its bits have one 1, and a remainder by it is a mask.
-- By cases on the list of the ten lengths, and by the bits of a number with one 1.
use Rattle.std.proofs.Common.{◌≡◌, ℕ, zero, suc, ◌+◌, ◌-◌, ◌/◌, ◌%◌, ◌^◌, ◌<◌, ◌≤◌, Bool, true, false, ◌||◌, eqb, List, [], ◌∷◌, refl}
use Rattle.std.proofs.Common.{arith, count_ones, pow_pos, eqb-true, ap, sym, eq-eqb, ◌∙◌, rules}
use Rattle.std.proofs.lemmas.Nat.{zero_from_ones, pow_below}
use mathlib.Core.Bool.{false≢true}
use lib.Bits.{bit_and, and_mask}
use lib.Count.{ones, ones_step, ones-le}
use Rattle.trm_word.specs.Address.{is_power, store_length_exponents, store_length_ok}

pub data Power (n : ℕ) : Type 0 where
  power : (k : ℕ) → n ≡ 2 ^ k → Power n

pub power_pos : {n : ℕ} → Power n → 0 < n
power_pos (power k e) = rw e (pow_pos k)

pub power-mask : (a : ℕ) {n : ℕ} → Power n → bit_and a (n - 1) ≡ a % n
power-mask a (power k e) = rw e (and_mask a k)

by_lowest : (n r : ℕ) → n % 2 ≡ r → count_ones n ≡ 1 → (count_ones (n / 2) ≡ 1 → Power (n / 2)) → Power n
by_lowest n zero e h rest = go (rest (omega (arith, ones_step n)))
  where
    go : Power (n / 2) → Power n
    go (power k f) = power (suc k) (omega arith)
by_lowest n (suc r) e h rest = power 0 (omega (arith, zero_from_ones (n / 2) (omega (arith, ones_step n))))

one_bit : (d n : ℕ) → n ≤ d → count_ones n ≡ 1 → Power n
one_bit zero n h e = absurd (omega (arith, ones-le 0 n (omega arith)))
one_bit (suc d) n h e = by_lowest n (n % 2) refl e (one_bit d (n / 2) (omega arith))

listed : (j : ℕ) → j < 10 → store_length_ok (2 ^ (6 + j)) ≡ true
unfolding store_length_ok
listed zero h = refl
listed (suc zero) h = refl
listed (suc (suc zero)) h = refl
listed (suc (suc (suc zero))) h = refl
listed (suc (suc (suc (suc zero)))) h = refl
listed (suc (suc (suc (suc (suc zero))))) h = refl
listed (suc (suc (suc (suc (suc (suc zero)))))) h = refl
listed (suc (suc (suc (suc (suc (suc (suc zero))))))) h = refl
listed (suc (suc (suc (suc (suc (suc (suc (suc zero)))))))) h = refl
listed (suc (suc (suc (suc (suc (suc (suc (suc (suc zero))))))))) h = refl
listed (suc (suc (suc (suc (suc (suc (suc (suc (suc (suc j)))))))))) h = absurd (omega arith)

-- a power of two from 64 to 32,768 is a legal length
legal : (n : ℕ) → Power n → 64 ≤ n → n ≤ 32768 → store_length_ok n ≡ true
legal n (power k e) least most =
    let low : 6 ≤ k = grind (arith, pow_below k 6) in
    let high : k < 16 = grind (arith, pow_below 15 k) in
    let place : k ≡ 6 + (k - 6) = omega arith in
    let length : n ≡ 2 ^ (6 + (k - 6)) = e ∙ ap (λ i. 2 ^ i) place in
    rw length (listed (k - 6) (omega arith))

-- what the code tests of a length
abbrev LengthTest : ℕ → Type 0
LengthTest n = (64 ≤ n) × (n ≤ 32768) × (count_ones n ≡ 1)

abbrev EachPower : (ℕ → Type 0) → List ℕ → Type 0
EachPower P [] = Unit {0}
EachPower P (k ∷ ks) = P (2 ^ k) × EachPower P ks

each : (P : ℕ → Type 0) (n : ℕ) (ks : List ℕ) → EachPower P ks → is_power n ks ≡ true → P n
each P n [] a h = absurd (false≢true h)
each P n (k ∷ ks) a h = go (eqb n (2 ^ k)) refl h (each P n ks a.1)
  where
    go : (t : Bool) → eqb n (2 ^ k) ≡ t → (t || is_power n ks) ≡ true → (is_power n ks ≡ true → P n) → P n
    go true e h more = rw (eqb-true n (2 ^ k) e) a.0
    go false e h more = more h

test_from_ok : (n : ℕ) → store_length_ok n ≡ true → LengthTest n
unfolding store_length_ok ones
test_from_ok n h =
    each LengthTest n store_length_exponents (search rules) h

ok_from_test : (n : ℕ) → LengthTest n → store_length_ok n ≡ true
ok_from_test n h = legal n (one_bit n n (omega arith) h.2) h.0 h.1

-- no length below 64 or above 32,768 is legal, and between them those whose bits have one 1
refused : (n : ℕ) → (t : Bool) → store_length_ok n ≡ t → (LengthTest n → ⊥) → store_length_ok n ≡ false
refused n true e fails = absurd (fails (test_from_ok n e))
refused n false e fails = e

pub below : (n : ℕ) → n < 64 → store_length_ok n ≡ false
below n h = refused n (store_length_ok n) refl (λ t. let low = t.0 in omega arith)

pub above : (n : ℕ) → 32768 < n → store_length_ok n ≡ false
above n h = refused n (store_length_ok n) refl (λ t. let high = t.1 in omega arith)

pub inside : (n : ℕ) → 64 ≤ n → n ≤ 32768 → store_length_ok n ≡ eqb (count_ones n) 1
inside n least most = go (eqb (count_ones n) 1) refl (store_length_ok n) refl
  where
    go : (s : Bool) → eqb (count_ones n) 1 ≡ s → (t : Bool) → store_length_ok n ≡ t → t ≡ s
    go true d t e = sym e ∙ ok_from_test n (least, most, eqb-true (count_ones n) 1 d)
    go false d true e = sym (eq-eqb (count_ones n) 1 (test_from_ok n e).2) ∙ d
    go false d false e = refl

pub length-power : (n : ℕ) → store_length_ok n ≡ true → Power n
length-power n h = one_bit n n (omega arith) (test_from_ok n h).2
