-- The words of DIV are those of the quotient rounded down: Q × A + R = B, and R is 0 to A − 1. So are those of MUL, by 2^32.
-- The law holds for the signed quotient, by cases of the sign; the quotient fits 32 bits, so its word represents it.
use Rattle.std.proofs.Common.{◌≡◌, ℕ, zero, suc, ◌+◌, ◌-◌, ◌*◌, ◌/◌, ◌%◌, ◌^◌, ◌<◌, ◌≤◌, true, ℤ, pos, negsuc, ◌+ℤ◌, ◌*ℤ◌, neg_ℤ, refl, ap}
use Rattle.std.proofs.Common.{lt_of_le_of_lt, mod-lt, suc-mul, mul-le-mul, div-add-mod', div-le_self, arith, lit<, le-ltb, lt-ltb}
use Rattle.trm_alu.specs.Word.{signed, word}
use Rattle.trm_alu.specs.Multiply.{product, low_word, high_word}
use Rattle.trm_alu.specs.Divide.{above0, floor_div, floor_mod, quotient, remainder}
use Rattle.trm_alu.proofs.Laws.Signed.{Sign, plus, minus, sign}
use Rattle.trm_alu.proofs.Laws.Division.{above0_true}

floor_mod-lt : (z : ℤ) (m : ℕ) → 0 < m → floor_mod z m < m
unfolding floor_mod
floor_mod-lt (pos n) m h = mod-lt n h
floor_mod-lt (negsuc n) m h = omega arith

floor_div-floor_mod : (z : ℤ) (m : ℕ) → 0 < m → floor_div z m *ℤ pos m +ℤ pos (floor_mod z m) ≡ z
unfolding floor_div floor_mod
floor_div-floor_mod (pos n) m h = ap pos (div-add-mod' n m)
floor_div-floor_mod (negsuc n) m h =
    difference-negsuc (suc (n / m) * m) (m - suc (n % m)) n
    (omega (arith, suc-mul (n / m) m, div-add-mod' n m, mod-lt n h))
  where
    difference-negsuc : (x y n : ℕ) → x ≡ y + suc n → neg_ℤ (pos x) +ℤ pos y ≡ negsuc n
    difference-negsuc zero y n e = absurd (omega arith)
    difference-negsuc (suc x) y n e = rw (lt-ltb y (suc x) (omega arith)) (ap negsuc (omega arith))

-- z is from −h to h − 1
abbrev Within : ℕ → ℤ → Type 0
Within h (pos m) = m < h
Within h (negsuc m) = m < h

signed-within : (b : ℕ) → b < 2 ^ 32 → Within (2 ^ 31) (signed b)
signed-within b h = go (sign b h)
  where
    go : Sign b → Within (2 ^ 31) (signed b)
    go (plus m hm _ s _) = rw s hm
    go (minus m hm _ s _) = rw s hm

floor_div-within : (h : ℕ) (z : ℤ) (m : ℕ) → Within h z → Within h (floor_div z m)
unfolding floor_div
floor_div-within h (pos n) m l = lt_of_le_of_lt (div-le_self n m) l
floor_div-within h (negsuc n) m l = lt_of_le_of_lt (div-le_self n m) l

signed_word : (z : ℤ) → Within (2 ^ 31) z → signed (word 32 z) ≡ z
unfolding signed word
signed_word (pos m) h = let e : m % 2 ^ 32 ≡ m = omega arith in rw (e, lt-ltb m (2 ^ 31) h)
signed_word (negsuc m) h =
    let e : m % 2 ^ 32 ≡ m = omega arith in
    rw (e, le-ltb (2 ^ 32 - suc m) (2 ^ 31) (omega arith)) (ap negsuc (omega arith))

pub div-floor : (a b : ℕ) → b < 2 ^ 32 → above0 a ≡ true
    → (signed (quotient a b) *ℤ pos a +ℤ pos (remainder a b) ≡ signed b) × (remainder a b < a)
unfolding quotient remainder
div-floor a b hb e =
    let w = signed_word (floor_div (signed b) a) (floor_div-within (2 ^ 31) (signed b) a (signed-within b hb)) in
    let h = (above0_true a e).0 in
    (rw (e, w) (floor_div-floor_mod (signed b) a h), rw e (floor_mod-lt (signed b) a h))

-- the two words of a number within 64 bits are its quotient and remainder by 2^32
word-high : (z : ℤ) → Within (2 ^ 63) z → high_word z ≡ word 32 (floor_div z (2 ^ 32))
unfolding high_word word floor_div
word-high (pos n) h = omega arith
word-high (negsuc n) h = omega arith

word_low : (z : ℤ) → low_word z ≡ floor_mod z (2 ^ 32)
unfolding low_word word floor_mod
word_low (pos n) = refl
word_low (negsuc n) = refl

quotient-within : (z : ℤ) → Within (2 ^ 63) z → Within (2 ^ 31) (floor_div z (2 ^ 32))
unfolding floor_div
quotient-within (pos n) h = omega arith
quotient-within (negsuc n) h = omega arith

negation-within : (h x : ℕ) → 0 < h → x ≤ h → Within h (neg_ℤ (pos x))
negation-within h zero hp hx = hp
negation-within h (suc x) hp hx = hx

-- each factor is at most 2^31 in magnitude, so the product is within 64 bits
product-within : (a b : ℕ) → a < 2 ^ 32 → b < 2 ^ 32 → Within (2 ^ 63) (product a b)
unfolding product
product-within a b ha hb = go (sign b hb) (sign a ha)
  where
    small : (x y : ℕ) → x ≤ 2 ^ 31 → y ≤ 2 ^ 31 → x * y < 2 ^ 63
    small x y hx hy = omega (arith, mul-le-mul hx hy)

    go : Sign b → Sign a → Within (2 ^ 63) (signed b *ℤ signed a)
    go (plus m hm _ s _) (plus l hl _ t _) = rw (s, t) (small m l (omega arith) (omega arith))
    go (plus m hm _ s _) (minus l hl _ t _) =
        let p = small m (suc l) (omega arith) (omega arith) in
        rw (s, t) (negation-within (2 ^ 63) (m * suc l) (omega arith) (omega arith))
    go (minus m hm _ s _) (plus l hl _ t _) =
        let p = small (suc m) l (omega arith) (omega arith) in
        rw (s, t) (negation-within (2 ^ 63) (suc m * l) (omega arith) (omega arith))
    go (minus m hm _ s _) (minus l hl _ t _) = rw (s, t) (small (suc m) (suc l) (omega arith) (omega arith))

pub mul_exact : (a b : ℕ) → a < 2 ^ 32 → b < 2 ^ 32
    → signed (high_word (product a b)) *ℤ pos (2 ^ 32) +ℤ pos (low_word (product a b)) ≡ product a b
mul_exact a b ha hb =
    let z = product a b in
    let w = product-within a b ha hb in
    rw (word-high z w, word_low z, signed_word (floor_div z (2 ^ 32)) (quotient-within z w)) (floor_div-floor_mod z (2 ^ 32) (lit< tt))
