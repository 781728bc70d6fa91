-- Signed numbers as naturals: a word's signed number plus 2^31, a longer number plus its own offset.
-- `Sign` gives a word's sign with linear equations; `OffBy h z n` says in naturals that n is z + h.
--   Sign, sign           a word by its sign                OffBy h z n   n is z + h, and z is from −h to h − 1
--   word_lt, off-word    a number's word: its bound, and its value from the offset number
--   off-difference, off-negation, off-multiple, off-times   the offsets of y − x, −z, B × t + y, B × t
use Rattle.std.proofs.Common.{◌≡◌, ℕ, zero, suc, ◌+◌, ◌-◌, ◌*◌, ◌%◌, ◌^◌, ◌<◌, ◌≤◌, Bool, true, false, ltb, ℤ, pos, negsuc, ◌+ℤ◌, ◌*ℤ◌}
use Rattle.std.proofs.Common.{neg_ℤ, sym, refl, ap, ◌∙◌, subst, mul-le-mul_right, mod-lt, mod-eq_of_lt, add-mul, arith, pow_pos, ltb-false}
use Rattle.std.proofs.Common.{ltb-true}
use native.Mathlib.Nat.{le-pred_of_lt, add-mod_right}
use lib.IntN.{+ℤ_idr}
use Rattle.trm_alu.specs.Word.{signed, word, biased}

pub data Sign (n : ℕ) : Type 0 where
  plus : (m : ℕ) → m < 2 ^ 31 → m ≡ n → signed n ≡ pos m → biased n ≡ m + 2 ^ 31 → Sign n
  minus : (m : ℕ) → m < 2 ^ 31 → m + suc n ≡ 2 ^ 32 → signed n ≡ negsuc m → biased n + suc m ≡ 2 ^ 31 → Sign n

pub sign : (n : ℕ) → n < 2 ^ 32 → Sign n
unfolding signed
sign n h = go (ltb n (2 ^ 31)) refl
  where
    go : (t : Bool) → ltb n (2 ^ 31) ≡ t → Sign n
    go true e = let l = ltb-true n (2 ^ 31) e in plus n l refl (rw e) (omega arith)
    go false e =
        let l = ltb-false n (2 ^ 31) e in
        minus (2 ^ 32 - suc n) (omega arith) (omega arith) (rw e) (omega arith)

abbrev pub OffBy : ℕ → ℤ → ℕ → Type 0
OffBy h (pos m) n = (n ≡ m + h) × (m < h)
OffBy h (negsuc m) n = (n + suc m ≡ h) × (m < h)

pub word_lt : (k : ℕ) (z : ℤ) → word k z < 2 ^ k
unfolding word
word_lt k (pos n) = mod-lt n (pow_pos k)
word_lt k (negsuc n) = omega (arith, pow_pos k)

pub off-word : (k h : ℕ) (z : ℤ) (n : ℕ) → h ≤ 2 ^ k → OffBy h z n → word k z ≡ (n + (2 ^ k - h)) % 2 ^ k
unfolding word
off-word k h (pos m) n l o =
    let e : n + (2 ^ k - h) ≡ m + 2 ^ k = omega arith in
    sym (ap (λ (x : ℕ). x % 2 ^ k) e ∙ add-mod_right m (2 ^ k))
off-word k h (negsuc m) n l o =
    let s : m < 2 ^ k = omega arith in
    let d : n + (2 ^ k - h) < 2 ^ k = omega arith in
    rw (mod-eq_of_lt s, mod-eq_of_lt d) (omega arith)

pub off-difference : (h x y n : ℕ) → n + x ≡ y + h → y < h → x ≤ h → OffBy h (neg_ℤ (pos x) +ℤ pos y) n
off-difference h zero y n e hy hx = omega arith
off-difference h (suc x) y n e hy hx = go (ltb y (suc x)) refl
  where
    go : (t : Bool) → ltb y (suc x) ≡ t → OffBy h (neg_ℤ (pos (suc x)) +ℤ pos y) n
    go true t = let l = ltb-true y (suc x) t in rw t (omega arith)
    go false t = let l = ltb-false y (suc x) t in rw t (omega arith)

pub off-negation : (h : ℕ) (z : ℤ) (n m : ℕ) → OffBy h z n → 0 < n → m + n ≡ h + h → OffBy h (neg_ℤ z) m
off-negation h (pos zero) n m o l e = omega arith
off-negation h (pos (suc x)) n m o l e = omega arith
off-negation h (negsuc x) n m o l e = omega arith

pub off-multiple : (b t y n : ℕ) → b < 2 ^ 32 → t + y < 2 ^ 32 → n + 2 ^ 31 * t ≡ biased b * t + y + 2 ^ 63
    → OffBy (2 ^ 63) (signed b *ℤ pos t +ℤ pos y) n
off-multiple b t y n hb ht e = go (sign b hb)
  where
    go : Sign b → OffBy (2 ^ 63) (signed b *ℤ pos t +ℤ pos y) n
    go (plus m hm i s p) =
        let q = mul-le-mul_right t (le-pred_of_lt hm) in
        rw s (omega (arith, ap (λ (x : ℕ). x * t) p, add-mul m (2 ^ 31) t))
    go (minus m hm i s p) =
        rw s
        (off-difference (2 ^ 63) (suc m * t) y n
        (omega (arith, ap (λ (x : ℕ). x * t) p, add-mul (biased b) (suc m) t))
        (omega arith)
        (omega (arith, mul-le-mul_right t hm)))

pub off-times : (b t n : ℕ) → b < 2 ^ 32 → t < 2 ^ 32 → n + 2 ^ 31 * t ≡ biased b * t + 2 ^ 63
    → OffBy (2 ^ 63) (signed b *ℤ pos t) n
off-times b t n hb ht e =
    subst (λ (z : ℤ). OffBy (2 ^ 63) z n) (+ℤ_idr (signed b *ℤ pos t))
    (off-multiple b t 0 n hb (omega arith) (omega arith))
