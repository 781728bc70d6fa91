-- The multiplier's register in closed form, as a natural: B × T + Y, and B × A, each plus 2^63.
-- T = (A mod 2^k) × 2^(32−k) and Y = floor(A/2^k) sum to less than 2^32; the top bit of A subtracts B × 2^31.
--   top a k, top-fits     T, and its bound                     upper-half-is   B × 2^31 as a 64-bit word
--   partial-word, known   the register for k below 32 from its offset number, and back
--   product-word          the register from 32 on              mul-start, mul-end   the first value; the words of the last
use Rattle.std.proofs.Common.{◌≡◌, ℕ, suc, ◌+◌, ◌-◌, ◌*◌, ◌/◌, ◌%◌, ◌^◌, ◌<◌, ◌≤◌, Bool, cond, ℤ, pos, negsuc, ◌*ℤ◌, sym, refl, ap, ◌∙◌}
use Rattle.std.proofs.Common.{subst, mul-le-mul_right, mul-zero, mul-add, div-one, arith, lit<, shr_lt, le-ltb, lt-ltb}
use native.Mathlib.Nat.{mod-one}
use lib.IntN.{*ℤ-negsuc}
use Rattle.trm_alu.specs.Word.{signed, word, biased}
use Rattle.trm_alu.specs.Multiply.{product, low_word, high_word, partial_product, mul_after, upper_half}
use Rattle.trm_alu.proofs.Laws.Modular.{parts-lt}
use Rattle.trm_alu.proofs.Laws.Signed.{Sign, plus, minus, sign, OffBy, off-word}
use Rattle.trm_alu.proofs.Laws.Signed.{off-negation, off-multiple, off-times}

abbrev pub top : ℕ → ℕ → ℕ
top a k = a % 2 ^ k * 2 ^ (32 - k)

module _ (a b k : ℕ) (ha : a < 2 ^ 32) (hb : b < 2 ^ 32) (hk : k < 32) where
  pub top-fits : top a k + a / 2 ^ k < 2 ^ 32
  top-fits =
      let s : 32 ≡ 32 - k + k = omega arith in
      parts-lt a (a / 2 ^ k) k (32 - k) 32 (omega arith) (shr_lt (32 - k) k (subst (λ (x : ℕ). a < 2 ^ x) s ha))

  off-partial : (n : ℕ) → n + 2 ^ 31 * top a k ≡ biased b * top a k + a / 2 ^ k + 2 ^ 63
      → OffBy (2 ^ 63) (partial_product a b k) n
  unfolding partial_product
  off-partial n e = off-multiple b (top a k) (a / 2 ^ k) n hb top-fits e

  pub partial-word : (n : ℕ) → n + 2 ^ 31 * top a k ≡ biased b * top a k + a / 2 ^ k + 2 ^ 63
      → mul_after a b k ≡ (n + 2 ^ 63) % 2 ^ 64
  unfolding mul_after
  partial-word n e =
      ap (λ (t : Bool). word 64 (cond t (partial_product a b k) (product a b))) (lt-ltb k 32 hk)
      ∙ off-word 64 (2 ^ 63) (partial_product a b k) n (omega arith) (off-partial n e)

  pub known : (n : ℕ) → n ≡ (mul_after a b k + 2 ^ 63) % 2 ^ 64
      → n + 2 ^ 31 * top a k ≡ biased b * top a k + a / 2 ^ k + 2 ^ 63
  known n e =
      let l = top-fits in
      let c : biased b * top a k ≤ 2 ^ 32 * top a k = mul-le-mul_right (top a k) (omega arith) in
      let d : biased b * top a k + a / 2 ^ k + 2 ^ 63 - 2 ^ 31 * top a k + 2 ^ 31 * top a k
      ≡ biased b * top a k + a / 2 ^ k + 2 ^ 63 = omega arith in
      let w = partial-word (biased b * top a k + a / 2 ^ k + 2 ^ 63 - 2 ^ 31 * top a k) d in
      omega arith

pub mul-start : (a b : ℕ) → a < 2 ^ 32 → b < 2 ^ 32 → mul_after a b 0 ≡ a
mul-start a b ha hb =
    let t : top a 0 ≡ 0 = ap (λ (x : ℕ). x * 2 ^ 32) (mod-one a) in
    let e : a + 2 ^ 63 + 2 ^ 31 * top a 0 ≡ biased b * top a 0 + a / 1 + 2 ^ 63 =
    omega (arith, t, ap (λ (x : ℕ). biased b * x) t, mul-zero (biased b), div-one a) in
    omega (arith, partial-word a b 0 ha hb (lit< tt) (a + 2 ^ 63) e)

-- n is B × s + 2^63 for s = A mod 2^31; if the top bit of A is set, B × 2^31 is subtracted
off-product : (a b n p : ℕ) → a < 2 ^ 32 → b < 2 ^ 32 → n + 2 ^ 31 * (a % 2 ^ 31) ≡ biased b * (a % 2 ^ 31) + 2 ^ 63
    → p + a / 2 ^ 31 * (biased b * 2 ^ 31) ≡ n + a / 2 ^ 31 * 2 ^ 62 → OffBy (2 ^ 63) (product a b) p
unfolding product
off-product a b n p ha hb e f = go (sign a ha)
  where
    go : Sign a → OffBy (2 ^ 63) (signed b *ℤ signed a) p
    go (plus m hm i s _) =
        let q : a / 2 ^ 31 ≡ 0 = omega arith in
        let r : a % 2 ^ 31 ≡ m = omega arith in
        rw s
        (off-times b m p hb (omega arith)
        (omega (arith, ap (λ (x : ℕ). biased b * x) r, ap (λ (x : ℕ). x * (biased b * 2 ^ 31)) q)))
    go (minus m hm i s _) =
        let q : a / 2 ^ 31 ≡ 1 = omega arith in
        let r : a % 2 ^ 31 + suc m ≡ 2 ^ 31 = omega arith in
        let g = ap (λ (x : ℕ). x * (biased b * 2 ^ 31)) q in
        let d = sym (mul-add (biased b) (a % 2 ^ 31) (suc m)) ∙ ap (λ (x : ℕ). biased b * x) r in
        let x = biased b * suc m + 2 ^ 63 - 2 ^ 31 * suc m in
        rw (s, *ℤ-negsuc (signed b) m)
        (off-negation (2 ^ 63) (signed b *ℤ pos (suc m)) x p
        (off-times b (suc m) x hb (omega arith) (omega arith)) (omega arith) (omega arith))

pub product-word : (a b k n p : ℕ) → 32 ≤ k → a < 2 ^ 32 → b < 2 ^ 32
    → n + 2 ^ 31 * (a % 2 ^ 31) ≡ biased b * (a % 2 ^ 31) + 2 ^ 63
    → p + a / 2 ^ 31 * (biased b * 2 ^ 31) ≡ n + a / 2 ^ 31 * 2 ^ 62 → mul_after a b k ≡ (p + 2 ^ 63) % 2 ^ 64
unfolding mul_after
product-word a b k n p hk ha hb e f =
    rw (le-ltb k 32 hk) (off-word 64 (2 ^ 63) (product a b) p (omega arith) (off-product a b n p ha hb e f))

pub upper-half-is : (b : ℕ) → b < 2 ^ 32 → upper_half b ≡ (biased b * 2 ^ 31 + (2 ^ 64 - 2 ^ 62)) % 2 ^ 64
unfolding upper_half
upper-half-is b h =
    off-word 64 (2 ^ 63) (signed b *ℤ pos (2 ^ 31)) (biased b * 2 ^ 31 + 2 ^ 62) (omega arith)
    (off-times b (2 ^ 31) (biased b * 2 ^ 31 + 2 ^ 62) h (omega arith) (omega arith))
    ∙ ap (λ (x : ℕ). x % 2 ^ 64) (omega arith)

low-word : (z : ℤ) → word 64 z % 2 ^ 32 ≡ word 32 z
unfolding word
low-word (pos n) = omega arith
low-word (negsuc n) = omega arith

pub mul-end : (a b : ℕ)
    → (mul_after a b 32 % 2 ^ 32 ≡ low_word (product a b)) × (mul_after a b 32 / 2 ^ 32 ≡ high_word (product a b))
unfolding mul_after low_word high_word
mul-end a b = (low-word (product a b), refl)
