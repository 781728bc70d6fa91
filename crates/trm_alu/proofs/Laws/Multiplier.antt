-- One step of the multiplier takes the register after k steps to that after k + 1.
-- On the register plus 2^63 a step halves and adds 2^62; if A's bit is set it also adds B × 2^31, or subtracts it in the last step.
use Rattle.std.proofs.Common.{◌≡◌, ℕ, zero, suc, ◌+◌, ◌-◌, ◌*◌, ◌/◌, ◌%◌, ◌^◌, ◌<◌, ◌≤◌, Bool, true, false, eqb, sym, refl, ap, ◌∙◌, ap₂}
use Rattle.std.proofs.Common.{mul_assoc, one-mul, zero-mul, mul-add, mul_left_comm, arith, lit<, shr-shr, eqb-true}
use native.Mathlib.Nat.{mod-add-mod, add-mod-mod}
use borrow.Author.Tests.{eqb-false}
use Rattle.trm_alu.specs.Word.{biased}
use Rattle.trm_alu.specs.Multiply.{mul_after, mul_step, shifted_right, upper_half}
use Rattle.trm_alu.proofs.Laws.Modular.{mul_pow_next, shl-next}
use Rattle.trm_alu.proofs.Laws.Signed.{word_lt}
use Rattle.trm_alu.proofs.Laws.Product.{top, partial-word, product-word, known, upper-half-is}

-- a bit, and the product of x with it
data Bit (d x : ℕ) : Type 0 where
  clear : d ≡ 0 → d * x ≡ 0 → Bit d x
  set : d ≡ 1 → d * x ≡ x → Bit d x

bit : (d x : ℕ) → d < 2 → Bit d x
bit zero x h = clear refl (zero-mul x)
bit (suc zero) x h = set refl (one-mul x)
bit (suc (suc d)) x h = absurd (omega arith)

-- ---- n, the register plus 2^63, by the bits of A

-- the linear part, over plain numbers
halved : (n u p q c : ℕ) → n + u * 2 ≡ p * 2 + q + c * 2 → n / 2 + u ≡ p + q / 2 + c
halved n u p q c e = omega arith

module _ (a b k : ℕ) (ha : a < 2 ^ 32) (hb : b < 2 ^ 32) (hk : k < 32) where
  -- (A mod 2^k) × 2^(31−k), and the next such number by bit k of A
  half : ℕ
  half = a % 2 ^ k * 2 ^ (31 - k)

  top-half : top a k ≡ half * 2
  unfolding half
  top-half = mul_pow_next (a % 2 ^ k) (31 - k) (32 - k) (omega arith)

  top-next : top a (k + 1) ≡ a / 2 ^ k % 2 * 2 ^ 31 + half
  unfolding half
  top-next =
      ap₂ (λ (x y : ℕ). a % 2 ^ x * 2 ^ y) (omega arith) (omega arith) ∙ shl-next a k (31 - k) 31 (omega arith)

  multiple-half : biased b * top a k ≡ biased b * half * 2
  multiple-half = ap (λ (x : ℕ). biased b * x) top-half ∙ sym (mul_assoc (biased b) half 2)

  module _ (n : ℕ) (e : n ≡ (mul_after a b k + 2 ^ 63) % 2 ^ 64) where
    parity : n % 2 ≡ a / 2 ^ k % 2
    parity = omega (arith, known a b k ha hb hk n e, multiple-half, top-half)

    halves : n / 2 + 2 ^ 31 * half ≡ biased b * half + a / 2 ^ k / 2 + 2 ^ 62
    halves =
        let h = known a b k ha hb hk n e in
        let p = multiple-half in
        let q = top-half in
        halved n (2 ^ 31 * half) (biased b * half) (a / 2 ^ k) (2 ^ 62) (omega arith)

    step_partial : (y : ℕ) → k < 31 → y + n % 2 * 2 ^ 62 ≡ n % 2 * (biased b * 2 ^ 31) + 2 ^ 62
        → mul_after a b (k + 1) ≡ (n / 2 + y + 2 ^ 63) % 2 ^ 64
    step_partial y l f =
        let p = parity in
        let t = top-next in
        let m = ap (λ (x : ℕ). biased b * x) t ∙ mul-add (biased b) (a / 2 ^ k % 2 * 2 ^ 31) half in
        let c = mul_left_comm (biased b) (a / 2 ^ k % 2) (2 ^ 31)
        ∙ ap (λ (x : ℕ). x * (biased b * 2 ^ 31)) (sym p) in
        partial-word a b (k + 1) ha hb (omega arith) (n / 2 + y) (omega (arith, halves, shr-shr a k 1))

step-product : (a b n y : ℕ) → a < 2 ^ 32 → b < 2 ^ 32 → n ≡ (mul_after a b 31 + 2 ^ 63) % 2 ^ 64
    → y + n % 2 * (biased b * 2 ^ 31) ≡ n % 2 * 2 ^ 62 + 2 ^ 62 → mul_after a b 32 ≡ (n / 2 + y + 2 ^ 63) % 2 ^ 64
unfolding half
step-product a b n y ha hb e f =
    let q : a / 2 ^ 31 / 2 ≡ 0 = omega arith in
    let p : n % 2 ≡ a / 2 ^ 31 = parity a b 31 ha hb (lit< tt) n e ∙ omega arith in
    product-word a b 32 (n / 2 + 2 ^ 62) (n / 2 + y) (omega arith) ha hb
    (omega (arith, halves a b 31 ha hb (lit< tt) n e))
    (omega (arith, ap (λ (x : ℕ). x * (biased b * 2 ^ 31)) p))

-- ---- the step itself, mod 2^64

shifted : (x : ℕ) → x < 2 ^ 64 → shifted_right x ≡ ((x + 2 ^ 63) % 2 ^ 64 / 2 + 2 ^ 62 + 2 ^ 63) % 2 ^ 64
unfolding shifted_right
shifted x h = go (x / 2 ^ 63) refl
  where
    go : (q : ℕ) → x / 2 ^ 63 ≡ q
        → x / 2 + x / 2 ^ 63 * 2 ^ 63 ≡ ((x + 2 ^ 63) % 2 ^ 64 / 2 + 2 ^ 62 + 2 ^ 63) % 2 ^ 64
    go zero e = let m : (x + 2 ^ 63) % 2 ^ 64 ≡ x + 2 ^ 63 = omega arith in omega arith
    go (suc zero) e = let m : (x + 2 ^ 63) % 2 ^ 64 + 2 ^ 63 ≡ x = omega arith in omega arith
    go (suc (suc q)) e = absurd (omega arith)

-- adding d to the shifted register is adding y to the offset one
added : (x d y : ℕ) → x < 2 ^ 64 → (d + 2 ^ 62) % 2 ^ 64 ≡ y
    → (shifted_right x + d) % 2 ^ 64 ≡ ((x + 2 ^ 63) % 2 ^ 64 / 2 + y + 2 ^ 63) % 2 ^ 64
added x d y h e =
    let n = (x + 2 ^ 63) % 2 ^ 64 / 2 in
    let s : n + 2 ^ 62 + 2 ^ 63 + d ≡ n + 2 ^ 63 + (d + 2 ^ 62) = omega arith in
    let t : n + 2 ^ 63 + y ≡ n + y + 2 ^ 63 = omega arith in
    ap (λ (z : ℕ). (z + d) % 2 ^ 64) (shifted x h)
    ∙ mod-add-mod (n + 2 ^ 62 + 2 ^ 63) (2 ^ 64) d
    ∙ ap (λ (z : ℕ). z % 2 ^ 64) s
    ∙ sym (add-mod-mod (n + 2 ^ 63) (d + 2 ^ 62) (2 ^ 64))
    ∙ ap (λ (z : ℕ). (n + 2 ^ 63 + z) % 2 ^ 64) e
    ∙ ap (λ (z : ℕ). z % 2 ^ 64) t

-- the same for an addend and for its negation
add-offset : (d u c y : ℕ) → Bit d u → u ≡ (c + (2 ^ 64 - 2 ^ 62)) % 2 ^ 64 → c ≤ 2 ^ 63 → (d * u + 2 ^ 62) % 2 ^ 64 ≡ y
    → y + d * 2 ^ 62 ≡ d * c + 2 ^ 62
add-offset d u c y (clear z p) e h f = omega (arith, ap (λ (x : ℕ). x * c) z)
add-offset d u c y (set o p) e h f = omega (arith, ap (λ (x : ℕ). x * c) o)

sub-offset : (d u c y : ℕ) → Bit d u → u ≡ (c + (2 ^ 64 - 2 ^ 62)) % 2 ^ 64 → c ≤ 2 ^ 63
    → (2 ^ 64 - d * u + 2 ^ 62) % 2 ^ 64 ≡ y
    → y + d * c ≡ d * 2 ^ 62 + 2 ^ 62
sub-offset d u c y (clear z p) e h f = omega (arith, ap (λ (x : ℕ). x * c) z)
sub-offset d u c y (set o p) e h f = omega (arith, ap (λ (x : ℕ). x * c) o)

mul_after-lt : (a b k : ℕ) → mul_after a b k < 2 ^ 64
unfolding mul_after
mul_after-lt a b k = word_lt 64 _

bit-same : (x : ℕ) → (x + 2 ^ 63) % 2 ^ 64 % 2 ≡ x % 2
bit-same x = omega arith

pub mul-step : (a b k : ℕ) → a < 2 ^ 32 → b < 2 ^ 32 → k < 32
    → mul_step (mul_after a b k) b (eqb k 31) ≡ mul_after a b (k + 1)
unfolding mul_step
mul-step a b k ha hb hk = go (eqb k 31) refl
  where
    next : (x : ℕ) → Bit (x % 2) (upper_half b)
    next x = bit (x % 2) (upper_half b) (omega arith)

    go : (t : Bool) → eqb k 31 ≡ t → mul_step (mul_after a b k) b t ≡ mul_after a b (k + 1)
    go true t =
        let x = mul_after a b 31 in
        let c = biased b * 2 ^ 31 in
        rw (eqb-true k 31 t)
        (added x (2 ^ 64 - x % 2 * upper_half b) _ (mul_after-lt a b 31) refl
        ∙ sym (step-product a b _ _ ha hb refl
        (rw (bit-same x) (sub-offset (x % 2) (upper_half b) c _ (next x) (upper-half-is b hb) (omega arith) refl))))
    go false t =
        let x = mul_after a b k in
        let c = biased b * 2 ^ 31 in
        let l = eqb-false k 31 t in
        added x (x % 2 * upper_half b) _ (mul_after-lt a b k) refl
        ∙ sym (step_partial a b k ha hb hk _ refl _ (omega (arith, l))
        (rw (bit-same x) (add-offset (x % 2) (upper_half b) c _ (next x) (upper-half-is b hb) (omega arith) refl)))
