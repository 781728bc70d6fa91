-- Numbers mod a power of two: shifts to the left, and differences that wrap.
-- 2^n is 2^i × 2^j for i + j = n, so a left shift by j mod 2^n is the remainder mod 2^i, shifted by j.
--   pow-split, mul_pow_next   a power as a product
--   shl_mod, parts-lt         the value of a shift, and a bound with a number below 2^j added
--   shl-next                  the value of a shift of one bit more
use Rattle.std.proofs.Common.{◌≡◌, ℕ, ◌+◌, ◌*◌, ◌/◌, ◌%◌, ◌^◌, ◌<◌, sym, ap, ◌∙◌, subst, add-zero, mod-lt}
use Rattle.std.proofs.Common.{mul_assoc, add-mul, pow_pos, pow-add}
use native.Mathlib.Nat.{mul-mod_left}
use lib.Arith.{digits_lt}
use lib.Pow.{mod-pow-add, shl-shr}

pow-split : (i j n : ℕ) → i + j ≡ n → 2 ^ i * 2 ^ j ≡ 2 ^ n
pow-split i j n e = sym (pow-add 2 i j) ∙ ap (λ (x : ℕ). 2 ^ x) e

pub mul_pow_next : (x i j : ℕ) → i + 1 ≡ j → x * 2 ^ j ≡ x * 2 ^ i * 2
mul_pow_next x i j e = ap (λ (y : ℕ). x * y) (sym (pow-split i 1 j e)) ∙ sym (mul_assoc x (2 ^ i) 2)

pub shl_mod : (x i j n : ℕ) → i + j ≡ n → (x * 2 ^ j) % 2 ^ n ≡ x % 2 ^ i * 2 ^ j
shl_mod x i j n e =
    ap (λ (y : ℕ). (x * 2 ^ j) % 2 ^ y) (sym e)
    ∙ mod-pow-add (x * 2 ^ j) i j
    ∙ rw (shl-shr x j, mul-mod_left x (2 ^ j)) (add-zero (x % 2 ^ i * 2 ^ j))

pub parts-lt : (x y i j n : ℕ) → i + j ≡ n → y < 2 ^ j → x % 2 ^ i * 2 ^ j + y < 2 ^ n
parts-lt x y i j n e h =
    subst (λ (p : ℕ). x % 2 ^ i * 2 ^ j + y < p) (pow-split i j n e) (digits_lt (mod-lt x (pow_pos i)) h)

pub shl-next : (x i j n : ℕ) → i + j ≡ n → x % 2 ^ (1 + i) * 2 ^ j ≡ x / 2 ^ i % 2 * 2 ^ n + x % 2 ^ i * 2 ^ j
shl-next x i j n e =
    ap (λ (y : ℕ). y * 2 ^ j) (mod-pow-add x 1 i)
    ∙ add-mul (x / 2 ^ i % 2 * 2 ^ i) (x % 2 ^ i) (2 ^ j)
    ∙ ap (λ (y : ℕ). y + x % 2 ^ i * 2 ^ j)
    (mul_assoc (x / 2 ^ i % 2) (2 ^ i) (2 ^ j) ∙ ap (λ (y : ℕ). x / 2 ^ i % 2 * y) (pow-split i j n e))
