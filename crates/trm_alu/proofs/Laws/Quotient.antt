-- The signed quotient and remainder from the divider's registers after 32 steps, r and q.
-- q and r are those of |B|; for B = −(n + 1) the definition uses those of n: q − 1 and A − 1 if r is 0, else q and r − 1.
use Rattle.std.proofs.Common.{◌≡◌, ℕ, zero, suc, ◌+◌, ◌-◌, ◌*◌, ◌/◌, ◌%◌, ◌^◌, ◌<◌, ◌≤◌, true, false, sym, refl, ap, ◌∙◌, mod-lt, suc-mul}
use Rattle.std.proofs.Common.{div-add-mod', zero-mul, div-le_self, div-one, arith}
use native.Mathlib.Nat.{mod-one}
use Rattle.trm_alu.specs.declared.inner.divide.Divided.{Divided}
use Rattle.trm_alu.specs.Word.{word}
use Rattle.trm_alu.specs.Divide.{above0, floor_div, floor_mod, quotient, remainder, divided, div_rem, div_quot}
use Rattle.trm_alu.proofs.Laws.Signed.{Sign, plus, minus, sign}
use Rattle.trm_alu.proofs.Laws.Division.{quotient_digits, above0-pos, magnitude, magnitude-le, rem_is, quot_is}

divided-same : {q p r s : ℕ} → q ≡ p → r ≡ s
    → ◌≡◌ {A = Divided} (record { quotient = q; remainder = r }) (record { quotient = p; remainder = s })
divided-same e f = λ i. record { quotient = e i; remainder = f i }

pred-exact : (n a : ℕ) → 0 < a → suc n % a ≡ 0 → (n / a + 1 ≡ suc n / a) × (n % a + 1 ≡ a)
pred-exact n a h e = go (suc n / a) refl
  where
    go : (q : ℕ) → suc n / a ≡ q → (n / a + 1 ≡ suc n / a) × (n % a + 1 ≡ a)
    go zero f = absurd (omega (arith, div-add-mod' (suc n) a, ap (λ (x : ℕ). x * a) f, zero-mul a))
    go (suc q) f =
        let d = quotient_digits n q (a - 1) a
        (omega (arith, div-add-mod' (suc n) a, ap (λ (x : ℕ). x * a) f, suc-mul q a)) (omega arith) in
        (omega arith, omega arith)

pred_inexact : (n a : ℕ) → 0 < a → (suc n % a ≡ 0 → ⊥) → (n / a ≡ suc n / a) × (n % a + 1 ≡ suc n % a)
pred_inexact n a h e =
    let d = quotient_digits n (suc n / a) (suc n % a - 1) a
    (omega (arith, e, div-add-mod' (suc n) a)) (omega (arith, mod-lt (suc n) h)) in
    (d.0, omega (arith, e))

pub finish-none : (a b : ℕ) → above0 a ≡ false → record { quotient = 0; remainder = b } ≡ divided a b
unfolding quotient remainder
finish-none a b e = divided-same (rw e) (rw e)

-- A is above 0, and r and q are the registers after 32 steps
pub record Ended (a b r q : ℕ) : Type 0 where
  pub word-b : b < 2 ^ 32
  pub above : 0 < a
  pub below : a < 2 ^ 31
  pub rem : r ≡ div_rem a b 32
  pub quot : q ≡ div_quot a b 32

module _ {a b r q : ℕ} (h : Ended a b r q) where
  above0-a : above0 a ≡ true
  above0-a = above0-pos a h.above h.below

  rem-end : r ≡ magnitude b % a
  rem-end = h.rem ∙ rem_is a b h.above h.below 32 ∙ ap (λ (x : ℕ). x % a) (div-one (magnitude b))

  quot_end : q ≡ magnitude b / a
  quot_end =
      h.quot
      ∙ quot_is a b h.above h.below 32
      ∙ omega (arith, mod-one (magnitude b), ap (λ (x : ℕ). x / a) (div-one (magnitude b)))

  pub rem_lt : r < a
  rem_lt = rw rem-end (mod-lt (magnitude b) h.above)

  pub quot_le : q ≤ 2 ^ 31
  quot_le = omega (arith, quot_end, div-le_self (magnitude b) a, magnitude-le b h.word-b)

  pub finish-plus : b < 2 ^ 31 → record { quotient = q; remainder = r } ≡ divided a b
  unfolding quotient remainder floor_div floor_mod word
  finish-plus l = go (sign b h.word-b)
    where
      go : Sign b → record { quotient = q; remainder = r } ≡ divided a b
      go (minus m hm i s _) = absurd (omega arith)
      go (plus m hm i s _) =
          let d = div-le_self m a in
          let f : q ≡ m / a = rw s at quot_end in
          let g : r ≡ m % a = rw s at rem-end in
          divided-same (rw (above0-a, s) (omega arith)) (rw (above0-a, s) g)

  pub finish-exact : 2 ^ 31 ≤ b → r ≡ 0
      → record { quotient = (2 ^ 32 - 1 - q + 1) % 2 ^ 32; remainder = 0 } ≡ divided a b
  unfolding quotient remainder floor_div floor_mod word
  finish-exact l z = go (sign b h.word-b)
    where
      go : Sign b → record { quotient = (2 ^ 32 - 1 - q + 1) % 2 ^ 32; remainder = 0 } ≡ divided a b
      go (plus m hm i s _) = absurd (omega arith)
      go (minus m hm i s _) =
          let f : q ≡ suc m / a = rw s at quot_end in
          let g : r ≡ suc m % a = rw s at rem-end in
          let e = pred-exact m a h.above (sym g ∙ z) in
          let d = div-le_self m a in
          divided-same (rw (above0-a, s) (omega arith)) (rw (above0-a, s) (omega arith))

  pub finish_inexact : 2 ^ 31 ≤ b → (r ≡ 0 → ⊥)
      → record { quotient = 2 ^ 32 - 1 - q; remainder = a - r } ≡ divided a b
  unfolding quotient remainder floor_div floor_mod word
  finish_inexact l z = go (sign b h.word-b)
    where
      go : Sign b → record { quotient = 2 ^ 32 - 1 - q; remainder = a - r } ≡ divided a b
      go (plus m hm i s _) = absurd (omega arith)
      go (minus m hm i s _) =
          let f : q ≡ suc m / a = rw s at quot_end in
          let g : r ≡ suc m % a = rw s at rem-end in
          let e = pred_inexact m a h.above (λ x. z (g ∙ x)) in
          let d = div-le_self m a in
          divided-same (rw (above0-a, s) (omega arith)) (rw (above0-a, s) (omega arith))
