-- A rotation is the bitwise or of its two parts.
-- The parts have no bit in common, so their bitwise or is their sum; in a rotation by 0 both are the word itself.
use Rattle.std.proofs.Common.{◌≡◌, ℕ, zero, suc, ◌+◌, ◌-◌, ◌*◌, ◌/◌, ◌%◌, ◌^◌, ◌<◌, ap, ◌∙◌, subst, add_comm, arith, shr_lt}
use native.Mathlib.Nat.{mod-one}
use lib.Bits.{bit_or, or_shifted_r, or_self}
use Rattle.trm_alu.specs.Results.{ror}
use Rattle.trm_alu.proofs.Laws.Modular.{shl_mod}

pub rotated : (a b : ℕ) → b < 2 ^ 32
    → bit_or (b / 2 ^ (a % 32)) ((b * 2 ^ ((32 - a % 32) % 32)) % 2 ^ 32) ≡ ror a b
unfolding ror
rotated a b h = by (a % 32) (omega arith)
  where
    by : (s : ℕ) → s < 32
        → bit_or (b / 2 ^ s) ((b * 2 ^ ((32 - s) % 32)) % 2 ^ 32) ≡ b / 2 ^ s + b % 2 ^ s * 2 ^ (32 - s)
    by zero l = ap (bit_or (b / 1)) (omega arith) ∙ or_self (b / 1) ∙ omega (arith, mod-one b)
    by (suc s) l =
        let turn : (32 - suc s) % 32 ≡ 32 - suc s = omega arith in
        let g : 32 ≡ 32 - suc s + suc s = omega arith in
        rw turn
        (ap (bit_or (b / 2 ^ suc s)) (shl_mod b (suc s) (32 - suc s) 32 (omega arith))
        ∙ or_shifted_r (b % 2 ^ suc s) (32 - suc s) (b / 2 ^ suc s)
        (shr_lt (32 - suc s) (suc s) (subst (λ (x : ℕ). b < 2 ^ x) g h))
        ∙ add_comm (b % 2 ^ suc s * 2 ^ (32 - suc s)) (b / 2 ^ suc s))
