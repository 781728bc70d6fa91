-- A word under a mask of bit ranges: the sum of the ranges, each at its place.
-- One law splits off the highest range; the mask of each form has two to four ranges, which are its fields.
use mathlib.Core.Path.{◌≡◌, sym, ap, ◌∙◌}
use Prim.Native.Nat.{ℕ, ◌+◌, ◌-◌, ◌*◌, ◌/◌, ◌%◌, ◌^◌, ◌<◌}
use native.Mathlib.Nat.{mod-lt, zero-mul, zero-add}
use lib.Bits.{bit_and, and_block, and_mask, and_zero_r}
use lib.Dec.{lit<}
use lib.Pow.{pow_pos, split}
use Rattle.trm_word.specs.Fields.{bit, operation, destination, source, literal}
use Rattle.trm_word.specs.Fields.{new_status, jump_form, memory_offset, condition, branch_offset, call_offset}

-- a mask of a part m at 2^j and a part s below it
parts : (w j m s : ℕ) → s < 2 ^ j → bit_and w (m * 2 ^ j + s) ≡ bit_and (w / 2 ^ j) m * 2 ^ j + bit_and (w % 2 ^ j) s
parts w j m s h =
    ap (λ (x : ℕ). bit_and x (m * 2 ^ j + s)) (sym (split w j))
    ∙ and_block j (w / 2 ^ j) m (w % 2 ^ j) s (mod-lt w (pow_pos j)) h

none-and : (m s : ℕ) → 0 * m + s ≡ s
none-and m s = ap (λ (x : ℕ). x + s) (zero-mul m) ∙ zero-add s

below : (w j s : ℕ) → s < 2 ^ j → bit_and w s ≡ bit_and (w % 2 ^ j) s
below w j s h =
    ap (bit_and w) (sym (none-and (2 ^ j) s))
    ∙ parts w j 0 s h
    ∙ ap (λ (x : ℕ). x * 2 ^ j + bit_and (w % 2 ^ j) s) (and_zero_r (w / 2 ^ j))
    ∙ none-and (2 ^ j) (bit_and (w % 2 ^ j) s)

-- a range of i bits from bit j up, and the bits under the rest of the mask
also : (w i j s : ℕ) {x : ℕ} → s < 2 ^ j → bit_and w s ≡ x
    → bit_and w ((2 ^ i - 1) * 2 ^ j + s) ≡ w / 2 ^ j % 2 ^ i * 2 ^ j + x
also w i j s h e =
    parts w j (2 ^ i - 1) s h
    ∙ ap (λ (y : ℕ). y * 2 ^ j + bit_and (w % 2 ^ j) s) (and_mask (w / 2 ^ j) i)
    ∙ ap (λ (y : ℕ). w / 2 ^ j % 2 ^ i * 2 ^ j + y) (sym (below w j s h) ∙ e)

module _ (w : ℕ) where
  pub mask-high : bit_and w 0x3FC08 ≡ operation w * 2 ^ 14 + (destination w * 2 ^ 11 + (bit 10 w * 2 ^ 10 + (bit 3 w * 2 ^ 3 + 0)))
  mask-high =
      also w 4 14 0x3C08 (lit< tt) (also w 3 11 0x408 (lit< tt) (also w 1 10 8 (lit< tt) (also w 1 3 0 (lit< tt) (and_zero_r w))))

  pub mask-register : bit_and w 0x3FC07 ≡ operation w * 2 ^ 14 + (destination w * 2 ^ 11 + (bit 10 w * 2 ^ 10 + source w))
  mask-register = also w 4 14 0x3C07 (lit< tt) (also w 3 11 0x407 (lit< tt) (also w 1 10 7 (lit< tt) (and_mask w 3)))

  pub mask-literal : bit_and w 0x3FFFF ≡ operation w * 2 ^ 14 + (destination w * 2 ^ 11 + (bit 10 w * 2 ^ 10 + literal w))
  mask-literal = also w 4 14 0x3FFF (lit< tt) (also w 3 11 0x7FF (lit< tt) (also w 1 10 0x3FF (lit< tt) (and_mask w 10)))

  pub mask-status : bit_and w 0x3C40F ≡ operation w * 2 ^ 14 + (bit 10 w * 2 ^ 10 + new_status w)
  mask-status = also w 4 14 0x40F (lit< tt) (also w 1 10 0xF (lit< tt) (and_mask w 4))

  pub mask-jump : bit_and w 0x3C707 ≡ operation w * 2 ^ 14 + (bit 10 w * 2 ^ 10 + (jump_form w * 2 ^ 8 + source w))
  mask-jump = also w 4 14 0x707 (lit< tt) (also w 1 10 0x307 (lit< tt) (also w 2 8 7 (lit< tt) (and_mask w 3)))

  pub mask-link : bit_and w 0x3FF07
      ≡ operation w * 2 ^ 14 + (destination w * 2 ^ 11 + (bit 10 w * 2 ^ 10 + (jump_form w * 2 ^ 8 + source w)))
  mask-link =
      also w 4 14 0x3F07 (lit< tt) (also w 3 11 0x707 (lit< tt) (also w 1 10 0x307 (lit< tt) (also w 2 8 7 (lit< tt) (and_mask w 3))))

  pub mask-return : bit_and w 0x3C507 ≡ operation w * 2 ^ 14 + (bit 10 w * 2 ^ 10 + (bit 8 w * 2 ^ 8 + source w))
  mask-return = also w 4 14 0x507 (lit< tt) (also w 1 10 0x107 (lit< tt) (also w 1 8 7 (lit< tt) (and_mask w 3)))

  pub mask-memory : bit_and w 0x3FFFF ≡ operation w * 2 ^ 14 + (destination w * 2 ^ 11 + (memory_offset w * 2 ^ 3 + source w))
  mask-memory = also w 4 14 0x3FFF (lit< tt) (also w 3 11 0x7FF (lit< tt) (also w 8 3 7 (lit< tt) (and_mask w 3)))

  pub mask-branch : bit_and w 0x3FFFF ≡ operation w * 2 ^ 14 + (condition w * 2 ^ 10 + branch_offset w)
  mask-branch = also w 4 14 0x3FFF (lit< tt) (also w 4 10 0x3FF (lit< tt) (and_mask w 10))

  pub mask-call : bit_and w 0x3CFFF ≡ operation w * 2 ^ 14 + call_offset w
  mask-call = also w 4 14 0xFFF (lit< tt) (and_mask w 12)
