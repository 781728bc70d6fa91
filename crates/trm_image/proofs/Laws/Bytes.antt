-- The bytes of an image are those of the numbers read from them.
-- Idea: four bytes below 256 are the digits of one number; words by induction on their count.
use Prim.Native.Nat.{ℕ, zero, suc, ◌+◌, ◌*◌, ◌/◌, ◌%◌, ◌≤◌}
use mathlib.Core.Path.{◌≡◌, refl, ap, ◌∙◌}
use mathlib.Core.Bool.{true}
use mathlib.Core.List.{List, [], ◌∷◌, ◌++◌}
use native.Mathlib.Omega.{arith}
use lib.ListN.{length, get_or, drop}
use lib.Seq.{drop-cons}
use lib.Dec.{leb}
use borrow.Author.Tests.{leb-true, le-leb}
use Rattle.trm_core.specs.Refusals.{all_at_most}
use Rattle.trm_laws.proofs.Tests.{both, ◌&t◌}
use Rattle.trm_image.specs.Records.{le2, le4, words_at}
use Rattle.trm_image.specs.Written.{bytes2, bytes4, word_bytes}

-- a byte of the list, or 0 past its end, is at most the limit
pub at_most : (limit : ℕ) (s : List ℕ) (i : ℕ) → all_at_most limit s ≡ true → get_or s i 0 ≤ limit
unfolding all_at_most
at_most limit [] i t = omega arith
at_most limit (b ∷ bs) zero t = both (leb b limit) (all_at_most limit bs) (λ p q. leb-true b limit p) t
at_most limit (b ∷ bs) (suc i) t = both (leb b limit) (all_at_most limit bs) (λ p q. at_most limit bs i q) t

-- digits
module _ (a b c d : ℕ) (ha : a ≤ 255) (hb : b ≤ 255) (hc : c ≤ 255) (hd : d ≤ 255) where
  digit0 : (a + 256 * b + 65536 * c + 16777216 * d) % 256 ≡ a
  digit0 = omega arith

  digit1 : (a + 256 * b + 65536 * c + 16777216 * d) / 256 % 256 ≡ b
  digit1 = omega arith

  digit2 : (a + 256 * b + 65536 * c + 16777216 * d) / 65536 % 256 ≡ c
  digit2 = omega arith

  digit3 : (a + 256 * b + 65536 * c + 16777216 * d) / 16777216 % 256 ≡ d
  digit3 = omega arith

  four : a ∷ b ∷ c ∷ d ∷ [] ≡ bytes4 (a + 256 * b + 65536 * c + 16777216 * d)
  four = rw (digit0, digit1, digit2, digit3)

module _ (a b : ℕ) (ha : a ≤ 255) (hb : b ≤ 255) where
  low : (a + 256 * b) % 256 ≡ a
  low = omega arith

  high : (a + 256 * b) / 256 % 256 ≡ b
  high = omega arith

  two : a ∷ b ∷ [] ≡ bytes2 (a + 256 * b)
  two = rw (low, high)

module _ (s : List ℕ) (small : all_at_most 255 s ≡ true) where
  byte : (i : ℕ) → get_or s i 0 ≤ 255
  byte i = at_most 255 s i small

  pub one_byte : (at : ℕ) → at + 1 ≤ length s → drop at s ≡ get_or s at 0 ∷ drop (at + 1) s
  one_byte at h =
      let e : suc at ≡ at + 1 = omega arith in
      drop-cons s at 0 (omega arith) ∙ ap (λ k. get_or s at 0 ∷ drop k s) e

  pub two_bytes : (at : ℕ) → at + 2 ≤ length s → drop at s ≡ bytes2 (le2 s at) ++ drop (at + 2) s
  two_bytes at h =
      let e : at + 1 + 1 ≡ at + 2 = omega arith in
      one_byte at (omega arith)
      ∙ ap (λ t. get_or s at 0 ∷ t) (one_byte (at + 1) (omega arith) ∙ ap (λ k. get_or s (at + 1) 0 ∷ drop k s) e)
      ∙ ap (λ t. t ++ drop (at + 2) s) (two (get_or s at 0) (get_or s (at + 1) 0) (byte at) (byte (at + 1)))

  pub four_bytes : (at : ℕ) → at + 4 ≤ length s → drop at s ≡ bytes4 (le4 s at) ++ drop (at + 4) s
  four_bytes at h =
      let e : at + 1 + 1 ≡ at + 2 = omega arith in
      let f : at + 2 + 1 ≡ at + 3 = omega arith in
      let g : at + 3 + 1 ≡ at + 4 = omega arith in
      one_byte at (omega arith)
      ∙ ap (λ t. get_or s at 0 ∷ t)
      (one_byte (at + 1) (omega arith)
      ∙ ap (λ k. get_or s (at + 1) 0 ∷ drop k s) e
      ∙ ap (λ t. get_or s (at + 1) 0 ∷ t)
      (one_byte (at + 2) (omega arith)
      ∙ ap (λ k. get_or s (at + 2) 0 ∷ drop k s) f
      ∙ ap (λ t. get_or s (at + 2) 0 ∷ t) (one_byte (at + 3) (omega arith) ∙ ap (λ k. get_or s (at + 3) 0 ∷ drop k s) g)))
      ∙ ap (λ t. t ++ drop (at + 4) s)
      (four (get_or s at 0) (get_or s (at + 1) 0) (get_or s (at + 2) 0) (get_or s (at + 3) 0)
      (byte at) (byte (at + 1)) (byte (at + 2)) (byte (at + 3)))

  pub word-bytes : (k at : ℕ) → at + 4 * k ≤ length s → drop at s ≡ word_bytes (words_at s at k) ++ drop (at + 4 * k) s
  unfolding word_bytes words_at
  word-bytes zero at h =
      let e : at ≡ at + 4 * 0 = omega arith in
      ap (λ k. drop k s) e
  word-bytes (suc k) at h =
      let e : at + 4 + 4 * k ≡ at + 4 * suc k = omega arith in
      four_bytes at (omega arith)
      ∙ ap (λ t. bytes4 (le4 s at) ++ t)
      (word-bytes k (at + 4) (omega arith) ∙ ap (λ j. word_bytes (words_at s (at + 4) k) ++ drop j s) e)

  -- four bytes give a number of 32 bits
  pub le4-small : (at : ℕ) → le4 s at ≤ 4294967295
  le4-small at =
      let a = byte at in
      let b = byte (at + 1) in
      let c = byte (at + 2) in
      let d = byte (at + 3) in
      omega (arith, a, b, c, d)

  pub words_small : (at k : ℕ) → all_at_most 4294967295 (words_at s at k) ≡ true
  unfolding all_at_most words_at
  words_small at zero = refl
  words_small at (suc k) = le-leb (le4 s at) 4294967295 (le4-small at) &t words_small (at + 4) k

pub length-word_bytes : (ws : List ℕ) → length (word_bytes ws) ≡ 4 * length ws
unfolding word_bytes
length-word_bytes [] = refl
length-word_bytes (w ∷ ws) = omega (arith, length-word_bytes ws)
