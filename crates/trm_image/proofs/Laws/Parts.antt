-- A payload as a slice of the image: its bytes and words are the image's.
-- Idea: byte i of a slice is byte i after the slice's start; words by induction on their count.
use Prim.Native.Nat.{ℕ, zero, suc, ◌+◌, ◌*◌, ◌≤◌, ◌<◌}
use mathlib.Core.Path.{◌≡◌, refl, ap, ap₂, ◌∙◌}
use mathlib.Core.List.{List, ◌∷◌}
use native.Mathlib.Omega.{arith}
use lib.ListN.{length, get_or, take, drop, length-drop}
use lib.Seq.{get_or-take, get_or-drop, length-take-le}
use Rattle.trm_image.specs.Records.{le4, length_at, payload_at, words_at}

-- n bytes from offset k on
module _ (s : List ℕ) (k n : ℕ) where
  part-byte : (i j : ℕ) → i < n → k + i ≡ j → get_or (take n (drop k s)) i 0 ≡ get_or s j 0
  part-byte i j h e = get_or-take n (drop k s) i 0 h ∙ get_or-drop k s i 0 ∙ ap (λ x. get_or s x 0) e

  part-word : (i j : ℕ) → i + 4 ≤ n → k + i ≡ j → le4 (take n (drop k s)) i ≡ le4 s j
  part-word i j h e =
      rw (
        part-byte i j (omega arith) e,
        part-byte (i + 1) (j + 1) (omega arith) (omega (arith, e)),
        part-byte (i + 2) (j + 2) (omega arith) (omega (arith, e)),
        part-byte (i + 3) (j + 3) (omega arith) (omega (arith, e)),
      )

  part-words : (c i j : ℕ) → i + c * 4 ≤ n → k + i ≡ j → words_at (take n (drop k s)) i c ≡ words_at s j c
  unfolding words_at
  part-words zero i j h e = refl
  part-words (suc c) i j h e =
      ap₂ (λ w ws. w ∷ ws) (part-word i j (omega arith) e) (part-words c (i + 4) (j + 4) (omega arith) (omega (arith, e)))

-- the payload of the record at `at`
module _ (s : List ℕ) (at : ℕ) where
  pub payload-byte : (i j : ℕ) → i < length_at s at → at + 6 + i ≡ j → get_or (payload_at s at) i 0 ≡ get_or s j 0
  unfolding payload_at
  payload-byte i j h e = part-byte s (at + 6) (length_at s at) i j h e

  pub payload-word : (i j : ℕ) → i + 4 ≤ length_at s at → at + 6 + i ≡ j → le4 (payload_at s at) i ≡ le4 s j
  unfolding payload_at
  payload-word i j h e = part-word s (at + 6) (length_at s at) i j h e

  pub payload-words : (c : ℕ) → c * 4 ≤ length_at s at → words_at (payload_at s at) 0 c ≡ words_at s (at + 6) c
  unfolding payload_at
  payload-words c h = part-words s (at + 6) (length_at s at) c 0 (at + 6) (omega (arith, h)) (omega arith)

  pub payload-length : at + 6 + length_at s at ≤ length s → length (payload_at s at) ≡ length_at s at
  unfolding payload_at
  payload-length h = length-take-le (length_at s at) (drop (at + 6) s) (omega (arith, length-drop (at + 6) s))
