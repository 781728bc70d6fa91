-- Consecutive words compared with a limit.
-- Idea: the words from the i-th on are that word and those from the next on.
use Prim.Native.Nat.{ℕ, suc, ◌+◌, ◌*◌, ◌-◌, ◌≤◌, ◌<◌}
use mathlib.Core.Path.{◌≡◌}
use mathlib.Core.Bool.{true, false}
use mathlib.Core.List.{List}
use native.Mathlib.Omega.{arith}
use borrow.Author.Tests.{le-leb, lt-leb}
use Rattle.trm_core.specs.Refusals.{all_at_most}
use Rattle.trm_image.specs.Records.{le4, words_at}

module _ (s : List ℕ) (at words limit : ℕ) where
  left-more : (i : ℕ) → i < words → words - i ≡ suc (words - (i + 1))
  left-more i h = omega arith

  next-at : (i : ℕ) → at + i * 4 + 4 ≡ at + (i + 1) * 4
  next-at i = omega arith

  pub fits_more : (i : ℕ) → i < words → le4 s (at + i * 4) ≤ limit
      → all_at_most limit (words_at s (at + i * 4) (words - i)) ≡ all_at_most limit (words_at s (at + (i + 1) * 4) (words - (i + 1)))
  unfolding all_at_most words_at
  fits_more i h le = rw (left-more i h, le-leb (le4 s (at + i * 4)) limit le, next-at i)

  pub fits-bad : (i : ℕ) → i < words → limit < le4 s (at + i * 4) → all_at_most limit (words_at s (at + i * 4) (words - i)) ≡ false
  unfolding all_at_most words_at
  fits-bad i h lt = rw (left-more i h, lt-leb (le4 s (at + i * 4)) limit lt)

  pub fits-end : (i : ℕ) → words ≤ i → all_at_most limit (words_at s (at + i * 4) (words - i)) ≡ true
  unfolding all_at_most words_at
  fits-end i h =
      let none : words - i ≡ 0 = omega arith in
      rw none
