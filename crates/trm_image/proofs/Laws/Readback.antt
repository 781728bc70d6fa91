-- Bytes that were written out, read back: a number, consecutive words, a record.
-- Idea: the bytes from an offset on are known, so each of them is; four digits below 256 give one number.
use Prim.Native.Nat.{ℕ, ◌+◌, ◌*◌, ◌-◌, ◌/◌, ◌%◌, ◌≤◌}
use mathlib.Core.Path.{◌≡◌, refl, sym, ap, ap₂, ◌∙◌}
use mathlib.Core.Bool.{true}
use mathlib.Core.List.{List, [], ◌∷◌, ◌++◌}
use native.Mathlib.Omega.{arith}
use lib.ListN.{length, get_or, drop, length-drop, length-append}
use lib.Seq.{drop-drop, drop-append_seam, get_or-drop}
use lib.Dec.{leb}
use borrow.Author.Tests.{leb-true, le-leb}
use Rattle.trm_core.specs.Refusals.{all_at_most}
use Rattle.trm_laws.proofs.Tests.{both, ◌&t◌}
use Rattle.trm_image.specs.Records.{le2, le4, length_at, kind_at, words_at}
use Rattle.trm_image.specs.Written.{bytes2, bytes4, word_bytes, record_bytes}
use Rattle.trm_image.proofs.Laws.Walk.{le4-drop}

-- the bytes k further on
pub further : (s : List ℕ) (at k : ℕ) {t : List ℕ} → drop at s ≡ t → drop (at + k) s ≡ drop k t
further s at k e = sym (drop-drop k at s) ∙ ap (drop k) e

pub byte-back : (s : List ℕ) (at x : ℕ) {t : List ℕ} → drop at s ≡ x ∷ t → get_or s at 0 ≡ x
byte-back s at x e =
    let z : at + 0 ≡ at = omega arith in
    ap (λ k. get_or s k 0) (sym z) ∙ sym (get_or-drop at s 0 0) ∙ ap (λ l. get_or l 0 0) e

spelt2 : (x : ℕ) → x ≤ 65535 → x % 256 + 256 * (x / 256 % 256) ≡ x
spelt2 x h = omega arith

spelt4 : (x : ℕ) → x ≤ 4294967295
    → x % 256 + 256 * (x / 256 % 256) + 65536 * (x / 65536 % 256) + 16777216 * (x / 16777216 % 256) ≡ x
spelt4 x h =
    let a : x ≡ x % 256 + 256 * (x / 256) = omega arith in
    let b : x / 256 ≡ x / 256 % 256 + 256 * (x / 65536) = omega arith in
    let c : x / 65536 ≡ x / 65536 % 256 + 256 * (x / 16777216) = omega arith in
    let d : x / 16777216 ≡ x / 16777216 % 256 = omega arith in
    omega (arith, a, b, c, d)

pub le2-back : (s : List ℕ) (at x : ℕ) {t : List ℕ} → x ≤ 65535 → drop at s ≡ bytes2 x ++ t → le2 s at ≡ x
le2-back s at x {t} h e =
    let a : get_or s at 0 ≡ x % 256 = byte-back s at (x % 256) e in
    let b : get_or s (at + 1) 0 ≡ x / 256 % 256 = byte-back s (at + 1) (x / 256 % 256) (further s at 1 e) in
    rw (a, b) (spelt2 x h)

pub le4-back : (s : List ℕ) (at x : ℕ) {t : List ℕ} → x ≤ 4294967295 → drop at s ≡ bytes4 x ++ t → le4 s at ≡ x
le4-back s at x {t} h e = sym (le4-drop s at) ∙ ap (λ l. le4 l 0) e ∙ spelt4 x h

pub words_back : (s ws t : List ℕ) (at : ℕ) → all_at_most 4294967295 ws ≡ true → drop at s ≡ word_bytes ws ++ t
    → words_at s at (length ws) ≡ ws
unfolding all_at_most word_bytes words_at
words_back s [] t at ok e = refl
words_back s (w ∷ ws) t at ok e =
    both (leb w 4294967295) (all_at_most 4294967295 ws)
    (λ p q. ap₂ ◌∷◌ (le4-back s at w (leb-true w 4294967295 p) e) (words_back s ws t (at + 4) q (further s at 4 e))) ok

-- a higher limit
pub at_most-more : (a b : ℕ) (ws : List ℕ) → a ≤ b → all_at_most a ws ≡ true → all_at_most b ws ≡ true
unfolding all_at_most
at_most-more a b [] h t = refl
at_most-more a b (w ∷ ws) h t =
    both (leb w a) (all_at_most a ws)
    (λ p q. let x = leb-true w a p in le-leb w b (omega (arith, x, h)) &t at_most-more a b ws h q) t

-- a record of this kind and payload begins at this offset, and `rest` follows it
pub record Here (s : List ℕ) (at k : ℕ) (payload rest : List ℕ) : Type 0 where
  pub bytes : length_at s at ≡ length payload
  pub kind : kind_at s at ≡ k
  pub inner : drop (at + 6) s ≡ payload ++ rest
  pub after : drop (at + 6 + length_at s at) s ≡ rest
  pub whole : at + 6 + length_at s at ≤ length s

module _ (s : List ℕ) (at k : ℕ) (payload rest : List ℕ) (small : length s ≤ 65536) (one : k ≤ 65535)
    (e : drop at s ≡ record_bytes k payload ++ rest) where
  left_over : length s - at ≡ 6 + (length payload + length rest)
  unfolding record_bytes
  left_over =
      let l : length (record_bytes k payload ++ rest) ≡ 6 + (length payload + length rest) =
      omega (arith, length-append payload rest) in
      sym (length-drop at s) ∙ ap length e ∙ l

  here-bytes : length_at s at ≡ length payload
  unfolding record_bytes
  here-bytes = le4-back s at (length payload) (omega (arith, left_over, small)) e

  here-inner : drop (at + 6) s ≡ payload ++ rest
  unfolding record_bytes
  here-inner = further s at 6 e

  here-kind : kind_at s at ≡ k
  unfolding record_bytes
  here-kind = le2-back s (at + 4) k one (further s at 4 e)

  pub here : Here s at k payload rest
  here =
      record {
        bytes = here-bytes;
        kind = here-kind;
        inner = here-inner;
        after = ap (λ j. drop (at + 6 + j) s) here-bytes
            ∙ further s (at + 6) (length payload) here-inner
            ∙ drop-append_seam payload rest;
        whole = omega (arith, left_over, here-bytes);
      }
