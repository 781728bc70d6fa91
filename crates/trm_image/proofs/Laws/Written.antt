-- The records of an accepted image are their content written out.
-- Idea: each record is its header and its payload; runs by induction on the number of bytes left.
use Prim.Native.Nat.{ℕ, zero, suc, ◌+◌, ◌*◌, ◌/◌, ◌%◌, ◌≤◌, ◌<◌}
use mathlib.Core.Path.{◌≡◌, sym, ap, ◌∙◌}
use mathlib.Core.Bool.{true}
use mathlib.Core.List.{List, ◌∷◌, ◌++◌}
use native.Mathlib.Omega.{arith}
use native.Mathlib.Decide.{dec_lt}
use lib.ListN.{length, drop, drop_of_length-le}
use borrow.Author.Tests.{le-leb}
use Rattle.trm_core.specs.Refusals.{all_at_most}
use Rattle.trm_laws.proofs.Tests.{◌&t◌}
use Rattle.trm_image.specs.Records.{length_at, kind_at, begins}
use Rattle.trm_image.specs.Refused.{count_at, line_byte_at, input_at}
use Rattle.trm_image.specs.Meaning.{payload_words, runs_in}
use Rattle.trm_image.specs.Written.{bytes2, bytes4, word_bytes, record_bytes, run_bytes, runs_ok}
use Rattle.trm_image.specs.Runs.{Runs}
use Rattle.trm_image.proofs.Laws.Bytes.{one_byte, two_bytes, four_bytes, word-bytes, le4-small, length-word_bytes}
use Rattle.trm_image.proofs.Laws.Accepted.{Next, runs-next, runs-end, length-words_at}

-- the words of a payload whose length is a multiple of 4
pub length-payload : (s : List ℕ) (at : ℕ) → length (payload_words s at) ≡ length_at s at / 4
length-payload s at = length-words_at s (at + 6) (length_at s at / 4)

module _ (s : List ℕ) (small : all_at_most 255 s ≡ true) where
  record_bytes_lem : (at : ℕ) (payload : List ℕ) → at + 6 ≤ length s → length payload ≡ length_at s at
      → drop (at + 6) s ≡ payload ++ drop (at + 6 + length_at s at) s
      → drop at s ≡ record_bytes (kind_at s at) payload ++ drop (at + 6 + length_at s at) s
  unfolding record_bytes
  record_bytes_lem at payload h l e =
      let six : at + 4 + 2 ≡ at + 6 = omega arith in
      four_bytes s small at (omega arith)
      ∙ ap (λ t. bytes4 (length_at s at) ++ t)
      (two_bytes s small (at + 4) (omega arith) ∙ ap (λ k. bytes2 (kind_at s at) ++ drop k s) six)
      ∙ ap (λ t. bytes4 (length_at s at) ++ (bytes2 (kind_at s at) ++ t)) e
      ∙ ap (λ k. bytes4 k ++ (bytes2 (kind_at s at) ++ (payload ++ drop (at + 6 + length_at s at) s))) (sym l)

  pub words_record : (at : ℕ) → at + 6 + length_at s at ≤ length s → length_at s at % 4 ≡ 0
      → drop at s ≡ record_bytes (kind_at s at) (word_bytes (payload_words s at)) ++ drop (at + 6 + length_at s at) s
  words_record at h m =
      let q : 4 * (length_at s at / 4) ≡ length_at s at = omega arith in
      let l : length (word_bytes (payload_words s at)) ≡ length_at s at =
      length-word_bytes (payload_words s at) ∙ ap (λ k. 4 * k) (length-payload s at) ∙ q in
      record_bytes_lem at (word_bytes (payload_words s at)) (omega arith) l
      (word-bytes s small (length_at s at / 4) (at + 6) (omega (arith, q, h))
      ∙ ap (λ k. word_bytes (payload_words s at) ++ drop (at + 6 + k) s) q)

  run-payload : (at : ℕ) → at + 15 ≤ length s
      → drop (at + 6) s ≡ (bytes4 (count_at s at) ++ line_byte_at s at ∷ bytes4 (input_at s at)) ++ drop (at + 15) s
  run-payload at h =
      let e : at + 6 + 4 ≡ at + 10 = omega arith in
      let f : at + 10 + 1 ≡ at + 11 = omega arith in
      let g : at + 11 + 4 ≡ at + 15 = omega arith in
      four_bytes s small (at + 6) (omega arith)
      ∙ ap (λ k. bytes4 (count_at s at) ++ drop k s) e
      ∙ ap (λ t. bytes4 (count_at s at) ++ t)
      (one_byte s small (at + 10) (omega arith)
      ∙ ap (λ k. line_byte_at s at ∷ drop k s) f
      ∙ ap (λ t. line_byte_at s at ∷ t)
      (four_bytes s small (at + 11) (omega arith) ∙ ap (λ k. bytes4 (input_at s at) ++ drop k s) g))

  run_record : (at : ℕ) → kind_at s at ≡ 3 → length_at s at ≡ 9 → at + 15 ≤ length s
      → drop at s ≡ record_bytes 3 (bytes4 (count_at s at) ++ line_byte_at s at ∷ bytes4 (input_at s at)) ++ drop (at + 15) s
  run_record at k l h =
      let e : at + 6 + length_at s at ≡ at + 15 = omega (arith, l) in
      let payload = bytes4 (count_at s at) ++ line_byte_at s at ∷ bytes4 (input_at s at) in
      record_bytes_lem at payload (omega arith) (sym l)
      (run-payload at h ∙ ap (λ j. payload ++ drop j s) (sym e))
      ∙ ap (λ j. record_bytes (kind_at s at) payload ++ drop j s) e
      ∙ ap (λ j. record_bytes j payload ++ drop (at + 15) s) k

-- the rest of the image from this offset on, which holds only runs
pub record Left (s : List ℕ) (at : ℕ) : Type 0 where
  pub bytes : drop at s ≡ run_bytes (runs_in s (begins 0 at (drop at s)))
  pub ok : runs_ok (runs_in s (begins 0 at (drop at s))) ≡ true

left_end : (s : List ℕ) (at : ℕ) → length s ≤ at → Left s at
unfolding run_bytes runs_ok
left_end s at h =
    let e = runs-end s at h in
    record { bytes = drop_of_length-le s h ∙ sym (ap run_bytes e); ok = ap runs_ok e }

module _ (n : ℕ) (s : List ℕ) (small : all_at_most 255 s ≡ true) where
  left-next : (at : ℕ) → Next n s at → Left s (at + 15) → Left s at
  unfolding run_bytes runs_ok
  left-next at x more =
      record {
        bytes = run_record s small at x.kind x.nine x.whole
            ∙ ap (λ t. record_bytes 3 (bytes4 (count_at s at) ++ line_byte_at s at ∷ bytes4 (input_at s at)) ++ t) more.bytes
            ∙ sym (ap run_bytes x.list);
        ok = ap runs_ok x.list
            ∙ (le-leb 1 (count_at s at) x.one
            &t le-leb (count_at s at) 65536 x.most
            &t le-leb (line_byte_at s at) 7 x.line_byte
            &t le-leb (input_at s at) 4294967295 (le4-small s small (at + 11))
            &t more.ok);
      }

  pub left : (fuel at : ℕ) → length s ≤ at + fuel → Runs n s at → Left s at
  left zero at le r = left_end s at (omega arith)
  left (suc fuel) at le r = go (dec_lt at (length s)) (left fuel (at + 15))
    where
      go : Dec (at < length s) → (length s ≤ at + 15 + fuel → Runs n s (at + 15) → Left s (at + 15)) → Left s at
      go (no ge) more = left_end s at (omega arith)
      go (yes h) more =
          let x = runs-next n s at r h in
          left-next at x (more (omega arith) x.runs)
