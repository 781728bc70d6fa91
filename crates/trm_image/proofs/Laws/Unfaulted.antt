-- A record that was written out in the paper's format has no fault.
-- Idea: its kind is known, so only the tests of that kind remain, and each is one of its bounds.
use Prim.Native.Nat.{ℕ, ◌+◌, ◌*◌, ◌-◌, ◌/◌, ◌%◌, ◌≤◌}
use mathlib.Core.Path.{◌≡◌, sym, ap, ◌∙◌}
use mathlib.Core.Bool.{true, false}
use mathlib.Core.List.{List, ◌∷◌, ◌++◌}
use native.Mathlib.Omega.{arith}
use lib.ListN.{length, drop}
use lib.Dec.{eqb, leb}
use borrow.Author.Tests.{leb-true, le-ltb, ne_eqb, eq-eqb}
use Rattle.trm_word.specs.Address.{store_length_ok}
use Rattle.trm_core.specs.Refusals.{all_at_most, program_ok}
use Rattle.trm_laws.proofs.Tests.{all3}
use Rattle.trm_image.specs.Records.{length_at, words_at}
use Rattle.trm_image.specs.Refused.{cut_short, length_wrong, count_at, line_byte_at, input_at, count_wrong, in_order, word_wrong}
use Rattle.trm_image.specs.Refused.{line_byte_wrong, fault_at}
use Rattle.trm_image.specs.Meaning.{Run, run_at, payload_words}
use Rattle.trm_image.specs.Written.{bytes4, word_bytes}
use Rattle.trm_image.proofs.Laws.Clean.{Clean}
use Rattle.trm_image.proofs.Laws.Bytes.{length-word_bytes}
use Rattle.trm_image.proofs.Laws.Readback.{Here, further, byte-back, le4-back, words_back, at_most-more}

pub unfaulted : (n : ℕ) (s : List ℕ) (before at : ℕ) → Clean n s before at → fault_at n s before at ≡ 0
unfolding fault_at
unfaulted n s before at c = rw (c.whole, c.length, c.count, c.order, c.word, c.store, c.line_byte)

not-cut : (s : List ℕ) (at : ℕ) → at + 6 + length_at s at ≤ length s → cut_short s at ≡ false
unfolding cut_short
not-cut s at h =
    rw (le-ltb (length s - at) 6 (omega arith), le-ltb (length s - (at + 6)) (length_at s at) (omega arith))

-- a record of words
module _ (s : List ℕ) (at k : ℕ) (ws rest : List ℕ) (h : Here s at k (word_bytes ws) rest) where
  words_long : length_at s at ≡ 4 * length ws
  words_long = h.bytes ∙ length-word_bytes ws

  words_count : length_at s at / 4 ≡ length ws
  words_count = omega (arith, words_long)

  words-fours : eqb (length_at s at % 4) 0 ≡ true
  words-fours = eq-eqb (length_at s at % 4) 0 (omega (arith, words_long))

  pub words-read : all_at_most 4294967295 ws ≡ true → payload_words s at ≡ ws
  words-read ok = ap (words_at s (at + 6)) words_count ∙ words_back s ws rest (at + 6) ok h.inner

module _ (n : ℕ) (legal : store_length_ok n ≡ true) (s : List ℕ) (p rest : List ℕ) (h : Here s 0 1 (word_bytes p) rest) where
  pub program-read : all_at_most 0x3FFFF p ≡ true → payload_words s 0 ≡ p
  program-read ok = words-read s 0 1 p rest h (at_most-more 0x3FFFF 4294967295 p (omega arith) ok)

  program-clean : 1 ≤ length p → length p ≤ 4096 → all_at_most 0x3FFFF p ≡ true → Clean n s 0 0
  unfolding length_wrong count_wrong in_order word_wrong line_byte_wrong
  program-clean one most ok =
      let l = words_long s 0 1 p rest h in
      record {
        whole = not-cut s 0 h.whole;
        length =
            rw (
              h.kind,
              le-ltb (length_at s 0) 4 (omega (arith, l, one)),
              le-ltb 16384 (length_at s 0) (omega (arith, l, most)),
              words-fours s 0 1 p rest h,
            );
        count = rw h.kind;
        order = rw h.kind;
        word = rw (h.kind, program-read ok, ok);
        store = legal;
        line_byte = rw h.kind;
      }

  pub program_unfaulted : program_ok p ≡ true → (fault_at n s 0 0 ≡ 0) × (payload_words s 0 ≡ p)
  unfolding program_ok
  program_unfaulted =
      all3 (leb 1 (length p)) (leb (length p) 4096) (all_at_most 0x3FFFF p)
      (λ a b c.
      (unfaulted n s 0 0 (program-clean (leb-true 1 (length p) a) (leb-true (length p) 4096 b) c), program-read c))

module _ (n : ℕ) (legal : store_length_ok n ≡ true) (s : List ℕ) (at : ℕ) (ws rest : List ℕ) (h : Here s at 2 (word_bytes ws) rest) where
  first-clean : length ws ≤ n → Clean n s 1 at
  unfolding length_wrong count_wrong in_order word_wrong line_byte_wrong
  first-clean most =
      let c = words_count s at 2 ws rest h in
      record {
        whole = not-cut s at h.whole;
        length = rw (h.kind, le-ltb n (length_at s at / 4) (omega (arith, c, most)), words-fours s at 2 ws rest h);
        count = rw h.kind;
        order = rw h.kind;
        word = rw h.kind;
        store = legal;
        line_byte = rw h.kind;
      }

  pub first_unfaulted : length ws ≤ n → fault_at n s 1 at ≡ 0
  first_unfaulted most = unfaulted n s 1 at (first-clean most)

-- a run
abbrev pub run_payload : Run → List ℕ
run_payload r = bytes4 r.count ++ r.line_byte ∷ bytes4 r.input

pub record Bounds (r : Run) : Type 0 where
  pub one : 1 ≤ r.count
  pub most : r.count ≤ 65536
  pub line_byte : r.line_byte ≤ 7
  pub input : r.input ≤ 4294967295

module _ (n : ℕ) (legal : store_length_ok n ≡ true) (s : List ℕ) (at : ℕ) (r : Run) (rest : List ℕ)
    (h : Here s at 3 (run_payload r) rest) (b : Bounds r) where
  count-back : count_at s at ≡ r.count
  count-back = le4-back s (at + 6) r.count (omega (arith, b.most)) h.inner

  line_byte-back : line_byte_at s at ≡ r.line_byte
  line_byte-back =
      let e : at + 6 + 4 ≡ at + 10 = omega arith in
      byte-back s (at + 10) r.line_byte (ap (λ k. drop k s) (sym e) ∙ further s (at + 6) 4 h.inner)

  input_back : input_at s at ≡ r.input
  input_back =
      let e : at + 6 + 5 ≡ at + 11 = omega arith in
      le4-back s (at + 11) r.input b.input (ap (λ k. drop k s) (sym e) ∙ further s (at + 6) 5 h.inner)

  pub run-back : run_at s at ≡ r
  run-back = rw (count-back, line_byte-back, input_back)

  run-clean : (before : ℕ) → eqb before 0 ≡ false → Clean n s before at
  unfolding length_wrong count_wrong in_order word_wrong line_byte_wrong
  run-clean before z =
      record {
        whole = not-cut s at h.whole;
        length = rw (h.kind, h.bytes);
        count =
            rw (h.kind, count-back, ne_eqb r.count 0 (λ e. omega (arith, e, b.one)), le-ltb 65536 r.count b.most);
        order = rw (h.kind, z);
        word = rw h.kind;
        store = legal;
        line_byte = rw (h.kind, line_byte-back, le-ltb 7 r.line_byte b.line_byte);
      }

  pub run_unfaulted : (before : ℕ) → eqb before 0 ≡ false → fault_at n s before at ≡ 0
  run_unfaulted before z = unfaulted n s before at (run-clean before z)
