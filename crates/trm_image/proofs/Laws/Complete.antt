-- Every image that the paper describes is accepted when written out, and read back as it was.
-- Idea: record by record from an offset on, the runs by induction; the bytes after each record are known.
use Prim.Native.Nat.{ℕ, ◌+◌, ◌≤◌, ◌<◌}
use mathlib.Core.Path.{◌≡◌, refl, ap, ◌∙◌}
use mathlib.Core.Bool.{true, false, cond, ◌&&◌}
use mathlib.Core.List.{List, [], ◌∷◌, ◌++◌, append_assoc, append-nil}
use native.Mathlib.Omega.{arith}
use lib.ListN.{length, drop, length-drop}
use lib.Dec.{eqb, leb}
use borrow.Author.Tests.{leb-true, le-ltb, eq-eqb, ne_eqb}
use Rattle.trm_core.specs.Refusals.{all_at_most, program_ok}
use Rattle.trm_word.specs.Address.{store_length_ok}
use Rattle.trm_laws.proofs.Tests.{both, all4}
use Rattle.trm_image.specs.Records.{length_at, kind_at, begins, records_of}
use Rattle.trm_image.specs.Refused.{fault_at, first_fault, image_fault}
use Rattle.trm_image.specs.Meaning.{Run, Image, run_at, payload_words, words_in, runs_in, image_of}
use Rattle.trm_image.specs.Written.{word_bytes, record_bytes, run_bytes, image_bytes, runs_ok}
use Rattle.trm_image.specs.Claims.{WrittenAccepted}
use Rattle.trm_image.proofs.Laws.Walk.{next, ended, fault-later, fault-none, image-read}
use Rattle.trm_image.proofs.Laws.Readback.{Here, here}
use Rattle.trm_image.proofs.Laws.Unfaulted.{words-read, program_unfaulted, first_unfaulted}
use Rattle.trm_image.proofs.Laws.Unfaulted.{run_payload, Bounds, run-back, run_unfaulted}

-- from this offset on no record is at fault, and the records hold these words and runs
record Read (n : ℕ) (s : List ℕ) (before at : ℕ) (p ws : List ℕ) (rs : List Run) : Type 0 where
  free : first_fault n s before (begins 0 at (drop at s)) ≡ record { number = 0; at = 0 }
  program : words_in 1 s (begins 0 at (drop at s)) ≡ p
  first : words_in 2 s (begins 0 at (drop at s)) ≡ ws
  runs : runs_in s (begins 0 at (drop at s)) ≡ rs

module _ (n : ℕ) (s : List ℕ) (before at : ℕ) where
  read-end : length s ≤ at → Read n s before at [] [] []
  unfolding words_in runs_in
  read-end h =
      record {
        free = fault-none n s before at h;
        program = ap (words_in 1 s) (ended s at h);
        first = ap (words_in 2 s) (ended s at h);
        runs = ap (runs_in s) (ended s at h);
      }

  -- one more record in front
  read_more : (k : ℕ) (p ws : List ℕ) (rs : List Run) → at < length s → kind_at s at ≡ k → fault_at n s before at ≡ 0
      → Read n s k (at + 6 + length_at s at) p ws rs
      → Read n s before at (cond (eqb k 1) (payload_words s at) [] ++ p) (cond (eqb k 2) (payload_words s at) [] ++ ws)
      (cond (eqb k 3) (run_at s at ∷ []) [] ++ rs)
  unfolding words_in runs_in
  read_more k p ws rs h is z more =
      let e = next s at h in
      record {
        free = fault-later n s before at h (eq-eqb (fault_at n s before at) 0 z) ∙ rw is more.free;
        program = rw (e, is, more.program);
        first = rw (e, is, more.first);
        runs = rw (e, is, more.runs);
      }

module _ (n : ℕ) (legal : store_length_ok n ≡ true) (s : List ℕ) (small : length s ≤ 65536) where
  run-read : (before at : ℕ) (r : Run) (rs : List Run) (rest : List ℕ) → eqb before 0 ≡ false → Bounds r
      → Here s at 3 (run_payload r) rest → Read n s 3 (at + 6 + length_at s at) [] [] rs → Read n s before at [] [] (r ∷ rs)
  run-read before at r rs rest z b h more =
      rw (run-back n legal s at r rest h b) at
      (read_more n s before at 3 [] [] rs (let w = h.whole in omega (arith, w)) h.kind (run_unfaulted n legal s at r rest h b before z)
      more)

  runs-read : (rs : List Run) (before at : ℕ) → eqb before 0 ≡ false → runs_ok rs ≡ true → drop at s ≡ run_bytes rs
      → Read n s before at [] [] rs
  unfolding runs_ok run_bytes
  runs-read [] before at z ok e =
      let l = length-drop at s in
      let m : length (drop at s) ≡ 0 = ap length e in
      read-end n s before at (omega (arith, l, m))
  runs-read (r ∷ rs) before at z ok e =
      let h = here s at 3 (run_payload r) (run_bytes rs) small (omega arith) e in
      both (leb 1 r.count && leb r.count 65536 && leb r.line_byte 7 && leb r.input 4294967295) (runs_ok rs)
      (λ t more.
      all4 (leb 1 r.count) (leb r.count 65536) (leb r.line_byte 7) (leb r.input 4294967295)
      (λ a b c d.
      run-read before at r rs (run_bytes rs) z
      (record {
        one = leb-true 1 r.count a;
        most = leb-true r.count 65536 b;
        line_byte = leb-true r.line_byte 7 c;
        input = leb-true r.input 4294967295 d;
      })
      h (runs-read rs 3 (at + 6 + length_at s at) refl more h.after))
      t)
      ok

  -- first data words, then runs
  second-read : (ws : List ℕ) (rs : List Run) (at : ℕ) → length ws ≤ n → all_at_most 4294967295 ws ≡ true → runs_ok rs ≡ true
      → drop at s ≡ record_bytes 2 (word_bytes ws) ++ run_bytes rs → Read n s 1 at [] ws rs
  second-read ws rs at most words ok e =
      let h = here s at 2 (word_bytes ws) (run_bytes rs) small (omega arith) e in
      let w = h.whole in
      rw (words-read s at 2 ws (run_bytes rs) h words, append-nil ws) at
      (read_more n s 1 at 2 [] [] rs (omega (arith, w)) h.kind (first_unfaulted n legal s at ws (run_bytes rs) h most)
      (runs-read rs 2 (at + 6 + length_at s at) refl ok h.after))

  -- a program, then the rest
  head_read : (p ws rest : List ℕ) (rs : List Run) → program_ok p ≡ true → Here s 0 1 (word_bytes p) rest
      → Read n s 1 (6 + length_at s 0) [] ws rs → Read n s 0 0 p ws rs
  head_read p ws rest rs ok h more =
      let w = h.whole in
      let u = program_unfaulted n legal s p rest h ok in
      rw (u.1, append-nil p) at (read_more n s 0 0 1 [] ws rs (omega (arith, w)) h.kind u.0 more)

  -- the whole image
  all_read : 0 < length s → (p ws : List ℕ) (rs : List Run) → Read n s 0 0 p ws rs
      → (image_fault n s ≡ record { number = 0; at = 0 }) × (image_of s ≡ record { program = p; first = ws; runs = rs })
  unfolding records_of image_of
  all_read some p ws rs x =
      let z : length s ≡ 0 → ⊥ = λ e. omega (arith, e, some) in (
        image-read n s (le-ltb 65536 (length s) small) (ne_eqb (length s) 0 z) ∙ x.free,
        rw (x.program, x.first, x.runs),
      )

  read_back : (I : Image) (rest : List ℕ) → program_ok I.program ≡ true
      → s ≡ record_bytes 1 (word_bytes I.program) ++ rest
      → (drop (6 + length_at s 0) s ≡ rest → Read n s 1 (6 + length_at s 0) [] I.first I.runs)
      → (image_fault n s ≡ record { number = 0; at = 0 }) × (image_of s ≡ I)
  read_back I rest ok e more =
      let h = here s 0 1 (word_bytes I.program) rest small (omega arith) e in
      let w = h.whole in
      all_read (omega (arith, w)) I.program I.first I.runs
      (head_read I.program I.first rest I.runs ok h (more h.after))

pub written_accepted : WrittenAccepted
unfolding image_bytes
written_accepted n true I store m none small =
    let A = record_bytes 1 (word_bytes I.program) in
    let B = record_bytes 2 (word_bytes I.first) in
    let s = image_bytes true I in
    read_back n store s small I (B ++ run_bytes I.runs) m.program
    (append_assoc A B (run_bytes I.runs))
    (λ e. second-read n store s small I.first I.runs (6 + length_at s 0) m.first m.words m.runs e)
written_accepted n false I store m none small =
    let A = record_bytes 1 (word_bytes I.program) in
    let s = image_bytes false I in
    read_back n store s small I (run_bytes I.runs) m.program
    (ap (λ t. t ++ run_bytes I.runs) (append-nil A))
    (λ e. rw (none refl) (runs-read n store s small I.runs 1 (6 + length_at s 0) refl m.runs e))
