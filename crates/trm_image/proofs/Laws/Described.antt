-- Every accepted image has the form that the paper describes.
-- Idea: by cases of whether the second record holds first data words.
use Prim.Native.Nat.{ℕ, ◌+◌, ◌/◌}
use mathlib.Core.Path.{◌≡◌, sym, ap, ap₂, ◌∙◌}
use mathlib.Core.Bool.{true, false}
use mathlib.Core.List.{List, ◌++◌, append_assoc, append-nil}
use native.Mathlib.Omega.{arith}
use native.Mathlib.Decide.{ℕ_discrete}
use lib.ListN.{length, drop}
use Rattle.trm_core.specs.Refusals.{all_at_most, program_ok}
use Rattle.trm_laws.proofs.Tests.{clash}
use Rattle.trm_image.specs.Records.{length_at, kind_at}
use Rattle.trm_image.specs.Meaning.{payload_words, image_of}
use Rattle.trm_image.specs.Written.{word_bytes, record_bytes, run_bytes, image_bytes, runs_ok, Meant}
use Rattle.trm_image.specs.Claims.{Described, AcceptedDescribed}
use Rattle.trm_image.proofs.Laws.Bytes.{words_small}
use Rattle.trm_image.proofs.Laws.Accepted.{Head, Second, Third, accepted-head, accepted-second, accepted-third, kind-inside}
use Rattle.trm_image.proofs.Laws.Written.{length-payload, words_record, Left, left}

module _ (n : ℕ) (s : List ℕ) (small : all_at_most 255 s ≡ true) (h : Head n s) where
  -- the program's record and what follows it
  head_bytes : s ≡ record_bytes 1 (word_bytes (image_of s).program) ++ drop (6 + length_at s 0) s
  head_bytes = words_record s small 0 h.whole h.fours
      ∙ ap (λ k. record_bytes k (word_bytes (payload_words s 0)) ++ drop (6 + length_at s 0) s) h.kind
      ∙ ap (λ p. record_bytes 1 (word_bytes p) ++ drop (6 + length_at s 0) s) (sym h.is)

  program-ok : program_ok (image_of s).program ≡ true
  program-ok = ap program_ok h.is ∙ h.program

  third-bytes : Third n s → s ≡ image_bytes false (image_of s)
  unfolding image_bytes
  third-bytes x =
      let A = record_bytes 1 (word_bytes (image_of s).program) in
      let l = left n s small (length s) (6 + length_at s 0) (omega arith) x.runs in
      head_bytes
      ∙ ap (λ t. A ++ t) (l.bytes ∙ sym (ap run_bytes x.list))
      ∙ ap (λ t. t ++ run_bytes (image_of s).runs) (sym (append-nil A))

  third-meant : Third n s → Meant n (image_of s)
  unfolding all_at_most
  third-meant x =
      let l = left n s small (length s) (6 + length_at s 0) (omega arith) x.runs in
      record {
        program = program-ok;
        first = rw x.first (omega arith);
        words = ap (all_at_most 4294967295) x.first;
        runs = ap runs_ok x.list ∙ l.ok;
      }

  second-left : Second n s → Left s (6 + length_at s 0 + 6 + length_at s (6 + length_at s 0))
  second-left x = left n s small (length s) (6 + length_at s 0 + 6 + length_at s (6 + length_at s 0)) (omega arith) x.runs

  -- the record of first data words and what follows it
  second-record : Second n s → kind_at s (6 + length_at s 0) ≡ 2
      → drop (6 + length_at s 0) s ≡ record_bytes 2 (word_bytes (image_of s).first) ++ run_bytes (image_of s).runs
  second-record x k =
      words_record s small (6 + length_at s 0) x.whole x.fours
      ∙ ap₂ (λ j t. record_bytes j (word_bytes (payload_words s (6 + length_at s 0))) ++ t) k
      ((second-left x).bytes ∙ sym (ap run_bytes x.list))
      ∙ ap (λ p. record_bytes 2 (word_bytes p) ++ run_bytes (image_of s).runs) (sym x.first)

  second-bytes : Second n s → kind_at s (6 + length_at s 0) ≡ 2 → s ≡ image_bytes true (image_of s)
  unfolding image_bytes
  second-bytes x k =
      let A = record_bytes 1 (word_bytes (image_of s).program) in
      head_bytes
      ∙ ap (λ t. A ++ t) (second-record x k)
      ∙ sym (append_assoc A (record_bytes 2 (word_bytes (image_of s).first)) (run_bytes (image_of s).runs))

  second-meant : Second n s → Meant n (image_of s)
  second-meant x =
      let l : length (image_of s).first ≡ length_at s (6 + length_at s 0) / 4 =
      ap length x.first ∙ length-payload s (6 + length_at s 0) in
      record {
        program = program-ok;
        first = omega (arith, l, x.fits);
        words = ap (all_at_most 4294967295) x.first
            ∙ words_small s small (6 + length_at s 0 + 6) (length_at s (6 + length_at s 0) / 4);
        runs = ap runs_ok x.list ∙ (second-left x).ok;
      }

pub accepted_described : AcceptedDescribed
accepted_described n s small e = go (accepted-head n s e) (ℕ_discrete (kind_at s (6 + length_at s 0)) 2)
  where
    go : Head n s → Dec (kind_at s (6 + length_at s 0) ≡ 2) → Described n s
    go h (yes k) =
        let x = accepted-second n s e k (kind-inside s (6 + length_at s 0) k) in
        record {
          second = true;
          bytes = second-bytes n s small h x k;
          meant = second-meant n s small h x;
          none = λ t. clash (sym t);
          small = h.small;
          store = h.store;
        }
    go h (no z) =
        let x = accepted-third n s e z in
        record {
          second = false;
          bytes = third-bytes n s small h x;
          meant = third-meant n s small h x;
          none = λ t. x.first;
          small = h.small;
          store = h.store;
        }
