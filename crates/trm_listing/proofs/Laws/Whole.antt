-- The whole output is the first piece and what is still to be written after it.
-- Idea: the text clock by clock is all rows and then the last one.
use Prim.Native.Nat.{ℕ, ◌-◌, ◌/◌, ◌≤◌}
use mathlib.Core.Path.{◌≡◌, refl, sym, ap, ◌∙◌, subst}
use mathlib.Core.Bool.{false, cond}
use mathlib.Core.List.{List, [], ◌∷◌, ◌++◌, append_assoc, append-nil}
use native.Mathlib.Omega.{arith}
use lib.ListN.{length, take, drop, replicate, length-append, length-replicate}
use lib.Seq.{take_at}
use lib.Dec.{eqb}
use Rattle.trm_reference.specs.Geometry.{paper_geometry}
use Rattle.trm_reference.specs.Trace.{Pins, clocks, end_of}
use Rattle.trm_core.specs.Record as core
use Rattle.trm_core.specs.Record.{Lent, reset_of}
use Rattle.trm_core.specs.Clock.{clock_of}
use Rattle.trm_core.specs.Claims.{Kept}
use Rattle.trm_core.specs.Refusals.{reset_refusal}
use Rattle.trm_clock_laws.proofs.Laws.Facts.{paper_ok}
use Rattle.trm_core.proofs.Laws.Reset.{reset_kept}
use Rattle.trm_image.specs.Records.{length_at, payload_at, words_at, begins}
use Rattle.trm_image.specs.Refused.{image_fault}
use Rattle.trm_image.specs.Meaning.{Image, image_of, runs_in}
use Rattle.trm_image.proofs.Laws.Accepted.{Head, accepted-head, length-words_at}
use Rattle.trm_image.proofs.Laws.Parts.{payload-words, payload-length}
use Rattle.trm_list_text.specs.Rows.{Row, row_bytes, rows_bytes, header, refused_bytes}
use Rattle.trm_list_text.specs.Wrote.{Wrote}
use Rattle.trm_list_rows.specs.Rows.{row_of, took_after, rows_from, end_row}
use Rattle.trm_listing.specs.Listing.{pins_of_runs, start_of, rows_of, final_of}
use Rattle.trm_listing.specs.Listing.{listing_of, output_of}
use Rattle.trm_list_rows.specs.Onward.{text_from}
use Rattle.trm_listing.specs.Rest.{Stands}
use Rattle.trm_listing.specs.Loaded.{Loaded}
use Rattle.trm_listing.specs.Pieces.{program_after}

rows_append : (ls ms : List Row) → rows_bytes (ls ++ ms) ≡ rows_bytes ls ++ rows_bytes ms
unfolding rows_bytes
rows_append [] ms = refl
rows_append (l ∷ ls) ms = ap (λ t. row_bytes l ++ t) (rows_append ls ms) ∙ sym (append_assoc (row_bytes l) (rows_bytes ls)
    (rows_bytes ms))

text-all : (p : List ℕ) (is : List Pins) (x : Lent) (took : ℕ)
    → text_from p x took is ≡ rows_bytes (rows_from p x took is) ++ end_row (end_of x (clocks (clock_of paper_geometry p) x is))
unfolding text_from rows_from rows_bytes clocks end_of
text-all p [] x took = refl
text-all p (i ∷ is) x took =
    let after = (clock_of paper_geometry p x i).state in
    let t = took_after p x i took in
    let e = end_row (end_of after (clocks (clock_of paper_geometry p) after is)) in
    ap (λ r. rows_bytes (row_of p x i took) ++ r) (text-all p is after t)
    ∙ sym (append_assoc (rows_bytes (row_of p x i took)) (rows_bytes (rows_from p after t is)) e)
    ∙ ap (λ r. r ++ e) (sym (rows_append (row_of p x i took) (rows_from p after t is)))

listing-text : (I : Image) → listing_of I ≡ header ++ text_from I.program (start_of I.first) 0 (pins_of_runs I.runs)
unfolding listing_of rows_of final_of
listing-text I =
    append_assoc header (rows_bytes (rows_from I.program (start_of I.first) 0 (pins_of_runs I.runs))) _
    ∙ ap (λ t. header ++ t) (sym (text-all I.program (pins_of_runs I.runs) (start_of I.first) 0))

reset-clocks : (st : List ℕ) → (reset_of paper_geometry st).scalars.counts.clocks ≡ 0
unfolding reset_of
reset-clocks st = refl

-- what an accepted image leaves in the arrays
pub taken : (n : ℕ) (new old st : List ℕ) → n ≡ 0 → st ≡ new → st ≡ cond (eqb n 0) new old
taken n new old st z e = rw z e

module _ (s : List ℕ) where
  pub output-refused : (n a len : ℕ) (b b' : List ℕ) → n ≡ (image_fault 2048 s).number → a ≡ (image_fault 2048 s).at → eqb n 0 ≡ false
      → Wrote b 0 (refused_bytes n a) b' len → output_of s ≡ take len b' ++ []
  unfolding output_of
  output-refused n a len b b' e f z w = rw (← e, ← f, z) (sym (append-nil (take len b') ∙ w.text))

  -- the image is accepted
  module _ (ok : (image_fault 2048 s).number ≡ 0) where
    pub program_is : (n : ℕ) (program : List ℕ) → n ≡ length_at s 0 / 4 → program ≡ words_at s 6 n ++ replicate (4096 - n) 0
        → take n program ≡ (image_of s).program
    program_is n program e f =
        ap (take n) f ∙ take_at (words_at s 6 n) (replicate (4096 - n) 0) n (length-words_at s 6 n)
        ∙ ap (words_at s 6) e ∙ sym (accepted-head 2048 s ok).is

    pub program-array : (n : ℕ) (program old : List ℕ) → n ≡ length_at s 0 / 4 → program ≡ words_at s 6 n ++ replicate (4096 - n) 0
        → program ≡ program_after s old
    program-array n program old e f =
        let q : (image_of s).program ≡ words_at s 6 n = (accepted-head 2048 s ok).is ∙ ap (words_at s 6) (sym e) in
        rw (ok, q, length-words_at s 6 n) f

    pub program-whole : (n : ℕ) (program : List ℕ) → n ≡ length_at s 0 / 4 → program ≡ words_at s 6 n ++ replicate (4096 - n) 0
        → length program ≡ 4096
    program-whole n program e f =
        let h : length_at s 0 ≤ 16384 = (accepted-head 2048 s ok).long in
        let a = length-append (words_at s 6 n) (replicate (4096 - n) 0) in
        let w = length-words_at s 6 n in
        let z = length-replicate {A = ℕ} (4096 - n) 0 in
        ap length f ∙ omega (arith, a, w, z, e, h)

    -- as the code reads them, from the payload slice
    module _ (part : List ℕ) (e : part ≡ payload_at s 0) where
      pub part-long : length part ≡ length_at s 0
      part-long = ap length e ∙ payload-length s 0 (accepted-head 2048 s ok).whole

      pub program-read : (program : List ℕ) (room : ℕ) → room ≡ 4096
          → program ≡ words_at part 0 (length part / 4) ++ replicate (room - length part / 4) 0
          → program ≡ words_at s 6 (length part / 4) ++ replicate (4096 - length part / 4) 0
      program-read program room r q =
          let w = ap (λ t. words_at t 0 (length part / 4)) e ∙ payload-words s 0 (length part / 4) (omega (arith, part-long)) in
          rw r at (q ∙ ap (λ ws. ws ++ replicate (room - length part / 4) 0) w)

    module _ (p : List ℕ) (is : p ≡ (image_of s).program) (m : core.Machine) (st : List ℕ) (reset : m ≡ reset_of paper_geometry st) (at : ℕ)
        (loaded : Loaded s st at) where
      pub output-begun : (left : ℕ) (line_byte : ℕ) (input : ℕ) → left ≡ 0 → (len : ℕ) (b b' : List ℕ) → Wrote b 0 header b' len
          → output_of s ≡ take len b' ++ text_from p (record { machine = m; store = st }) 0
          (replicate left (record { line_byte = line_byte; input = input }) ++ pins_of_runs (runs_in s (begins 0 at (drop at s))))
      unfolding output_of start_of
      output-begun left line_byte input none len b b' w =
          rw (ok, none, w.text, is, reset, ← loaded.list, loaded.store) (listing-text (image_of s))

      pub begun-stands : length st ≡ 2048
          → Stands s p
          (record { listed = record { scalars = m.scalars; left = 0; took = 0; len = 0 }; at = at; pins = 0; input = 0 })
          (record { machine = m; store = st }) []
      unfolding reset_refusal
      begun-stands long =
          let h : Head 2048 s = accepted-head 2048 s ok in
          let legal : reset_refusal st ≡ 0 = rw (long, h.store) in
          let k : Kept paper_geometry p (record { machine = m; store = st }) =
          subst (λ y. Kept paper_geometry p (record { machine = y; store = st })) (sym reset)
          (reset_kept paper_geometry p st paper_ok legal) in
          let none : m.scalars.counts.clocks ≡ 0 = ap (λ (y : core.Machine). y.scalars.counts.clocks) reset ∙ reset-clocks st in
          record {
            able = record {
              program = rw (is, h.is) h.program;
              store = k.store;
              rule = k.record_ok_lem;
              shaped = k.shaped;
              room = omega (arith, none);
              few = omega arith;
              low = omega arith;
            };
            runs = loaded.runs;
            small = h.small;
            room = omega (arith, none, h.small);
            fits = omega arith;
          }
