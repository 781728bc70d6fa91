-- A clock is a run of one line byte: the same refusals, and the same outcome.
-- Idea: with one line byte every length in the run's rows computes.
--   low, one-refusal, one_free   the refusals        one-ran   the outcome
use Prim.Native.Nat.{ℕ, ◌+◌}
use mathlib.Core.Path.{◌≡◌, refl, sym, ap, ◌∙◌}
use mathlib.Core.Bool.{Bool, true, false, not, ◌&&◌}
use mathlib.Core.List.{List, [], ◌∷◌}
use lib.ListN.{get_or}
use lib.Dec.{leb, ltb}
use borrow.Author.Tests.{leb-true, leb-false, le-ltb, lt-ltb}
use native.Mathlib.Omega.{arith}
use Rattle.trm_reference.specs.Geometry.{paper_geometry}
use Rattle.trm_reference.specs.Trace.{pins_of, clocks, end_of, outs_of, finished_in}
use Rattle.trm_core.specs.Record.{Machine, Lent}
use Rattle.trm_core.specs.Clock.{clock_of}
use Rattle.trm_core.specs.Refusals.{all_at_most, line_bytes_refused, run_rows, clock_rows, clock_refusal, run_refusal}
use Rattle.trm_core.specs.Run.{bytes_of, words_of, history_of, Ran, run_of}

-- row 6 of one line byte
pub low : (line_byte : ℕ) → not (leb line_byte 7 && true) ≡ ltb 7 line_byte
low line_byte = go (leb line_byte 7) refl
  where
    go : (t : Bool) → leb line_byte 7 ≡ t → not (t && true) ≡ ltb 7 line_byte
    go true e = sym (le-ltb 7 line_byte (leb-true line_byte 7 e))
    go false e = sym (lt-ltb 7 line_byte (leb-false line_byte 7 e))

pub one-refusal : (p : List ℕ) (m : Machine) (s : List ℕ) (line_byte input b w : ℕ)
    → run_refusal paper_geometry p m s (line_byte ∷ []) (input ∷ []) (b ∷ []) (w ∷ []) ≡ clock_refusal paper_geometry p m s line_byte
unfolding clock_refusal run_refusal run_rows clock_rows line_bytes_refused all_at_most
one-refusal p m s line_byte input b w = rw (low line_byte)

pub one_free : (p : List ℕ) (m : Machine) (s : List ℕ) (line_byte input b w : ℕ) → clock_refusal paper_geometry p m s line_byte ≡ 0
    → run_refusal paper_geometry p m s (line_byte ∷ []) (input ∷ []) (b ∷ []) (w ∷ []) ≡ 0
one_free p m s line_byte input b w e = one-refusal p m s line_byte input b w ∙ e

pub one-ran : (p : List ℕ) (x : Lent) (line_byte input : ℕ) (y : Lent) (f : ℕ) (bs ws : List ℕ)
    → record { state = y; used = 1; finished = f; bytes = bs; words = ws } ≡ run_of paper_geometry p x (line_byte ∷ []) (input ∷ [])
    → record { state = y; out = record { byte = get_or bs 0 0; word = get_or ws 0 0; done = f } }
    ≡ clock_of paper_geometry p x (record { line_byte = line_byte; input = input })
unfolding run_of history_of pins_of clocks end_of outs_of finished_in bytes_of words_of
one-ran p x line_byte input y f bs ws e =
    let t = clock_of paper_geometry p x (record { line_byte = line_byte; input = input }) in
    ap (λ (u : Ran). record {
      state = u.state;
      out = record {
        byte = get_or u.bytes 0 0;
        word = get_or
            u.words 0 0;
        done = u.finished;
      };
    }) e
    ∙ ap (λ d. record { state = t.state; out = record { byte = t.out.byte; word = t.out.word; done = d } }) (zero-add t.out.done)
  where
    zero-add : (d : ℕ) → d + 0 ≡ d
    zero-add d = omega arith
