-- A run: one clock per line byte, the counts that it reports, and the answers that it writes.
-- Paper: "A run carries out one clock per line byte and reports the clocks used and instructions finished. Per clock it writes a byte
-- .. and the word moved".
--   run_of G p x lines inputs   the state after an accepted run, and what it reports
use Rattle.std.specs.Prelude.{ℕ, List, [], ◌∷◌, length}
use Rattle.trm_reference.specs.Geometry.{Geometry}
use Rattle.trm_reference.specs.Access.{Answer}
use Rattle.trm_reference.specs.Trace.{After, pins_of, clocks, end_of, outs_of, finished_in}
use Rattle.trm_core.specs.Record.{Lent}
use Rattle.trm_core.specs.Clock.{clock_of}

unfoldable pub bytes_of : List Answer → List ℕ
bytes_of [] = []
bytes_of (a ∷ as') = a.byte ∷ bytes_of as'

unfoldable pub words_of : List Answer → List ℕ
words_of [] = []
words_of (a ∷ as') = a.word ∷ words_of as'

-- the clock history of a run
unfoldable pub history_of : Geometry → List ℕ → Lent → List ℕ → List ℕ → List (After Lent Answer)
history_of G p x line_bytes inputs = clocks (clock_of G p) x (pins_of line_bytes inputs)

pub record Ran : Type 0 where
  pub state : Lent
  pub used : ℕ
  pub finished : ℕ
  pub bytes : List ℕ
  pub words : List ℕ

unfoldable pub run_of : Geometry → List ℕ → Lent → List ℕ → List ℕ → Ran
run_of G p x line_bytes inputs =
    record {
      state = end_of x (history_of G p x line_bytes inputs);
      used = length line_bytes;
      finished = finished_in (outs_of (history_of G p x line_bytes inputs));
      bytes = bytes_of (outs_of (history_of G p x line_bytes inputs));
      words = words_of (outs_of (history_of G p x line_bytes inputs));
    }
