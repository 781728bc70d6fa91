-- A run of the board: its clocks one after another, its last state, counts and buffers.
-- Request A1; document 01: "A run carries out one clock per line byte"; "Per clock it writes a byte .. and the word moved".
--   board_run_of p x joined given switches   the run
--   column f os   one number of each clock        answers_of os   the core's answers
use Rattle.std.specs.Prelude.{ℕ, Bool, List, [], ◌∷◌, length}
use Rattle.trm_reference.specs.Geometry.{paper_geometry}
use Rattle.trm_reference.specs.Access.{Answer}
use Rattle.trm_reference.specs.Trace.{After, clocks, end_of, outs_of, finished_in}
use Rattle.trm_core.specs.Record.{Lent}
use Rattle.trm_serial.specs.Timing.{paper_timing}
use Rattle.trm_board.specs.Board.{Inputs, inputs_of, Board, Shown, board_clock}
use Rattle.trm_board_calls.specs.Cores.{record_core}

-- a byte of each list for each clock
unfoldable pub run_inputs : Bool → List ℕ → List ℕ → List Inputs
run_inputs joined [] ws = []
run_inputs joined (g ∷ gs) [] = []
run_inputs joined (g ∷ gs) (w ∷ ws) = inputs_of joined g w ∷ run_inputs joined gs ws

unfoldable pub answers_of : List Shown → List Answer
answers_of [] = []
answers_of (o ∷ os) = o.answer ∷ answers_of os

unfoldable pub column : (Shown → ℕ) → List Shown → List ℕ
column f [] = []
column f (o ∷ os) = f o ∷ column f os

abbrev pub level_of : Shown → ℕ
level_of o = o.level

abbrev pub byte_of : Shown → ℕ
byte_of o = o.answer.byte

abbrev pub word_of : Shown → ℕ
word_of o = o.answer.word

-- what a run leaves and reports
pub record BoardRan : Type 0 where
  pub state : Board Lent
  pub used : ℕ
  pub finished : ℕ
  pub levels : List ℕ
  pub bytes : List ℕ
  pub words : List ℕ

-- the clock history of the board
abbrev pub board_history : List ℕ → Board Lent → List Inputs → List (After (Board Lent) Shown)
board_history p x is = clocks (board_clock paper_timing (record_core paper_geometry p)) x is

unfoldable pub board_run_of : List ℕ → Board Lent → Bool → List ℕ → List ℕ → BoardRan
board_run_of p x joined given switches =
    record {
      state = end_of x (board_history p x (run_inputs joined given switches));
      used = length given;
      finished = finished_in (answers_of (outs_of (board_history p x (run_inputs joined given switches))));
      levels = column level_of (outs_of (board_history p x (run_inputs joined given switches)));
      bytes = column byte_of (outs_of (board_history p x (run_inputs joined given switches)));
      words = column word_of (outs_of (board_history p x (run_inputs joined given switches)));
    }
