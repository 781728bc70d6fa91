-- The outcome of the board's calls on every input, refused or not: the number, the board, the store, the level and the answers, the
-- buffers.
-- Request A1; document 01: "Checks go down the table .. It returns the number only and writes nothing".
--   board_clock_gives p x joined given switches, board_run_gives   the outcome of each; joined: the line is joined to itself
--   clock_left b r s, run_left    the outcome that a result shows
--   ResetHolds, ClockHolds, RunHolds    the whole promise of each call, r being its result
use Rattle.std.specs.Prelude.{ℕ, ◌≡◌, Bool, cond, List, eqb, Result, Ok, Err, IfOk}
use Rattle.trm_reference.specs.Geometry.{paper_geometry}
use Rattle.trm_reference.specs.Access.{silent}
use Rattle.trm_reference.specs.Trace.{After}
use Rattle.trm_core.specs.Record.{Lent}
use Rattle.trm_core.specs.Refusals.{reset_refusal}
use Rattle.trm_call_refusals.specs.Numbers.{number_in}
use Rattle.trm_call_refusals.specs.declared.refusal.Refusal.{Refusal}
use Rattle.trm_calls.specs.Promises.{reset_gives}
use Rattle.trm_serial.specs.Timing.{paper_timing}
use Rattle.trm_board.specs.Board.{inputs_of, Board, Shown, board_reset, board_clock}
use Rattle.trm_board_calls.specs.declared.board_record.Board as coded
use Rattle.trm_board_calls.specs.declared.board_answers.BoardClock.{BoardClock}
use Rattle.trm_board_calls.specs.declared.board_answers.BoardRun.{BoardRun}
use Rattle.trm_board_calls.specs.Cores.{record_core}
use Rattle.trm_board_calls.specs.Refusals.{board_clock_refusal, board_run_refusal}
use Rattle.trm_board_calls.specs.Run.{BoardRan, board_run_of}
use Rattle.trm_board_calls.specs.Coded.{board_of, stepped}

-- the core after its reset (trm_calls), the devices zero; the store is not changed
unfoldable pub board_reset_gives : List ℕ → Board Lent
board_reset_gives s = board_reset (record { machine = reset_gives s; store = s })

-- one clock; if refused, everything is unchanged, and level and answers are zero
unfoldable pub board_clock_gives : List ℕ → Board Lent → Bool → ℕ → ℕ → After (Board Lent) Shown
board_clock_gives p x joined given switches =
    cond (eqb (board_clock_refusal p x given) 0)
    (board_clock paper_timing (record_core paper_geometry p) x (inputs_of joined given switches))
    (record { state = x; out = record { level = 0; answer = silent 0 } })

-- a run; if refused, everything is unchanged, the buffers too, and no clock is used
unfoldable pub board_run_gives : List ℕ → Board Lent → Bool → List ℕ → List ℕ → List ℕ → List ℕ → List ℕ → BoardRan
board_run_gives p x joined given switches levels bytes words =
    cond (eqb (board_run_refusal p x given switches levels bytes words) 0)
    (board_run_of p x joined given switches)
    (record { state = x; used = 0; finished = 0; levels = levels; bytes = bytes; words = words })

abbrev pub clocked : BoardClock → List ℕ → After (Board Lent) Shown
clocked r s = stepped r.board.machine r.board.devices s r.level r.byte r.word r.finished

-- the outcome of a clock from its result and the store after it; a refused one leaves the board that was passed, and has no answer
abbrev pub clock_left : coded.Board → Result BoardClock Refusal → List ℕ → After (Board Lent) Shown
clock_left b (Ok r) s = clocked r s
clock_left b (Err e) s = record { state = board_of b s; out = record { level = 0; answer = silent 0 } }

-- the outcome of a run from its result and the borrowed parts after it
abbrev pub run_left : coded.Board → Result BoardRun Refusal → List ℕ → List ℕ → List ℕ → List ℕ → BoardRan
run_left b (Ok r) s levels bytes words =
    record { state = board_of r.board s; used = r.used; finished = r.finished; levels = levels; bytes = bytes; words = words }
run_left b (Err e) s levels bytes words =
    record { state = board_of b s; used = 0; finished = 0; levels = levels; bytes = bytes; words = words }

pub record ResetHolds (s : List ℕ) (r : Result coded.Board Refusal) : Type 0 where
  pub number : number_in r ≡ reset_refusal s
  pub board : IfOk r (λ b. board_of b s ≡ board_reset_gives s)

pub record ClockHolds (b : coded.Board) (p s : List ℕ) (joined : Bool) (given switches : ℕ) (r : Result BoardClock Refusal)
    (s' : List ℕ) : Type 0 where
  pub number : number_in r ≡ board_clock_refusal p (board_of b s) given
  pub outcome : clock_left b r s' ≡ board_clock_gives p (board_of b s) joined given switches

pub record RunHolds (b : coded.Board) (p s : List ℕ) (joined : Bool) (given switches levels bytes words : List ℕ)
    (r : Result BoardRun Refusal) (s' levels' bytes' words' : List ℕ) : Type 0 where
  pub number : number_in r ≡ board_run_refusal p (board_of b s) given switches levels bytes words
  pub outcome : run_left b r s' levels' bytes' words' ≡ board_run_gives p (board_of b s) joined given switches levels bytes words
