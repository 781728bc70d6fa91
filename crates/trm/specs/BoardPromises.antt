-- What each exported call of the board returns for every input: the outcome of the call of trm_board_calls, with the paper's refusal
-- number.
-- Request A1; document 01: "Where calls are turned down".
--   BoardResetNumbered, BoardClockNumbered, BoardRunNumbered    the contract of a call; joined: the line is joined to itself; r: the result
use Rattle.std.specs.Prelude.{ℕ, ◌≡◌, Bool, List}
use Rattle.trm_reference.specs.Trace.{After}
use Rattle.trm_core.specs.Record.{Lent}
use Rattle.trm_core.specs.Refusals.{reset_refusal}
use Rattle.trm_board.specs.Board.{Board, Shown}
use Rattle.trm_board_calls.specs.declared.board_record.Board as coded
use Rattle.trm_board_calls.specs.Refusals.{board_clock_refusal, board_run_refusal}
use Rattle.trm_board_calls.specs.Run.{BoardRan}
use Rattle.trm_board_calls.specs.Coded.{board_of, stepped}
use Rattle.trm_board_calls.specs.Promises.{board_reset_gives, board_clock_gives, board_run_gives}
use Rattle.trm.specs.declared.exported_board.BoardResetAnswer.{BoardResetAnswer}
use Rattle.trm.specs.declared.exported_board.BoardClockAnswer.{BoardClockAnswer}
use Rattle.trm.specs.declared.exported_board.BoardRunAnswer.{BoardRunAnswer}

-- what a clock returns and the store it leaves, as one outcome
abbrev pub board_clocked : BoardClockAnswer → List ℕ → After (Board Lent) Shown
board_clocked r s = stepped r.board.machine r.board.devices s r.level r.byte r.word r.finished

abbrev pub board_ran : BoardRunAnswer → List ℕ → List ℕ → List ℕ → List ℕ → BoardRan
board_ran r s levels bytes words =
    record { state = board_of r.board s; used = r.used; finished = r.finished; levels = levels; bytes = bytes; words = words }

pub record BoardResetNumbered (s : List ℕ) (r : BoardResetAnswer) : Type 0 where
  pub number : r.number ≡ reset_refusal s
  pub board : board_of r.board s ≡ board_reset_gives s

pub record BoardClockNumbered (b : coded.Board) (p s : List ℕ) (joined : Bool) (given switches : ℕ) (r : BoardClockAnswer)
    (s' : List ℕ) : Type 0 where
  pub number : r.number ≡ board_clock_refusal p (board_of b s) given
  pub outcome : board_clocked r s' ≡ board_clock_gives p (board_of b s) joined given switches

pub record BoardRunNumbered (b : coded.Board) (p s : List ℕ) (joined : Bool) (given switches levels bytes words : List ℕ)
    (r : BoardRunAnswer) (s' levels' bytes' words' : List ℕ) : Type 0 where
  pub number : r.number ≡ board_run_refusal p (board_of b s) given switches levels bytes words
  pub outcome : board_ran r s' levels' bytes' words' ≡ board_run_gives p (board_of b s) joined given switches levels bytes words
