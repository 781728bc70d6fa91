-- An exchange: a list of board calls, each with any return that its contract allows, and the log of these returns.
-- Document 01: "Demand 3 is one statement on the whole list, not one on each call"; request A1.
--   Starts s b, Fails s b     a board reset of the store s, accepted or refused, returned the board b
--   Returned                  what a call returned: its number, the board and the store it left, and what it reports
--   Meets p b s c a           a function that makes the call c returned a
--   Exchange p b s cs as      every call meets its contract, and the next one is made with the board and the store left
--   exchange_log p b s cs as   the log of the returns, after the start
use Rattle.std.specs.Prelude.{ℕ, ◌≡◌, ◌≢◌, true, false, cond, List, [], ◌∷◌, ◌++◌, eqb}
use Rattle.trm_reference.specs.Access.{silent}
use Rattle.trm_board.specs.Board.{Inputs, Shown}
use Rattle.trm_board_calls.specs.declared.board_record.Board.{Board}
use Rattle.trm_board_calls.specs.Run.{board_history}
use Rattle.trm_board_calls.specs.Coded.{board_of}
use Rattle.trm.specs.declared.exported_board.BoardResetAnswer.{BoardResetAnswer}
use Rattle.trm.specs.declared.exported_board.BoardClockAnswer.{BoardClockAnswer}
use Rattle.trm.specs.declared.exported_board.BoardRunAnswer.{BoardRunAnswer}
use Rattle.trm_agreement.specs.Log.{clocked, ended, entries}
use Rattle.trm_board_agreement.specs.Calls.{BoardCall, clock_call, run_call, feed, answer, BoardEnded, clock_ends, run_ends, BoardSeen}
use Rattle.trm_board_agreement.specs.Calls.{BoardEntry, board_seen, record_board}
use Rattle.trm_board_agreement.specs.CallContracts.{ResetMet, GivenClock, JoinedClock, GivenRun, JoinedRun}

-- an accepted reset; a refused one
pub data Starts (s : List ℕ) : Board → Type 0 where
  starts : (r : BoardResetAnswer) → ResetMet s r → r.number ≡ 0 → Starts s r.board

pub data Fails (s : List ℕ) : Board → Type 0 where
  fails : (r : BoardResetAnswer) → ResetMet s r → r.number ≢ 0 → Fails s r.board

-- the number, the board that is returned, and the lent buffers after the call
pub data Returned : Type 0 where
  clock_returned : (number : ℕ) (left : Board) (store : List ℕ) (out : Shown) → Returned
  run_returned : (number : ℕ) (left : Board) (store : List ℕ) (used finished : ℕ) (levels bytes words : List ℕ) → Returned

unfoldable pub code_returned : Returned → ℕ
code_returned (clock_returned number left store out) = number
code_returned (run_returned number left store used finished levels bytes words) = number

unfoldable pub board_left : Returned → Board
board_left (clock_returned number left store out) = left
board_left (run_returned number left store used finished levels bytes words) = left

unfoldable pub store_left : Returned → List ℕ
store_left (clock_returned number left store out) = store
store_left (run_returned number left store used finished levels bytes words) = store

-- what a call that is refused with this number returns: everything as it was given; it sends no level, and returns 0 there
unfoldable pub as_given : Board → List ℕ → BoardCall → ℕ → Returned
as_given b s (clock_call joined given switches) number = clock_returned number b s (record { level = 0; answer = silent 0 })
as_given b s (run_call joined given switches levels bytes words) number = run_returned number b s 0 0 levels bytes words

abbrev pub shown_by : BoardClockAnswer → Shown
shown_by r = record { level = r.level; answer = record { byte = r.byte; word = r.word; done = r.finished } }

-- what the contract of a function ensures of its result and of the buffers at exit, and nothing else
pub data Meets (p : List ℕ) (b : Board) (s : List ℕ) : BoardCall → Returned → Type 0 where
  by_clock : (given switches : ℕ) (r : BoardClockAnswer) (s' : List ℕ) → GivenClock b p s given switches r s'
      → Meets p b s (clock_call false given switches) (clock_returned r.number r.board s' (shown_by r))
  by_joined_clock : (given switches : ℕ) (r : BoardClockAnswer) (s' : List ℕ) → JoinedClock b p s given switches r s'
      → Meets p b s (clock_call true given switches) (clock_returned r.number r.board s' (shown_by r))
  by_run : (gs ws lv bs os : List ℕ) (r : BoardRunAnswer) (s' lv' bs' os' : List ℕ) → GivenRun b p s gs ws lv bs os r s' lv' bs' os'
      → Meets p b s (run_call false gs ws lv bs os) (run_returned r.number r.board s' r.used r.finished lv' bs' os')
  by_joined_run : (gs ws lv bs os : List ℕ) (r : BoardRunAnswer) (s' lv' bs' os' : List ℕ) → JoinedRun b p s gs ws lv bs os r s' lv' bs' os'
      → Meets p b s (run_call true gs ws lv bs os) (run_returned r.number r.board s' r.used r.finished lv' bs' os')

-- refused or not, the next call is made with the board and the store that are left
unfoldable pub Exchange : List ℕ → Board → List ℕ → List BoardCall → List Returned → Type 0
Exchange p b s [] [] = Unit {0}
Exchange p b s [] (a ∷ as') = ⊥
Exchange p b s (c ∷ cs) [] = ⊥
Exchange p b s (c ∷ cs) (a ∷ as') = Meets p b s c a × Exchange p (board_left a) (store_left a) cs as'

-- the board and the store that the last call left
unfoldable pub board_after : Board → List Returned → Board
board_after b [] = b
board_after b (a ∷ as') = board_after (board_left a) as'

unfoldable pub store_after : List ℕ → List Returned → List ℕ
store_after s [] = s
store_after s (a ∷ as') = store_after (store_left a) as'

unfoldable pub ended_by : Returned → BoardEnded
ended_by (clock_returned number left store out) = clock_ends number
ended_by (run_returned number left store used finished levels bytes words) = run_ends number used finished levels bytes words

abbrev pub seen_at : Board → List ℕ → BoardSeen
seen_at b s = board_seen (board_of b s)

-- the one clock of a clock call, with what it was given
unfoldable pub alone : BoardSeen → Shown → List Inputs → List BoardEntry
alone w o [] = []
alone w o (i ∷ is) = clocked i w o ∷ []

module _ (p : List ℕ) where
  -- the clock history of a board and its store, which the contract of a run cites
  unfoldable pub clock_history : Board → List ℕ → List Inputs → List BoardEntry
  clock_history b s is = entries feed answer (record_board p) (board_history p (board_of b s) is) is

  -- The clocks of a call that is not refused. The clock of a clock call is the board and the store left and what was returned. A run
  -- returns only its last state, which its end shows: its clocks are the clock history, and `run_prefix` of the claims says that each of
  -- them is what the run of as many bytes returns.
  unfoldable pub shown : Board → List ℕ → BoardCall → Returned → List BoardEntry
  shown b s c (clock_returned number left store out) = cond (eqb number 0) (alone (seen_at left store) out (feed c)) []
  shown b s c (run_returned number left store used finished levels bytes words) = cond (eqb number 0) (clock_history b s (feed c)) []

  -- the entries after the start; the end of a call, refused or not, shows the board and the store left
  unfoldable pub exchange_log : Board → List ℕ → List BoardCall → List Returned → List BoardEntry
  exchange_log b s [] as' = []
  exchange_log b s (c ∷ cs) [] = []
  exchange_log b s (c ∷ cs) (a ∷ as') =
      shown b s c a
      ++ ended (seen_at (board_left a) (store_left a)) (ended_by a)
      ∷ exchange_log (board_left a) (store_left a) cs as'
