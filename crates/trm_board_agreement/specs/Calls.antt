-- The calls of a board, and the two boards that are compared, as engines: with the record and its store inside, and with the plain machine.
-- Request A1; document 01: "no call of the list is refused with 5".
--   BoardCall   a clock or a run after the reset, the line given or joined to itself        BoardEnded   what it returns
--   BoardSeen   what is compared after every clock        record_board p, plain_board p   the two boards under a program
use Rattle.std.specs.Prelude.{ℕ, Bool, true, cond, not, ◌&&◌, List, [], ◌∷◌, length, eqb}
use Rattle.trm_reference.specs.Geometry.{paper_geometry}
use Rattle.trm_reference.specs.Trace.{finished_in}
use Rattle.trm_reference.specs.Reference.{Reference}
use Rattle.trm_core.specs.Record.{Lent}
use Rattle.trm_core.specs.Refusals.{program_ok, clock_rows}
use Rattle.trm_serial.specs.Timing.{paper_timing}
use Rattle.trm_board.specs.declared.record.Devices.{Devices}
use Rattle.trm_board.specs.Board.{Inputs, inputs_of, Board, Shown, board_clock}
use Rattle.trm_board_calls.specs.Cores.{record_core, reference_core}
use Rattle.trm_board_calls.specs.Refusals.{board_clock_refusal, board_run_rows, board_run_refusal}
use Rattle.trm_board_calls.specs.Run.{run_inputs, answers_of, column, level_of, byte_of, word_of}
use Rattle.trm_agreement.specs.Log.{Engine, Entry}
use Rattle.trm_agreement.specs.Calls.{Seen, record_seen, reference_seen}

-- joined: the line is joined to itself. The last three lists of a run are its buffers as lent
pub data BoardCall : Type 0 where
  clock_call : (joined : Bool) (given switches : ℕ) → BoardCall
  run_call : (joined : Bool) (given switches levels bytes words : List ℕ) → BoardCall

-- what a call gives to each of its clocks
unfoldable pub feed : BoardCall → List Inputs
feed (clock_call joined given switches) = inputs_of joined given switches ∷ []
feed (run_call joined given switches levels bytes words) = run_inputs joined given switches

-- every call of the list has its line joined to itself
unfoldable pub is_joined : BoardCall → Bool
is_joined (clock_call joined given switches) = joined
is_joined (run_call joined given switches levels bytes words) = joined

unfoldable pub joined_calls : List BoardCall → Bool
joined_calls [] = true
joined_calls (c ∷ cs) = is_joined c && joined_calls cs

-- the number of a clock call; of a run the number, its counts and its buffers, which a refused run leaves unchanged
pub data BoardEnded : Type 0 where
  clock_ends : (code : ℕ) → BoardEnded
  run_ends : (code used finished : ℕ) (levels bytes words : List ℕ) → BoardEnded

unfoldable pub number_of : BoardEnded → ℕ
number_of (clock_ends code) = code
number_of (run_ends code used finished levels bytes words) = code

unfoldable pub answer : ℕ → BoardCall → List Shown → BoardEnded
answer code (clock_call joined given switches) outs = clock_ends code
answer code (run_call joined given switches levels bytes words) outs =
    cond (eqb code 0)
    (run_ends 0 (length given) (finished_in (answers_of outs)) (column level_of outs) (column byte_of outs) (column word_of outs))
    (run_ends code 0 0 levels bytes words)

-- what demand 3 compares of the core (all that a programmer sees, memory as a copy gives it, all counts), and the board's own fields
pub record BoardSeen : Type 0 where
  pub core : Seen
  pub devices : Devices

abbrev pub BoardEntry : Type 0
BoardEntry = Entry Inputs Shown BoardSeen BoardEnded

abbrev pub board_seen : Board Lent → BoardSeen
board_seen x = record { core = record_seen paper_geometry x.core; devices = x.devices }

abbrev pub plain_seen : Board Reference → BoardSeen
plain_seen y = record { core = reference_seen y.core; devices = y.devices }

-- rows 6, 7 and 8, given the clock count; 4 and 5 never occur
unfoldable pub own_rows : ℕ → BoardCall → ℕ
own_rows clocks (clock_call joined given switches) = clock_rows clocks given
own_rows clocks (run_call joined given switches levels bytes words) = board_run_rows clocks given switches levels bytes words

module _ (p : List ℕ) where
  unfoldable pub record_code : Board Lent → BoardCall → ℕ
  record_code x (clock_call joined given switches) = board_clock_refusal p x given
  record_code x (run_call joined given switches levels bytes words) = board_run_refusal p x given switches levels bytes words

  -- a bad program: every call is refused with 3
  unfoldable pub plain_code : Board Reference → BoardCall → ℕ
  plain_code y c = cond (not (program_ok p)) 3 (own_rows y.core.clocks c)

  unfoldable pub record_board : Engine (Board Lent) Inputs Shown BoardSeen BoardCall
  record_board = record { step = board_clock paper_timing (record_core paper_geometry p); seen = board_seen; code = record_code }

  -- the board with the plain machine inside: it is fed the tick, interrupt 1, stall and the replies that `board_clock` gives it
  unfoldable pub plain_board : Engine (Board Reference) Inputs Shown BoardSeen BoardCall
  plain_board = record { step = board_clock paper_timing (reference_core paper_geometry p); seen = plain_seen; code = plain_code }
