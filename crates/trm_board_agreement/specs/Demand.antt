-- REQUEST A1 AND DEMAND 3 OF THE BOARD, in one record: `BoardDemand`, about the functions that customers link.
-- For any program, any first memory and any list of board calls from a board reset, refused ones included, whatever the serial line, the
-- switches, interrupt 1 and stall do.
--   Holds         what is claimed of the log of a list of calls, each field under its words
--   BoardDemand   that this holds of whatever the calls return, and what else a caller needs to know of them
-- A log has the start; each clock of a call that is not refused, with what it was given, what is seen after it (what demand 3 compares of
-- the core, and the board's own fields), the level sent in it and the core's answer; each call, with its number and, of a run, its counts
-- and buffers.
use Rattle.std.specs.Prelude.{ℕ, ◌≤◌, ◌≡◌, ◌≢◌, Bool, true, cond, List, ◌∷◌, length, take}
use Rattle.trm_reference.specs.Geometry.{paper_geometry}
use Rattle.trm_reference.specs.Trace.{clocks, end_of, outs_of, finished_in}
use Rattle.trm_reference.specs.Reference.{reference_clock, reference_reset}
use Rattle.trm_core.specs.Refusals.{program_ok, reset_refusal}
use Rattle.trm_serial.specs.Timing.{paper_timing}
use Rattle.trm_board.specs.Board.{board_reset}
use Rattle.trm_board.specs.Rule.{devices_ok}
use Rattle.trm_board.specs.Turns.{all_joined, inputs_in}
use Rattle.trm_board.specs.Course.{Course}
use Rattle.trm_board_calls.specs.declared.board_record.Board.{Board}
use Rattle.trm_board_calls.specs.Coded.{board_of}
use Rattle.trm_board_calls.specs.Run.{answers_of, column, level_of, byte_of, word_of, board_history}
use Rattle.trm_agreement.specs.Log.{started, entries, log_of, answers_in, returns_in, state_of}
use Rattle.trm_agreement.specs.Calls.{feed as core_feed, answer as core_answer, reference_engine}
use Rattle.trm_agreement.specs.Book.{opened}
use Rattle.trm_agreement.specs.Audit.{Audited, accesses_in, device_answers}
use Rattle.trm_agreement.specs.Demand.{All}
use Rattle.trm_board_agreement.specs.Calls.{BoardCall, run_call, feed, answer, number_of, run_ends, joined_calls, BoardSeen, BoardEntry}
use Rattle.trm_board_agreement.specs.Calls.{plain_seen, plain_board}
use Rattle.trm_board_agreement.specs.Exchange.{Starts, Fails, Returned, code_returned, board_left, store_left, as_given, Meets, Exchange}
use Rattle.trm_board_agreement.specs.Exchange.{board_after, store_after, ended_by, seen_at, exchange_log}
use Rattle.trm_board_agreement.specs.Shown.{turns_in, cores_in, fed_in}

-- For a program p, a first memory s and a list of calls cs: a log that starts with `first` seen, has the entries es, and ends with `last`
-- seen.
pub record Holds (p s : List ℕ) (cs : List BoardCall) (first : BoardSeen) (es : List BoardEntry) (last : BoardSeen) : Type 0 where
  -- each board log is that of the board with the plain machine inside: per clock level, answers and devices, and all that demand 3 compares
  pub same : started first ∷ es ≡ log_of feed answer (plain_board p) (board_reset (reference_reset s)) cs
  -- the core inside is the plain machine, fed exactly the tick, interrupt 1, stall and replies that the log shows
  pub core : cores_in first es
      ≡ entries core_feed core_answer (reference_engine paper_geometry p)
      (clocks (reference_clock paper_geometry p) (reference_reset s) (fed_in first es)) (fed_in first es)
  -- so all that demand 3 audits holds of it: the counts after every clock, interrupts both ways, each instruction's charge, and that
  -- each device load or store reaches the device once, on finishing, in program order
  pub audited : Audited paper_geometry p (opened first.core) (cores_in first es)
  pub devices : device_answers (answers_in (cores_in first es)) ≡ accesses_in paper_geometry p (opened first.core) (cores_in first es)
  -- A1 of the clocks: loop-back (for a log whose clocks all had the line joined to itself), what becomes of every byte, busy, the tick,
  -- milliseconds, a device read in one clock only
  pub course : Course paper_timing (turns_in first es) last.devices
  -- a list of calls with the line joined to itself has such a log
  pub joined : joined_calls cs ≡ true → all_joined (inputs_in (turns_in first es)) ≡ true
  -- "A board field outside its range is refused with 5": none leaves it, and no call of the list is refused with 5
  pub ranges : devices_ok paper_timing last.devices ≡ true
  pub never_five : All (λ a. number_of a ≢ 5) (returns_in es)
  -- what is seen of the last states of the two boards is equal
  pub state_alike : last ≡ plain_seen (state_of feed answer (plain_board p) (board_reset (reference_reset s)) cs)

-- What the run of the first k bytes of a run returns: the k-th state of the clock history, k clocks used, and the instructions, levels and
-- answers of these clocks.
pub record Prefix (p : List ℕ) (b : Board) (s : List ℕ) (c : BoardCall) (k : ℕ) (a : Returned) : Type 0 where
  pub state : board_of (board_left a) (store_left a) ≡ end_of (board_of b s) (take k (board_history p (board_of b s) (feed c)))
  pub reports : ended_by a ≡ run_ends 0 k (finished_in (answers_of (outs_of (take k (board_history p (board_of b s) (feed c))))))
      (column level_of (outs_of (take k (board_history p (board_of b s) (feed c)))))
      (column byte_of (outs_of (take k (board_history p (board_of b s) (feed c)))))
      (column word_of (outs_of (take k (board_history p (board_of b s) (feed c)))))

-- the board of a reset and returns of the calls that the contracts allow
pub record Exists (p s : List ℕ) (cs : List BoardCall) : Type 0 where
  pub board : Board
  pub reset : Starts s board
  pub returns : List Returned
  pub exchange : Exchange p board s cs returns

-- About whatever trm_board_reset, trm_board_clock, trm_board_clock_joined, trm_board_run and trm_board_run_joined return that their own
-- contracts allow, mixed in any way in one list.
pub record BoardDemand : Type 0 where
  pub holds : (p s : List ℕ) (b : Board) (cs : List BoardCall) (as' : List Returned) → Starts s b → Exchange p b s cs as'
      → Holds p s cs (seen_at b s) (exchange_log p b s cs as') (seen_at (board_after b as') (store_after s as'))
  -- a first memory that reset refuses: every call with the board that it returned is refused with 3 or 4
  pub refused_reset : (s₀ : List ℕ) (b : Board) → Fails s₀ b → (p s : List ℕ) (c : BoardCall) (a : Returned) → Meets p b s c a
      → a ≡ as_given b s c (cond (program_ok p) 4 3)
  -- a refused call, with any board: it returns the number, and everything else as it was given
  pub refused : (p : List ℕ) (b : Board) (s : List ℕ) (c : BoardCall) (a : Returned) → Meets p b s c a → code_returned a ≢ 0
      → a ≡ as_given b s c (code_returned a)
  -- the clocks within a run: each is what a shorter run returns
  pub run_prefix : (p : List ℕ) (b : Board) (s gs ws lv bs os lv₀ bs₀ os₀ : List ℕ) (j : Bool) (k : ℕ) (a : Returned)
      → k ≤ length gs → Meets p b s (run_call j (take k gs) (take k ws) lv₀ bs₀ os₀) a → code_returned a ≡ 0
      → Prefix p b s (run_call j gs ws lv bs os) k a
  -- such returns exist: for every program, every first memory that reset accepts and every list of calls
  pub exists : (p s : List ℕ) (cs : List BoardCall) → reset_refusal s ≡ 0 → Exists p s cs
