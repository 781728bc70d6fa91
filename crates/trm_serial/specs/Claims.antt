-- What is claimed of the serial line: one statement to a field of `Claims`, each under its sentence.
-- Paper, A1. For every timing that fits, every list of accesses of whatever core, and in `Fates` and `Busy` every line.
use Rattle.std.specs.Prelude.{ℕ, ◌/◌, ◌<◌, ◌≡◌, true, false, List, [], ◌∷◌, ◌++◌, get_or, length}
use Rattle.trm_serial.specs.Timing.{Timing, Fits, frame, paper_timing}
use Rattle.trm_serial.specs.Cases.{Echoes, rows, all_same, same, paper_changes, paper_expected}
use Rattle.trm_serial.specs.Serial.{Access, Serial, serial_reset, levels, busy, level}
use Rattle.trm_serial.specs.Moments.{Given, moment, heard, heard_end, joined, joined_end, each, accepted_at, handed_at}
use Rattle.trm_serial.specs.Moments.{received_at}
use Rattle.trm_serial.specs.Moments.{is_set, fate_at, none, bytes_of, handed_in, replaced_in, unread, on_line, marks_at, in_time}

-- "From reset, a line joined to itself must hand every accepted byte to reads that find the bit set, once and in order, but for those at
-- a run's end still on the line or unread, provided each is read before the next is received; a later byte replaces an unread one"
pub record LoopBack (T : Timing) (as' : List Access) : Type 0 where
  -- under the proviso: each accepted byte is handed once and in order, but for at most one unread and one on the line
  pub whole : in_time false (each (marks_at T) (joined T serial_reset as')) ≡ true
      → each accepted_at (joined T serial_reset as')
      ≡ each handed_at (joined T serial_reset as') ++ (unread (joined_end T serial_reset as') ++ on_line T (joined_end T serial_reset as'))
  -- with or without it: the bytes received are those accepted, once and in order, but for one on the line
  pub received : each accepted_at (joined T serial_reset as')
      ≡ each (received_at T) (joined T serial_reset as') ++ on_line T (joined_end T serial_reset as')
  -- and each went to a read or was replaced by the next, in that order, but for one unread
  pub fates : each accepted_at (joined T serial_reset as')
      ≡ bytes_of (each (fate_at T) (joined T serial_reset as'))
      ++ (unread (joined_end T serial_reset as') ++ on_line T (joined_end T serial_reset as'))

abbrev pub LoopBackHolds : Type 0
LoopBackHolds = (T : Timing) → Fits T → (as' : List Access) → LoopBack T as'

-- On any line, from any state: what is received goes to a read that finds the bit set, or is replaced by the next, or is unread at
-- the end; nothing else is handed; and nothing is replaced exactly under the proviso.
pub record Fates (T : Timing) (s : Serial) (is : List Given) : Type 0 where
  pub all : unread s ++ each (received_at T) (heard T s is) ≡ bytes_of (each (fate_at T) (heard T s is)) ++ unread (heard_end T s is)
  pub handed : handed_in (each (fate_at T) (heard T s is)) ≡ each handed_at (heard T s is)
  pub kept : in_time (is_set s) (each (marks_at T) (heard T s is)) ≡ none (replaced_in (each (fate_at T) (heard T s is)))

abbrev pub FatesHold : Type 0
FatesHold = (T : Timing) → Fits T → (s : Serial) (is : List Given) → Fates T s is

-- a byte accepted in a clock so many clocks ago that its frame is not over: `rest` is the clocks since
pub record Sending (T : Timing) (s : Serial) (is : List Given) (byte : ℕ) : Type 0 where
  pub before : List Given
  pub write : Given
  pub rest : List Given
  pub split : is ≡ before ++ (write ∷ rest)
  pub accepted : accepted_at (moment (heard_end T s before) write.line write.access) ≡ byte ∷ []
  pub recent : length rest < frame T

-- "It is busy in the 10,120 clocks after that of an accepted write, which are its frame, and in no others": after any clocks from
-- reset, on any line. In clock k + 1 of the frame the level is that of bit k / 1,012; in a clock that is not busy it is high.
pub record Busy (T : Timing) (is : List Given) : Type 0 where
  pub during : (byte : ℕ) → Sending T serial_reset is byte → busy (heard_end T serial_reset is) ≡ true
  pub only : busy (heard_end T serial_reset is) ≡ true → Sending T serial_reset is (heard_end T serial_reset is).sent
  pub bits : (byte : ℕ) (h : Sending T serial_reset is byte)
      → level T (heard_end T serial_reset is) ≡ get_or (levels byte) (length h.rest / T.period) 1
  pub high : busy (heard_end T serial_reset is) ≡ false → level T (heard_end T serial_reset is) ≡ 1

abbrev pub BusyHolds : Type 0
BusyHolds = (T : Timing) → (is : List Given) → Busy T is

pub record Claims : Type 0 where
  pub paper_fits : Fits paper_timing
  -- small timings, joined and noisy lines, against a second reading; the paper's own frame, clock by clock
  pub small_cases : all_same rows ≡ true
  pub paper_frame : same paper_changes paper_expected ≡ true
  pub loop_back : LoopBackHolds
  pub echoes : Echoes
  pub fates : FatesHold
  pub busy_holds : BusyHolds
