-- What is claimed of a run of the board from its reset: of its turns ts, and of the devices d that it left, whatever the core inside.
-- Request A1, each field under its sentence. What holds of every run holds at every clock of it: `before` is the turns before a clock.
--   Course T ts d     all of it        Busy, tick_by, Follows    its parts
use Rattle.std.specs.Prelude.{ℕ, ◌+◌, ◌/◌, ◌%◌, ◌<◌, ◌≡◌, ◌≢◌, Bool, true, false, cond, not, ◌&&◌, List, [], ◌∷◌, ◌++◌, length, take}
use Rattle.std.specs.Prelude.{get_or, eqb, leb}
use Rattle.trm_serial.specs.Timing.{Timing, frame}
use Rattle.trm_serial.specs.Serial.{levels, busy, level}
use Rattle.trm_serial.specs.Moments.{each, none, bytes_of, handed_in as handed_of, replaced_in, unread, on_line, in_time}
use Rattle.trm_board.specs.Core.{read_by, written_by}
use Rattle.trm_board.specs.Board.{Devices, reply, line_in, devices_clock, devices_reset}
use Rattle.trm_board.specs.Turns.{Turn, byte_of, word_of, accepted_in, handed_in, received_in, marks_in, fates_in, bytes_back, all_joined}
use Rattle.trm_board.specs.Turns.{inputs_in}

-- One clock: the level sent; what a read gives, by what stood when the clock began, n being the clock count then; an access is in the
-- clock that finishes its instruction.
pub record Shows (T : Timing) (n : ℕ) (t : Turn) : Type 0 where
  pub sends : t.shown.level ≡ level T t.before.serial
  pub replies : (d : ℕ) → byte_of t ≡ read_by d → word_of t ≡ reply T t.before.serial n t.input.switches d
  pub ends : byte_of t ≢ 0 → t.shown.answer.done ≡ 1

-- the devices after it
abbrev pub devices_after : Timing → ℕ → Turn → Devices
devices_after T n t = devices_clock T (line_in T t.before.serial t.input) (n + 1) (byte_of t) (word_of t) t.before

-- The turns follow one another from the devices d at clock count n to the devices e: each begins with what the one before left.
unfoldable pub Follows : Timing → ℕ → Devices → List Turn → Devices → Type 0
Follows T n d [] e = d ≡ e
Follows T n d (t ∷ ts) e = (t.before ≡ d) × Shows T n t × Follows T (n + 1) (devices_after T n t) ts e

-- a byte accepted in a clock so few clocks ago that its frame is not over: `rest` is the clocks since
pub record Sending (T : Timing) (ts : List Turn) (byte : ℕ) : Type 0 where
  pub before : List Turn
  pub write : Turn
  pub rest : List Turn
  pub split : ts ≡ before ++ (write ∷ rest)
  pub accepted : accepted_in write ≡ byte ∷ []
  pub recent : length rest < frame T

-- "It is busy in the 10,120 clocks after that of an accepted write, which are its frame, and in no others": d is the devices after the
-- turns ts. In clock k + 1 of the frame the level is that of bit k / 1,012; in a clock that is not busy it is high.
pub record Busy (T : Timing) (ts : List Turn) (d : Devices) : Type 0 where
  pub during : (byte : ℕ) → Sending T ts byte → busy d.serial ≡ true
  pub only : busy d.serial ≡ true → Sending T ts d.serial.sent
  pub bits : (byte : ℕ) (h : Sending T ts byte) → level T d.serial ≡ get_or (levels byte) (length h.rest / T.period) 1
  pub high : busy d.serial ≡ false → level T d.serial ≡ 1

-- no clearing write among these answer bytes
unfoldable pub no_clear : List ℕ → Bool
no_clear [] = true
no_clear (b ∷ bs) = not (eqb b (written_by 6)) && no_clear bs

-- the tick after clocks with these answer bytes, the latest first: the count came to a multiple, and no clearing write came after the last
-- one; the clocks since are the count's remainder
unfoldable pub tick_by : Timing → List ℕ → ℕ
tick_by T bytes = cond (leb T.tick (length bytes) && no_clear (take (length bytes % T.tick) bytes)) 1 0

-- "From reset, a line joined to itself must hand every accepted byte to reads that find the bit set, once and in order, but for those at a
-- run's end still on the line or unread, provided each is read before the next is received"
pub record LoopBack (T : Timing) (ts : List Turn) (d : Devices) : Type 0 where
  -- under the proviso, which is on the run alone: accepted ≡ handed ++ unread ++ on the line; the last two are one byte each at most
  pub whole : in_time false (each (marks_in T) ts) ≡ true
      → each accepted_in ts ≡ each handed_in ts ++ (unread d.serial ++ on_line T d.serial)
  -- with or without it: the bytes received are those accepted, once and in order, but for one on the line
  pub received : each accepted_in ts ≡ each (received_in T) ts ++ on_line T d.serial
  -- "a later byte replaces an unread one": each accepted byte, in order, was handed to such a read or replaced by the next, or is unread or
  -- on the line
  pub fates : each accepted_in ts ≡ bytes_of (each (fates_in T) ts) ++ (unread d.serial ++ on_line T d.serial)

pub record Course (T : Timing) (ts : List Turn) (d : Devices) : Type 0 where
  -- each clock, from the reset on, does what the definitions say
  pub follows : Follows T 0 devices_reset ts d
  pub loop_back : all_joined (inputs_in ts) ≡ true → LoopBack T ts d
  -- on any line: a received byte goes to a read that finds the bit set, or is replaced by the next, or is unread at the end; nothing else
  -- is handed; nothing is replaced exactly under the proviso
  pub gone : each (received_in T) ts ≡ bytes_of (each (fates_in T) ts) ++ unread d.serial
  pub handed : handed_of (each (fates_in T) ts) ≡ each handed_in ts
  pub kept : in_time false (each (marks_in T) ts) ≡ none (replaced_in (each (fates_in T) ts))
  -- at every clock, and at the end
  pub busy_at : (before after : List Turn) (t : Turn) → ts ≡ before ++ (t ∷ after) → Busy T before t.before
  pub busy_end : Busy T ts d
  -- "rises whenever the clock count comes to a multiple of 116,600; a rise in the clock of a clearing write wins"
  pub tick_at : (before after : List Turn) (t : Turn) → ts ≡ before ++ (t ∷ after) → t.before.tick ≡ tick_by T (bytes_back before [])
  pub tick_end : d.tick ≡ tick_by T (bytes_back ts [])
  -- "6 reads milliseconds (the clock count over 116,600, rounded down)": the count is that of the clocks before
  pub milliseconds : (before after : List Turn) (t : Turn) → ts ≡ before ++ (t ∷ after) → byte_of t ≡ read_by 6
      → word_of t ≡ length before / T.tick
  -- a device is read in one clock only: the received bit falls in no clock but one whose answer shows a read of device 4, and that clock
  -- finishes its instruction
  pub falls : (before after : List Turn) (t u : Turn) → ts ≡ before ++ (t ∷ u ∷ after) → t.before.serial.ready ≡ 1
      → u.before.serial.ready ≡ 0 → (byte_of t ≡ read_by 4) × (t.shown.answer.done ≡ 1)
