-- The moments of a run, one to a clock, and what happens in each: a byte accepted, handed to a read, received, replaced.
-- Paper, A1: "must hand every accepted byte to reads that find the bit set, once and in order, but for those at a run's end still on the
-- line or unread, provided each is read before the next is received; a later byte replaces an unread one".
--   heard T s is, heard_end   a run on any line        joined T s as, joined_end   the line joined to itself
--   each f ms                what happens in a run    on_line, unread             what is left at its end
--   in_time                   the proviso, on reads and receptions alone
use Rattle.std.specs.Prelude.{ℕ, ◌-◌, ◌%◌, Bool, true, false, cond, not, ◌&&◌, List, [], ◌∷◌, ◌++◌, eqb, ltb}
use Rattle.trm_serial.specs.Timing.{Timing, frame, stop_sample}
use Rattle.trm_serial.specs.Serial.{Access, reads, writes, others, Serial, busy, level, stops, serial_clock}

-- a clock: what stood when it began, the line, and the core's access
pub record Moment : Type 0 where
  pub before : Serial
  pub line : ℕ
  pub access : Access

-- what a clock is given on a free line
pub record Given : Type 0 where
  pub line : ℕ
  pub access : Access

abbrev pub moment : Serial → ℕ → Access → Moment
moment s line a = record { before = s; line = line; access = a }

module _ (T : Timing) where
  abbrev pub after : Moment → Serial
  after m = serial_clock T m.line m.access m.before

  unfoldable pub heard : Serial → List Given → List Moment
  heard s [] = []
  heard s (i ∷ is) = moment s i.line i.access ∷ heard (serial_clock T i.line i.access s) is

  unfoldable pub heard_end : Serial → List Given → Serial
  heard_end s [] = s
  heard_end s (i ∷ is) = heard_end (serial_clock T i.line i.access s) is

  -- "a line joined to itself": the line of a clock is the level sent in it
  unfoldable pub fed : Serial → List Access → List Given
  fed s [] = []
  fed s (a ∷ as') = record { line = level T s; access = a } ∷ fed (serial_clock T (level T s) a s) as'

  abbrev pub joined : Serial → List Access → List Moment
  joined s as' = heard s (fed s as')

  abbrev pub joined_end : Serial → List Access → Serial
  joined_end s as' = heard_end s (fed s as')

-- what happens in the clocks of a run, in order
unfoldable pub each : {M A : Type 0} → (M → List A) → List M → List A
each f [] = []
each f (m ∷ ms) = f m ++ each f ms

-- a write while the transmitter is free
unfoldable pub wrote_to : Access → List ℕ
wrote_to reads = []
wrote_to (writes word) = word % 256 ∷ []
wrote_to others = []

unfoldable pub accepted_at : Moment → List ℕ
accepted_at m = cond (busy m.before) [] (wrote_to m.access)

-- a read that finds the bit set: it gets the byte that stood when the clock began
unfoldable pub read_of : ℕ → Access → List ℕ
read_of byte reads = byte ∷ []
read_of byte (writes word) = []
read_of byte others = []

unfoldable pub is_set : Serial → Bool
is_set s = eqb s.ready 1

unfoldable pub handed_at : Moment → List ℕ
handed_at m = cond (is_set m.before) (read_of m.before.byte m.access) []

-- the stop bit is sampled
unfoldable pub received_at : Timing → Moment → List ℕ
received_at T m = cond (stops T m.before.passed) (m.before.bits ∷ []) []

-- how a received byte goes: to a read, or replaced by the next
pub data Fate : Type 0 where
  handed : (byte : ℕ) → Fate
  replaced : (byte : ℕ) → Fate

unfoldable pub fate_of : Bool → ℕ → Access → List Fate
fate_of next byte reads = handed byte ∷ []
fate_of next byte (writes word) = cond next (replaced byte ∷ []) []
fate_of next byte others = cond next (replaced byte ∷ []) []

unfoldable pub fate_at : Timing → Moment → List Fate
fate_at T m = cond (is_set m.before) (fate_of (stops T m.before.passed) m.before.byte m.access) []

unfoldable pub bytes_of : List Fate → List ℕ
bytes_of [] = []
bytes_of (handed b ∷ fs) = b ∷ bytes_of fs
bytes_of (replaced b ∷ fs) = b ∷ bytes_of fs

unfoldable pub handed_in : List Fate → List ℕ
handed_in [] = []
handed_in (handed b ∷ fs) = b ∷ handed_in fs
handed_in (replaced b ∷ fs) = handed_in fs

unfoldable pub replaced_in : List Fate → List ℕ
replaced_in [] = []
replaced_in (handed b ∷ fs) = replaced_in fs
replaced_in (replaced b ∷ fs) = b ∷ replaced_in fs

unfoldable pub none : List ℕ → Bool
none [] = true
none (b ∷ bs) = false

-- at a run's end: a byte received and not read; a byte accepted whose stop bit is still to be sampled
unfoldable pub unread : Serial → List ℕ
unread s = cond (is_set s) (s.byte ∷ []) []

unfoldable pub on_line : Timing → Serial → List ℕ
on_line T s = cond (ltb (frame T - stop_sample T) s.left) (s.sent ∷ []) []

-- "each is read before the next is received": the reads of device 4 and the receptions in order, a read before a reception of its clock
pub data Mark : Type 0 where
  read : Mark
  received : Mark

unfoldable pub read_mark : Access → List Mark
read_mark reads = read ∷ []
read_mark (writes word) = []
read_mark others = []

unfoldable pub marks_at : Timing → Moment → List Mark
marks_at T m = read_mark m.access ++ cond (stops T m.before.passed) (received ∷ []) []

-- after a reception a read comes before the next; unanswered: one was received and not read yet
unfoldable pub in_time : Bool → List Mark → Bool
in_time unanswered [] = true
in_time unanswered (read ∷ ms) = in_time false ms
in_time unanswered (received ∷ ms) = not unanswered && in_time true ms
