-- The turns of a run, one for each clock, and what happens in each, as the answers and the status show it.
-- Request A1: "must hand every accepted byte to reads that find the bit set, once and in order, but for those at a run's end still on the
-- line or unread, provided each is read before the next is received; a later byte replaces an unread one".
--   turns T K b is, board_end   the clocks, and the last state
--   accepted_in, handed_in, received_in, fates_in, marks_in   what happens in one
use Rattle.std.specs.Prelude.{ℕ, ◌/◌, ◌%◌, Bool, true, cond, ◌&&◌, List, [], ◌∷◌, ◌++◌, eqb}
use Rattle.trm_serial.specs.Timing.{Timing}
use Rattle.trm_serial.specs.Serial.{stops}
use Rattle.trm_serial.specs.Moments.{Mark, read, received, Fate, handed, replaced}
use Rattle.trm_board.specs.Core.{Core, read_by, written_by}
use Rattle.trm_board.specs.Board.{Devices, Inputs, Board, Shown, status, board_clock}

-- a clock: the devices when it began, what it was given, and what it showed
pub record Turn : Type 0 where
  pub before : Devices
  pub input : Inputs
  pub shown : Shown

abbrev pub byte_of : Turn → ℕ
byte_of t = t.shown.answer.byte

abbrev pub word_of : Turn → ℕ
word_of t = t.shown.answer.word

module _ (T : Timing) {C : Type 0} (K : Core C) where
  unfoldable pub turns : Board C → List Inputs → List Turn
  turns b [] = []
  turns b (i ∷ is) = record { before = b.devices; input = i; shown = (board_clock T K b i).out } ∷ turns (board_clock T K b i).state is

  unfoldable pub board_end : Board C → List Inputs → Board C
  board_end b [] = b
  board_end b (i ∷ is) = board_end (board_clock T K b i).state is

-- a write of device 4 in a clock that begins with bit 1 of the status set: the word's low eight bits
unfoldable pub accepted_in : Turn → List ℕ
accepted_in t =
    cond (eqb (byte_of t) (written_by 4) && eqb (status t.before.serial / 2 % 2) 1) (word_of t % 256 ∷ []) []

-- a read of device 4 in a clock that begins with bit 0 of the status set: the word that the core got
unfoldable pub handed_in : Turn → List ℕ
handed_in t = cond (eqb (byte_of t) (read_by 4) && eqb (status t.before.serial % 2) 1) (word_of t ∷ []) []

module _ (T : Timing) where
  -- the stop bit is sampled: the byte in the shift register is received
  unfoldable pub received_in : Turn → List ℕ
  received_in t = cond (stops T t.before.serial.passed) (t.before.serial.bits ∷ []) []

  -- the reads of device 4, and the receptions, which set bit 0 at their clock's end
  unfoldable pub marks_in : Turn → List Mark
  marks_in t = cond (eqb (byte_of t) (read_by 4)) (read ∷ []) [] ++ cond (stops T t.before.serial.passed) (received ∷ []) []

  -- what becomes of a received byte: handed to such a read, or replaced by the next reception
  unfoldable pub fates_in : Turn → List Fate
  fates_in t =
      cond (eqb (status t.before.serial % 2) 1)
      (cond (eqb (byte_of t) (read_by 4)) (handed (word_of t) ∷ [])
      (cond (stops T t.before.serial.passed) (replaced t.before.serial.byte ∷ []) [])) []

-- the answer bytes of a run, the latest first
unfoldable pub bytes_back : List Turn → List ℕ → List ℕ
bytes_back [] bs = bs
bytes_back (t ∷ ts) bs = bytes_back ts (byte_of t ∷ bs)

-- every clock had its line joined to itself
unfoldable pub all_joined : List Inputs → Bool
all_joined [] = true
all_joined (i ∷ is) = i.joined && all_joined is

unfoldable pub inputs_in : List Turn → List Inputs
inputs_in [] = []
inputs_in (t ∷ ts) = t.input ∷ inputs_in ts
