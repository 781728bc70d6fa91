-- What a log of board calls shows, from the log alone: its turns, one for each clock, and the core inside, with what it was fed.
-- Request A1: "The tick is interrupt 0"; "The tick and reads of 4 to 6 show what stood when the clock began"; document 01: the plain
-- machine "is fed the program and each accepted clock's line byte and input word".
--   turns_in w es    the turns, w being seen at the start        cores_in w es   the core's part        fed_in w es   what it was fed
use Rattle.std.specs.Prelude.{List, [], ◌∷◌}
use Rattle.trm_reference.specs.Trace.{Pins}
use Rattle.trm_clock_device.specs.Device.{device_read}
use Rattle.trm_serial.specs.Timing.{paper_timing}
use Rattle.trm_board.specs.Core.{pins}
use Rattle.trm_board.specs.Board.{Inputs, Shown, reply, line_byte}
use Rattle.trm_board.specs.Turns.{Turn}
use Rattle.trm_agreement.specs.Log.{started, clocked, ended}
use Rattle.trm_agreement.specs.Calls.{LogEntry}
use Rattle.trm_board_agreement.specs.Calls.{BoardSeen, BoardEntry}

unfoldable pub turns_in : BoardSeen → List BoardEntry → List Turn
turns_in w [] = []
turns_in w (started v ∷ es) = turns_in v es
turns_in w (clocked i v o ∷ es) = record { before = w.devices; input = i; shown = o } ∷ turns_in v es
turns_in w (ended v a ∷ es) = turns_in v es

-- the tick, interrupt 1 and stall, and the reply of the device that the answer shows read, by what stood when the clock began
abbrev pub fed_at : BoardSeen → Inputs → Shown → Pins
fed_at w i o =
    pins (line_byte w.devices.tick i)
    (reply paper_timing w.devices.serial w.core.clocks i.switches (device_read o.answer.byte))

unfoldable pub cores_in : BoardSeen → List BoardEntry → List LogEntry
cores_in w [] = []
cores_in w (started v ∷ es) = cores_in v es
cores_in w (clocked i v o ∷ es) = clocked (fed_at w i o) v.core o.answer ∷ cores_in v es
cores_in w (ended v a ∷ es) = cores_in v es

unfoldable pub fed_in : BoardSeen → List BoardEntry → List Pins
fed_in w [] = []
fed_in w (started v ∷ es) = fed_in v es
fed_in w (clocked i v o ∷ es) = fed_at w i o ∷ fed_in v es
fed_in w (ended v a ∷ es) = fed_in v es
