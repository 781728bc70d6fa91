-- The ranges of the serial record: what row 5 asks of its fields, and the same in the paper's numbers, as the code asks and keeps it.
-- Request A1: "A board field outside its range is refused with 5".
--   serial_ok T s   every field is in its range        Narrow s   the same at the paper's timing
use Rattle.std.specs.Prelude.{◌≤◌, ◌<◌, Bool, ◌&&◌, leb, ltb}
use Rattle.trm_serial.specs.Timing.{Timing, frame, stop_sample}
use Rattle.trm_serial.specs.declared.record.Serial.{Serial}

-- a frame still to send: 0-10,120 clocks; of a frame received, its stop sample not yet taken: 0-9,613; bytes 0-255; a bit
unfoldable pub serial_ok : Timing → Serial → Bool
serial_ok T s =
    leb s.left (frame T) && leb s.sent 255 && ltb s.passed (stop_sample T) && leb s.bits 255 && leb s.byte 255
    && leb s.ready 1

pub record Narrow (s : Serial) : Type 0 where
  pub left : s.left ≤ 10120
  pub sent : s.sent ≤ 255
  pub passed : s.passed < 9614
  pub bits : s.bits ≤ 255
  pub byte : s.byte ≤ 255
  pub ready : s.ready ≤ 1
