-- The ranges of the board's own fields: row 5.
-- Request A1: "A board field outside its range is refused with 5".
--   devices_ok T d   every field is in its range        InRange d   the same at the paper's timing, as the code asks and keeps it
use Rattle.std.specs.Prelude.{◌≤◌, Bool, ◌&&◌, leb}
use Rattle.trm_serial.specs.Timing.{Timing}
use Rattle.trm_serial.specs.Rule.{serial_ok, Narrow}
use Rattle.trm_board.specs.declared.record.Devices.{Devices}

unfoldable pub devices_ok : Timing → Devices → Bool
devices_ok T d = serial_ok T d.serial && leb d.tick 1 && leb d.lamps 1023

pub record InRange (d : Devices) : Type 0 where
  pub serial : Narrow d.serial
  pub tick : d.tick ≤ 1
  pub lamps : d.lamps ≤ 1023
