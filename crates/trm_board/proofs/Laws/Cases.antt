-- The computed cases.
use mathlib.Core.Path.{◌≡◌, refl}
use mathlib.Core.Bool.{true}
use Rattle.trm_serial.specs.Timing.{frame, stop_sample}
use Rattle.trm_serial.specs.Serial.{level, busy, left_after, sent_after, ready_after, waits, stops, samples, gathered, listened}
use Rattle.trm_serial.specs.Serial.{serial_clock}
use Rattle.trm_serial.specs.Cases.{same}
use Rattle.trm_clock_device.specs.Device.{device_read}
use Rattle.trm_board.specs.Core.{asked}
use Rattle.trm_board.specs.Board.{status, reply, access_of, tick_after, lamps_after, line_in, fed, board_clock}
use Rattle.trm_board.specs.Cases.{rows, all_same, shown_in, does, later, answers, script_clock}

pub scripts : all_same rows ≡ true
unfolding all_same same shown_in does later answers script_clock device_read asked status reply access_of tick_after lamps_after line_in
    fed board_clock level busy left_after sent_after ready_after waits stops samples gathered listened serial_clock frame stop_sample
scripts = refl
