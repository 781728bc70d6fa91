-- The computed cases.
use mathlib.Core.Path.{◌≡◌, refl}
use mathlib.Core.Bool.{true}
use Rattle.trm_serial.specs.Timing.{frame, stop_sample}
use Rattle.trm_serial.specs.Serial.{level, busy, left_after, sent_after, ready_after, waits, stops, samples, gathered, listened}
use Rattle.trm_serial.specs.Serial.{serial_clock}
use Rattle.trm_serial.specs.Moments.{heard, heard_end, fed, each, wrote_to, accepted_at, read_of, is_set, handed_at, fate_of, fate_at}
use Rattle.trm_serial.specs.Moments.{on_line}
use Rattle.trm_serial.specs.Moments.{read_mark, marks_at, in_time}
use Rattle.trm_serial.specs.Cases.{Echoes, rows, all_same, same, shown_in, shown, changes, paper_changes, paper_expected}

pub small : all_same rows ≡ true
unfolding all_same same shown_in shown level busy left_after sent_after ready_after waits stops samples gathered listened serial_clock frame
    stop_sample
small = refl

pub paper : same paper_changes paper_expected ≡ true
unfolding same shown changes level busy left_after sent_after ready_after waits stops samples gathered listened serial_clock frame
    stop_sample
paper = refl

pub echoes : Echoes
unfolding heard heard_end fed each wrote_to accepted_at read_of is_set handed_at fate_of fate_at on_line read_mark marks_at in_time
    level busy left_after sent_after ready_after waits stops samples gathered listened serial_clock frame stop_sample
echoes = record { proviso = refl; accepted = refl; handed_over = refl; line = refl; broken = refl; lost = refl }
