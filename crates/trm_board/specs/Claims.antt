-- What is claimed of the board beside any core, one statement per field of `Claims`. The value is in proofs/Theorems.antt.
-- Request A1. For every timing that fits and every core that obeys: any program, any lines, switches, interrupts and held clocks.
use Rattle.std.specs.Prelude.{ℕ, ◌≤◌, ◌≡◌, true, List}
use Rattle.trm_serial.specs.Timing.{Timing, Fits, paper_timing}
use Rattle.trm_board.specs.Core.{Core, Obeys}
use Rattle.trm_board.specs.Board.{Devices, Inputs, devices_reset, devices_clock, board_reset}
use Rattle.trm_board.specs.Rule.{devices_ok}
use Rattle.trm_board.specs.Turns.{turns, board_end}
use Rattle.trm_board.specs.Course.{Course}
use Rattle.trm_board.specs.Cases.{rows, all_same}

-- From a board reset, whatever the core inside, at clock count 0.
abbrev pub CourseHolds : Type 1
CourseHolds =
    (T : Timing) → Fits T → (C : Type 0) (K : Core C) → Obeys K → (c : C) → K.count c ≡ 0 → (is : List Inputs)
    → Course T (turns T K (board_reset c) is) (board_end T K (board_reset c) is).devices

-- "A board field outside its range is refused with 5": after a reset every field is in its range, and no clock takes one out of it.
pub record RangesKept : Type 0 where
  pub reset : devices_ok paper_timing devices_reset ≡ true
  pub clock : (line count byte word : ℕ) (d : Devices) → line ≤ 1 → devices_ok paper_timing d ≡ true
      → devices_ok paper_timing (devices_clock paper_timing line count byte word d) ≡ true

pub record Claims : Type 1 where
  -- computed cases, against a second reading
  pub scripts_hold : all_same rows ≡ true
  pub course_holds : CourseHolds
  pub ranges_kept : RangesKept
