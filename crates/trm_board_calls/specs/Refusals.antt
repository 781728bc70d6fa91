-- The refusals of the board's clocks and runs, in the table's order; 0: accepted. Reset is refused as the core's.
-- Request A1: "A board field outside its range is refused with 5"; document 01, "Where calls are turned down". A call with the line joined
-- to itself is refused as the one with the line given.
--   board_clock_refusal, board_run_refusal        board_run_rows   rows 6 to 8 of a run
use Rattle.std.specs.Prelude.{ℕ, cond, not, ◌||◌, List, length, eqb}
use Rattle.trm_reference.specs.Geometry.{paper_geometry}
use Rattle.trm_core.specs.Record.{Lent}
use Rattle.trm_core.specs.Refusals.{record_rows, clock_rows, line_bytes_refused, count_row}
use Rattle.trm_serial.specs.Timing.{paper_timing}
use Rattle.trm_board.specs.Board.{Board}
use Rattle.trm_board.specs.Rule.{devices_ok}

-- rows 3, 4 and 5: the core's record, then the board's fields, both with 5; then the call's own rows
unfoldable pub board_rows : List ℕ → Board Lent → ℕ → ℕ
board_rows p x rest =
    record_rows paper_geometry p x.core.machine x.core.store (cond (not (devices_ok paper_timing x.devices)) 5 rest)

-- 6 for the byte of a clock, "a byte above 7", then 8
unfoldable pub board_clock_refusal : List ℕ → Board Lent → ℕ → ℕ
board_clock_refusal p x given = board_rows p x (clock_rows x.core.machine.scalars.counts.clocks given)

-- 6: "other length than the input words", here the switches, "over 65,536, or a byte above 7"; 7: "other length than the run", for the
-- three buffers; then 8
unfoldable pub board_run_rows : ℕ → List ℕ → List ℕ → List ℕ → List ℕ → List ℕ → ℕ
board_run_rows clocks given switches levels bytes words =
    cond (line_bytes_refused given switches) 6
    (cond (not (eqb (length levels) (length given)) || not (eqb (length bytes) (length given)) || not (eqb (length words) (length given))) 7
    (count_row clocks (length given)))

unfoldable pub board_run_refusal : List ℕ → Board Lent → List ℕ → List ℕ → List ℕ → List ℕ → List ℕ → ℕ
board_run_refusal p x given switches levels bytes words =
    board_rows p x (board_run_rows x.core.machine.scalars.counts.clocks given switches levels bytes words)
