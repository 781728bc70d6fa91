-- The machine record and the board in memory: their sizes in bytes and the version.
-- Paper: nothing; later requests change the record (D-74).
--   record_size, board_size   the size of a record and of a board as the compiler lays them out
--   record_version           goes up by one with each change of the record or of the C interface
use Rattle.std.specs.Prelude.{ℕ}
use prog.Memory.{size}
use denote.Memory.{lone}
use Rattle.trm_run_machine.specs.contracts.machine.Machine as machine
use Rattle.trm_board_calls.specs.contracts.board_record.Board as board

abbrev pub record_size : ℕ
record_size = size (lone (machine.the_row).mir)

abbrev pub board_size : ℕ
board_size = size (lone (board.the_row).mir)

abbrev pub record_version : ℕ
record_version = 3
