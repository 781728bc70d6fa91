-- The board of the code as that of the definitions, and what the inner functions ask of it: facts that the call's rows give, kept by every
-- clock.
--   board_at m d s, board_of b s   the board with its store        stepped   next state and answer of a clock
--   Ready p x k   k clocks are accepted
use Rattle.std.specs.Prelude.{ℕ, ◌+◌, ◌≤◌, ◌≡◌, true, List, length}
use Rattle.trm_reference.specs.Geometry.{paper_geometry}
use Rattle.trm_reference.specs.Trace.{After}
use Rattle.trm_core.specs.Record.{Lent}
use Rattle.trm_core.specs.Claims.{Shaped}
use Rattle.trm_core.specs.Refusals.{program_ok, store_ok}
use Rattle.trm_core.specs.Rule.{record_ok}
use Rattle.trm_run_machine.specs.declared.machine.Machine.{Machine}
use Rattle.trm_run_machine.specs.Machine.{lent}
use Rattle.trm_board.specs.declared.record.Devices.{Devices}
use Rattle.trm_board.specs.Board.{Board, Shown}
use Rattle.trm_board.specs.Rule.{InRange}
use Rattle.trm_board_calls.specs.declared.board_record.Board as coded

abbrev pub board_at : Machine → Devices → List ℕ → Board Lent
board_at m d s = record { core = lent m s; devices = d }

abbrev pub board_of : coded.Board → List ℕ → Board Lent
board_of b s = board_at b.machine b.devices s

-- next state, level and answer of a clock
abbrev pub stepped : Machine → Devices → List ℕ → ℕ → ℕ → ℕ → ℕ → After (Board Lent) Shown
stepped m d s level byte word finished =
    record {
      state = board_at m d s;
      out = record { level = level; answer = record { byte = byte; word = word; done = finished } };
    }

-- so many clocks are accepted: checked once, and kept by every clock
pub record Ready (p : List ℕ) (x : Board Lent) (more : ℕ) : Type 0 where
  pub program : program_ok p ≡ true
  pub store : store_ok x.core.machine x.core.store ≡ true
  pub rule : record_ok paper_geometry p (length x.core.store) x.core.machine ≡ true
  pub shaped : Shaped paper_geometry x.core.machine
  pub room : x.core.machine.scalars.counts.clocks + more ≤ 4294967295
  pub devices : InRange x.devices
