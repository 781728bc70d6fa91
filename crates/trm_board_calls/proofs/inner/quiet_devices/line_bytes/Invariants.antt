-- Invariant: so many line bytes are written.
use Prim.Native.Nat.{◌≤◌}
use mathlib.Core.Path.{◌≡◌}
use lib.ListN.{length, take, drop}
use Rattle.trm_board_calls.specs.Running.{lines_of}
use Rattle.trm_board_calls.proofs.inner.quiet_devices.line_bytes.Given as goal

abbrev pub invariant-loop-i : goal.invariant-loop-i
invariant-loop-i l = (l.i ≤ l.k) × (take l.i l.lines ≡ lines_of l.tick (take l.i (drop l.at l.given)))
    × (length l.lines ≡ 64)
