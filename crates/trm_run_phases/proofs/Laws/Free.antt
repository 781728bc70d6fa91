-- A clock of a run is not refused.
-- Idea: rows 3 to 5 are passed, and the clock's other rows compute.
use Prim.Native.Nat.{ℕ, ◌+◌, ◌≤◌}
use mathlib.Core.Path.{◌≡◌}
use mathlib.Core.List.{List}
use borrow.Author.Tests.{le-ltb}
use Rattle.trm_reference.specs.Geometry.{paper_geometry}
use Rattle.trm_core.specs.Record.{Machine}
use Rattle.trm_core.specs.Refusals.{record_rows, count_row, clock_rows, clock_refusal}
use Rattle.trm_core.proofs.Laws.Rows.{Passed}

pub clock-free : (p : List ℕ) (m : Machine) (s : List ℕ) (line_byte : ℕ) → Passed paper_geometry p m s → line_byte ≤ 7
    → m.scalars.counts.clocks + 1 ≤ 4294967295 → clock_refusal paper_geometry p m s line_byte ≡ 0
unfolding clock_refusal record_rows clock_rows count_row
clock-free p m s line_byte a low room =
    rw (a.program, a.store, a.rule, le-ltb 7 line_byte low, le-ltb 4294967295 (m.scalars.counts.clocks + 1) room)
