-- The core of document 01 obeys: its answers by the input word, and its clock count.
use Prim.Native.Nat.{ℕ}
use mathlib.Core.List.{List}
use Rattle.trm_reference.specs.Geometry.{paper_geometry}
use Rattle.trm_run_phases.proofs.Laws.Adds.{clock-adds}
use Rattle.trm_clock_device.proofs.Theorems as device
use Rattle.trm_board.specs.Core.{Obeys, pins}
use Rattle.trm_board_calls.specs.Cores.{record_core}

pub record_obeys : (p : List ℕ) → Obeys (record_core paper_geometry p)
record_obeys p = record {
  same = λ x line_byte. ((device.theorems).answers p x line_byte).same;
  reads = λ x line_byte. ((device.theorems).answers p x line_byte).reads;
  ends = λ x line_byte. ((device.theorems).answers p x line_byte).ends;
  counts = λ x line_byte i. (clock-adds p x (pins line_byte i)).adds;
}
