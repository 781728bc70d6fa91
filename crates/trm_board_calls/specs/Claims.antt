-- What is claimed of the board's cores and calls, one statement per field of `Claims`. The value is in proofs/Theorems.antt.
-- Request A1.
use Rattle.std.specs.Prelude.{ℕ, List}
use Rattle.trm_reference.specs.Geometry.{paper_geometry}
use Rattle.trm_board.specs.Core.{Obeys}
use Rattle.trm_board_calls.specs.Cores.{record_core}

pub record Claims : Type 0 where
  -- the core of document 01 obeys under every program, from any record and store
  pub record_obeys : (p : List ℕ) → Obeys (record_core paper_geometry p)
