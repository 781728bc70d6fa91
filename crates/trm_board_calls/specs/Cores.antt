-- The cores inside the board: the record with its store under a program, and the plain machine of demand 3.
-- Document 01: "The clock call takes the record and returns it"; "The plain machine of demand 3 ..".
--   record_core G p, reference_core G p
use Rattle.std.specs.Prelude.{ℕ, List}
use Rattle.trm_reference.specs.Geometry.{Geometry}
use Rattle.trm_reference.specs.Reference.{Reference, reference_clock}
use Rattle.trm_core.specs.Record.{Lent}
use Rattle.trm_core.specs.Clock.{clock_of}
use Rattle.trm_board.specs.Core.{Core}

abbrev pub record_core : Geometry → List ℕ → Core Lent
record_core G p = record { clock = clock_of G p; count = λ x. x.machine.scalars.counts.clocks }

abbrev pub reference_core : Geometry → List ℕ → Core Reference
reference_core G p = record { clock = reference_clock G p; count = λ q. q.clocks }
