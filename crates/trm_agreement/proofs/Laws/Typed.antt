-- The claims of trm_core for any record of the code, whose type fixes the lengths of its arrays.
use mathlib.Core.List.{List}
use mir.Val.{Val}
use denote.Laws.{Is}
use denote.Struct.Declared.{row}
use Rattle.trm_reference.specs.Geometry.{paper_geometry}
use Rattle.trm_core.proofs.Theorems.{theorems}
use Rattle.trm_run_machine.specs.declared.machine.Machine.{Machine}
use Rattle.trm_run_machine.specs.Machine.{lent}
use Rattle.trm_run_machine.specs.contracts.machine.Machine.{the_type}
use Rattle.trm_run_machine.proofs.Laws.Shape.{shaped_by_type}
use Rattle.trm_clock_laws.proofs.Laws.Facts.{paper_ok}
use Rattle.trm_agreement.specs.Claims.{OfTheCode}

pub of_the_code : (m : Machine) (vs : List Val) → Is (row the_type) m vs → OfTheCode m
of_the_code m vs is = record {
  clock_table = λ p s pins. theorems.clock_table paper_geometry p (lent m s) pins paper_ok (shaped_by_type m vs is);
  record_kept = λ p s pins. theorems.record_kept paper_geometry p (lent m s) pins paper_ok (shaped_by_type m vs is);
}
