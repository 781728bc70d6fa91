-- The record's arrays have the lengths of their types (`Shaped`, D-31).
-- Idea: each field of a value of the record's type is a value of the field's type, and an array's type fixes its length.
-- `g` are the fields of the cache.
use mathlib.Core.Path.{◌≡◌, sym}
use mathlib.Core.List.{List}
use lib.ListN.{length}
use native.Mathlib.Nat.{le_of_eq}
use mir.Val.{Val}
use denote.Laws.{Is}
use denote.Struct.Declared.{row}
use denote.Struct.Laws as LL
use Rattle.trm_reference.specs.Geometry.{paper_geometry}
use Rattle.trm_cache.specs.Cache.{Sized}
use Rattle.trm_core.specs.Claims.{Shaped}
use Rattle.trm_run_machine.specs.declared.machine.Machine.{Machine}
use Rattle.trm_run_machine.specs.Machine.{record_of}
use Rattle.trm_run_machine.specs.contracts.machine.Machine as T
use Rattle.trm_run_machine.proofs.machine.Machine.TheLaws as T'

-- from the lengths
pub shaped-by : (m : Machine) → length m.regs ≡ 16 → Sized m.cache → Shaped paper_geometry (record_of m)
shaped-by m regs k = record {
  regs = le_of_eq (sym regs);
  full = le_of_eq (sym k.full);
  dirty = le_of_eq (sym k.dirty);
  block = le_of_eq (sym k.block);
  words = le_of_eq (sym k.words);
}

-- from the type
pub shaped_by_type : (m : Machine) (vs : List Val) → Is (row T.the_type) m vs → Shaped paper_geometry (record_of m)
shaped_by_type m vs is =
    let f = LL.owed T.the_type T'.the_laws m vs is in
    let g = f.1.1.0.1.1 in
    let regs : length m.regs ≡ 16 = f.1.0.1.0.1 in
    let full : length m.cache.full ≡ 16 = g.0.1.0.1 in
    let dirty : length m.cache.dirty ≡ 16 = g.1.0.1.0.1 in
    let block : length m.cache.block ≡ 16 = g.1.1.0.1.0.1 in
    let words : length m.cache.words ≡ 128 = g.1.1.1.0.1.0.1 in
    shaped-by m regs (record { full = full; dirty = dirty; block = block; words = words })
