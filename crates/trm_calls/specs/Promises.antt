-- The outcome of reset, clock and run on every input, refused or not: the number, the record, the store, the answers, the buffers.
-- Paper: "Checks go down the table .. It returns the number only and writes nothing"; "The clock call takes the record and returns it,
-- with the answer byte and word that a run writes for that clock"; "reports the clocks used and instructions finished".
--   reset_gives s    clock_gives p x pins    run_gives p x lines inputs bytes words    the outcome of each
--   clock_left m r s, run_left             the outcome that a result shows
--   ResetHolds, ClockHolds, RunHolds       the whole promise of each call, r being its result
use Rattle.std.specs.Prelude.{ℕ, ◌≡◌, cond, List, [], eqb, Result, Ok, Err, IfOk}
use Rattle.trm_reference.specs.Geometry.{paper_geometry}
use Rattle.trm_reference.specs.Access.{Answer, silent}
use Rattle.trm_reference.specs.Trace.{Pins, After}
use Rattle.trm_core.specs.Record as core
use Rattle.trm_core.specs.Record.{Lent, reset_of}
use Rattle.trm_core.specs.Clock.{clock_of}
use Rattle.trm_core.specs.Refusals.{reset_refusal, clock_refusal, run_refusal}
use Rattle.trm_core.specs.Run.{Ran, run_of}
use Rattle.trm_call_refusals.specs.Numbers.{number_in}
use Rattle.trm_call_refusals.specs.declared.refusal.Refusal.{Refusal}
use Rattle.trm_run_machine.specs.declared.machine.Machine.{Machine}
use Rattle.trm_run_machine.specs.declared.clock_answer.Clock.{Clock}
use Rattle.trm_run_machine.specs.Machine.{record_of, lent, clocked}
use Rattle.trm_calls.specs.declared.call_answers.Run.{Run}

abbrev pub pins : ℕ → ℕ → Pins
pins line_byte input = record { line_byte = line_byte; input = input }

-- the record after a reset; if refused, that of an empty store, which every call refuses by row 3 or 4 (D-37): `trm_reset` returns it
unfoldable pub reset_gives : List ℕ → core.Machine
reset_gives s = cond (eqb (reset_refusal s) 0) (reset_of paper_geometry s) (reset_of paper_geometry [])

-- one clock; if refused, everything is unchanged and the answer is zero
unfoldable pub clock_gives : List ℕ → Lent → Pins → After Lent Answer
clock_gives p x io =
    cond (eqb (clock_refusal paper_geometry p x.machine x.store io.line_byte) 0)
    (clock_of paper_geometry p x io)
    (record { state = x; out = silent 0 })

-- a run; if refused, everything is unchanged, the buffers too, and no clock is used
unfoldable pub run_gives : List ℕ → Lent → List ℕ → List ℕ → List ℕ → List ℕ → Ran
run_gives p x line_bytes inputs bytes words =
    cond (eqb (run_refusal paper_geometry p x.machine x.store line_bytes inputs bytes words) 0)
    (run_of paper_geometry p x line_bytes inputs)
    (record { state = x; used = 0; finished = 0; bytes = bytes; words = words })

-- the outcome of a clock from its result and the store after it; a refused one leaves the record that was passed, and has no answer
abbrev pub clock_left : Machine → Result Clock Refusal → List ℕ → After Lent Answer
clock_left m (Ok r) s = clocked r s
clock_left m (Err e) s = record { state = lent m s; out = silent 0 }

-- the outcome of a run from its result and the borrowed parts after it
abbrev pub run_left : Machine → Result Run Refusal → List ℕ → List ℕ → List ℕ → Ran
run_left m (Ok r) s bytes words =
    record { state = lent r.machine s; used = r.used; finished = r.finished; bytes = bytes; words = words }
run_left m (Err e) s bytes words = record { state = lent m s; used = 0; finished = 0; bytes = bytes; words = words }

pub record ResetHolds (s : List ℕ) (r : Result Machine Refusal) : Type 0 where
  pub number : number_in r ≡ reset_refusal s
  pub machine : IfOk r (λ m. record_of m ≡ reset_gives s)

pub record ClockHolds (m : Machine) (p s : List ℕ) (line_byte input : ℕ) (r : Result Clock Refusal) (s' : List ℕ) : Type 0 where
  pub number : number_in r ≡ clock_refusal paper_geometry p (record_of m) s line_byte
  pub outcome : clock_left m r s' ≡ clock_gives p (lent m s) (pins line_byte input)

pub record RunHolds (m : Machine) (p s line_bytes inputs bytes words : List ℕ) (r : Result Run Refusal)
    (s' bytes' words' : List ℕ) : Type 0 where
  pub number : number_in r ≡ run_refusal paper_geometry p (record_of m) s line_bytes inputs bytes words
  pub outcome : run_left m r s' bytes' words' ≡ run_gives p (lent m s) line_bytes inputs bytes words
