-- Demand 3 and the claims around it, one statement per field of `Claims`.
-- Demand 3 is the first field, `Demand3` of specs/Demand.antt; the others say more about its parts. The value is in proofs/Theorems.antt.
use Rattle.std.specs.Prelude.{ℕ, ◌≡◌, true, false, List, length, Result}
use mir.Val.{Val}
use denote.Laws.{Is}
use denote.Struct.Declared.{row}
use Rattle.trm_reference.specs.Geometry.{Geometry, paper_geometry, geometry_ok}
use Rattle.trm_reference.specs.Interrupt.{stalled}
use Rattle.trm_reference.specs.Trace.{Pins, clocks, end_of, outs_of}
use Rattle.trm_reference.specs.Reference.{Reference, reference_clock}
use Rattle.trm_core.specs.Record.{Lent, start}
use Rattle.trm_core.specs.Clock.{clock_of}
use Rattle.trm_core.specs.Refusals.{reset_refusal, clock_refusal, run_refusal}
use Rattle.trm_core.specs.Run.{run_of}
use Rattle.trm_core.specs.Claims.{acknowledges, Counted, Kept}
use Rattle.trm_call_refusals.specs.declared.refusal.Refusal.{Refusal}
use Rattle.trm_run_machine.specs.declared.machine.Machine.{Machine}
use Rattle.trm_run_machine.specs.Machine.{record_of, lent}
use Rattle.trm_run_machine.specs.contracts.machine.Machine.{the_type}
use Rattle.trm_run_machine.specs.declared.clock_answer.Clock.{Clock}
use Rattle.trm_calls.specs.declared.call_answers.Run.{Run}
use Rattle.trm_agreement.specs.Log.{clocks_of, entries, calls, log_of, clocked_in, answers_in, fed_of, state_of}
use Rattle.trm_agreement.specs.Calls.{Call, run_call, feed, answer, run_ends, record_seen, record_engine, reference_engine}
use Rattle.trm_agreement.specs.CallContracts.{ResetMet, ClockMet, RunMet}
use Rattle.trm_agreement.specs.Demand.{Holds, Demand3}
use Rattle.trm_agreement.specs.Plain.{InterruptRule, AnswersHold, PlainClock, PlainDevices, Bounded, PlainMachine}

-- What `Demand3` claims of the log of the calls, here of the definitions that the contracts cite, for every geometry of `geometry_ok`.
abbrev pub EveryGeometry : Type 0
EveryGeometry =
    (G : Geometry) (p s : List ℕ) (cs : List Call) → geometry_ok G ≡ true → reset_refusal s ≡ 0
    → Holds G p s cs (record_seen G (start G s)) (calls feed answer (record_engine G p) (start G s) cs)
    (record_seen G (state_of feed answer (record_engine G p) (start G s) cs))

-- A list of calls is a list of clocks, those of the calls that were not refused: its last state; the clocks of its log with the input of
-- each, what is seen after it and its answer; and the answers alone.
pub record CallsAreClocks (G : Geometry) (p : List ℕ) (q : Reference) (cs : List Call) : Type 0 where
  pub state : state_of feed answer (reference_engine G p) q cs
      ≡ end_of q (clocks (reference_clock G p) q (fed_of feed answer (reference_engine G p) q cs))
  pub clocked : clocked_in (log_of feed answer (reference_engine G p) q cs)
      ≡ entries feed answer (reference_engine G p) (clocks (reference_clock G p) q (fed_of feed answer (reference_engine G p) q cs))
      (fed_of feed answer (reference_engine G p) q cs)
  pub answers : answers_in (log_of feed answer (reference_engine G p) q cs)
      ≡ outs_of (clocks (reference_clock G p) q (fed_of feed answer (reference_engine G p) q cs))

-- A run that is not refused is `run_of`, which its contract cites: one clock per line byte, its last state, counts and buffers.
pub record RunIs (G : Geometry) (p : List ℕ) (x : Lent) (line_bytes inputs bytes words : List ℕ) : Type 0 where
  pub clocks : length (clocks_of feed answer (record_engine G p) x (run_call line_bytes inputs bytes words)) ≡ length line_bytes
  pub state : end_of x (clocks_of feed answer (record_engine G p) x (run_call line_bytes inputs bytes words))
      ≡ (run_of G p x line_bytes inputs).state
  pub reports : answer 0 (run_call line_bytes inputs bytes words)
      (outs_of (clocks_of feed answer (record_engine G p) x (run_call line_bytes inputs bytes words)))
      ≡ run_ends 0 (run_of G p x line_bytes inputs).used (run_of G p x line_bytes inputs).finished (run_of G p x line_bytes inputs).bytes
      (run_of G p x line_bytes inputs).words

abbrev pub RunsAreRuns : Type 0
RunsAreRuns =
    (G : Geometry) (p : List ℕ) (x : Lent) (line_bytes inputs bytes words : List ℕ)
    → run_refusal G p x.machine x.store line_bytes inputs bytes words ≡ 0 → RunIs G p x line_bytes inputs bytes words

-- The functions of trm_calls: for every input there is a result that the contract allows.
pub record ResetAnswered (s : List ℕ) : Type 0 where
  pub result : Result Machine Refusal
  pub met : ResetMet s result

pub record ClockAnswered (m : Machine) (p s : List ℕ) (line_byte input : ℕ) : Type 0 where
  pub result : Result Clock Refusal
  pub store : List ℕ
  pub met : ClockMet m p s line_byte input result store

pub record RunAnswered (m : Machine) (p s line_bytes inputs bytes words : List ℕ) : Type 0 where
  pub result : Result Run Refusal
  pub store : List ℕ
  pub bytes' : List ℕ
  pub words' : List ℕ
  pub met : RunMet m p s line_bytes inputs bytes words result store bytes' words'

pub record OwnAnswered : Type 0 where
  pub reset : (s : List ℕ) → ResetAnswered s
  pub clock : (m : Machine) (p s : List ℕ) (line_byte input : ℕ) → ClockAnswered m p s line_byte input
  pub run : (m : Machine) (p s line_bytes inputs bytes words : List ℕ) → RunAnswered m p s line_bytes inputs bytes words

-- The clock table and the record rule of trm_core for any record of the code that a clock call accepts, reached or not. The lengths of its
-- arrays follow from its type (`Is`: m is a value of the declared type), so `Shaped` is not required (D-31).
pub record OfTheCode (m : Machine) : Type 0 where
  pub clock_table : (p s : List ℕ) (pins : Pins) → clock_refusal paper_geometry p (record_of m) s pins.line_byte ≡ 0
      → stalled pins.line_byte ≡ false → acknowledges (record_of m) pins ≡ false → Counted paper_geometry p (lent m s) pins
  pub record_kept : (p s : List ℕ) (pins : Pins) → clock_refusal paper_geometry p (record_of m) s pins.line_byte ≡ 0
      → Kept paper_geometry p (clock_of paper_geometry p (lent m s) pins).state

pub record Claims : Type 0 where
  pub demand_3 : Demand3
  pub every_geometry : EveryGeometry
  pub interrupt_rule : InterruptRule
  pub answers_hold : AnswersHold
  pub plain_clock : (G : Geometry) (p : List ℕ) (q : Reference) (i : Pins) → PlainClock G p q i
  pub plain_devices : PlainDevices
  pub plain_machine : PlainMachine
  pub bounded : Bounded
  pub calls_are_clocks : (G : Geometry) (p : List ℕ) (q : Reference) (cs : List Call) → CallsAreClocks G p q cs
  pub runs_are_runs : RunsAreRuns
  pub own_answered : OwnAnswered
  pub of_the_code : (m : Machine) (vs : List Val) → Is (row the_type) m vs → OfTheCode m
