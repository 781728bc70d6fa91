-- What each exported call returns for every input: the outcome of the call of trm_calls, trm_call_inspect or trm_image, with the paper's
-- refusal number.
-- Paper: "Where calls are turned down"; "The clock call takes the record and returns it".
--   ResetNumbered, ClockNumbered, RunNumbered, LookNumbered, CopyNumbered, WatchNumbered, ImageNumbered   the contract of a call; r: result
--   with_record   the lent clock's answer together with its record        value_of   a sighting as the watch returns it
use Rattle.std.specs.Prelude.{ℕ, ◌+◌, ◌≡◌, cond, List, length, take, drop, eqb, Option, Some, None, Result, Ok, Err}
use Rattle.trm_reference.specs.Geometry.{paper_geometry}
use Rattle.trm_reference.specs.Access.{Answer}
use Rattle.trm_reference.specs.Trace.{After}
use Rattle.trm_cache.specs.declared.record.Cache.{Cache}
use Rattle.trm_core.specs.Record.{Lent}
use Rattle.trm_core.specs.Refusals.{reset_refusal, clock_refusal, run_refusal, look_refusal, copy_refusal, watch_refusal}
use Rattle.trm_core.specs.Observe.{SightingHolds}
use Rattle.trm_core.specs.Run.{Ran}
use Rattle.trm_core.specs.declared.record.Scalars.{Scalars}
use Rattle.trm_call_refusals.specs.declared.refusal.Refusal.{Refusal}
use Rattle.trm_call_refusals.specs.Numbers.{number_of}
use Rattle.trm_clock_laws.specs.declared.inner.outcome.Clocked.{Clocked}
use Rattle.trm_run_machine.specs.declared.machine.Machine.{Machine}
use Rattle.trm_run_machine.specs.Machine.{record_of, lent, parts}
use Rattle.trm_calls.specs.Promises.{pins, reset_gives, clock_gives, run_gives}
use Rattle.trm_call_inspect.specs.Promises.{look_gives, copy_gives}
use Rattle.trm_image.specs.Refused.{image_fault, payload_fault}
use Rattle.trm_image.specs.Promises.{payload_gives}
use Rattle.trm.specs.declared.exported_answers.ResetAnswer.{ResetAnswer}
use Rattle.trm.specs.declared.exported_answers.ClockAnswer.{ClockAnswer}
use Rattle.trm.specs.declared.exported_answers.LentAnswer.{LentAnswer}
use Rattle.trm.specs.declared.exported_answers.RunAnswer.{RunAnswer}
use Rattle.trm.specs.declared.exported_answers.LookAnswer.{LookAnswer}
use Rattle.trm.specs.declared.exported_answers.WatchAnswer.{WatchAnswer}
use Rattle.trm.specs.declared.image_calls.ImageAnswer.{ImageAnswer}
use Rattle.trm.specs.declared.image_calls.PartAnswer.{PartAnswer}

-- what a clock returns and the store it leaves, as one outcome
abbrev pub clocked : ClockAnswer → List ℕ → After Lent Answer
clocked r s = record { state = lent r.machine s; out = record { byte = r.byte; word = r.word; done = r.finished } }

-- the answer of a clock on a lent record together with the record after it: what the clock by value answers
abbrev pub with_record : Machine → LentAnswer → ClockAnswer
with_record m r =
    record { machine = m; number = r.number; byte = r.byte; word = r.word; finished = r.finished }

-- the answer of a clock on the parts of a record, c being its scalars before, together with the registers and the cache after it
abbrev pub with_parts : Scalars → Result Clocked Refusal → List ℕ → Cache → ClockAnswer
with_parts c (Ok t) rs ca =
    record { machine = parts t.scalars rs ca; number = 0; byte = t.byte; word = t.word; finished = t.finished }
with_parts c (Err e) rs ca = record { machine = parts c rs ca; number = number_of e; byte = 0; word = 0; finished = 0 }

abbrev pub ran : RunAnswer → List ℕ → List ℕ → List ℕ → Ran
ran r s bytes words =
    record { state = lent r.machine s; used = r.used; finished = r.finished; bytes = bytes; words = words }

pub record ResetNumbered (s : List ℕ) (r : ResetAnswer) : Type 0 where
  pub number : r.number ≡ reset_refusal s
  pub machine : record_of r.machine ≡ reset_gives s

pub record ClockNumbered (m : Machine) (p s : List ℕ) (line_byte input : ℕ) (r : ClockAnswer) (s' : List ℕ) : Type 0 where
  pub number : r.number ≡ clock_refusal paper_geometry p (record_of m) s line_byte
  pub outcome : clocked r s' ≡ clock_gives p (lent m s) (pins line_byte input)

pub record RunNumbered (m : Machine) (p s line_bytes inputs bytes words : List ℕ) (r : RunAnswer) (s' bytes' words' : List ℕ) : Type 0 where
  pub number : r.number ≡ run_refusal paper_geometry p (record_of m) s line_bytes inputs bytes words
  pub outcome : ran r s' bytes' words' ≡ run_gives p (lent m s) line_bytes inputs bytes words

pub record LookNumbered (m : Machine) (p s : List ℕ) (address : ℕ) (r : LookAnswer) : Type 0 where
  pub number : r.number ≡ look_refusal paper_geometry p (record_of m) s address
  pub word : r.word ≡ look_gives p (lent m s) address

pub record CopyNumbered (m : Machine) (p s b : List ℕ) (r : ℕ) (b' : List ℕ) : Type 0 where
  pub number : r ≡ copy_refusal paper_geometry p (record_of m) s b
  pub buffer : b' ≡ copy_gives p (lent m s) b

-- a clock is found, or not
abbrev pub value_of : ℕ → Option ℕ → WatchAnswer
value_of number (Some k) = record { number = number; found = 1; clock = k }
value_of number None = record { number = number; found = 0; clock = 0 }

-- the answer shows some sighting; which of several clocks is free
pub record WatchNumbered (bytes : List ℕ) (device : ℕ) (r : WatchAnswer) : Type 0 where
  pub sighting : Option ℕ
  pub answer : r ≡ value_of (watch_refusal device) sighting
  pub accepted : watch_refusal device ≡ 0 → SightingHolds bytes device sighting
  pub refused : watch_refusal device ≡ 9 → sighting ≡ None

-- n is the store's length in words
pub record ImageNumbered (n : ℕ) (image : List ℕ) (r : ImageAnswer) : Type 0 where
  pub number : r.number ≡ (image_fault n image).number
  pub at : r.at ≡ (image_fault n image).at

-- where the payload of the record at `at` begins: after its six header bytes; 0 if it is refused
abbrev pub payload_start : List ℕ → ℕ → ℕ
payload_start s at = cond (eqb (payload_fault s at) 0) (at + 6) 0

-- number, start and length; the bytes that start and length select are the payload, none if it is refused
pub record PayloadPart (s : List ℕ) (at : ℕ) (r : PartAnswer) : Type 0 where
  pub number : r.number ≡ payload_fault s at
  pub start : r.start ≡ payload_start s at
  pub bytes : r.length ≡ length (payload_gives s at)
  pub part : take r.length (drop r.start s) ≡ payload_gives s at
