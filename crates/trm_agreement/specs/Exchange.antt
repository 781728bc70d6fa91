-- An exchange: a list of calls, each with any return that its contract allows, and the log of these returns.
-- Paper: "Demand 3 is one statement on the whole list, not one on each call"; "The clock call takes the record and returns it".
--   Starts s m, Fails s m     a reset of the store s, accepted or refused, returned the record m
--   Returned                  what a call returned: its number, the record and the store it left, and what it reports
--   Meets p m s c a           a function that makes the call c returned a: by value, lent or a run, mixed in any way
--   Exchange p m s cs as      every call meets its contract, and the next one is made with the record and the store left
--   exchange_log G p m s cs as    the log of the returns, after the start
use Rattle.std.specs.Prelude.{ℕ, ◌≡◌, ◌≢◌, cond, List, [], ◌∷◌, ◌++◌, eqb, Ok, Err}
use Rattle.trm_reference.specs.Geometry.{Geometry}
use Rattle.trm_reference.specs.Access.{Answer, silent}
use Rattle.trm_reference.specs.Trace.{Pins, clocks}
use Rattle.trm_core.specs.Clock.{clock_of}
use Rattle.trm_call_refusals.specs.declared.refusal.Refusal.{Refusal}
use Rattle.trm_call_refusals.specs.Numbers.{number_of as refusal_number}
use Rattle.trm_run_machine.specs.declared.machine.Machine.{Machine}
use Rattle.trm_run_machine.specs.Machine.{lent}
use Rattle.trm_run_machine.specs.declared.clock_answer.Clock.{Clock}
use Rattle.trm_calls.specs.declared.call_answers.Run.{Run}
use Rattle.trm.specs.declared.exported_answers.ResetAnswer.{ResetAnswer}
use Rattle.trm.specs.declared.exported_answers.ClockAnswer.{ClockAnswer}
use Rattle.trm.specs.declared.exported_answers.LentAnswer.{LentAnswer}
use Rattle.trm.specs.declared.exported_answers.RunAnswer.{RunAnswer}
use Rattle.trm_agreement.specs.Log.{clocked, ended, entries}
use Rattle.trm_agreement.specs.Calls.{Call, clock_call, run_call, feed, answer, Ended, clock_ends, run_ends, Seen, LogEntry}
use Rattle.trm_agreement.specs.Calls.{record_seen, record_engine}
use Rattle.trm_agreement.specs.CallContracts.{ShippedReset, ShippedValue, ShippedLent, ShippedRun, ResetMet, ClockMet, RunMet}

-- an accepted reset: of trm_reset, or of trm_calls
pub data Starts (s : List ℕ) : Machine → Type 0 where
  shipped : (r : ResetAnswer) → ShippedReset s r → r.number ≡ 0 → Starts s r.machine
  own : (m : Machine) → ResetMet s (Ok m) → Starts s m

-- a refused reset, of trm_reset: that of trm_calls returns no record
pub data Fails (s : List ℕ) : Machine → Type 0 where
  shipped_not : (r : ResetAnswer) → ShippedReset s r → r.number ≢ 0 → Fails s r.machine

-- the number, the record that is returned or was lent, and the lent buffers after the call
pub data Returned : Type 0 where
  clock_returned : (number : ℕ) (left : Machine) (store : List ℕ) (out : Answer) → Returned
  run_returned : (number : ℕ) (left : Machine) (store : List ℕ) (used finished : ℕ) (bytes words : List ℕ) → Returned

unfoldable pub code_returned : Returned → ℕ
code_returned (clock_returned number left store out) = number
code_returned (run_returned number left store used finished bytes words) = number

unfoldable pub machine_left : Returned → Machine
machine_left (clock_returned number left store out) = left
machine_left (run_returned number left store used finished bytes words) = left

unfoldable pub store_left : Returned → List ℕ
store_left (clock_returned number left store out) = store
store_left (run_returned number left store used finished bytes words) = store

-- what a call that is refused with this number returns: everything as it was given
unfoldable pub as_given : Machine → List ℕ → Call → ℕ → Returned
as_given m s (clock_call line_byte input) number = clock_returned number m s (silent 0)
as_given m s (run_call line_bytes inputs bytes words) number = run_returned number m s 0 0 bytes words

abbrev pub as_answer : ℕ → ℕ → ℕ → Answer
as_answer byte word finished = record { byte = byte; word = word; done = finished }

-- what the contract of a function ensures of its result, of a lent record and of the buffers at exit, and nothing else: a clock call by
-- trm_clock_value or by trm_clock, which is lent the record, a run by trm_run; or either by the function of trm_calls, whose caller keeps
-- the record if it is refused
pub data Meets (p : List ℕ) (m : Machine) (s : List ℕ) : Call → Returned → Type 0 where
  by_value : (line_byte input : ℕ) (r : ClockAnswer) (s' : List ℕ) → ShippedValue m p s line_byte input r s'
      → Meets p m s (clock_call line_byte input) (clock_returned r.number r.machine s' (as_answer r.byte r.word r.finished))
  by_lending : (line_byte input : ℕ) (m' : Machine) (r : LentAnswer) (s' : List ℕ) → ShippedLent m p s line_byte input m' r s'
      → Meets p m s (clock_call line_byte input) (clock_returned r.number m' s' (as_answer r.byte r.word r.finished))
  by_run : (line_bytes inputs bytes words : List ℕ) (r : RunAnswer) (s' bytes' words' : List ℕ)
      → ShippedRun m p s line_bytes inputs bytes words r s' bytes' words'
      → Meets p m s (run_call line_bytes inputs bytes words)
      (run_returned r.number r.machine s' r.used r.finished bytes' words')
  own_clock : (line_byte input : ℕ) (r : Clock) (s' : List ℕ) → ClockMet m p s line_byte input (Ok r) s'
      → Meets p m s (clock_call line_byte input) (clock_returned 0 r.machine s' (as_answer r.byte r.word r.finished))
  own_clock_not : (line_byte input : ℕ) (e : Refusal) (s' : List ℕ) → ClockMet m p s line_byte input (Err e) s'
      → Meets p m s (clock_call line_byte input) (clock_returned (refusal_number e) m s' (silent 0))
  own_run : (line_bytes inputs bytes words : List ℕ) (r : Run) (s' bytes' words' : List ℕ)
      → RunMet m p s line_bytes inputs bytes words (Ok r) s' bytes' words'
      → Meets p m s (run_call line_bytes inputs bytes words) (run_returned 0 r.machine s' r.used r.finished bytes' words')
  own_run_not : (line_bytes inputs bytes words : List ℕ) (e : Refusal) (s' bytes' words' : List ℕ)
      → RunMet m p s line_bytes inputs bytes words (Err e) s' bytes' words'
      → Meets p m s (run_call line_bytes inputs bytes words) (run_returned (refusal_number e) m s' 0 0 bytes' words')

-- refused or not, the next call is made with the record and the store that are left
unfoldable pub Exchange : List ℕ → Machine → List ℕ → List Call → List Returned → Type 0
Exchange p m s [] [] = Unit {0}
Exchange p m s [] (a ∷ as') = ⊥
Exchange p m s (c ∷ cs) [] = ⊥
Exchange p m s (c ∷ cs) (a ∷ as') = Meets p m s c a × Exchange p (machine_left a) (store_left a) cs as'

-- the record and the store that the last call left
unfoldable pub machine_at : Machine → List Returned → Machine
machine_at m [] = m
machine_at m (a ∷ as') = machine_at (machine_left a) as'

unfoldable pub store_at : List ℕ → List Returned → List ℕ
store_at s [] = s
store_at s (a ∷ as') = store_at (store_left a) as'

-- what a call returned, and the buffers that a run left
unfoldable pub ended_by : Returned → Ended
ended_by (clock_returned number left store out) = clock_ends number
ended_by (run_returned number left store used finished bytes words) = run_ends number used finished bytes words

-- the one clock of a clock call, with its input
unfoldable pub alone : Seen → Answer → List Pins → List LogEntry
alone w o [] = []
alone w o (i ∷ is) = clocked i w o ∷ []

-- what is seen of a record with its store
abbrev pub seen_at : Geometry → Machine → List ℕ → Seen
seen_at G m s = record_seen G (lent m s)

module _ (G : Geometry) (p : List ℕ) where
  -- the clock history of a record and its store, which the contract of a run cites
  unfoldable pub clock_history : Machine → List ℕ → List Pins → List LogEntry
  clock_history m s is = entries feed answer (record_engine G p) (clocks (clock_of G p) (lent m s) is) is

  -- The clocks of a call that is not refused. The clock of a clock call is the record and the store left and the answer returned. A run
  -- returns only its last state, which its end shows: its clocks are the clock history, and `run_prefix` of `Demand3` says that each of
  -- them is what the run of as many line bytes returns.
  unfoldable pub shown : Machine → List ℕ → Call → Returned → List LogEntry
  shown m s c (clock_returned number left store out) = cond (eqb number 0) (alone (seen_at G left store) out (feed c)) []
  shown m s c (run_returned number left store used finished bytes words) = cond (eqb number 0) (clock_history m s (feed c)) []

  -- the entries after the start; the end of a call, refused or not, shows the record and the store left
  unfoldable pub exchange_log : Machine → List ℕ → List Call → List Returned → List LogEntry
  exchange_log m s [] as' = []
  exchange_log m s (c ∷ cs) [] = []
  exchange_log m s (c ∷ cs) (a ∷ as') =
      shown m s c a
      ++ ended (seen_at G (machine_left a) (store_left a)) (ended_by a)
      ∷ exchange_log (machine_left a) (store_left a) cs as'
