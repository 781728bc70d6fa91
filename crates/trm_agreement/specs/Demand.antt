-- DEMAND 3, in one record: `Demand3`, about the functions that customers link. Its value is in proofs/Theorems.antt.
-- "For any program, any first memory and any list of clock calls and runs from a reset, refused ones included, whatever the interrupt,
-- stall and input lines do"; paper: "Demand 3 is one statement on the whole list, not one on each call".
--   Holds     what is claimed of the log of a list of calls, each field under its words of the demand
--   Demand3   that this holds of whatever the calls return, and what else a caller needs to know of them
-- "Seen" is all that a programmer sees, memory as a copy gives it, and all counts. A log (specs/Log.antt) has
--   the start: what is seen of the record that reset returned and of the store;
--   each clock of a call that is not refused: its line byte and input word, what is seen after it, its answer byte and word, and
--   whether it finished an instruction;
--   each call, refused or not: what is seen of the record and the store that it left; its number; of a run also the clocks used, the
--   instructions finished and both answer buffers.
use Rattle.std.specs.Prelude.{ℕ, ◌≤◌, ◌≡◌, ◌≢◌, cond, List, [], ◌∷◌, ◌++◌, length, take}
use Rattle.trm_reference.specs.Geometry.{Geometry, paper_geometry}
use Rattle.trm_reference.specs.Trace.{pins_of, end_of, finished_in}
use Rattle.trm_reference.specs.Reference.{reference_reset}
use Rattle.trm_core.specs.Record.{Lent}
use Rattle.trm_core.specs.Refusals.{program_ok, reset_refusal, run_refusal}
use Rattle.trm_core.specs.Run.{history_of, bytes_of, words_of}
use Rattle.trm_run_machine.specs.declared.machine.Machine.{Machine}
use Rattle.trm_run_machine.specs.Machine.{lent}
use Rattle.trm.specs.Promises.{with_record}
use Rattle.trm.specs.declared.exported_answers.ClockAnswer.{ClockAnswer}
use Rattle.trm.specs.declared.exported_answers.LentAnswer.{LentAnswer}
use Rattle.trm_agreement.specs.Log.{started, log_of, answers_in, returns_in, last_seen, state_of}
use Rattle.trm_agreement.specs.Calls.{Call, run_call, feed, answer, number_of, run_ends, Seen, LogEntry, reference_seen, reference_engine}
use Rattle.trm_agreement.specs.CallContracts.{ShippedValue, ShippedLent}
use Rattle.trm_agreement.specs.Exchange.{Starts, Fails, Returned, code_returned, machine_left, store_left, as_given, Meets, Exchange}
use Rattle.trm_agreement.specs.Exchange.{machine_at, store_at, ended_by, seen_at, clock_history, exchange_log}
use Rattle.trm_agreement.specs.Book.{opened, longest}
use Rattle.trm_agreement.specs.Audit.{Balanced, Audited, book_at, accesses_in, device_answers}

-- every member of a list
unfoldable pub All : {A : Type 0} → (A → Type 0) → List A → Type 0
All Q [] = Unit {0}
All Q (x ∷ xs) = Q x × All Q xs

-- For a program p, a first memory s and a list of calls cs: a log that starts with `first` seen, has the entries es, and ends with `last`
-- seen. What holds of every entry holds of every clock within a run and of every shorter list of calls.
pub record Holds (G : Geometry) (p s : List ℕ) (cs : List Call) (first : Seen) (es : List LogEntry) (last : Seen) : Type 0 where
  -- "at the start and after every clock all that a programmer sees, memory as a copy gives it, all counts, each answer and each run's
  -- counts are those of a plain machine over flat memory, which is fed the same lines and words and nothing of the record"
  pub same : started first ∷ es ≡ log_of feed answer (reference_engine G p) (reference_reset s) cs
  -- "clocks = held + charges of the instructions and interrupts finished + unheld clocks spent on the one in flight, refills and
  -- write-backs judged from the plain machine's history alone; no instruction takes over 161 unheld clocks": at the start and after
  -- every entry, of the counts that the log shows
  pub balanced : (ds rest : List LogEntry) → es ≡ ds ++ rest → Balanced G p (book_at G p (opened first) ds)
  -- "interrupts are taken only by the paper's rule, and always by it"; each instruction finished took its charge; "What a programmer
  -- sees changes only in an instruction's last clock"; a refused call ends with what it began with
  pub audited : Audited G p (opened first) es
  -- "each device load or store reaches the device once, on finishing, in program order"
  pub devices : device_answers (answers_in es) ≡ accesses_in G p (opened first) es
  -- "no call of the list is refused with 5"
  pub never_five : All (λ a. number_of a ≢ 5) (returns_in es)
  -- what is seen of the last states of the two machines is equal
  pub state_alike : last ≡ reference_seen (state_of feed answer (reference_engine G p) (reference_reset s) cs)

-- the first k clocks of a run, as the log shows them
abbrev pub first_clocks : List ℕ → Machine → List ℕ → List ℕ → List ℕ → ℕ → List LogEntry
first_clocks p m s line_bytes inputs k = take k (clock_history paper_geometry p m s (pins_of line_bytes inputs))

-- What the run of the first k line bytes of a run returns: the k-th state of the clock history, which is what the log shows after k of the
-- run's clocks; k clocks used, and the instructions and answers of these clocks.
pub record Prefix (p : List ℕ) (m : Machine) (s line_bytes inputs : List ℕ) (k : ℕ) (a : Returned) : Type 0 where
  pub state : lent (machine_left a) (store_left a) ≡ end_of (lent m s) (take k (history_of paper_geometry p (lent m s) line_bytes inputs))
  pub seen : seen_at paper_geometry (machine_left a) (store_left a)
      ≡ last_seen (seen_at paper_geometry m s) (first_clocks p m s line_bytes inputs k)
  pub reports : ended_by a ≡ run_ends 0 k (finished_in (answers_in (first_clocks p m s line_bytes inputs k)))
      (bytes_of (answers_in (first_clocks p m s line_bytes inputs k))) (words_of (answers_in (first_clocks p m s line_bytes inputs k)))

-- the record of a reset and returns of the calls that the contracts allow
pub record Exists (p s : List ℕ) (cs : List Call) : Type 0 where
  pub machine : Machine
  pub reset : Starts s machine
  pub returns : List Returned
  pub exchange : Exchange p machine s cs returns

-- the answer of a clock by value, as the lent clock gives it
abbrev pub without_record : ClockAnswer → LentAnswer
without_record r = record { number = r.number; byte = r.byte; word = r.word; finished = r.finished }

-- DEMAND 3, about whatever trm_reset, trm_clock_value, trm_clock and trm_run return that their own contracts allow, mixed in any way in one
-- list (`Meets`; also the functions of trm_calls). A call of the list has the program p and the record and store that the call before it
-- left, so none is refused with 4, and 3 is given by every call or by none. A call with another program or store is not in the list: if
-- it is refused, `refused` covers it; if not, only its contract does.
pub record Demand3 : Type 0 where
  -- "for any program, any first memory and any list of clock calls and runs from a reset, refused ones included": a bad program too
  pub holds : (p s : List ℕ) (m : Machine) (cs : List Call) (as' : List Returned) → Starts s m → Exchange p m s cs as'
      → Holds paper_geometry p s cs (seen_at paper_geometry m s) (exchange_log paper_geometry p m s cs as')
      (seen_at paper_geometry (machine_at m as') (store_at s as'))
  pub longest_161 : longest paper_geometry ≡ 161
  -- "any first memory", one that reset refuses: every call with the record that it returned is refused with 3 or 4
  pub refused_reset : (s₀ : List ℕ) (m : Machine) → Fails s₀ m → (p s : List ℕ) (c : Call) (a : Returned) → Meets p m s c a
      → a ≡ as_given m s c (cond (program_ok p) 4 3)
  -- "A refused call moves nothing", with any record: it returns the number, and everything else as it was given
  pub refused : (p : List ℕ) (m : Machine) (s : List ℕ) (c : Call) (a : Returned) → Meets p m s c a → code_returned a ≢ 0
      → a ≡ as_given m s c (code_returned a)
  -- "after every clock", for the clocks within a run: each is what a shorter run returns; that run is accepted if the whole one is
  pub run_prefix : (p : List ℕ) (m : Machine) (s line_bytes inputs bytes words : List ℕ) (k : ℕ) (a : Returned) → k ≤ length line_bytes
      → Meets p m s (run_call (take k line_bytes) (take k inputs) bytes words) a → code_returned a ≡ 0 → Prefix p m s line_bytes inputs k a
  pub prefix_accepted : (G : Geometry) (p : List ℕ) (x : Lent) (line_bytes inputs bytes words : List ℕ) (k : ℕ) → k ≤ length line_bytes
      → run_refusal G p x.machine x.store line_bytes inputs bytes words ≡ 0
      → run_refusal G p x.machine x.store (take k line_bytes) (take k inputs) (take k bytes) (take k words) ≡ 0
  -- "a second entry lends the record itself for one clock, with the same outcome": whatever the clock by value returns the lent clock
  -- can return too, and nothing else
  pub lent_too : (m : Machine) (p s : List ℕ) (line_byte input : ℕ) (r : ClockAnswer) (s' : List ℕ)
      → ShippedValue m p s line_byte input r s'
      → ShippedLent m p s line_byte input r.machine (without_record r) s'
  pub same_outcome : (m : Machine) (p s : List ℕ) (line_byte input : ℕ) (r : ClockAnswer) (s₁ : List ℕ) (m₂ : Machine) (r₂ : LentAnswer)
      (s₂ : List ℕ) → ShippedValue m p s line_byte input r s₁ → ShippedLent m p s line_byte input m₂ r₂ s₂
      → (r ≡ with_record m₂ r₂) × (s₁ ≡ s₂)
  -- such returns exist: for every program, every first memory that reset accepts and every list of calls
  pub exists : (p s : List ℕ) (cs : List Call) → reset_refusal s ≡ 0 → Exists p s cs

-- WHAT BOTH MACHINES SHARE, so that `same` cannot check it: the word at PC (`word_at`), what it does (`execute`) with what it loads and
-- stores; the place, block and line of its access (`address_of`, `place_of`, `target`, `block_of`, `line_of`) and its answer (`answer_of`);
-- which words go through the cache, which do not, and which turn it off; of the clock table (`charge_by`) whether a charge is 1, and the
-- numbers of MUL, DIV and an uncached access (12, 22, the bursts of an emptying and second clocks are checked); `stalled`, the interrupt
-- rule (`interrupt_chosen`, which `audited` has in bits) and what an interrupt does (`interrupted`); rows 3 and 6 to 8; the inputs and
-- returns of a call (`feed`, `answer`, `clocks`, `finished_in`, `bytes_of`, `words_of`).
-- WHERE THAT IS CHECKED, by cases computed from the definitions: the tables of trm_reference (`starred`, `clock_table`, `executed`,
-- `accesses`, `interrupts`, `histories`, `stalls`), `rows` of trm_alu's Bench, `addresses_hold` of trm_word, the scenario of trm_core;
-- rows 3 and 6 to 8 by `refusals_hold` and `limits` of trm_core; the inputs and returns of a run by `runs_are_runs`.
