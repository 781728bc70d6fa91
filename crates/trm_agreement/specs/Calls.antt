-- The calls of demand 3, and the two machines that it compares as engines: the record with its store, and the reference machine.
-- Paper: "Demand 3 needs only reset, the clock call and the run"; "no call of the list is refused with 5"; "A run's clocks used are the
-- number of its line bytes, its instructions finished the number of words the plain machine carries out in it".
--   Call          a clock call or a run after the reset        Ended   what it returns        Seen   what is compared after every clock
--   Line          an entry of the log of these calls
--   record_engine, reference_engine   the two machines under a program
use Rattle.std.specs.Prelude.{ℕ, cond, not, List, [], ◌∷◌, length, eqb}
use Rattle.trm_reference.specs.Geometry.{Geometry}
use Rattle.trm_reference.specs.Visible.{Visible}
use Rattle.trm_reference.specs.Access.{Answer}
use Rattle.trm_reference.specs.Trace.{Pins, pins_of, finished_in}
use Rattle.trm_reference.specs.Reference.{Reference, reference_clock}
use Rattle.trm_core.specs.Record.{Lent, visible_of, cache_of}
use Rattle.trm_core.specs.Clock.{clock_of}
use Rattle.trm_core.specs.Refusals.{program_ok, clock_rows, run_rows, clock_refusal, run_refusal}
use Rattle.trm_core.specs.Run.{bytes_of, words_of}
use Rattle.trm_cache.specs.Cache.{copy_of}
use Rattle.trm_agreement.specs.Log.{Engine, Entry}

-- the last two lists of a run are its answer buffers as lent
pub data Call : Type 0 where
  clock_call : (line_byte input : ℕ) → Call
  run_call : (line_bytes inputs bytes words : List ℕ) → Call

-- the inputs of a call's clocks
unfoldable pub feed : Call → List Pins
feed (clock_call line_byte input) = record { line_byte = line_byte; input = input } ∷ []
feed (run_call line_bytes inputs bytes words) = pins_of line_bytes inputs

-- the number of a clock call; of a run the number, its counts and both buffers, which a refused run leaves unchanged
pub data Ended : Type 0 where
  clock_ends : (code : ℕ) → Ended
  run_ends : (code used finished : ℕ) (bytes words : List ℕ) → Ended

unfoldable pub number_of : Ended → ℕ
number_of (clock_ends code) = code
number_of (run_ends code used finished bytes words) = code

unfoldable pub answer : ℕ → Call → List Answer → Ended
answer code (clock_call line_byte input) outs = clock_ends code
answer code (run_call line_bytes inputs bytes words) outs =
    cond (eqb code 0)
    (run_ends 0 (length line_bytes) (finished_in outs) (bytes_of outs) (words_of outs))
    (run_ends code 0 0 bytes words)

-- demand 3: all that a programmer sees, memory as a copy gives it, all counts
pub record Seen : Type 0 where
  pub visible : Visible
  pub memory : List ℕ
  pub clocks : ℕ
  pub held : ℕ
  pub refills : ℕ
  pub writebacks : ℕ

-- an entry of the log of these calls
abbrev pub LogEntry : Type 0
LogEntry = Entry Pins Answer Seen Ended

unfoldable pub record_seen : Geometry → Lent → Seen
record_seen G x =
    record {
      visible = visible_of x.machine;
      memory = copy_of G (cache_of x.machine) x.store;
      clocks = x.machine.scalars.counts.clocks;
      held = x.machine.scalars.counts.held;
      refills = x.machine.scalars.counts.refills;
      writebacks = x.machine.scalars.counts.writebacks;
    }

unfoldable pub reference_seen : Reference → Seen
reference_seen q =
    record {
      visible = q.visible;
      memory = q.memory;
      clocks = q.clocks;
      held = q.held;
      refills = q.refills;
      writebacks = q.writebacks;
    }

-- rows 6, 7 and 8, given the clock count; 4 and 5 never occur
unfoldable pub own_rows : ℕ → Call → ℕ
own_rows clocks (clock_call line_byte input) = clock_rows clocks line_byte
own_rows clocks (run_call line_bytes inputs bytes words) = run_rows clocks line_bytes inputs bytes words

-- a bad program: every call is refused with 3
unfoldable pub reference_code : List ℕ → Reference → Call → ℕ
reference_code p q c = cond (not (program_ok p)) 3 (own_rows q.clocks c)

module _ (G : Geometry) (p : List ℕ) where
  unfoldable pub record_code : Lent → Call → ℕ
  record_code x (clock_call line_byte input) = clock_refusal G p x.machine x.store line_byte
  record_code x (run_call line_bytes inputs bytes words) = run_refusal G p x.machine x.store line_bytes inputs bytes words

  unfoldable pub record_engine : Engine Lent Pins Answer Seen Call
  record_engine = record { step = clock_of G p; seen = record_seen G; code = record_code }

  unfoldable pub reference_engine : Engine Reference Pins Answer Seen Call
  reference_engine = record { step = reference_clock G p; seen = reference_seen; code = reference_code p }
