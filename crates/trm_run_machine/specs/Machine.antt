-- The record of the code as the record of the definitions, and the outcome of a clock and of a run.
-- Paper: "The clock call takes the record and returns it".
--   record_of m   the record of trm_core        lent m s   the same with its store        parts   a record from its parts
--   clocked, ran_to   next state and answers of a clock and of a run
use Rattle.std.specs.Prelude.{ℕ, List}
use Rattle.trm_reference.specs.Access.{Answer}
use Rattle.trm_reference.specs.Trace.{After}
use Rattle.trm_cache.specs.declared.record.Cache.{Cache}
use Rattle.trm_core.specs.Record as core
use Rattle.trm_core.specs.Record.{Lent, whole}
use Rattle.trm_run_machine.specs.declared.machine.Machine.{Machine}
use Rattle.trm_run_machine.specs.declared.clock_answer.Clock.{Clock}
use Rattle.trm_run_machine.specs.declared.inner.methods.Finished.{Finished}
use Rattle.trm_core.specs.Run.{Ran}
use Rattle.trm_core.specs.declared.record.Scalars.{Scalars}

abbrev pub record_of : Machine → core.Machine
record_of m = whole m.scalars m.regs m.cache

-- the record with the borrowed store
abbrev pub lent : Machine → List ℕ → Lent
lent m s = record { machine = record_of m; store = s }

-- next state and answer of a clock, from what it returns and the store after it
abbrev pub clocked : Clock → List ℕ → After Lent Answer
clocked r s =
    record {
      state = record { machine = record_of r.machine; store = s };
      out = record { byte = r.byte; word = r.word; done = r.finished };
    }

-- the same for a run, with the clocks used and the answer buffers
abbrev pub ran_to : Finished → ℕ → List ℕ → List ℕ → List ℕ → Ran
ran_to r used s bytes words =
    record {
      state = record { machine = record_of r.machine; store = s };
      used = used;
      finished = r.finished;
      bytes = bytes;
      words = words;
    }

-- a record from its parts
abbrev pub parts : Scalars → List ℕ → Cache → Machine
parts c rs ca = record { scalars = c; regs = rs; cache = ca }
