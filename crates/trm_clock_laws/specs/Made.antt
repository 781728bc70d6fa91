-- A clock's outcome from the function's result and the borrowed parts; what is known of a last clock in phase 5.
-- Paper: "5 needs 14 taken, 15, 11 with bit 10 set, .. LD from a device, or LD or ST with its block in the line".
--   made   next state and answer        Works, WorksLast   these are those of one clock of a word, of its last clock
--   Late w n c rs   facts of the word in phase 5        Ends w r   the next unheld clock ends its phase
use Rattle.std.specs.Prelude.{ℕ, ◌+◌, ◌≤◌, ◌≡◌, ◌≢◌, true, List, length}
use Rattle.trm_word.specs.Fields.{operation, bit}
use Rattle.trm_word.specs.Charge.{charge_of}
use Rattle.trm_reference.specs.Geometry.{paper_geometry}
use Rattle.trm_reference.specs.Visible.{cache_on}
use Rattle.trm_reference.specs.Access.{Answer, to_memory}
use Rattle.trm_reference.specs.Execute.{branch_taken}
use Rattle.trm_reference.specs.Charge.{turns_cache_off}
use Rattle.trm_reference.specs.Trace.{After}
use Rattle.trm_cache.specs.declared.record.Cache.{Cache}
use Rattle.trm_core.specs.declared.record.Running.{Running}
use Rattle.trm_core.specs.declared.record.Scalars.{Scalars}
use Rattle.trm_core.specs.Record.{Lent, gathered, whole}
use Rattle.trm_core.specs.Clock.{finish, worked}
use Rattle.trm_clock_laws.specs.declared.inner.outcome.Clocked.{Clocked}

abbrev pub made : Clocked → List ℕ → Cache → List ℕ → After Lent Answer
made r rs ca s =
    record {
      state = record { machine = whole r.scalars rs ca; store = s };
      out = record { byte = r.byte; word = r.word; done = r.finished };
    }

-- a call with the parts rs, ca, s gives r and the parts rs', ca', s': one clock of the word w with input i, and the same for its last clock
abbrev pub Works : ℕ → Scalars → ℕ → List ℕ → Cache → List ℕ → Clocked → List ℕ → Cache → List ℕ → Type 0
Works w c i rs ca s r rs' ca' s' = made r rs' ca' s' ≡ worked paper_geometry w (length s) (whole c rs ca) s i

abbrev pub WorksLast : ℕ → Scalars → ℕ → List ℕ → Cache → List ℕ → Clocked → List ℕ → Cache → List ℕ → Type 0
WorksLast w c i rs ca s r rs' ca' s' = made r rs' ca' s' ≡ finish paper_geometry w (length s) (whole c rs ca) s i

pub record Late (w n : ℕ) (c : Scalars) (rs : List ℕ) : Type 0 where
  pub many : 11 ≤ operation w
  pub taken : operation w ≡ 14 → branch_taken w (gathered c rs) ≡ true
  pub memory : operation w ≡ 13 → to_memory w (gathered c rs) n ≡ true
  pub cached : operation w ≡ 13 → cache_on (gathered c rs) ≡ true
  pub clears : operation w ≡ 11 → bit 10 w ≢ 1 → turns_cache_off w (gathered c rs) ≡ true

-- the next unheld clock is the last of its phase
pub record Ends (w : ℕ) (r : Running) : Type 0 where
  pub steps : r.phase ≡ 1 → r.count + 1 ≡ charge_of (operation w)
  pub writes : r.phase ≡ 2 → r.count ≡ 9
  pub fills : r.phase ≡ 3 → r.count ≡ 9
  pub waits : r.phase ≡ 4 → r.count + 1 ≡ charge_of (operation w) + 4
