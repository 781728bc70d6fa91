-- A run in progress: after i clocks its state and buffers are those of the clock history of the first i line bytes.
-- Paper: "A run carries out one clock per line byte". Used in inner contracts only: no claim rests on it.
--   Point, point   the state of a run        Reached p ls is x₀ q bs ws   a run from x₀ is in state q, with buffers bs and ws
--   At, Turned     what a turn requires and ensures        Under, Stands, Quietly   the same for a turn without answers
--   Did   how far a turn goes: some clocks at least, or those before an access to a device
--   Begins   the next clock begins an instruction        Room   what writing one clock's answer requires
--   serial_at, with_serial   the registers in flight, and the scalars, after some clocks of steps
use Rattle.std.specs.Prelude.{ℕ, ◌+◌, ◌-◌, ◌≤◌, ◌<◌, ◌≡◌, Bool, true, false, List, ◌++◌, length, get_or, take, drop, replicate}
use Rattle.trm_reference.specs.Geometry.{paper_geometry}
use Rattle.trm_reference.specs.Visible.{word_at}
use Rattle.trm_reference.specs.Access.{Answer}
use Rattle.trm_reference.specs.Trace.{pins_of, After, clocks, end_of, outs_of, finished_in}
use Rattle.trm_reference.specs.Interrupt.{stalled, interrupt_chosen}
use Rattle.trm_cache.specs.declared.record.Cache.{Cache}
use Rattle.trm_core.specs.Record.{Lent, whole, scalars_with, counts_of}
use Rattle.trm_core.specs.Clock.{clock_of}
use Rattle.trm_core.specs.Claims.{Shaped}
use Rattle.trm_core.specs.Rule.{record_ok}
use Rattle.trm_core.specs.Refusals.{all_at_most, program_ok, store_ok}
use Rattle.trm_core.specs.Run.{bytes_of, words_of}
use Rattle.trm_core.specs.declared.record.Running.{Running}
use Rattle.trm_core.specs.declared.record.Scalars.{Scalars}
use Rattle.trm_clock_laws.specs.declared.inner.outcome.Clocked.{Clocked}
use Rattle.trm_run_phases.specs.declared.inner.going.Going.{Going}
use Rattle.trm_run_phases.specs.declared.inner.step_clocks.Serial.{Serial}

-- the record and the store, the instructions finished, the clocks done
pub record Point : Type 0 where
  pub lent : Lent
  pub finished : ℕ
  pub at : ℕ

abbrev pub point : Going → List ℕ → Cache → List ℕ → Point
point g rs ca s =
    record { lent = record { machine = whole g.scalars rs ca; store = s }; finished = g.finished; at = g.at }

-- the clock history of the first i clocks
unfoldable pub hist : List ℕ → Lent → List ℕ → List ℕ → ℕ → List (After Lent Answer)
hist p x ls is i = clocks (clock_of paper_geometry p) x (take i (pins_of ls is))

-- rows 6 and 8 are passed, for a run from x
pub record Feed (ls is : List ℕ) (x : Lent) : Type 0 where
  pub fed : length ls ≡ length is
  pub many : length ls ≤ 65536
  pub low : all_at_most 7 ls ≡ true
  pub room : x.machine.scalars.counts.clocks + length ls ≤ 4294967295

-- a run from x₀ is in state q; the buffers hold the answers so far, then zeros
pub record Reached (p ls is : List ℕ) (x₀ : Lent) (q : Point) (bs ws : List ℕ) : Type 0 where
  pub feed : Feed ls is x₀
  pub below : q.at ≤ length ls
  pub state : q.lent ≡ end_of x₀ (hist p x₀ ls is q.at)
  pub bytes : bs ≡ bytes_of (outs_of (hist p x₀ ls is q.at)) ++ drop q.at (replicate (length ls) 0)
  pub words : ws ≡ words_of (outs_of (hist p x₀ ls is q.at)) ++ drop q.at (replicate (length ls) 0)
  pub done : q.finished ≡ finished_in (outs_of (hist p x₀ ls is q.at))
  pub few : q.finished ≤ q.at
  pub program : program_ok p ≡ true
  pub store : store_ok q.lent.machine q.lent.store ≡ true
  pub rule : record_ok paper_geometry p (length q.lent.store) q.lent.machine ≡ true
  pub shaped : Shaped paper_geometry q.lent.machine
  pub count : q.lent.machine.scalars.counts.clocks ≡ x₀.machine.scalars.counts.clocks + q.at
  pub long : length q.lent.store ≡ length x₀.store
  pub wide : length bs ≡ length ls
  pub broad : length ws ≡ length ls

-- what `went` requires: the buffers have room for the next clock and hold 0 there
pub record Room (g : Going) (r : Clocked) (bs ws : List ℕ) : Type 0 where
  pub wide : g.at < length bs
  pub broad : g.at < length ws
  pub many : g.at ≤ 65536
  pub few : g.finished ≤ 65536
  pub finished : r.finished ≤ 1
  pub byte : get_or bs g.at 0 ≡ 0
  pub word : get_or ws g.at 0 ≡ 0
  pub mute : r.byte ≡ 0 → r.word ≡ 0

-- some run is in this state
pub record At (p ls is : List ℕ) (q : Point) (bs ws : List ℕ) : Type 0 where
  pub from : Lent
  pub so : Reached p ls is from q bs ws

-- every run in state q reaches q'
abbrev pub Turned : List ℕ → List ℕ → List ℕ → Point → List ℕ → List ℕ → Point → List ℕ → List ℕ → Type 0
Turned p ls is q bs ws q' bs' ws' = (x₀ : Lent) → Reached p ls is x₀ q bs ws → Reached p ls is x₀ q' bs' ws'

-- how far a turn goes, from clock i to clock j: at least one clock; if it stops before an access to a device, perhaps none, but no answer
pub record Did (stops : Bool) (i j : ℕ) (bs bs' : List ℕ) : Type 0 where
  pub onward : i ≤ j
  pub some : stops ≡ false → i < j
  pub mute : stops ≡ true → bs' ≡ bs

-- some run is in this state with w the word at PC
pub record Under (ls : List ℕ) (w : ℕ) (q : Point) : Type 0 where
  pub program : List ℕ
  pub inputs : List ℕ
  pub bytes : List ℕ
  pub words : List ℕ
  pub from : Lent
  pub word : w ≡ word_at program q.lent.machine.scalars.pc
  pub so : Reached program ls inputs from q bytes words

-- there is a next clock, nothing is in flight, and the clock is neither held nor takes an interrupt
pub record Begins (ls : List ℕ) (g : Going) : Type 0 where
  pub more : g.at < length ls
  pub unheld : stalled (get_or ls g.at 0) ≡ false
  pub none : interrupt_chosen g.scalars.status (get_or ls g.at 0) ≡ 0
  pub idle : g.scalars.running.phase ≡ 0

-- the same for some word
pub record Stands (ls : List ℕ) (q : Point) : Type 0 where
  pub word : ℕ
  pub under : Under ls word q

-- every run in state q with w the word at PC reaches q' with its buffers unchanged
abbrev pub Quietly : List ℕ → ℕ → Point → Point → Type 0
Quietly ls w q q' =
    (p is bs ws : List ℕ) (x₀ : Lent) → w ≡ word_at p q.lent.machine.scalars.pc
    → Reached p ls is x₀ q bs ws → Reached p ls is x₀ q' bs ws

-- the registers in flight after k clocks of phase 1, and how many of the clocks were held: those without a step
abbrev pub serial_at : Scalars → Running → ℕ → Serial
serial_at c r k = record { running = r; held = k - (r.count - c.running.count) }

-- the scalars after k clocks of phase 1, some of them held
abbrev pub with_serial : Scalars → Serial → ℕ → Scalars
with_serial c s k =
    scalars_with c s.running
    (counts_of (c.counts.clocks + k) (c.counts.held + s.held) c.counts.refills c.counts.writebacks)
