-- Claims about the clocked machine beyond the contracts: one statement per field.
-- Paper: the clock table on any accepted record; row 5; "a device is read or written only in that clock". Proved in
-- proofs/Theorems.antt.
use Rattle.std.specs.Prelude.{ℕ, ◌+◌, ◌-◌, ◌*◌, ◌≤◌, ◌≡◌, ◌≢◌, Bool, true, false, cond, not, ◌&&◌, List, [], ◌∷◌, map, length, replicate}
use Rattle.std.specs.Prelude.{eqb}
use Rattle.trm_word.specs.Fields.{operation, bit}
use Rattle.trm_word.specs.Charge.{charge_of}
use Rattle.trm_word.specs.Address.{store_length_ok}
use Rattle.trm_alu.specs.Word.{flag}
use Rattle.trm_reference.specs.Geometry.{Geometry, burst, geometry_ok}
use Rattle.trm_reference.specs.Visible.{Visible, word_at}
use Rattle.trm_reference.specs.Access.{Answer, silent}
use Rattle.trm_reference.specs.Interrupt.{stalled, interrupt_chosen, interrupted}
use Rattle.trm_reference.specs.Charge.{turns_cache_off, uncached_charge}
use Rattle.trm_reference.specs.Trace.{Pins, After}
use Rattle.trm_core.specs.declared.record.Running.{Running}
use Rattle.trm_core.specs.Record.{Machine}
use Rattle.trm_cache.specs.Cache.{stride, count_dirty}
use Rattle.trm_cache.specs.declared.record.Cache.{Cache}
use Rattle.trm_core.specs.Record.{Lent, visible_of, cache_of, start}
use Rattle.trm_core.specs.Clock.{charge_here, carried, worked, held_clock, clock_of}
use Rattle.trm_core.specs.Rule.{record_ok}
use Rattle.trm_core.specs.Refusals.{all_at_most, line_bytes_refused, store_ok, reset_refusal, clock_refusal}
use Rattle.trm_core.specs.Scenario.{spread, record_digest, reference_digest, finishes, phases}
use Rattle.trm_core.specs.Scenario.{expected_record_digest, expected_reference_digest, expected_finishes, expected_phases}
use Rattle.trm_core.specs.Refused.{AllGive, rows}

-- The arrays of the record have room for sixteen registers and all lines. The type of the record in the code, which has the paper's
-- geometry, ensures this: `of_the_code` of trm_agreement has the claims below without this hypothesis.
pub record Shaped (G : Geometry) (m : Machine) : Type 0 where
  pub regs : 16 ≤ length m.regs
  pub full : G.lines ≤ length m.full
  pub dirty : G.lines ≤ length m.dirty
  pub block : G.lines ≤ length m.block
  pub words : G.lines * stride G ≤ length m.words

-- the unheld clocks that the word at PC still needs: its charge if it has not begun, else the rest by phase and count; in an accepted
-- record a count is below the number it is subtracted from, so the differences do not truncate
unfoldable pub left_of : Geometry → ℕ → ℕ → Running → Visible → Cache → ℕ
left_of G w n r v ca =
    cond (eqb r.phase 0) (charge_here G w n v ca)
    (cond (eqb r.phase 1) (charge_of (operation w) - r.count)
    (cond (eqb r.phase 2)
    (1 + (cond (turns_cache_off w v) (burst G * count_dirty G ca) (burst G + burst G) - r.count))
    (cond (eqb r.phase 3) (1 + (burst G - r.count))
    (cond (eqb r.phase 4) (uncached_charge w - r.count)
    1))))

unfoldable pub to_come : Geometry → List ℕ → Lent → ℕ
to_come G p x =
    left_of G (word_at p x.machine.scalars.pc) (length x.store) x.machine.scalars.running
    (visible_of x.machine) (cache_of x.machine)

-- the clock, if it is not held, takes an interrupt
unfoldable pub acknowledges : Machine → Pins → Bool
acknowledges m pins =
    eqb m.scalars.running.phase 0 && not (eqb (interrupt_chosen m.scalars.status pins.line_byte) 0)

-- The clock table on any accepted record: an unheld clock without an interrupt executes the word if and only if one clock was left;
-- otherwise one clock fewer is left and the answer is empty, so a load shows its device access once.
pub record Counted (G : Geometry) (p : List ℕ) (x : Lent) (pins : Pins) : Type 0 where
  pub carries : (clock_of G p x pins).out.done ≡ flag (eqb (to_come G p x) 1)
  pub silence : to_come G p x ≢ 1 → (clock_of G p x pins).out ≡ silent 0
  pub lowers : to_come G p x ≢ 1 → to_come G p (clock_of G p x pins).state + 1 ≡ to_come G p x

abbrev pub ClockTable : Type 0
ClockTable =
    (G : Geometry) (p : List ℕ) (x : Lent) (pins : Pins) → geometry_ok G ≡ true → Shaped G x.machine
    → clock_refusal G p x.machine x.store pins.line_byte ≡ 0
    → stalled pins.line_byte ≡ false → acknowledges x.machine pins ≡ false
    → Counted G p x pins

-- An accepted record stays accepted, with its store, after every accepted clock.
pub record Kept (G : Geometry) (p : List ℕ) (x : Lent) : Type 0 where
  pub shaped : Shaped G x.machine
  pub store : store_ok x.machine x.store ≡ true
  pub record_ok_lem : record_ok G p (length x.store) x.machine ≡ true

abbrev pub RecordKept : Type 0
RecordKept =
    (G : Geometry) (p : List ℕ) (x : Lent) (pins : Pins) → geometry_ok G ≡ true → Shaped G x.machine
    → clock_refusal G p x.machine x.store pins.line_byte ≡ 0
    → Kept G p (clock_of G p x pins).state

-- The record after an accepted reset is accepted; with `record_kept` so is every record that a list of calls reaches.
abbrev pub ResetKept : Type 0
ResetKept =
    (G : Geometry) (p s : List ℕ) → geometry_ok G ≡ true → reset_refusal s ≡ 0 → Kept G p (start G s)

-- For every record, accepted or not: an input word matters only in a clock whose answer byte shows a read. By `silence` above a load
-- shows its read in one clock only.
abbrev pub Deaf : Type 0
Deaf =
    (G : Geometry) (p : List ℕ) (x : Lent) (line_byte i j : ℕ)
    → bit 0 (clock_of G p x (record { line_byte = line_byte; input = i })).out.byte ≡ 0
    → clock_of G p x (record { line_byte = line_byte; input = i }) ≡ clock_of G p x (record { line_byte = line_byte; input = j })

-- For every record a clock is held, or takes an interrupt (in phase 0 only), or works on the word at PC.
pub record Clocked (G : Geometry) (p : List ℕ) (x : Lent) (pins : Pins) : Type 0 where
  pub held : stalled pins.line_byte ≡ true → clock_of G p x pins ≡ held_clock x.machine x.store
  pub takes : stalled pins.line_byte ≡ false → acknowledges x.machine pins ≡ true
      → clock_of G p x pins ≡ carried x.machine.scalars
      (interrupted (visible_of x.machine) (interrupt_chosen x.machine.scalars.status pins.line_byte))
      (cache_of x.machine) x.store (silent 0)
  pub works : stalled pins.line_byte ≡ false → acknowledges x.machine pins ≡ false
      → clock_of G p x pins
      ≡ worked G (word_at p x.machine.scalars.pc) (length x.store) x.machine x.store pins.input

-- A held clock, field by field: clocks and held are one more, and nothing else changes.
pub record Waits (x : Lent) (t : After Lent Answer) : Type 0 where
  pub visible : visible_of t.state.machine ≡ visible_of x.machine
  pub running : t.state.machine.scalars.running ≡ x.machine.scalars.running
  pub cache : cache_of t.state.machine ≡ cache_of x.machine
  pub store : t.state.store ≡ x.store
  pub size : t.state.machine.scalars.size ≡ x.machine.scalars.size
  pub clocks : t.state.machine.scalars.counts.clocks ≡ x.machine.scalars.counts.clocks + 1
  pub held : t.state.machine.scalars.counts.held ≡ x.machine.scalars.counts.held + 1
  pub refills : t.state.machine.scalars.counts.refills ≡ x.machine.scalars.counts.refills
  pub writebacks : t.state.machine.scalars.counts.writebacks ≡ x.machine.scalars.counts.writebacks
  pub answer : t.out ≡ silent 0

abbrev pub HeldWaits : Type 0
HeldWaits =
    (G : Geometry) (p : List ℕ) (x : Lent) (pins : Pins) → stalled pins.line_byte ≡ true → Waits x (clock_of G p x pins)

abbrev pub ClocksAreThree : Type 0
ClocksAreThree = (G : Geometry) (p : List ℕ) (x : Lent) (pins : Pins) → Clocked G p x pins

-- "What a programmer sees changes only in an instruction's last clock", except data memory, for every record: a clock that executes no
-- word and takes no interrupt does not change it, and its answer is empty. For memory see demand 3 (`Still` of trm_agreement) and D-33.
pub record Unseen (G : Geometry) (p : List ℕ) (x : Lent) (pins : Pins) : Type 0 where
  pub visible : visible_of (clock_of G p x pins).state.machine ≡ visible_of x.machine
  pub answer : (clock_of G p x pins).out ≡ silent 0

abbrev pub SeenChangesLast : Type 0
SeenChangesLast =
    (G : Geometry) (p : List ℕ) (x : Lent) (pins : Pins)
    → (clock_of G p x pins).out.done ≡ 0 → not (stalled pins.line_byte) && acknowledges x.machine pins ≡ false
    → Unseen G p x pins

-- The scenario: digests over every clock of both machines, the clocks at which words finish and the phases are those of an independent
-- implementation in Python.
abbrev pub ScenarioHolds : Type 0
ScenarioHolds =
    (record_digest ≡ expected_record_digest)
    × (reference_digest ≡ expected_reference_digest)
    × (finishes ≡ expected_finishes)
    × (phases ≡ spread expected_phases)

-- The refusals: in every row of the table the call gives the expected number.
abbrev pub RefusalsHold : Type 0
RefusalsHold = AllGive rows

-- Row 6 clause by clause, and row 4: the ten legal lengths of a store, and six illegal ones.
pub record Limits : Type 0 where
  pub runs : (line_bytes inputs : List ℕ) → length line_bytes ≡ length inputs → length line_bytes ≤ 65536 → all_at_most 7 line_bytes ≡ true
      → line_bytes_refused line_bytes inputs ≡ false
  pub unequal : (line_bytes inputs : List ℕ) → length line_bytes ≢ length inputs → line_bytes_refused line_bytes inputs ≡ true
  pub long : (line_bytes inputs : List ℕ) → 65537 ≤ length line_bytes → line_bytes_refused line_bytes inputs ≡ true
  pub high : (line_bytes inputs : List ℕ) → all_at_most 7 line_bytes ≡ false → line_bytes_refused line_bytes inputs ≡ true
  pub stores : map store_length_ok (64 ∷ 128 ∷ 256 ∷ 512 ∷ 1024 ∷ 2048 ∷ 4096 ∷ 8192 ∷ 16384 ∷ 32768 ∷ []) ≡ replicate 10 true
  pub others : map store_length_ok (0 ∷ 32 ∷ 63 ∷ 65 ∷ 96 ∷ 65536 ∷ []) ≡ replicate 6 false

pub record Claims : Type 0 where
  pub clock_table : ClockTable
  pub record_kept : RecordKept
  pub reset_kept : ResetKept
  pub deaf : Deaf
  pub clocks_are_three : ClocksAreThree
  pub held_waits : HeldWaits
  pub seen_changes_last : SeenChangesLast
  pub scenario_holds : ScenarioHolds
  pub refusals_hold : RefusalsHold
  pub limits : Limits
