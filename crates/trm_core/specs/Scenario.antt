-- A scenario for the record machine and the reference machine: 240 clocks from reset with all six phases, stalls, interrupts and devices.
-- Paper: "Clock by clock". The expected numbers come from tests/machine/scenario.py, an independent implementation in Python.
--   record_history, reference_history   the clocks of the two machines        record_digest, reference_digest   one number for all of them
--   finishes, phases                  the clocks that execute a word; the phase after every clock
use Rattle.std.specs.Prelude.{ℕ, ◌+◌, ◌*◌, ◌%◌, cond, List, [], ◌∷◌, ◌++◌, map, take, drop, replicate}
use Rattle.trm_word.specs.Condition.{is_set}
use Rattle.trm_reference.specs.Geometry.{paper_geometry}
use Rattle.trm_reference.specs.Visible.{Visible}
use Rattle.trm_reference.specs.Access.{Answer}
use Rattle.trm_reference.specs.Trace.{Pins, After, pins_of, clocks}
use Rattle.trm_reference.specs.Reference.{Reference, reference_reset, reference_clock}
use Rattle.trm_core.specs.declared.record.Running.{Running}
use Rattle.trm_core.specs.declared.record.Counts.{Counts}
use Rattle.trm_core.specs.Record.{Machine}
use Rattle.trm_core.specs.Record.{Lent, visible_of, reset_of}
use Rattle.trm_core.specs.Clock.{clock_of}
use Rattle.trm_cache.specs.Cache.{below}

unfoldable pub program : List ℕ
program =
    0x2C00B  -- 0: cache on, both interrupts enabled
    ∷ 0x3B802  -- 1: branch always to 4
    ∷ 0x3B817  -- 2: interrupt 0: branch always to 26
    ∷ 0x2C507  -- 3: interrupt 1: RTI
    ∷ 0x0483F  -- 4: R1 := FFFFFFC0H, the base of the devices
    ∷ 0x31029  -- 5: LD R2 from device 5
    ∷ 0x35007  -- 6: ST R2 to 0: a clean miss on line 0
    ∷ 0x0D807  -- 7: R3 := −7
    ∷ 0x3580F  -- 8: ST R3 to 1: a hit
    ∷ 0x32407  -- 9: LD R4 from 128: a dirty miss on line 0
    ∷ 0x21C04  -- 10: MUL R3 by R4
    ∷ 0x38005  -- 11: branch on Z, not taken
    ∷ 0x2580A  -- 12: DIV R3 by 10
    ∷ 0x3C00A  -- 13: call 24
    ∷ 0x36C4F  -- 14: ST R5 to 137: a clean miss on line 1
    ∷ 0x35C17  -- 15: ST R3 to 130: a hit on line 0
    ∷ 0x2C003  -- 16: cache off: lines 0 and 1 are dirty
    ∷ 0x3344F  -- 17: LD R6 from 137, uncached
    ∷ 0x36017  -- 18: ST R4 to 2, uncached
    ∷ 0x2C00B  -- 19: cache on
    ∷ 0x3300F  -- 20: LD R6 from 1: block 0 refills again
    ∷ 0x30417  -- 21: LD R0 from 130: a clean miss on line 0, which is full
    ∷ 0x37049  -- 22: ST R6 to device 9
    ∷ 0x3B804  -- 23: branch always to 28
    ∷ 0x02C08  -- 24: called: R5 := H
    ∷ 0x2C407  -- 25: returns from the call
    ∷ 0x08801  -- 26: interrupt 0: increments R1 of bank 1
    ∷ 0x2C507  -- 27: RTI
    ∷ 0x36417  -- 28: ST R4 to 130: a hit on line 0
    ∷ 0x31417  -- 29: LD R2 from 130: a hit on a dirty line
    ∷ 0x3504F  -- 30: ST R2 to 9: a clean miss on line 1
    ∷ 0x32C4F  -- 31: LD R5 from 137: a dirty miss on line 1, while line 0 is dirty too
    ∷ 0x3BBFF  -- 32: branch always to itself
    ∷ []

-- a number of consecutive clocks with the same value
pub record Span : Type 0 where
  pub clocks : ℕ
  pub value : ℕ

abbrev pub span : ℕ → ℕ → Span
span clocks value = record { clocks = clocks; value = value }

unfoldable pub spread : List Span → List ℕ
spread [] = []
spread (x ∷ xs) = replicate x.clocks x.value ++ spread xs

-- the line bytes: bit 0 interrupt 0, bit 1 interrupt 1, bit 2 stall; a comment begins with the number of the clock
unfoldable pub line_byte_spans : List Span
line_byte_spans =
    span 5 0
    ∷ span 1 4  -- 6: held, with the last clock of LD from the device due
    ∷ span 7 0
    ∷ span 1 4  -- 14: held, after 5 clocks of a refill
    ∷ span 11 0
    ∷ span 1 1  -- 26: interrupt 0 while LD is in flight, low again before its end
    ∷ span 1 0
    ∷ span 1 4  -- 28: held, after 4 clocks of a write-back
    ∷ span 31 0
    ∷ span 18 1  -- 60: interrupt 0 while MUL is in flight, and still high at its end
    ∷ span 1 5  -- 78: held, in the 33rd clock of MUL
    ∷ span 1 1
    ∷ span 4 3  -- 80: interrupt 0 before interrupt 1, and none in mode 1
    ∷ span 2 2
    ∷ span 64 0
    ∷ span 10 2  -- 150: interrupt 1 while the cache is turned off, taken in clock 159
    ∷ span 4 0
    ∷ span 1 4  -- 164: held, after 2 uncached waits
    ∷ span 76 0
    ∷ []

-- the input word of a clock is 1,000 plus the clock's number
unfoldable pub pins : List Pins
pins = pins_of (spread line_byte_spans) (below 240 (λ k. 1001 + k))

unfoldable pub first_store : List ℕ
first_store = below 256 (λ a. a * 3 + 1)

unfoldable pub record_history : List (After Lent Answer)
record_history =
    clocks (clock_of paper_geometry program) (record { machine = reset_of paper_geometry first_store; store = first_store }) pins

unfoldable pub reference_history : List (After Reference Answer)
reference_history = clocks (reference_clock paper_geometry program) (reference_reset first_store) pins

-- the digest of a list, computed from its end
unfoldable pub mixed : List ℕ → ℕ
mixed [] = 0
mixed (x ∷ xs) = (mixed xs * 31 + x) % 1000003

unfoldable pub seen_numbers : Visible → List ℕ
seen_numbers v = v.pc ∷ v.h ∷ v.n ∷ v.z ∷ v.c ∷ v.v ∷ v.status ∷ []

unfoldable pub running_numbers : Running → List ℕ
running_numbers r = r.phase ∷ r.count ∷ r.product ∷ r.remainder ∷ r.quotient ∷ []

unfoldable pub count_numbers : Counts → List ℕ
count_numbers k = k.clocks ∷ k.held ∷ k.refills ∷ k.writebacks ∷ []

unfoldable pub answer_numbers : Answer → List ℕ
answer_numbers a = a.byte ∷ a.word ∷ a.done ∷ []

-- words 0–15 and 128–143: blocks 0, 1, 16 and 17, which belong to lines 0 and 1
unfoldable pub store_numbers : List ℕ → List ℕ
store_numbers s = take 16 s ++ take 16 (drop 128 s)

-- the record and its store after a clock; of the words of lines and store only those that the scenario uses
unfoldable pub machine_numbers : Machine → List ℕ
machine_numbers m =
    seen_numbers (visible_of m) ++ running_numbers m.scalars.running ++ (m.scalars.size ∷ count_numbers m.scalars.counts)
    ++ m.regs ++ m.full ++ m.dirty ++ m.block ++ take 16 m.words

unfoldable pub record_numbers : After Lent Answer → List ℕ
record_numbers t = machine_numbers t.state.machine ++ store_numbers t.state.store ++ answer_numbers t.out

unfoldable pub reference_numbers : After Reference Answer → List ℕ
reference_numbers t =
    seen_numbers t.state.visible ++ t.state.visible.regs
    ++ (t.state.left ∷ t.state.clocks ∷ t.state.held ∷ t.state.refills ∷ t.state.writebacks ∷ [])
    ++ store_numbers t.state.memory ++ answer_numbers t.out

unfoldable pub record_digest : ℕ
record_digest = mixed (map (λ t. mixed (record_numbers t)) record_history)

unfoldable pub reference_digest : ℕ
reference_digest = mixed (map (λ t. mixed (reference_numbers t)) reference_history)

-- the clock counts at which a word is executed
unfoldable pub finishes_of : List (After Lent Answer) → List ℕ
finishes_of [] = []
finishes_of (t ∷ ts) = cond (is_set t.out.done) (t.state.machine.scalars.counts.clocks ∷ finishes_of ts) (finishes_of ts)

unfoldable pub finishes : List ℕ
finishes = finishes_of record_history

unfoldable pub phases : List ℕ
phases = map (λ t. t.state.machine.scalars.running.phase) record_history

-- the results of tests/machine/scenario.py
unfoldable pub expected_record_digest : ℕ
expected_record_digest = 202169

unfoldable pub expected_reference_digest : ℕ
expected_reference_digest = 178530

unfoldable pub expected_finishes : List ℕ
expected_finishes =
    1 ∷ 3 ∷ 4 ∷ 7 ∷ 20 ∷ 21 ∷ 22 ∷ 45 ∷ 79 ∷ 82 ∷ 83 ∷ 85 ∷ 86 ∷ 119 ∷ 121 ∷ 122 ∷ 124 ∷ 136 ∷ 137 ∷ 158 ∷ 161
    ∷ 168 ∷ 173 ∷ 174 ∷ 186 ∷ 198 ∷ 199 ∷ 201 ∷ 202 ∷ 204 ∷ 216 ∷ 238 ∷ 240 ∷ []

unfoldable pub expected_phases : List Span
expected_phases =
    span 1 0 ∷ span 1 5 ∷ span 2 0 ∷ span 2 5 ∷ span 1 0 ∷ span 11 3 ∷ span 1 5 ∷ span 3 0 ∷ span 11 2
    ∷ span 10 3 ∷ span 1 5 ∷ span 1 0 ∷ span 33 1 ∷ span 2 0 ∷ span 1 5 ∷ span 2 0 ∷ span 1 5 ∷ span 2 0
    ∷ span 32 1 ∷ span 1 0 ∷ span 1 5 ∷ span 2 0 ∷ span 1 5 ∷ span 1 0 ∷ span 10 3 ∷ span 1 5 ∷ span 2 0
    ∷ span 19 2 ∷ span 1 5 ∷ span 2 0 ∷ span 1 5 ∷ span 1 0 ∷ span 6 4 ∷ span 1 0 ∷ span 4 4 ∷ span 2 0
    ∷ span 10 3 ∷ span 1 5 ∷ span 1 0 ∷ span 10 3 ∷ span 1 5 ∷ span 2 0 ∷ span 1 5 ∷ span 2 0 ∷ span 1 5
    ∷ span 1 0 ∷ span 10 3 ∷ span 1 5 ∷ span 1 0 ∷ span 10 2 ∷ span 10 3 ∷ span 1 5 ∷ span 1 0 ∷ span 1 5
    ∷ span 1 0 ∷ []
