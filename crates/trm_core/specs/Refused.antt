-- Test cases of the refusals: a row for every call and number that it can give; for each clause of row 5 refused and accepted records.
-- Paper: "Where calls are turned down". The expected numbers, and the comment of each row, are those of tests/machine/refused.py,
-- whose author had read the record rule and the refusals here (D-44).
--   rows      the number that a call gives, and the expected one        AllGive rs   the two are equal in every row
use Rattle.std.specs.Prelude.{ℕ, ◌+◌, ◌-◌, ◌≡◌, List, [], ◌∷◌, ◌++◌, map, replicate, get_or}
use Rattle.trm_reference.specs.Geometry.{paper_geometry}
use Rattle.trm_reference.specs.Visible.{Visible}
use Rattle.trm_reference.specs.Access.{Answer}
use Rattle.trm_reference.specs.Trace.{After}
use Rattle.trm_core.specs.declared.record.Counts.{Counts}
use Rattle.trm_core.specs.declared.record.Running.{Running}
use Rattle.trm_core.specs.Record.{Machine}
use Rattle.trm_cache.specs.Cache.{cache}
use Rattle.trm_cache.specs.declared.record.Cache.{Cache}
use Rattle.trm_core.specs.Record.{Lent, whole, reset_of, in_phase, scalars_of, counts_of}
use Rattle.trm_core.specs.Refusals.{reset_refusal, clock_refusal, run_refusal, look_refusal, copy_refusal, watch_refusal}
use Rattle.trm_core.specs.Scenario.{program, record_history}

-- a list of n zeros, used as a store of n words
abbrev pub zeros : ℕ → List ℕ
zeros n = replicate n 0

-- a program of one word, branch never
abbrev pub never : List ℕ
never = 0x3BC00 ∷ []

-- a record from its parts; `size` is the store's length at reset
abbrev pub made : ℕ → Visible → Running → Counts → Cache → Machine
made size v r k ca = whole (scalars_of v r size k) v.regs ca

-- PC, N, Z, C, V, status; R0 is 3 and R1 FFC0H
abbrev pub seen : ℕ → ℕ → ℕ → ℕ → ℕ → ℕ → Visible
seen pc n z c v status =
    record { pc = pc; regs = 3 ∷ 0xFFC0 ∷ zeros 14; h = 0; n = n; z = z; c = c; v = v; status = status }

-- phase, count, product, remainder, quotient
abbrev pub running : ℕ → ℕ → ℕ → ℕ → ℕ → Running
running phase count product remainder quotient =
    record { phase = phase; count = count; product = product; remainder = remainder; quotient = quotient }

-- full, dirty and block of line 0, or of line 15, the last; the other lines are empty
abbrev pub line0 : ℕ → ℕ → ℕ → Cache
line0 full dirty block = cache (full ∷ zeros 15) (dirty ∷ zeros 15) (block ∷ zeros 15) (zeros 128)

abbrev pub line15 : ℕ → ℕ → ℕ → Cache
line15 full dirty block =
    cache (zeros 15 ++ (full ∷ [])) (zeros 15 ++ (dirty ∷ [])) (zeros 15 ++ (block ∷ [])) (zeros 128)

-- the record after a reset with 256 words, and records that differ from it: in the visible state; in the counts; in status, what is
-- running, and a line
abbrev pub ready : Machine
ready = reset_of paper_geometry (zeros 256)

abbrev pub seeing : ℕ → ℕ → ℕ → ℕ → ℕ → ℕ → Machine
seeing pc n z c v status = made 256 (seen pc n z c v status) (in_phase 0 0) (counts_of 0 0 0 0) (line0 0 0 0)

abbrev pub counted : ℕ → ℕ → ℕ → ℕ → Machine
counted k held refills writebacks =
    made 256 (seen 0 0 0 0 0 0) (in_phase 0 0) (counts_of k held refills writebacks) (line0 0 0 0)

abbrev pub flying : ℕ → Running → Cache → Machine
flying status r ca = made 256 (seen 0 0 0 0 0 status) r (counts_of 0 0 0 0) ca

-- phase 0 with count 1, which row 5 forbids
abbrev pub broken : Machine
broken = flying 0 (in_phase 0 1) (line0 0 0 0)

-- the numbers that the calls give; the store has n words
abbrev pub clock_gives : List ℕ → Machine → ℕ → ℕ → ℕ
clock_gives p m n line_byte = clock_refusal paper_geometry p m (zeros n) line_byte

abbrev pub run_gives : List ℕ → Machine → ℕ → List ℕ → List ℕ → List ℕ → List ℕ → ℕ
run_gives p m n line_bytes inputs bytes words = run_refusal paper_geometry p m (zeros n) line_bytes inputs bytes words

abbrev pub look_gives : List ℕ → Machine → ℕ → ℕ → ℕ
look_gives p m n address = look_refusal paper_geometry p m (zeros n) address

abbrev pub copy_gives : List ℕ → Machine → ℕ → List ℕ → ℕ
copy_gives p m n buffer = copy_refusal paper_geometry p m (zeros n) buffer

-- the clock call with the one word w
abbrev pub clocked : ℕ → Machine → ℕ
clocked w m = clock_gives (w ∷ []) m 256 0

-- the clock call on a state of the scenario
unfoldable pub clocked_in : After Lent Answer → ℕ
clocked_in t = clock_refusal paper_geometry program t.state.machine t.state.store 0

-- the clock call after clock k of the scenario; k is 1 to 240, so the difference does not truncate and the default 99 is not reached
unfoldable pub scenario_after : ℕ → ℕ
scenario_after k = get_or (map clocked_in record_history) (k - 1) 99

unfoldable pub total : List ℕ → ℕ
total [] = 0
total (x ∷ xs) = x + total xs

pub record Row : Type 0 where
  pub gives : ℕ
  pub expected : ℕ

abbrev pub row : ℕ → ℕ → Row
row gives expected = record { gives = gives; expected = expected }

unfoldable pub AllGive : List Row → Type 0
AllGive [] = Unit {0}
AllGive (r ∷ rs) = (r.gives ≡ r.expected) × AllGive rs

-- The words: LD R0 from 128 is 0x30407, from 0 is 0x30007, from device 0 is 0x30001; ST R0 to the same is 0x34407, 0x34007 and 0x34001.
-- LD R0 from device 63 is 0x301F9; its address FFFFH mod 256 would be 255, in block 31 and line 15.
-- MUL R0 by 0 is 0x20000, by 5 is 0x20005; DIV R0 by 2 is 0x24002; MOV 0x00001; status := 0 is 0x2C000, := 8 is 0x2C008;
-- branch never is 0x3BC00, always 0x3B800; call 0x3C000; jump 0x2C407.
unfoldable pub rows : List Row
rows =
    row (reset_refusal (zeros 63)) 4  -- reset: a store of 63 words
    ∷ row (reset_refusal (zeros 64)) 0  -- reset: a store of 64 words
    ∷ row (clock_gives [] ready 256 0) 3  -- clock: no word
    ∷ row (clock_gives (zeros 4097) ready 256 0) 3  -- clock: 4,097 words
    ∷ row (clock_gives (0x40000 ∷ []) ready 256 0) 3  -- clock: the word 40000H
    ∷ row (clock_gives (zeros 4096) ready 256 0) 0  -- clock: 4,096 words
    ∷ row (clock_gives (0x3FFFF ∷ []) ready 256 0) 0  -- clock: the word 3FFFFH
    ∷ row (clock_gives never (reset_of paper_geometry (zeros 63)) 63 0) 4  -- clock: a store of 63 words, as at reset
    ∷ row (clock_gives never ready 128 0) 4  -- clock: a store of 128 words, 256 at reset
    ∷ row (clocked 0x3BC00 (seeing 4096 0 0 0 0 0)) 5  -- PC 4,096
    ∷ row (clocked 0x3BC00 (seeing 4095 0 0 0 0 0)) 0  -- PC 4,095
    ∷ row (clocked 0x3BC00 (seeing 0 2 0 0 0 0)) 5  -- N is 2
    ∷ row (clocked 0x3BC00 (seeing 0 0 2 0 0 0)) 5  -- Z is 2
    ∷ row (clocked 0x3BC00 (seeing 0 0 0 2 0 0)) 5  -- C is 2
    ∷ row (clocked 0x3BC00 (seeing 0 0 0 0 2 0)) 5  -- V is 2
    ∷ row (clocked 0x3BC00 (seeing 0 0 0 0 0 16)) 5  -- status 16
    ∷ row (clocked 0x3BC00 (seeing 0 1 1 1 1 15)) 0  -- every flag 1, status 15
    ∷ row (clocked 0x3B800 (flying 0 (in_phase 6 0) (line0 0 0 0))) 5  -- phase 6, 14 taken
    ∷ row (clocked 0x3BC00 (flying 0 (in_phase 0 1) (line0 0 0 0))) 5  -- phase 0, count 1
    ∷ row (clocked 0x3BC00 (flying 0 (in_phase 1 1) (line0 0 0 0))) 5  -- phase 1, no MUL or DIV
    ∷ row (clocked 0x20000 (flying 0 (in_phase 1 0) (line0 0 0 0))) 5  -- phase 1, count 0
    ∷ row (clocked 0x20000 (flying 0 (in_phase 1 33) (line0 0 0 0))) 5  -- phase 1, count 33
    ∷ row (clocked 0x20000 (flying 0 (in_phase 1 1) (line0 0 0 0))) 0  -- phase 1, count 1
    ∷ row (clocked 0x30407 (flying 8 (in_phase 2 0) (line0 1 0 0))) 5  -- phase 2, the line clean
    ∷ row (clocked 0x30407 (flying 8 (in_phase 2 0) (line0 1 1 16))) 5  -- phase 2, its own block in the line
    ∷ row (clocked 0x30407 (flying 8 (in_phase 2 10) (line0 1 1 0))) 5  -- phase 2, count 10
    ∷ row (clocked 0x30407 (flying 8 (in_phase 2 0) (line0 0 0 0))) 5  -- phase 2, the line empty
    ∷ row (clocked 0x30001 (flying 8 (in_phase 2 0) (line0 1 1 16))) 5  -- phase 2, LD from device 0, line 0 dirty
    ∷ row (clocked 0x301F9 (flying 8 (in_phase 2 0) (line15 1 1 15))) 5  -- phase 2, LD from device 63, line 15 dirty
    ∷ row (clocked 0x34407 (flying 8 (in_phase 2 0) (line0 1 1 16))) 5  -- phase 2, ST, its own block in the line
    ∷ row (clocked 0x2C000 (flying 8 (in_phase 2 0) (line0 1 0 0))) 5  -- phase 2, clearing bit 3 with no line dirty
    ∷ row (clocked 0x2C008 (flying 8 (in_phase 2 0) (line0 1 1 0))) 5  -- phase 2, bit 3 not cleared
    ∷ row (clocked 0x30407 (flying 8 (in_phase 2 9) (line0 1 1 0))) 0  -- phase 2, count 9, LD
    ∷ row (clocked 0x34407 (flying 8 (in_phase 2 9) (line0 1 1 0))) 0  -- phase 2, count 9, ST
    ∷ row (clocked 0x2C000 (flying 8 (in_phase 2 9) (line0 1 1 0))) 0  -- phase 2, count 9, clearing bit 3
    ∷ row (clocked 0x2C000 (flying 8 (in_phase 2 9) (line15 1 1 15))) 0  -- phase 2, count 9, clearing bit 3 with line 15 dirty
    ∷ row (clocked 0x30407 (flying 8 (in_phase 3 0) (line0 1 0 0))) 5  -- phase 3, the line full
    ∷ row (clocked 0x30407 (flying 0 (in_phase 3 0) (line0 0 0 0))) 5  -- phase 3, cache off
    ∷ row (clocked 0x30001 (flying 8 (in_phase 3 0) (line0 0 0 0))) 5  -- phase 3, LD from a device
    ∷ row (clocked 0x30407 (flying 8 (in_phase 3 10) (line0 0 0 0))) 5  -- phase 3, count 10
    ∷ row (clocked 0x30407 (flying 8 (in_phase 3 9) (line0 0 0 0))) 0  -- phase 3, count 9
    ∷ row (clocked 0x30007 (flying 8 (in_phase 4 1) (line0 0 0 0))) 5  -- phase 4, cache on
    ∷ row (clocked 0x30007 (flying 0 (in_phase 4 0) (line0 0 0 0))) 5  -- phase 4, count 0
    ∷ row (clocked 0x30007 (flying 0 (in_phase 4 6) (line0 0 0 0))) 5  -- phase 4, LD, count 6
    ∷ row (clocked 0x34007 (flying 0 (in_phase 4 5) (line0 0 0 0))) 5  -- phase 4, ST, count 5
    ∷ row (clocked 0x00001 (flying 0 (in_phase 4 1) (line0 0 0 0))) 5  -- phase 4, MOV
    ∷ row (clocked 0x30001 (flying 0 (in_phase 4 1) (line0 0 0 0))) 5  -- phase 4, LD from a device
    ∷ row (clocked 0x34001 (flying 0 (in_phase 4 1) (line0 0 0 0))) 5  -- phase 4, ST to a device
    ∷ row (clocked 0x30007 (flying 0 (in_phase 4 5) (line0 0 0 0))) 0  -- phase 4, LD, count 5
    ∷ row (clocked 0x34007 (flying 0 (in_phase 4 4) (line0 0 0 0))) 0  -- phase 4, ST, count 4
    ∷ row (clocked 0x00001 (flying 0 (in_phase 5 0) (line0 0 0 0))) 5  -- phase 5, MOV
    ∷ row (clocked 0x3BC00 (flying 0 (in_phase 5 0) (line0 0 0 0))) 5  -- phase 5, 14 not taken
    ∷ row (clocked 0x34001 (flying 0 (in_phase 5 0) (line0 0 0 0))) 5  -- phase 5, ST to a device
    ∷ row (clocked 0x30407 (flying 8 (in_phase 5 0) (line0 1 0 0))) 5  -- phase 5, LD, another block in the line
    ∷ row (clocked 0x2C000 (flying 8 (in_phase 5 0) (line0 1 1 0))) 5  -- phase 5, clearing bit 3 with a line dirty
    ∷ row (clocked 0x2C000 (flying 8 (in_phase 5 0) (line15 1 1 15))) 5  -- phase 5, clearing bit 3 with line 15 dirty
    ∷ row (clocked 0x2C000 (flying 0 (in_phase 5 0) (line0 0 0 0))) 5  -- phase 5, bit 3 clear already
    ∷ row (clocked 0x3B800 (flying 0 (in_phase 5 1) (line0 0 0 0))) 5  -- phase 5, count 1
    ∷ row (clocked 0x3B800 (flying 0 (in_phase 5 0) (line0 0 0 0))) 0  -- phase 5, 14 taken
    ∷ row (clocked 0x3C000 (flying 0 (in_phase 5 0) (line0 0 0 0))) 0  -- phase 5, 15
    ∷ row (clocked 0x2C407 (flying 0 (in_phase 5 0) (line0 0 0 0))) 0  -- phase 5, 11 with bit 10 set
    ∷ row (clocked 0x2C000 (flying 8 (in_phase 5 0) (line0 1 0 0))) 0  -- phase 5, clearing bit 3 with no line dirty
    ∷ row (clocked 0x30001 (flying 0 (in_phase 5 0) (line0 0 0 0))) 0  -- phase 5, LD from a device
    ∷ row (clocked 0x30407 (flying 8 (in_phase 5 0) (line0 1 0 16))) 0  -- phase 5, LD, its block in the line
    ∷ row (clocked 0x34407 (flying 8 (in_phase 5 0) (line0 1 1 16))) 0  -- phase 5, ST, its block in the line
    ∷ row (clocked 0x3BC00 (flying 0 (running 0 0 1 0 0) (line0 0 0 0))) 5  -- phase 0, product 1
    ∷ row (clocked 0x3BC00 (flying 0 (running 0 0 0 1 0) (line0 0 0 0))) 5  -- phase 0, remainder 1
    ∷ row (clocked 0x3BC00 (flying 0 (running 0 0 0 0 1) (line0 0 0 0))) 5  -- phase 0, quotient 1
    ∷ row (clocked 0x20005 (flying 0 (running 1 1 0x1_8000_0003 0 0) (line0 0 0 0))) 5  -- 3 MUL 5 after 1 step, product one too high
    ∷ row (clocked 0x20005 (flying 0 (running 1 1 15 0 0) (line0 0 0 0))) 5  -- 3 MUL 5 after 1 step, the whole product
    ∷ row (clocked 0x20005 (flying 0 (running 1 1 0x1_8000_0002 1 0) (line0 0 0 0))) 5  -- 3 MUL 5 after 1 step, remainder 1
    ∷ row (clocked 0x20005 (flying 0 (running 1 1 0x1_8000_0002 0 1) (line0 0 0 0))) 5  -- 3 MUL 5 after 1 step, quotient 1
    ∷ row (clocked 0x20005 (flying 0 (running 1 1 0x1_8000_0002 0 0) (line0 0 0 0))) 0  -- 3 MUL 5 after 1 step
    ∷ row (clocked 0x20005 (flying 0 (running 1 32 15 0 0) (line0 0 0 0))) 0  -- 3 MUL 5 after 32 steps
    ∷ row (clocked 0x24002 (flying 0 (running 1 31 0 0 0x8000_0000) (line0 0 0 0))) 5  -- 3 DIV 2 after 31 steps, remainder 0
    ∷ row (clocked 0x24002 (flying 0 (running 1 31 0 1 0) (line0 0 0 0))) 5  -- 3 DIV 2 after 31 steps, quotient 0
    ∷ row (clocked 0x24002 (flying 0 (running 1 31 1 1 0x8000_0000) (line0 0 0 0))) 5  -- 3 DIV 2 after 31 steps, product 1
    ∷ row (clocked 0x24002 (flying 0 (running 1 31 0 1 0x8000_0000) (line0 0 0 0))) 0  -- 3 DIV 2 after 31 steps
    ∷ row (clocked 0x3BC00 (counted 0x1_0000_0000 0 0 0)) 5  -- a clock count of 33 bits
    ∷ row (clocked 0x3BC00 (counted 4 5 4 4)) 5  -- held clocks above the clocks
    ∷ row (clocked 0x3BC00 (counted 4 4 5 4)) 5  -- refills above the clocks
    ∷ row (clocked 0x3BC00 (counted 4 4 4 5)) 5  -- write-backs above the clocks
    ∷ row (clocked 0x3BC00 (counted 4 4 4 4)) 0  -- each count as high as the clocks
    ∷ row (clocked 0x3BC00 (flying 8 (in_phase 0 0) (line0 2 0 0))) 5  -- full is 2
    ∷ row (clocked 0x3BC00 (flying 8 (in_phase 0 0) (line0 1 2 0))) 5  -- dirty is 2
    ∷ row (clocked 0x3BC00 (flying 0 (in_phase 0 0) (line0 1 0 0))) 5  -- a full line, cache off
    ∷ row (clocked 0x3BC00 (flying 8 (in_phase 0 0) (line0 1 0 32))) 5  -- a full line, its block outside the store
    ∷ row (clocked 0x3BC00 (flying 8 (in_phase 0 0) (line0 1 0 1))) 5  -- a full line, another line's block
    ∷ row (clocked 0x3BC00 (flying 8 (in_phase 0 0) (line0 0 1 0))) 5  -- an empty line, dirty
    ∷ row (clocked 0x3BC00 (flying 8 (in_phase 0 0) (line0 0 0 1))) 5  -- an empty line with block 1
    ∷ row (clocked 0x3BC00 (flying 8 (in_phase 0 0) (line0 0 0 16))) 5  -- an empty line with block 16
    ∷ row (clocked 0x3BC00 (flying 8 (in_phase 0 0) (line0 1 1 16))) 0  -- a full line, dirty, with the last block of its own
    ∷ row (clocked 0x3BC00 (flying 8 (in_phase 0 0) (line15 2 0 15))) 5  -- line 15: full is 2
    ∷ row (clocked 0x3BC00 (flying 8 (in_phase 0 0) (line15 1 2 15))) 5  -- line 15: dirty is 2
    ∷ row (clocked 0x3BC00 (flying 0 (in_phase 0 0) (line15 1 0 15))) 5  -- line 15: full, cache off
    ∷ row (clocked 0x3BC00 (flying 8 (in_phase 0 0) (line15 1 0 47))) 5  -- line 15: full, its block outside the store
    ∷ row (clocked 0x3BC00 (flying 8 (in_phase 0 0) (line15 1 0 14))) 5  -- line 15: full, another line's block
    ∷ row (clocked 0x3BC00 (flying 8 (in_phase 0 0) (line15 0 1 0))) 5  -- line 15: empty, dirty
    ∷ row (clocked 0x3BC00 (flying 8 (in_phase 0 0) (line15 0 0 15))) 5  -- line 15: empty with block 15
    ∷ row (clocked 0x3BC00 (flying 8 (in_phase 0 0) (line15 1 1 31))) 0  -- line 15: full, dirty, with the last block of the store
    ∷ row (clock_gives never ready 256 8) 6  -- clock: line byte 8
    ∷ row (clock_gives never ready 256 7) 0  -- clock: line byte 7
    ∷ row (clocked 0x3BC00 (counted 4294967295 0 0 0)) 8  -- clock: 4,294,967,295 clocks before
    ∷ row (clocked 0x3BC00 (counted 4294967294 0 0 0)) 0  -- clock: 4,294,967,294 clocks before
    ∷ row (scenario_after 45) 0  -- phase 0: the scenario after clock 45
    ∷ row (scenario_after 77) 0  -- phase 1: the scenario after clock 77
    ∷ row (scenario_after 33) 0  -- phase 2: the scenario after clock 33
    ∷ row (scenario_after 43) 0  -- phase 3: the scenario after clock 43
    ∷ row (scenario_after 167) 0  -- phase 4: the scenario after clock 167
    ∷ row (scenario_after 157) 0  -- phase 5: the scenario after clock 157
    ∷ row (total (map clocked_in record_history)) 0  -- the scenario after every clock, the numbers summed
    ∷ row (run_gives [] ready 256 (zeros 3) (zeros 3) (zeros 3) (zeros 3)) 3  -- run: no word
    ∷ row (run_gives never ready 128 (zeros 3) (zeros 3) (zeros 3) (zeros 3)) 4  -- run: a store of 128 words, 256 at reset
    ∷ row (run_gives never broken 256 (zeros 3) (zeros 3) (zeros 3) (zeros 3)) 5  -- run: phase 0, count 1
    ∷ row (run_gives never ready 256 (zeros 3) (zeros 4) (zeros 3) (zeros 3)) 6  -- run: an input word too many
    ∷ row (run_gives never ready 256 (0 ∷ 0 ∷ 8 ∷ []) (zeros 3) (zeros 3) (zeros 3)) 6  -- run: the last line byte 8
    ∷ row (run_gives never ready 256 (zeros 3) (zeros 3) (zeros 4) (zeros 3)) 7  -- run: an answer byte too many
    ∷ row (run_gives never ready 256 (zeros 3) (zeros 3) (zeros 3) (zeros 2)) 7  -- run: an answer word too few
    ∷ row (run_gives never (counted 4294967293 0 0 0) 256 (zeros 3) (zeros 3) (zeros 3) (zeros 3)) 8  -- run: 3 clocks after 4,294,967,293
    ∷ row (run_gives never (counted 4294967292 0 0 0) 256 (zeros 3) (zeros 3) (zeros 3) (zeros 3)) 0  -- run: 3 clocks after 4,294,967,292
    ∷ row (run_gives never ready 256 (0 ∷ 3 ∷ 7 ∷ []) (zeros 3) (zeros 3) (zeros 3)) 0  -- run: 3 clocks
    ∷ row (run_gives never (counted 4294967295 0 0 0) 256 [] [] [] []) 0  -- run: no clock, after 4,294,967,295
    ∷ row (look_gives [] ready 256 0) 3  -- look: no word
    ∷ row (look_gives never ready 128 0) 4  -- look: a store of 128 words, 256 at reset
    ∷ row (look_gives never broken 256 0) 5  -- look: phase 0, count 1
    ∷ row (look_gives never ready 256 0xFFC0) 9  -- look: FFC0H
    ∷ row (look_gives never ready 256 0xFFBF) 0  -- look: FFBFH
    ∷ row (copy_gives [] ready 256 (zeros 256)) 3  -- copy: no word
    ∷ row (copy_gives never ready 128 (zeros 128)) 4  -- copy: a store of 128 words, 256 at reset
    ∷ row (copy_gives never broken 256 (zeros 256)) 5  -- copy: phase 0, count 1
    ∷ row (copy_gives never ready 256 (zeros 255)) 7  -- copy: a buffer of 255 words
    ∷ row (copy_gives never ready 256 (zeros 256)) 0  -- copy: a buffer of 256 words
    ∷ row (watch_refusal 64) 9  -- watch: device 64
    ∷ row (watch_refusal 63) 0  -- watch: device 63
    ∷ row (clock_gives [] ready 128 0) 3  -- rows 3 and 4
    ∷ row (clock_gives never broken 128 0) 4  -- rows 4 and 5
    ∷ row (clock_gives never broken 256 8) 5  -- rows 5 and 6
    ∷ row (clock_gives never (counted 4294967295 0 0 0) 256 8) 6  -- rows 6 and 8
    ∷ row (run_gives never (counted 4294967295 0 0 0) 256 (zeros 3) (zeros 2) (zeros 2) (zeros 3)) 6  -- rows 6, 7 and 8
    ∷ row (run_gives never (counted 4294967295 0 0 0) 256 (zeros 3) (zeros 3) (zeros 2) (zeros 3)) 7  -- rows 7 and 8
    ∷ row (look_gives never broken 256 0xFFC0) 5  -- rows 5 and 9
    ∷ row (copy_gives never broken 256 (zeros 255)) 5  -- rows 5 and 7
    ∷ []
