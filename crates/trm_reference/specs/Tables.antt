-- Test cases of the reference machine: a row has a list that the definitions compute and the list expected from the paper.
-- Paper: see each table. A negative number is written as 2^32 minus its magnitude.
-- This file has the rows, words and small machines that the tables use; each table has its own file.
--   row c e   the row of c, computed, and e, expected       AllHold rs   the two lists of every row are equal
use Rattle.std.specs.Prelude.{ℕ, suc, ◌+◌, ◌*◌, ◌^◌, ◌≡◌, true, false, cond, List, [], ◌∷◌, ◌++◌, length, replicate, eqb}
use Rattle.trm_reference.specs.Geometry.{paper_geometry}
use Rattle.trm_reference.specs.Visible.{Visible}
use Rattle.trm_reference.specs.Access.{Answer}
use Rattle.trm_reference.specs.History.{Event, access}
use Rattle.trm_reference.specs.Trace.{After, pins_of, clocks, end_of}
use Rattle.trm_reference.specs.Reference.{Reference, reference_clock}
pub mod Starred
pub mod ClockTable
pub mod Executed
pub mod Comparisons
pub mod Accesses
pub mod Interrupts
pub mod Histories
pub mod Stalls

pub record Row : Type 0 where
  pub computed : List ℕ
  pub expected : List ℕ

abbrev pub row : List ℕ → List ℕ → Row
row computed expected = record { computed = computed; expected = expected }

unfoldable pub AllHold : List Row → Type 0
AllHold [] = Unit {0}
AllHold (r ∷ rs) = (r.computed ≡ r.expected) × AllHold rs

-- Words by their fields: "Operation = bits 17–14, d = bits 13–11, s = bits 2–0", and the rest of the word.
abbrev pub word_of : ℕ → ℕ → ℕ → ℕ
word_of op d rest = op * 2 ^ 14 + d * 2 ^ 11 + rest

-- 0–10: "A is R.s if bit 10 is set, else bits 9–0"
abbrev pub literal_word : ℕ → ℕ → ℕ → ℕ
literal_word op d k = word_of op d k

abbrev pub register_word : ℕ → ℕ → ℕ → ℕ
register_word op d s = word_of op d (2 ^ 10 + s)

-- "11 with bit 10 clear: status := bits 3–0"; "With bit 10 set .. by bits 9–8"
abbrev pub status_word : ℕ → ℕ
status_word status = word_of 11 0 status

abbrev pub jump_word : ℕ → ℕ → ℕ → ℕ
jump_word form d s = word_of 11 d (2 ^ 10 + form * 2 ^ 8 + s)

-- 12 LD and 13 ST: offset in bits 10–3
abbrev pub load_word : ℕ → ℕ → ℕ → ℕ
load_word d s offset = word_of 12 d (offset * 2 ^ 3 + s)

abbrev pub store_word : ℕ → ℕ → ℕ → ℕ
store_word d s offset = word_of 13 d (offset * 2 ^ 3 + s)

-- 14: condition in bits 13–10, offset in bits 9–0; 15: offset in bits 11–0
abbrev pub branch_word : ℕ → ℕ → ℕ
branch_word condition offset = 14 * 2 ^ 14 + condition * 2 ^ 10 + offset

abbrev pub call_word : ℕ → ℕ
call_word offset = 15 * 2 ^ 14 + offset

-- A visible state, all zero except R1 and R2 of bank 0 and the status.
abbrev pub holding : ℕ → ℕ → ℕ → Visible
holding r1 r2 status =
    record { pc = 0; regs = 0 ∷ r1 ∷ r2 ∷ replicate 13 0; h = 0; n = 0; z = 0; c = 0; v = 0; status = status }

-- R0–R7 of bank 0, then of bank 1: each is 100H plus its index, except R6 of both banks, which is a return address with flags
abbrev pub registers : List ℕ
registers =
    0x100 ∷ 0x101 ∷ 0x102 ∷ 0x103 ∷ 0x104 ∷ 0x105 ∷ 0xA000_0FFF ∷ 0x107
    ∷ 0x108 ∷ 0x109 ∷ 0x10A ∷ 0x10B ∷ 0x10C ∷ 0x10D ∷ 0x5000_0ABC ∷ 0x10F ∷ []

-- The visible state with these registers and H 80000005H, given PC, N, Z, C, V and the status.
abbrev pub seen : ℕ → ℕ → ℕ → ℕ → ℕ → ℕ → Visible
seen pc n z c v status = record { pc = pc; regs = registers; h = 0x8000_0005; n = n; z = z; c = c; v = v; status = status }

-- The reference machine with a visible state, n words of memory that are all 9, and a history; no word in flight, all counts zero.
abbrev pub machine : Visible → ℕ → List Event → Reference
machine v n h =
    record {
      visible = v;
      memory = replicate n 9;
      history = h;
      left = 0;
      clocks = 0;
      held = 0;
      refills = 0;
      writebacks = 0;
    }

-- The clock history of the program p from q with these line bytes and input words; `ran` has 7 as every input word.
unfoldable pub ran_with : List ℕ → Reference → List ℕ → List ℕ → List (After Reference Answer)
ran_with p q line_bytes inputs = clocks (reference_clock paper_geometry p) q (pins_of line_bytes inputs)

unfoldable pub ran : List ℕ → Reference → List ℕ → List (After Reference Answer)
ran p q line_bytes = ran_with p q line_bytes (replicate (length line_bytes) 7)

unfoldable pub state_after : List ℕ → Reference → List ℕ → Reference
state_after p q line_bytes = end_of q (ran p q line_bytes)

-- n line bytes with no bit set
abbrev pub quiet : ℕ → List ℕ
quiet n = replicate n 0

-- the clock counts at which words finish
unfoldable pub finishes : List (After Reference Answer) → List ℕ
finishes [] = []
finishes (t ∷ ts) = cond (eqb t.out.done 1) (t.state.clocks ∷ finishes ts) (finishes ts)

-- an access that loads from a block, and one that stores to it
abbrev pub load_of : ℕ → Event
load_of block = access (record { block = block; store = false })

abbrev pub store_of : ℕ → Event
store_of block = access (record { block = block; store = true })

-- 256 words of memory, which are blocks 0–31, the cache off, or on with a history; R1 is FFC0H, the address of device 0
abbrev pub cache_off : Reference
cache_off = machine (holding 0xFFC0 0 0) 256 []

abbrev pub cache_with : List Event → Reference
cache_with h = machine (holding 0xFFC0 0 8) 256 h

-- the indices, counted from k, at which the second list differs from the first, each followed by its value there; if the lengths differ,
-- the index at which the shorter list ends
unfoldable pub changed_from : ℕ → List ℕ → List ℕ → List ℕ
changed_from k [] [] = []
changed_from k [] (y ∷ ys) = k ∷ []
changed_from k (x ∷ xs) [] = k ∷ []
changed_from k (x ∷ xs) (y ∷ ys) = cond (eqb x y) (changed_from (suc k) xs ys) (k ∷ y ∷ changed_from (suc k) xs ys)

-- PC; each changed register by its index (0–7 in bank 0, 8–15 in bank 1) and its value; H, N, Z, C, V, status
unfoldable pub shown : Visible → Visible → List ℕ
shown before v =
    v.pc ∷ (changed_from 0 before.regs v.regs ++ (v.h ∷ v.n ∷ v.z ∷ v.c ∷ v.v ∷ v.status ∷ []))

-- a state without its clocks and held clocks; of the history only its length
unfoldable pub rest_of : Reference → List ℕ
rest_of q =
    length q.history
    ∷ q.left
    ∷ q.refills
    ∷ q.writebacks
    ∷ q.visible.pc
    ∷ q.visible.h
    ∷ q.visible.n
    ∷ q.visible.z
    ∷ q.visible.c
    ∷ q.visible.v
    ∷ q.visible.status
    ∷ (q.visible.regs ++ q.memory)
