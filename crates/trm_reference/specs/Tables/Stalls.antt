-- Table: held clocks delay a word without changing its outcome, and devices are accessed in its last clock only.
-- Paper: "A clock with stall set is held", "A stall in the 33rd clock that starts the multiplication over".
use Rattle.std.specs.Prelude.{ℕ, ◌-◌, ◌^◌, List, [], ◌∷◌, ◌++◌, replicate}
use Rattle.trm_reference.specs.Visible.{register}
use Rattle.trm_reference.specs.Access.{Answer}
use Rattle.trm_reference.specs.Trace.{After}
use Rattle.trm_reference.specs.Reference.{Reference}
use Rattle.trm_reference.specs.Tables.{Row, row, register_word, load_word, store_word, holding, machine, ran_with, ran, state_after}
use Rattle.trm_reference.specs.Tables.{quiet, finishes, cache_off, cache_with}

-- the clock counts at which words finish, then held clocks, refills, R1 and H
unfoldable pub stalled_run : List ℕ → Reference → List ℕ → List ℕ
stalled_run p q line_bytes =
    let u : Reference = state_after p q line_bytes in
    finishes (ran p q line_bytes) ++ (u.held ∷ u.refills ∷ register u.visible 1 ∷ u.visible.h ∷ [])

-- byte and word of each clock's answer
unfoldable pub answers_of : List (After Reference Answer) → List ℕ
answers_of [] = []
answers_of (t ∷ ts) = t.out.byte ∷ t.out.word ∷ answers_of ts

-- R1 is −3 and R2 is 7; MUL R1, R2
abbrev pub multiplies : List ℕ
multiplies = register_word 8 1 2 ∷ []

abbrev pub factors : Reference
factors = machine (holding (2 ^ 32 - 3) 7 0) 256 []

-- LD R1 from 128, where memory has 9
abbrev pub loads_r1 : List ℕ
loads_r1 = load_word 1 7 128 ∷ []

unfoldable pub stalls : List Row
stalls =
    -- MUL without a stall: 33 clocks, −21
    row (stalled_run multiplies factors (quiet 33)) (33 ∷ 0 ∷ 0 ∷ (2 ^ 32 - 21) ∷ (2 ^ 32 - 1) ∷ [])
    -- a stall in the 33rd clock does not start the multiplication over: clock 33 does nothing, and the word finishes in the 34th
    ∷ row (stalled_run multiplies factors (quiet 32 ++ (4 ∷ []))) (1 ∷ 0 ∷ (2 ^ 32 - 3) ∷ 0 ∷ [])
    ∷ row (stalled_run multiplies factors (quiet 32 ++ (4 ∷ 0 ∷ []))) (34 ∷ 1 ∷ 0 ∷ (2 ^ 32 - 21) ∷ (2 ^ 32 - 1) ∷ [])
    -- a stall in the first clock, and one in the 17th
    ∷ row
    (stalled_run multiplies factors ((4 ∷ quiet 16) ++ (4 ∷ quiet 17)))
    (35 ∷ 2 ∷ 0 ∷ (2 ^ 32 - 21) ∷ (2 ^ 32 - 1) ∷ [])
    -- stalls only
    ∷ row (stalled_run multiplies factors (replicate 5 4)) (5 ∷ 0 ∷ (2 ^ 32 - 3) ∷ 0 ∷ [])
    -- two stalls in the middle of a refill: it is counted in clock 13, and the word finishes in clock 14
    ∷ row (stalled_run loads_r1 (cache_with []) (quiet 12)) (12 ∷ 0 ∷ 1 ∷ 9 ∷ 0 ∷ [])
    ∷ row (stalled_run loads_r1 (cache_with []) (quiet 5 ++ (4 ∷ 4 ∷ quiet 5))) (2 ∷ 0 ∷ 0xFFC0 ∷ 0 ∷ [])
    ∷ row (stalled_run loads_r1 (cache_with []) (quiet 5 ++ (4 ∷ 4 ∷ quiet 6))) (2 ∷ 1 ∷ 0xFFC0 ∷ 0 ∷ [])
    ∷ row (stalled_run loads_r1 (cache_with []) (quiet 5 ++ (4 ∷ 4 ∷ quiet 7))) (14 ∷ 2 ∷ 1 ∷ 9 ∷ 0 ∷ [])
    -- "a device is read or written only in that clock", the last: LD from device 0 with a stall before it, and ST to device 1
    ∷ row
    (answers_of (ran_with (load_word 3 1 0 ∷ store_word 3 1 1 ∷ []) cache_off (0 ∷ 4 ∷ 0 ∷ 4 ∷ 0 ∷ []) (11 ∷ 22 ∷ 33 ∷ 44 ∷ 55 ∷ [])))
    (0 ∷ 0 ∷ 0 ∷ 0 ∷ 1 ∷ 33 ∷ 0 ∷ 0 ∷ 6 ∷ 33 ∷ [])
    ∷ []
