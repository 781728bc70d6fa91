-- Table: which access refills, which lines are dirty, the sums over a history, when a burst is counted, and what joins the history.
-- Paper: "Judged from history, ..", "A miss is one looking clock, ..", "counts when its ten is over", "joins the history".
-- The latest access is first; blocks 0 and 16 belong to cache line 0, 1 and 17 to line 1, 31 to line 15.
use Rattle.std.specs.Prelude.{ℕ, ◌+◌, List, [], ◌∷◌, ◌++◌, length, replicate}
use Rattle.trm_alu.specs.Word.{flag}
use Rattle.trm_reference.specs.Geometry.{paper_geometry, line_of}
use Rattle.trm_reference.specs.History.{Event, emptying, refills_now, dirty_now, dirty_lines, refills_in, writebacks_in}
use Rattle.trm_reference.specs.Reference.{Reference, reference_reset}
use Rattle.trm_reference.specs.Tables.{Row, row, status_word, load_word, store_word, ran, state_after, quiet, finishes, load_of}
use Rattle.trm_reference.specs.Tables.{store_of, cache_off, cache_with}

-- 1 if an access to the block refills, 1 if its line is dirty, and how many lines are dirty
unfoldable pub judged : List Event → ℕ → List ℕ
judged h b =
    flag (refills_now paper_geometry h b)
    ∷ flag (dirty_now paper_geometry h (line_of paper_geometry b))
    ∷ dirty_lines paper_geometry h
    ∷ []

-- the refills and write-backs of a history
unfoldable pub summed : List Event → List ℕ
summed h = refills_in paper_geometry h ∷ writebacks_in paper_geometry h ∷ []

-- refills and write-backs after n clocks
unfoldable pub counted : List ℕ → Reference → ℕ → List ℕ
counted p q n = let u : Reference = state_after p q (quiet n) in u.refills ∷ u.writebacks ∷ []

-- the clock counts at which words finish in n clocks, then refills and write-backs
unfoldable pub finished_at : List ℕ → Reference → ℕ → List ℕ
finished_at p q n = finishes (ran p q (quiet n)) ++ counted p q n

-- how many events the history has after n clocks of a word
abbrev pub joined : Reference → ℕ → ℕ → ℕ → Row
joined q w n events = row (length (state_after (w ∷ []) q (quiet n)).history ∷ []) (events ∷ [])

-- LD R3 from 128, which is in block 16 and line 0; ST R3 to it; 11 clearing status bit 3
abbrev pub loads128 : List ℕ
loads128 = load_word 3 7 128 ∷ []

abbrev pub stores128 : List ℕ
stores128 = store_word 3 7 128 ∷ []

abbrev pub turns_off : List ℕ
turns_off = status_word 0 ∷ []

-- the cache on; ST to 0; LD from 128, from 0 and from 1
abbrev pub goes_back : List ℕ
goes_back = status_word 8 ∷ store_word 2 7 0 ∷ load_word 3 7 128 ∷ load_word 3 7 0 ∷ load_word 3 7 1 ∷ []

-- the cache on; ST to 0; the cache off, and on; LD from 0
abbrev pub empties_between : List ℕ
empties_between = status_word 8 ∷ store_word 2 7 0 ∷ status_word 0 ∷ status_word 8 ∷ load_word 3 7 0 ∷ []

-- ST to 0; the cache on; LD from device 0, from 0 and from 1
abbrev pub turns_on : List ℕ
turns_on = store_word 2 7 0 ∷ status_word 8 ∷ load_word 3 1 0 ∷ load_word 3 7 0 ∷ load_word 3 7 1 ∷ []

unfoldable pub histories : List Row
histories =
    -- "an access refills unless its line's last access .. was in its block"; "a line without such an access holds none"
    row (judged [] 0) (1 ∷ 0 ∷ 0 ∷ [])
    ∷ row (judged (load_of 0 ∷ []) 0) (0 ∷ 0 ∷ 0 ∷ [])
    ∷ row (judged (load_of 0 ∷ []) 16) (1 ∷ 0 ∷ 0 ∷ [])
    ∷ row (judged (load_of 16 ∷ load_of 0 ∷ []) 0) (1 ∷ 0 ∷ 0 ∷ [])
    ∷ row (judged (load_of 16 ∷ load_of 0 ∷ []) 16) (0 ∷ 0 ∷ 0 ∷ [])
    -- "since reset or emptying": an emptying after the access, before it, and between two to one block
    ∷ row (judged (emptying ∷ load_of 0 ∷ []) 0) (1 ∷ 0 ∷ 0 ∷ [])
    ∷ row (judged (load_of 0 ∷ emptying ∷ []) 0) (0 ∷ 0 ∷ 0 ∷ [])
    ∷ row (judged (emptying ∷ store_of 0 ∷ []) 0) (1 ∷ 0 ∷ 0 ∷ [])
    ∷ row (judged (load_of 0 ∷ emptying ∷ store_of 0 ∷ []) 0) (0 ∷ 0 ∷ 0 ∷ [])
    -- "dirty if stored to since its refill": by the access that refilled, by one after it, and still after a load
    ∷ row (judged (store_of 0 ∷ []) 0) (0 ∷ 1 ∷ 1 ∷ [])
    ∷ row (judged (store_of 0 ∷ load_of 0 ∷ []) 0) (0 ∷ 1 ∷ 1 ∷ [])
    ∷ row (judged (load_of 0 ∷ store_of 0 ∷ []) 0) (0 ∷ 1 ∷ 1 ∷ [])
    -- stored to, then the line's other block, then back again: clean
    ∷ row (judged (load_of 16 ∷ store_of 0 ∷ []) 16) (0 ∷ 0 ∷ 0 ∷ [])
    ∷ row (judged (load_of 0 ∷ load_of 16 ∷ store_of 0 ∷ []) 0) (0 ∷ 0 ∷ 0 ∷ [])
    -- loaded, then the line's other block stored to: dirty, and the first block refills
    ∷ row (judged (store_of 16 ∷ load_of 0 ∷ []) 0) (1 ∷ 1 ∷ 1 ∷ [])
    -- both stored to, then the first loaded again: clean
    ∷ row (judged (load_of 0 ∷ store_of 16 ∷ store_of 0 ∷ []) 0) (0 ∷ 0 ∷ 0 ∷ [])
    -- different lines do not affect each other
    ∷ row (judged (load_of 1 ∷ store_of 0 ∷ []) 0) (0 ∷ 1 ∷ 1 ∷ [])
    ∷ row (judged (load_of 1 ∷ store_of 0 ∷ []) 1) (0 ∷ 0 ∷ 1 ∷ [])
    ∷ row (judged (load_of 8 ∷ store_of 0 ∷ []) 0) (0 ∷ 1 ∷ 1 ∷ [])
    ∷ row (judged (store_of 17 ∷ load_of 0 ∷ store_of 31 ∷ store_of 0 ∷ []) 0) (0 ∷ 1 ∷ 3 ∷ [])
    ∷ row (judged (store_of 17 ∷ load_of 0 ∷ store_of 31 ∷ store_of 0 ∷ []) 1) (1 ∷ 1 ∷ 3 ∷ [])
    -- the sums over a history: empty; a refill, then a hit; a clean block and a dirty one replaced
    ∷ row (summed []) (0 ∷ 0 ∷ [])
    ∷ row (summed (load_of 0 ∷ store_of 0 ∷ [])) (1 ∷ 0 ∷ [])
    ∷ row (summed (store_of 16 ∷ load_of 0 ∷ [])) (2 ∷ 0 ∷ [])
    ∷ row (summed (load_of 0 ∷ load_of 16 ∷ store_of 0 ∷ [])) (3 ∷ 1 ∷ [])
    -- an emptying writes back each dirty line and refills none; after it the same block refills again
    ∷ row (summed (emptying ∷ store_of 1 ∷ store_of 0 ∷ [])) (2 ∷ 2 ∷ [])
    ∷ row (summed (emptying ∷ emptying ∷ store_of 1 ∷ load_of 0 ∷ [])) (2 ∷ 1 ∷ [])
    ∷ row (summed (store_of 0 ∷ emptying ∷ store_of 0 ∷ [])) (2 ∷ 1 ∷ [])
    -- "A miss is one looking clock, ten writing back if dirty, ten refilling, one last"; "counts when its ten is over": a clean miss
    ∷ row (counted loads128 (cache_with []) 10) (0 ∷ 0 ∷ [])
    ∷ row (counted loads128 (cache_with []) 11) (1 ∷ 0 ∷ [])
    ∷ row (counted loads128 (cache_with []) 12) (1 ∷ 0 ∷ [])
    -- a dirty miss
    ∷ row (counted loads128 (cache_with (store_of 0 ∷ [])) 10) (0 ∷ 0 ∷ [])
    ∷ row (counted loads128 (cache_with (store_of 0 ∷ [])) 11) (0 ∷ 1 ∷ [])
    ∷ row (counted loads128 (cache_with (store_of 0 ∷ [])) 20) (0 ∷ 1 ∷ [])
    ∷ row (counted loads128 (cache_with (store_of 0 ∷ [])) 21) (1 ∷ 1 ∷ [])
    ∷ row (counted loads128 (cache_with (store_of 0 ∷ [])) 22) (1 ∷ 1 ∷ [])
    -- a dirty miss of ST
    ∷ row (counted stores128 (cache_with (store_of 0 ∷ [])) 10) (0 ∷ 0 ∷ [])
    ∷ row (counted stores128 (cache_with (store_of 0 ∷ [])) 11) (0 ∷ 1 ∷ [])
    ∷ row (counted stores128 (cache_with (store_of 0 ∷ [])) 21) (1 ∷ 1 ∷ [])
    -- "Turning the cache off does its tens first, then one last clock": two dirty lines
    ∷ row (counted turns_off (cache_with (store_of 1 ∷ store_of 0 ∷ [])) 9) (0 ∷ 0 ∷ [])
    ∷ row (counted turns_off (cache_with (store_of 1 ∷ store_of 0 ∷ [])) 10) (0 ∷ 1 ∷ [])
    ∷ row (counted turns_off (cache_with (store_of 1 ∷ store_of 0 ∷ [])) 19) (0 ∷ 1 ∷ [])
    ∷ row (counted turns_off (cache_with (store_of 1 ∷ store_of 0 ∷ [])) 20) (0 ∷ 2 ∷ [])
    ∷ row (counted turns_off (cache_with (store_of 1 ∷ store_of 0 ∷ [])) 21) (0 ∷ 2 ∷ [])
    -- "a memory access with cache on, or an emptying, joins the history", in the last clock
    ∷ joined (cache_with []) (load_word 3 7 0) 11 0
    ∷ joined (cache_with []) (load_word 3 7 0) 12 1
    ∷ joined (cache_with []) (store_word 3 7 0) 12 1
    ∷ joined (cache_with []) (status_word 0) 1 1
    -- no other word does: 11 with bit 3 set, 11 and LD with the cache off, LD from a device
    ∷ joined (cache_with []) (status_word 8) 1 0
    ∷ joined cache_off (status_word 0) 1 0
    ∷ joined cache_off (load_word 3 7 0) 6 0
    ∷ joined (cache_with []) (load_word 3 1 0) 2 0
    -- ST to 0 misses; LD from 128 misses and writes back; LD from 0 misses again with block 16 clean; LD from 1 hits
    ∷ row (finished_at goes_back (reference_reset (replicate 256 0)) 49) (1 ∷ (1 + 12) ∷ (13 + 22) ∷ (35 + 12) ∷ (47 + 2) ∷ 3 ∷ 1 ∷ [])
    -- ST to 0 misses; turning off writes one line back; LD from 0 refills again
    ∷ row (finished_at empties_between (reference_reset (replicate 256 0)) 37)
    (1 ∷ (1 + 12) ∷ (13 + 11) ∷ (24 + 1) ∷ (25 + 12) ∷ 2 ∷ 1 ∷ [])
    -- neither ST with the cache off nor LD from a device loads block 0 into the cache: LD from 0 misses, LD from 1 hits
    ∷ row (finished_at turns_on cache_off 22) (5 ∷ (5 + 1) ∷ (6 + 2) ∷ (8 + 12) ∷ (20 + 2) ∷ 1 ∷ 0 ∷ [])
    ∷ []
