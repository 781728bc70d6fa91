-- Table: every row of the clock table in each of its forms. The latest access is first; blocks 0 and 16 belong to cache line 0.
-- Paper: "Clock by clock", the table.
use Rattle.std.specs.Prelude.{ℕ, List, [], ◌∷◌}
use Rattle.trm_reference.specs.Geometry.{Geometry, paper_geometry}
use Rattle.trm_reference.specs.History.{Event, emptying}
use Rattle.trm_reference.specs.Reference.{Reference, charge}
use Rattle.trm_reference.specs.Tables.{Row, row, literal_word, register_word, status_word, jump_word, load_word, store_word, branch_word}
use Rattle.trm_reference.specs.Tables.{call_word, holding, seen, machine, load_of, store_of, cache_off, cache_with}

-- the charge of a word in a state, and the clocks that the table gives
abbrev pub charged : Reference → ℕ → ℕ → Row
charged q w clocks = row (charge paper_geometry w q ∷ []) (clocks ∷ [])

-- a store to each of the sixteen cache lines
abbrev pub all_stored : List Event
all_stored =
    store_of 15 ∷ store_of 14 ∷ store_of 13 ∷ store_of 12 ∷ store_of 11 ∷ store_of 10 ∷ store_of 9 ∷ store_of 8
    ∷ store_of 7 ∷ store_of 6 ∷ store_of 5 ∷ store_of 4 ∷ store_of 3 ∷ store_of 2 ∷ store_of 1 ∷ store_of 0 ∷ []

abbrev pub small_geometry : Geometry
small_geometry = record { lines = 4; words = 4; waits = 1 }

unfoldable pub clock_table : List Row
clock_table =
    -- 0–7, 10: 1
    charged cache_off (literal_word 0 1 5) 1
    ∷ charged cache_off (literal_word 1 1 5) 1
    ∷ charged cache_off (literal_word 2 1 5) 1
    ∷ charged cache_off (literal_word 3 1 5) 1
    ∷ charged cache_off (register_word 4 1 2) 1
    ∷ charged cache_off (register_word 5 1 2) 1
    ∷ charged cache_off (register_word 6 1 2) 1
    ∷ charged cache_off (register_word 7 1 2) 1
    ∷ charged cache_off (register_word 10 1 2) 1
    -- 11 with bit 10 clear: 1, with the cache off before it
    ∷ charged cache_off (status_word 3) 1
    ∷ charged cache_off (status_word 8) 1
    -- 14 not taken: 1; never is 3BC00H
    ∷ charged cache_off (branch_word 0 5) 1
    ∷ charged cache_off 0x3BC00 1
    -- 14 taken: 2, under the condition always, and under Z with Z set; 15: 2
    ∷ charged cache_off (branch_word 14 5) 2
    ∷ charged (machine (seen 0 0 1 0 0 0) 256 []) (branch_word 0 5) 2
    ∷ charged cache_off (call_word 5) 2
    -- 11 with bit 10 set: 2, in each of its four forms, and with dirty lines, since it does not clear status bit 3
    ∷ charged cache_off (jump_word 0 1 2) 2
    ∷ charged cache_off (jump_word 1 1 2) 2
    ∷ charged cache_off (jump_word 2 1 2) 2
    ∷ charged cache_off (jump_word 3 1 2) 2
    ∷ charged (cache_with (store_of 1 ∷ store_of 0 ∷ [])) (jump_word 0 1 2) 2
    -- 8, 9: 33
    ∷ charged cache_off (register_word 8 1 2) 33
    ∷ charged cache_off (register_word 9 1 2) 33
    -- LD, ST to a device: 2, 1, the cache off or on
    ∷ charged cache_off (load_word 3 1 0) 2
    ∷ charged cache_off (store_word 3 1 0) 1
    ∷ charged (cache_with (store_of 0 ∷ [])) (load_word 3 1 0) 2
    ∷ charged (cache_with (store_of 0 ∷ [])) (store_word 3 1 0) 1
    -- LD, ST to a cached hit: 2, 1; the block's last word, its first, and a dirty block
    ∷ charged (cache_with (load_of 0 ∷ [])) (load_word 3 7 7) 2
    ∷ charged (cache_with (load_of 0 ∷ [])) (store_word 3 7 0) 1
    ∷ charged (cache_with (store_of 0 ∷ [])) (load_word 3 7 0) 2
    ∷ charged (cache_with (store_of 0 ∷ [])) (store_word 3 7 7) 1
    -- "address, once reduced to the store": 256 is word 0 of 256 words, and block 32 of 512
    ∷ charged (machine (holding 256 0 8) 256 (load_of 0 ∷ [])) (load_word 3 1 0) 2
    ∷ charged (machine (holding 256 0 8) 512 (load_of 0 ∷ [])) (load_word 3 1 0) 12
    -- LD or ST, cache on, miss: 12, with the line empty, then with another block in it; word 8 is in the next line
    ∷ charged (cache_with []) (load_word 3 7 0) 12
    ∷ charged (cache_with []) (store_word 3 7 0) 12
    ∷ charged (cache_with (load_of 0 ∷ [])) (load_word 3 7 128) 12
    ∷ charged (cache_with (load_of 0 ∷ [])) (store_word 3 7 128) 12
    ∷ charged (cache_with (store_of 0 ∷ [])) (load_word 3 7 8) 12
    -- 22 if the old block is dirty
    ∷ charged (cache_with (store_of 0 ∷ [])) (load_word 3 7 128) 22
    ∷ charged (cache_with (store_of 0 ∷ [])) (store_word 3 7 128) 22
    -- LD, ST to memory, cache off: 6, 5, also after the cache was emptied
    ∷ charged cache_off (load_word 3 7 0) 6
    ∷ charged cache_off (store_word 3 7 0) 5
    ∷ charged (machine (holding 0 0 0) 256 (emptying ∷ store_of 0 ∷ [])) (load_word 3 7 0) 6
    ∷ charged (machine (holding 0 0 0) 256 (emptying ∷ store_of 0 ∷ [])) (store_word 3 7 0) 5
    -- 11 clearing status bit 3: 1, and 10 for each dirty line: none, one, one stored to twice, two
    ∷ charged (cache_with []) (status_word 0) 1
    ∷ charged (cache_with (load_of 1 ∷ load_of 0 ∷ [])) (status_word 0) 1
    ∷ charged (cache_with (store_of 0 ∷ [])) (status_word 0) 11
    ∷ charged (cache_with (store_of 0 ∷ store_of 0 ∷ [])) (status_word 0) 11
    ∷ charged (cache_with (store_of 1 ∷ store_of 0 ∷ [])) (status_word 0) 21
    ∷ charged (cache_with (store_of 1 ∷ store_of 0 ∷ [])) (status_word 7) 21
    -- every line dirty, the longest charge: 161
    ∷ charged (cache_with all_stored) (status_word 0) 161
    -- another geometry, 4 lines of 4 words with 1 wait: bursts of 5; blocks 0 and 4 belong to line 0
    ∷ row (charge small_geometry (load_word 3 7 0) (cache_with []) ∷ []) (7 ∷ [])
    ∷ row (charge small_geometry (load_word 3 7 16) (cache_with (store_of 0 ∷ [])) ∷ []) (12 ∷ [])
    ∷ row (charge small_geometry (status_word 0) (cache_with (store_of 5 ∷ store_of 0 ∷ [])) ∷ []) (11 ∷ [])
    -- 1 with the cache already off, and 1 with bit 3 set
    ∷ charged (machine (holding 0 0 0) 256 (emptying ∷ store_of 1 ∷ store_of 0 ∷ [])) (status_word 0) 1
    ∷ charged (cache_with (store_of 1 ∷ store_of 0 ∷ [])) (status_word 8) 1
    ∷ charged (cache_with (store_of 1 ∷ store_of 0 ∷ [])) (status_word 11) 1
    ∷ []
