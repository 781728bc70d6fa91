-- Test cases of single steps on a sample cache: memory seen through a line, each clock of a write-back and of a refill, a store to a
-- line, a line emptied, cleaned and filled, the dirty lines.
-- Paper: "Each ten is two waits and eight words in rising order"; "An empty line is clean with block 0, its old words
-- staying until overwritten"; "a full line's word standing before the store's".
--   rows      the result of a step, and the result expected from the paper        AllHold rs   the two are equal in every row
use Rattle.std.specs.Prelude.{ℕ, zero, suc, ◌+◌, ◌-◌, ◌≡◌, List, [], ◌∷◌, ◌++◌, map, replicate}
use Rattle.trm_reference.specs.Geometry.{paper_geometry}
use Rattle.trm_cache.specs.Cache.{Line, cache, line_at, view, copy_of, emptied, cleaned, filled, stored_to}
use Rattle.trm_cache.specs.declared.record.Cache.{Cache}
use Rattle.trm_cache.specs.Cache.{write_word, fill_word, count_dirty, first_dirty, all_emptied}
use Rattle.trm_cache.specs.Copy.{writes, fills}

abbrev pub zeros : ℕ → List ℕ
zeros n = replicate n 0

-- the n numbers a, a + 1, ..
unfoldable pub rising : ℕ → ℕ → List ℕ
rising zero a = []
rising (suc n) a = a ∷ rising n (suc a)

-- the same with x at index i; i is below n, so the difference does not truncate
unfoldable pub but : ℕ → ℕ → ℕ → ℕ → List ℕ
but n a i x = rising i a ++ (x ∷ rising (n - suc i) (a + suc i))

-- full, dirty and block of the lines, and their words, as one list
abbrev pub listed : List ℕ → List ℕ → List ℕ → List ℕ → List ℕ
listed f d b ws = f ++ (d ++ (b ++ ws))

abbrev pub arrays : Cache → List ℕ
arrays ca = listed ca.full ca.dirty ca.block ca.words

-- Lines 2 and 5 are full and dirty with blocks 2 and 5, line 7 is full and clean with block 23, and the others are empty. Word i of line l
-- is 1000 + 8 l + i. Word i of the store is 100 + i.
abbrev pub sample : Cache
sample =
    cache (0 ∷ 0 ∷ 1 ∷ 0 ∷ 0 ∷ 1 ∷ 0 ∷ 1 ∷ zeros 8) (0 ∷ 0 ∷ 1 ∷ 0 ∷ 0 ∷ 1 ∷ zeros 10) (0 ∷ 0 ∷ 2 ∷ 0 ∷ 0 ∷ 5 ∷ 0 ∷ 23 ∷ zeros 8)
    (rising 128 1000)

-- the arrays of the sample with these words
abbrev pub sampled : List ℕ → List ℕ
sampled ws = listed sample.full sample.dirty sample.block ws

abbrev pub line : ℕ → Line
line l = line_at paper_geometry sample l

-- memory at these addresses; the store has n words
abbrev pub viewed : ℕ → List ℕ → List ℕ
viewed n addresses = map (view paper_geometry sample (rising n 100)) addresses

-- one more clock of a burst, k clocks of which are done
abbrev pub writing : ℕ → List ℕ
writing k = write_word paper_geometry (line 2) (rising 64 100) k

abbrev pub filling : ℕ → List ℕ
filling k = arrays (fill_word paper_geometry sample 9 (rising 256 100) 25 k)

-- all lines full, with these dirty flags
abbrev pub all_full : List ℕ → Cache
all_full dirty = cache (replicate 16 1) dirty (rising 16 0) (zeros 128)

abbrev pub dirty_of : Cache → List ℕ
dirty_of ca = count_dirty paper_geometry ca ∷ first_dirty paper_geometry ca ∷ []

pub record Row : Type 0 where
  pub gives : List ℕ
  pub expected : List ℕ

abbrev pub row : List ℕ → List ℕ → Row
row gives expected = record { gives = gives; expected = expected }

unfoldable pub AllHold : List Row → Type 0
AllHold [] = Unit {0}
AllHold (r ∷ rs) = (r.gives ≡ r.expected) × AllHold rs

unfoldable pub rows : List Row
rows =
    -- on a hit the word is the line's: 16 to 23 are in line 2; 184 to 191, in a store of 256 words, are in line 7
    row (viewed 64 (16 ∷ 19 ∷ 23 ∷ [])) (1016 ∷ 1019 ∷ 1023 ∷ [])
    ∷ row (viewed 256 (184 ∷ 191 ∷ [])) (1056 ∷ 1063 ∷ [])
    -- if the line is empty, it is the store's, also for block 0, the block number of an empty line
    ∷ row (viewed 64 (0 ∷ 15 ∷ 24 ∷ [])) (100 ∷ 115 ∷ 124 ∷ [])
    -- if the line is full with another block, it is the store's: line 7 has block 23, not 7; line 2 has block 2, not 18
    ∷ row (viewed 256 (56 ∷ 144 ∷ [])) (156 ∷ 244 ∷ [])
    -- all of memory: blocks 2 and 5 come from their lines
    ∷ row (copy_of paper_geometry sample (rising 64 100))
    (rising 16 100 ++ (rising 8 1016 ++ (rising 16 124 ++ (rising 8 1040 ++ rising 16 148))))
    -- each single clock of the write-back of line 2: two waits, then one word per clock, from the first to the last
    ∷ row (writing 0) (rising 64 100)
    ∷ row (writing 1) (rising 64 100)
    ∷ row (writing 2) (but 64 100 16 1016)
    ∷ row (writing 3) (but 64 100 17 1017)
    ∷ row (writing 4) (but 64 100 18 1018)
    ∷ row (writing 5) (but 64 100 19 1019)
    ∷ row (writing 6) (but 64 100 20 1020)
    ∷ row (writing 7) (but 64 100 21 1021)
    ∷ row (writing 8) (but 64 100 22 1022)
    ∷ row (writing 9) (but 64 100 23 1023)
    -- nine clocks write all words but the last, ten write all
    ∷ row (writes paper_geometry (line 2) (rising 64 100) 9) (rising 16 100 ++ (rising 7 1016 ++ rising 41 123))
    ∷ row (writes paper_geometry (line 2) (rising 64 100) 10) (rising 16 100 ++ (rising 8 1016 ++ rising 40 124))
    -- each single clock of the refill of line 9 with block 25, words 200 to 207 of a store of 256 words
    ∷ row (filling 0) (sampled (rising 128 1000))
    ∷ row (filling 1) (sampled (rising 128 1000))
    ∷ row (filling 2) (sampled (but 128 1000 72 300))
    ∷ row (filling 3) (sampled (but 128 1000 73 301))
    ∷ row (filling 4) (sampled (but 128 1000 74 302))
    ∷ row (filling 5) (sampled (but 128 1000 75 303))
    ∷ row (filling 6) (sampled (but 128 1000 76 304))
    ∷ row (filling 7) (sampled (but 128 1000 77 305))
    ∷ row (filling 8) (sampled (but 128 1000 78 306))
    ∷ row (filling 9) (sampled (but 128 1000 79 307))
    -- all ten clocks
    ∷ row (arrays (fills paper_geometry sample 9 (rising 256 100) 25 10)) (sampled (rising 72 1000 ++ (rising 8 300 ++ rising 48 1080)))
    -- ST of 9 to word 3 of line 7: the word is written and the line is dirty
    ∷ row (arrays (stored_to paper_geometry sample 7 3 9))
    (listed sample.full (0 ∷ 0 ∷ 1 ∷ 0 ∷ 0 ∷ 1 ∷ 0 ∷ 1 ∷ zeros 8) sample.block (but 128 1000 59 9))
    -- line 5 emptied: clean with block 0, words unchanged; line 5 cleaned; line 5 filled with block 21; the empty line 3 with 19
    ∷ row (arrays (emptied sample 5))
    (listed (0 ∷ 0 ∷ 1 ∷ 0 ∷ 0 ∷ 0 ∷ 0 ∷ 1 ∷ zeros 8) (0 ∷ 0 ∷ 1 ∷ zeros 13) (0 ∷ 0 ∷ 2 ∷ 0 ∷ 0 ∷ 0 ∷ 0 ∷ 23 ∷ zeros 8) (rising 128 1000))
    ∷ row (arrays (cleaned sample 5)) (listed sample.full (0 ∷ 0 ∷ 1 ∷ zeros 13) sample.block (rising 128 1000))
    ∷ row (arrays (filled sample 5 21))
    (listed sample.full (0 ∷ 0 ∷ 1 ∷ zeros 13) (0 ∷ 0 ∷ 2 ∷ 0 ∷ 0 ∷ 21 ∷ 0 ∷ 23 ∷ zeros 8) (rising 128 1000))
    ∷ row (arrays (filled sample 3 19))
    (listed (0 ∷ 0 ∷ 1 ∷ 1 ∷ 0 ∷ 1 ∷ 0 ∷ 1 ∷ zeros 8) sample.dirty (0 ∷ 0 ∷ 2 ∷ 19 ∷ 0 ∷ 5 ∷ 0 ∷ 23 ∷ zeros 8) (rising 128 1000))
    -- all lines emptied
    ∷ row (arrays (all_emptied paper_geometry sample)) (listed (zeros 16) (zeros 16) (zeros 16) (rising 128 1000))
    -- the number of dirty lines and the lowest: lines 2 and 5; 5; 3 and 15; 15; none
    ∷ row (dirty_of sample) (2 ∷ 2 ∷ [])
    ∷ row (dirty_of (cleaned sample 2)) (1 ∷ 5 ∷ [])
    ∷ row (dirty_of (all_full (0 ∷ 0 ∷ 0 ∷ 1 ∷ zeros 11 ++ (1 ∷ [])))) (2 ∷ 3 ∷ [])
    ∷ row (dirty_of (all_full (zeros 15 ++ (1 ∷ [])))) (1 ∷ 15 ∷ [])
    ∷ row (dirty_of (all_full (zeros 16))) (0 ∷ 0 ∷ [])
    ∷ []
