-- A burst clock by clock, and the block copy that it amounts to: from a line to the store, or from the store to a line.
-- Paper: "Each ten is two waits and eight words in rising order"; "The cache has 16 lines of 8 words, write-back".
--   writes, fills   the store or the cache after the first k clocks
--   copied   the store with a line copied in        block_words   a block
use Rattle.std.specs.Prelude.{ℕ, zero, suc, ◌+◌, ◌*◌, List, ◌++◌, take, drop}
use Rattle.trm_reference.specs.Geometry.{Geometry}
use Rattle.trm_cache.specs.Cache.{Line, write_word, fill_word}
use Rattle.trm_cache.specs.declared.record.Cache.{Cache}

-- the store after the first k clocks of the write-back of a line
unfoldable pub writes : Geometry → Line → List ℕ → ℕ → List ℕ
writes G ln s zero = s
writes G ln s (suc k) = write_word G ln (writes G ln s k) k

-- the cache after the first k clocks of the refill of line l with block b
unfoldable pub fills : Geometry → Cache → ℕ → List ℕ → ℕ → ℕ → Cache
fills G ca l s b zero = ca
fills G ca l s b (suc k) = fill_word G (fills G ca l s b k) l s b k

-- the store before the line's block, the line's words, and the store after the block
unfoldable pub copied : Geometry → Line → List ℕ → List ℕ
copied G ln s =
    take (ln.block * G.words) s ++ (take G.words ln.words ++ drop (ln.block * G.words + G.words) s)

-- the words of block b
unfoldable pub block_words : Geometry → List ℕ → ℕ → List ℕ
block_words G s b = take G.words (drop (b * G.words) s)
