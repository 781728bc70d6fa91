-- The cache geometry: lines, words per line, waits before the words of a burst; the block and the line of an address.
-- Paper: "The cache has 16 lines of 8 words", "Each ten is two waits and eight words", "Block = address .. /8 rounded down;
-- line = block mod 16". Every definition of the cache, the charges and the history takes them as a parameter.
--   paper_geometry   16, 8, 2       burst G   the clocks of one write-back or refill (the paper's "ten")
use Rattle.std.specs.Prelude.{ℕ, ◌+◌, ◌/◌, ◌%◌, Bool, false, ◌&&◌, ◌||◌, List, [], ◌∷◌, eqb, leb}

pub record Geometry : Type 0 where
  pub lines : ℕ
  pub words : ℕ
  pub waits : ℕ

abbrev pub paper_geometry : Geometry
paper_geometry = record { lines = 16; words = 8; waits = 2 }

-- the geometries that the claims cover: 4, 8, 16, 32 or 64 lines, 4, 8 or 16 words, 0 to 15 waits; the paper's is one of them
unfoldable pub one_of : ℕ → List ℕ → Bool
one_of n [] = false
one_of n (k ∷ ks) = eqb n k || one_of n ks

abbrev pub line_counts : List ℕ
line_counts = 4 ∷ 8 ∷ 16 ∷ 32 ∷ 64 ∷ []

abbrev pub word_counts : List ℕ
word_counts = 4 ∷ 8 ∷ 16 ∷ []

unfoldable pub geometry_ok : Geometry → Bool
geometry_ok G = one_of G.lines line_counts && one_of G.words word_counts && leb G.waits 15

-- "Each ten is two waits and eight words"
unfoldable pub burst : Geometry → ℕ
burst G = G.waits + G.words

-- "Block = address, once reduced to the store, /8 rounded down"
unfoldable pub block_of : Geometry → ℕ → ℕ
block_of G address = address / G.words

-- "line = block mod 16"
unfoldable pub line_of : Geometry → ℕ → ℕ
line_of G block = block % G.lines
