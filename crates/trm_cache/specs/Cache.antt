-- The cache: its four arrays, one line, memory as seen through it, and the steps on it.
-- Paper: "The cache has 16 lines of 8 words, write-back"; "A line is empty while it refills and clean after either ten. An empty line is
-- clean with block 0, its old words staying until overwritten"; "a full line's word standing before the store's".
--   line_at G ca l   line l        holds ln b   the line is full with block b
--   view G ca s a   memory word a        copy_of   all words
--   emptied, cleaned, filled, with_word, stored_to   the cache after a change of one line
--   write_word, fill_word   one clock of a burst      count_dirty, first_dirty, all_emptied   for turning the cache off
use Rattle.std.specs.Prelude.{ℕ, zero, suc, ◌≡◌, ◌+◌, ◌-◌, ◌*◌, ◌%◌, Bool, cond, ◌&&◌, List, [], ◌∷◌, length, get_or, set, take, drop, leb}
use Rattle.std.specs.Prelude.{eqb}
use Rattle.trm_word.specs.Condition.{is_set}
use Rattle.trm_reference.specs.Geometry.{Geometry, block_of, line_of}
use Rattle.trm_reference.specs.History.{how_many}
use Rattle.trm_cache.specs.declared.record.Cache.{Cache}

-- the record of the code: per line full, dirty and block; the words of all lines
abbrev pub cache : List ℕ → List ℕ → List ℕ → List ℕ → Cache
cache f d b ws = record { full = f; dirty = d; block = b; words = ws }

-- the arrays are as long as their types in the code say
pub record Sized (ca : Cache) : Type 0 where
  pub full : length ca.full ≡ 16
  pub dirty : length ca.dirty ≡ 16
  pub block : length ca.block ≡ 16
  pub words : length ca.words ≡ 128

pub record Line : Type 0 where
  pub full : Bool
  pub dirty : Bool
  pub block : ℕ
  pub words : List ℕ

-- the number of array elements that one line takes in the array of words
abbrev pub stride : Geometry → ℕ
stride G = G.words

-- the arrays have an element per line, so the defaults are not reached
unfoldable pub line_at : Geometry → Cache → ℕ → Line
line_at G ca l =
    record {
      full = is_set (get_or ca.full l 0);
      dirty = is_set (get_or ca.dirty l 0);
      block = get_or ca.block l 0;
      words = take (stride G) (drop (l * stride G) ca.words);
    }

unfoldable pub holds : Line → ℕ → Bool
holds ln b = ln.full && eqb ln.block b

-- "a full line's word standing before the store's": word a as seen through its line
unfoldable pub line_view : Geometry → Line → List ℕ → ℕ → ℕ
line_view G ln s a = cond (holds ln (block_of G a)) (get_or ln.words (a % G.words) 0) (get_or s a 0)

unfoldable pub view : Geometry → Cache → List ℕ → ℕ → ℕ
view G ca s a = line_view G (line_at G ca (line_of G (block_of G a))) s a

-- f of the numbers below k, in rising order
unfoldable pub below : ℕ → (ℕ → ℕ) → List ℕ
below zero f = []
below (suc k) f = f 0 ∷ below k (λ i. f (suc i))

-- "a copy fills a buffer with all of it"
unfoldable pub copy_of : Geometry → Cache → List ℕ → List ℕ
copy_of G ca s = below (length s) (view G ca s)

-- "An empty line is clean with block 0, its old words staying until overwritten"
abbrev pub emptied : Cache → ℕ → Cache
emptied ca l = cache (set ca.full l 0) (set ca.dirty l 0) (set ca.block l 0) ca.words

-- "clean after either ten"
abbrev pub cleaned : Cache → ℕ → Cache
cleaned ca l = cache ca.full (set ca.dirty l 0) ca.block ca.words

abbrev pub filled : Cache → ℕ → ℕ → Cache
filled ca l b = cache (set ca.full l 1) (set ca.dirty l 0) (set ca.block l b) ca.words

abbrev pub with_word : Geometry → Cache → ℕ → ℕ → ℕ → Cache
with_word G ca l i x = cache ca.full ca.dirty ca.block (set ca.words (l * stride G + i) x)

-- ST that hits: the word is written and the line is dirty
abbrev pub stored_to : Geometry → Cache → ℕ → ℕ → ℕ → Cache
stored_to G ca l i x =
    cache ca.full (set ca.dirty l 1) ca.block (set ca.words (l * stride G + i) x)

-- "Each ten is two waits and eight words in rising order": the store after one more clock of a write-back, k clocks of
-- which are done; if a word is moved k is at least the waits, so the difference does not truncate
unfoldable pub write_word : Geometry → Line → List ℕ → ℕ → List ℕ
write_word G ln s k =
    cond (leb G.waits k)
    (set s (ln.block * G.words + (k - G.waits)) (get_or ln.words (k - G.waits) 0))
    s

-- the cache after one more clock of the refill of line l with block b, k clocks of which are done
unfoldable pub fill_word : Geometry → Cache → ℕ → List ℕ → ℕ → ℕ → Cache
fill_word G ca l s b k =
    cond (leb G.waits k) (with_word G ca l (k - G.waits) (get_or s (b * G.words + (k - G.waits)) 0)) ca

unfoldable pub count_dirty : Geometry → Cache → ℕ
count_dirty G ca = how_many G.lines (λ l. (line_at G ca l).dirty)

-- the lowest number below k that passes the test, and 0 if none does
unfoldable pub lowest : ℕ → (ℕ → Bool) → ℕ
lowest zero f = 0
lowest (suc k) f = cond (eqb (how_many k f) 0) (cond (f k) k 0) (lowest k f)

-- "10 for each dirty line, lowest line first"
unfoldable pub first_dirty : Geometry → Cache → ℕ
first_dirty G ca = lowest G.lines (λ l. (line_at G ca l).dirty)

-- the lines below k emptied
unfoldable pub empty_to : ℕ → Cache → Cache
empty_to zero ca = ca
empty_to (suc k) ca = emptied (empty_to k ca) k

-- "one last clock, which empties all lines"
unfoldable pub all_emptied : Geometry → Cache → Cache
all_emptied G ca = empty_to G.lines ca
