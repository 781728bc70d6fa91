-- Claims about the cache beyond the contracts: one statement per field.
-- Paper: "Each ten is two waits and eight words in rising order", "a full line's word standing before the store's". Proved in
-- proofs/Theorems.antt.
use Rattle.std.specs.Prelude.{ℕ, ◌+◌, ◌*◌, ◌≤◌, ◌<◌, ◌≡◌, ◌≢◌, List, length}
use Rattle.trm_reference.specs.Geometry.{Geometry, burst}
use Rattle.trm_cache.specs.Cache.{Line, line_at}
use Rattle.trm_cache.specs.declared.record.Cache.{Cache}
use Rattle.trm_cache.specs.Copy.{writes, fills, copied, block_words}
use Rattle.trm_cache.specs.Steps.{rows, AllHold}

-- All clocks of a write-back together copy the line's words to its block of the store, and change no other word.
abbrev pub WriteIsCopy : Type 0
WriteIsCopy =
    (G : Geometry) (ln : Line) (s : List ℕ) → ln.block * G.words + G.words ≤ length s → G.words ≤ length ln.words
    → writes G ln s (burst G) ≡ copied G ln s

-- All clocks of a refill together copy the block's words to the line.
abbrev pub FillIsCopy : Type 0
FillIsCopy =
    (G : Geometry) (ca : Cache) (l : ℕ) (s : List ℕ) (b : ℕ) → l < G.lines → G.lines * G.words ≤ length ca.words
    → b * G.words + G.words ≤ length s
    → (line_at G (fills G ca l s b (burst G)) l).words ≡ block_words G s b

-- A refill changes no other line.
abbrev pub FillOtherLines : Type 0
FillOtherLines =
    (G : Geometry) (ca : Cache) (l : ℕ) (s : List ℕ) (b : ℕ) → l < G.lines → G.lines * G.words ≤ length ca.words
    → b * G.words + G.words ≤ length s
    → (k : ℕ) → k ≢ l → line_at G (fills G ca l s b (burst G)) k ≡ line_at G ca k

-- The clocks of a refill do not change full, dirty and block of any line.
abbrev pub FillMarks : Type 0
FillMarks =
    (G : Geometry) (ca : Cache) (l : ℕ) (s : List ℕ) (b : ℕ)
    → ((fills G ca l s b (burst G)).full ≡ ca.full) × ((fills G ca l s b (burst G)).dirty ≡ ca.dirty)
    × ((fills G ca l s b (burst G)).block ≡ ca.block)

-- Every row of the table of single steps holds.
abbrev pub StepsHold : Type 0
StepsHold = AllHold rows

pub record Claims : Type 0 where
  pub write_is_copy : WriteIsCopy
  pub fill_is_copy : FillIsCopy
  pub fill_other_lines : FillOtherLines
  pub fill_marks : FillMarks
  pub steps_hold : StepsHold
