-- All clocks of a burst together are one block copy.
-- By induction on j: after the waits and j words the written list is `paste` with j words; other words are unchanged.
use Prim.Native.Nat.{ℕ, zero, suc, ◌+◌, ◌-◌, ◌*◌, ◌≤◌, ◌<◌}
use mathlib.Core.Path.{◌≡◌, refl, sym, ap, ◌∙◌}
use mathlib.Core.Logic.{◌≢◌}
use mathlib.Core.Bool.{Bool, true, false, cond}
use mathlib.Core.List.{List, ◌++◌, append_assoc}
use lib.ListN.{length, get_or, set, take, drop, length-drop}
use lib.Seq.{paste, paste-zero, paste-suc, get_or-drop, take_at, drop_at, length-take-le}
use lib.Dec.{leb}
use borrow.Author.Tests.{le-leb, lt-leb}
use native.Mathlib.Omega.{arith}
use native.Mathlib.Nat.{mul-le-mul_right, suc-mul, le_trans, add-suc, add-zero}
use Rattle.trm_reference.specs.Geometry.{Geometry, burst}
use Rattle.trm_cache.specs.Cache.{Line, cache, with_word, line_at, write_word, fill_word}
use Rattle.trm_cache.specs.declared.record.Cache.{Cache}
use Rattle.trm_cache.specs.Copy.{writes, fills, copied, block_words}
use Rattle.trm_cache.specs.Claims.{WriteIsCopy, FillIsCopy, FillOtherLines, FillMarks}
use Rattle.trm_cache.proofs.Laws.Lines.{words-there}

-- write-back

module _ (G : Geometry) (ln : Line) (s : List ℕ) where
  writes-waits : (k : ℕ) → k ≤ G.waits → writes G ln s k ≡ s
  unfolding writes write_word
  writes-waits zero h = refl
  writes-waits (suc k) h = rw (lt-leb G.waits k h) (writes-waits k (omega arith))

  writes-words : ln.block * G.words + G.words ≤ length s → G.words ≤ length ln.words
      → (j : ℕ) → j ≤ G.words → writes G ln s (G.waits + j) ≡ paste s (ln.block * G.words) ln.words j
  unfolding writes write_word
  writes-words fits wide zero h =
      rw (add-zero G.waits) (writes-waits G.waits (omega arith)) ∙ paste-zero s (ln.block * G.words) ln.words
  writes-words fits wide (suc j) h =
      let at : G.waits + j - G.waits ≡ j = omega arith in
      rw (add-suc G.waits j, le-leb G.waits (G.waits + j) (omega arith), at, writes-words fits wide j (omega arith))
      (paste-suc s (ln.block * G.words) ln.words j 0 (omega arith) (omega arith))

pub write_is_copy : WriteIsCopy
unfolding burst copied
write_is_copy G ln s fits wide = writes-words G ln s fits wide G.words (omega arith)
    ∙ append_assoc (take (ln.block * G.words) s) (take G.words ln.words) (drop (ln.block * G.words + G.words) s)

-- refill

module _ (G : Geometry) (ca : Cache) (l : ℕ) (s : List ℕ) (b : ℕ) where
  fills-waits : (k : ℕ) → k ≤ G.waits → fills G ca l s b k ≡ ca
  unfolding fills fill_word
  fills-waits zero h = refl
  fills-waits (suc k) h = rw (lt-leb G.waits k h) (fills-waits k (omega arith))

  -- the words of the lines after j words of the refill
  moved : ℕ → List ℕ
  moved j = paste ca.words (l * G.words) (drop (b * G.words) s) j

  moved_none : ca.words ≡ moved 0
  unfolding moved
  moved_none = paste-zero ca.words (l * G.words) (drop (b * G.words) s)

  -- the cache with those words
  holding : List ℕ → Cache
  holding ws = cache ca.full ca.dirty ca.block ws

  module _ (wide : l * G.words + G.words ≤ length ca.words) (fits : b * G.words + G.words ≤ length s) where
    block-length : G.words ≤ length (drop (b * G.words) s)
    block-length = rw (length-drop (b * G.words) s) (omega arith)

    moved_more : (j : ℕ) → j < G.words → set (moved j) (l * G.words + j) (get_or s (b * G.words + j) 0) ≡ moved (suc j)
    unfolding moved
    moved_more j h = rw (← get_or-drop (b * G.words) s j 0)
        (paste-suc ca.words (l * G.words) (drop (b * G.words) s) j 0 (omega arith) (le_trans h block-length))

    fills-words : (j : ℕ) → j ≤ G.words → fills G ca l s b (G.waits + j) ≡ holding (moved j)
    unfolding fills fill_word holding
    fills-words zero h = rw (add-zero G.waits) (fills-waits G.waits (omega arith)) ∙ ap holding moved_none
    fills-words (suc j) h =
        let at : G.waits + j - G.waits ≡ j = omega arith in
        rw (add-suc G.waits j, le-leb G.waits (G.waits + j) (omega arith), at, fills-words j (omega arith))
        (ap holding (moved_more j (omega arith)))

    moved_here : take G.words (drop (l * G.words) (moved G.words)) ≡ take G.words (drop (b * G.words) s)
    unfolding moved
    moved_here =
        let before : List ℕ = take (l * G.words) ca.words in
        let block : List ℕ = take G.words (drop (b * G.words) s) in
        let after : List ℕ = drop (l * G.words + G.words) ca.words in
        ap (λ (t : List ℕ). take G.words (drop (l * G.words) t)) (append_assoc before block after)
        ∙ ap (take G.words) (drop_at before (block ++ after) (l * G.words) (length-take-le (l * G.words) ca.words (omega arith)))
        ∙ take_at block after G.words (length-take-le G.words (drop (b * G.words) s) block-length)

    moved-there : (j : ℕ) → j ≤ G.words → (k : ℕ) → k ≢ l
        → take G.words (drop (k * G.words) (moved j)) ≡ take G.words (drop (k * G.words) ca.words)
    moved-there zero h k n = ap (λ (t : List ℕ). take G.words (drop (k * G.words) t)) (sym moved_none)
    moved-there (suc j) h k n =
        ap (λ (t : List ℕ). take G.words (drop (k * G.words) t)) (sym (moved_more j (omega arith)))
        ∙ words-there G.words (moved j) l j (get_or s (b * G.words + j) 0) k (omega arith) n
        ∙ moved-there j (omega arith) k n

  Kept : Cache → Type 0
  Kept ca' = (ca'.full ≡ ca.full) × (ca'.dirty ≡ ca.dirty) × (ca'.block ≡ ca.block)

  kept : (k : ℕ) → Kept (fills G ca l s b k)
  unfolding fills fill_word Kept
  kept zero = (refl, refl, refl)
  kept (suc k) = go (leb G.waits k) (kept k)
    where
      old : Cache
      old = fills G ca l s b k

      go : (t : Bool) → Kept old
          → Kept (cond t (with_word G old l (k - G.waits) (get_or s (b * G.words + (k - G.waits)) 0)) old)
      go true h = h
      go false h = h

-- line l is within the array of words
inside : (G : Geometry) (n l : ℕ) → l < G.lines → G.lines * G.words ≤ n → l * G.words + G.words ≤ n
inside G n l h wide = let z : suc l * G.words ≤ G.lines * G.words = mul-le-mul_right G.words h in omega (arith, suc-mul l G.words)

pub fill_is_copy : FillIsCopy
unfolding burst line_at block_words holding
fill_is_copy G ca l s b h wide fits = let w = inside G (length ca.words) l h wide in
    rw (fills-words G ca l s b w fits G.words (omega arith)) (moved_here G ca l s b w fits)

pub fill_other_lines : FillOtherLines
unfolding burst line_at holding
fill_other_lines G ca l s b h wide fits k n = let w = inside G (length ca.words) l h wide in
    rw (fills-words G ca l s b w fits G.words (omega arith), moved-there G ca l s b w fits G.words (omega arith) k n)

pub fill_marks : FillMarks
unfolding Kept
fill_marks G ca l s b = kept G ca l s b (burst G)
