-- Read over write: each line after each setter of the cache arrays.
-- `Becomes G ca l ln ca'` says that line l becomes ln and no other line changes; there is one such law for each setter.
use Prim.Native.Nat.{ℕ, suc, ◌+◌, ◌-◌, ◌*◌, ◌≤◌, ◌<◌}
use mathlib.Core.Path.{◌≡◌, refl, sym, ap, subst, ◌∙◌}
use mathlib.Core.Logic.{◌≢◌}
use mathlib.Core.Bool.{Bool, true, false, cond}
use mathlib.Core.List.{List}
use lib.ListN.{length, get_or, set, take, drop, length-set}
use lib.Seq.{get_or-set_same, get_or-set_other, drop-set-add, drop-set-lt, take-set-lt, take-set-le}
use lib.Dec.{leb}
use borrow.Author.Tests.{leb-true, leb-false}
use native.Mathlib.Omega.{arith}
use native.Mathlib.Decide.{ℕ_discrete}
use native.Mathlib.Nat.{mul-le-mul_right, suc-mul, le_trans}
use Rattle.trm_reference.specs.Geometry.{Geometry, burst}
use Rattle.trm_cache.specs.Cache.{Line, stride, line_at, emptied, cleaned, filled, with_word, stored_to, fill_word}
use Rattle.trm_cache.specs.declared.record.Cache.{Cache}

-- a line after each setter
abbrev pub empty_line : Line → Line
empty_line ln = record { full = false; dirty = false; block = 0; words = ln.words }

abbrev pub clean_line : Line → Line
clean_line ln = record { full = ln.full; dirty = false; block = ln.block; words = ln.words }

abbrev pub full_line : Line → ℕ → Line
full_line ln b = record { full = true; dirty = false; block = b; words = ln.words }

abbrev pub line_with : Line → ℕ → ℕ → Line
line_with ln i x = record { full = ln.full; dirty = ln.dirty; block = ln.block; words = set ln.words i x }

abbrev pub store_line : Line → ℕ → ℕ → Line
store_line ln i x = record { full = ln.full; dirty = true; block = ln.block; words = set ln.words i x }

unfoldable pub fill_line : Geometry → Line → List ℕ → ℕ → ℕ → Line
fill_line G ln s b c = cond (leb G.waits c) (line_with ln (c - G.waits) (get_or s (b * G.words + (c - G.waits)) 0)) ln

-- the arrays are long enough for all lines, and full and dirty are 0 or 1
pub record Wide (G : Geometry) (ca : Cache) : Type 0 where
  pub full : G.lines ≤ length ca.full
  pub dirty : G.lines ≤ length ca.dirty
  pub block : G.lines ≤ length ca.block
  pub words : G.lines * stride G ≤ length ca.words
  pub full_mark : (k : ℕ) → k < G.lines → get_or ca.full k 0 < 2
  pub dirty_mark : (k : ℕ) → k < G.lines → get_or ca.dirty k 0 < 2

-- line l becomes ln, and no other line changes
pub record Becomes (G : Geometry) (ca : Cache) (l : ℕ) (ln : Line) (ca' : Cache) : Type 0 where
  pub wide : Wide G ca'
  pub here : line_at G ca' l ≡ ln
  pub there : (k : ℕ) → k ≢ l → line_at G ca' k ≡ line_at G ca k

-- an array of marks stays 0 or 1 when one is set to 0 or 1
mark_set : (xs : List ℕ) (l k x : ℕ) → l < length xs → x < 2 → get_or xs k 0 < 2 → get_or (set xs l x) k 0 < 2
mark_set xs l k x h hx hk = go (ℕ_discrete k l)
  where
    go : Dec (k ≡ l) → get_or (set xs l x) k 0 < 2
    go (yes e) = rw (e, get_or-set_same xs l x 0 h) hx
    go (no n) = rw (get_or-set_other xs l k x 0 n) hk

module _ (st : ℕ) (ws : List ℕ) where
  -- the words of line l after one of them is set
  words-here : (l i x : ℕ) → i < st → take st (drop (l * st) (set ws (l * st + i) x)) ≡ set (take st (drop (l * st) ws)) i x
  words-here l i x h = ap (take st) (drop-set-add (l * st) ws i x) ∙ take-set-lt st (drop (l * st) ws) i x h

  pub words-there : (l i x k : ℕ) → i < st → k ≢ l → take st (drop (k * st) (set ws (l * st + i) x)) ≡ take st (drop (k * st) ws)
  words-there l i x k h n = go (leb k l) refl
    where
      go : (t : Bool) → leb k l ≡ t → take st (drop (k * st) (set ws (l * st + i) x)) ≡ take st (drop (k * st) ws)
      go true e =
          let low : suc k ≤ l = (let z = leb-true k l e in omega arith) in
          let times : suc k * st ≤ l * st = mul-le-mul_right st low in
          let far : k * st + st ≤ l * st = omega (arith, suc-mul k st) in
          let at : l * st + i ≡ k * st + (l * st + i - k * st) = omega arith in
          rw at (ap (take st) (drop-set-add (k * st) ws (l * st + i - k * st) x)
          ∙ take-set-le st (drop (k * st) ws) (l * st + i - k * st) x (omega arith))
      go false e =
          let high : suc l ≤ k = leb-false k l e in
          let times : suc l * st ≤ k * st = mul-le-mul_right st high in
          ap (take st) (drop-set-lt (k * st) ws (l * st + i) x (omega (arith, suc-mul l st)))

module _ (G : Geometry) (ca : Cache) (l : ℕ) (wd : Wide G ca) (lin : l < G.lines) where
  pub becomes_same : Becomes G ca l (line_at G ca l) ca
  becomes_same = record { wide = wd; here = refl; there = λ k n. refl }

  pub becomes_empty : Becomes G ca l (empty_line (line_at G ca l)) (emptied ca l)
  unfolding line_at
  becomes_empty = record {
    wide = record {
      full = rw (length-set ca.full l 0) wd.full;
      dirty = rw (length-set ca.dirty l 0) wd.dirty;
      block = rw (length-set ca.block l 0) wd.block;
      words = wd.words;
      full_mark = λ k h. mark_set ca.full l k 0 (le_trans lin wd.full) (omega arith) (wd.full_mark k h);
      dirty_mark = λ k h. mark_set ca.dirty l k 0 (le_trans lin wd.dirty) (omega arith) (wd.dirty_mark k h);
    };
    here = rw (
      get_or-set_same ca.full l 0 0 (le_trans lin wd.full),
      get_or-set_same ca.dirty l 0 0 (le_trans lin wd.dirty),
      get_or-set_same ca.block l 0 0 (le_trans lin wd.block),
    );
    there = λ k n. rw (get_or-set_other ca.full l k 0 0 n, get_or-set_other ca.dirty l k 0 0 n, get_or-set_other ca.block l k 0 0 n);
  }

  pub becomes_clean : Becomes G ca l (clean_line (line_at G ca l)) (cleaned ca l)
  unfolding line_at
  becomes_clean = record {
    wide = record {
      full = wd.full;
      dirty = rw (length-set ca.dirty l 0) wd.dirty;
      block = wd.block;
      words = wd.words;
      full_mark = wd.full_mark;
      dirty_mark = λ k h. mark_set ca.dirty l k 0 (le_trans lin wd.dirty) (omega arith) (wd.dirty_mark k h);
    };
    here = rw (get_or-set_same ca.dirty l 0 0 (le_trans lin wd.dirty));
    there = λ k n. rw (get_or-set_other ca.dirty l k 0 0 n);
  }

  pub becomes_full : (b : ℕ) → Becomes G ca l (full_line (line_at G ca l) b) (filled ca l b)
  unfolding line_at
  becomes_full b = record {
    wide = record {
      full = rw (length-set ca.full l 1) wd.full;
      dirty = rw (length-set ca.dirty l 0) wd.dirty;
      block = rw (length-set ca.block l b) wd.block;
      words = wd.words;
      full_mark = λ k h. mark_set ca.full l k 1 (le_trans lin wd.full) (omega arith) (wd.full_mark k h);
      dirty_mark = λ k h. mark_set ca.dirty l k 0 (le_trans lin wd.dirty) (omega arith) (wd.dirty_mark k h);
    };
    here = rw (
      get_or-set_same ca.full l 1 0 (le_trans lin wd.full),
      get_or-set_same ca.dirty l 0 0 (le_trans lin wd.dirty),
      get_or-set_same ca.block l b 0 (le_trans lin wd.block),
    );
    there = λ k n. rw (get_or-set_other ca.full l k 1 0 n, get_or-set_other ca.dirty l k 0 0 n, get_or-set_other ca.block l k b 0 n);
  }

  pub becomes_with : (i x : ℕ) → i < stride G → Becomes G ca l (line_with (line_at G ca l) i x) (with_word G ca l i x)
  unfolding line_at
  becomes_with i x h = record {
    wide = record {
      full = wd.full;
      dirty = wd.dirty;
      block = wd.block;
      words = rw (length-set ca.words (l * stride G + i) x) wd.words;
      full_mark = wd.full_mark;
      dirty_mark = wd.dirty_mark;
    };
    here = rw (words-here (stride G) ca.words l i x h);
    there = λ k n. rw (words-there (stride G) ca.words l i x k h n);
  }

  pub becomes_stored : (i x : ℕ) → i < stride G → Becomes G ca l (store_line (line_at G ca l) i x) (stored_to G ca l i x)
  unfolding line_at
  becomes_stored i x h = record {
    wide = record {
      full = wd.full;
      dirty = subst (λ (n : ℕ). G.lines ≤ n) (sym (length-set ca.dirty l 1)) wd.dirty;
      block = wd.block;
      words = rw (length-set ca.words (l * stride G + i) x) wd.words;
      full_mark = wd.full_mark;
      dirty_mark = λ k g. mark_set ca.dirty l k 1 (le_trans lin wd.dirty) (omega arith) (wd.dirty_mark k g);
    };
    here = rw (get_or-set_same ca.dirty l 1 0 (le_trans lin wd.dirty), words-here (stride G) ca.words l i x h);
    there = λ k n. rw (get_or-set_other ca.dirty l k 1 0 n, words-there (stride G) ca.words l i x k h n);
  }

  pub becomes_fill : (s : List ℕ) (b c : ℕ) → c < burst G → G.words ≤ stride G
      → Becomes G ca l (fill_line G (line_at G ca l) s b c) (fill_word G ca l s b c)
  unfolding fill_line fill_word burst
  becomes_fill s b c h g = go (leb G.waits c) refl
    where
      x : ℕ
      x = get_or s (b * G.words + (c - G.waits)) 0

      go : (t : Bool) → leb G.waits c ≡ t
          → Becomes G ca l (cond t (line_with (line_at G ca l) (c - G.waits) x) (line_at G ca l))
          (cond t (with_word G ca l (c - G.waits) x) ca)
      go true e = becomes_with (c - G.waits) x (omega (arith, leb-true G.waits c e))
      go false e = becomes_same

-- two changes of the same line
pub becomes_then : (G : Geometry) (ca ca' ca'' : Cache) (l : ℕ) (x y : Line) → Becomes G ca l x ca' → Becomes G ca' l y ca''
    → Becomes G ca l y ca''
becomes_then G ca ca' ca'' l x y a b = record { wide = b.wide; here = b.here; there = λ k n. b.there k n ∙ a.there k n }
