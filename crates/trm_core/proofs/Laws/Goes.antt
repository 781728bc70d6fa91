-- The clocks that do not execute the word, by what they do to the cache: one law for each.
-- `Goes` says what such a clock leaves, that this is valid, and that one clock fewer is left.
--   write_goes, clear-goes   a write-back        fill-goes   a refill        miss-goes   the tag-check clock        stays   others
use Prim.Native.Nat.{ℕ, suc, ◌+◌, ◌-◌, ◌*◌, ◌≤◌, ◌<◌}
use mathlib.Core.Path.{◌≡◌, refl, ap, ◌∙◌}
use mathlib.Core.Logic.{◌≢◌}
use mathlib.Core.Bool.{Bool, true, false, cond}
use mathlib.Core.List.{List}
use lib.ListN.{length}
use lib.Dec.{eqb}
use borrow.Author.Tests.{eqb-true, eqb-false}
use native.Mathlib.Omega.{arith}
use native.Mathlib.Decide.{ℕ_discrete}
use Rattle.trm_laws.proofs.Tests.{bool_clash, clash, chosen_by}
use Rattle.trm_reference.specs.Geometry.{Geometry, burst}
use Rattle.trm_reference.specs.Visible.{Visible, cache_on}
use Rattle.trm_reference.specs.Access.{target_block, target_line}
use Rattle.trm_reference.specs.Charge.{miss_charge}
use Rattle.trm_core.specs.declared.record.Running.{Running}
use Rattle.trm_core.specs.declared.record.Scalars.{Scalars}
use Rattle.trm_cache.specs.Cache.{Line, line_at, emptied, cleaned, filled, write_word, fill_word, count_dirty, first_dirty}
use Rattle.trm_cache.specs.declared.record.Cache.{Cache}
use Rattle.trm_core.specs.Record.{in_phase}
use Rattle.trm_core.specs.Clock.{Moved, moved, line_for, hits, written, writing, filling, missing}
use Rattle.trm_core.specs.Claims.{left_of}
use Rattle.trm_core.proofs.Laws.Fit.{Fit, block_in, line_in_lem}
use Rattle.trm_core.proofs.Laws.Kind.{cached, clearing, kind_of, is-of}
use Rattle.trm_cache.proofs.Laws.Lines.{empty_line, clean_line, full_line, fill_line, Wide, Becomes, becomes_same, becomes_empty}
use Rattle.trm_cache.proofs.Laws.Lines.{becomes_clean, becomes_full, becomes_fill, becomes_then}
use Rattle.trm_cache.proofs.Laws.Cache.{holds-yes}
use Rattle.trm_cache.proofs.Laws.Bursts.{write-length, fill-full, fill-dirty, fill-block}
use Rattle.trm_cache.proofs.Laws.Dirty.{first-dirty, clean-one}
use Rattle.trm_core.proofs.Laws.Rule.{LineFits, Phase, write_back, clearing_off, refill, due, Registers}
use Rattle.trm_core.proofs.Laws.Phases.{times-pos, idle, due_clearing, due-cached, left_2_cached, left_2_clearing, left_3, left_5}

-- every line fits
abbrev pub Lines : Geometry → ℕ → Visible → Cache → Type 0
Lines G n v ca = (l : ℕ) → l < G.lines → LineFits G (cache_on v) n l (line_at G ca l)

pub lines-update : (G : Geometry) (n : ℕ) (v : Visible) (ca : Cache) (l : ℕ) (ln : Line) (ca' : Cache) → Becomes G ca l ln ca'
    → Lines G n v ca → LineFits G (cache_on v) n l ln → Lines G n v ca'
lines-update G n v ca l ln ca' bc ls ok k h = go (ℕ_discrete k l)
  where
    go : Dec (k ≡ l) → LineFits G (cache_on v) n k (line_at G ca' k)
    go (yes e) = rw (e, bc.here) ok
    go (no z) = rw (bc.there k z) (ls k h)

pub empty-fits : (G : Geometry) (on : Bool) (n l : ℕ) (ln : Line) → LineFits G on n l (empty_line ln)
empty-fits G on n l ln = record {
  home = λ q. clash q;
  inside = λ q. clash q;
  shown = λ q. clash q;
  empty_clean = λ _. refl;
  empty_zero = λ _. refl;
}

-- a clock that does not execute the word: its result, valid, with one clock fewer left than `old`
pub record Goes (G : Geometry) (w n : ℕ) (v : Visible) (c : Scalars) (old : ℕ) (t : Moved) : Type 0 where
  pub running : Running
  pub cache : Cache
  pub store : List ℕ
  pub refilled : ℕ
  pub written : ℕ
  pub is : t ≡ moved c running cache store refilled written
  pub once : refilled + written ≤ 1
  pub long : length store ≡ n
  pub wide : Wide G cache
  pub lines : Lines G n v cache
  pub phase : Phase G w n (kind_of w v n) running v cache
  pub registers : Registers w running v
  pub lower : left_of G w n running v cache + 1 ≡ old

module _ (G : Geometry) (w n : ℕ) (v : Visible) (ok : Fit G n) (c : Scalars) (ca : Cache) (s : List ℕ) (wd : Wide G ca)
    (ls : Lines G n v ca) (len : length s ≡ n) where
  -- another phase, with cache and store unchanged
  pub stays : (old : ℕ) (r : Running) → Phase G w n (kind_of w v n) r v ca → Registers w r v → left_of G w n r v ca + 1 ≡ old
      → Goes G w n v c old (moved c r ca s 0 0)
  stays old r ph rg lo = record {
    running = r;
    cache = ca;
    store = s;
    refilled = 0;
    written = 0;
    is = refl;
    once = omega arith;
    long = len;
    wide = wd;
    lines = ls;
    phase = ph;
    registers = rg;
    lower = lo;
  }

  -- one line changes
  changes : (old : ℕ) (r : Running) (l : ℕ) (ln : Line) (ca' : Cache) (s' : List ℕ) (a b : ℕ) → a + b ≤ 1 → length s' ≡ n
      → Becomes G ca l ln ca' → LineFits G (cache_on v) n l ln → Phase G w n (kind_of w v n) r v ca' → Registers w r v
      → left_of G w n r v ca' + 1 ≡ old → Goes G w n v c old (moved c r ca' s' a b)
  changes old r l ln ca' s' a b h le bc fits ph rg lo = record {
    running = r;
    cache = ca';
    store = s';
    refilled = a;
    written = b;
    is = refl;
    once = h;
    long = le;
    wide = bc.wide;
    lines = lines-update G n v ca l ln ca' bc ls fits;
    phase = ph;
    registers = rg;
    lower = lo;
  }

  line-at : target_line G w v n < G.lines
  line-at = line_in_lem G w v n ok.lpos

  -- phase 2 of an access
  pub write_goes : (k old : ℕ) → kind_of w v n ≡ cached → k < burst G → hits G w n v ca ≡ false → (line_for G w n v ca).dirty ≡ true
      → 1 + (burst G + burst G - k) ≡ old → Goes G w n v c old (writing G false (target_line G w v n) k c ca s)
  unfolding writing written line_for
  write_goes k old kq hk hold d eq = chosen_by (Goes G w n v c old) (eqb (k + 1) (burst G))
      (λ q. changes old (in_phase 3 0) l (empty_line (line_at G (cleaned ca l) l)) (emptied (cleaned ca l) l) s' 0 1 (omega arith) le
      (becomes_then G ca (cleaned ca l) (emptied (cleaned ca l) l) l _ _ clean empty)
      (empty-fits G (cache_on v) n l (line_at G (cleaned ca l) l)) (refill kq refl ok.tpos (rw empty.here)) (idle w v 3 0 refl)
      (rw (left_3 G w n v (emptied (cleaned ca l) l) (in_phase 3 0) refl) (omega (arith, eqb-true (k + 1) (burst G) q))))
      (λ q. changes old (in_phase 2 (k + 1)) l (line_at G ca l) ca s' 0 0 (omega arith) le
      (becomes_same G ca l wd line-at) (ls l line-at) (write_back kq refl (omega (arith, eqb-false (k + 1) (burst G) q)) hold d)
      (idle w v 2 (k + 1) refl)
      (rw (left_2_cached G w n v ca (in_phase 2 (k + 1)) refl kq) (omega (arith, eqb-false (k + 1) (burst G) q))))
    where
      l : ℕ
      l = target_line G w v n

      s' : List ℕ
      s' = write_word G (line_at G ca l) s k

      le : length s' ≡ n
      le = write-length G ok.wpos (line_at G ca l) s k ∙ len

      clean : Becomes G ca l (clean_line (line_at G ca l)) (cleaned ca l)
      clean = becomes_clean G ca l wd line-at

      empty : Becomes G (cleaned ca l) l (empty_line (line_at G (cleaned ca l) l)) (emptied (cleaned ca l) l)
      empty = becomes_empty G (cleaned ca l) l clean.wide line-at

  -- the write-backs when the cache is turned off
  pub clear-goes : (k old : ℕ) → kind_of w v n ≡ clearing → k < burst G → count_dirty G ca ≢ 0
      → 1 + (burst G * count_dirty G ca - k) ≡ old → Goes G w n v c old (writing G true (first_dirty G ca) k c ca s)
  unfolding writing written
  clear-goes k old kq hk some eq = chosen_by (Goes G w n v c old) (eqb (k + 1) (burst G))
      (λ q. over (eqb-true (k + 1) (burst G) q) (eqb (count_dirty G ca') 0) refl)
      (λ q. changes old (in_phase 2 (k + 1)) l (line_at G ca l) ca s' 0 0 (omega arith) le
      (becomes_same G ca l wd lin) (ls l lin) (clearing_off kq refl (omega (arith, eqb-false (k + 1) (burst G) q)) some)
      (idle w v 2 (k + 1) refl) (rw (left_2_clearing G w n v ca (in_phase 2 (k + 1)) refl kq)
      (omega (arith, eqb-false (k + 1) (burst G) q, times-pos (burst G) (count_dirty G ca) some))))
    where
      l : ℕ
      l = first_dirty G ca

      lin : l < G.lines
      lin = (first-dirty G ca some).0

      s' : List ℕ
      s' = write_word G (line_at G ca l) s k

      le : length s' ≡ n
      le = write-length G ok.wpos (line_at G ca l) s k ∙ len

      ca' : Cache
      ca' = cleaned ca l

      clean : Becomes G ca l (clean_line (line_at G ca l)) ca'
      clean = becomes_clean G ca l wd lin

      fewer : count_dirty G ca ≡ suc (count_dirty G ca')
      fewer = clean-one G ca l (clean_line (line_at G ca l)) ca' clean lin (first-dirty G ca some).1 refl

      rest : burst G * count_dirty G ca ≡ burst G * count_dirty G ca' + burst G
      rest = rw fewer (omega arith)

      fits : LineFits G (cache_on v) n l (clean_line (line_at G ca l))
      fits = let o = ls l lin in
          record { home = o.home; inside = o.inside; shown = o.shown; empty_clean = λ _. refl; empty_zero = o.empty_zero }

      over : k + 1 ≡ burst G → (t : Bool) → eqb (count_dirty G ca') 0 ≡ t
          → Goes G w n v c old (moved c (cond t (in_phase 5 0) (in_phase 2 0)) ca' s' 0 1)
      over q true z = changes old (in_phase 5 0) l (clean_line (line_at G ca l)) ca' s' 0 1 (omega arith) le clean fits
          (due refl refl (due_clearing G w n v ca' kq (eqb-true (count_dirty G ca') 0 z))) (idle w v 5 0 refl)
          (rw (left_5 G w n v ca' (in_phase 5 0) refl) (omega (arith, rest, ap (λ x. burst G * x) (eqb-true (count_dirty G ca') 0 z))))
      over q false z = changes old (in_phase 2 0) l (clean_line (line_at G ca l)) ca' s' 0 1 (omega arith) le clean fits
          (clearing_off kq refl ok.tpos (eqb-false (count_dirty G ca') 0 z)) (idle w v 2 0 refl)
          (rw (left_2_clearing G w n v ca' (in_phase 2 0) refl kq) (omega (arith, rest)))

  -- phase 3
  pub fill-goes : (k old : ℕ) → kind_of w v n ≡ cached → k < burst G → (line_for G w n v ca).full ≡ false → 1 + (burst G - k) ≡ old
      → Goes G w n v c old (filling G (target_block G w v n) (target_line G w v n) k c ca s)
  unfolding filling line_for hits
  fill-goes k old kq hk empty eq = chosen_by (Goes G w n v c old) (eqb (k + 1) (burst G))
      (λ q. changes old (in_phase 5 0) l (full_line (line_at G part l) b) (filled part l b) s 1 0 (omega arith) len
      (becomes_then G ca part (filled part l b) l _ _ fill full)
      (record {
        home = λ _. unfold target_line in refl;
        inside = λ _. block_in G w v n ok;
        shown = λ _. (is-of w v n cached kq).on;
        empty_clean = λ _. refl;
        empty_zero = λ f. bool_clash true refl f;
      })
      (due refl refl (due-cached G w n v (filled part l b) kq
      (rw full.here (holds-yes (full_line (line_at G part l) b) b refl refl)))) (idle w v 5 0 refl)
      (rw (left_5 G w n v (filled part l b) (in_phase 5 0) refl) (omega (arith, eqb-true (k + 1) (burst G) q))))
      (λ q. changes old (in_phase 3 (k + 1)) l (fill_line G ln s b k) part s 0 0 (omega arith) len fill
      (record {
        home = λ f. bool_clash _ f still;
        inside = λ f. bool_clash _ f still;
        shown = λ f. bool_clash _ f still;
        empty_clean = λ _. fill-dirty G ok.wpos ln s b k ∙ (ls l line-at).empty_clean empty;
        empty_zero = λ _. fill-block G ok.wpos ln s b k ∙ (ls l line-at).empty_zero empty;
      })
      (refill kq refl (omega (arith, eqb-false (k + 1) (burst G) q)) (rw fill.here still)) (idle w v 3 (k + 1) refl)
      (rw (left_3 G w n v part (in_phase 3 (k + 1)) refl) (omega (arith, eqb-false (k + 1) (burst G) q))))
    where
      l : ℕ
      l = target_line G w v n

      b : ℕ
      b = target_block G w v n

      ln : Line
      ln = line_at G ca l

      part : Cache
      part = fill_word G ca l s b k

      fill : Becomes G ca l (fill_line G ln s b k) part
      fill = becomes_fill G ca l wd line-at s b k hk (omega arith)

      full : Becomes G part l (full_line (line_at G part l) b) (filled part l b)
      full = becomes_full G part l fill.wide line-at b

      still : (fill_line G ln s b k).full ≡ false
      still = fill-full G ok.wpos ln s b k ∙ empty

  -- the tag-check clock of a miss
  pub miss-goes : (old : ℕ) → kind_of w v n ≡ cached → hits G w n v ca ≡ false → miss_charge G (line_for G w n v ca).dirty ≡ old
      → Goes G w n v c old (missing G (target_line G w v n) c ca s)
  unfolding missing line_for miss_charge
  miss-goes old kq hold eq = chosen_by (Goes G w n v c old) (line_at G ca l).dirty
      (λ d. stays old (in_phase 2 0) (write_back kq refl ok.tpos hold d) (idle w v 2 0 refl)
      (rw (left_2_cached G w n v ca (in_phase 2 0) refl kq) (omega (arith, charge true d))))
      (λ d. changes old (in_phase 3 0) l (empty_line (line_at G ca l)) (emptied ca l) s 0 0 (omega arith) len empty
      (empty-fits G (cache_on v) n l (line_at G ca l)) (refill kq refl ok.tpos (rw empty.here)) (idle w v 3 0 refl)
      (rw (left_3 G w n v (emptied ca l) (in_phase 3 0) refl) (omega (arith, charge false d))))
    where
      l : ℕ
      l = target_line G w v n

      empty : Becomes G ca l (empty_line (line_at G ca l)) (emptied ca l)
      empty = becomes_empty G ca l wd line-at

      charge : (t : Bool) → (line_at G ca l).dirty ≡ t → 2 + burst G + cond t (burst G) 0 ≡ old
      charge t d = rw d at eq
