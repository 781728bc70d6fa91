-- Laws about the clocks of a burst: what a write-back writes to the store and a refill to the line, word by word.
-- `Written` and `Filled` state the progress of a burst; each of its clocks advances them by one.
use Prim.Native.Nat.{ℕ, ◌+◌, ◌-◌, ◌*◌, ◌%◌, ◌≤◌, ◌<◌}
use mathlib.Core.Path.{◌≡◌, refl, sym, ap, ◌∙◌}
use mathlib.Core.Logic.{◌≢◌}
use mathlib.Core.Bool.{Bool, true, false, cond}
use mathlib.Core.List.{List}
use lib.ListN.{length, get_or, set, length-set}
use lib.Seq.{get_or-set_same, get_or-set_other}
use lib.Dec.{leb}
use borrow.Author.Tests.{leb-true, leb-false}
use native.Mathlib.Omega.{arith}
use native.Mathlib.Decide.{ℕ_discrete}
use Rattle.trm_laws.proofs.Tests.{bool_clash}
use Rattle.trm_reference.specs.Geometry.{Geometry, burst, block_of, line_of}
use Rattle.trm_cache.specs.Cache.{Line, line_at, holds, line_view, view, write_word}
use Rattle.trm_cache.specs.declared.record.Cache.{Cache}
use Rattle.trm_cache.proofs.Laws.Lines.{clean_line, full_line, line_with, fill_line, Becomes}
use Rattle.trm_cache.proofs.Laws.Cache.{LineOk, Sane, holds-yes, block_at, view-update}

-- the words of the line that the first c clocks of its burst write are in the store
unfoldable pub Written : Geometry → Line → List ℕ → ℕ → Type 0
Written G ln s c = (i : ℕ) → i + G.waits < c → get_or s (ln.block * G.words + i) 0 ≡ get_or ln.words i 0

-- the words of block b that the first c clocks of its burst write are in the line
unfoldable pub Filled : Geometry → Line → List ℕ → ℕ → ℕ → Type 0
Filled G ln s b c = (i : ℕ) → i + G.waits < c → get_or s (b * G.words + i) 0 ≡ get_or ln.words i 0

module _ (G : Geometry) (wpos : 0 < G.words) where
  -- write-back

  pub write-length : (ln : Line) (s : List ℕ) (c : ℕ) → length (write_word G ln s c) ≡ length s
  unfolding write_word
  write-length ln s c = go (leb G.waits c)
    where
      go : (b : Bool) → length (cond b (set s (ln.block * G.words + (c - G.waits)) (get_or ln.words (c - G.waits) 0)) s) ≡ length s
      go true = length-set s _ _
      go false = refl

  pub write-other : (ln : Line) (s : List ℕ) (c a : ℕ) → c < burst G → block_of G a ≢ ln.block
      → get_or (write_word G ln s c) a 0 ≡ get_or s a 0
  unfolding write_word burst
  write-other ln s c a h n = go (leb G.waits c) refl
    where
      go : (b : Bool) → leb G.waits c ≡ b
          → get_or (cond b (set s (ln.block * G.words + (c - G.waits)) (get_or ln.words (c - G.waits) 0)) s) a 0 ≡ get_or s a 0
      go true e = get_or-set_other s _ a _ 0
          (λ q. n (rw q (block_at G wpos ln.block (c - G.waits) (omega (arith, leb-true G.waits c e)))))
      go false e = refl

  pub written-more : (ln : Line) (s : List ℕ) (c : ℕ) → c < burst G → ln.block * G.words + G.words ≤ length s → Written G ln s c
      → Written G ln (write_word G ln s c) (c + 1)
  unfolding write_word Written burst
  written-more ln s c h fits w i hi = go (leb G.waits c) refl
    where
      go : (b : Bool) → leb G.waits c ≡ b
          → get_or (cond b (set s (ln.block * G.words + (c - G.waits)) (get_or ln.words (c - G.waits) 0)) s)
          (ln.block * G.words + i) 0 ≡ get_or ln.words i 0
      go true e = choose (ℕ_discrete i (c - G.waits))
        where
          choose : Dec (i ≡ c - G.waits)
              → get_or (set s (ln.block * G.words + (c - G.waits)) (get_or ln.words (c - G.waits) 0))
              (ln.block * G.words + i) 0 ≡ get_or ln.words i 0
          choose (yes q) = rw q (get_or-set_same s _ _ 0 (omega (arith, leb-true G.waits c e)))
          choose (no n) = get_or-set_other s _ _ _ 0 (omega arith) ∙ w i (omega (arith, leb-true G.waits c e))
      go false e = w i (omega (arith, leb-false G.waits c e))

  pub write_view : (ls : Cache) (s : List ℕ) (c l : ℕ) (ln : Line) (ls' : Cache) → Becomes G ls l ln ls' → c < burst G → l < G.lines
      → Sane G ls s → (line_at G ls l).full ≡ true
      → ln.full ≡ true → ln.block ≡ (line_at G ls l).block → ln.words ≡ (line_at G ls l).words
      → (a : ℕ) → view G ls' (write_word G (line_at G ls l) s c) a ≡ view G ls s a
  unfolding line_view
  write_view ls s c l ln ls' bc h g sn f f' b' w' = view-update G wpos ls s l ln ls' (write_word G (line_at G ls l) s c) bc here there
    where
      there : (a : ℕ) → line_of G (block_of G a) ≢ l → get_or (write_word G (line_at G ls l) s c) a 0 ≡ get_or s a 0
      there a n = write-other (line_at G ls l) s c a h (λ e. n (ap (line_of G) e ∙ (sn.each l g).home f))

      same : (b : ℕ) → holds ln b ≡ holds (line_at G ls l) b
      same b = unfold holds in rw (f, f', b')

      here : (a : ℕ) → line_of G (block_of G a) ≡ l → line_view G ln (write_word G (line_at G ls l) s c) a
          ≡ line_view G (line_at G ls l) s a
      here a e = rw (same (block_of G a), w') (go (holds (line_at G ls l) (block_of G a)) refl)
        where
          go : (b : Bool) → holds (line_at G ls l) (block_of G a) ≡ b
              → cond b (get_or (line_at G ls l).words (a % G.words) 0) (get_or (write_word G (line_at G ls l) s c) a 0) ≡ cond b
              (get_or (line_at G ls l).words (a % G.words) 0) (get_or s a 0)
          go true q = refl
          go false q = write-other (line_at G ls l) s c a h
              (λ z. bool_clash (holds (line_at G ls l) (block_of G a)) (holds-yes (line_at G ls l) (block_of G a) f (sym z)) q)

  -- the line after its last write-back clock
  pub written-ok : (s s' : List ℕ) (l : ℕ) (ln : Line) → length s' ≡ length s → ln.full ≡ true → LineOk G s l ln
      → Written G ln s' (burst G) → LineOk G s' l (clean_line ln)
  unfolding Written burst
  written-ok s s' l ln len f ok w =
      record {
        wide = ok.wide;
        home = ok.home;
        inside = λ q. rw len (ok.inside q);
        empty_clean = λ q. refl;
        empty_zero = ok.empty_zero;
        agrees = λ q d i hi. w i (omega arith);
      }

  -- a dirty line while it is written back
  pub writing-ok : (s s' : List ℕ) (l : ℕ) (ln : Line) → length s' ≡ length s → ln.dirty ≡ true → LineOk G s l ln → LineOk G s' l ln
  writing-ok s s' l ln len d ok =
      record {
        wide = ok.wide;
        home = ok.home;
        inside = λ q. rw len (ok.inside q);
        empty_clean = ok.empty_clean;
        empty_zero = ok.empty_zero;
        agrees = λ q e i hi. bool_clash ln.dirty d e;
      }

  -- refill

  pub fill-full : (ln : Line) (s : List ℕ) (b c : ℕ) → (fill_line G ln s b c).full ≡ ln.full
  unfolding fill_line
  fill-full ln s b c = elim (leb G.waits c) as
      (λ t. (cond t (line_with ln (c - G.waits) (get_or s (b * G.words + (c - G.waits)) 0)) ln).full ≡ ln.full)
      [ true ↦ refl | false ↦ refl ]

  pub fill-dirty : (ln : Line) (s : List ℕ) (b c : ℕ) → (fill_line G ln s b c).dirty ≡ ln.dirty
  unfolding fill_line
  fill-dirty ln s b c = elim (leb G.waits c) as
      (λ t. (cond t (line_with ln (c - G.waits) (get_or s (b * G.words + (c - G.waits)) 0)) ln).dirty ≡ ln.dirty)
      [ true ↦ refl | false ↦ refl ]

  pub fill-block : (ln : Line) (s : List ℕ) (b c : ℕ) → (fill_line G ln s b c).block ≡ ln.block
  unfolding fill_line
  fill-block ln s b c = elim (leb G.waits c) as
      (λ t. (cond t (line_with ln (c - G.waits) (get_or s (b * G.words + (c - G.waits)) 0)) ln).block ≡ ln.block)
      [ true ↦ refl | false ↦ refl ]

  pub fill-wide : (ln : Line) (s : List ℕ) (b c : ℕ) → length (fill_line G ln s b c).words ≡ length ln.words
  unfolding fill_line
  fill-wide ln s b c = elim (leb G.waits c) as
      (λ t. length (cond t (line_with ln (c - G.waits) (get_or s (b * G.words + (c - G.waits)) 0)) ln).words ≡ length ln.words)
      [ true ↦ length-set ln.words _ _ | false ↦ refl ]

  pub filled_more : (ln : Line) (s : List ℕ) (b c : ℕ) → c < burst G → G.words ≤ length ln.words → Filled G ln s b c
      → Filled G (fill_line G ln s b c) s b (c + 1)
  unfolding fill_line Filled burst
  filled_more ln s b c h wide w i hi = go (leb G.waits c) refl
    where
      go : (t : Bool) → leb G.waits c ≡ t
          → get_or s (b * G.words + i) 0 ≡ get_or
          (cond t (line_with ln (c - G.waits) (get_or s (b * G.words + (c - G.waits)) 0)) ln).words i 0
      go true e = choose (ℕ_discrete i (c - G.waits))
        where
          choose : Dec (i ≡ c - G.waits)
              → get_or s (b * G.words + i) 0 ≡ get_or (set ln.words (c - G.waits) (get_or s (b * G.words + (c - G.waits)) 0)) i 0
          choose (yes q) = rw q (sym (get_or-set_same ln.words _ _ 0 (omega (arith, leb-true G.waits c e))))
          choose (no n) = w i (omega (arith, leb-true G.waits c e)) ∙ sym (get_or-set_other ln.words _ i _ 0 n)
      go false e = w i (omega (arith, leb-false G.waits c e))

  -- the line after its last refill clock
  pub filled_ok : (s : List ℕ) (l : ℕ) (ln : Line) (b : ℕ) → G.words ≤ length ln.words → line_of G b ≡ l
      → b * G.words + G.words ≤ length s → Filled G ln s b (burst G) → LineOk G s l (full_line ln b)
  unfolding Filled burst
  filled_ok s l ln b wide hm fits w =
      record {
        wide = wide;
        home = λ q. hm;
        inside = λ q. fits;
        empty_clean = λ q. refl;
        empty_zero = λ q. bool_clash true refl q;
        agrees = λ q d i hi. w i (omega arith);
      }

  -- an empty line while it refills
  pub filling-ok : (s : List ℕ) (l : ℕ) (ln : Line) (b c : ℕ) → ln.full ≡ false → LineOk G s l ln → LineOk G s l (fill_line G ln s b c)
  filling-ok s l ln b c f ok = record {
    wide = rw (fill-wide ln s b c) ok.wide;
    home = λ q. bool_clash (fill_line G ln s b c).full q (fill-full ln s b c ∙ f);
    inside = λ q. bool_clash (fill_line G ln s b c).full q (fill-full ln s b c ∙ f);
    empty_clean = λ q. fill-dirty ln s b c ∙ ok.empty_clean f;
    empty_zero = λ q. fill-block ln s b c ∙ ok.empty_zero f;
    agrees = λ q d i hi. bool_clash (fill_line G ln s b c).full q (fill-full ln s b c ∙ f);
  }
