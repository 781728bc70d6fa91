-- The invariant `On` of the loops over the clocks of one phase, and its preservation by one more clock.
-- Idea: a held clock and a clock inside a phase have no answer, and the architectural state does not change during a phase.
--   On   a run in state g reaches h, still in phase k        on_none, held_on, moved_on   no clock, a held one, one inside the phase
--   fill_on, write-on, wait-on, step-on   one clock of each loop; the loop over steps uses Laws/Serial too
use Prim.Native.Nat.{ℕ, ◌+◌, ◌/◌, ◌%◌, ◌≤◌, ◌<◌}
use mathlib.Core.Path.{◌≡◌, refl, sym, ap, ◌∙◌, subst}
use mathlib.Core.Logic.{◌≢◌}
use mathlib.Core.Bool.{Bool, true, false, cond, not, ◌&&◌}
use mathlib.Core.List.{List}
use lib.ListN.{length, get_or}
use lib.Dec.{ltb}
use borrow.Author.Tests.{ne_eqb, lt-ltb}
use native.Mathlib.Decide.{ℕ_discrete}
use native.Mathlib.Omega.{arith}
use Rattle.trm_laws.proofs.Tests.{bool_clash}
use Rattle.trm_word.specs.Fields.{operation}
use Rattle.trm_word.specs.Charge.{charge_of}
use Rattle.trm_reference.specs.Geometry.{paper_geometry, burst}
use Rattle.trm_reference.specs.Visible.{Visible, word_at}
use Rattle.trm_reference.specs.Access.{target, target_block}
use Rattle.trm_reference.specs.Charge.{turns_cache_off, uncached_charge}
use Rattle.trm_reference.specs.Interrupt.{stalled}
use Rattle.trm_cache.specs.Cache.{line_at, write_word, fill_word}
use Rattle.trm_cache.specs.declared.record.Cache.{Cache}
use Rattle.trm_core.specs.declared.record.Running.{Running}
use Rattle.trm_core.specs.declared.record.Scalars.{Scalars}
use Rattle.trm_core.specs.Record.{gathered, stepping, in_phase, advanced, waited}
use Rattle.trm_core.specs.Clock.{Moved, moved, writing, filling, write_line}
use Rattle.trm_clock_laws.specs.Good.{Good}
use Rattle.trm_clock_laws.proofs.Does.{Does, Writes, Fills}
use Rattle.trm_clock_laws.proofs.Laws.Facts.{Facts, facts}
use Rattle.trm_clock_laws.proofs.Laws.Kinds.{block_at}
use Rattle.trm_clock_laws.proofs.Laws.Flight.{write-at, fill-at, wait-more, step-more}
use Rattle.trm_run_phases.specs.declared.inner.going.Going.{Going}
use Rattle.trm_run_phases.specs.Reached.{point, Reached, Under, Quietly}
use Rattle.trm_run_phases.proofs.Laws.Reached.{step-quiet}
use Rattle.trm_run_phases.proofs.Laws.Here.{held-here, moved_here, good-here}

pub record On (ls : List ℕ) (w k : ℕ) (g h : Going) (rs : List ℕ) (ca ca' : Cache) (s s' : List ℕ) : Type 0 where
  pub quietly : Quietly ls w (point g rs ca s) (point h rs ca' s')
  pub seen : gathered h.scalars rs ≡ gathered g.scalars rs
  pub phase : h.scalars.running.phase ≡ k
  pub onto : g.at ≤ h.at

pub on_none : (ls : List ℕ) (w k : ℕ) (g : Going) (rs : List ℕ) (ca : Cache) (s : List ℕ) → g.scalars.running.phase ≡ k
    → On ls w k g g rs ca ca s s
on_none ls w k g rs ca s e = record { quietly = λ p is bs ws x₀ at r. r; seen = refl; phase = e; onto = omega arith }

-- the state after one more clock that ends no instruction
abbrev pub onward : Going → Scalars → Going
onward g c = record { scalars = c; at = g.at + 1; finished = g.finished }

pub plain : (n : ℕ) → n + 0 ≡ n
plain n = omega arith

pub one_more : (a b : ℕ) → a + (b + 1) ≡ a + b + 1
one_more a b = omega arith

module _ (ls : List ℕ) (w k : ℕ) (g h : Going) (rs : List ℕ) (ca ca' : Cache) (s s' : List ℕ) (inv : On ls w k g h rs ca ca' s s') where
  abbrev pub line_byte : ℕ
  line_byte = get_or ls h.at 0

  pub word_on : (p : List ℕ) → w ≡ word_at p g.scalars.pc → w ≡ word_at p h.scalars.pc
  word_on p e = e ∙ ap (word_at p) (sym (ap (λ (v : Visible). v.pc) inv.seen))

  pub good-on : Under ls w (point g rs ca s) → Good w (length s') h.scalars rs ca'
  good-on u = good-here u.program ls u.inputs u.from h rs ca' s' u.bytes u.words
      (inv.quietly u.program u.inputs u.bytes u.words u.from u.word u.so) w (word_on u.program u.word)

  -- a run in state g has reached h
  pub reached-on : (u : Under ls w (point g rs ca s))
      → Reached u.program ls u.inputs u.from (point h rs ca' s') u.bytes u.words
  reached-on u = inv.quietly u.program u.inputs u.bytes u.words u.from u.word u.so

  pub long-on : Under ls w (point g rs ca s) → length s' ≡ length s
  long-on u = (reached-on u).long ∙ sym u.so.long

  module _ (more : h.at < length ls) where
    pub held_on : stalled line_byte ≡ true → On ls w k g (onward h (waited h.scalars)) rs ca ca' s s'
    held_on t = record {
      quietly = λ p is bs ws x₀ at r. let q = inv.quietly p is bs ws x₀ at r in
          subst (λ f. Reached p ls is x₀ (point (record { scalars = waited h.scalars; at = h.at + 1; finished = f }) rs ca' s') bs ws)
          (plain h.finished)
          (step-quiet p ls is x₀ (point h rs ca' s') bs ws q more _ 0
          (held-here p h.scalars rs ca' s' (record { line_byte = line_byte; input = get_or is h.at 0 }) t));
      seen = inv.seen;
      phase = inv.phase;
      onto = omega (arith, inv.onto);
    }

    pub moved_on : stalled line_byte ≡ false → k ≢ 0 → (f : List ℕ → Moved) → Does w (length s') h.scalars rs ca' f
        → (next : Running) → next.phase ≡ k → (ca'' : Cache) (s'' : List ℕ) → moved h.scalars next ca'' s'' 0 0 ≡ f s'
        → On ls w k g (onward h (advanced h.scalars next 0 0)) rs ca ca'' s s''
    moved_on t some f d next ph ca'' s'' m = record {
      quietly = λ p is bs ws x₀ at r. let q = inv.quietly p is bs ws x₀ at r in
          subst (λ j. Reached p ls is x₀
          (point (record { scalars = advanced h.scalars next 0 0; at = h.at + 1; finished = j }) rs ca'' s'') bs ws) (plain h.finished)
          (step-quiet p ls is x₀ (point h rs ca' s') bs ws q more _ 0
          (moved_here p h.scalars rs ca' s' (record { line_byte = line_byte; input = get_or is h.at 0 }) w (word_on p at) t
          (λ z. some (sym inv.phase ∙ z)) f d next 0 0 ca'' s'' m));
      seen = inv.seen;
      phase = ph;
      onto = omega (arith, inv.onto);
    }

filling-more : (b l k : ℕ) (c : Scalars) (ca : Cache) (s : List ℕ) → k ≢ 9
    → moved c (in_phase 3 (k + 1)) (fill_word paper_geometry ca l s b k) s 0 0 ≡ filling paper_geometry b l k c ca s
unfolding filling burst
filling-more b l k c ca s z = rw (ne_eqb (k + 1) 10 (λ e. z (omega (arith, e))))

writing_more : (clears : Bool) (l k : ℕ) (c : Scalars) (ca : Cache) (s : List ℕ) → k ≢ 9
    → moved c (in_phase 2 (k + 1)) ca (write_word paper_geometry (line_at paper_geometry ca l) s k) 0 0
    ≡ writing paper_geometry clears l k c ca s
unfolding writing burst
writing_more clears l k c ca s z = rw (ne_eqb (k + 1) 10 (λ e. z (omega (arith, e))))

module _ (ls : List ℕ) (w : ℕ) (g h : Going) (rs : List ℕ) (ca ca' : Cache) (s s' : List ℕ) (u : Under ls w (point g rs ca s)) where
  -- phase 3, of the block b
  module _ (inv : On ls w 3 g h rs ca ca' s s') where
    pub fill-facts : Facts w (length s') h.scalars rs ca'
    fill-facts = facts w (length s') h.scalars rs ca' (good-on ls w 3 g h rs ca ca' s s' inv u)

    -- the block, from the address that the code computed
    pub fill-block : (a : ℕ) → a ≡ target w (gathered g.scalars rs) (length s')
        → a / 8 ≡ target_block paper_geometry w (gathered h.scalars rs) (length s')
    fill-block a e = ap (λ x. x / 8) (e ∙ ap (λ v. target w v (length s')) (sym inv.seen))
        ∙ sym (block_at w (length s') (gathered h.scalars rs))

    pub fills : (b : ℕ) → b ≡ target_block paper_geometry w (gathered h.scalars rs) (length s') → Fills w (length s') h.scalars rs ca' b
    fills b q = fill-at w (length s') h.scalars rs ca' fill-facts inv.phase b q

    pub fill_on : h.at < length ls → h.scalars.running.count ≢ 9 → (b : ℕ)
        → b ≡ target_block paper_geometry w (gathered h.scalars rs) (length s')
        → (c'' : Scalars) (ca'' : Cache)
        → c'' ≡ cond (stalled (get_or ls h.at 0)) (waited h.scalars)
        (advanced h.scalars (in_phase 3 (h.scalars.running.count + 1)) 0 0)
        → ca'' ≡ cond (stalled (get_or ls h.at 0)) ca' (fill_word paper_geometry ca' (b % 16) s' b h.scalars.running.count)
        → On ls w 3 g (onward h c'') rs ca ca'' s s'
    fill_on more z b q c'' ca'' e f = rw (e, f) (go (stalled (get_or ls h.at 0)) refl)
      where
        k : ℕ
        k = h.scalars.running.count

        go : (t : Bool) → stalled (get_or ls h.at 0) ≡ t
            → On ls w 3 g (onward h (cond t (waited h.scalars) (advanced h.scalars (in_phase 3 (k + 1)) 0 0))) rs ca
            (cond t ca' (fill_word paper_geometry ca' (b % 16) s' b k)) s s'
        go true t = held_on ls w 3 g h rs ca ca' s s' inv more t
        go false t = moved_on ls w 3 g h rs ca ca' s s' inv more t (λ y. omega (arith, y)) _
            (fills b q).goes
            (in_phase 3 (k + 1)) refl _ _ (filling-more b (b % 16) k h.scalars ca' s' z)

  -- phase 2, of the line l
  module _ (inv : On ls w 2 g h rs ca ca' s s') where
    pub write-facts : Facts w (length s') h.scalars rs ca'
    write-facts = facts w (length s') h.scalars rs ca' (good-on ls w 2 g h rs ca ca' s s' inv u)

    -- the line, from what the code computed
    pub clears_on : (t : Bool) → t ≡ turns_cache_off w (gathered g.scalars rs) → t ≡ turns_cache_off w (gathered h.scalars rs)
    clears_on t e = e ∙ ap (turns_cache_off w) (sym inv.seen)

    pub line_on : (l : ℕ) → l ≡ write_line paper_geometry w (length s) (gathered g.scalars rs) ca'
        → l ≡ write_line paper_geometry w (length s') (gathered h.scalars rs) ca'
    line_on l e = e ∙ ap (λ v. write_line paper_geometry w (length s) v ca') (sym inv.seen)
        ∙ ap (λ n. write_line paper_geometry w n (gathered h.scalars rs) ca') (sym (long-on ls w 2 g h rs ca ca' s s' inv u))

    pub writes : (t : Bool) (l : ℕ) → t ≡ turns_cache_off w (gathered h.scalars rs)
        → l ≡ write_line paper_geometry w (length s') (gathered h.scalars rs) ca' → Writes w (length s') h.scalars rs ca' t l
    writes t l q y = write-at w (length s') h.scalars rs ca' write-facts inv.phase t l q y

    pub write-on : h.at < length ls → h.scalars.running.count ≢ 9 → (clears : Bool) (l : ℕ)
        → clears ≡ turns_cache_off w (gathered h.scalars rs) → l ≡ write_line paper_geometry w (length s') (gathered h.scalars rs) ca'
        → (c'' : Scalars) (s'' : List ℕ)
        → c'' ≡ cond (stalled (get_or ls h.at 0)) (waited h.scalars)
        (advanced h.scalars (in_phase 2 (h.scalars.running.count + 1)) 0 0)
        → s'' ≡ cond (stalled (get_or ls h.at 0)) s'
        (write_word paper_geometry (line_at paper_geometry ca' l) s' h.scalars.running.count)
        → On ls w 2 g (onward h c'') rs ca ca' s s''
    write-on more z clears l q y c'' s'' e f = rw (e, f) (go (stalled (get_or ls h.at 0)) refl)
      where
        k : ℕ
        k = h.scalars.running.count

        go : (t : Bool) → stalled (get_or ls h.at 0) ≡ t
            → On ls w 2 g (onward h (cond t (waited h.scalars) (advanced h.scalars (in_phase 2 (k + 1)) 0 0))) rs ca ca'
            s (cond t s' (write_word paper_geometry (line_at paper_geometry ca' l) s' k))
        go true t = held_on ls w 2 g h rs ca ca' s s' inv more t
        go false t = moved_on ls w 2 g h rs ca ca' s s' inv more t (λ j. omega (arith, j)) _
            (writes clears l q y).goes
            (in_phase 2 (k + 1)) refl _ _ (writing_more clears l k h.scalars ca' s' z)

  -- phase 4
  module _ (inv : On ls w 4 g h rs ca ca' s s') where
    pub wait-facts : Facts w (length s') h.scalars rs ca'
    wait-facts = facts w (length s') h.scalars rs ca' (good-on ls w 4 g h rs ca ca' s s' inv u)

    pub wait-on : h.at < length ls → h.scalars.running.count + 1 ≢ uncached_charge w → (c'' : Scalars)
        → c'' ≡ cond (stalled (get_or ls h.at 0)) (waited h.scalars)
        (advanced h.scalars (in_phase 4 (h.scalars.running.count + 1)) 0 0)
        → On ls w 4 g (onward h c'') rs ca ca' s s'
    wait-on more z c'' e = rw e (go (stalled (get_or ls h.at 0)) refl)
      where
        k : ℕ
        k = h.scalars.running.count

        go : (t : Bool) → stalled (get_or ls h.at 0) ≡ t
            → On ls w 4 g (onward h (cond t (waited h.scalars) (advanced h.scalars (in_phase 4 (k + 1)) 0 0))) rs ca ca' s s'
        go true t = held_on ls w 4 g h rs ca ca' s s' inv more t
        go false t = moved_on ls w 4 g h rs ca ca' s s' inv more t (λ j. omega (arith, j)) _
            (wait-more w (length s') h.scalars rs ca' wait-facts inv.phase z).0
            (in_phase 4 (k + 1)) refl _ _ refl

  -- phase 1
  module _ (inv : On ls w 1 g h rs ca ca' s s') where
    pub step-facts : Facts w (length s') h.scalars rs ca'
    step-facts = facts w (length s') h.scalars rs ca' (good-on ls w 1 g h rs ca ca' s s' inv u)

    pub step-on : h.at < length ls → h.scalars.running.count + 1 ≢ charge_of (operation w) → (c'' : Scalars)
        → c'' ≡ cond (stalled (get_or ls h.at 0)) (waited h.scalars)
        (advanced h.scalars (stepping w (gathered h.scalars rs) (h.scalars.running.count + 1)) 0 0)
        → On ls w 1 g (onward h c'') rs ca ca' s s'
    step-on more z c'' e = rw e (go (stalled (get_or ls h.at 0)) refl)
      where
        next : Running
        next = stepping w (gathered h.scalars rs) (h.scalars.running.count + 1)

        go : (t : Bool) → stalled (get_or ls h.at 0) ≡ t
            → On ls w 1 g (onward h (cond t (waited h.scalars) (advanced h.scalars next 0 0))) rs ca ca' s s'
        go true t = held_on ls w 1 g h rs ca ca' s s' inv more t
        go false t = moved_on ls w 1 g h rs ca ca' s s' inv more t (λ j. omega (arith, j)) _
            (step-more w (length s') h.scalars rs ca' step-facts inv.phase z).0 next refl _ _ refl

-- if clock i is held and j ≥ i is not, j is after i
pub past-held : (ls : List ℕ) (i j : ℕ) → i ≤ j → stalled (get_or ls i 0) ≡ true → stalled (get_or ls j 0) ≡ false → i < j
past-held ls i j h t f = go (ℕ_discrete i j)
  where
    go : Dec (i ≡ j) → i < j
    go (yes e) = bool_clash (stalled (get_or ls j 0)) (subst (λ k. stalled (get_or ls k 0) ≡ true) e t) f
    go (no z) = omega (arith, h, z)

-- if clock i is not held and j ≥ i is not due, j is after i
pub past-free : (ls : List ℕ) (i j : ℕ) (d : Bool) → i ≤ j → i < length ls → stalled (get_or ls i 0) ≡ false
    → d ≡ (ltb j (length ls) && not (stalled (get_or ls j 0))) → d ≡ false → i < j
past-free ls i j d h m f e q = go (ℕ_discrete i j)
  where
    go : Dec (i ≡ j) → i < j
    go (yes y) = bool_clash d (e ∙ subst (λ k. (ltb k (length ls) && not (stalled (get_or ls k 0))) ≡ true) y
        (rw (lt-ltb i (length ls) m, f))) q
    go (no z) = omega (arith, h, z)
