-- What the clocks that execute nothing have in common: the laws that build their agreement, and when the counts change.
-- Idea: `moved-agrees` for such a clock, `common-move` for what holds in every phase; the reference machine's counts by kind.
use Prim.Native.Nat.{ℕ, ◌+◌, ◌-◌, ◌%◌, ◌≤◌, ◌<◌}
use mathlib.Core.Path.{◌≡◌, refl, ap, ◌∙◌}
use mathlib.Core.Logic.{◌≢◌}
use mathlib.Core.Bool.{true, false, cond, not, ◌&&◌}
use mathlib.Core.List.{List}
use lib.ListN.{length, get_or}
use lib.Dec.{eqb}
use borrow.Author.Tests.{ne_eqb}
use native.Mathlib.Omega.{arith}
use Rattle.trm_reference.specs.Geometry.{Geometry, burst, block_of, line_of}
use Rattle.trm_reference.specs.Visible.{word_at, cache_on}
use Rattle.trm_reference.specs.Access.{target_block, target_line}
use Rattle.trm_reference.specs.History.{since, last_in, last_dirty, refills_now, dirty_now}
use Rattle.trm_reference.specs.Reference.{Reference, carry_out, spend, take_off, misses, evicts, refill_over, writeback_over}
use Rattle.trm_core.specs.Record.{Machine}
use Rattle.trm_core.specs.declared.record.Running.{Running}
use Rattle.trm_cache.specs.Cache.{line_at, view, cleaned, write_word}
use Rattle.trm_cache.specs.declared.record.Cache.{Cache}
use Rattle.trm_core.specs.Record.{visible_of, cache_of, whole, advanced}
use Rattle.trm_core.specs.Clock.{moved, quiet, written}
use Rattle.trm_core.proofs.Laws.Kind.{Kind, cached, clearing, kind_of, Is, is-of, is_cached, is_clearing}
use Rattle.trm_cache.proofs.Laws.Lines.{clean_line, becomes_same, becomes_clean}
use Rattle.trm_cache.proofs.Laws.Cache.{dirty-full, Sane, sane_update}
use Rattle.trm_cache.proofs.Laws.Bursts.{Written, write-length, write-other, written-more, write_view, written-ok, writing-ok}
use Rattle.trm_agreement.proofs.Laws.Relation.{Extra, plain_of, Common, Flight, Related, Agree}

-- the record after a clock that executes nothing
abbrev pub moved_to : Machine → Running → Cache → ℕ → ℕ → Machine
moved_to m r ca refilled written = whole (advanced m.scalars r refilled written) m.regs ca

-- the extra part with another number of clocks left
abbrev pub leaving : Extra → ℕ → Extra
leaving e left = record { memory = e.memory; history = e.history; left = left }

module _ (G : Geometry) where
  pub take_off-last : (w : ℕ) (q : Reference) (n i : ℕ) → n ≡ 1 → take_off G w q n i ≡ carry_out G w q i
  unfolding take_off
  take_off-last w q n i e = rw e

  pub take_off-more : (w : ℕ) (q : Reference) (n n' i : ℕ) → n ≡ 1 + n' → 0 < n' → take_off G w q n i ≡ spend G w q n'
  unfolding take_off
  take_off-more w q n n' i e h =
      let d : n - 1 ≡ n' = omega arith in
      rw (d, ne_eqb n' 0 (omega arith))

  pub moved-agrees : (p : List ℕ) (w : ℕ) (m : Machine) (s : List ℕ) (e : Extra) (r : Running) (ca : Cache) (s' : List ℕ)
      (refilled written n : ℕ) → refill_over G w (plain_of m e) n ≡ refilled → writeback_over G w (plain_of m e) n ≡ written
      → Related G p (moved_to m r ca refilled written) s' (leaving e n)
      → Agree G p (quiet m.regs (moved m.scalars r ca s' refilled written)) (spend G w (plain_of m e) n)
  unfolding spend
  moved-agrees p w m s e r ca s' refilled written n r1 w1 rel = record {
    extra = leaving e n;
    plain = rw (r1, w1);
    related = rel;
    out = refl;
  }

  -- a move keeps what holds in every phase
  pub common-move : (m : Machine) (s : List ℕ) (e : Extra) (r : Running) (ca : Cache) (s' : List ℕ) (refilled written n : ℕ)
      → Common G m s e → length s' ≡ length s → Sane G ca s'
      → ((a : ℕ) → view G ca s' a ≡ view G (cache_of m) s a)
      → (cache_on (visible_of m) ≡ false → (l : ℕ) → l < G.lines → (line_at G ca l).full ≡ false) → refilled ≤ 1 → written ≤ 1
      → Common G (moved_to m r ca refilled written) s' (leaving e n)
  common-move m s e r ca s' refilled written n cm len sn vw of hr hw = record {
    size = len ∙ cm.size;
    memory = cm.memory;
    view = λ a h. vw a ∙ cm.view a h;
    sane = sn;
    off = of;
    fit = cm.fit;
    legal = cm.legal;
    narrow = cm.narrow;
    counted = record {
      held = (let h = cm.counted.held in omega arith);
      refills = (let h = cm.counted.refills in omega arith);
      writebacks = (let h = cm.counted.writebacks in omega arith);
    };
  }

  -- the same lines and store
  pub common-same : (m : Machine) (s : List ℕ) (e : Extra) (r : Running) (n : ℕ) → Common G m s e
      → Common G (moved_to m r (cache_of m) 0 0) s (leaving e n)
  common-same m s e r n cm = common-move m s e r (cache_of m) s 0 0 n cm refl cm.sane (λ a. refl) cm.off (omega arith) (omega arith)

  pub related-by : (p : List ℕ) (w : ℕ) (k : Kind) (m : Machine) (s : List ℕ) (e : Extra) → word_at p m.scalars.pc ≡ w
      → kind_of w (visible_of m) m.scalars.size ≡ k → Common G m s e
      → Flight G w m.scalars.size k m.scalars.running (visible_of m) (cache_of m) s e.history e.left → Related G p m s e
  related-by p w k m s e wq kq c f = record { common = c; flight = rw (wq, kq) f }

  -- one clock of a write-back, not its last
  pub wrote : (ca : Cache) (s : List ℕ) (l c : ℕ) → 0 < G.words → Sane G ca s → l < G.lines → (line_at G ca l).dirty ≡ true → c < burst G
      → Sane G ca (write_word G (line_at G ca l) s c) × ((a : ℕ) → view G ca (write_word G (line_at G ca l) s c) a ≡ view G ca s a)
  wrote ca s l c wpos sn h d hc =
      let f = dirty-full (line_at G ca l) (sn.each l h).empty_clean d in
      let len = write-length G wpos (line_at G ca l) s c in
      let there : (a : ℕ) → line_of G (block_of G a) ≢ l → get_or (write_word G (line_at G ca l) s c) a 0 ≡ get_or s a 0
      = λ a n. write-other G wpos (line_at G ca l) s c a hc (λ q. n (ap (line_of G) q ∙ (sn.each l h).home f)) in
      let bc = becomes_same G ca l sn.wide h in (
        sane_update G wpos ca s l (line_at G ca l) ca (write_word G (line_at G ca l) s c) bc sn len
            (writing-ok G wpos s _ l (line_at G ca l) len d (sn.each l h)) there,
        write_view G wpos ca s c l (line_at G ca l) ca bc hc h sn f f refl refl,
      )

  -- its last clock
  pub wrote-last : (ca : Cache) (s : List ℕ) (l c : ℕ) → 0 < G.words → Sane G ca s → l < G.lines → (line_at G ca l).dirty ≡ true
      → c < burst G → c + 1 ≡ burst G → Written G (line_at G ca l) s c
      → Sane G (cleaned ca l) (write_word G (line_at G ca l) s c)
      × ((a : ℕ) → view G (cleaned ca l) (write_word G (line_at G ca l) s c) a ≡ view G ca s a)
  wrote-last ca s l c wpos sn h d hc q wr =
      let f = dirty-full (line_at G ca l) (sn.each l h).empty_clean d in
      let len = write-length G wpos (line_at G ca l) s c in
      let there : (a : ℕ) → line_of G (block_of G a) ≢ l → get_or (write_word G (line_at G ca l) s c) a 0 ≡ get_or s a 0
      = λ a n. write-other G wpos (line_at G ca l) s c a hc (λ z. n (ap (line_of G) z ∙ (sn.each l h).home f)) in
      let more : Written G (line_at G ca l) (write_word G (line_at G ca l) s c) (burst G)
      = rw q at (written-more G wpos (line_at G ca l) s c hc ((sn.each l h).inside f) wr) in
      let bc = becomes_clean G ca l sn.wide h in (
        sane_update G wpos ca s l (clean_line (line_at G ca l)) (cleaned ca l) (write_word G (line_at G ca l) s c) bc sn len
            (written-ok G wpos s _ l (line_at G ca l) len f (sn.each l h) more) there,
        write_view G wpos ca s c l (clean_line (line_at G ca l)) (cleaned ca l) bc hc h sn f f refl refl,
      )

  module _ (w : ℕ) (m : Machine) (s : List ℕ) (e : Extra) (cm : Common G m s e) where
    -- what the history says of the access, in terms of its line
    pub misses-is : misses G w (plain_of m e)
        ≡ not (last_in (since G e.history (target_line G w (visible_of m) m.scalars.size))
        (target_block G w (visible_of m) m.scalars.size))
    unfolding misses refills_now target_line
    misses-is = rw cm.memory

    pub evicts-is : evicts G w (plain_of m e) ≡ last_dirty (since G e.history (target_line G w (visible_of m) m.scalars.size))
    unfolding evicts dirty_now
    evicts-is = rw cm.memory

    -- when the counts of the reference machine change, for an access through the cache
    pub cached-refill : (n : ℕ) → Is cached w (visible_of m) m.scalars.size
        → refill_over G w (plain_of m e) n ≡ cond (misses G w (plain_of m e) && eqb n 1) 1 0
    unfolding refill_over
    cached-refill n is = rw (cm.memory, is.through)

    pub cached_writeback : (n : ℕ) → Is cached w (visible_of m) m.scalars.size
        → writeback_over G w (plain_of m e) n ≡ cond (misses G w (plain_of m e) && evicts G w (plain_of m e) && eqb n (1 + burst G)) 1 0
    unfolding writeback_over
    cached_writeback n is = rw (cm.memory, is.through)

    -- for a word that turns the cache off
    pub clearing_writeback : (n : ℕ) → Is clearing w (visible_of m) m.scalars.size
        → writeback_over G w (plain_of m e) n ≡ cond (eqb ((n - 1) % burst G) 0) 1 0
    unfolding writeback_over
    clearing_writeback n is = rw (cm.memory, is.through, is.off)

    -- for any other word
    pub no-refill : (k : Kind) (n : ℕ) → Is k w (visible_of m) m.scalars.size → is_cached k ≡ false → refill_over G w (plain_of m e) n ≡ 0
    unfolding refill_over
    no-refill k n is h = rw (cm.memory, is.through, h)

    pub no_writeback : (k : Kind) (n : ℕ) → Is k w (visible_of m) m.scalars.size → is_cached k ≡ false → is_clearing k ≡ false
        → writeback_over G w (plain_of m e) n ≡ 0
    unfolding writeback_over
    no_writeback k n is h c = rw (cm.memory, is.through, h, is.off, c)

  module _ (p : List ℕ) (w : ℕ) (m : Machine) (s : List ℕ) (e : Extra) (cm : Common G m s e) (wq : word_at p m.scalars.pc ≡ w) where
    -- a move that changes neither lines nor store nor counts
    pub plain-move : (k : Kind) (r : Running) (left : ℕ) → kind_of w (visible_of m) m.scalars.size ≡ k
        → refill_over G w (plain_of m e) left ≡ 0 → writeback_over G w (plain_of m e) left ≡ 0
        → Flight G w m.scalars.size k r (visible_of m) (cache_of m) s e.history left
        → Agree G p (quiet m.regs (moved m.scalars r (cache_of m) s 0 0)) (spend G w (plain_of m e) left)
    plain-move k r left kq r1 w1 fl = moved-agrees p w m s e r (cache_of m) s 0 0 left r1 w1
        (related-by p w k _ s (leaving e left) wq kq (common-same m s e r left cm) fl)

    pub still-move : (k : Kind) (r : Running) (left : ℕ) → kind_of w (visible_of m) m.scalars.size ≡ k
        → is_cached k ≡ false → is_clearing k ≡ false
        → Flight G w m.scalars.size k r (visible_of m) (cache_of m) s e.history left
        → Agree G p (quiet m.regs (moved m.scalars r (cache_of m) s 0 0)) (spend G w (plain_of m e) left)
    still-move k r left kq h c fl = let is = is-of w (visible_of m) m.scalars.size k kq in
        plain-move k r left kq (no-refill w m s e cm k left is h) (no_writeback w m s e cm k left is h c) fl
