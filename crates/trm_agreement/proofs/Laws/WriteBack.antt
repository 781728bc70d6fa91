-- The clocks of a write-back agree with those of the reference machine: of an access, and of every dirty line when the cache is turned off.
-- Idea: each gives the laws of `Laws.Moves` its new lines, store and state in flight, by cases of whether the burst ends.
use Prim.Native.Nat.{ℕ, suc, ◌+◌, ◌-◌, ◌*◌, ◌%◌, ◌<◌}
use mathlib.Core.Path.{◌≡◌, refl, sym, ap, ◌∙◌}
use mathlib.Core.Logic.{◌≢◌}
use mathlib.Core.Bool.{Bool, true, false, cond, not}
use mathlib.Core.List.{List}
use lib.ListN.{length}
use lib.Dec.{eqb}
use borrow.Author.Tests.{eqb-true, eqb-false, eq-eqb, ne_eqb}
use native.Mathlib.Omega.{arith}
use native.Mathlib.Nat.{mul-mod_right, mul-add-mod_self_left, mod-eq_of_lt}
use Rattle.trm_laws.proofs.Tests.{bool_clash}
use Rattle.trm_reference.specs.Geometry.{Geometry, burst}
use Rattle.trm_reference.specs.Visible.{word_at, cache_on}
use Rattle.trm_reference.specs.Access.{target_block, target_line}
use Rattle.trm_reference.specs.History.{since, last_in}
use Rattle.trm_reference.specs.Reference.{spend, misses, evicts, refill_over}
use Rattle.trm_core.specs.Record.{Machine}
use Rattle.trm_cache.specs.Cache.{Line, line_at, holds, view, emptied, cleaned, write_word, count_dirty, first_dirty}
use Rattle.trm_cache.specs.declared.record.Cache.{Cache}
use Rattle.trm_core.specs.Record.{visible_of, cache_of, in_phase}
use Rattle.trm_core.specs.Clock.{moved, quiet, written, writing}
use Rattle.trm_core.proofs.Laws.Kind.{cached, clearing, kind_of, Is, is-of}
use Rattle.trm_cache.proofs.Laws.Lines.{empty_line, clean_line, Becomes, becomes_clean, becomes_empty}
use Rattle.trm_cache.proofs.Laws.Cache.{dirty-full, LineOk, Sane, sane_update, clean-swap, emptied-ok}
use Rattle.trm_cache.proofs.Laws.Bursts.{Written, Filled, write-length, written-more}
use Rattle.trm_core.proofs.Laws.Fit.{line_in_lem}
use Rattle.trm_core.proofs.Laws.Phases.{due_clearing}
use Rattle.trm_cache.proofs.Laws.Dirty.{first-dirty, clean-one}
use Rattle.trm_agreement.proofs.Laws.History.{Matches}
use Rattle.trm_agreement.proofs.Laws.Relation.{Extra, plain_of, Common, Agree, write_back, clearing_off, refill, last}
use Rattle.trm_agreement.proofs.Laws.Moves.{leaving, moved-agrees, common-move, related-by, wrote, wrote-last, misses-is}
use Rattle.trm_agreement.proofs.Laws.Moves.{evicts-is, cached-refill, cached_writeback, clearing_writeback, no-refill}

module _ (G : Geometry) (p : List ℕ) (w : ℕ) (m : Machine) (s : List ℕ) (e : Extra) (cm : Common G m s e)
    (wq : word_at p m.scalars.pc ≡ w) where
  -- the write-back of an access's line
  pub write_step : (n : ℕ) → kind_of w (visible_of m) m.scalars.size ≡ cached → m.scalars.running.count < burst G
      → m.scalars.running.count + suc n ≡ 1 + burst G + burst G → Matches G e.history (cache_of m)
      → holds (line_at G (cache_of m) (target_line G w (visible_of m) m.scalars.size))
      (target_block G w (visible_of m) m.scalars.size) ≡ false
      → (line_at G (cache_of m) (target_line G w (visible_of m) m.scalars.size)).dirty ≡ true
      → Written G (line_at G (cache_of m) (target_line G w (visible_of m) m.scalars.size)) s m.scalars.running.count
      → Agree G p (quiet m.regs (writing G false (target_line G w (visible_of m) m.scalars.size) m.scalars.running.count
      m.scalars (cache_of m) s)) (spend G w (plain_of m e) n)
  unfolding writing written Filled
  write_step n kq hc hn mt hold d wr = go (eqb (c + 1) (burst G)) refl
    where
      c : ℕ
      c = m.scalars.running.count

      is : Is cached w (visible_of m) m.scalars.size
      is = is-of w (visible_of m) m.scalars.size cached kq

      wpos : 0 < G.words
      wpos = cm.fit.wpos

      l : ℕ
      l = target_line G w (visible_of m) m.scalars.size

      b : ℕ
      b = target_block G w (visible_of m) m.scalars.size

      ln : Line
      ln = line_at G (cache_of m) l

      s' : List ℕ
      s' = write_word G ln s c

      ls : Cache
      ls = cleaned (cache_of m) l

      lin : l < G.lines
      lin = line_in_lem G w (visible_of m) m.scalars.size cm.fit.lpos

      tpos : 0 < burst G
      tpos = cm.fit.tpos

      len : length s' ≡ length s
      len = write-length G wpos ln s c

      missed : last_in (since G e.history l) b ≡ false
      missed = sym ((mt l lin).block b) ∙ hold

      ms : misses G w (plain_of m e) ≡ true
      ms = misses-is G w m s e cm ∙ ap not missed

      ev : evicts G w (plain_of m e) ≡ true
      ev = evicts-is G w m s e cm ∙ sym (mt l lin).dirty ∙ d

      none : refill_over G w (plain_of m e) n ≡ 0
      none = cached-refill G w m s e cm n is ∙ (rw (ms, ne_eqb n 1 (omega arith)))

      on : {A : Type 0} → cache_on (visible_of m) ≡ false → A
      on q = bool_clash (cache_on (visible_of m)) is.on q

      go : (t : Bool) → eqb (c + 1) (burst G) ≡ t
          → Agree G p (quiet m.regs (cond t (moved m.scalars (in_phase 3 0) (emptied ls l) s' 0 1)
          (moved m.scalars (in_phase 2 (c + 1)) (cache_of m) s' 0 0))) (spend G w (plain_of m e) n)
      go true q = moved-agrees G p w m s e (in_phase 3 0) (emptied ls l) s' 0 1 n none
          (cached_writeback G w m s e cm n is ∙ (rw (ms, ev, eq-eqb n (1 + burst G) (omega (arith, full)))))
          (related-by G p w cached _ s' (leaving e n) wq kq
          (common-move G m s e (in_phase 3 0) (emptied ls l) s' 0 1 n cm len
          (sane_update G wpos ls s' l (empty_line (line_at G ls l)) (emptied ls l) s' bc last-ones.0 refl ok' (λ a z. refl))
          (λ a. clean-swap G wpos ls s' l (empty_line (line_at G ls l)) (emptied ls l) bc lin last-ones.0
          (rw cl.here) ok' refl a
          ∙ last-ones.1 a)
          on (omega arith) (omega arith))
          (refill refl refl tpos (omega (arith, full))
          (λ k hk z. rw (bc.there k z, cl.there k z) (mt k hk))
          (rw bc.here)
          missed (λ j hj. absurd (omega arith))))
        where
          full : c + 1 ≡ burst G
          full = eqb-true (c + 1) (burst G) q

          last-ones : Sane G ls s' × ((a : ℕ) → view G ls s' a ≡ view G (cache_of m) s a)
          last-ones = wrote-last G (cache_of m) s l c wpos cm.sane lin d hc full wr

          cl : Becomes G (cache_of m) l (clean_line ln) ls
          cl = becomes_clean G (cache_of m) l cm.sane.wide lin

          bc : Becomes G ls l (empty_line (line_at G ls l)) (emptied ls l)
          bc = becomes_empty G ls l cl.wide lin

          ok' : LineOk G s' l (empty_line (line_at G ls l))
          ok' = emptied-ok G wpos s' l (line_at G ls l) (last-ones.0.each l lin).wide
      go false q = moved-agrees G p w m s e (in_phase 2 (c + 1)) (cache_of m) s' 0 0 n none
          (cached_writeback G w m s e cm n is ∙ (rw (ms, ev, ne_eqb n (1 + burst G) (omega (arith, short)))))
          (related-by G p w cached _ s' (leaving e n) wq kq
          (common-move G m s e (in_phase 2 (c + 1)) (cache_of m) s' 0 0 n cm len ones.0 ones.1 on (omega arith) (omega arith))
          (write_back refl refl short (omega arith) mt hold d
          (written-more G wpos ln s c hc ((cm.sane.each l lin).inside (dirty-full ln (cm.sane.each l lin).empty_clean d)) wr)))
        where
          short : c + 1 < burst G
          short = let z = eqb-false (c + 1) (burst G) q in omega arith

          ones : Sane G (cache_of m) s' × ((a : ℕ) → view G (cache_of m) s' a ≡ view G (cache_of m) s a)
          ones = wrote G (cache_of m) s l c wpos cm.sane lin d hc

  -- one clock of the write-backs while the cache is turned off, c of this burst done
  pub clear_step : (c n : ℕ) → kind_of w (visible_of m) m.scalars.size ≡ clearing → c < burst G
      → c + suc n ≡ 1 + burst G * count_dirty G (cache_of m) → count_dirty G (cache_of m) ≢ 0
      → Written G (line_at G (cache_of m) (first_dirty G (cache_of m))) s c
      → Agree G p (quiet m.regs (writing G true (first_dirty G (cache_of m)) c m.scalars (cache_of m) s)) (spend G w (plain_of m e) n)
  unfolding writing written Written
  clear_step c n kq hc hn some wr = go (eqb (c + 1) (burst G)) refl
    where
      is : Is clearing w (visible_of m) m.scalars.size
      is = is-of w (visible_of m) m.scalars.size clearing kq

      wpos : 0 < G.words
      wpos = cm.fit.wpos

      l : ℕ
      l = first_dirty G (cache_of m)

      ln : Line
      ln = line_at G (cache_of m) l

      s' : List ℕ
      s' = write_word G ln s c

      ls : Cache
      ls = cleaned (cache_of m) l

      lin : l < G.lines
      lin = (first-dirty G (cache_of m) some).0

      d : ln.dirty ≡ true
      d = (first-dirty G (cache_of m) some).1

      fewer : count_dirty G (cache_of m) ≡ suc (count_dirty G ls)
      fewer = clean-one G (cache_of m) l (clean_line ln) ls (becomes_clean G (cache_of m) l cm.sane.wide lin) lin d refl

      tpos : 0 < burst G
      tpos = cm.fit.tpos

      len : length s' ≡ length s
      len = write-length G wpos ln s c

      -- the clocks left after this one
      rest : n ≡ 1 + burst G * count_dirty G ls + (burst G - (c + 1))
      rest = let h : c + suc n ≡ 1 + burst G * suc (count_dirty G ls) = rw fewer at hn in omega arith

      none : refill_over G w (plain_of m e) n ≡ 0
      none = no-refill G w m s e cm clearing n is refl

      on : {A : Type 0} → cache_on (visible_of m) ≡ false → A
      on q = bool_clash (cache_on (visible_of m)) is.on q

      go : (t : Bool) → eqb (c + 1) (burst G) ≡ t
          → Agree G p (quiet m.regs (cond t
          (moved m.scalars (cond (eqb (count_dirty G ls) 0) (in_phase 5 0) (in_phase 2 0)) ls s' 0 1)
          (moved m.scalars (in_phase 2 (c + 1)) (cache_of m) s' 0 0))) (spend G w (plain_of m e) n)
      go true q = next (eqb (count_dirty G ls) 0) refl
        where
          full : c + 1 ≡ burst G
          full = eqb-true (c + 1) (burst G) q

          rest' : n ≡ 1 + burst G * count_dirty G ls
          rest' = omega (arith, rest, full)

          over : (n - 1) % burst G ≡ 0
          over = let h : n - 1 ≡ burst G * count_dirty G ls = omega (arith, rest') in rw (h, mul-mod_right)

          last-ones : Sane G ls s' × ((a : ℕ) → view G ls s' a ≡ view G (cache_of m) s a)
          last-ones = wrote-last G (cache_of m) s l c wpos cm.sane lin d hc full wr

          next : (t : Bool) → eqb (count_dirty G ls) 0 ≡ t
              → Agree G p (quiet m.regs (moved m.scalars (cond t (in_phase 5 0) (in_phase 2 0)) ls s' 0 1))
              (spend G w (plain_of m e) n)
          next true z = moved-agrees G p w m s e (in_phase 5 0) ls s' 0 1 n none
              (clearing_writeback G w m s e cm n is ∙ (rw over))
              (related-by G p w clearing _ s' (leaving e n) wq kq
              (common-move G m s e (in_phase 5 0) ls s' 0 1 n cm len last-ones.0 last-ones.1 on (omega arith) (omega arith))
              (last refl (due_clearing G w m.scalars.size (visible_of m) ls kq (eqb-true (count_dirty G ls) 0 z))
              (rest' ∙ (rw (eqb-true (count_dirty G ls) 0 z) (omega arith))) (eqb-true (count_dirty G ls) 0 z)))
          next false z = moved-agrees G p w m s e (in_phase 2 0) ls s' 0 1 n none
              (clearing_writeback G w m s e cm n is ∙ (rw over))
              (related-by G p w clearing _ s' (leaving e n) wq kq
              (common-move G m s e (in_phase 2 0) ls s' 0 1 n cm len last-ones.0 last-ones.1 on (omega arith) (omega arith))
              (clearing_off refl refl tpos (omega (arith, rest')) (eqb-false (count_dirty G ls) 0 z) (λ j hj. absurd (omega arith))))
      go false q = moved-agrees G p w m s e (in_phase 2 (c + 1)) (cache_of m) s' 0 0 n none
          (clearing_writeback G w m s e cm n is ∙ (rw (ne_eqb ((n - 1) % burst G) 0 not-over)))
          (related-by G p w clearing _ s' (leaving e n) wq kq
          (common-move G m s e (in_phase 2 (c + 1)) (cache_of m) s' 0 0 n cm len ones.0 ones.1 on (omega arith) (omega arith))
          (clearing_off refl refl short (omega arith) some
          (written-more G wpos ln s c hc ((cm.sane.each l lin).inside (dirty-full ln (cm.sane.each l lin).empty_clean d)) wr)))
        where
          short : c + 1 < burst G
          short = let z = eqb-false (c + 1) (burst G) q in omega arith

          left_over : (n - 1) % burst G ≡ burst G - (c + 1)
          left_over = let h : n - 1 ≡ burst G * count_dirty G ls + (burst G - (c + 1)) = omega (arith, rest) in
              rw (h, mul-add-mod_self_left, mod-eq_of_lt {n = burst G - (c + 1)} {m = burst G} (omega (arith, tpos)))

          not-over : (n - 1) % burst G ≢ 0
          not-over z = omega (arith, left_over, short)

          ones : Sane G (cache_of m) s' × ((a : ℕ) → view G (cache_of m) s' a ≡ view G (cache_of m) s a)
          ones = wrote G (cache_of m) s l c wpos cm.sane lin d hc
