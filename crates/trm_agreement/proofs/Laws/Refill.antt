-- The clocks of a refill agree with those of the reference machine.
-- Idea: each gives the laws of `Laws.Moves` its new line and its state in flight, by cases of whether the burst ends.
use Prim.Native.Nat.{ℕ, suc, ◌+◌, ◌*◌, ◌≤◌, ◌<◌}
use mathlib.Core.Path.{◌≡◌, refl, ap, ◌∙◌}
use mathlib.Core.Bool.{Bool, true, false, cond, not, ◌&&◌}
use mathlib.Core.List.{List}
use lib.ListN.{length}
use lib.Dec.{eqb}
use borrow.Author.Tests.{eqb-true, eqb-false, eq-eqb, ne_eqb}
use native.Mathlib.Omega.{arith}
use Rattle.trm_laws.proofs.Tests.{bool_clash}
use Rattle.trm_reference.specs.Geometry.{Geometry, burst, line_of}
use Rattle.trm_reference.specs.Visible.{word_at, cache_on}
use Rattle.trm_reference.specs.Access.{target_block, target_line}
use Rattle.trm_reference.specs.History.{since, last_in}
use Rattle.trm_reference.specs.Reference.{spend, misses, evicts, writeback_over}
use Rattle.trm_core.specs.Record.{Machine}
use Rattle.trm_cache.specs.Cache.{Line, line_at, holds, filled, fill_word}
use Rattle.trm_cache.specs.declared.record.Cache.{Cache}
use Rattle.trm_core.specs.Record.{visible_of, cache_of, in_phase}
use Rattle.trm_core.specs.Clock.{moved, quiet, filling, line_for, hits}
use Rattle.trm_core.proofs.Laws.Kind.{cached, kind_of, Is, is-of}
use Rattle.trm_cache.proofs.Laws.Lines.{full_line, fill_line, Becomes, becomes_full, becomes_fill, becomes_then}
use Rattle.trm_cache.proofs.Laws.Cache.{LineOk, holds-yes, sane_update, clean-swap}
use Rattle.trm_cache.proofs.Laws.Bursts.{Filled, fill-full, fill-dirty, fill-wide, filled_more, filled_ok, filling-ok}
use Rattle.trm_core.proofs.Laws.Fit.{block_in, line_in_lem}
use Rattle.trm_core.proofs.Laws.Phases.{due-cached}
use Rattle.trm_agreement.proofs.Laws.Relation.{Extra, plain_of, Common, MatchesBut, Agree, refill, last}
use Rattle.trm_agreement.proofs.Laws.Moves.{leaving, moved-agrees, common-move, related-by, misses-is, cached-refill}
use Rattle.trm_agreement.proofs.Laws.Moves.{cached_writeback}

module _ (G : Geometry) (p : List ℕ) (w : ℕ) (m : Machine) (s : List ℕ) (e : Extra) (cm : Common G m s e)
    (wq : word_at p m.scalars.pc ≡ w) where
  -- one clock of a refill
  pub fill_step : (n : ℕ) → kind_of w (visible_of m) m.scalars.size ≡ cached → m.scalars.running.count < burst G
      → m.scalars.running.count + suc n ≡ 1 + burst G
      → MatchesBut G (target_line G w (visible_of m) m.scalars.size) e.history (cache_of m)
      → (line_at G (cache_of m) (target_line G w (visible_of m) m.scalars.size)).full ≡ false
      → last_in (since G e.history (target_line G w (visible_of m) m.scalars.size))
      (target_block G w (visible_of m) m.scalars.size) ≡ false
      → Filled G (line_at G (cache_of m) (target_line G w (visible_of m) m.scalars.size)) s
      (target_block G w (visible_of m) m.scalars.size)
      m.scalars.running.count
      → Agree G p (quiet m.regs
      (filling G (target_block G w (visible_of m) m.scalars.size) (target_line G w (visible_of m) m.scalars.size)
      m.scalars.running.count m.scalars (cache_of m) s)) (spend G w (plain_of m e) n)
  unfolding filling hits line_for
  fill_step n kq hc hn mt empty missed fl = go (eqb (c + 1) (burst G)) refl
    where
      c : ℕ
      c = m.scalars.running.count

      is : Is cached w (visible_of m) m.scalars.size
      is = is-of w (visible_of m) m.scalars.size cached kq

      wpos : 0 < G.words
      wpos = cm.fit.wpos

      l : ℕ
      l = target_line G w (visible_of m) m.scalars.size

      b : ℕ
      b = target_block G w (visible_of m) m.scalars.size

      ln : Line
      ln = line_at G (cache_of m) l

      lin : l < G.lines
      lin = line_in_lem G w (visible_of m) m.scalars.size cm.fit.lpos

      ok : LineOk G s l ln
      ok = cm.sane.each l lin

      part : Line
      part = fill_line G ln s b c

      ls : Cache
      ls = fill_word G (cache_of m) l s b c

      fb : Becomes G (cache_of m) l part ls
      fb = becomes_fill G (cache_of m) l cm.sane.wide lin s b c hc (omega arith)

      ms : misses G w (plain_of m e) ≡ true
      ms = misses-is G w m s e cm ∙ ap not missed

      no_write : writeback_over G w (plain_of m e) n ≡ 0
      no_write = cached_writeback G w m s e cm n is ∙ (rw (ms, ne_eqb n (1 + burst G) (omega arith)) (shut (evicts G w (plain_of m e))))
        where
          shut : (t : Bool) → ◌≡◌ {A = ℕ} (cond (t && false) 1 0) 0
          shut true = refl
          shut false = refl

      on : {A : Type 0} → cache_on (visible_of m) ≡ false → A
      on q = bool_clash (cache_on (visible_of m)) is.on q

      more : Filled G part s b (c + 1)
      more = filled_more G wpos ln s b c hc ok.wide fl

      go : (t : Bool) → eqb (c + 1) (burst G) ≡ t
          → Agree G p (quiet m.regs (cond t (moved m.scalars (in_phase 5 0) (filled ls l b) s 1 0)
          (moved m.scalars (in_phase 3 (c + 1)) ls s 0 0))) (spend G w (plain_of m e) n)
      go true q = moved-agrees G p w m s e (in_phase 5 0) (filled ls l b) s 1 0 n
          (cached-refill G w m s e cm n is ∙ (rw (ms, eq-eqb n 1 (omega (arith, full))))) no_write
          (related-by G p w cached _ s (leaving e n) wq kq
          (common-move G m s e (in_phase 5 0) (filled ls l b) s 1 0 n cm refl
          (sane_update G wpos (cache_of m) s l new (filled ls l b) s bc cm.sane refl ok' (λ a z. refl))
          (clean-swap G wpos (cache_of m) s l new (filled ls l b) bc lin cm.sane (ok.empty_clean empty) ok' refl)
          on (omega arith) (omega arith))
          (last refl (due-cached G w m.scalars.size (visible_of m) (filled ls l b) kq held-now) (omega (arith, full)) (record {
            others = λ k hk z. rw (bc.there k z) (mt k hk z);
            block = held-now;
            dirty = rw (bc.here, missed);
          })))
        where
          full : c + 1 ≡ burst G
          full = eqb-true (c + 1) (burst G) q

          new : Line
          new = full_line part b

          bc : Becomes G (cache_of m) l new (filled ls l b)
          bc = becomes_then G (cache_of m) ls (filled ls l b) l part new fb (rw fb.here at (becomes_full G ls l fb.wide lin b))

          held-now : holds (line_at G (filled ls l b) l) b ≡ true
          held-now = rw bc.here (holds-yes new b refl refl)

          ok' : LineOk G s l new
          ok' = filled_ok G wpos s l part b (rw (fill-wide G wpos ln s b c) ok.wide) home' fits' (rw full at more)
            where
              home' : line_of G b ≡ l
              home' = unfold target_line in refl

              fits' : b * G.words + G.words ≤ length s
              fits' = rw cm.size (block_in G w (visible_of m) m.scalars.size cm.fit)
      go false q = moved-agrees G p w m s e (in_phase 3 (c + 1)) ls s 0 0 n
          (cached-refill G w m s e cm n is ∙ (rw (ms, ne_eqb n 1 (omega (arith, short))))) no_write
          (related-by G p w cached _ s (leaving e n) wq kq
          (common-move G m s e (in_phase 3 (c + 1)) ls s 0 0 n cm refl
          (sane_update G wpos (cache_of m) s l part ls s fb cm.sane refl ok' (λ a z. refl))
          (clean-swap G wpos (cache_of m) s l part ls fb lin cm.sane (ok.empty_clean empty) ok'
          (fill-dirty G wpos ln s b c ∙ ok.empty_clean empty)) on (omega arith) (omega arith))
          (refill refl refl short (omega arith)
          (λ k hk z. rw (fb.there k z) (mt k hk z))
          (rw fb.here (fill-full G wpos ln s b c ∙ empty)) missed (rw fb.here more)))
        where
          short : c + 1 < burst G
          short = let z = eqb-false (c + 1) (burst G) q in omega arith

          ok' : LineOk G s l part
          ok' = filling-ok G wpos s l ln b c empty ok
