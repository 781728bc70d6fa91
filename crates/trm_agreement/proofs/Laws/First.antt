-- The first clock of a word, by its kind: the charge by the history is the charge by the record's own lines, and the clock agrees.
-- Idea: while the lines match the history, `charge` is `charge_here`; then both machines use the same test for the end.
use Prim.Native.Nat.{ℕ, zero, suc, ◌+◌, ◌*◌, ◌<◌}
use mathlib.Core.Path.{◌≡◌, refl, sym, ap, ◌∙◌}
use mathlib.Core.Logic.{◌≢◌}
use mathlib.Core.Bool.{Bool, true, false, cond, not}
use mathlib.Core.List.{List}
use borrow.Author.Tests.{ne_eqb}
use native.Mathlib.Omega.{arith}
use Rattle.trm_laws.proofs.Tests.{bool_clash}
use Rattle.trm_reference.specs.Geometry.{Geometry, burst}
use Rattle.trm_reference.specs.Visible.{word_at, cache_on}
use Rattle.trm_reference.specs.Access.{is_store, target_block, target_line}
use Rattle.trm_reference.specs.Charge.{miss_charge, uncached_charge}
use Rattle.trm_reference.specs.History.{since}
use Rattle.trm_reference.specs.Reference.{spend, misses, evicts, charge}
use Rattle.trm_core.specs.Record.{Machine}
use Rattle.trm_cache.specs.Cache.{Line, line_at, holds, emptied, count_dirty}
use Rattle.trm_core.specs.Record.{visible_of, cache_of, stepping, in_phase}
use Rattle.trm_core.specs.Clock.{moved, quiet, missing, first_clock, line_for, hits, charge_here}
use Rattle.trm_core.proofs.Laws.Kind.{Kind, quick, second, longer, device, cached, uncached, clearing, kind_of, Is, charge_of_kind}
use Rattle.trm_core.proofs.Laws.Fit.{line_in_lem}
use Rattle.trm_core.proofs.Laws.Phases.{due-second, due_device, due-cached, charge-is, one-hits}
use Rattle.trm_cache.proofs.Laws.Lines.{empty_line, Becomes, becomes_empty}
use Rattle.trm_cache.proofs.Laws.Cache.{LineOk, sane_update, clean-swap, emptied-ok}
use Rattle.trm_cache.proofs.Laws.Bursts.{Written, Filled}
use Rattle.trm_agreement.proofs.Laws.History.{Judged, Matches, dirty-lines}
use Rattle.trm_agreement.proofs.Laws.Relation.{Extra, plain_of, Common, Holding, Due, Agree, arithmetic, write_back, refill, waiting}
use Rattle.trm_agreement.proofs.Laws.Relation.{last}
use Rattle.trm_agreement.proofs.Laws.Moves.{leaving, moved-agrees, common-move, related-by, misses-is, evicts-is, cached-refill}
use Rattle.trm_agreement.proofs.Laws.Moves.{cached_writeback, plain-move, still-move}
use Rattle.trm_agreement.proofs.Laws.WriteBack.{clear_step}

module _ (G : Geometry) (p : List ℕ) (w : ℕ) (m : Machine) (s : List ℕ) (e : Extra) (cm : Common G m s e)
    (wq : word_at p m.scalars.pc ≡ w) (mt : Matches G e.history (cache_of m)) where
  misses-hits : misses G w (plain_of m e) ≡ not (hits G w m.scalars.size (visible_of m) (cache_of m))
  unfolding hits line_for
  misses-hits = misses-is G w m s e cm
      ∙ ap not (sym ((mt _ (line_in_lem G w (visible_of m) m.scalars.size cm.fit.lpos)).block
      (target_block G w (visible_of m) m.scalars.size)))

  evicts-dirty : evicts G w (plain_of m e) ≡ (line_for G w m.scalars.size (visible_of m) (cache_of m)).dirty
  unfolding line_for
  evicts-dirty = evicts-is G w m s e cm ∙ sym (mt _ (line_in_lem G w (visible_of m) m.scalars.size cm.fit.lpos)).dirty

  pub charge-agrees : charge G w (plain_of m e) ≡ charge_here G w m.scalars.size (visible_of m) (cache_of m)
  unfolding charge charge_here
  charge-agrees = rw (misses-hits, evicts-dirty, dirty-lines G e.history (cache_of m) mt, cm.memory)

  -- an access that finds its block
  holding : hits G w m.scalars.size (visible_of m) (cache_of m) ≡ true
      → Holding G (target_block G w (visible_of m) m.scalars.size) (target_line G w (visible_of m) m.scalars.size)
      e.history (cache_of m)
  unfolding hits line_for
  holding q = record { others = λ k hk z. mt k hk; block = q; dirty = here.dirty ∙ (rw (← here.block _, q)) }
    where
      here : Judged (since G e.history (target_line G w (visible_of m) m.scalars.size))
          (line_at G (cache_of m) (target_line G w (visible_of m) m.scalars.size))
      here = mt _ (line_in_lem G w (visible_of m) m.scalars.size cm.fit.lpos)

  -- a word of one clock may be executed
  pub due-now : (k : Kind) → kind_of w (visible_of m) m.scalars.size ≡ k
      → charge_here G w m.scalars.size (visible_of m) (cache_of m) ≡ 1
      → Due G k w m.scalars.size (visible_of m) (cache_of m) e.history
  unfolding charge_of_kind
  due-now quick kq one = mt
  due-now second kq one = mt
  due-now longer kq one = mt
  due-now device kq one = mt
  due-now uncached kq one = mt
  due-now cached kq one = holding (one-hits G w m.scalars.size (visible_of m) (cache_of m) kq one)
  due-now clearing kq one = none (count_dirty G (cache_of m))
      (sym (charge-is G w m.scalars.size (visible_of m) (cache_of m) clearing kq) ∙ one)
    where
      none : (d : ℕ) → 1 + burst G * d ≡ 1 → d ≡ 0
      none zero h = refl
      none (suc d) h = absurd (omega (arith, cm.fit.tpos))

  -- the first clock of an access through the cache that takes more than one
  first-cached : (left : ℕ) → kind_of w (visible_of m) m.scalars.size ≡ cached → Is cached w (visible_of m) m.scalars.size
      → charge_here G w m.scalars.size (visible_of m) (cache_of m) ≡ suc left → 0 < left
      → Agree G p (quiet m.regs (first_clock G w m.scalars.size m.scalars (visible_of m) (cache_of m) s))
      (spend G w (plain_of m e) left)
  unfolding first_clock charge_here charge_of_kind miss_charge missing hits line_for Written Filled
  first-cached left kq is chg pos = rw (is.stepped, is.without, is.off, is.through)
      (go (holds ln b) refl ln.dirty refl (sym (is.charge G _ _ _) ∙ chg))
    where
      l : ℕ
      l = target_line G w (visible_of m) m.scalars.size

      b : ℕ
      b = target_block G w (visible_of m) m.scalars.size

      ln : Line
      ln = line_at G (cache_of m) l

      lin : l < G.lines
      lin = line_in_lem G w (visible_of m) m.scalars.size cm.fit.lpos

      wpos : 0 < G.words
      wpos = cm.fit.wpos

      tpos : 0 < burst G
      tpos = cm.fit.tpos

      ms : misses G w (plain_of m e) ≡ not (holds ln b)
      ms = misses-is G w m s e cm ∙ ap not (sym ((mt l lin).block b))

      ev : evicts G w (plain_of m e) ≡ ln.dirty
      ev = evicts-is G w m s e cm ∙ sym (mt l lin).dirty

      go : (h : Bool) → holds ln b ≡ h → (d : Bool) → ln.dirty ≡ d
          → cond (not h) (2 + burst G + cond d (burst G) 0) (cond (is_store w) 1 2) ≡ suc left
          → Agree G p (quiet m.regs (cond (not h)
          (cond d (moved m.scalars (in_phase 2 0) (cache_of m) s 0 0) (moved m.scalars (in_phase 3 0) (emptied (cache_of m) l) s 0 0))
          (moved m.scalars (in_phase 5 0) (cache_of m) s 0 0))) (spend G w (plain_of m e) left)
      go true q d dq c = hit (is_store w) c
        where
          hit : (t : Bool) → cond t 1 2 ≡ suc left
              → Agree G p (quiet m.regs (moved m.scalars (in_phase 5 0) (cache_of m) s 0 0)) (spend G w (plain_of m e) left)
          hit true z = absurd (omega arith)
          hit false z = plain-move G p w m s e cm wq cached (in_phase 5 0) left kq (cached-refill G w m s e cm left is ∙ (rw (ms, q)))
              (cached_writeback G w m s e cm left is ∙ (rw (ms, q)))
              (last refl (due-cached G w m.scalars.size (visible_of m) (cache_of m) kq q) (omega arith)
              (holding q))
      go false q true dq c = plain-move G p w m s e cm wq cached (in_phase 2 0) left kq
          (cached-refill G w m s e cm left is ∙ (rw (ms, q, ne_eqb left 1 (omega (arith, tpos)))))
          (cached_writeback G w m s e cm left is ∙ (rw (ms, q, ev, dq, ne_eqb left (1 + burst G) (omega (arith, tpos)))))
          (write_back refl refl tpos (omega arith) mt q dq (λ j hj. absurd (omega arith)))
      go false q false dq c = moved-agrees G p w m s e (in_phase 3 0) (emptied (cache_of m) l) s 0 0 left
          (cached-refill G w m s e cm left is ∙ (rw (ms, q, ne_eqb left 1 (omega (arith, tpos)))))
          (cached_writeback G w m s e cm left is ∙ (rw (ms, q, ev, dq)))
          (related-by G p w cached _ s (leaving e left) wq kq
          (common-move G m s e (in_phase 3 0) (emptied (cache_of m) l) s 0 0 left cm refl
          (sane_update G wpos (cache_of m) s l (empty_line ln) (emptied (cache_of m) l) s bc cm.sane refl ok' (λ a z. refl))
          (clean-swap G wpos (cache_of m) s l (empty_line ln) (emptied (cache_of m) l) bc lin cm.sane dq ok' refl)
          (λ z. bool_clash (cache_on (visible_of m)) is.on z) (omega arith) (omega arith))
          (refill refl refl tpos (omega arith)
          (λ k hk z. rw (bc.there k z) (mt k hk))
          (rw bc.here) (sym ((mt l lin).block b) ∙ q) (λ j hj. absurd (omega arith))))
        where
          bc : Becomes G (cache_of m) l (empty_line ln) (emptied (cache_of m) l)
          bc = becomes_empty G (cache_of m) l cm.sane.wide lin

          ok' : LineOk G s l (empty_line ln)
          ok' = emptied-ok G wpos s l ln (cm.sane.each l lin).wide

  pub first_step : (k : Kind) (left : ℕ) → kind_of w (visible_of m) m.scalars.size ≡ k → Is k w (visible_of m) m.scalars.size
      → charge_here G w m.scalars.size (visible_of m) (cache_of m) ≡ suc left → 0 < left
      → Agree G p (quiet m.regs (first_clock G w m.scalars.size m.scalars (visible_of m) (cache_of m) s))
      (spend G w (plain_of m e) left)
  unfolding first_clock charge_here charge_of_kind Written
  first_step quick left kq is chg pos = absurd (let h : 1 ≡ suc left = sym (is.charge G _ _ _) ∙ chg in omega arith)
  first_step second left kq is chg pos = rw (is.stepped, is.without, is.off, is.through)
      (still-move G p w m s e cm wq second (in_phase 5 0) left kq refl refl
      (last refl (due-second G w m.scalars.size (visible_of m) (cache_of m) kq)
      (let h : 2 ≡ suc left = sym (is.charge G _ _ _) ∙ chg in omega arith) mt))
  first_step longer left kq is chg pos = rw is.stepped
      (still-move G p w m s e cm wq longer (stepping w (visible_of m) 1) left kq refl refl
      (arithmetic refl refl (omega arith) (let h : 33 ≡ suc left = sym (is.charge G _ _ _) ∙ chg in omega arith) pos mt))
  first_step device left kq is chg pos = rw (is.stepped, is.without, is.off, is.through)
      (go (is_store w) refl (sym (is.charge G _ _ _) ∙ chg))
    where
      go : (t : Bool) → is_store w ≡ t → cond t 1 2 ≡ suc left
          → Agree G p (quiet m.regs (moved m.scalars (in_phase 5 0) (cache_of m) s 0 0)) (spend G w (plain_of m e) left)
      go true z c = absurd (omega arith)
      go false z c = still-move G p w m s e cm wq device (in_phase 5 0) left kq refl refl
          (last refl (due_device G w m.scalars.size (visible_of m) (cache_of m) kq z) (omega arith) mt)
  first_step cached left kq is chg pos = first-cached left kq is chg pos
  first_step uncached left kq is chg pos = rw (is.stepped, is.without)
      (still-move G p w m s e cm wq uncached (in_phase 4 1) left kq refl refl
      (waiting refl refl (omega arith)
      (let h : suc left ≡ uncached_charge w = sym chg ∙ is.charge G _ _ _ ∙ sym is.cost.0 in omega arith) pos mt))
  first_step clearing left kq is chg pos = rw (is.stepped, is.without, is.off)
      (clear_step G p w m s e cm wq 0 left kq cm.fit.tpos (let h = sym chg ∙ is.charge G _ _ _ in omega arith) some
      (λ j hj. absurd (omega arith)))
    where
      some : count_dirty G (cache_of m) ≢ 0
      some z = absurd (let h : 1 + burst G * count_dirty G (cache_of m) ≡ suc left = sym (is.charge G _ _ _) ∙ chg in
          let g : 1 + burst G * 0 ≡ suc left = rw z at h in omega arith)
