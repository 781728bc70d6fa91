-- One clock of both machines agrees, whatever is in flight and whatever the line byte and input word.
-- Idea: by cases of what is in flight; `Laws.Phases` of trm_core says for each phase whether the clock is the word's last and what it does.
use Prim.Native.Nat.{ℕ, zero, suc, ◌+◌, ◌-◌, ◌*◌, ◌≤◌, ◌<◌}
use mathlib.Core.Path.{◌≡◌, refl, sym, ap, ◌∙◌}
use mathlib.Core.Logic.{◌≢◌}
use mathlib.Core.Bool.{Bool, true, false, cond, not}
use mathlib.Core.List.{List}
use lib.Dec.{eqb}
use borrow.Author.Tests.{eqb-true, eqb-false, eq-eqb, ne_eqb}
use native.Mathlib.Omega.{arith}
use Rattle.trm_reference.specs.Geometry.{Geometry, burst}
use Rattle.trm_reference.specs.Visible.{word_at}
use Rattle.trm_reference.specs.Access.{silent}
use Rattle.trm_reference.specs.Interrupt.{stalled, interrupt_chosen, interrupted}
use Rattle.trm_reference.specs.Charge.{uncached_charge}
use Rattle.trm_reference.specs.Trace.{Pins}
use Rattle.trm_reference.specs.Reference.{charge, spend, take_off, reference_held, reference_interrupt, reference_unheld, reference_clock}
use Rattle.trm_reference.proofs.Laws.Execute.{interrupted-on, interrupted-narrow}
use Rattle.trm_core.specs.Record.{Machine}
use Rattle.trm_core.specs.declared.record.Running.{Running}
use Rattle.trm_cache.specs.Cache.{count_dirty}
use Rattle.trm_core.specs.Record.{visible_of, cache_of, stepping, in_phase}
use Rattle.trm_core.specs.Clock.{Moved, quiet, carried, charge_here, is_last, advance, worked, unheld, held_clock, clock_of}
use Rattle.trm_core.proofs.Laws.Kind.{Kind, longer, uncached, kind_of, Is, is-of}
use Rattle.trm_core.proofs.Laws.Phases.{times-pos, phase-of, last_0, last_1, last_2, last_3, last_4, last_5, advance_0, advance_1}
use Rattle.trm_core.proofs.Laws.Phases.{advance_2_cached, advance_2_clearing, advance_3, advance_4}
use Rattle.trm_core.proofs.Laws.Table.{worked-last, worked-on}
use Rattle.trm_agreement.proofs.Laws.History.{Matches}
use Rattle.trm_agreement.proofs.Laws.Relation.{Extra, plain_of, Common, Due, Flight, Related, Agree, ready, arithmetic, write_back}
use Rattle.trm_agreement.proofs.Laws.Relation.{clearing_off, refill, waiting, last}
use Rattle.trm_agreement.proofs.Laws.Bounds.{charge_here-pos}
use Rattle.trm_agreement.proofs.Laws.Finish.{finish-agrees}
use Rattle.trm_agreement.proofs.Laws.Moves.{take_off-last, take_off-more, still-move}
use Rattle.trm_agreement.proofs.Laws.WriteBack.{write_step, clear_step}
use Rattle.trm_agreement.proofs.Laws.Refill.{fill_step}
use Rattle.trm_agreement.proofs.Laws.First.{charge-agrees, due-now, first_step}

module _ (G : Geometry) (p : List ℕ) where
  module _ (w : ℕ) (m : Machine) (s : List ℕ) (e : Extra) (cm : Common G m s e) (wq : word_at p m.scalars.pc ≡ w) where
    -- the last clock of a word, and any other
    ends : (k : Kind) (n i : ℕ) → kind_of w (visible_of m) m.scalars.size ≡ k
        → is_last G w m.scalars.size m.scalars.running (visible_of m) (cache_of m) ≡ true → n ≡ 1
        → Due G k w m.scalars.size (visible_of m) (cache_of m) e.history
        → Agree G p (worked G w m.scalars.size m s i) (take_off G w (plain_of m e) n i)
    ends k n i kq lq nq du = rw (worked-last G w m.scalars.size m s i lq, take_off-last G w (plain_of m e) n i nq)
        (finish-agrees G p k w m s e i cm (is-of w (visible_of m) m.scalars.size k kq) du)

    goes_on : (n n' i : ℕ) (t : Moved) → is_last G w m.scalars.size m.scalars.running (visible_of m) (cache_of m) ≡ false
        → n ≡ 1 + n' → 0 < n' → advance G w m.scalars.size m.scalars (visible_of m) (cache_of m) s ≡ t
        → Agree G p (quiet m.regs t) (spend G w (plain_of m e) n')
        → Agree G p (worked G w m.scalars.size m s i) (take_off G w (plain_of m e) n i)
    goes_on n n' i t lq nq h aq ag = rw (worked-on G w m.scalars.size m s i lq, take_off-more G w (plain_of m e) n n' i nq h, aq) ag

    begins : (k : Kind) (i : ℕ) → kind_of w (visible_of m) m.scalars.size ≡ k → m.scalars.running.phase ≡ 0
        → Matches G e.history (cache_of m) → (c : ℕ) → charge_here G w m.scalars.size (visible_of m) (cache_of m) ≡ c
        → Agree G p (worked G w m.scalars.size m s i) (take_off G w (plain_of m e) c i)
    begins k i kq ph mt c cq = go (eqb c 1) refl
      where
        is : Is k w (visible_of m) m.scalars.size
        is = is-of w (visible_of m) m.scalars.size k kq

        lq : is_last G w m.scalars.size m.scalars.running (visible_of m) (cache_of m) ≡ eqb c 1
        lq = last_0 G w m.scalars.size (visible_of m) (cache_of m) m.scalars.running ph ∙ ap (λ x. eqb x 1) cq

        more : (d : ℕ) → c ≡ d → d ≢ 1 → d ≢ 0 → Agree G p (worked G w m.scalars.size m s i) (take_off G w (plain_of m e) c i)
        more zero q a b = absurd (b refl)
        more (suc d) q a b = goes_on c d i _ (lq ∙ ne_eqb c 1 (λ z. a (sym q ∙ z))) (omega arith) (omega arith)
            (advance_0 G w m.scalars.size (visible_of m) (cache_of m) m.scalars s ph)
            (first_step G p w m s e cm wq mt k d kq is (cq ∙ q) (omega arith))

        go : (t : Bool) → eqb c 1 ≡ t → Agree G p (worked G w m.scalars.size m s i) (take_off G w (plain_of m e) c i)
        go true z = ends k c i kq (lq ∙ z) (eqb-true c 1 z) (due-now G p w m s e cm wq mt k kq (cq ∙ eqb-true c 1 z))
        go false z = more c refl (eqb-false c 1 z)
            (λ y. absurd (let h = charge_here-pos G w m.scalars.size (visible_of m) (cache_of m) in omega arith))

    interrupt_step : (line_byte : ℕ) → Matches G e.history (cache_of m)
        → Agree G p
        (carried m.scalars (interrupted (visible_of m) (interrupt_chosen m.scalars.status line_byte)) (cache_of m) s (silent 0))
        (reference_interrupt (interrupt_chosen m.scalars.status line_byte) (plain_of m e))
    unfolding reference_interrupt
    interrupt_step line_byte mt = record {
      extra = record { memory = e.memory; history = e.history; left = 0 };
      plain = refl;
      related = record {
        common = record {
          size = cm.size;
          memory = cm.memory;
          view = cm.view;
          sane = cm.sane;
          off = λ q. cm.off (sym (interrupted-on (visible_of m) (interrupt_chosen m.scalars.status line_byte)) ∙ q);
          fit = cm.fit;
          legal = cm.legal;
          narrow = interrupted-narrow (visible_of m) line_byte cm.narrow;
          counted = record {
            held = (let h = cm.counted.held in omega arith);
            refills = (let h = cm.counted.refills in omega arith);
            writebacks = (let h = cm.counted.writebacks in omega arith);
          };
        };
        flight = ready refl refl mt;
      };
      out = refl;
    }

    -- with something in flight, no interrupt
    in_flight_lem : (k : Kind) (pins : Pins) (ph : ℕ) → m.scalars.running.phase ≡ suc ph → 0 < e.left
        → Agree G p (worked G w m.scalars.size m s pins.input) (take_off G w (plain_of m e) e.left pins.input)
        → Agree G p (unheld G w m.scalars.size m s pins) (reference_unheld G w (plain_of m e) pins)
    unfolding unheld reference_unheld
    in_flight_lem k pins ph q h a = rw (ne_eqb m.scalars.running.phase 0 (omega arith), ne_eqb e.left 0 (omega arith)) a

    unheld-step : (k : Kind) (pins : Pins) → kind_of w (visible_of m) m.scalars.size ≡ k
        → Flight G w m.scalars.size k m.scalars.running (visible_of m) (cache_of m) s e.history e.left
        → Agree G p (unheld G w m.scalars.size m s pins) (reference_unheld G w (plain_of m e) pins)
    unfolding unheld reference_unheld
    unheld-step k pins kq (ready rq lf mt) = rw (eq-eqb m.scalars.running.phase 0 ph, eq-eqb e.left 0 lf)
        (go (eqb (interrupt_chosen m.scalars.status pins.line_byte) 0))
      where
        ph : m.scalars.running.phase ≡ 0
        ph = phase-of m.scalars.running 0 0 rq

        go : (t : Bool)
            → Agree G p
            (cond (not t) (carried m.scalars (interrupted (visible_of m) (interrupt_chosen m.scalars.status pins.line_byte))
            (cache_of m) s (silent 0)) (worked G w m.scalars.size m s pins.input))
            (cond t (take_off G w (plain_of m e) (charge G w (plain_of m e)) pins.input)
            (reference_interrupt (interrupt_chosen m.scalars.status pins.line_byte) (plain_of m e)))
        go true = begins k pins.input kq ph mt (charge G w (plain_of m e)) (sym (charge-agrees G p w m s e cm wq mt))
        go false = interrupt_step pins.line_byte mt
    unheld-step k pins kq (arithmetic q rq one sum pos mt) = in_flight_lem k pins 0 ph pos (go (eqb (m.scalars.running.count + 1) 33) refl)
      where
        ph : m.scalars.running.phase ≡ 1
        ph = ap (λ (x : Running). x.phase) rq

        lq : is_last G w m.scalars.size m.scalars.running (visible_of m) (cache_of m) ≡ eqb (m.scalars.running.count + 1) 33
        lq = last_1 G w m.scalars.size (visible_of m) (cache_of m) m.scalars.running ph (kq ∙ q)

        go : (t : Bool) → eqb (m.scalars.running.count + 1) 33 ≡ t
            → Agree G p (worked G w m.scalars.size m s pins.input) (take_off G w (plain_of m e) e.left pins.input)
        go true z = ends longer e.left pins.input (kq ∙ q) (lq ∙ z)
            (let y = eqb-true (m.scalars.running.count + 1) 33 z in omega arith) mt
        go false z = let y = eqb-false (m.scalars.running.count + 1) 33 z in
            goes_on e.left (e.left - 1) pins.input _ (lq ∙ z) (omega arith) (omega arith)
            (advance_1 G w m.scalars.size (visible_of m) (cache_of m) m.scalars s ph)
            (still-move G p w m s e cm wq longer (stepping w (visible_of m) (m.scalars.running.count + 1)) (e.left - 1)
            (kq ∙ q) refl refl
            (arithmetic refl refl (omega arith) (omega arith) (omega arith) mt))
    unheld-step k pins kq (write_back q rq hc sum mt hold d wr) = in_flight_lem k pins 1 ph (omega arith)
        (goes_on e.left (e.left - 1) pins.input _
        (last_2 G w m.scalars.size (visible_of m) (cache_of m) m.scalars.running ph)
        (omega arith) (omega arith) (advance_2_cached G w m.scalars.size (visible_of m) (cache_of m) m.scalars s ph (kq ∙ q))
        (write_step G p w m s e cm wq (e.left - 1) (kq ∙ q) hc (omega arith) mt hold d wr))
      where
        ph : m.scalars.running.phase ≡ 2
        ph = phase-of m.scalars.running 2 m.scalars.running.count rq
    unheld-step k pins kq (clearing_off q rq hc sum some wr) = in_flight_lem k pins 1 ph (omega (arith, more))
        (goes_on e.left (e.left - 1) pins.input _
        (last_2 G w m.scalars.size (visible_of m) (cache_of m) m.scalars.running ph)
        (omega (arith, more)) (omega (arith, more))
        (advance_2_clearing G w m.scalars.size (visible_of m) (cache_of m) m.scalars s ph (kq ∙ q))
        (clear_step G p w m s e cm wq m.scalars.running.count (e.left - 1) (kq ∙ q) hc (omega (arith, more)) some wr))
      where
        ph : m.scalars.running.phase ≡ 2
        ph = phase-of m.scalars.running 2 m.scalars.running.count rq

        more : burst G ≤ burst G * count_dirty G (cache_of m)
        more = times-pos (burst G) (count_dirty G (cache_of m)) some
    unheld-step k pins kq (refill q rq hc sum mt empty missed fl) = in_flight_lem k pins 2 ph (omega arith)
        (goes_on e.left (e.left - 1) pins.input _
        (last_3 G w m.scalars.size (visible_of m) (cache_of m) m.scalars.running ph)
        (omega arith) (omega arith) (advance_3 G w m.scalars.size (visible_of m) (cache_of m) m.scalars s ph)
        (fill_step G p w m s e cm wq (e.left - 1) (kq ∙ q) hc (omega arith) mt empty missed fl))
      where
        ph : m.scalars.running.phase ≡ 3
        ph = phase-of m.scalars.running 3 m.scalars.running.count rq
    unheld-step k pins kq (waiting q rq one sum pos mt) = in_flight_lem k pins 3 ph pos
        (go (eqb (m.scalars.running.count + 1) (uncached_charge w)) refl)
      where
        ph : m.scalars.running.phase ≡ 4
        ph = phase-of m.scalars.running 4 m.scalars.running.count rq

        lq : is_last G w m.scalars.size m.scalars.running (visible_of m) (cache_of m) ≡ eqb (m.scalars.running.count + 1)
            (uncached_charge w)
        lq = last_4 G w m.scalars.size (visible_of m) (cache_of m) m.scalars.running ph

        go : (t : Bool) → eqb (m.scalars.running.count + 1) (uncached_charge w) ≡ t
            → Agree G p (worked G w m.scalars.size m s pins.input) (take_off G w (plain_of m e) e.left pins.input)
        go true z = ends uncached e.left pins.input (kq ∙ q) (lq ∙ z)
            (let y = eqb-true (m.scalars.running.count + 1) (uncached_charge w) z in omega arith) mt
        go false z = let y = eqb-false (m.scalars.running.count + 1) (uncached_charge w) z in
            goes_on e.left (e.left - 1) pins.input _ (lq ∙ z) (omega arith) (omega arith)
            (advance_4 G w m.scalars.size (visible_of m) (cache_of m) m.scalars s ph)
            (still-move G p w m s e cm wq uncached (in_phase 4 (m.scalars.running.count + 1)) (e.left - 1) (kq ∙ q) refl refl
            (waiting refl refl (omega arith) (omega arith) (omega arith) mt))
    unheld-step k pins kq (last rq ok one du) = in_flight_lem k pins 4 ph (omega arith)
        (ends k e.left pins.input kq (last_5 G w m.scalars.size (visible_of m) (cache_of m) m.scalars.running ph) one du)
      where
        ph : m.scalars.running.phase ≡ 5
        ph = phase-of m.scalars.running 5 0 rq

  held-step : (m : Machine) (s : List ℕ) (e : Extra) → Related G p m s e → Agree G p (held_clock m s) (reference_held (plain_of m e))
  unfolding held_clock reference_held
  held-step m s e r = record {
    extra = e;
    plain = refl;
    related = record {
      common = record {
        size = r.common.size;
        memory = r.common.memory;
        view = r.common.view;
        sane = r.common.sane;
        off = r.common.off;
        fit = r.common.fit;
        legal = r.common.legal;
        narrow = r.common.narrow;
        counted = record {
          held = (let h = r.common.counted.held in omega arith);
          refills = (let h = r.common.counted.refills in omega arith);
          writebacks = (let h = r.common.counted.writebacks in omega arith);
        };
      };
      flight = r.flight;
    };
    out = refl;
  }

  pub clock-step : (m : Machine) (s : List ℕ) (e : Extra) (pins : Pins) → Related G p m s e
      → Agree G p (clock_of G p (record { machine = m; store = s }) pins) (reference_clock G p (plain_of m e) pins)
  unfolding clock_of reference_clock
  clock-step m s e pins r = rw r.common.size (go (stalled pins.line_byte))
    where
      go : (t : Bool) → Agree G p (cond t (held_clock m s) (unheld G (word_at p m.scalars.pc) m.scalars.size m s pins))
          (cond t (reference_held (plain_of m e)) (reference_unheld G (word_at p m.scalars.pc) (plain_of m e) pins))
      go true = held-step m s e r
      go false = unheld-step (word_at p m.scalars.pc) m s e r.common refl
          (kind_of (word_at p m.scalars.pc) (visible_of m) m.scalars.size) pins refl r.flight
