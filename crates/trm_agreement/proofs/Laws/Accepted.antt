-- A record that is related to a state of the reference machine passes row 5.
-- Idea: the facts of the relation are those of `Valid`.
use Prim.Native.Nat.{ℕ, ◌^◌, ◌<◌}
use mathlib.Core.Path.{◌≡◌, refl, ap}
use mathlib.Core.Bool.{Bool, true, false}
use mathlib.Core.List.{List}
use lib.Dec.{eqb}
use native.Mathlib.Omega.{arith}
use Rattle.trm_laws.proofs.Tests.{bool_clash}
use Rattle.trm_reference.specs.Geometry.{Geometry}
use Rattle.trm_reference.specs.Visible.{Visible, word_at, cache_on}
use Rattle.trm_reference.specs.History.{Event}
use Rattle.trm_core.specs.Record.{Machine}
use Rattle.trm_core.specs.declared.record.Running.{Running}
use Rattle.trm_cache.specs.Cache.{line_at}
use Rattle.trm_cache.specs.declared.record.Cache.{Cache}
use Rattle.trm_core.specs.Record.{visible_of, cache_of, stepping, in_phase}
use Rattle.trm_core.specs.Clock.{hits, line_for}
use Rattle.trm_core.specs.Rule.{record_ok}
use Rattle.trm_core.proofs.Laws.Kind.{Kind}
use Rattle.trm_core.proofs.Laws.Rule.{Phase, Registers, valid-ok, ready as ready_row, arithmetic as step_row, write_back as write_row}
use Rattle.trm_core.proofs.Laws.Rule.{clearing_off as clear_row, refill as fill_row, waiting as wait_row, due as due_row}
use Rattle.trm_core.proofs.Laws.Phases.{phase-of, idle}
use Rattle.trm_agreement.proofs.Laws.Relation.{Extra, Common, Flight, Related, ready, arithmetic, write_back, clearing_off, refill}
use Rattle.trm_agreement.proofs.Laws.Relation.{waiting, last}

module _ (G : Geometry) where
  phase-is : (w n : ℕ) (k : Kind) (r : Running) (v : Visible) (ca : Cache) (s : List ℕ) (h : List Event) (left : ℕ)
      → Flight G w n k r v ca s h left → Phase G w n k r v ca
  unfolding hits line_for
  phase-is w n k r v ca s h left (ready rq lf mt) = ready_row (phase-of r 0 0 rq) (ap (λ (x : Running). x.count) rq)
  phase-is w n k r v ca s h left (arithmetic q rq one sum pos mt) = step_row q (ap (λ (x : Running). x.phase) rq) one (omega arith)
  phase-is w n k r v ca s h left (write_back q rq hc sum mt hold d wr) = write_row q (phase-of r 2 r.count rq) hc hold d
  phase-is w n k r v ca s h left (clearing_off q rq hc sum some wr) = clear_row q (phase-of r 2 r.count rq) hc some
  phase-is w n k r v ca s h left (refill q rq hc sum mt empty missed fl) = fill_row q (phase-of r 3 r.count rq) hc empty
  phase-is w n k r v ca s h left (waiting q rq one sum pos mt) = wait_row q (phase-of r 4 r.count rq) one (omega arith)
  phase-is w n k r v ca s h left (last rq ok one du) = due_row (phase-of r 5 0 rq) (ap (λ (x : Running). x.count) rq) ok

  -- the registers: those of a step in phase 1, else zero
  in_phase_lem : (w ph c : ℕ) (v : Visible) (r : Running) → eqb ph 1 ≡ false → r ≡ in_phase ph c → Registers w r v
  in_phase_lem w ph c v r n q = rw q (idle w v ph c n)

  stepped : (w c : ℕ) (v : Visible) (r : Running) → r ≡ stepping w v c → Registers w r v
  stepped w c v r q = rw q (record { product = refl; remainder = refl; quotient = refl })

  registers-are : (w n : ℕ) (k : Kind) (r : Running) (v : Visible) (ca : Cache) (s : List ℕ) (h : List Event) (left : ℕ)
      → Flight G w n k r v ca s h left → Registers w r v
  registers-are w n k r v ca s h left (ready rq lf mt) = in_phase_lem w 0 0 v r refl rq
  registers-are w n k r v ca s h left (arithmetic q rq one sum pos mt) = stepped w r.count v r rq
  registers-are w n k r v ca s h left (write_back q rq hc sum mt hold d wr) = in_phase_lem w 2 r.count v r refl rq
  registers-are w n k r v ca s h left (clearing_off q rq hc sum some wr) = in_phase_lem w 2 r.count v r refl rq
  registers-are w n k r v ca s h left (refill q rq hc sum mt empty missed fl) = in_phase_lem w 3 r.count v r refl rq
  registers-are w n k r v ca s h left (waiting q rq one sum pos mt) = in_phase_lem w 4 r.count v r refl rq
  registers-are w n k r v ca s h left (last rq ok one du) = in_phase_lem w 5 0 v r refl rq

  pub accepted : (p : List ℕ) (m : Machine) (s : List ℕ) (e : Extra) → m.scalars.counts.clocks < 2 ^ 32 → Related G p m s e
      → record_ok G p m.scalars.size m ≡ true
  accepted p m s e room r = valid-ok G p m.scalars.size m c.fit.lpos (record {
    narrow = c.narrow;
    counts = record { clocks = room; held = c.counted.held; refills = c.counted.refills; writebacks = c.counted.writebacks };
    wide = c.sane.wide;
    lines = λ l h. (let o = c.sane.each l h in record {
      home = o.home;
      inside = λ f. rw c.size at (o.inside f);
      shown = shown l h (cache_on (visible_of m)) refl;
      empty_clean = o.empty_clean;
      empty_zero = o.empty_zero;
    });
    phase = phase-is w m.scalars.size _ m.scalars.running (visible_of m) (cache_of m) s e.history e.left r.flight;
    registers = registers-are w m.scalars.size _ m.scalars.running (visible_of m) (cache_of m) s e.history e.left
        r.flight;
  })
    where
      w : ℕ
      w = word_at p m.scalars.pc

      c : Common G m s e
      c = r.common

      shown : (l : ℕ) → l < G.lines → (on : Bool) → cache_on (visible_of m) ≡ on → (line_at G (cache_of m) l).full ≡ true
          → cache_on (visible_of m) ≡ true
      shown l h true q f = q
      shown l h false q f = bool_clash (line_at G (cache_of m) l).full f (c.off q l h)
