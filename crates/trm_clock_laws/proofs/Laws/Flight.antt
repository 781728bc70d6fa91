-- What a clock of an instruction in flight does: a law for each way in which phases 1 to 5 continue or end.
-- Idea: the phase determines what is running; the record rule then gives the facts of that phase.
use Prim.Native.Nat.{ℕ, ◌+◌, ◌%◌, ◌^◌, ◌≤◌, ◌<◌}
use mathlib.Core.Path.{◌≡◌, refl, sym, ◌∙◌, subst}
use mathlib.Core.Logic.{◌≢◌}
use mathlib.Core.Bool.{Bool, true, false, cond, ◌&&◌, ◌||◌}
use mathlib.Core.List.{List}
use borrow.Author.Tests.{eq-eqb, ne_eqb}
use native.Mathlib.Omega.{arith}
use Rattle.trm_laws.proofs.Tests.{clash, bool_clash, test_at}
use Rattle.trm_word.specs.Fields.{operation}
use Rattle.trm_word.specs.Charge.{charge_of}
use Rattle.trm_reference.specs.Geometry.{paper_geometry, burst, line_of}
use Rattle.trm_reference.specs.Visible.{Visible}
use Rattle.trm_reference.specs.Access.{is_load, target_block, target_line}
use Rattle.trm_reference.specs.Charge.{is_stepped, turns_cache_off, uncached_charge}
use Rattle.trm_reference.specs.Execute.{operand_b}
use Rattle.trm_cache.specs.Cache.{line_at, first_dirty}
use Rattle.trm_cache.specs.declared.record.Cache.{Cache}
use Rattle.trm_cache.proofs.Laws.Cache.{dirty-full}
use Rattle.trm_cache.proofs.Laws.Dirty.{first-dirty}
use Rattle.trm_core.specs.declared.record.Scalars.{Scalars}
use Rattle.trm_core.specs.Record.{gathered}
use Rattle.trm_core.specs.Clock.{line_for, write_line, writing, filling}
use Rattle.trm_core.specs.Rule.{due_ok}
use Rattle.trm_core.proofs.Laws.Fit.{block_in, line_in_lem}
use Rattle.trm_core.proofs.Laws.Kind.{Kind, quick, second, longer, device, cached, uncached, clearing, kind_of, is-of}
use Rattle.trm_core.proofs.Laws.Phases.{due-is, last_1, last_2, last_3, last_4, last_5}
use Rattle.trm_core.proofs.Laws.Phases.{advance_1, advance_2_cached, advance_2_clearing, advance_3, advance_4}
use Rattle.trm_core.proofs.Laws.Rule.{Phase, ready, arithmetic, write_back, clearing_off, refill, waiting, due}
use Rattle.trm_clock_scalars.specs.Unit.{Packs}
use Rattle.trm_clock_scalars.proofs.Laws.Unit.{packs}
use Rattle.trm_clock_laws.proofs.Does.{Does, Writes, Fills, Finishes, StepsOnce, Waits}
use Rattle.trm_clock_laws.proofs.Laws.Facts.{Facts, few-waits}
use Rattle.trm_clock_laws.proofs.Laws.First.{idle_ended}

module _ (w n : ℕ) (c : Scalars) (rs : List ℕ) (ca : Cache) (f : Facts w n c rs ca) where
  abbrev pub v : Visible
  v = gathered c rs

  -- phase 1
  module _ (ph : c.running.phase ≡ 1) where
    arithmetic-is : (kind_of w v n ≡ longer) × (c.running.count ≤ 32)
    arithmetic-is = go f.phase
      where
        go : Phase paper_geometry w n (kind_of w v n) c.running v ca → (kind_of w v n ≡ longer) × (c.running.count ≤ 32)
        go (ready p e) = absurd (omega (arith, ph, p))
        go (arithmetic k p a b) = (k, b)
        go (write_back k p h x d) = absurd (omega (arith, ph, p))
        go (clearing_off k p h s) = absurd (omega (arith, ph, p))
        go (refill k p h e) = absurd (omega (arith, ph, p))
        go (waiting k p a b) = absurd (omega (arith, ph, p))
        go (due p e d) = absurd (omega (arith, ph, p))

    pub stepping-word : is_stepped w ≡ true
    stepping-word = (is-of w v n longer arithmetic-is.0).stepped

    pub packs-word : operand_b w v < 2 ^ 32 → Packs w c.running
    packs-word hb = packs w c.running v stepping-word ph arithmetic-is.1 hb f.rule

    pub serial_count : c.running.count + 1 ≡ charge_of (operation w) → c.running.count ≡ 32
    serial_count q = let z = (is-of w v n longer arithmetic-is.0).cost in omega (arith, q, z)

    pub step-ends : c.running.count + 1 ≡ charge_of (operation w) → Finishes w n c rs ca
    step-ends q = let a = arithmetic-is in
        let all = serial_count q in (
          last_1 paper_geometry w n v ca c.running ph a.0 ∙ rw all,
          record {
            product = f.registers.product ∙ rw (test_at ph 1, all);
            remainder = f.registers.remainder ∙ rw (test_at ph 1, all);
            quotient = f.registers.quotient ∙ rw (test_at ph 1, all);
          },
        )

    pub step-more : c.running.count + 1 ≢ charge_of (operation w) → StepsOnce w n c rs ca
    step-more q = let a = arithmetic-is in let is = is-of w v n longer a.0 in
        let more : c.running.count + 1 ≢ 33 = (λ y. q (y ∙ sym is.cost)) in (
          record {
            more = last_1 paper_geometry w n v ca c.running ph a.0 ∙ ne_eqb (c.running.count + 1) 33 more;
            does = λ s. advance_1 paper_geometry w n v ca c s ph;
          },
          record {
            stepped = is.stepped;
            few = omega (arith, a.1, more);
            fresh = λ z. absurd (omega (arith, ph, z));
            only = λ _. ph;
            registers = f.rule;
          },
        )

  -- phase 2
  module _ (ph : c.running.phase ≡ 2) where
    write_clears : turns_cache_off w v ≡ true → Writes w n c rs ca true (first_dirty paper_geometry ca)
    unfolding burst
    write_clears off = go f.phase
      where
        go : Phase paper_geometry w n (kind_of w v n) c.running v ca → Writes w n c rs ca true (first_dirty paper_geometry ca)
        go (ready p e) = absurd (omega (arith, ph, p))
        go (arithmetic k p a b) = absurd (omega (arith, ph, p))
        go (write_back k p h x d) = bool_clash (turns_cache_off w v) off (is-of w v n cached k).off
        go (clearing_off k p h some) = let d = first-dirty paper_geometry ca some in record {
          goes = record {
            more = last_2 paper_geometry w n v ca c.running ph;
            does = λ s. advance_2_clearing paper_geometry w n v ca c s ph k;
          };
          line = d.0;
          few = h;
          inside = let ok = f.lines (first_dirty paper_geometry ca) d.0 in
              ok.inside (dirty-full (line_at paper_geometry ca (first_dirty paper_geometry ca)) ok.empty_clean d.1);
        }
        go (refill k p h e) = absurd (omega (arith, ph, p))
        go (waiting k p a b) = absurd (omega (arith, ph, p))
        go (due p e d) = absurd (omega (arith, ph, p))

    write-evicts : turns_cache_off w v ≡ false → Writes w n c rs ca false (target_line paper_geometry w v n)
    unfolding burst line_for
    write-evicts off = go f.phase
      where
        go : Phase paper_geometry w n (kind_of w v n) c.running v ca → Writes w n c rs ca false (target_line paper_geometry w v n)
        go (ready p e) = absurd (omega (arith, ph, p))
        go (arithmetic k p a b) = absurd (omega (arith, ph, p))
        go (write_back k p h x d) = let l = line_in_lem paper_geometry w v n f.fit.lpos in record {
          goes = record {
            more = last_2 paper_geometry w n v ca c.running ph;
            does = λ s. advance_2_cached paper_geometry w n v ca c s ph k;
          };
          line = l;
          few = h;
          inside = let ok = f.lines (target_line paper_geometry w v n) l in
              ok.inside (dirty-full (line_at paper_geometry ca (target_line paper_geometry w v n)) ok.empty_clean d);
        }
        go (clearing_off k p h some) = bool_clash (turns_cache_off w v) (is-of w v n clearing k).off off
        go (refill k p h e) = absurd (omega (arith, ph, p))
        go (waiting k p a b) = absurd (omega (arith, ph, p))
        go (due p e d) = absurd (omega (arith, ph, p))

    write-goes_on : Writes w n c rs ca (turns_cache_off w v) (write_line paper_geometry w n v ca)
    unfolding write_line
    write-goes_on = go (turns_cache_off w v) refl
      where
        go : (t : Bool) → turns_cache_off w v ≡ t
            → Writes w n c rs ca t (cond t (first_dirty paper_geometry ca) (target_line paper_geometry w v n))
        go true q = write_clears q
        go false q = write-evicts q

    -- the same for the values that the code computed
    pub write-at : (t : Bool) (l : ℕ) → t ≡ turns_cache_off w v → l ≡ write_line paper_geometry w n v ca → Writes w n c rs ca t l
    write-at t l p q = subst (λ x. Writes w n c rs ca x l) (sym p)
        (subst (λ x. Writes w n c rs ca (turns_cache_off w v) x) (sym q) write-goes_on)

    -- the last clock of a line's write-back
    pub write-end : c.running.count ≡ 9 → (t : Bool) (l : ℕ) → t ≡ turns_cache_off w v → l ≡ write_line paper_geometry w n v ca
        → Does w n c rs ca (writing paper_geometry t l 9 c ca)
    write-end e t l p q = subst (λ k. Does w n c rs ca (writing paper_geometry t l k c ca)) e (write-at t l p q).goes

  -- phase 3
  fill-goes_on : c.running.phase ≡ 3 → Fills w n c rs ca (target_block paper_geometry w v n)
  unfolding burst target_line line_of
  fill-goes_on ph = record {
    goes = record {
      more = last_3 paper_geometry w n v ca c.running ph;
      does = λ s. advance_3 paper_geometry w n v ca c s ph;
    };
    few = go f.phase;
    inside = block_in paper_geometry w v n f.fit;
  }
    where
      go : Phase paper_geometry w n (kind_of w v n) c.running v ca → c.running.count < 10
      go (ready p e) = absurd (omega (arith, ph, p))
      go (arithmetic k p a b) = absurd (omega (arith, ph, p))
      go (write_back k p h x d) = h
      go (clearing_off k p h s) = h
      go (refill k p h e) = h
      go (waiting k p a b) = absurd (omega (arith, ph, p))
      go (due p e d) = absurd (omega (arith, ph, p))

  pub fill-at : c.running.phase ≡ 3 → (b : ℕ) → b ≡ target_block paper_geometry w v n → Fills w n c rs ca b
  fill-at ph b q = subst (λ x. Fills w n c rs ca x) (sym q) (fill-goes_on ph)

  -- the last clock of a refill
  pub fill_end : c.running.phase ≡ 3 → c.running.count ≡ 9 → (b : ℕ) → b ≡ target_block paper_geometry w v n
      → Does w n c rs ca (filling paper_geometry b (b % 16) 9 c ca)
  fill_end ph e b q = subst (λ k. Does w n c rs ca (filling paper_geometry b (b % 16) k c ca)) e (fill-at ph b q).goes

  -- phase 4: the only phase left
  pub wait-left : c.running.phase ≢ 0 → c.running.phase ≢ 5 → c.running.phase ≢ 1 → c.running.phase ≢ 2 → c.running.phase ≢ 3
      → c.running.phase ≡ 4
  wait-left p0 p5 p1 p2 p3 = go f.phase
    where
      go : Phase paper_geometry w n (kind_of w v n) c.running v ca → c.running.phase ≡ 4
      go (ready p e) = absurd (p0 p)
      go (arithmetic k p a b) = absurd (p1 p)
      go (write_back k p h x d) = absurd (p2 p)
      go (clearing_off k p h s) = absurd (p2 p)
      go (refill k p h e) = absurd (p3 p)
      go (waiting k p a b) = p
      go (due p e d) = absurd (p5 p)

  module _ (ph : c.running.phase ≡ 4) where
    pub waiting-is : (kind_of w v n ≡ uncached) × (c.running.count < uncached_charge w)
    waiting-is = go f.phase
      where
        go : Phase paper_geometry w n (kind_of w v n) c.running v ca → (kind_of w v n ≡ uncached) × (c.running.count < uncached_charge w)
        go (ready p e) = absurd (omega (arith, ph, p))
        go (arithmetic k p a b) = absurd (omega (arith, ph, p))
        go (write_back k p h x d) = absurd (omega (arith, ph, p))
        go (clearing_off k p h s) = absurd (omega (arith, ph, p))
        go (refill k p h e) = absurd (omega (arith, ph, p))
        go (waiting k p a b) = (k, b)
        go (due p e d) = absurd (omega (arith, ph, p))

    pub wait-ends : c.running.count + 1 ≡ uncached_charge w → Finishes w n c rs ca
    wait-ends q = (
      last_4 paper_geometry w n v ca c.running ph ∙ eq-eqb (c.running.count + 1) (uncached_charge w) q,
      idle_ended w n c rs ca f (is-of w v n uncached waiting-is.0).stepped (test_at ph 1),
    )

    pub wait-more : c.running.count + 1 ≢ uncached_charge w → Waits w n c rs ca
    wait-more q = (
      record {
        more = last_4 paper_geometry w n v ca c.running ph ∙ ne_eqb (c.running.count + 1) (uncached_charge w) q;
        does = λ s. advance_4 paper_geometry w n v ca c s ph;
      },
      few-waits w n c rs waiting-is.0 waiting-is.1,
    )

  -- phase 5: no instruction with steps has this phase
  pub due-ends : c.running.phase ≢ 0 → c.running.phase ≢ 1 → c.running.phase ≢ 2 → c.running.phase ≢ 3 → c.running.phase ≢ 4
      → Finishes w n c rs ca
  due-ends p0 p1 p2 p3 p4 = go f.phase
    where
      short : (k : Kind) → kind_of w v n ≡ k → due_ok paper_geometry w n v ca ≡ true → is_stepped w ≡ false
      short quick kq d = (is-of w v n quick kq).stepped
      short second kq d = (is-of w v n second kq).stepped
      short longer kq d = longer-due (is_load w) (sym (due-is paper_geometry w n v ca longer kq) ∙ d)
        where
          longer-due : (t : Bool) → (t && false) || false ≡ true → is_stepped w ≡ false
          longer-due true z = clash z
          longer-due false z = clash z
      short device kq d = (is-of w v n device kq).stepped
      short cached kq d = (is-of w v n cached kq).stepped
      short uncached kq d = (is-of w v n uncached kq).stepped
      short clearing kq d = (is-of w v n clearing kq).stepped

      go : Phase paper_geometry w n (kind_of w v n) c.running v ca → Finishes w n c rs ca
      go (ready p e) = absurd (p0 p)
      go (arithmetic k p a b) = absurd (p1 p)
      go (write_back k p h x d) = absurd (p2 p)
      go (clearing_off k p h s) = absurd (p2 p)
      go (refill k p h e) = absurd (p3 p)
      go (waiting k p a b) = absurd (p4 p)
      go (due p e d) = (last_5 paper_geometry w n v ca c.running p, idle_ended w n c rs ca f (short (kind_of w v n) refl d) (test_at p 1))
