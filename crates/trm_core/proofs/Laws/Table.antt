-- The clock table on any accepted record: one clock of the word at PC, by phase and kind.
-- A word's first clock by cases of the kind, any other by cases of the phase (laws of `Laws.Goes`).
--   accepted   what an accepted call implies        goes_on   any clock but the last        clock_table
use Prim.Native.Nat.{ℕ, ◌+◌, ◌-◌, ◌*◌, ◌≤◌, ◌<◌}
use mathlib.Core.Path.{◌≡◌, refl, sym, ap, ◌∙◌}
use mathlib.Core.Logic.{◌≢◌}
use mathlib.Core.Bool.{Bool, true, false, cond, not}
use mathlib.Core.List.{List}
use lib.ListN.{length}
use lib.Dec.{eqb, ltb}
use borrow.Author.Tests.{eqb-true, ne_eqb, ltb-false}
use native.Mathlib.Omega.{arith}
use Rattle.trm_laws.proofs.Tests.{both}
use Rattle.trm_word.specs.Address.{store_length_ok}
use Rattle.trm_alu.specs.Word.{flag}
use Rattle.trm_reference.specs.Geometry.{Geometry, geometry_ok, burst}
use Rattle.trm_reference.specs.Visible.{Visible, word_at}
use Rattle.trm_reference.specs.Access.{is_store, target_line}
use Rattle.trm_reference.specs.Charge.{miss_charge, uncached_charge}
use Rattle.trm_core.specs.declared.record.Running.{Running}
use Rattle.trm_core.specs.declared.record.Scalars.{Scalars}
use Rattle.trm_core.specs.Record.{Machine}
use Rattle.trm_cache.specs.Cache.{count_dirty}
use Rattle.trm_cache.specs.declared.record.Cache.{Cache}
use Rattle.trm_core.specs.Record.{visible_of, cache_of, stepping, in_phase}
use Rattle.trm_core.specs.Clock.{moved, quiet, line_for, hits, charge_here, is_last, finish, missing, first_clock, advance}
use Rattle.trm_core.specs.Clock.{worked, clock_of}
use Rattle.trm_core.specs.Rule.{due_ok, record_ok}
use Rattle.trm_core.specs.Refusals.{program_ok, store_ok, record_rows, count_row, clock_rows, clock_refusal}
use Rattle.trm_core.specs.Claims.{Shaped, left_of, to_come, ClockTable}
use Rattle.trm_core.proofs.Laws.Fit.{Fit, fit}
use Rattle.trm_core.proofs.Laws.Kind.{Kind, quick, second, longer, device, cached, uncached, clearing, kind_of, is-of, charge_of_kind}
use Rattle.trm_cache.proofs.Laws.Lines.{Wide}
use Rattle.trm_core.proofs.Laws.Deaf.{answer-done, clocks_are_three}
use Rattle.trm_core.proofs.Laws.Rule.{Phase, ready, arithmetic, write_back, clearing_off, refill, waiting, due, Valid, valid-from}
use Rattle.trm_core.proofs.Laws.Phases.{idle, due-second, due_device, due-cached, charge-is, left_0, left_1, left_2_cached}
use Rattle.trm_core.proofs.Laws.Phases.{left_2_clearing, left_3, left_4, left_5, last-is, advance_0, advance_1, advance_2_cached}
use Rattle.trm_core.proofs.Laws.Phases.{advance_2_clearing, advance_3, advance_4}
use Rattle.trm_core.proofs.Laws.Goes.{Lines, Goes, stays, write_goes, clear-goes, fill-goes, miss-goes}

-- what an accepted clock call implies: rows 4, 5 and 8
pub record Accepted (G : Geometry) (p : List ℕ) (m : Machine) (s : List ℕ) : Type 0 where
  pub fit : Fit G (length s)
  pub legal : store_length_ok (length s) ≡ true
  pub size : length s ≡ m.scalars.size
  pub valid : Valid G p (length s) m
  pub room : m.scalars.counts.clocks + 1 ≤ 4294967295

pub accepted : (G : Geometry) (p : List ℕ) (m : Machine) (s : List ℕ) (line_byte : ℕ) → geometry_ok G ≡ true → Shaped G m
    → clock_refusal G p m s line_byte ≡ 0 → Accepted G p m s
unfolding clock_refusal record_rows clock_rows count_row store_ok
accepted G p m s line_byte g sh = go (program_ok p) (store_ok m s) refl (record_ok G p (length s) m) refl (ltb 7 line_byte)
    (ltb 4294967295 (m.scalars.counts.clocks + 1)) refl
  where
    go : (a b : Bool) → store_ok m s ≡ b → (c : Bool) → record_ok G p (length s) m ≡ c → (d e : Bool)
        → ltb 4294967295 (m.scalars.counts.clocks + 1) ≡ e
        → ◌≡◌ {A = ℕ} (cond (not a) 3 (cond (not b) 4 (cond (not c) 5 (cond d 6 (cond e 8 0))))) 0 → Accepted G p m s
    go false b x c y d e z q = absurd (omega arith)
    go true false x c y d e z q = absurd (omega arith)
    go true true x false y d e z q = absurd (omega arith)
    go true true x true y true e z q = absurd (omega arith)
    go true true x true y false true z q = absurd (omega arith)
    go true true x true y false false z q = both (store_length_ok (length s)) (eqb (length s) m.scalars.size) (λ i j.
        let f = fit G (length s) g i in record {
          fit = f;
          legal = i;
          size = eqb-true (length s) m.scalars.size j;
          valid = valid-from G p (length s) m sh f.lpos y;
          room = ltb-false 4294967295 (m.scalars.counts.clocks + 1) z;
        }) x

module _ (G : Geometry) (w n : ℕ) (v : Visible) (ok : Fit G n) (c : Scalars) (ca : Cache) (s : List ℕ) (wd : Wide G ca)
    (ls : Lines G n v ca) (len : length s ≡ n) where
  -- only the last clock is left
  soon : (old : ℕ) → due_ok G w n v ca ≡ true → 2 ≡ old → Goes G w n v c old (moved c (in_phase 5 0) ca s 0 0)
  soon old dk eq = stays G w n v ok c ca s wd ls len old (in_phase 5 0) (due refl refl dk) (idle w v 5 0 refl)
      (rw (left_5 G w n v ca (in_phase 5 0) refl) eq)

  steps : (old k : ℕ) → kind_of w v n ≡ longer → 1 ≤ k → k ≤ 32 → 33 - k + 1 ≡ old → Goes G w n v c old (moved c (stepping w v k) ca s 0 0)
  steps old k kq one top eq = stays G w n v ok c ca s wd ls len old (stepping w v k) (arithmetic kq refl one top)
      (record { product = refl; remainder = refl; quotient = refl }) (rw (left_1 G w n v ca (stepping w v k) refl kq) eq)

  waits : (old k : ℕ) → kind_of w v n ≡ uncached → 1 ≤ k → k < uncached_charge w → uncached_charge w - k + 1 ≡ old
      → Goes G w n v c old (moved c (in_phase 4 k) ca s 0 0)
  waits old k kq one top eq = stays G w n v ok c ca s wd ls len old (in_phase 4 k) (waiting kq refl one top) (idle w v 4 k refl)
      (rw (left_4 G w n v ca (in_phase 4 k) refl) eq)

  -- phase 0
  abbrev First : Kind → Type 0
  First k = kind_of w v n ≡ k → (old : ℕ) → charge_here G w n v ca ≡ old → old ≢ 1 → Goes G w n v c old (first_clock G w n c v ca s)

  first_quick : First quick
  unfolding charge_of_kind
  first_quick kq old oq more = absurd (more (sym oq ∙ charge-is G w n v ca quick kq))

  first-second : First second
  unfolding first_clock charge_of_kind
  first-second kq old oq more = let is = is-of w v n second kq in
      rw (is.stepped, is.without, is.off, is.through) (soon old (due-second G w n v ca kq) (sym (charge-is G w n v ca second kq) ∙ oq))

  first-longer : First longer
  unfolding first_clock charge_of_kind
  first-longer kq old oq more =
      rw (is-of w v n longer kq).stepped (steps old 1 kq (omega arith) (omega arith) (sym (charge-is G w n v ca longer kq) ∙ oq))

  first_device : First device
  unfolding first_clock charge_of_kind
  first_device kq old oq more = let is = is-of w v n device kq in
      rw (is.stepped, is.without, is.off, is.through) (go (is_store w) refl (sym (charge-is G w n v ca device kq) ∙ oq))
    where
      go : (t : Bool) → is_store w ≡ t → ◌≡◌ {A = ℕ} (cond t 1 2) old → Goes G w n v c old (moved c (in_phase 5 0) ca s 0 0)
      go true q e = absurd (more (sym e))
      go false q e = soon old (due_device G w n v ca kq q) e

  first-cached : First cached
  unfolding first_clock charge_of_kind
  first-cached kq old oq more = let is = is-of w v n cached kq in
      rw (is.stepped, is.without, is.off, is.through) (go (hits G w n v ca) refl (sym (charge-is G w n v ca cached kq) ∙ oq))
    where
      charged : (t : Bool) → ◌≡◌ {A = ℕ} (cond t 1 2) old → 2 ≡ old
      charged true e = absurd (more (sym e))
      charged false e = e

      go : (t : Bool) → hits G w n v ca ≡ t → cond (not t) (miss_charge G (line_for G w n v ca).dirty) (cond (is_store w) 1 2) ≡ old
          → Goes G w n v c old (cond (not t) (missing G (target_line G w v n) c ca s) (moved c (in_phase 5 0) ca s 0 0))
      go true q e = soon old (due-cached G w n v ca kq q) (charged (is_store w) e)
      go false q e = miss-goes G w n v ok c ca s wd ls len old kq q e

  first_uncached : First uncached
  unfolding first_clock charge_of_kind
  first_uncached kq old oq more = let is = is-of w v n uncached kq in
      let all : uncached_charge w ≡ old = is.cost.0 ∙ sym (charge-is G w n v ca uncached kq) ∙ oq in
      let some : 1 < uncached_charge w = (unfold uncached_charge in omega arith) in
      rw (is.stepped, is.without) (waits old 1 kq (omega arith) some (omega arith))

  first_clearing : First clearing
  unfolding first_clock charge_of_kind
  first_clearing kq old oq more = let is = is-of w v n clearing kq in
      let all : 1 + burst G * count_dirty G ca ≡ old = sym (charge-is G w n v ca clearing kq) ∙ oq in
      rw (is.stepped, is.without, is.off) (clear-goes G w n v ok c ca s wd ls len 0 old kq ok.tpos
      (λ z. more (omega (arith, ap (λ x. burst G * x) z))) (omega arith))

  first_goes : (k : Kind) → First k
  first_goes quick = first_quick
  first_goes second = first-second
  first_goes longer = first-longer
  first_goes device = first_device
  first_goes cached = first-cached
  first_goes uncached = first_uncached
  first_goes clearing = first_clearing

  -- the other phases
  module _ (old : ℕ) (oq : left_of G w n c.running v ca ≡ old) (more : old ≢ 1) where
    on-arithmetic : kind_of w v n ≡ longer → c.running.phase ≡ 1 → 1 ≤ c.running.count → c.running.count ≤ 32
        → Goes G w n v c old (advance G w n c v ca s)
    on-arithmetic kq ph one top = let e = left_1 G w n v ca c.running ph kq in
        rw (advance_1 G w n v ca c s ph) (steps old (c.running.count + 1) kq (omega arith) (omega arith) (omega arith))

    on-wait : kind_of w v n ≡ uncached → c.running.phase ≡ 4 → 1 ≤ c.running.count → c.running.count < uncached_charge w
        → Goes G w n v c old (advance G w n c v ca s)
    on-wait kq ph one top = let e = left_4 G w n v ca c.running ph in
        rw (advance_4 G w n v ca c s ph) (waits old (c.running.count + 1) kq (omega arith) (omega arith) (omega arith))

    pub goes_on : Phase G w n (kind_of w v n) c.running v ca → Goes G w n v c old (advance G w n c v ca s)
    goes_on (ready ph ct) = rw (advance_0 G w n v ca c s ph)
        (first_goes (kind_of w v n) refl old (sym (left_0 G w n v ca c.running ph) ∙ oq) more)
    goes_on (arithmetic kq ph one top) = on-arithmetic kq ph one top
    goes_on (write_back kq ph hc hold d) = rw (advance_2_cached G w n v ca c s ph kq)
        (write_goes G w n v ok c ca s wd ls len c.running.count old kq hc hold d
        (sym (left_2_cached G w n v ca c.running ph kq) ∙ oq))
    goes_on (clearing_off kq ph hc some) = rw (advance_2_clearing G w n v ca c s ph kq)
        (clear-goes G w n v ok c ca s wd ls len c.running.count old kq hc some
        (sym (left_2_clearing G w n v ca c.running ph kq) ∙ oq))
    goes_on (refill kq ph hc empty) = rw (advance_3 G w n v ca c s ph)
        (fill-goes G w n v ok c ca s wd ls len c.running.count old kq hc empty (sym (left_3 G w n v ca c.running ph) ∙ oq))
    goes_on (waiting kq ph one top) = on-wait kq ph one top
    goes_on (due ph ct dk) = absurd (more (sym oq ∙ left_5 G w n v ca c.running ph))

-- a clock of the word at PC is its last, or not
pub worked-last : (G : Geometry) (w n : ℕ) (m : Machine) (s : List ℕ) (i : ℕ)
    → is_last G w n m.scalars.running (visible_of m) (cache_of m) ≡ true → worked G w n m s i ≡ finish G w n m s i
unfolding worked
worked-last G w n m s i q = rw q

pub worked-on : (G : Geometry) (w n : ℕ) (m : Machine) (s : List ℕ) (i : ℕ)
    → is_last G w n m.scalars.running (visible_of m) (cache_of m) ≡ false
    → worked G w n m s i ≡ quiet m.regs (advance G w n m.scalars (visible_of m) (cache_of m) s)
unfolding worked
worked-on G w n m s i q = rw q

worked-done : (G : Geometry) (w n : ℕ) (m : Machine) (s : List ℕ) (i : ℕ)
    → (worked G w n m s i).out.done ≡ flag (is_last G w n m.scalars.running (visible_of m) (cache_of m))
unfolding finish
worked-done G w n m s i = go (is_last G w n m.scalars.running (visible_of m) (cache_of m)) refl
  where
    go : (t : Bool) → is_last G w n m.scalars.running (visible_of m) (cache_of m) ≡ t → (worked G w n m s i).out.done ≡ flag t
    go true q = ap (λ y. y.out.done) (worked-last G w n m s i q) ∙ answer-done w (visible_of m) n i
    go false q = ap (λ y. y.out.done) (worked-on G w n m s i q)

left_after_lem : (G : Geometry) (p : List ℕ) (n : ℕ) (m : Machine) (r : Running) (ca : Cache) (s : List ℕ) (a b : ℕ) → length s ≡ n
    → to_come G p (quiet m.regs (moved m.scalars r ca s a b)).state ≡ left_of G (word_at p m.scalars.pc) n r (visible_of m) ca
unfolding to_come
left_after_lem G p n m r ca s a b len = ap (λ k. left_of G (word_at p m.scalars.pc) k r (visible_of m) ca) len

pub clock_table : ClockTable
unfolding to_come
clock_table G p x pins g sh free st ac = record {
  carries = ap (λ y. y.out.done) works ∙ worked-done G w n m s pins.input ∙ ap flag last;
  silence = λ more. ap (λ y. y.out) (works ∙ worked-on G w n m s pins.input (last ∙ ne_eqb left 1 more));
  lowers = λ more. let o = on more in
      ap (λ y. to_come G p y.state + 1)
      (works ∙ worked-on G w n m s pins.input (last ∙ ne_eqb left 1 more) ∙ ap (quiet m.regs) o.is)
      ∙ ap (λ k. k + 1) (left_after_lem G p n m o.running o.cache o.store o.refilled o.written o.long) ∙ o.lower;
}
  where
    m : Machine
    m = x.machine

    s : List ℕ
    s = x.store

    n : ℕ
    n = length s

    w : ℕ
    w = word_at p m.scalars.pc

    v : Visible
    v = visible_of m

    ca : Cache
    ca = cache_of m

    left : ℕ
    left = left_of G w n m.scalars.running v ca

    a : Accepted G p m s
    a = accepted G p m s pins.line_byte g sh free

    works : clock_of G p x pins ≡ worked G w n m s pins.input
    works = (clocks_are_three G p x pins).works st ac

    last : is_last G w n m.scalars.running v ca ≡ eqb left 1
    last = last-is G w n v ca m.scalars.running a.valid.phase

    on : left ≢ 1 → Goes G w n v m.scalars left (advance G w n m.scalars v ca s)
    on more = goes_on G w n v a.fit m.scalars ca s a.valid.wide a.valid.lines refl left refl more a.valid.phase
