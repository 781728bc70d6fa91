-- What a clock in phase 0 does, a law for each row of the clock table. Phases 1 to 5 are in Laws/Flight.
-- Idea: the word's kind decides every test of `is_last` and `first_clock`.
use Prim.Native.Nat.{ℕ, ◌+◌, ◌*◌, ◌/◌, ◌%◌}
use mathlib.Core.Path.{◌≡◌, refl, sym, ap, ◌∙◌, subst}
use mathlib.Core.Logic.{◌≢◌}
use mathlib.Core.Bool.{Bool, true, false, cond, not, ◌||◌}
use mathlib.Core.List.{List}
use lib.Dec.{eqb}
use borrow.Author.Tests.{ne_eqb}
use native.Mathlib.Omega.{arith}
use Rattle.trm_laws.proofs.Tests.{clash, test_at}
use Rattle.trm_word.specs.Fields.{operation}
use Rattle.trm_reference.specs.Geometry.{paper_geometry, burst}
use Rattle.trm_reference.specs.Visible.{Visible}
use Rattle.trm_word.specs.declared.inner.address.Place.TheVariants.{Memory}
use Rattle.trm_reference.specs.Access.{is_store, place_of_word, target_line}
use Rattle.trm_reference.specs.Charge.{is_stepped, miss_charge}
use Rattle.trm_cache.specs.Cache.{line_at, holds, count_dirty, first_dirty}
use Rattle.trm_cache.specs.declared.record.Cache.{Cache}
use Rattle.trm_cache.proofs.Laws.Cache.{dirty-full}
use Rattle.trm_cache.proofs.Laws.Dirty.{first-dirty}
use Rattle.trm_core.specs.declared.record.Running.{Running}
use Rattle.trm_core.specs.declared.record.Scalars.{Scalars}
use Rattle.trm_core.specs.Record.{gathered, in_phase, product_at, remainder_at, quotient_at}
use Rattle.trm_core.specs.Clock.{line_for, hits, first_clock}
use Rattle.trm_core.proofs.Laws.Fit.{line_in_lem}
use Rattle.trm_core.proofs.Laws.Kind.{Kind, quick, second, longer, device, cached, uncached, clearing, kind_of, is-of, charge_of_kind}
use Rattle.trm_core.proofs.Laws.Phases.{charge-is, last_0}
use Rattle.trm_core.proofs.Laws.Phases.{advance_0}
use Rattle.trm_core.proofs.Laws.Rule.{Phase, ready, arithmetic, write_back, clearing_off, refill, waiting, due}
use Rattle.trm_clock_laws.proofs.Does.{Ended, Does, Writes, Misses, Finishes, StepsOnce, Waits, BecomesDue}
use Rattle.trm_clock_laws.proofs.Laws.Facts.{Facts}
use Rattle.trm_clock_laws.proofs.Laws.Kinds.{line-at, target_at, hits_at}

unstepped : (w : ℕ) → is_stepped w ≡ false → (eqb (operation w) 8 ≡ false) × (eqb (operation w) 9 ≡ false)
unfolding is_stepped
unstepped w q = go (eqb (operation w) 8) (eqb (operation w) 9) q
  where
    go : (a b : Bool) → a || b ≡ false → (a ≡ false) × (b ≡ false)
    go true b z = clash (sym z)
    go false b z = (refl, z)

-- nothing in flight
running-idle : (r : Running) → r.phase ≡ 0 → r.count ≡ 0 → r.product ≡ 0 → r.remainder ≡ 0 → r.quotient ≡ 0 → r ≡ in_phase 0 0
running-idle r p k x y z =
    ap (λ a. record { phase = a; count = r.count; product = r.product; remainder = r.remainder; quotient = r.quotient }) p
    ∙ ap (λ a. record { phase = 0; count = a; product = r.product; remainder = r.remainder; quotient = r.quotient }) k
    ∙ ap (λ a. record { phase = 0; count = 0; product = a; remainder = r.remainder; quotient = r.quotient }) x
    ∙ ap (λ a. record { phase = 0; count = 0; product = 0; remainder = a; quotient = r.quotient }) y
    ∙ ap (λ a. record { phase = 0; count = 0; product = 0; remainder = 0; quotient = a }) z

module _ (w n : ℕ) (c : Scalars) (rs : List ℕ) (ca : Cache) (f : Facts w n c rs ca) where
  abbrev pub v : Visible
  v = gathered c rs

  -- of an instruction without steps the multiplier and divider registers are zero
  pub idle_ended : is_stepped w ≡ false → eqb c.running.phase 1 ≡ false → Ended w c rs
  unfolding product_at remainder_at quotient_at
  idle_ended s p = let u = unstepped w s in record {
    product = f.registers.product ∙ rw (p, u.0);
    remainder = f.registers.remainder ∙ rw (p, u.1);
    quotient = f.registers.quotient ∙ rw (p, u.1);
  }

  -- phase 0
  module _ (ph : c.running.phase ≡ 0) where
    ct : c.running.count ≡ 0
    ct = go f.phase
      where
        go : Phase paper_geometry w n (kind_of w v n) c.running v ca → c.running.count ≡ 0
        go (ready p e) = e
        go (arithmetic k p a b) = absurd (omega (arith, ph, p))
        go (write_back k p h x d) = absurd (omega (arith, ph, p))
        go (clearing_off k p h s) = absurd (omega (arith, ph, p))
        go (refill k p h e) = absurd (omega (arith, ph, p))
        go (waiting k p a b) = absurd (omega (arith, ph, p))
        go (due p e d) = absurd (omega (arith, ph, p))

    pub idle-running : c.running ≡ in_phase 0 0
    idle-running =
        running-idle c.running ph ct (f.registers.product ∙ rw (test_at ph 1))
        (f.registers.remainder ∙ rw (test_at ph 1)) (f.registers.quotient ∙ rw (test_at ph 1))

    ends : (k : Kind) → kind_of w v n ≡ k → is_stepped w ≡ false
        → charge_of_kind paper_geometry k (is_store w) (not (hits paper_geometry w n v ca)) (line_for paper_geometry w n v ca).dirty
        (count_dirty paper_geometry ca) ≡ 1
        → Finishes w n c rs ca
    ends k kq s one = (
      last_0 paper_geometry w n v ca c.running ph ∙ ap (λ x. eqb x 1) (charge-is paper_geometry w n v ca k kq ∙ one),
      idle_ended s (test_at ph 1),
    )

    goes : (k : Kind) → kind_of w v n ≡ k → (what : List ℕ → _)
        → eqb (charge_of_kind paper_geometry k (is_store w) (not (hits paper_geometry w n v ca)) (line_for paper_geometry w n v ca).dirty
        (count_dirty paper_geometry ca)) 1 ≡ false
        → ((s : List ℕ) → first_clock paper_geometry w n c v ca s ≡ what s) → Does w n c rs ca what
    goes k kq what more first = record {
      more = last_0 paper_geometry w n v ca c.running ph ∙ ap (λ x. eqb x 1) (charge-is paper_geometry w n v ca k kq) ∙ more;
      does = λ s. advance_0 paper_geometry w n v ca c s ph ∙ first s;
    }

    pub first_quick : kind_of w v n ≡ quick → Finishes w n c rs ca
    unfolding charge_of_kind
    first_quick kq = ends quick kq (is-of w v n quick kq).stepped refl

    pub first-second : kind_of w v n ≡ second → BecomesDue w n c rs ca
    unfolding charge_of_kind first_clock
    first-second kq = let is = is-of w v n second kq in
        goes second kq _ refl (λ s. rw (is.stepped, is.without, is.off, is.through))

    pub first-longer : kind_of w v n ≡ longer → StepsOnce w n c rs ca
    unfolding charge_of_kind first_clock
    first-longer kq = let is = is-of w v n longer kq in (
      goes longer kq _ refl (λ s. rw (is.stepped, ct)),
      record {
        stepped = is.stepped;
        few = omega (arith, ct);
        fresh = λ _. ct;
        only = λ other. absurd (other ph);
        registers = f.rule;
      },
    )

    pub first_device_store : kind_of w v n ≡ device → is_store w ≡ true → Finishes w n c rs ca
    unfolding charge_of_kind
    first_device_store kq t = ends device kq (is-of w v n device kq).stepped (rw t)

    pub first_device_load : kind_of w v n ≡ device → is_store w ≡ false → BecomesDue w n c rs ca
    unfolding charge_of_kind first_clock
    first_device_load kq t = let is = is-of w v n device kq in
        goes device kq _ (rw t) (λ s. rw (is.stepped, is.without, is.off, is.through))

    pub first_hit_store : kind_of w v n ≡ cached → hits paper_geometry w n v ca ≡ true → is_store w ≡ true → Finishes w n c rs ca
    unfolding charge_of_kind
    first_hit_store kq h t = ends cached kq (is-of w v n cached kq).stepped (rw (h, t))

    pub first_hit_load : kind_of w v n ≡ cached → hits paper_geometry w n v ca ≡ true → is_store w ≡ false → BecomesDue w n c rs ca
    unfolding charge_of_kind first_clock
    first_hit_load kq h t = let is = is-of w v n cached kq in
        goes cached kq _ (rw (h, t)) (λ s. rw (is.stepped, is.without, is.off, is.through, h))

    pub first-miss : kind_of w v n ≡ cached → hits paper_geometry w n v ca ≡ false → Misses w n c rs ca (target_line paper_geometry w v n)
    unfolding charge_of_kind first_clock miss_charge burst
    first-miss kq h = let is = is-of w v n cached kq in record {
      goes = goes cached kq _ (rw h (long (line_for paper_geometry w n v ca).dirty)) (λ s. rw (
        is.stepped,
        is.without,
        is.off,
        is.through,
        h,
      ));
      line = line_in_lem paper_geometry w v n f.fit.lpos;
    }
      where
        long : (t : Bool) → eqb (2 + 10 + cond t 10 0) 1 ≡ false
        long true = refl
        long false = refl

    -- the same for the index `a` of the access
    pub first_miss_at : (a : ℕ) → place_of_word w v n ≡ Memory a → kind_of w v n ≡ cached
        → holds (line_at paper_geometry ca (a / 8 % 16)) (a / 8) ≡ false → Misses w n c rs ca (a / 8 % 16)
    first_miss_at a p kq h = subst (λ l. Misses w n c rs ca l) (line-at w n v ∙ ap (λ x. x / 8 % 16) (target_at w n v a p))
        (first-miss kq (hits_at w n v ca a p ∙ h))

    pub first-wait : kind_of w v n ≡ uncached → Waits w n c rs ca
    unfolding charge_of_kind first_clock
    first-wait kq = let is = is-of w v n uncached kq in
        (goes uncached kq _ (long (is_store w)) (λ s. rw (is.stepped, is.without, ct)), omega (arith, ct))
      where
        long : (t : Bool) → eqb (cond t 5 6) 1 ≡ false
        long true = refl
        long false = refl

    pub first-clean : kind_of w v n ≡ clearing → count_dirty paper_geometry ca ≡ 0 → Finishes w n c rs ca
    unfolding charge_of_kind burst
    first-clean kq z = ends clearing kq (is-of w v n clearing kq).stepped (rw z)

    -- the first clock of the first write-back is a wait
    pub first-clear : kind_of w v n ≡ clearing → count_dirty paper_geometry ca ≢ 0
        → Writes w n c rs ca true (first_dirty paper_geometry ca)
    unfolding charge_of_kind first_clock burst
    first-clear kq some = let is = is-of w v n clearing kq in let d = first-dirty paper_geometry ca some in
        record {
          goes = goes clearing kq _ (ne_eqb (1 + 10 * count_dirty paper_geometry ca) 1 (omega (arith, some))) (λ s. rw (
            is.stepped,
            is.without,
            is.off,
            ct,
          ));
          line = d.0;
          few = omega (arith, ct);
          inside = let ok = f.lines (first_dirty paper_geometry ca) d.0 in
              ok.inside (dirty-full (line_at paper_geometry ca (first_dirty paper_geometry ca)) ok.empty_clean d.1);
        }
