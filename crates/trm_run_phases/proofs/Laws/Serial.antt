-- The invariant `Stepped` of the loop over steps of the multiplier or the divider, and its preservation by one more clock.
-- Idea: of the scalars only the registers in flight and the counts change; the clocks without a step were held.
--   Stepped   the invariant       stepped-begins, stepped-on   no clock, one more clock
--   serves, packed, serial_room   the preconditions of the calls in the loop
use Prim.Native.Nat.{ℕ, ◌+◌, ◌-◌, ◌≤◌, ◌<◌, ◌^◌}
use mathlib.Core.Path.{◌≡◌, refl, sym, ap, subst}
use mathlib.Core.Logic.{◌≢◌}
use mathlib.Core.Bool.{Bool, true, false, cond}
use mathlib.Core.List.{List}
use lib.ListN.{length, get_or}
use native.Mathlib.Omega.{arith}
use Rattle.trm_word.specs.Fields.{operation}
use Rattle.trm_word.specs.Charge.{charge_of}
use Rattle.trm_reference.specs.Execute.{operand_a, operand_b}
use Rattle.trm_reference.specs.Interrupt.{stalled}
use Rattle.trm_cache.specs.declared.record.Cache.{Cache}
use Rattle.trm_core.specs.declared.record.Running.{Running}
use Rattle.trm_core.specs.declared.record.Scalars.{Scalars}
use Rattle.trm_core.specs.Record.{gathered, stepping, advanced, waited}
use Rattle.trm_clock_scalars.specs.Steps.{Serves}
use Rattle.trm_clock_scalars.specs.Unit.{Packs}
use Rattle.trm_clock_laws.proofs.Laws.Facts.{Facts}
use Rattle.trm_clock_laws.proofs.Laws.Flight.{step-more, packs-word}
use Rattle.trm_run_phases.specs.declared.inner.going.Going.{Going}
use Rattle.trm_run_phases.specs.declared.inner.step_clocks.Serial.{Serial}
use Rattle.trm_run_phases.specs.Reached.{point, Under, serial_at, with_serial}
use Rattle.trm_run_phases.proofs.Laws.Ahead.{On, on_none, reached-on, plain, one_more, step-facts, step-on}

-- the scalars after 0 clocks
serial_none : (c : Scalars) → with_serial c (record { running = c.running; held = 0 }) 0 ≡ c
serial_none c = rw (plain c.counts.clocks, plain c.counts.held)

-- the scalars after k + 1 clocks
serial_more : (c : Scalars) (sr sr' : Serial) (k : ℕ) (t : Bool) (next : Running)
    → sr' ≡ cond t (record { running = sr.running; held = sr.held + 1 }) (record { running = next; held = sr.held })
    → with_serial c sr' (k + 1) ≡ cond t (waited (with_serial c sr k)) (advanced (with_serial c sr k) next 0 0)
serial_more c sr sr' k t next e = rw e (go t)
  where
    go : (u : Bool)
        → with_serial c (cond u (record { running = sr.running; held = sr.held + 1 }) (record { running = next; held = sr.held }))
        (k + 1) ≡ cond u (waited (with_serial c sr k)) (advanced (with_serial c sr k) next 0 0)
    go true = rw (one_more c.counts.clocks k, one_more c.counts.held sr.held)
    go false = rw (one_more c.counts.clocks k, plain c.counts.refills, plain c.counts.writebacks)

-- the run's state k clocks after g, in phase 1
abbrev pub served : Going → Serial → ℕ → Going
served g sr k = record { scalars = with_serial g.scalars sr k; at = g.at + k; finished = g.finished }

serial_zero : (c : Scalars) → with_serial c (serial_at c c.running 0) 0 ≡ c
serial_zero c =
    let none : 0 - (c.running.count - c.running.count) ≡ 0 = omega arith in
    rw none (serial_none c)

serial_begins : (ls : List ℕ) (w : ℕ) (g : Going) (rs : List ℕ) (ca : Cache) (s : List ℕ) → g.scalars.running.phase ≡ 1
    → On ls w 1 g (served g (serial_at g.scalars g.scalars.running 0) 0) rs ca ca s s
serial_begins ls w g rs ca s e =
    subst (λ c. On ls w 1 g (record { scalars = c; at = g.at + 0; finished = g.finished }) rs ca ca s s) (sym (serial_zero g.scalars))
    (subst (λ i. On ls w 1 g (record { scalars = g.scalars; at = i; finished = g.finished }) rs ca ca s s) (sym (plain g.at))
    (on_none ls w 1 g rs ca s e))

-- one more clock: a held one adds to the held clocks, any other takes a step
serial_next : (c : Scalars) (r r' next : Running) (k : ℕ) (t : Bool) → c.running.count ≤ r.count → r.count ≤ c.running.count + k
    → next.count ≡ r.count + 1 → r' ≡ cond t r next
    → serial_at c r' (k + 1)
    ≡ cond t (record { running = r; held = (serial_at c r k).held + 1 }) (record { running = next; held = (serial_at c r k).held })
serial_next c r r' next k true lo hi n e = rw e (ap (λ h. record { running = r; held = h }) (omega (arith, lo, hi)))
serial_next c r r' next k false lo hi n e = rw e (ap (λ h. record { running = next; held = h }) (omega (arith, lo, hi, n)))

-- and there are at most as many steps as clocks
serial_bounds : (c : Scalars) (r r' next : Running) (k : ℕ) (t : Bool) → c.running.count ≤ r.count → r.count ≤ c.running.count + k
    → next.count ≡ r.count + 1 → r' ≡ cond t r next
    → (c.running.count ≤ r'.count) × (r'.count ≤ c.running.count + (k + 1))
serial_bounds c r r' next k true lo hi n e = rw e (lo, omega (arith, hi))
serial_bounds c r r' next k false lo hi n e = rw e (omega (arith, lo, n), omega (arith, hi, n))

module _ (ls : List ℕ) (w : ℕ) (g : Going) (sr : Serial) (k : ℕ) (rs : List ℕ) (ca : Cache) (s : List ℕ) (u : Under ls w (point g rs ca s))
    (inv : On ls w 1 g (served g sr k) rs ca ca s s) where
  serial_facts : Facts w (length s) (with_serial g.scalars sr k) rs ca
  serial_facts = step-facts ls w g (served g sr k) rs ca ca s s u inv

  serial_on : g.at + k < length ls → sr.running.count + 1 ≢ charge_of (operation w) → (sr' : Serial)
      → sr' ≡ cond (stalled (get_or ls (g.at + k) 0)) (record { running = sr.running; held = sr.held + 1 })
      (record { running = stepping w (gathered g.scalars rs) (sr.running.count + 1); held = sr.held })
      → On ls w 1 g (served g sr' (k + 1)) rs ca ca s s
  serial_on more z sr' e =
      subst (λ i. On ls w 1 g (record { scalars = with_serial g.scalars sr' (k + 1); at = i; finished = g.finished }) rs ca ca s s)
      (sym (one_more g.at k))
      (step-on ls w g (served g sr k) rs ca ca s s u inv more z (with_serial g.scalars sr' (k + 1))
      (serial_more g.scalars sr sr' k (stalled (get_or ls (g.at + k) 0))
      (stepping w (gathered g.scalars rs) (sr.running.count + 1)) e))

  pub serves : sr.running.count + 1 ≢ charge_of (operation w)
      → (a b : ℕ) → a ≡ operand_a w (gathered g.scalars rs) → b ≡ operand_b w (gathered g.scalars rs)
      → Serves w sr.running a b
  serves z a b p q = record {
    seen = gathered g.scalars rs;
    steps = (step-more w (length s) (with_serial g.scalars sr k) rs ca serial_facts inv.phase z).1;
    running = inv.phase;
    first = p;
    second = q;
  }

  -- the counts do not overflow
  pub serial_room : (g.at + k ≤ 65536) × (g.scalars.counts.clocks + k < 2 ^ 32) × (g.scalars.counts.held + sr.held < 2 ^ 32)
  serial_room = let r = reached-on ls w 1 g (served g sr k) rs ca ca s s inv u in let c = serial_facts.counts in (
    omega (arith, r.below, r.feed.many),
    c.clocks,
    omega (arith, c.held, c.clocks),
  )

-- the invariant: the run reached this state, with at most as many steps as clocks
abbrev pub Stepped : List ℕ → ℕ → Going → List ℕ → Cache → List ℕ → Running → ℕ → Type 0
Stepped ls w g rs ca s r k =
    On ls w 1 g (served g (serial_at g.scalars r k) k) rs ca ca s s × (g.scalars.running.count ≤ r.count)
    × (r.count ≤ g.scalars.running.count + k)

-- the invariant before the loop, for any r equal to `running`
pub stepped-begins : (ls : List ℕ) (w : ℕ) (g : Going) (rs : List ℕ) (ca : Cache) (s : List ℕ) (r : Running) → r ≡ g.scalars.running
    → g.scalars.running.phase ≡ 1 → Stepped ls w g rs ca s r 0
stepped-begins ls w g rs ca s r e ph =
    subst (λ x. Stepped ls w g rs ca s x 0) (sym e) (serial_begins ls w g rs ca s ph, omega arith, omega arith)

-- the registers in flight can be packed
pub packed : (ls : List ℕ) (w : ℕ) (g : Going) (rs : List ℕ) (ca : Cache) (s : List ℕ) → Under ls w (point g rs ca s)
    → g.scalars.running.phase ≡ 1 → (b : ℕ) → b ≡ operand_b w (gathered g.scalars rs) → b < 2 ^ 32 → Packs w g.scalars.running
packed ls w g rs ca s u ph b q hb =
    let none = serial_at g.scalars g.scalars.running 0 in
    packs-word w (length s) (with_serial g.scalars none 0) rs ca
    (serial_facts ls w g none 0 rs ca s u (serial_begins ls w g rs ca s ph)) ph (subst (λ x. x < 2 ^ 32) q hb)

pub stepped-on : (ls : List ℕ) (w : ℕ) (g : Going) (rs : List ℕ) (ca : Cache) (s : List ℕ) (r r' : Running) (k : ℕ)
    → Under ls w (point g rs ca s) → Stepped ls w g rs ca s r k → g.at + k < length ls → r.count + 1 ≢ charge_of (operation w)
    → r' ≡ cond (stalled (get_or ls (g.at + k) 0)) r (stepping w (gathered g.scalars rs) (r.count + 1))
    → Stepped ls w g rs ca s r' (k + 1)
stepped-on ls w g rs ca s r r' k u n more z e =
    let next = stepping w (gathered g.scalars rs) (r.count + 1) in
    let t = stalled (get_or ls (g.at + k) 0) in
    let b = serial_bounds g.scalars r r' next k t n.1 n.2 refl e in (
      serial_on ls w g (serial_at g.scalars r k) k rs ca s u n.0 more z (serial_at g.scalars r' (k + 1))
          (serial_next g.scalars r r' next k t n.1 n.2 refl e),
      b.0,
      b.1,
    )
