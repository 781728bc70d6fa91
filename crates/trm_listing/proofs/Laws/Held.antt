-- A held run: the clock and held counts go up by its clocks, and nothing is written.
-- Idea: induction on the number of clocks.
use Prim.Native.Nat.{ℕ, zero, suc, ◌+◌, ◌-◌, ◌≤◌}
use mathlib.Core.Path.{◌≡◌, refl, sym, ap, ◌∙◌, subst}
use mathlib.Core.Bool.{true}
use mathlib.Core.List.{List, ◌++◌}
use native.Mathlib.Omega.{arith}
use lib.ListN.{length, take, replicate}
use Rattle.trm_reference.specs.Geometry.{paper_geometry}
use Rattle.trm_reference.specs.Interrupt.{stalled}
use Rattle.trm_reference.specs.Trace.{Pins}
use Rattle.trm_cache.specs.declared.record.Cache.{Cache}
use Rattle.trm_core.specs.declared.record.Scalars.{Scalars}
use Rattle.trm_core.specs.Record.{Lent, whole, waited}
use Rattle.trm_core.specs.Clock.{clock_of}
use Rattle.trm_run_phases.proofs.Laws.Here.{held-here}
use Rattle.trm_list_rows.specs.declared.inner.listed.Listed.{Listed}
use Rattle.trm_list_rows.specs.Onward.{text_from, lent_of, Able, Onward}
use Rattle.trm_listing.specs.Rest.{held_by}
use Rattle.trm_list_rows.proofs.Laws.Text.{text-held}
use Rattle.trm_list_rows.proofs.Laws.Onward.{able_clock}

held_none : (c : Scalars) → c ≡ held_by c 0
held_none c =
    let e : c.counts.clocks + 0 ≡ c.counts.clocks = omega arith in
    let f : c.counts.held + 0 ≡ c.counts.held = omega arith in
    rw (e, f)

held_more : (c : Scalars) (n : ℕ) → held_by (waited c) n ≡ held_by c (suc n)
held_more c n =
    let e : c.counts.clocks + 1 + n ≡ c.counts.clocks + suc n = omega arith in
    let f : c.counts.held + 1 + n ≡ c.counts.held + suc n = omega arith in
    rw (e, f)

module _ (p : List ℕ) (i : Pins) (f : stalled i.line_byte ≡ true) (rs : List ℕ) (ca : Cache) (s : List ℕ) (took : ℕ) where
  abbrev place : Scalars → Lent
  place c = record { machine = whole c rs ca; store = s }

  held_next : (c : Scalars) → (clock_of paper_geometry p (place c) i).state ≡ place (waited c)
  held_next c = sym (ap (λ t. t.state) (held-here p c rs ca s i f))

  held_able : (n : ℕ) (c : Scalars) → Able p (place c) took n i → Able p (place (held_by c n)) took 0 i
  held_able zero c a = subst (λ d. Able p (place d) took 0 i) (held_none c) a
  held_able (suc n) c a =
      let e : suc n - 1 ≡ n = omega arith in
      let b : Able p (clock_of paper_geometry p (place c) i).state took (suc n - 1) i =
      able_clock p i (place c) took (suc n) took a (omega arith) (omega arith) in
      subst (λ d. Able p (place d) took 0 i) (held_more c n) (held_able n (waited c)
      (subst (λ k. Able p (place (waited c)) took k i) e (subst (λ y. Able p y took (suc n - 1) i) (held_next c) b)))

  held-text : (n : ℕ) (c : Scalars) (is : List Pins)
      → text_from p (place c) took (replicate n i ++ is) ≡ text_from p (place (held_by c n)) took is
  held-text zero c is = ap (λ d. text_from p (place d) took is) (held_none c)
  held-text (suc n) c is =
      text-held p (place c) i took (replicate n i ++ is) f
      ∙ ap (λ y. text_from p y took (replicate n i ++ is)) (held_next c)
      ∙ held-text n (waited c) is
      ∙ ap (λ d. text_from p (place d) took is) (held_more c n)

pub onward-held : (p : List ℕ) (i : Pins) (l : Listed) (rs : List ℕ) (ca : Cache) (s b : List ℕ)
    → Able p (lent_of l rs ca s) l.took l.left i → stalled i.line_byte ≡ true → l.len ≤ length b
    → Onward p i l (lent_of l rs ca s) b
    (record { scalars = held_by l.scalars l.left; left = 0; took = l.took; len = l.len })
    (record { machine = whole (held_by l.scalars l.left) rs ca; store = s }) b
onward-held p i l rs ca s b a f fits = record {
  able = held_able p i f rs ca s l.took l.left l.scalars a;
  text = λ is. ap (λ t. take l.len b ++ t) (sym (held-text p i f rs ca s l.took l.left l.scalars is));
  long = refl;
  fits = fits;
  fewer = omega arith;
  pace = omega arith;
  stored = refl;
}
