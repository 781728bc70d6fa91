-- What the code computes for a clock equals `clock_of`: for a held clock, an interrupt, an instruction in flight, one that begins.
-- Idea: the tests for stall and interrupt are known; the rest are laws of trm_clock_laws.
use Prim.Native.Nat.{ℕ}
use mathlib.Core.Path.{◌≡◌, refl, sym, ap, ◌∙◌, subst}
use mathlib.Core.Logic.{◌≢◌}
use mathlib.Core.Bool.{true, false}
use mathlib.Core.List.{List}
use lib.ListN.{length}
use borrow.Author.Tests.{eq-eqb, ne_eqb}
use Rattle.trm_laws.proofs.Tests.{test_at}
use Rattle.trm_reference.specs.Geometry.{paper_geometry}
use Rattle.trm_reference.specs.Visible.{word_at}
use Rattle.trm_reference.specs.Access.{Answer, silent}
use Rattle.trm_reference.specs.Interrupt.{stalled, interrupt_chosen, interrupted}
use Rattle.trm_reference.specs.Trace.{Pins, After}
use Rattle.trm_cache.specs.declared.record.Cache.{Cache}
use Rattle.trm_core.specs.declared.record.Running.{Running}
use Rattle.trm_core.specs.declared.record.Scalars.{Scalars}
use Rattle.trm_core.specs.Record.{Lent, gathered, whole, advanced, ended, waited}
use Rattle.trm_core.specs.Clock.{Moved, moved, worked, unheld, held_clock, clock_of}
use Rattle.trm_core.proofs.Laws.Rows.{legal_of}
use Rattle.trm_clock_laws.specs.Good.{Good}
use Rattle.trm_clock_laws.proofs.Does.{Does}
use Rattle.trm_clock_laws.proofs.Laws.Facts.{good-at}
use Rattle.trm_clock_laws.proofs.Laws.Worked.{rests, goes-worked}
use Rattle.trm_run_phases.specs.declared.inner.going.Going.{Going}
use Rattle.trm_run_phases.specs.Reached.{point, Reached}

module _ (p : List ℕ) (c : Scalars) (rs : List ℕ) (ca : Cache) (s : List ℕ) (pins : Pins) where
  abbrev pub from : Lent
  from = record { machine = whole c rs ca; store = s }

  pub held-here : stalled pins.line_byte ≡ true
      → record { state = record { machine = whole (waited c) rs ca; store = s }; out = silent 0 } ≡ clock_of paper_geometry p from pins
  unfolding clock_of held_clock
  held-here t = rw t

  pub interrupt_here : stalled pins.line_byte ≡ false → c.running.phase ≡ 0
      → (to : ℕ) → to ≡ interrupt_chosen c.status pins.line_byte → to ≢ 0 → (after : Scalars) (rs' : List ℕ)
      → after ≡ ended c (interrupted (gathered c rs) to) → rs' ≡ (interrupted (gathered c rs) to).regs
      → record { state = record { machine = whole after rs' ca; store = s }; out = silent 0 } ≡ clock_of paper_geometry p from pins
  unfolding clock_of unheld
  interrupt_here f z to at some after rs' e q = rw (f, test_at z 0, ← at, ne_eqb to 0 some, e, q)

  -- w is the word at PC
  module _ (w : ℕ) (at : w ≡ word_at p c.pc) (f : stalled pins.line_byte ≡ false) where
    pub flight_here : c.running.phase ≢ 0 → (t : After Lent Answer)
        → t ≡ worked paper_geometry w (length s) (whole c rs ca) s pins.input → t ≡ clock_of paper_geometry p from pins
    unfolding clock_of unheld
    flight_here z t e = rw (f, ne_eqb c.running.phase 0 z)
        (e ∙ ap (λ y. worked paper_geometry y (length s) (whole c rs ca) s pins.input) at)

    pub ready-here : c.running.phase ≡ 0 → interrupt_chosen c.status pins.line_byte ≡ 0 → (t : After Lent Answer)
        → t ≡ worked paper_geometry w (length s) (whole c rs ca) s pins.input → t ≡ clock_of paper_geometry p from pins
    unfolding clock_of unheld
    ready-here z i t e = rw (f, test_at z 0, eq-eqb (interrupt_chosen c.status pins.line_byte) 0 i)
        (e ∙ ap (λ y. worked paper_geometry y (length s) (whole c rs ca) s pins.input) at)

    -- a clock, not the last, of an instruction in flight
    pub moved_here : c.running.phase ≢ 0 → (g : List ℕ → Moved) → Does w (length s) c rs ca g
        → (next : Running) (a b : ℕ) (ca' : Cache) (s' : List ℕ) → moved c next ca' s' a b ≡ g s
        → record { state = record { machine = whole (advanced c next a b) rs ca'; store = s' }; out = silent 0 }
        ≡ clock_of paper_geometry p from pins
    moved_here z g d next a b ca' s' m = flight_here z _
        (goes-worked w (length s) c rs ca s pins.input g d (rests (advanced c next a b)) next a b ca' s' refl m)

    -- the same for the first clock of an instruction
    pub begun-here : c.running.phase ≡ 0 → interrupt_chosen c.status pins.line_byte ≡ 0
        → (g : List ℕ → Moved) → Does w (length s) c rs ca g
        → (next : Running) (a b : ℕ) (ca' : Cache) (s' : List ℕ) → moved c next ca' s' a b ≡ g s
        → record { state = record { machine = whole (advanced c next a b) rs ca'; store = s' }; out = silent 0 }
        ≡ clock_of paper_geometry p from pins
    begun-here z i g d next a b ca' s' m = ready-here z i _
        (goes-worked w (length s) c rs ca s pins.input g d (rests (advanced c next a b)) next a b ca' s' refl m)

-- row 5 holds in every state of a run
pub good-here : (p ls is : List ℕ) (x₀ : Lent) (g : Going) (rs : List ℕ) (ca : Cache) (s bs ws : List ℕ)
    → Reached p ls is x₀ (point g rs ca s) bs ws → (w : ℕ) → w ≡ word_at p g.scalars.pc → Good w (length s) g.scalars rs ca
good-here p ls is x₀ g rs ca s bs ws r w e = subst (λ y. Good y (length s) g.scalars rs ca) (sym e)
    (good-at p (length s) g.scalars rs ca (legal_of (whole g.scalars rs ca) s r.store) r.rule)
