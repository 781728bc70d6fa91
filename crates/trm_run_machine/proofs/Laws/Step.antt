-- A clock that is a step of the multiplier or the divider: the precondition of its method, and that the step is `clock_of`.
-- Idea: MUL and DIV are in phase 0 or 1, and there every clock before the last is a step.
use Prim.Native.Nat.{ℕ, ◌+◌}
use mathlib.Core.Path.{◌≡◌, refl, sym, ap, ◌∙◌, subst}
use mathlib.Core.Logic.{◌≢◌}
use mathlib.Core.Bool.{Bool, true, false, ◌&&◌, ◌||◌}
use mathlib.Core.List.{List}
use lib.ListN.{length}
use lib.Dec.{eqb}
use native.Mathlib.Decide.{ℕ_discrete}
use Rattle.trm_laws.proofs.Tests.{clash, bool_clash}
use Rattle.trm_word.specs.Fields.{operation}
use Rattle.trm_word.specs.Charge.{charge_of}
use Rattle.trm_reference.specs.Geometry.{paper_geometry}
use Rattle.trm_reference.specs.Visible.{Visible, word_at}
use Rattle.trm_reference.specs.Access.{is_load, silent}
use Rattle.trm_reference.specs.Charge.{is_stepped}
use Rattle.trm_reference.specs.Interrupt.{stalled, interrupt_chosen}
use Rattle.trm_reference.specs.Trace.{Pins}
use Rattle.trm_cache.specs.declared.record.Cache.{Cache}
use Rattle.trm_core.specs.declared.record.Scalars.{Scalars}
use Rattle.trm_core.specs.Record.{gathered, whole, stepping, advanced}
use Rattle.trm_core.specs.Clock.{clock_of}
use Rattle.trm_core.specs.Refusals.{clock_refusal}
use Rattle.trm_core.proofs.Laws.Kind.{Kind, longer, kind_of, is_longer}
use Rattle.trm_core.proofs.Laws.Phases.{due-is}
use Rattle.trm_core.proofs.Laws.Rows.{legal_of}
use Rattle.trm_core.proofs.Laws.Rule.{Phase, ready, arithmetic, write_back, clearing_off, refill, waiting, due}
use Rattle.trm_clock_scalars.specs.Steps.{Steps}
use Rattle.trm_clock_laws.specs.Good.{Good}
use Rattle.trm_clock_laws.proofs.Laws.Facts.{Facts, facts, good-at}
use Rattle.trm_clock_laws.proofs.Laws.Flight.{step-more}
use Rattle.trm_clock_laws.proofs.Laws.Kinds.{kind-stepped}
use Rattle.trm_clock_laws.proofs.Laws.First.{first-longer}
use Rattle.trm_run_phases.proofs.Laws.Here.{begun-here, moved_here}
use Rattle.trm_run_machine.proofs.Laws.Accepted.{run-passed}
use Rattle.trm_run_machine.proofs.Laws.One.{one_free}

-- row 5 holds for a record that a clock call does not refuse
pub clock-good : (p : List ℕ) (c : Scalars) (rs : List ℕ) (ca : Cache) (s : List ℕ) (line_byte : ℕ)
    → clock_refusal paper_geometry p (whole c rs ca) s line_byte ≡ 0 → Good (word_at p c.pc) (length s) c rs ca
clock-good p c rs ca s line_byte e =
    let q = (run-passed p (whole c rs ca) s _ _ _ _ (one_free p (whole c rs ca) s line_byte 0 0 0 e)).0 in
    good-at p (length s) c rs ca (legal_of (whole c rs ca) s q.store) q.rule

pub good-word : (p : List ℕ) (c : Scalars) (rs : List ℕ) (ca : Cache) (s : List ℕ) (line_byte : ℕ)
    → clock_refusal paper_geometry p (whole c rs ca) s line_byte ≡ 0 → (w : ℕ) → w ≡ word_at p c.pc → Good w (length s) c rs ca
good-word p c rs ca s line_byte e w at = subst (λ x. Good x (length s) c rs ca) (sym at) (clock-good p c rs ca s line_byte e)

-- 8 and 9 have steps
pub steps-at : (w o : ℕ) → operation w ≡ o → eqb o 8 || eqb o 9 ≡ true → is_stepped w ≡ true
unfolding is_stepped
steps-at w o e t = rw e t

module _ (w n : ℕ) (c : Scalars) (rs : List ℕ) (ca : Cache) (t : is_stepped w ≡ true) where
  abbrev v : Visible
  v = gathered c rs

  -- an instruction with steps that is in flight is in phase 1
  in_steps : Facts w n c rs ca → c.running.phase ≢ 0 → c.running.phase ≡ 1
  in_steps f z = go f.phase
    where
      is : kind_of w v n ≡ longer
      is = kind-stepped w n v t

      other : {X : Type 0} (k : Kind) → kind_of w v n ≡ k → is_longer k ≡ false → X
      other k q e = bool_clash (is_longer k) (ap is_longer (sym q ∙ is)) e

      never : {X : Type 0} (u : Bool) → (u && false) || false ≡ true → X
      never true e = clash e
      never false e = clash e

      go : Phase paper_geometry w n (kind_of w v n) c.running v ca → c.running.phase ≡ 1
      go (ready p e) = absurd (z p)
      go (arithmetic k p a b) = p
      go (write_back k p h x d) = other _ k refl
      go (clearing_off k p h s) = other _ k refl
      go (refill k p h e) = other _ k refl
      go (waiting k p a b) = other _ k refl
      go (due p e d) = never (is_load w) (sym (due-is paper_geometry w n v ca longer is) ∙ d)

  -- the precondition of a step's method
  pub step-asks : Good w n c rs ca → c.running.count + 1 ≢ charge_of (operation w) → Steps w c.running v
  step-asks g more = go (ℕ_discrete c.running.phase 0)
    where
      k : Facts w n c rs ca
      k = facts w n c rs ca g

      go : Dec (c.running.phase ≡ 0) → Steps w c.running v
      go (yes z) = (first-longer w n c rs ca k z (kind-stepped w n v t)).1
      go (no z) = (step-more w n c rs ca k (in_steps k z) more).1

-- the step is the clock of the definition
module _ (p : List ℕ) (c : Scalars) (rs : List ℕ) (ca : Cache) (s : List ℕ) (pins : Pins) (w : ℕ) (at : w ≡ word_at p c.pc)
    (g : Good w (length s) c rs ca) (t : is_stepped w ≡ true) (more : c.running.count + 1 ≢ charge_of (operation w)) where
  pub step-clock : stalled pins.line_byte ≡ false → (c.running.phase ≡ 0 → interrupt_chosen c.status pins.line_byte ≡ 0) → record {
    state = record { machine = whole (advanced c (stepping w (gathered c rs) (c.running.count + 1)) 0 0) rs ca; store = s };
    out = silent 0;
  } ≡ clock_of paper_geometry p (record { machine = whole c rs ca; store = s }) pins
  step-clock f none = go (ℕ_discrete c.running.phase 0)
    where
      go : Dec (c.running.phase ≡ 0) → record {
        state = record { machine = whole (advanced c (stepping w (gathered c rs) (c.running.count + 1)) 0 0) rs ca; store = s };
        out = silent 0;
      } ≡ clock_of paper_geometry p (record { machine = whole c rs ca; store = s }) pins
      go (yes z) = begun-here p c rs ca s pins w at f z (none z) _
          (first-longer w (length s) c rs ca (facts w (length s) c rs ca g) z (kind-stepped w (length s) (gathered c rs) t)).0
          (stepping w (gathered c rs) (c.running.count + 1)) 0 0 ca s refl
      go (no z) = let k = facts w (length s) c rs ca g in
          moved_here p c rs ca s pins w at f z _ (step-more w (length s) c rs ca k (in_steps w (length s) c rs ca t k z) more).0
          (stepping w (gathered c rs) (c.running.count + 1)) 0 0 ca s refl
