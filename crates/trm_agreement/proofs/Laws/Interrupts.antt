-- The interrupt rule in bits, and one clock of the plain machine from any state.
-- Idea: the tests decide each case.
--   interrupt_rule    taken_in-bits, goes_to   what it gives        plain_clock
use Prim.Native.Nat.{ℕ, ◌-◌}
use mathlib.Core.Path.{◌≡◌, refl, ◌∙◌}
use mathlib.Core.Logic.{◌≢◌}
use mathlib.Core.Bool.{Bool, true, false, cond, not, ◌&&◌, ◌||◌}
use mathlib.Core.List.{List}
use lib.ListN.{length}
use lib.Dec.{eqb}
use borrow.Author.Tests.{eq-eqb, ne_eqb}
use native.Mathlib.Omega.{arith}
use Rattle.trm_laws.proofs.Tests.{bool_clash}
use Rattle.trm_word.specs.Fields.{bit}
use Rattle.trm_reference.specs.Geometry.{Geometry}
use Rattle.trm_reference.specs.Visible.{word_at}
use Rattle.trm_reference.specs.Access.{Answer, silent}
use Rattle.trm_reference.specs.Interrupt.{stalled, interrupt_raised, interrupt_chosen}
use Rattle.trm_reference.specs.Trace.{Pins, After}
use Rattle.trm_reference.specs.Reference.{Reference, charge, carry_out, spend, take_off, reference_held, reference_interrupt}
use Rattle.trm_reference.specs.Reference.{reference_unheld, reference_clock}
use Rattle.trm_core.proofs.Laws.Deaf.{answer-done}
use Rattle.trm_agreement.specs.Book.{raised, interrupts, interrupt_to}
use Rattle.trm_agreement.specs.Plain.{InterruptRule, PlainClock}

pub interrupt_rule : InterruptRule
unfolding interrupt_chosen interrupt_raised interrupts interrupt_to raised
interrupt_rule status line_byte =
    go (eqb (bit 2 status) 1) (eqb (bit 0 status) 1 && eqb (bit 0 line_byte) 1) (eqb (bit 1 status) 1 && eqb (bit 1 line_byte) 1)
  where
    go : (m a c : Bool) → ◌≡◌ {A = ℕ} (cond m 0 (cond a 2 (cond c 3 0))) (cond (not m && (a || c)) (cond a 2 3) 0)
    go true a c = refl
    go false true c = refl
    go false false true = refl
    go false false false = refl

-- whether the number is not 0; an interrupt that is taken goes to 2 or 3
pub taken_in-bits : (status line_byte : ℕ) → not (eqb (interrupt_chosen status line_byte) 0) ≡ interrupts status line_byte
unfolding interrupt_to
taken_in-bits status line_byte = rw (interrupt_rule status line_byte) (go (interrupts status line_byte) (raised 0 status line_byte))
  where
    go : (t a : Bool) → not (eqb (cond t (cond a 2 3) 0) 0) ≡ t
    go true true = refl
    go true false = refl
    go false a = refl

pub goes_to : (status line_byte : ℕ) → interrupts status line_byte ≡ true → interrupt_chosen status line_byte
    ≡ interrupt_to status line_byte
goes_to status line_byte e = interrupt_rule status line_byte ∙ rw e

-- what a clock shows that executes a word or does not; t is true for an interrupt
record Shows (G : Geometry) (w : ℕ) (q : Reference) (input : ℕ) (t : Bool) (u : After Reference Answer) : Type 0 where
  carries : u.out.done ≡ 1 → u ≡ carry_out G w q input
  quiet : u.out.done ≢ 1 → u.out ≡ silent 0
  still : u.out.done ≢ 1 → t ≡ false → (u.state.visible ≡ q.visible) × (u.state.memory ≡ q.memory)

module _ (G : Geometry) (w : ℕ) (q : Reference) (input : ℕ) where
  held-shows : Shows G w q input false (reference_held q)
  unfolding reference_held
  held-shows = record { carries = λ d. absurd (omega (arith, d)); quiet = λ _. refl; still = λ _ _. (refl, refl) }

  interrupt_shows : (to : ℕ) → Shows G w q input true (reference_interrupt to q)
  unfolding reference_interrupt
  interrupt_shows to = record { carries = λ d. absurd (omega (arith, d)); quiet = λ _. refl; still = λ _ e. bool_clash true refl e }

  off-shows : (n : ℕ) → Shows G w q input false (take_off G w q n input)
  unfolding take_off
  off-shows n = go (eqb (n - 1) 0)
    where
      done : (carry_out G w q input).out.done ≡ 1
      done = unfold carry_out in answer-done w q.visible (length q.memory) input

      go : (t : Bool) → Shows G w q input false (cond t (carry_out G w q input) (spend G w q (n - 1)))
      go true = record { carries = λ _. refl; quiet = λ d. absurd (d done); still = λ d _. absurd (d done) }
      go false = unfold spend in
          record { carries = λ d. absurd (omega (arith, d)); quiet = λ _. refl; still = λ _ _. (refl, refl) }

module _ (G : Geometry) (p : List ℕ) (q : Reference) (i : Pins) where
  w : ℕ
  w = word_at p q.visible.pc

  chosen : ℕ
  chosen = interrupt_chosen q.visible.status i.line_byte

  shows : Shows G (word_at p q.visible.pc) q i.input
      (not (stalled i.line_byte) && eqb q.left 0 && interrupts q.visible.status i.line_byte) (reference_clock G p q i)
  unfolding reference_clock reference_unheld w chosen
  shows = rw (← taken_in-bits q.visible.status i.line_byte) (go (stalled i.line_byte) (eqb q.left 0) (eqb chosen 0))
    where
      go : (s z c : Bool) → Shows G w q i.input (not s && z && not c)
          (cond s (reference_held q) (cond z (cond c (take_off G w q (charge G w q) i.input) (reference_interrupt chosen q))
          (take_off G w q q.left i.input)))
      go true z c = held-shows G w q i.input
      go false true true = off-shows G w q i.input (charge G w q)
      go false true false = interrupt_shows G w q i.input chosen
      go false false c = off-shows G w q i.input q.left

  pub plain_clock : PlainClock G p q i
  unfolding reference_clock reference_unheld
  plain_clock = record {
    held = λ s. rw s;
    takes = λ s z e. rw (s, eq-eqb q.left 0 z, named e, goes_to q.visible.status i.line_byte e);
    begins = λ s z e. rw (s, eq-eqb q.left 0 z, unnamed e);
    goes_on = λ s z. rw (s, ne_eqb q.left 0 z);
    carries = shows.carries;
    quiet = shows.quiet;
    still = shows.still;
  }
    where
      other : (t u : Bool) → not (eqb (interrupt_chosen q.visible.status i.line_byte) 0) ≡ t → t ≡ u
          → eqb (interrupt_chosen q.visible.status i.line_byte) 0 ≡ not u
      other t u e f = flip (eqb (interrupt_chosen q.visible.status i.line_byte) 0) u (e ∙ f)
        where
          flip : (a b : Bool) → not a ≡ b → a ≡ not b
          flip true b e = rw (← e)
          flip false b e = rw (← e)

      named : interrupts q.visible.status i.line_byte ≡ true → eqb (interrupt_chosen q.visible.status i.line_byte) 0 ≡ false
      named e = other _ true (taken_in-bits q.visible.status i.line_byte) e

      unnamed : interrupts q.visible.status i.line_byte ≡ false → eqb (interrupt_chosen q.visible.status i.line_byte) 0 ≡ true
      unnamed e = other _ false (taken_in-bits q.visible.status i.line_byte) e
