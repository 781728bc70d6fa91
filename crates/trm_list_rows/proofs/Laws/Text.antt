-- What is to be written, clock by clock: the row of a clock, then what comes after it.
-- Idea: by cases of the stall, the interrupt, and whether the clock executes the word.
use Prim.Native.Nat.{ℕ, ◌+◌}
use mathlib.Core.Path.{◌≡◌, refl, ap}
use mathlib.Core.Logic.{◌≢◌}
use mathlib.Core.Bool.{Bool, true, false, cond}
use mathlib.Core.List.{List, [], ◌∷◌, ◌++◌, append-nil}
use lib.Dec.{eqb}
use borrow.Author.Tests.{ne_eqb}
use Rattle.trm_reference.specs.Geometry.{paper_geometry}
use Rattle.trm_reference.specs.Visible.{word_at}
use Rattle.trm_reference.specs.Interrupt.{stalled}
use Rattle.trm_reference.specs.Trace.{Pins}
use Rattle.trm_core.specs.Record.{Lent}
use Rattle.trm_core.specs.Clock.{clock_of}
use Rattle.trm_list_text.specs.declared.inner.row_text.Shown.TheVariants.{Word, Irq0, Irq1}
use Rattle.trm_list_text.specs.Rows.{Row, row_bytes, rows_bytes}
use Rattle.trm_list_rows.specs.Rows.{interrupt_at, carries_out, row_of, took_after}
use Rattle.trm_list_rows.specs.Onward.{text_from}

row_if : (t : Bool) (l : Row) → rows_bytes (cond t (l ∷ []) []) ≡ cond t (row_bytes l) []
unfolding rows_bytes
row_if true l = append-nil (row_bytes l)
row_if false l = refl

module _ (p : List ℕ) (x : Lent) (i : Pins) (took : ℕ) (is : List Pins) where
  abbrev after : Lent
  after = (clock_of paper_geometry p x i).state

  pub text-held : stalled i.line_byte ≡ true → text_from p x took (i ∷ is) ≡ text_from p after took is
  unfolding text_from row_of took_after rows_bytes
  text-held f = rw f

  module _ (f : stalled i.line_byte ≡ false) where
    pub text-went : interrupt_at x i ≡ 0
        → text_from p x took (i ∷ is)
        ≡ cond (eqb (clock_of paper_geometry p x i).out.done 1)
        (row_bytes (record {
          clock = x.machine.scalars.counts.clocks + 1;
          at = x.machine.scalars.pc;
          shown = Word (word_at p x.machine.scalars.pc);
          took = took + 1;
        })) []
        ++ text_from p after (cond (eqb (clock_of paper_geometry p x i).out.done 1) 0 (took + 1)) is
    unfolding text_from row_of took_after carries_out
    text-went z = rw (f, z) (ap
        (λ b. b ++ text_from p after (cond (eqb (clock_of paper_geometry p x i).out.done 1) 0 (took + 1)) is)
        (row_if (eqb (clock_of paper_geometry p x i).out.done 1) _))

    pub text_interrupt : (to : ℕ) → interrupt_at x i ≡ to → to ≢ 0
        → text_from p x took (i ∷ is)
        ≡ row_bytes (record {
          clock = x.machine.scalars.counts.clocks + 1;
          at = x.machine.scalars.pc;
          shown = cond (eqb to 2) Irq0 Irq1;
          took = 1;
        }) ++ text_from p after 0 is
    unfolding text_from row_of took_after rows_bytes
    text_interrupt to e z = rw (f, e, ne_eqb to 0 z) (ap (λ b. b ++ text_from p after 0 is) (append-nil (row_bytes (record {
      clock = x.machine.scalars.counts.clocks + 1;
      at = x.machine.scalars.pc;
      shown = cond (eqb to 2) Irq0 Irq1;
      took = 1;
    }))))
