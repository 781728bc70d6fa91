-- Which rows a list of clocks has, from the clock history, and the last row of a listing.
-- Paper: "Fields: clock count at the end, address and word .., unheld clocks, the counts in decimal; an unfinished instruction has no
-- line; an interrupt has the saved PC and `irq0` or `irq1` as its word".
--   row_of p x i took   the row of one clock, if it has one        rows_from   the rows of clocks from x on        end_row   the last row
use Rattle.std.specs.Prelude.{ℕ, ◌+◌, Bool, cond, not, ◌||◌, List, [], ◌∷◌, ◌++◌, eqb}
use Rattle.trm_reference.specs.Geometry.{paper_geometry}
use Rattle.trm_reference.specs.Visible.{word_at}
use Rattle.trm_reference.specs.Interrupt.{stalled, interrupt_chosen}
use Rattle.trm_reference.specs.Trace.{Pins}
use Rattle.trm_core.specs.Record.{Lent}
use Rattle.trm_core.specs.Clock.{clock_of}
use Rattle.trm_list_text.specs.declared.inner.row_text.Shown.TheVariants.{Word, Irq0, Irq1}
use Rattle.trm_list_text.specs.Rows.{Row, end_bytes}

-- the PC to which this clock's interrupt goes, 2 or 3; 0 if it takes none, as with an instruction in flight
unfoldable pub interrupt_at : Lent → Pins → ℕ
interrupt_at x i = cond (eqb x.machine.scalars.running.phase 0) (interrupt_chosen x.machine.scalars.status i.line_byte) 0

-- whether this clock executes a word
unfoldable pub carries_out : List ℕ → Lent → Pins → Bool
carries_out p x i = eqb (clock_of paper_geometry p x i).out.done 1

-- a held clock has no row; an interrupt has one, of one unheld clock; an executed word has one; `took` is how many unheld clocks the
-- word in flight took before this clock
unfoldable pub row_of : List ℕ → Lent → Pins → ℕ → List Row
row_of p x i took =
    cond (stalled i.line_byte) []
    (cond (not (eqb (interrupt_at x i) 0))
    (record {
      clock = x.machine.scalars.counts.clocks + 1;
      at = x.machine.scalars.pc;
      shown = cond (eqb (interrupt_at x i) 2) Irq0 Irq1;
      took = 1;
    } ∷ [])
    (cond (carries_out p x i)
    (record {
      clock = x.machine.scalars.counts.clocks + 1;
      at = x.machine.scalars.pc;
      shown = Word (word_at p x.machine.scalars.pc);
      took = took + 1;
    } ∷ [])
    []))

-- how many unheld clocks the word in flight took up to and with this clock
unfoldable pub took_after : List ℕ → Lent → Pins → ℕ → ℕ
took_after p x i took =
    cond (stalled i.line_byte) took (cond (not (eqb (interrupt_at x i) 0) || carries_out p x i) 0 (took + 1))

-- the rows of the clocks with these inputs, from x on
unfoldable pub rows_from : List ℕ → Lent → ℕ → List Pins → List Row
rows_from p x took [] = []
rows_from p x took (i ∷ is) =
    row_of p x i took ++ rows_from p (clock_of paper_geometry p x i).state (took_after p x i took) is

-- the last row, from the counts of the record
unfoldable pub end_row : Lent → List ℕ
end_row x =
    end_bytes x.machine.scalars.counts.clocks x.machine.scalars.counts.held x.machine.scalars.counts.refills
    x.machine.scalars.counts.writebacks
