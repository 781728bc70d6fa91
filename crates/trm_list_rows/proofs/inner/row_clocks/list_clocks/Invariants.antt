-- Invariant: `Onward` from the start of the call to here. Measure: the clocks left of the run.
use Rattle.trm_list_rows.specs.Onward.{lent_of, Onward}
use Rattle.trm_list_rows.proofs.inner.row_clocks.list_clocks.Given as goal

abbrev pub invariant-loop-g : goal.invariant-loop-g
invariant-loop-g l =
    Onward l.program (record { line_byte = l.pins; input = l.input }) l.initial.g
    (lent_of l.initial.g l.initial.regs l.initial.cache l.initial.store)
    l.initial.buf l.g
    (lent_of l.g l.regs l.cache l.store) l.buf

abbrev pub decreases-loop-g : goal.decreases-loop-g
decreases-loop-g l = l.g.left
