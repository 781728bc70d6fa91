-- Table: which interrupt is chosen, what it writes, when a clock takes it, and held clocks.
-- Paper: "An unheld clock with no instruction in flight takes an interrupt if ..", "A clock with stall set is held".
use Rattle.std.specs.Prelude.{ℕ, List, [], ◌∷◌, get_or, replicate}
use Rattle.trm_reference.specs.Interrupt.{interrupt_chosen, interrupted}
use Rattle.trm_reference.specs.Trace.{outs_of, finished_in}
use Rattle.trm_reference.specs.Reference.{Reference}
use Rattle.trm_reference.specs.Tables.{Row, row, literal_word, jump_word, call_word, seen, machine, ran, state_after, store_of}
use Rattle.trm_reference.specs.Tables.{changed_from, shown, rest_of}

-- the PC that the interrupt goes to, 0 for none, given the status and the line byte
abbrev pub chosen : ℕ → ℕ → ℕ → Row
chosen status line_byte pc = row (interrupt_chosen status line_byte ∷ []) (pc ∷ [])

-- PC, bank 1's R7, the status, clocks left, clocks, held clocks, and the words finished in the run
unfoldable pub reached : List ℕ → Reference → List ℕ → List ℕ
reached p q line_bytes =
    let u : Reference = state_after p q line_bytes in
    u.visible.pc
    ∷ get_or u.visible.regs 15 0
    ∷ u.visible.status
    ∷ u.left
    ∷ u.clocks
    ∷ u.held
    ∷ finished_in (outs_of (ran p q line_bytes))
    ∷ []

-- a program with branch never at 3 and RTI by R7 at 2; one that calls 5 from 0; machines at PC 3, flags 1010,
-- the second with cache on, interrupt 0 enabled, cache line 0 dirty and nonzero counts; a machine at PC 0, flags 0101
abbrev pub handler : List ℕ
handler = literal_word 0 1 5 ∷ literal_word 0 1 6 ∷ jump_word 1 0 7 ∷ 0x3BC00 ∷ []

abbrev pub caller : List ℕ
caller = call_word 4 ∷ []

abbrev pub at_never : ℕ → Reference
at_never status = machine (seen 3 1 0 1 0 status) 256 []

abbrev pub at_dirty : Reference
at_dirty =
    record {
      visible = seen 3 1 0 1 0 9;
      memory = replicate 256 9;
      history = store_of 0 ∷ [];
      left = 0;
      clocks = 50;
      held = 4;
      refills = 3;
      writebacks = 2;
    }

abbrev pub at_call : ℕ → Reference
at_call status = machine (seen 0 0 1 0 1 status) 256 []

unfoldable pub interrupts : List Row
interrupts =
    -- "if the mode is 0 and an enabled line is high, line 0 before line 1 .. PC 2 or 3": interrupt line 0, 1, both, with the cache on
    chosen 1 1 2
    ∷ chosen 3 1 2
    ∷ chosen 2 2 3
    ∷ chosen 3 2 3
    ∷ chosen 3 3 2
    ∷ chosen 2 3 3
    ∷ chosen 11 2 3
    -- no interrupt line high, not enabled, mode 1
    ∷ chosen 3 0 0
    ∷ chosen 0 3 0
    ∷ chosen 2 1 0
    ∷ chosen 1 2 0
    ∷ chosen 5 1 0
    ∷ chosen 7 3 0
    -- "bank 1's R7 := NZCV in bits 31–28, zeros, PC in bits 11–0; mode 1; PC 2 or 3": flags 1010, 0101, then 1100 and 0110, which
    -- distinguish any two flags
    ∷ row
    (shown (seen 0x123 1 0 1 0 11) (interrupted (seen 0x123 1 0 1 0 11) 2))
    (2 ∷ 15 ∷ 0xA000_0123 ∷ 0x8000_0005 ∷ 1 ∷ 0 ∷ 1 ∷ 0 ∷ 15 ∷ [])
    ∷ row
    (shown (seen 0xFFF 0 1 0 1 2) (interrupted (seen 0xFFF 0 1 0 1 2) 3))
    (3 ∷ 15 ∷ 0x5000_0FFF ∷ 0x8000_0005 ∷ 0 ∷ 1 ∷ 0 ∷ 1 ∷ 6 ∷ [])
    ∷ row
    (shown (seen 0x456 1 1 0 0 1) (interrupted (seen 0x456 1 1 0 0 1) 2))
    (2 ∷ 15 ∷ 0xC000_0456 ∷ 0x8000_0005 ∷ 1 ∷ 1 ∷ 0 ∷ 0 ∷ 5 ∷ [])
    ∷ row
    (shown (seen 0x789 0 1 1 0 3) (interrupted (seen 0x789 0 1 1 0 3) 2))
    (2 ∷ 15 ∷ 0x6000_0789 ∷ 0x8000_0005 ∷ 0 ∷ 1 ∷ 1 ∷ 0 ∷ 7 ∷ [])
    -- taken when the word at PC is 3BC00H, in the program and beyond it; "one clock", no word finished
    ∷ row (reached handler (at_never 1) (1 ∷ [])) (2 ∷ 0xA000_0003 ∷ 5 ∷ 0 ∷ 1 ∷ 0 ∷ 0 ∷ [])
    ∷ row (reached caller (at_never 2) (2 ∷ [])) (3 ∷ 0xA000_0003 ∷ 6 ∷ 0 ∷ 1 ∷ 0 ∷ 0 ∷ [])
    ∷ row (reached handler (at_never 3) (3 ∷ [])) (2 ∷ 0xA000_0003 ∷ 7 ∷ 0 ∷ 1 ∷ 0 ∷ 0 ∷ [])
    -- only PC, the status, bank 1's R7 and the clock count change; the indices of the first three in `rest_of` are 4, 10 and 26
    ∷ row
    (changed_from 0 (rest_of at_dirty) (rest_of (state_after handler at_dirty (1 ∷ []))))
    (4 ∷ 2 ∷ 10 ∷ 13 ∷ 26 ∷ 0xA000_0003 ∷ [])
    ∷ row (reached handler at_dirty (1 ∷ [])) (2 ∷ 0xA000_0003 ∷ 13 ∷ 0 ∷ 51 ∷ 4 ∷ 0 ∷ [])
    -- "Otherwise it begins an instruction": no interrupt line high, in the program and beyond it; not enabled; mode 1
    ∷ row (reached handler (at_never 3) (0 ∷ [])) (4 ∷ 0x10F ∷ 3 ∷ 0 ∷ 1 ∷ 0 ∷ 1 ∷ [])
    ∷ row (reached caller (at_never 3) (0 ∷ [])) (4 ∷ 0x10F ∷ 3 ∷ 0 ∷ 1 ∷ 0 ∷ 1 ∷ [])
    ∷ row (reached handler (at_never 2) (1 ∷ [])) (4 ∷ 0x10F ∷ 2 ∷ 0 ∷ 1 ∷ 0 ∷ 1 ∷ [])
    ∷ row (reached handler (at_never 7) (3 ∷ [])) (4 ∷ 0x10F ∷ 7 ∷ 0 ∷ 1 ∷ 0 ∷ 1 ∷ [])
    -- "with no instruction in flight": an interrupt line high in the second clock of a call is not taken, and in the next clock it is
    ∷ row (reached caller (at_call 3) (0 ∷ [])) (0 ∷ 0x10F ∷ 3 ∷ 1 ∷ 1 ∷ 0 ∷ 0 ∷ [])
    ∷ row (reached caller (at_call 3) (0 ∷ 1 ∷ [])) (5 ∷ 0x10F ∷ 3 ∷ 0 ∷ 2 ∷ 0 ∷ 1 ∷ [])
    ∷ row (reached caller (at_call 3) (0 ∷ 1 ∷ 2 ∷ [])) (3 ∷ 0x5000_0005 ∷ 7 ∷ 0 ∷ 3 ∷ 0 ∷ 1 ∷ [])
    -- RTI by R7 restores the PC and the mode in two clocks; an interrupt line that is still high is then taken again
    ∷ row (reached handler (at_never 1) (1 ∷ 0 ∷ 0 ∷ [])) (3 ∷ 0xA000_0003 ∷ 1 ∷ 0 ∷ 3 ∷ 0 ∷ 1 ∷ [])
    ∷ row (reached handler (at_never 1) (1 ∷ 1 ∷ 1 ∷ 1 ∷ [])) (2 ∷ 0xA000_0003 ∷ 5 ∷ 0 ∷ 4 ∷ 0 ∷ 1 ∷ [])
    -- "A clock with stall set is held: it adds one to the clock and held counts and does nothing else": ready, and in flight
    ∷ row (reached handler (at_never 1) (5 ∷ [])) (3 ∷ 0x10F ∷ 1 ∷ 0 ∷ 1 ∷ 1 ∷ 0 ∷ [])
    ∷ row (reached caller (at_call 3) (0 ∷ 7 ∷ [])) (0 ∷ 0x10F ∷ 3 ∷ 1 ∷ 2 ∷ 1 ∷ 0 ∷ [])
    ∷ row (reached handler at_dirty (5 ∷ [])) (3 ∷ 0x10F ∷ 9 ∷ 0 ∷ 51 ∷ 5 ∷ 0 ∷ [])
    ∷ row (rest_of (state_after handler at_dirty (5 ∷ []))) (rest_of at_dirty)
    ∷ row (rest_of (state_after caller (at_call 3) (0 ∷ 7 ∷ []))) (rest_of (state_after caller (at_call 3) (0 ∷ [])))
    ∷ []
