-- The line byte: stall, and the interrupt that a clock takes.
-- Paper: "a line byte (bit 0 interrupt 0, bit 1 interrupt 1, bit 2 stall)"; "takes an interrupt if the mode is 0 and an enabled line
-- is high, line 0 before line 1: bank 1's R7 := NZCV in bits 31–28, zeros, PC in bits 11–0; mode 1; PC 2 or 3".
--   interrupt_chosen status line   the PC that the interrupt goes to, 2 or 3, and 0 if none is taken
use Rattle.std.specs.Prelude.{ℕ, ◌+◌, ◌*◌, ◌^◌, Bool, cond, ◌&&◌, set}
use Rattle.trm_word.specs.Fields.{bit}
use Rattle.trm_word.specs.Condition.{is_set}
use Rattle.trm_reference.specs.Visible.{Visible, with_mode}

unfoldable pub stalled : ℕ → Bool
stalled line_byte = is_set (bit 2 line_byte)

-- status bit k enables interrupt line k
unfoldable pub interrupt_raised : ℕ → ℕ → ℕ → Bool
interrupt_raised k status line_byte = is_set (bit k status) && is_set (bit k line_byte)

-- "if the mode is 0 and an enabled line is high, line 0 before line 1"
unfoldable pub interrupt_chosen : ℕ → ℕ → ℕ
interrupt_chosen status line_byte =
    cond (is_set (bit 2 status)) 0
    (cond (interrupt_raised 0 status line_byte) 2
    (cond (interrupt_raised 1 status line_byte) 3 0))

-- "NZCV in bits 31–28, zeros, PC in bits 11–0"
unfoldable pub saved_word : Visible → ℕ
saved_word v = v.n * 2 ^ 31 + v.z * 2 ^ 30 + v.c * 2 ^ 29 + v.v * 2 ^ 28 + v.pc

-- bank 1's R7 is the last of the sixteen registers
unfoldable pub interrupted : Visible → ℕ → Visible
interrupted v to =
    record {
      pc = to;
      regs = set v.regs 15 (saved_word v);
      h = v.h;
      n = v.n;
      z = v.z;
      c = v.c;
      v = v.v;
      status = with_mode 1 v.status;
    }
