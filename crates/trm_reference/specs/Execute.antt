-- The semantics of the sixteen operations: what each does to what a programmer sees; x is the word that LD loads.
-- Paper: "What a programmer sees", the list from 0 MOV to 15. Results and flags of 0–10 are those of trm_alu.
--   execute w v x   the visible state after the word w is executed
use Rattle.std.specs.Prelude.{ℕ, ◌+◌, ◌%◌, Bool, cond, ltb, eqb}
use Rattle.trm_word.specs.Fields.{operation, destination, source, literal, new_status, jump_form, condition, branch_offset}
use Rattle.trm_word.specs.Fields.{call_offset, moves_high, bit, low_bits}
use Rattle.trm_word.specs.Condition.{is_set, condition_holds}
use Rattle.trm_alu.specs.Results.{result_of, high_of}
use Rattle.trm_alu.specs.Flags.{flags_of}
use Rattle.trm_reference.specs.Visible.{Visible, register, with_register, with_mode, next_pc}

-- "A is R.s if bit 10 is set, else bits 9–0 without sign"; "MOV A, or H if bits 10 and 3 are both set"
unfoldable pub operand_a : ℕ → Visible → ℕ
operand_a w v = cond (moves_high w) v.h (cond (is_set (bit 10 w)) (register v (source w)) (literal w))

-- "B is R.d"
unfoldable pub operand_b : ℕ → Visible → ℕ
operand_b w v = register v (destination w)

-- 0–10: R.d, H and the flags
unfoldable pub calculated : ℕ → Visible → Visible
calculated w v =
    record {
      pc = next_pc v.pc;
      regs = with_register v (destination w) (result_of (operation w) (operand_a w v) (operand_b w v));
      h = high_of (operation w) (operand_a w v) (operand_b w v) v.h;
      n = (flags_of (operation w) (operand_a w v) (operand_b w v) v.c v.v).n;
      z = (flags_of (operation w) (operand_a w v) (operand_b w v) v.c v.v).z;
      c = (flags_of (operation w) (operand_a w v) (operand_b w v) v.c v.v).c;
      v = (flags_of (operation w) (operand_a w v) (operand_b w v) v.c v.v).v;
      status = v.status;
    }

-- the visible state with another PC, and also with R.r := x
abbrev pub went_to : Visible → ℕ → Visible
went_to v pc =
    record { pc = pc; regs = v.regs; h = v.h; n = v.n; z = v.z; c = v.c; v = v.v; status = v.status }

abbrev pub wrote_to : Visible → ℕ → ℕ → ℕ → Visible
wrote_to v pc r x =
    record {
      pc = pc;
      regs = with_register v r x;
      h = v.h;
      n = v.n;
      z = v.z;
      c = v.c;
      v = v.v;
      status = v.status;
    }

-- "11 with bit 10 clear: status := bits 3–0"
unfoldable pub status_set : ℕ → Visible → Visible
status_set w v =
    record {
      pc = next_pc v.pc;
      regs = v.regs;
      h = v.h;
      n = v.n;
      z = v.z;
      c = v.c;
      v = v.v;
      status = new_status w;
    }

-- "set NZCV from R.s bits 31–28 and the mode to 0"
unfoldable pub returned : Visible → ℕ → Visible
returned v from =
    record {
      pc = low_bits 12 from;
      regs = v.regs;
      h = v.h;
      n = bit 31 from;
      z = bit 30 from;
      c = bit 29 from;
      v = bit 28 from;
      status = with_mode 0 v.status;
    }

-- "With bit 10 set: PC := low 12 bits of R.s, and by bits 9–8: 00 nothing more; 10 puts PC+1 in R.d, R.s being read first;
-- 01 and 11 (RTI) also set NZCV .. and the mode"
unfoldable pub jumped : ℕ → Visible → Visible
jumped w v =
    cond (eqb (jump_form w) 0)
    (went_to v (low_bits 12 (register v (source w))))
    (cond (eqb (jump_form w) 2)
    (wrote_to v (low_bits 12 (register v (source w))) (destination w) (next_pc v.pc))
    (returned v (register v (source w))))

-- "if condition bits 13–10 hold"
unfoldable pub branch_taken : ℕ → Visible → Bool
branch_taken w v = condition_holds (condition w) v.n v.z v.c v.v

-- "PC := PC+1+signed bits 9–0": from 512 on the ten bits represent their value minus 1,024, which mod 4,096 is 3,072 more
unfoldable pub branch_target : ℕ → ℕ → ℕ
branch_target pc offset = (pc + 1 + offset + cond (ltb offset 512) 0 3072) % 4096

unfoldable pub branched : ℕ → Visible → Visible
branched w v = went_to v (cond (branch_taken w v) (branch_target v.pc (branch_offset w)) (next_pc v.pc))

-- "15: R7 := PC+1, PC := PC+1+bits 11–0"
unfoldable pub called : ℕ → Visible → Visible
called w v = wrote_to v ((v.pc + 1 + call_offset w) % 4096) 7 (next_pc v.pc)

-- operations 0–10; 11 by bit 10; 12 LD; 13 ST, which changes nothing here; 14; 15
unfoldable pub execute : ℕ → Visible → ℕ → Visible
execute w v x =
    cond (ltb (operation w) 11) (calculated w v)
    (cond (eqb (operation w) 11) (cond (is_set (bit 10 w)) (jumped w v) (status_set w v))
    (cond (eqb (operation w) 12) (wrote_to v (next_pc v.pc) (destination w) x)
    (cond (eqb (operation w) 13) (went_to v (next_pc v.pc))
    (cond (eqb (operation w) 14) (branched w v)
    (called w v)))))
