-- What a programmer sees except data memory, and how registers, status bits and program words are read.
-- Paper: "Twelve-bit PC; two banks of eight 32-bit registers; H (32 bits); flags N Z C V; four status bits: 0 enables interrupt 0,
-- 1 enables interrupt 1, 2 is the mode and selects the bank, 3 is cache on."
--   register v r   R.r of the bank in use      with_register v r x   the sixteen registers with R.r := x
--   word_at p pc    the program word at pc       reset_visible         all zero
use Rattle.std.specs.Prelude.{ℕ, ◌+◌, ◌*◌, ◌%◌, Bool, cond, List, length, get_or, set, replicate, ltb}
use Rattle.trm_word.specs.Fields.{bit, low_bits}
use Rattle.trm_word.specs.Condition.{is_set}

-- the registers are bank 0, then bank 1; flags are 0 or 1; status has bits 3–0
pub record Visible : Type 0 where
  pub pc : ℕ
  pub regs : List ℕ
  pub h : ℕ
  pub n : ℕ
  pub z : ℕ
  pub c : ℕ
  pub v : ℕ
  pub status : ℕ

-- "2 is the mode and selects the bank": the index of R.r, r from 0 to 7
unfoldable pub register_index : ℕ → ℕ → ℕ
register_index status r = bit 2 status * 8 + r

-- there are sixteen registers, so the default is not reached
unfoldable pub register : Visible → ℕ → ℕ
register v r = get_or v.regs (register_index v.status r) 0

unfoldable pub with_register : Visible → ℕ → ℕ → List ℕ
with_register v r x = set v.regs (register_index v.status r) x

-- "3 is cache on"
unfoldable pub cache_on : Visible → Bool
cache_on v = is_set (bit 3 v.status)

-- the status bits with another mode
unfoldable pub with_mode : ℕ → ℕ → ℕ
with_mode mode status = bit 3 status * 8 + mode * 4 + low_bits 2 status

-- "PC and PC+1 are taken mod 4,096"
unfoldable pub next_pc : ℕ → ℕ
next_pc pc = (pc + 1) % 4096

-- "Program words beyond the lent ones are 3BC00H (branch never)"
unfoldable pub word_at : List ℕ → ℕ → ℕ
word_at p pc = cond (ltb pc (length p)) (get_or p pc 0) 0x3BC00

-- "Reset makes everything zero"
unfoldable pub reset_visible : Visible
reset_visible =
    record { pc = 0; regs = replicate 16 0; h = 0; n = 0; z = 0; c = 0; v = 0; status = 0 }
