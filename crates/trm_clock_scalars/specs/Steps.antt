-- What one step of the multiplier or the divider requires of the record, and the registers after it.
-- Paper: "Phase 1 needs operation 8 or 9"; "1 arithmetic, 1–32"; "for the operation not running, these registers are zero".
--   Steps w r v           w can take a step from r            Serves w r a b          the same in phase 1, for operands a and b
--   Multiplies, Divides   what a step of one unit requires    multiplied, divided_by   `Running` after k steps
use Rattle.std.specs.Prelude.{ℕ, ◌<◌, ◌≡◌, ◌≢◌, true}
use Rattle.trm_alu.specs.Multiply.{mul_after}
use Rattle.trm_alu.specs.Divide.{div_rem, div_quot}
use Rattle.trm_reference.specs.Visible.{Visible}
use Rattle.trm_reference.specs.Execute.{operand_a, operand_b}
use Rattle.trm_reference.specs.Charge.{is_stepped}
use Rattle.trm_core.specs.declared.record.Running.{Running}
use Rattle.trm_core.specs.Rule.{registers_ok}

-- w is MUL or DIV, and r is ready (phase 0) or in phase 1 with steps left
pub record Steps (w : ℕ) (r : Running) (v : Visible) : Type 0 where
  pub stepped : is_stepped w ≡ true
  pub few : r.count < 32
  pub fresh : r.phase ≡ 0 → r.count ≡ 0
  pub only : r.phase ≢ 0 → r.phase ≡ 1
  pub registers : registers_ok w r v ≡ true

-- w is MUL or DIV, r is in phase 1 with steps left, and the operands A and B are a and b
pub record Serves (w : ℕ) (r : Running) (a b : ℕ) : Type 0 where
  pub seen : Visible
  pub steps : Steps w r seen
  pub running : r.phase ≡ 1
  pub first : a ≡ operand_a w seen
  pub second : b ≡ operand_b w seen

-- what a multiplier step requires of r: ready in phase 0, in any other phase the registers after `count` steps on operands a and b
pub record Multiplies (r : Running) (a b : ℕ) : Type 0 where
  pub few : r.count < 32
  pub fresh : r.phase ≡ 0 → r.count ≡ 0
  pub product : r.phase ≢ 0 → r.product ≡ mul_after a b r.count
  pub remainder : r.phase ≢ 0 → r.remainder ≡ 0
  pub quotient : r.phase ≢ 0 → r.quotient ≡ 0

-- the same for the divider
pub record Divides (r : Running) (a b : ℕ) : Type 0 where
  pub few : r.count < 32
  pub fresh : r.phase ≡ 0 → r.count ≡ 0
  pub remainder : r.phase ≢ 0 → r.remainder ≡ div_rem a b r.count
  pub quotient : r.phase ≢ 0 → r.quotient ≡ div_quot a b r.count
  pub product : r.phase ≢ 0 → r.product ≡ 0

abbrev pub multiplied : ℕ → ℕ → ℕ → Running
multiplied a b k = record { phase = 1; count = k; product = mul_after a b k; remainder = 0; quotient = 0 }

abbrev pub divided_by : ℕ → ℕ → ℕ → Running
divided_by a b k = record { phase = 1; count = k; product = 0; remainder = div_rem a b k; quotient = div_quot a b k }
