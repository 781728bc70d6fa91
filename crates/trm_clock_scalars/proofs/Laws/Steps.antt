-- One step of the multiplier and of the divider, on the registers of the instruction in flight.
-- Idea: the registers before the first step are the closed form after 0 steps; the claims of trm_alu then give each step.
--   mul-first, mul_next, div-first, div-next   the registers after a step
--   multiplies, divides                        a step of w is a step of the unit that w uses
use Prim.Native.Nat.{ℕ, ◌+◌, ◌^◌, ◌<◌}
use mathlib.Core.Path.{◌≡◌, sym, ap, ◌∙◌}
use mathlib.Core.Logic.{◌≢◌}
use mathlib.Core.Bool.{Bool, true, false, ◌||◌}
use lib.Dec.{eqb}
use borrow.Author.Tests.{eqb-true, eq-eqb, ne_eqb}
use native.Mathlib.Omega.{arith}
use Rattle.trm_laws.proofs.Tests.{test_at}
use Rattle.trm_word.specs.Fields.{operation}
use Rattle.trm_alu.specs.declared.inner.divide.Divider.{Divider}
use Rattle.trm_alu.specs.Multiply.{mul_after, mul_step}
use Rattle.trm_alu.specs.Divide.{div_rem, div_quot, divider_at, div_step}
use Rattle.trm_alu.proofs.Theorems.{theorems}
use Rattle.trm_reference.specs.Visible.{Visible}
use Rattle.trm_reference.specs.Execute.{operand_a, operand_b}
use Rattle.trm_reference.specs.Charge.{is_stepped}
use Rattle.trm_core.specs.declared.record.Running.{Running}
use Rattle.trm_core.specs.Record.{product_at, remainder_at, quotient_at, stepping}
use Rattle.trm_core.proofs.Laws.Rule.{registers-from}
use Rattle.trm_clock_scalars.specs.Steps.{Steps, Multiplies, Divides, multiplied, divided_by}

module _ (a b : ℕ) (hb : b < 2 ^ 32) where
  pub mul-first : a < 2 ^ 32 → mul_step a b false ≡ mul_after a b 1
  mul-first ha = ap (λ (x : ℕ). mul_step x b false) (sym (theorems.mul_starts a b ha hb)) ∙ theorems.mul_steps a b 0 ha hb (omega arith)

  pub mul_next : (k x : ℕ) → a < 2 ^ 32 → k < 32 → x ≡ mul_after a b k → mul_step x b (eqb k 31) ≡ mul_after a b (k + 1)
  mul_next k x ha few is = ap (λ (y : ℕ). mul_step y b (eqb k 31)) is ∙ theorems.mul_steps a b k ha hb few

  pub div-first : (d : Divider) → d ≡ divider_at a b 0 → div_step d.rem d.quot a ≡ divider_at a b 1
  div-first d is = ap (λ (x : Divider). div_step x.rem x.quot a) is ∙ theorems.div_steps a b 0 hb (omega arith)

  pub div-next : (k x y : ℕ) → k < 32 → x ≡ div_rem a b k → y ≡ div_quot a b k → div_step x y a ≡ divider_at a b (k + 1)
  div-next k x y few is also = rw (is, also) (theorems.div_steps a b k hb few)

-- an instruction with steps that is not MUL is DIV
pub divides_if : (w : ℕ) → is_stepped w ≡ true → operation w ≢ 8 → operation w ≡ 9
unfolding is_stepped
divides_if w t z = eqb-true (operation w) 9 (ap (λ (x : Bool). x || eqb (operation w) 9) (sym (ne_eqb (operation w) 8 z)) ∙ t)

module _ (w : ℕ) (v : Visible) where
  pub multiplies : (r : Running) → Steps w r v → operation w ≡ 8 → Multiplies r (operand_a w v) (operand_b w v)
  unfolding product_at remainder_at quotient_at
  multiplies r k e =
      record {
        few = k.few;
        fresh = k.fresh;
        product = λ z. (registers-from w r v k.registers).product ∙ rw (eq-eqb r.phase 1 (k.only z), test_at e 8);
        remainder = λ z. (registers-from w r v k.registers).remainder ∙ rw (eq-eqb r.phase 1 (k.only z), test_at e 9);
        quotient = λ z. (registers-from w r v k.registers).quotient ∙ rw (eq-eqb r.phase 1 (k.only z), test_at e 9);
      }

  pub divides : (r : Running) → Steps w r v → operation w ≢ 8 → Divides r (operand_a w v) (operand_b w v)
  unfolding product_at remainder_at quotient_at
  divides r k z =
      let e = divides_if w k.stepped z in
      record {
        few = k.few;
        fresh = k.fresh;
        remainder = λ y. (registers-from w r v k.registers).remainder ∙ rw (eq-eqb r.phase 1 (k.only y), test_at e 9);
        quotient = λ y. (registers-from w r v k.registers).quotient ∙ rw (eq-eqb r.phase 1 (k.only y), test_at e 9);
        product = λ y. (registers-from w r v k.registers).product ∙ rw (eq-eqb r.phase 1 (k.only y), test_at e 8);
      }

  pub multiplied-is : (k : ℕ) → operation w ≡ 8 → multiplied (operand_a w v) (operand_b w v) k ≡ stepping w v k
  unfolding product_at remainder_at quotient_at
  multiplied-is k e = rw (test_at e 8, test_at e 9)

  pub divided-is : (k : ℕ) → is_stepped w ≡ true → operation w ≢ 8 → divided_by (operand_a w v) (operand_b w v) k ≡ stepping w v k
  unfolding product_at remainder_at quotient_at
  divided-is k t z = let e = divides_if w t z in rw (test_at e 8, test_at e 9)

  -- the registers from which the last clock takes the result
  pub product_is : (x : ℕ) → x ≡ product_at w v 32 → operation w ≡ 8 → x ≡ mul_after (operand_a w v) (operand_b w v) 32
  unfolding product_at
  product_is x p e = p ∙ rw (test_at e 8)

  pub remainder_is : (x : ℕ) → x ≡ remainder_at w v 32 → operation w ≡ 9 → x ≡ div_rem (operand_a w v) (operand_b w v) 32
  unfolding remainder_at
  remainder_is x p e = p ∙ rw (test_at e 9)

  pub quotient_is : (x : ℕ) → x ≡ quotient_at w v 32 → operation w ≡ 9 → x ≡ div_quot (operand_a w v) (operand_b w v) 32
  unfolding quotient_at
  quotient_is x p e = p ∙ rw (test_at e 9)
