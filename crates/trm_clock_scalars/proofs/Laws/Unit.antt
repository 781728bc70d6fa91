-- The multiplier's or divider's registers packed into one number: they fit, and one step.
-- Idea: by cases of the unit; the number is the product, or trm_alu's pair, whose step is a step of both divider registers.
--   packs   in phase 1 the registers in flight fit one number        product-stepped, pair-stepped   one step
use Prim.Native.Nat.{ℕ, ◌+◌, ◌*◌, ◌/◌, ◌%◌, ◌^◌, ◌≤◌, ◌<◌}
use mathlib.Core.Path.{◌≡◌, ap, ◌∙◌}
use mathlib.Core.Logic.{◌≢◌}
use mathlib.Core.Bool.{true, cond}
use lib.Dec.{eqb}
use borrow.Author.Tests.{ne_eqb}
use native.Mathlib.Omega.{arith}
use Rattle.trm_laws.proofs.Tests.{test_at}
use Rattle.trm_word.specs.Fields.{operation}
use Rattle.trm_alu.specs.Multiply.{mul_after, mul_step}
use Rattle.trm_alu.specs.Divide.{div_rem, div_quot}
use Rattle.trm_alu.specs.Pair.{paired, pair_divisor, pair_step}
use Rattle.trm_alu.proofs.Laws.Pair.{rem-fits, quot_fits, pair_step_lem}
use Rattle.trm_reference.specs.Visible.{Visible}
use Rattle.trm_reference.specs.Execute.{operand_a, operand_b}
use Rattle.trm_reference.specs.Charge.{is_stepped}
use Rattle.trm_core.specs.declared.record.Running.{Running}
use Rattle.trm_core.specs.Record.{product_at, remainder_at, quotient_at, stepping}
use Rattle.trm_core.specs.Rule.{registers_ok}
use Rattle.trm_core.proofs.Laws.Rule.{registers-from}
use Rattle.trm_clock_scalars.specs.declared.inner.packed_unit.Unit.{Unit}
use Rattle.trm_clock_scalars.specs.Steps.{Serves}
use Rattle.trm_clock_scalars.specs.Unit.{Packs, in_flight}
use Rattle.trm_clock_scalars.proofs.Laws.Steps.{mul_next, divides_if, multiplies, divides, multiplied-is, divided-is}

-- ---- packing

-- in phase 1 the other unit's registers are zero, and those of the divider have 32 bits
pub packs : (w : ℕ) (r : Running) (v : Visible) → is_stepped w ≡ true → r.phase ≡ 1 → r.count ≤ 32 → operand_b w v < 2 ^ 32
    → registers_ok w r v ≡ true → Packs w r
unfolding product_at remainder_at quotient_at
packs w r v t ph few hb ok =
    let g = registers-from w r v ok in
    record {
      phase = ph;
      multiplies = λ e. (g.remainder ∙ rw (test_at ph 1, test_at e 9), g.quotient ∙ rw (test_at ph 1, test_at e 9));
      divides = λ n.
          let e = divides_if w t n in (
            g.product ∙ rw (test_at ph 1, test_at e 8),
            rw (g.remainder, test_at ph 1, test_at e 9) (omega (arith, rem-fits (operand_a w v) (operand_b w v) r.count)),
            rw (g.quotient, test_at ph 1, test_at e 9) (quot_fits (operand_a w v) (operand_b w v) r.count hb few),
          );
    }

-- ---- one step

module _ (w : ℕ) (v : Visible) (u : Unit) (a b : ℕ) (ha : a < 2 ^ 32) (hb : b < 2 ^ 32) (k : Serves w (in_flight w u) a b)
    (p : a ≡ operand_a w v) (q : b ≡ operand_b w v) where
  pub product-stepped : operation w ≡ 8
      → in_flight w (record { value = mul_step u.value b (eqb u.count 31); count = u.count + 1 }) ≡ stepping w v (u.count + 1)
  product-stepped e =
      let m = multiplies w k.seen (in_flight w u) k.steps e in
      let here : cond (eqb (operation w) 8) u.value 0 ≡ mul_after a b u.count =
      rw (k.first, k.second) (m.product (λ z. absurd (omega (arith, z)))) in
      let x : u.value ≡ mul_after a b u.count = rw (test_at e 8) at here in
      rw (test_at e 8, mul_next a b hb u.count u.value ha m.few x, p, q) (multiplied-is w v (u.count + 1) e)

  -- the number is the pair of the divider's registers
  pair_is : operation w ≢ 8 → u.value ≡ paired (div_rem a b u.count) (div_quot a b u.count)
  unfolding paired
  pair_is n =
      let m = divides w k.seen (in_flight w u) k.steps n in
      let no = ne_eqb (operation w) 8 n in
      let up : cond (eqb (operation w) 8) 0 (u.value / 2 ^ 32) ≡ div_rem a b u.count =
      rw (k.first, k.second) (m.remainder (λ z. absurd (omega (arith, z)))) in
      let down : cond (eqb (operation w) 8) 0 (u.value % 2 ^ 32) ≡ div_quot a b u.count =
      rw (k.first, k.second) (m.quotient (λ z. absurd (omega (arith, z)))) in
      let up' : u.value / 2 ^ 32 ≡ div_rem a b u.count = rw no at up in
      let down' : u.value % 2 ^ 32 ≡ div_quot a b u.count = rw no at down in
      omega (arith, up', down')

  pub pair-stepped : operation w ≢ 8
      → in_flight w (record { value = pair_step u.value (pair_divisor a); count = u.count + 1 }) ≡ stepping w v (u.count + 1)
  unfolding paired
  pair-stepped n =
      let few = k.steps.few in
      let i = u.count + 1 in
      let next : pair_step u.value (pair_divisor a) ≡ div_rem a b i * 2 ^ 32 + div_quot a b i =
      ap (λ x. pair_step x (pair_divisor a)) (pair_is n) ∙ pair_step_lem a b u.count hb few in
      let fits = quot_fits a b i hb (omega (arith, few)) in
      let up : pair_step u.value (pair_divisor a) / 2 ^ 32 ≡ div_rem a b i = omega (arith, next, fits) in
      let down : pair_step u.value (pair_divisor a) % 2 ^ 32 ≡ div_quot a b i = omega (arith, next, fits) in
      rw (ne_eqb (operation w) 8 n, up, down, p, q) (divided-is w v i k.steps.stepped n)
