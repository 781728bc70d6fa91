-- The registers in flight as one number during the steps: the product, or the divider's remainder above its quotient register.
-- Paper: "for the operation not running, these registers are zero".
--   in_flight w u   `u` unpacked for the word w        Packs w r   only the registers of w's unit are in use in r, so it can be packed
use Rattle.std.specs.Prelude.{ℕ, ◌/◌, ◌%◌, ◌^◌, ◌<◌, ◌≡◌, ◌≢◌, cond, eqb}
use Rattle.trm_word.specs.Fields.{operation}
use Rattle.trm_core.specs.declared.record.Running.{Running}
use Rattle.trm_clock_scalars.specs.declared.inner.packed_unit.Unit.{Unit}

abbrev pub in_flight : ℕ → Unit → Running
in_flight w u =
    record {
      phase = 1;
      count = u.count;
      product = cond (eqb (operation w) 8) u.value 0;
      remainder = cond (eqb (operation w) 8) 0 (u.value / 2 ^ 32);
      quotient = cond (eqb (operation w) 8) 0 (u.value % 2 ^ 32);
    }

pub record Packs (w : ℕ) (r : Running) : Type 0 where
  pub phase : r.phase ≡ 1
  pub multiplies : operation w ≡ 8 → (r.remainder ≡ 0) × (r.quotient ≡ 0)
  pub divides : operation w ≢ 8 → (r.product ≡ 0) × (r.remainder < 2 ^ 32) × (r.quotient < 2 ^ 32)
