-- One clock, field by field.
-- Idea: a receiver that waits is at no stop bit, so the two tests of a clock go to each field by themselves.
use Prim.Native.Nat.{ℕ, ◌+◌, ◌-◌, ◌*◌}
use mathlib.Core.Path.{◌≡◌, refl, sym}
use mathlib.Core.Bool.{Bool, true, false, cond, not, ◌&&◌}
use mathlib.Core.Logic.{◌≢◌}
use lib.Dec.{eqb}
use borrow.Author.Tests.{eqb-true, ne_eqb}
use native.Mathlib.Omega.{arith}
use Rattle.trm_serial.specs.Timing.{Timing, Fits, stop_sample}
use Rattle.trm_serial.specs.Serial.{Access, reads, writes, others, Serial, left_after, sent_after, ready_after, accessed, waits, stops}
use Rattle.trm_serial.specs.Serial.{receives}
use Rattle.trm_serial.specs.Serial.{listens, listened, serial_clock}

module _ (T : Timing) where
  -- a field that listening leaves, in each of its three outcomes
  kept_by : (f : Serial → ℕ) (w t : Bool) (x y z : Serial) (n : ℕ) → f x ≡ n → f y ≡ n → f z ≡ n → f (cond w x (cond t y z)) ≡ n
  kept_by f true t x y z n p q r = p
  kept_by f false true x y z n p q r = q
  kept_by f false false x y z n p q r = r

  pub left_after_lem : (line : ℕ) (a : Access) (s : Serial) → (serial_clock T line a s).left ≡ left_after T s.left a
  unfolding serial_clock listened
  left_after_lem line a s =
      kept_by (λ x. x.left) (waits T line s.passed) (stops T s.passed) (accessed T a s) (receives T (accessed T a s))
      (listens T line (accessed T a s)) _ refl refl refl

  pub sent-after : (line : ℕ) (a : Access) (s : Serial) → (serial_clock T line a s).sent ≡ sent_after s.left s.sent a
  unfolding serial_clock listened
  sent-after line a s =
      kept_by (λ x. x.sent) (waits T line s.passed) (stops T s.passed) (accessed T a s) (receives T (accessed T a s))
      (listens T line (accessed T a s)) _ refl refl refl

  pub waits_no_stop : Fits T → (line passed : ℕ) → waits T line passed ≡ true → stops T passed ≡ false
  unfolding waits stops stop_sample
  waits_no_stop f line passed w = go (eqb passed 0) refl w
    where
      go : (b : Bool) → eqb passed 0 ≡ b → b && not (eqb line 0) ≡ true → eqb (passed + 1) (9 * T.period + T.sample) ≡ false
      go true e h =
          let z = eqb-true passed 0 e in let p = f.first in let q = f.last in
          ne_eqb (passed + 1) (9 * T.period + T.sample) (λ y. omega arith)
      go false e h = absurd (mathlib.Core.Bool.false≢true h)

  -- byte and bit: those of a reception, else as the access left them
  outcome : (f : Serial → ℕ) (w t : Bool) (x y z : Serial) → (w ≡ true → t ≡ false) → f x ≡ f z
      → f (cond w x (cond t y z)) ≡ cond t (f y) (f z)
  outcome f true true x y z h e = absurd (mathlib.Core.Bool.false≢true (sym (h refl)))
  outcome f true false x y z h e = e
  outcome f false true x y z h e = refl
  outcome f false false x y z h e = refl

  pub ready-after : Fits T → (line : ℕ) (a : Access) (s : Serial)
      → (serial_clock T line a s).ready ≡ cond (stops T s.passed) 1 (ready_after s.ready a)
  unfolding serial_clock listened
  ready-after f line a s =
      outcome (λ x. x.ready) (waits T line s.passed) (stops T s.passed) (accessed T a s) (receives T (accessed T a s))
      (listens T line (accessed T a s)) (waits_no_stop f line s.passed) refl

  pub byte-after : Fits T → (line : ℕ) (a : Access) (s : Serial)
      → (serial_clock T line a s).byte ≡ cond (stops T s.passed) s.bits s.byte
  unfolding serial_clock listened
  byte-after f line a s =
      outcome (λ x. x.byte) (waits T line s.passed) (stops T s.passed) (accessed T a s) (receives T (accessed T a s))
      (listens T line (accessed T a s)) (waits_no_stop f line s.passed) refl

  -- the three outcomes of a clock
  pub clock-waits : (line : ℕ) (a : Access) (s : Serial) → waits T line s.passed ≡ true → serial_clock T line a s ≡ accessed T a s
  unfolding serial_clock listened
  clock-waits line a s w = rw w

  pub clock-receives : (line : ℕ) (a : Access) (s : Serial) → waits T line s.passed ≡ false → stops T s.passed ≡ true
      → serial_clock T line a s ≡ receives T (accessed T a s)
  unfolding serial_clock listened
  clock-receives line a s w t = rw (w, t)

  pub clock-listens : (line : ℕ) (a : Access) (s : Serial) → waits T line s.passed ≡ false → stops T s.passed ≡ false
      → serial_clock T line a s ≡ listens T line (accessed T a s)
  unfolding serial_clock listened
  clock-listens line a s w t = rw (w, t)

  -- a busy transmitter: one clock less, and its byte stays, whatever is written
  pub left_busy : (n : ℕ) (a : Access) → n ≢ 0 → left_after T n a ≡ n - 1
  unfolding left_after
  left_busy n reads z = refl
  left_busy n (writes w) z = rw (ne_eqb n 0 z)
  left_busy n others z = refl

pub sent-busy : (n b : ℕ) (a : Access) → n ≢ 0 → sent_after n b a ≡ b
unfolding sent_after
sent-busy n b reads z = refl
sent-busy n b (writes w) z = rw (ne_eqb n 0 z)
sent-busy n b others z = refl
