-- The fields of the serial record stay in their ranges.
-- Idea: each field by itself; the register is eight samples, whatever it was.
use Prim.Native.Nat.{ℕ, zero, suc, ◌+◌, ◌-◌, ◌/◌, ◌%◌, ◌^◌, ◌≤◌}
use mathlib.Core.Path.{◌≡◌, refl}
use mathlib.Core.Bool.{true}
use lib.ListN.{get_or}
use lib.Dec.{eqb}
use borrow.Author.Tests.{eqb-false, leb-true, ltb-true, le-leb, lt-ltb}
use native.Mathlib.Omega.{arith}
use Rattle.trm_laws.proofs.Tests.{chosen, chosen_by, both, all3, ◌&t◌}
use Rattle.trm_serial.specs.Timing.{paper_timing, frame, stop_sample}
use Rattle.trm_serial.specs.declared.record.Serial.{Serial}
use Rattle.trm_serial.specs.Serial.{Access, reads, writes, others, levels, left_after, sent_after, ready_after, accessed, waits, stops}
use Rattle.trm_serial.specs.Serial.{samples}
use Rattle.trm_serial.specs.Serial.{gathered, listened, serial_clock}
use Rattle.trm_serial.specs.Rule.{serial_ok, Narrow}

-- a data bit is the byte shifted right
pub data_bit : (b i : ℕ) → 1 ≤ i → i ≤ 8 → b / 2 ^ (i - 1) % 2 ≡ get_or (levels b) i 1
data_bit b zero h l = absurd (omega arith)
data_bit b (suc zero) h l = omega arith
data_bit b (suc (suc zero)) h l = refl
data_bit b (suc (suc (suc zero))) h l = refl
data_bit b (suc (suc (suc (suc zero)))) h l = refl
data_bit b (suc (suc (suc (suc (suc zero))))) h l = refl
data_bit b (suc (suc (suc (suc (suc (suc zero)))))) h l = refl
data_bit b (suc (suc (suc (suc (suc (suc (suc zero))))))) h l = refl
data_bit b (suc (suc (suc (suc (suc (suc (suc (suc zero)))))))) h l = refl
data_bit b (suc (suc (suc (suc (suc (suc (suc (suc (suc i))))))))) h l = absurd (omega arith)

-- from the stop bit on a level is high
pub stop-bit : (b i : ℕ) → 9 ≤ i → ◌≡◌ {A = ℕ} 1 (get_or (levels b) i 1)
stop-bit b zero h = absurd (omega arith)
stop-bit b (suc zero) h = absurd (omega arith)
stop-bit b (suc (suc zero)) h = absurd (omega arith)
stop-bit b (suc (suc (suc zero))) h = absurd (omega arith)
stop-bit b (suc (suc (suc (suc zero)))) h = absurd (omega arith)
stop-bit b (suc (suc (suc (suc (suc zero))))) h = absurd (omega arith)
stop-bit b (suc (suc (suc (suc (suc (suc zero)))))) h = absurd (omega arith)
stop-bit b (suc (suc (suc (suc (suc (suc (suc zero))))))) h = absurd (omega arith)
stop-bit b (suc (suc (suc (suc (suc (suc (suc (suc zero)))))))) h = absurd (omega arith)
stop-bit b (suc (suc (suc (suc (suc (suc (suc (suc (suc zero))))))))) h = refl
stop-bit b (suc (suc (suc (suc (suc (suc (suc (suc (suc (suc i)))))))))) h = refl

-- an access
left-fits : (n : ℕ) (a : Access) → n ≤ 10120 → left_after paper_timing n a ≤ 10120
unfolding left_after frame
left-fits n reads h = omega arith
left-fits n (writes w) h = chosen (λ x. x ≤ 10120) (eqb n 0) (omega arith) (omega arith)
left-fits n others h = omega arith

sent-fits : (n b : ℕ) (a : Access) → b ≤ 255 → sent_after n b a ≤ 255
unfolding sent_after
sent-fits n b reads h = h
sent-fits n b (writes w) h = chosen (λ x. x ≤ 255) (eqb n 0) (omega arith) h
sent-fits n b others h = h

ready-fits : (r : ℕ) (a : Access) → r ≤ 1 → ready_after r a ≤ 1
unfolding ready_after
ready-fits r reads h = omega arith
ready-fits r (writes w) h = h
ready-fits r others h = h

pub narrow-accessed : (s : Serial) (a : Access) → Narrow s → Narrow (accessed paper_timing a s)
narrow-accessed s a h =
    record {
      left = left-fits s.left a h.left;
      sent = sent-fits s.left s.sent a h.sent;
      passed = h.passed;
      bits = h.bits;
      byte = h.byte;
      ready = ready-fits s.ready a h.ready;
    }

-- a clock of the receiver
narrow-listened : (s : Serial) (line : ℕ) → line ≤ 1 → Narrow s → Narrow (listened paper_timing line s)
unfolding listened stops stop_sample gathered
narrow-listened s line l h =
    chosen Narrow (waits paper_timing line s.passed) h
    (chosen_by Narrow (eqb (s.passed + 1) 9614)
    (λ _. record { left = h.left; sent = h.sent; passed = omega arith; bits = h.bits; byte = h.bits; ready = omega arith })
    (λ e. record {
      left = h.left;
      sent = h.sent;
      passed = (let z = eqb-false (s.passed + 1) 9614 e in let p = h.passed in omega arith);
      bits = (let p = h.bits in chosen (λ x. x ≤ 255) (samples paper_timing s.passed) (omega arith) p);
      byte = h.byte;
      ready = h.ready;
    }))

-- the fields stay in their ranges, whatever the core does
pub narrow-clock : (s : Serial) (line : ℕ) (a : Access) → line ≤ 1 → Narrow s → Narrow (serial_clock paper_timing line a s)
unfolding serial_clock
narrow-clock s line a l h = narrow-listened (accessed paper_timing a s) line l (narrow-accessed s a h)

-- row 5's test and the ranges are the same
pub narrow-ok : (s : Serial) → serial_ok paper_timing s ≡ true → Narrow s
unfolding serial_ok frame stop_sample
narrow-ok s =
    both _ _ (λ p r. both _ _ (λ p b. both _ _ (λ p i. all3 _ _ _ (λ l t k. record {
      left = leb-true s.left 10120 l;
      sent = leb-true s.sent 255 t;
      passed = ltb-true s.passed 9614 k;
      bits = leb-true s.bits 255 i;
      byte = leb-true s.byte 255 b;
      ready = leb-true s.ready 1 r;
    }) p) p) p)

pub ok-narrow : (s : Serial) → Narrow s → serial_ok paper_timing s ≡ true
unfolding serial_ok frame stop_sample
ok-narrow s h =
    le-leb s.left 10120 h.left &t le-leb s.sent 255 h.sent &t lt-ltb s.passed 9614 h.passed
    &t le-leb s.bits 255 h.bits &t le-leb s.byte 255 h.byte &t le-leb s.ready 1 h.ready
