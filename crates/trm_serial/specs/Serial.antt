-- The transmitter and the receiver, and one clock of both.
-- Paper, A1: "A frame is a low start bit, eight data bits lowest first and a high stop bit, 1,012 clocks each, sampled in the 506th.
-- After reset or a stop sample the next low clock is a frame's first; start and stop samples are not judged."
-- Low is 0, high is 1.
--   level T s                the level sent in the clock that begins in s: it needs nothing of that clock
--   serial_clock T line a s   one clock, the line at this level, the core making this access
use Rattle.std.specs.Prelude.{ℕ, ◌+◌, ◌-◌, ◌*◌, ◌/◌, ◌%◌, Bool, cond, not, ◌&&◌, List, [], ◌∷◌, get_or, eqb, ltb}
use Rattle.trm_serial.specs.Timing.{Timing, frame, stop_sample}
pub use Rattle.trm_serial.specs.declared.record.Serial.{Serial}

-- what the core does in a clock with the serial data, device 4: at most one access in a clock
pub data Access : Type 0 where
  reads : Access
  writes : (word : ℕ) → Access
  others : Access

-- "Reset makes everything zero"
abbrev pub serial_reset : Serial
serial_reset = record { left = 0; sent = 0; passed = 0; bits = 0; byte = 0; ready = 0 }

-- "a low start bit, eight data bits lowest first and a high stop bit"
abbrev pub levels : ℕ → List ℕ
levels b = 0 ∷ b % 2 ∷ b / 2 % 2 ∷ b / 4 % 2 ∷ b / 8 % 2 ∷ b / 16 % 2 ∷ b / 32 % 2 ∷ b / 64 % 2 ∷ b / 128 % 2 ∷ 1 ∷ []

unfoldable pub busy : Serial → Bool
busy s = not (eqb s.left 0)

module _ (T : Timing) where
  -- the frame's bit whose turn it is; high without a frame
  unfoldable pub level : Serial → ℕ
  level s = cond (busy s) (get_or (levels s.sent) ((frame T - s.left) / T.period) 1) 1

  -- "a write while the transmitter is busy is dropped"; an accepted one starts its frame in the next clock; free, nothing is counted
  unfoldable pub left_after : ℕ → Access → ℕ
  left_after left reads = left - 1
  left_after left (writes word) = cond (eqb left 0) (frame T) (left - 1)
  left_after left others = left - 1

-- "serial data": the word's low eight bits
unfoldable pub sent_after : ℕ → ℕ → Access → ℕ
sent_after left sent reads = sent
sent_after left sent (writes word) = cond (eqb left 0) (word % 256) sent
sent_after left sent others = sent

-- "Reading device 4 clears the received bit"
unfoldable pub ready_after : ℕ → Access → ℕ
ready_after ready reads = 0
ready_after ready (writes word) = ready
ready_after ready others = ready

module _ (T : Timing) where
  -- the access, and one clock of the transmitter
  abbrev pub accessed : Access → Serial → Serial
  accessed a s =
      record {
        left = left_after T s.left a;
        sent = sent_after s.left s.sent a;
        passed = s.passed;
        bits = s.bits;
        byte = s.byte;
        ready = ready_after s.ready a;
      }

  -- no frame has begun and the line is high
  unfoldable pub waits : ℕ → ℕ → Bool
  waits line passed = eqb passed 0 && not (eqb line 0)

  -- the clock after so many of a frame samples the stop bit
  unfoldable pub stops : ℕ → Bool
  stops passed = eqb (passed + 1) (stop_sample T)

  -- it samples a bit; a data bit: neither start nor stop
  unfoldable pub samples : ℕ → Bool
  samples passed = eqb (passed % T.period + 1) T.sample && (ltb 0 (passed / T.period) && ltb (passed / T.period) 9)

  unfoldable pub gathered : ℕ → ℕ → ℕ → ℕ
  gathered line passed bits = cond (samples passed) (bits / 2 + 128 * line) bits

  abbrev pub receives : Serial → Serial
  receives s =
      record { left = s.left; sent = s.sent; passed = 0; bits = s.bits; byte = s.bits; ready = 1 }

  abbrev pub listens : ℕ → Serial → Serial
  listens line s =
      record {
        left = s.left;
        sent = s.sent;
        passed = s.passed + 1;
        bits = gathered line s.passed s.bits;
        byte = s.byte;
        ready = s.ready;
      }

  -- "A byte is received, its bit set, in the clock that samples its stop bit"
  unfoldable pub listened : ℕ → Serial → Serial
  listened line s = cond (waits line s.passed) s (cond (stops s.passed) (receives s) (listens line s))

  -- ".. after any read in that clock"
  unfoldable pub serial_clock : ℕ → Access → Serial → Serial
  serial_clock line a s = listened line (accessed a s)
