-- The periods of the board: clocks of a bit, the clock of a bit that samples it, clocks of a tick.
-- Paper, A1: "1,012 clocks each, sampled in the 506th"; "a multiple of 116,600". Every definition takes them as a parameter, so that
-- small ones can be computed with.
--   paper_timing   1,012, 506, 116,600        frame T   10,120        stop_sample T   9,614        Fits T   what the claims ask of them
use Rattle.std.specs.Prelude.{ℕ, ◌+◌, ◌*◌, ◌≤◌}

pub record Timing : Type 0 where
  pub period : ℕ
  pub sample : ℕ
  pub tick : ℕ

abbrev pub paper_timing : Timing
paper_timing = record { period = 1012; sample = 506; tick = 116600 }

-- "the 10,120 clocks .. which are its frame": a start bit, eight data bits and a stop bit
unfoldable pub frame : Timing → ℕ
frame T = 10 * T.period

-- the clock of a frame, counted from 1, that samples its stop bit
unfoldable pub stop_sample : Timing → ℕ
stop_sample T = 9 * T.period + T.sample

-- the sample is one of the bit's clocks, which are counted from 1
pub record Fits (T : Timing) : Type 0 where
  pub first : 1 ≤ T.sample
  pub last : T.sample ≤ T.period
  pub ticks : 1 ≤ T.tick
