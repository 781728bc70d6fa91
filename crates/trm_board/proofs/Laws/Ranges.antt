-- The board's fields stay in their ranges.
-- Idea: each field by itself.
use Prim.Native.Nat.{ℕ, ◌%◌, ◌≤◌}
use mathlib.Core.Path.{◌≡◌, refl}
use mathlib.Core.Bool.{true}
use lib.Dec.{eqb}
use borrow.Author.Tests.{leb-true, le-leb}
use native.Mathlib.Omega.{arith}
use Rattle.trm_laws.proofs.Tests.{chosen, all3, ◌&t◌}
use Rattle.trm_serial.specs.Timing.{paper_timing, frame, stop_sample}
use Rattle.trm_serial.specs.Rule.{serial_ok}
use Rattle.trm_serial.proofs.Laws.Narrow.{narrow-clock, narrow-ok, ok-narrow}
use Rattle.trm_board.specs.Board.{Devices, access_of, tick_after, lamps_after, devices_clock}
use Rattle.trm_board.specs.Rule.{devices_ok, InRange}
use Rattle.trm_board.specs.Claims.{RangesKept}

tick-fits : (count byte tick : ℕ) → tick ≤ 1 → tick_after paper_timing count byte tick ≤ 1
unfolding tick_after
tick-fits count byte tick h =
    chosen (λ x. x ≤ 1) (eqb (count % 116600) 0) (omega arith) (chosen (λ x. x ≤ 1) (eqb byte 26) (omega arith) h)

lamps_fit : (byte word lamps : ℕ) → lamps ≤ 1023 → lamps_after byte word lamps ≤ 1023
unfolding lamps_after
lamps_fit byte word lamps h = chosen (λ x. x ≤ 1023) (eqb byte 30) (omega arith) h

pub in_range-clock : (line count byte word : ℕ) (d : Devices) → line ≤ 1 → InRange d → InRange
    (devices_clock paper_timing line count byte word d)
in_range-clock line count byte word d l h = record {
  serial = narrow-clock d.serial line (access_of byte word) l h.serial;
  tick = tick-fits count byte d.tick h.tick;
  lamps = lamps_fit byte word d.lamps h.lamps;
}

-- row 5's test and the ranges are the same
pub in_range : (d : Devices) → devices_ok paper_timing d ≡ true → InRange d
unfolding devices_ok
in_range d = all3 _ _ _ (λ s t l. record {
  serial = narrow-ok d.serial s;
  tick = leb-true d.tick 1 t;
  lamps = leb-true d.lamps 1023 l;
})

pub range-ok : (d : Devices) → InRange d → devices_ok paper_timing d ≡ true
unfolding devices_ok
range-ok d h = ok-narrow d.serial h.serial &t le-leb d.tick 1 h.tick &t le-leb d.lamps 1023 h.lamps

pub ranges_kept : RangesKept
unfolding devices_ok serial_ok frame stop_sample
ranges_kept = record {
  reset = refl;
  clock = λ line count byte word d l h. range-ok _ (in_range-clock line count byte word d l (in_range d h));
}
