-- Clocks without an answer: what a run does that stops before an access to a device.
-- Paper: "both zero without an access". Used in inner contracts only: no claim rests on it.
--   zero_pins ls   line bytes with input words of 0        Able p x ls   what such a run requires
--   Silent p ls x y fin   these clocks of x have no answer, end in y and finish fin words
use Rattle.std.specs.Prelude.{ℕ, ◌+◌, ◌≤◌, ◌≡◌, true, List, [], ◌∷◌, length, replicate}
use Rattle.trm_reference.specs.Geometry.{paper_geometry}
use Rattle.trm_reference.specs.Access.{Answer}
use Rattle.trm_reference.specs.Trace.{Pins, After, clocks, end_of, outs_of, finished_in}
use Rattle.trm_core.specs.Record.{Lent}
use Rattle.trm_core.specs.Clock.{clock_of}
use Rattle.trm_core.specs.Claims.{Shaped}
use Rattle.trm_core.specs.Refusals.{all_at_most, program_ok, store_ok}
use Rattle.trm_core.specs.Rule.{record_ok}
use Rattle.trm_core.specs.Run.{bytes_of}

unfoldable pub zero_pins : List ℕ → List Pins
zero_pins [] = []
zero_pins (l ∷ ls) = record { line_byte = l; input = 0 } ∷ zero_pins ls

abbrev pub zero_clocks : List ℕ → List ℕ → Lent → List (After Lent Answer)
zero_clocks p ls x = clocks (clock_of paper_geometry p) x (zero_pins ls)

pub record Silent (p ls : List ℕ) (x y : Lent) (fin : ℕ) : Type 0 where
  pub state : y ≡ end_of x (zero_clocks p ls x)
  pub bytes : bytes_of (outs_of (zero_clocks p ls x)) ≡ replicate (length ls) 0
  pub done : fin ≡ finished_in (outs_of (zero_clocks p ls x))

-- rows 3 to 8 are passed, for at most 64 clocks
pub record Able (p : List ℕ) (x : Lent) (ls : List ℕ) : Type 0 where
  pub program : program_ok p ≡ true
  pub store : store_ok x.machine x.store ≡ true
  pub rule : record_ok paper_geometry p (length x.store) x.machine ≡ true
  pub shaped : Shaped paper_geometry x.machine
  pub few : length ls ≤ 64
  pub low : all_at_most 7 ls ≡ true
  pub room : x.machine.scalars.counts.clocks + length ls ≤ 4294967295
