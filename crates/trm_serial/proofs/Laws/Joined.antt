-- A line joined to itself: what is accepted is received, once and in order.
-- Idea: every clock takes from the line what it receives and puts on it what it accepts; the whole list by the law of a register.
use mathlib.Core.Path.{◌≡◌, refl, sym, ap, ◌∙◌}
use mathlib.Core.List.{List, [], ◌∷◌, ◌++◌}
use native.Mathlib.Omega.{arith}
use Rattle.trm_serial.specs.Timing.{Timing, Fits}
use Rattle.trm_serial.specs.Serial.{Access, Serial, serial_reset, level, serial_clock}
use Rattle.trm_serial.specs.Moments.{fed, joined, joined_end, each, accepted_at, received_at, on_line}
use Rattle.trm_serial.proofs.Laws.Lists.{Passed, passed}
use Rattle.trm_serial.proofs.Laws.Stages.{Stage, idle, off-line}
use Rattle.trm_serial.proofs.Laws.Steps.{Step, step}

module _ (T : Timing) (fits : Fits T) where
  all_pass : (s : Serial) → Stage T s → (as' : List Access) → Passed T accepted_at (received_at T) (on_line T) s (fed T s as')
  unfolding fed Step
  all_pass s h [] = tt
  all_pass s h (a ∷ as') =
      let st = step T fits s h a in (st.0, all_pass (serial_clock T (level T s) a s) st.1 as')

  reset-stage : Stage T serial_reset
  reset-stage = idle (record { none = refl; rest = omega arith; narrow = omega arith })

  pub all-received : (as' : List Access)
      → each accepted_at (joined T serial_reset as') ≡ each (received_at T) (joined T serial_reset as') ++ on_line T
      (joined_end T serial_reset as')
  all-received as' =
      sym (ap (λ l. l ++ each accepted_at (joined T serial_reset as')) (off-line T serial_reset (omega arith)))
      ∙ passed T accepted_at (received_at T) (on_line T) serial_reset (fed T serial_reset as') (all_pass serial_reset reset-stage as')
