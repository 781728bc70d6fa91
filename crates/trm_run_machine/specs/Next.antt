-- Whether the next clock of a record takes an interrupt or is a step. Used in inner contracts only.
-- Paper: "An unheld clock with no instruction in flight takes an interrupt if .."; "33: 32 steps, then the result".
--   Acknowledges c line to   the clock takes the interrupt to PC `to`, or none        Steps c w line o   a step of operation o
--   StepsOne c w line u   a step of the unit u, if there is one
use Rattle.std.specs.Prelude.{ℕ, ◌+◌, ◌≡◌, ◌≢◌, false, Option, Some, None, ⊤}
use Rattle.trm_word.specs.Fields.{operation}
use Rattle.trm_word.specs.Charge.{charge_of}
use Rattle.trm_reference.specs.Interrupt.{stalled, interrupt_chosen}
use Rattle.trm_core.specs.declared.record.Scalars.{Scalars}
use Rattle.trm_run_machine.specs.declared.inner.next_clock.Stepper.{Stepper}
use Rattle.trm_run_machine.specs.declared.inner.next_clock.Stepper.TheVariants.{Multiplier, Divider}

pub record Takes (c : Scalars) (line_byte to : ℕ) : Type 0 where
  pub unheld : stalled line_byte ≡ false
  pub idle : c.running.phase ≡ 0
  pub chosen : to ≡ interrupt_chosen c.status line_byte
  pub some : to ≢ 0

abbrev pub Acknowledges : Scalars → ℕ → Option ℕ → Type 0
Acknowledges c line_byte (Some to) = Takes c line_byte to
Acknowledges c line_byte None = stalled line_byte ≡ false → c.running.phase ≡ 0 → interrupt_chosen c.status line_byte ≡ 0

pub record Steps (c : Scalars) (w line_byte o : ℕ) : Type 0 where
  pub unheld : stalled line_byte ≡ false
  pub more : c.running.count + 1 ≢ charge_of (operation w)
  pub operation : operation w ≡ o

abbrev pub StepsOne : Scalars → ℕ → ℕ → Option Stepper → Type 0
StepsOne c w line_byte (Some Multiplier) = Steps c w line_byte 8
StepsOne c w line_byte (Some Divider) = Steps c w line_byte 9
StepsOne c w line_byte None = ⊤
