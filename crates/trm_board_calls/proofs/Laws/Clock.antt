-- One clock of the board from its pieces.
-- Idea: the query names the device that the clock's answer byte will show, so the core's clock is that of the definition.
use Prim.Native.Nat.{ℕ, ◌%◌}
use mathlib.Core.Path.{◌≡◌, refl, sym, ap, ◌∙◌}
use mathlib.Core.Bool.{Bool, cond}
use mathlib.Core.List.{List}
use lib.ListN.{length}
use native.Mathlib.Omega.{arith}
use Rattle.trm_reference.specs.Geometry.{paper_geometry}
use Rattle.trm_reference.specs.Visible.{word_at}
use Rattle.trm_reference.specs.Access.{Answer}
use Rattle.trm_reference.specs.Trace.{After}
use Rattle.trm_core.specs.Record.{Lent, gathered}
use Rattle.trm_core.specs.Clock.{clock_of}
use Rattle.trm_run_machine.specs.declared.machine.Machine.{Machine}
use Rattle.trm_run_machine.specs.Machine.{lent}
use Rattle.trm_clock_device.specs.Device.{device_due}
use Rattle.trm_clock_device.proofs.Theorems as device
use Rattle.trm_serial.specs.Timing.{paper_timing}
use Rattle.trm_serial.specs.Serial.{level}
use Rattle.trm_board.specs.declared.record.Devices.{Devices}
use Rattle.trm_board.specs.Core.{pins, asked}
use Rattle.trm_board.specs.Board.{Inputs, inputs_of, Board, reply, line_byte, line_in, devices_clock, fed, core_clock, board_clock}
use Rattle.trm_board_calls.specs.Cores.{record_core}
use Rattle.trm_board_calls.specs.Coded.{board_at, Ready}
use Rattle.trm_board_calls.proofs.Laws.Ready.{Bits, ready_legal}

pub input-bits : (joined : Bool) (given switches : ℕ) → Bits (inputs_of joined given switches)
input-bits joined given switches = record { line = omega arith; interrupt = omega arith; stall = omega arith }

module _ (p : List ℕ) (m : Machine) (d : Devices) (s : List ℕ) (h : Ready p (board_at m d s) 1) (joined : Bool) (given switches : ℕ) where
  abbrev i : Inputs
  i = inputs_of joined given switches

  abbrev b : Board Lent
  b = board_at m d s

  which : asked (record_core paper_geometry p) (lent m s) (line_byte d.tick i)
      ≡ device_due (word_at p m.scalars.pc) (length s) m.scalars.running.phase (gathered m.scalars m.regs) (line_byte
      d.tick i)
  unfolding asked
  which = (device.theorems).foretold p (lent m s) (pins (line_byte d.tick i) 0) (ready_legal p b 0 h) h.rule

  -- the pieces make the clock
  pub clock-is : (lines asks input : ℕ) (u : After Lent Answer) (sent line : ℕ) (after : Devices)
      → lines ≡ line_byte d.tick i
      → asks ≡ device_due (word_at p m.scalars.pc) (length s) m.scalars.running.phase (gathered m.scalars m.regs) lines
      → input ≡ reply paper_timing d.serial m.scalars.counts.clocks switches asks
      → u ≡ clock_of paper_geometry p (lent m s) (pins lines input)
      → sent ≡ level paper_timing d.serial
      → line ≡ cond joined sent (given % 2)
      → after ≡ devices_clock paper_timing line u.state.machine.scalars.counts.clocks u.out.byte u.out.word d
      → record { state = record { core = u.state; devices = after }; out = record { level = sent; answer = u.out } }
      ≡ board_clock paper_timing (record_core paper_geometry p) b i
  unfolding board_clock line_in
  clock-is lines asks input u sent line after el ea ei eu es en ed = rw (ed, en, es)
      (ap (λ (t : After Lent Answer). record {
        state = record {
          core = t.state;
          devices = devices_clock paper_timing (cond joined (level paper_timing d.serial) (given % 2))
              t.state.machine.scalars.counts.clocks t.out.byte t.out.word d;
        };
        out = record { level = level paper_timing d.serial; answer = t.out };
      }) core_is)
    where
      asks-is : asks ≡ asked (record_core paper_geometry p) (lent m s) (line_byte d.tick i)
      asks-is = ea ∙ ap (device_due (word_at p m.scalars.pc) (length s) m.scalars.running.phase (gathered m.scalars m.regs)) el
          ∙ sym which

      input-is : input ≡ (fed paper_timing (record_core paper_geometry p) b i).input
      input-is = unfold fed in (ei ∙ ap (reply paper_timing d.serial m.scalars.counts.clocks switches) asks-is)

      core_is : u ≡ core_clock paper_timing (record_core paper_geometry p) b i
      core_is = eu ∙ ap (λ l. clock_of paper_geometry p (lent m s) (pins l input)) el
          ∙ ap (λ n. clock_of paper_geometry p (lent m s) (pins (line_byte d.tick i) n)) input-is
          ∙ fed-is
        where
          fed-is : clock_of paper_geometry p (lent m s) (pins (line_byte d.tick i) (fed paper_timing
              (record_core paper_geometry p) b i).input)
              ≡ core_clock paper_timing (record_core paper_geometry p) b i
          fed-is = unfold fed in refl
