-- The board: its record and one clock.
-- Request A1: "Each of its clocks takes the serial line, the switches, interrupt 1 and stall. Device 4 is serial data (read, the last byte
-- received), 5 is status (bit 0 byte received, bit 1 transmitter free), 6 reads milliseconds (the clock count over 116,600, rounded down)
-- and, when written, clears the tick, 7 is eight switches in and ten lamps out. The tick is interrupt 0 .. The tick and reads of 4 to 6
-- show what stood when the clock began."
--   board_clock T K b i   one clock of the board b, given i        reply T s count switches d   what a read of device d gives
--   inputs_of joined given switches   what a call's bytes give to a clock
use Rattle.std.specs.Prelude.{ℕ, ◌+◌, ◌*◌, ◌/◌, ◌%◌, Bool, cond, eqb}
use Rattle.trm_reference.specs.Access.{Answer}
use Rattle.trm_reference.specs.Trace.{Pins, After}
use Rattle.trm_serial.specs.Timing.{Timing}
use Rattle.trm_serial.specs.declared.record.Serial.{Serial}
use Rattle.trm_serial.specs.Serial.{Access, reads, writes, others, serial_reset, busy, level, serial_clock}
use Rattle.trm_board.specs.Core.{Core, pins, read_by, written_by, asked}
pub use Rattle.trm_board.specs.declared.record.Devices.{Devices}

-- what a clock takes; a line that is joined to itself is not taken
pub record Inputs : Type 0 where
  pub joined : Bool
  pub line : ℕ
  pub switches : ℕ
  pub interrupt : ℕ
  pub stall : ℕ

-- a byte of a call: bit 0 the serial line, bit 1 interrupt 1, bit 2 stall
abbrev pub inputs_of : Bool → ℕ → ℕ → Inputs
inputs_of joined given switches =
    record { joined = joined; line = given % 2; switches = switches; interrupt = given / 2 % 2; stall = given / 4 % 2 }

-- "Reset makes everything zero"
abbrev pub devices_reset : Devices
devices_reset = record { serial = serial_reset; tick = 0; lamps = 0 }

-- "5 is status (bit 0 byte received, bit 1 transmitter free)"
unfoldable pub status : Serial → ℕ
status s = s.ready + 2 * cond (busy s) 0 1

-- what a read gives, by what stood when the clock began, and the clock's switches; "devices not named read zero"
unfoldable pub reply : Timing → Serial → ℕ → ℕ → ℕ → ℕ
reply T s count switches d =
    cond (eqb d 4) s.byte
    (cond (eqb d 5) (status s)
    (cond (eqb d 6) (count / T.tick)
    (cond (eqb d 7) switches 0)))

-- the access to the serial data that an answer shows
unfoldable pub access_of : ℕ → ℕ → Access
access_of byte word = cond (eqb byte (read_by 4)) reads (cond (eqb byte (written_by 4)) (writes word) others)

-- "rises whenever the clock count comes to a multiple of 116,600; a rise in the clock of a clearing write wins"
unfoldable pub tick_after : Timing → ℕ → ℕ → ℕ → ℕ
tick_after T count byte tick = cond (eqb (count % T.tick) 0) 1 (cond (eqb byte (written_by 6)) 0 tick)

-- "ten lamps out": the word's low ten bits
unfoldable pub lamps_after : ℕ → ℕ → ℕ → ℕ
lamps_after byte word lamps = cond (eqb byte (written_by 7)) (word % 1024) lamps

-- "The tick is interrupt 0"
abbrev pub line_byte : ℕ → Inputs → ℕ
line_byte tick i = tick + 2 * i.interrupt + 4 * i.stall

module _ (T : Timing) where
  -- the line of a clock: as given, or, joined to itself, the level sent in that very clock
  unfoldable pub line_in : Serial → Inputs → ℕ
  line_in s i = cond i.joined (level T s) i.line

  -- the devices after a clock that brought the count to `count` and answered `byte` and `word`; "Devices run in held clocks too"
  abbrev pub devices_clock : ℕ → ℕ → ℕ → ℕ → Devices → Devices
  devices_clock line count byte word d =
      record {
        serial = serial_clock T line (access_of byte word) d.serial;
        tick = tick_after T count byte d.tick;
        lamps = lamps_after byte word d.lamps;
      }

-- the core, and the devices beside it
pub record Board (C : Type 0) : Type 0 where
  pub core : C
  pub devices : Devices

abbrev pub board_reset : {C : Type 0} → C → Board C
board_reset c = record { core = c; devices = devices_reset }

-- what a clock gives back: the level sent in it, and the core's answer
pub record Shown : Type 0 where
  pub level : ℕ
  pub answer : Answer

module _ (T : Timing) {C : Type 0} (K : Core C) where
  -- what the core is fed: the line byte, and the reply of the device that it is about to read
  unfoldable pub fed : Board C → Inputs → Pins
  fed b i =
      pins (line_byte b.devices.tick i)
      (reply T b.devices.serial (K.count b.core) i.switches (asked K b.core (line_byte b.devices.tick i)))

  abbrev pub core_clock : Board C → Inputs → After C Answer
  core_clock b i = K.clock b.core (fed b i)

  -- the core's clock, and the devices by its answer
  unfoldable pub board_clock : Board C → Inputs → After (Board C) Shown
  board_clock b i =
      record {
        state = record {
          core = (core_clock b i).state;
          devices = devices_clock T (line_in T b.devices.serial i) (K.count (core_clock b i).state) (core_clock b i).out.byte
              (core_clock b i).out.word b.devices;
        };
        out = record { level = level T b.devices.serial; answer = (core_clock b i).out };
      }
