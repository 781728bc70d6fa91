-- The core as the board sees it: its clock, and its clock count. Any core will do; what the claims ask of one is `Obeys`.
-- Document 01: "The clock call takes the record and returns it, with the answer byte and word"; "bit 0 read, bit 1 write, bits 2-7 device".
--   read_by d, written_by d   the answer byte of a read and of a write of device d
--   asked K c line_byte      the device that a clock with this line byte reads, 64 if none: as its answer byte shows it
use Rattle.std.specs.Prelude.{ℕ, ◌+◌, ◌*◌, ◌≡◌, ◌≢◌}
use Rattle.trm_reference.specs.Access.{Answer}
use Rattle.trm_reference.specs.Trace.{Pins, After}
use Rattle.trm_clock_device.specs.Device.{device_read}

pub record Core (C : Type 0) : Type 0 where
  pub clock : C → Pins → After C Answer
  pub count : C → ℕ

abbrev pub pins : ℕ → ℕ → Pins
pins line_byte input = record { line_byte = line_byte; input = input }

abbrev pub read_by : ℕ → ℕ
read_by d = d * 4 + 1

abbrev pub written_by : ℕ → ℕ
written_by d = d * 4 + 2

module _ {C : Type 0} (K : Core C) where
  unfoldable pub asked : C → ℕ → ℕ
  asked c line_byte = device_read (K.clock c (pins line_byte 0)).out.byte

  -- which device a clock accesses does not depend on its input word; the word of a read is that word; an access is in the clock that
  -- finishes its instruction; each clock is counted
  pub record Obeys : Type 0 where
    pub same : (c : C) (line_byte i j : ℕ) → (K.clock c (pins line_byte i)).out.byte ≡ (K.clock c (pins line_byte j)).out.byte
    pub reads : (c : C) (line_byte i d : ℕ) → (K.clock c (pins line_byte i)).out.byte ≡ read_by d
        → (K.clock c (pins line_byte i)).out.word ≡ i
    pub ends : (c : C) (line_byte i : ℕ) → (K.clock c (pins line_byte i)).out.byte ≢ 0 → (K.clock c (pins line_byte i)).out.done ≡ 1
    pub counts : (c : C) (line_byte i : ℕ) → K.count (K.clock c (pins line_byte i)).state ≡ K.count c + 1
