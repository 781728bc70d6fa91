-- The device that a clock is about to read: from the record, and as the clock's own answer byte shows it.
-- Paper: "LD, ST to a device .. 2, 1"; "a device is read or written only in that clock": an LD from a device reads it in its second clock,
-- which is phase 5; "bit 0 read, bit 1 write, bits 2-7 device".
--   device_due w n phase v line_byte   from the record; 64 if none       device_read byte   from an answer byte; 64 if none
--   device_found   as device_due; `None` if none
use Rattle.std.specs.Prelude.{ℕ, ◌/◌, ◌%◌, cond, not, ◌&&◌, eqb, Option, Some, None}
use Rattle.trm_word.specs.declared.inner.address.Place.{Place}
use Rattle.trm_word.specs.declared.inner.address.Place.TheVariants.{Device, Memory}
use Rattle.trm_reference.specs.Visible.{Visible}
use Rattle.trm_reference.specs.Access.{is_load, place_of_word}
use Rattle.trm_reference.specs.Interrupt.{stalled}

-- the device of a place, 64 if it is memory
unfoldable pub device_at : Place → ℕ
device_at (Device d) = d
device_at (Memory a) = 64

-- w is the word at PC, n the store's length
unfoldable pub device_due : ℕ → ℕ → ℕ → Visible → ℕ → ℕ
device_due w n phase v line_byte = cond (eqb phase 5 && not (stalled line_byte) && is_load w) (device_at (place_of_word w v n)) 64

-- the same devices as an option
unfoldable pub place_device : Place → Option ℕ
place_device (Device d) = Some d
place_device (Memory a) = None

unfoldable pub device_found : ℕ → ℕ → ℕ → Visible → ℕ → Option ℕ
device_found w n phase v line_byte =
    cond (not (eqb phase 5)) None (cond (stalled line_byte) None (cond (is_load w) (place_device (place_of_word w v n)) None))

-- the device of an answer byte that shows a read
unfoldable pub device_read : ℕ → ℕ
device_read byte = cond (eqb (byte % 2) 1) (byte / 4) 64
