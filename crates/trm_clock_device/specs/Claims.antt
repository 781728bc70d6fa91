-- What is claimed of the device that a clock reads, one statement per field of `Claims`. The value is in proofs/Theorems.antt.
-- Paper: "a device is read or written only in that clock"; "bit 0 read, bit 1 write, bits 2-7 device".
use Rattle.std.specs.Prelude.{ℕ, ◌+◌, ◌*◌, ◌≡◌, ◌≢◌, true, List, length}
use Rattle.trm_word.specs.Address.{store_length_ok}
use Rattle.trm_reference.specs.Geometry.{paper_geometry}
use Rattle.trm_reference.specs.Visible.{word_at}
use Rattle.trm_reference.specs.Access.{Answer}
use Rattle.trm_reference.specs.Trace.{Pins}
use Rattle.trm_core.specs.Record.{Lent, visible_of}
use Rattle.trm_core.specs.Rule.{record_ok}
use Rattle.trm_core.specs.Clock.{clock_of}
use Rattle.trm_clock_device.specs.Device.{device_due, device_read}

-- For every record that row 5 accepts, and whatever input word the clock then gets: the device that its answer byte shows read is the one
-- that the query named before the clock.
abbrev pub Foretold : Type 0
Foretold =
    (p : List ℕ) (x : Lent) (i : Pins) → store_length_ok (length x.store) ≡ true
    → record_ok paper_geometry p (length x.store) x.machine ≡ true
    → device_read (clock_of paper_geometry p x i).out.byte
    ≡ device_due (word_at p x.machine.scalars.pc) (length x.store) x.machine.scalars.running.phase (visible_of x.machine)
    i.line_byte

-- The answers of a clock, by its input word: which device it accesses does not depend on it; the word of a read is it; an access is in
-- the clock that finishes its instruction.
pub record Answering (f : ℕ → Answer) : Type 0 where
  pub same : (i j : ℕ) → (f i).byte ≡ (f j).byte
  pub reads : (i d : ℕ) → (f i).byte ≡ d * 4 + 1 → (f i).word ≡ i
  pub ends : (i : ℕ) → (f i).byte ≢ 0 → (f i).done ≡ 1

abbrev pub Answers : Type 0
Answers = (p : List ℕ) (x : Lent) (line_byte : ℕ) → Answering (λ i. (clock_of paper_geometry p x
    (record { line_byte = line_byte; input = i })).out)

pub record Claims : Type 0 where
  pub foretold : Foretold
  pub answers : Answers
