-- What look and watch return; a copy is `copy_of` of trm_cache.
-- Paper: "A look gives one word of data memory .. a full line's word standing before the store's";
-- "the watch names a clock, from 0, whose byte shows that device written, or none if there is no such clock".
--   look_at G m s address   one word        SightingHolds   which answers of a watch are right
use Rattle.std.specs.Prelude.{ℕ, ◌%◌, ◌<◌, ◌≡◌, Bool, true, false, ◌&&◌, List, length, get_or, eqb, Option, Some, None}
use Rattle.trm_word.specs.Fields.{bit, bits}
use Rattle.trm_word.specs.Condition.{is_set}
use Rattle.trm_reference.specs.Geometry.{Geometry}
use Rattle.trm_core.specs.Record.{Machine}
use Rattle.trm_cache.specs.Cache.{view}
use Rattle.trm_core.specs.Record.{cache_of}

-- "any other address is taken mod the store's length"
unfoldable pub look_at : Geometry → Machine → List ℕ → ℕ → ℕ
look_at G m s address = view G (cache_of m) s (address % length s)

-- "bit 1 write, bits 2–7 device"
unfoldable pub shows_write : ℕ → ℕ → Bool
shows_write device byte = is_set (bit 1 byte) && eqb (bits 7 2 byte) device

-- the number of a clock of the run, from 0, or none; if several clocks show the write, the watch may name any of them
unfoldable pub SightingHolds : List ℕ → ℕ → Option ℕ → Type 0
SightingHolds bytes device (Some k) = (k < length bytes) × (shows_write device (get_or bytes k 0) ≡ true)
SightingHolds bytes device None = (k : ℕ) → k < length bytes → shows_write device (get_or bytes k 0) ≡ false
