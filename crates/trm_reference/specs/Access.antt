-- LD and ST: the address, the device or memory word that it names, its block and cache line, and the answer of a clock.
-- Paper: "12 LD and 13 ST: address = ..", "a byte (bit 0 read, bit 1 write, bits 2–7 device) and the word moved, both zero without
-- an access". The length of memory is n, a legal store length.
--   place_of_word w v n   what the word w accesses      to_memory, to_device   which of the two      target   the word of memory
--   answer_of w v n i    the answer of the clock that executes w; i is the clock's input word
use Rattle.std.specs.Prelude.{ℕ, ◌+◌, ◌*◌, Bool, true, false, cond, not, ◌&&◌, ◌||◌, eqb}
use Rattle.trm_word.specs.Fields.{operation, destination, source, memory_offset}
use Rattle.trm_word.specs.Address.{base_of, effective_address, place_of}
use Rattle.trm_word.specs.declared.inner.address.Place.{Place}
use Rattle.trm_word.specs.declared.inner.address.Place.TheVariants.{Device, Memory}
use Rattle.trm_reference.specs.Geometry.{Geometry, block_of, line_of}
use Rattle.trm_reference.specs.Visible.{Visible, register}

-- 12 LD
unfoldable pub is_load : ℕ → Bool
is_load w = eqb (operation w) 12

-- 13 ST
unfoldable pub is_store : ℕ → Bool
is_store w = eqb (operation w) 13

-- "The base is R.s, but zero for s = 7"
unfoldable pub address_of : ℕ → Visible → ℕ
address_of w v = effective_address (base_of (source w) (register v (source w))) (memory_offset w)

unfoldable pub place_of_word : ℕ → Visible → ℕ → Place
place_of_word w v n = place_of (address_of w v) n

unfoldable pub is_memory : Place → Bool
is_memory (Device d) = false
is_memory (Memory a) = true

-- the word of memory, "taken mod the store's length"; used only if the place is memory
unfoldable pub memory_index : Place → ℕ
memory_index (Device d) = 0
memory_index (Memory a) = a

-- the device; used only if the place is one
unfoldable pub device_number : Place → ℕ
device_number (Device d) = d
device_number (Memory a) = 0

unfoldable pub is_access : ℕ → Bool
is_access w = is_load w || is_store w

unfoldable pub to_memory : ℕ → Visible → ℕ → Bool
to_memory w v n = is_access w && is_memory (place_of_word w v n)

unfoldable pub to_device : ℕ → Visible → ℕ → Bool
to_device w v n = is_access w && not (is_memory (place_of_word w v n))

unfoldable pub target : ℕ → Visible → ℕ → ℕ
target w v n = memory_index (place_of_word w v n)

-- the block and the cache line that the word accesses
unfoldable pub target_block : Geometry → ℕ → Visible → ℕ → ℕ
target_block G w v n = block_of G (target w v n)

unfoldable pub target_line : Geometry → ℕ → Visible → ℕ → ℕ
target_line G w v n = line_of G (target_block G w v n)

-- the word that ST stores: R.d
unfoldable pub stored : ℕ → Visible → ℕ
stored w v = register v (destination w)

-- the word that LD loads: x from memory, or the clock's input word i from a device
unfoldable pub loaded : ℕ → Visible → ℕ → ℕ → ℕ → ℕ
loaded w v n i x = cond (is_memory (place_of_word w v n)) x i

-- the answer of one clock; `done` is 1 if it executed a word
pub record Answer : Type 0 where
  pub byte : ℕ
  pub word : ℕ
  pub done : ℕ

-- "both zero without an access"
abbrev pub silent : ℕ → Answer
silent done = record { byte = 0; word = 0; done = done }

-- "bit 0 read, bit 1 write, bits 2–7 device": a read answers the input word, a write R.d
unfoldable pub device_answer : ℕ → Visible → ℕ → ℕ → Answer
device_answer w v i d =
    cond (is_store w)
    (record { byte = d * 4 + 2; word = stored w v; done = 1 })
    (record { byte = d * 4 + 1; word = i; done = 1 })

unfoldable pub answer_of : ℕ → Visible → ℕ → ℕ → Answer
answer_of w v n i = cond (to_device w v n) (device_answer w v i (device_number (place_of_word w v n))) (silent 1)
