-- The clock table: which row applies to a word, and the clocks it is charged.
-- Paper: "Clock by clock", the table. The charge is the base charge of the operation plus what the other rows add.
--   charge_by G w v n misses evicts dirty   the charge, given whether the access misses, whether the old block is dirty, and how many
--                                          lines are dirty: the reference machine computes these from its history
use Rattle.std.specs.Prelude.{ℕ, ◌+◌, ◌*◌, Bool, cond, not, ◌&&◌, ◌||◌, eqb}
use Rattle.trm_word.specs.Fields.{operation, bit}
use Rattle.trm_word.specs.Condition.{is_set}
use Rattle.trm_word.specs.Charge.{charge_of}
use Rattle.trm_reference.specs.Geometry.{Geometry, burst}
use Rattle.trm_reference.specs.Visible.{Visible, cache_on}
use Rattle.trm_reference.specs.Access.{to_memory}
use Rattle.trm_reference.specs.Execute.{branch_taken}

-- "8, 9"
unfoldable pub is_stepped : ℕ → Bool
is_stepped w = eqb (operation w) 8 || eqb (operation w) 9

-- "11 with bit 10 set"
unfoldable pub is_jump : ℕ → Bool
is_jump w = eqb (operation w) 11 && is_set (bit 10 w)

-- "14 taken"
unfoldable pub takes_branch : ℕ → Visible → Bool
takes_branch w v = eqb (operation w) 14 && branch_taken w v

-- "LD or ST, cache on" and "to memory, cache off"
unfoldable pub through_cache : ℕ → Visible → ℕ → Bool
through_cache w v n = to_memory w v n && cache_on v

unfoldable pub without_cache : ℕ → Visible → ℕ → Bool
without_cache w v n = to_memory w v n && not (cache_on v)

-- "11 clearing status bit 3": bit 10 of the word clear, status bit 3 set now and clear in the word
unfoldable pub turns_cache_off : ℕ → Visible → Bool
turns_cache_off w v = eqb (operation w) 11 && not (is_set (bit 10 w)) && cache_on v && not (is_set (bit 3 w))

-- "12; 22 if the old block is dirty": the tag-check clock, the bursts, the last clock
unfoldable pub miss_charge : Geometry → Bool → ℕ
miss_charge G evicts = 2 + burst G + cond evicts (burst G) 0

-- "LD, ST to memory, cache off": "6, 5"
unfoldable pub uncached_charge : ℕ → ℕ
uncached_charge w = charge_of (operation w) + 4

unfoldable pub charge_by : Geometry → ℕ → Visible → ℕ → Bool → Bool → ℕ → ℕ
charge_by G w v n misses evicts dirty =
    -- LD or ST, cache on, miss: 12; 22 if the old block is dirty
    cond (through_cache w v n && misses) (miss_charge G evicts)
    -- LD, ST to memory, cache off: 6, 5
    (cond (without_cache w v n) (uncached_charge w)
    -- 11 clearing status bit 3: 1, and 10 for each dirty line
    (cond (turns_cache_off w v) (charge_of (operation w) + burst G * dirty)
    -- 14 taken, 11 with bit 10 set: 2
    (cond (takes_branch w v || is_jump w) (charge_of (operation w) + 1)
    -- 0–7, 10, 11 with bit 10 clear, 14 not taken: 1; 15: 2; 8, 9: 33; LD, ST to a device or a cached hit: 2, 1
    (charge_of (operation w)))))
