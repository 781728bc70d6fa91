-- Claims about words beyond the contracts: one statement per field.
-- Paper: "Bench cases" on addresses; conditions 0–15, "its opposite". Proved in proofs/Theorems.antt.
use Rattle.std.specs.Prelude.{◌≡◌, ℕ, ◌+◌, ◌*◌, ◌<◌, not}
use Rattle.trm_word.specs.declared.inner.address.Place.TheVariants.{Device, Memory}
use Rattle.trm_word.specs.Condition.{condition_holds}
use Rattle.trm_word.specs.Address.{base_of, effective_address, place_of}

-- * R1 = FFFFH, offset 1: address 0; the base is "zero for s = 7", so with R7 = FFFFH and offset 1 it is 1.
-- * FFBFH is memory, FFC0H device 0 (a store of 2,048 words: FFBFH mod 2,048 is 7BFH).
pub record AddressesHold : Type 0 where
  pub wraps : effective_address (base_of 1 0xFFFF) 1 ≡ 0
  pub seven : effective_address (base_of 7 0xFFFF) 1 ≡ 1
  pub memory : place_of 0xFFBF 2048 ≡ Memory 0x7BF
  pub device : place_of 0xFFC0 2048 ≡ Device 0

-- Each condition with an odd number is the opposite of the one before it.
abbrev pub ConditionsPaired : Type 0
ConditionsPaired =
    (k n z c v : ℕ) → k < 8 → condition_holds (k * 2 + 1) n z c v ≡ not (condition_holds (k * 2) n z c v)

-- The devices that LD and ST can name are 0–63.
abbrev pub DevicesFit : Type 0
DevicesFit = (base offset length n : ℕ) → place_of (effective_address base offset) length ≡ Device n → n < 64

pub record Claims : Type 0 where
  pub addresses_hold : AddressesHold
  pub devices_fit : DevicesFit
  pub conditions_paired : ConditionsPaired
