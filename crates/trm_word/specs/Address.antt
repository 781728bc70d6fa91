-- The address of LD and ST, what it names, and the lengths that a store may have.
-- Paper: "address = (base + bits 10–3) mod 65,536. The base is R.s, but zero for s = 7. FFC0H–FFFFH are devices 0–63; any
-- other address is taken mod the store's length"; row 4, "length no power of two in 64–32,768".
--   effective_address base offset   the address       place_of address length   the device, or the word of the store
use Rattle.std.specs.Prelude.{ℕ, ◌+◌, ◌-◌, ◌%◌, ◌^◌, Bool, false, cond, ◌||◌, List, [], ◌∷◌, ◌==◌, nat_lt}
use Rattle.trm_word.specs.declared.inner.address.Place.{Place}
use Rattle.trm_word.specs.declared.inner.address.Place.TheVariants.{Device, Memory}

-- register 7 as a base is zero
abbrev pub base_of : ℕ → ℕ → ℕ
base_of s register = cond (s == 7) 0 register

abbrev pub effective_address : ℕ → ℕ → ℕ
effective_address base offset = (base + offset) % 65536

-- an address is below 65,536, so a device is 0–63; the length is not 0
abbrev pub place_of : ℕ → ℕ → Place
place_of address length = cond (nat_lt address 0xFFC0) (Memory (address % length)) (Device (address - 0xFFC0))

-- whether n is a power of two with one of these exponents
abbrev pub is_power : ℕ → List ℕ → Bool
is_power n [] = false
is_power n (k ∷ ks) = n == 2 ^ k || is_power n ks

-- 2^6 is 64 and 2^15 is 32,768
abbrev pub store_length_exponents : List ℕ
store_length_exponents = 6 ∷ 7 ∷ 8 ∷ 9 ∷ 10 ∷ 11 ∷ 12 ∷ 13 ∷ 14 ∷ 15 ∷ []

unfoldable pub store_length_ok : ℕ → Bool
store_length_ok n = is_power n store_length_exponents
