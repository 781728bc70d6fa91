-- The device number of an access is below 64.
-- Idea: an address is below 65,536, and a device has one of FFC0H or above.
use Prim.Native.Nat.{ℕ, ◌<◌}
use mathlib.Core.Path.{◌≡◌, subst}
use lib.Dec.{ltb}
use native.Mathlib.Omega.{arith}
use Rattle.trm_laws.proofs.Tests.{chosen}
use Rattle.trm_word.specs.declared.inner.address.Place.{Place}
use Rattle.trm_word.specs.declared.inner.address.Place.TheVariants.{Device}
use Rattle.trm_reference.specs.Visible.{Visible}
use Rattle.trm_reference.specs.Access.{address_of, place_of_word, device_number}

named-below : (w : ℕ) (v : Visible) (n : ℕ) → device_number (place_of_word w v n) < 64
unfolding place_of_word address_of device_number
named-below w v n = chosen (λ (p : Place). device_number p < 64) (ltb (address_of w v) 0xFFC0) (omega arith) (omega arith)

pub device_below : (w : ℕ) (v : Visible) (n d : ℕ) → place_of_word w v n ≡ Device d → d < 64
unfolding device_number
device_below w v n d e = subst (λ (p : Place). device_number p < 64) e (named-below w v n)
