-- Proves every field of `Claims`.
-- The addresses compute; `devices_fit` follows from the test in `place_of`, `conditions_paired` from its eight cases.
use Rattle.std.proofs.Common.{◌≡◌, ℕ, zero, suc, ◌-◌, ◌%◌, ◌<◌, Bool, true, false, cond, ltb, refl, arith}
use Rattle.trm_word.specs.declared.inner.address.Place.TheVariants.{Device, Memory}
use Rattle.trm_word.specs.Address.{effective_address}
use Rattle.trm_word.specs.Claims.{Claims, DevicesFit, ConditionsPaired}

conditions_paired : ConditionsPaired
conditions_paired zero n z c v h = refl
conditions_paired (suc zero) n z c v h = refl
conditions_paired (suc (suc zero)) n z c v h = refl
conditions_paired (suc (suc (suc zero))) n z c v h = refl
conditions_paired (suc (suc (suc (suc zero)))) n z c v h = refl
conditions_paired (suc (suc (suc (suc (suc zero))))) n z c v h = refl
conditions_paired (suc (suc (suc (suc (suc (suc zero)))))) n z c v h = refl
conditions_paired (suc (suc (suc (suc (suc (suc (suc zero))))))) n z c v h = refl
conditions_paired (suc (suc (suc (suc (suc (suc (suc (suc k)))))))) n z c v h = absurd (omega arith)

devices_fit : DevicesFit
devices_fit base offset length n = go (ltb (effective_address base offset) 0xFFC0) refl
  where
    go : (t : Bool) → ltb (effective_address base offset) 0xFFC0 ≡ t
        → cond t (Memory (effective_address base offset % length)) (Device (effective_address base offset - 0xFFC0)) ≡ Device n
        → n < 64
    go true e h = let z : ◌≡◌ {A = ℕ} 0 1 = cc in absurd (omega arith)
    go false e h = let d : effective_address base offset - 0xFFC0 ≡ n = cc in omega arith

pub theorems : Claims
theorems =
    record {
      addresses_hold = record { wraps = refl; seven = refl; memory = refl; device = refl };
      devices_fit = devices_fit;
      conditions_paired = conditions_paired;
    }
