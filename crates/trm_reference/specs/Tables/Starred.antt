-- Table: the starred bench cases, addresses by the address or place of a load, the others by executing words.
-- Paper: "Bench cases", the starred ones, in its order; C by request A2.
use Rattle.std.specs.Prelude.{ℕ, ◌+◌, ◌-◌, ◌^◌, List, [], ◌∷◌, replicate}
use Rattle.trm_word.specs.declared.inner.address.Place.{Place}
use Rattle.trm_word.specs.declared.inner.address.Place.TheVariants.{Device, Memory}
use Rattle.trm_reference.specs.Visible.{Visible, register}
use Rattle.trm_reference.specs.Access.{address_of, place_of_word}
use Rattle.trm_reference.specs.Execute.{execute}
use Rattle.trm_reference.specs.Reference.{reference_reset}
use Rattle.trm_reference.specs.Tables.{Row, row, register_word, status_word, load_word, store_word, holding, ran, quiet, finishes}

-- R1, H, N, Z, C, V after the operation with B in R1 and A in R2
unfoldable pub arithmetic : ℕ → ℕ → ℕ → List ℕ
arithmetic op b a =
    let v : Visible = execute (register_word op 1 2) (holding b a 0) 0 in
    register v 1 ∷ v.h ∷ v.n ∷ v.z ∷ v.c ∷ v.v ∷ []

-- 1 and the word of memory, or 0 and the device
unfoldable pub placed : Place → List ℕ
placed (Memory a) = 1 ∷ a ∷ []
placed (Device d) = 0 ∷ d ∷ []

unfoldable pub starred : List Row
starred =
    -- * 0−1; 7FFFFFFFH+1; 80000000H+80000000H. A2: "Case 0−1 now gives C0, 7FFFFFFFH+1 still C0, and 80000000H+80000000H still C1."
    row (arithmetic 3 0 1) (0xFFFF_FFFF ∷ 0 ∷ 1 ∷ 0 ∷ 0 ∷ 0 ∷ [])
    ∷ row (arithmetic 2 0x7FFF_FFFF 1) (0x8000_0000 ∷ 0 ∷ 1 ∷ 0 ∷ 0 ∷ 1 ∷ [])
    ∷ row (arithmetic 2 0x8000_0000 0x8000_0000) (0 ∷ 0 ∷ 0 ∷ 1 ∷ 1 ∷ 1 ∷ [])
    -- * 1 ROR 1; −1×−1; 80000000H squared
    ∷ row (arithmetic 10 1 1) (0x8000_0000 ∷ 0 ∷ 1 ∷ 0 ∷ 0 ∷ 0 ∷ [])
    ∷ row (arithmetic 8 (2 ^ 32 - 1) (2 ^ 32 - 1)) (1 ∷ 0 ∷ 0 ∷ 0 ∷ 0 ∷ 0 ∷ [])
    ∷ row (arithmetic 8 0x8000_0000 0x8000_0000) (0 ∷ 0x4000_0000 ∷ 0 ∷ 1 ∷ 0 ∷ 0 ∷ [])
    -- * −7 DIV 2; −2^31 DIV 1; 7 DIV 0
    ∷ row (arithmetic 9 (2 ^ 32 - 7) 2) ((2 ^ 32 - 4) ∷ 1 ∷ 1 ∷ 0 ∷ 0 ∷ 0 ∷ [])
    ∷ row (arithmetic 9 (2 ^ 31) 1) ((2 ^ 31) ∷ 0 ∷ 1 ∷ 0 ∷ 0 ∷ 0 ∷ [])
    ∷ row (arithmetic 9 7 0) (0 ∷ 7 ∷ 0 ∷ 1 ∷ 0 ∷ 0 ∷ [])
    -- * R1 = FFFFH, offset 1: address 0
    ∷ row (address_of (load_word 0 1 1) (holding 0xFFFF 0 0) ∷ []) (0 ∷ [])
    -- * FFBFH is memory, FFC0H device 0; the store has 2,048 words, and FFBFH mod 2,048 is 7BFH
    ∷ row (placed (place_of_word (load_word 0 1 0) (holding 0xFFBF 0 0) 2048)) (1 ∷ 0x7BF ∷ [])
    ∷ row (placed (place_of_word (load_word 0 1 0) (holding 0xFFC0 0 0) 2048)) (0 ∷ 0 ∷ [])
    -- * Cache on and empty, store of 2,048 words: ST to 0 then LD from 128 take 12 and 22, after the clock that turns the cache on
    ∷ row
    (finishes (ran (status_word 8 ∷ store_word 0 7 0 ∷ load_word 0 7 128 ∷ []) (reference_reset (replicate 2048 0)) (quiet 35)))
    (1 ∷ (1 + 12) ∷ (1 + 12 + 22) ∷ [])
    ∷ []
