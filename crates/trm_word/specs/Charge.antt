-- The sixteen base charges by operation: the clocks of the cheapest form.
-- Paper: the table of clocks; "A constant table of sixteen base charges by operation". `BASE_CHARGES` in the code is equal (D-23).
-- Added to the base: 1 for a taken branch (14) and for a jump (11 with bit 10 set); 10 for each dirty line that is written back when the
-- cache is turned off; 4 for LD and ST to memory with the cache off. A miss takes 12 or 22 in place of the base.
use Rattle.std.specs.Prelude.{ℕ, List, [], ◌∷◌, slice_index}

-- 0–7, 10, 11, 13 and 14 take 1; 12 and 15 take 2; 8 and 9 take 33
abbrev pub charges : List ℕ
charges = 1 ∷ 1 ∷ 1 ∷ 1 ∷ 1 ∷ 1 ∷ 1 ∷ 1 ∷ 33 ∷ 33 ∷ 1 ∷ 1 ∷ 2 ∷ 1 ∷ 1 ∷ 2 ∷ []

-- an operation is below 16, so the default is not reached
abbrev pub charge_of : ℕ → ℕ
charge_of op = slice_index charges op
