-- The sixteen conditions of operation 14.
-- Paper: "Conditions 0–15: Z; not Z; C; not C; N; not N; V; not V; C and not Z; its opposite; N=V; N≠V; N=V and not Z;
-- its opposite; always; never."
--   condition_holds k n z c v   whether condition k holds; the flags are numbers
use Rattle.std.specs.Prelude.{ℕ, Bool, true, false, not, ◌&&◌, List, [], ◌∷◌, ◌==◌, slice_index_or}
use Rattle.std.specs.Bool.{beq}

-- a list indexed by the number; the last one, never, is the default
abbrev pub conditions : Bool → Bool → Bool → Bool → List Bool
conditions n z c v =
    z
    ∷ not z
    ∷ c
    ∷ not c
    ∷ n
    ∷ not n
    ∷ v
    ∷ not v
    ∷ (c && not z)
    ∷ not (c && not z)
    ∷ beq n v
    ∷ not (beq n v)
    ∷ (beq n v && not z)
    ∷ not (beq n v && not z)
    ∷ true
    ∷ []

-- a flag is set if it is 1
abbrev pub is_set : ℕ → Bool
is_set x = x == 1

abbrev pub condition_holds : ℕ → ℕ → ℕ → ℕ → ℕ → Bool
condition_holds k n z c v = slice_index_or (conditions (is_set n) (is_set z) (is_set c) (is_set v)) k false
