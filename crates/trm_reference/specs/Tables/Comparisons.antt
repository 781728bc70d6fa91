-- Table: SUB of two addresses, then the branches that compare them.
-- Request A2: "The higher and lower-or-same branches then compare addresses rightly." Higher is condition 8, lower-or-same 9.
use Rattle.std.specs.Prelude.{ℕ, cond, List, [], ◌∷◌}
use Rattle.trm_reference.specs.Visible.{Visible}
use Rattle.trm_reference.specs.Execute.{execute, branch_taken}
use Rattle.trm_reference.specs.Tables.{Row, row, register_word, branch_word, holding}

-- after SUB with B in R1 and A in R2: 1 if higher is taken, else 0; then the same for lower-or-same
unfoldable pub compared : ℕ → ℕ → List ℕ
compared b a =
    let v : Visible = execute (register_word 3 1 2) (holding b a 0) 0 in
    cond (branch_taken (branch_word 8 5) v) 1 0 ∷ cond (branch_taken (branch_word 9 5) v) 1 0 ∷ []

unfoldable pub comparisons : List Row
comparisons =
    -- both below 80000000H: B above, below, at A
    row (compared 5 3) (1 ∷ 0 ∷ [])
    ∷ row (compared 3 5) (0 ∷ 1 ∷ [])
    ∷ row (compared 0x1234 0x1234) (0 ∷ 1 ∷ [])
    -- devices above memory
    ∷ row (compared 0xFFC0 0xFFBF) (1 ∷ 0 ∷ [])
    ∷ row (compared 0xFFBF 0xFFC0) (0 ∷ 1 ∷ [])
    -- one at or above 80000000H, the other below it
    ∷ row (compared 0x8000_0000 0x7FFF_FFFF) (1 ∷ 0 ∷ [])
    ∷ row (compared 0x7FFF_FFFF 0x8000_0000) (0 ∷ 1 ∷ [])
    ∷ row (compared 0xFFFF_FFFF 0) (1 ∷ 0 ∷ [])
    ∷ row (compared 0 0xFFFF_FFFF) (0 ∷ 1 ∷ [])
    ∷ row (compared 0x8000_0000 0) (1 ∷ 0 ∷ [])
    ∷ row (compared 0 0x8000_0000) (0 ∷ 1 ∷ [])
    -- both at or above 80000000H
    ∷ row (compared 0x8000_0001 0x8000_0000) (1 ∷ 0 ∷ [])
    ∷ row (compared 0x8000_0000 0x8000_0001) (0 ∷ 1 ∷ [])
    ∷ row (compared 0xFFFF_FFFF 0xFFFF_FFFF) (0 ∷ 1 ∷ [])
    ∷ row (compared 0 0) (0 ∷ 1 ∷ [])
    ∷ []
