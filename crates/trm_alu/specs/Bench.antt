-- Arithmetic cases, computed: the paper's nine starred ones, some that distinguish wrong versions, and a row for each operation 0–10.
-- Paper: "Bench cases"; the one table that the paper asks for is `Starred` of trm_reference (D-46).
-- A row is an operation with B and A, then H, C, V before it, and R.d, H, N, Z, C, V after it.
--   rows      the table        AllHold rs   the outcome of every row is what the row says
use Rattle.std.specs.Prelude.{◌≡◌, ℕ, ◌-◌, ◌^◌, List, [], ◌∷◌}
use Rattle.trm_alu.specs.declared.inner.flags.Flags.{Flags}
use Rattle.trm_alu.specs.Results.{result_of, high_of}
use Rattle.trm_alu.specs.Flags.{flags_of}

pub record Before : Type 0 where
  pub h : ℕ
  pub c : ℕ
  pub v : ℕ

pub record Row : Type 0 where
  pub op : ℕ
  pub b : ℕ
  pub a : ℕ
  pub before : Before
  pub gives : List ℕ

-- R.d, H, N, Z, C, V
unfoldable pub outcome : Row → List ℕ
outcome r =
    let f : Flags = flags_of r.op r.a r.b r.before.c r.before.v in
    result_of r.op r.a r.b ∷ high_of r.op r.a r.b r.before.h ∷ f.n ∷ f.z ∷ f.c ∷ f.v ∷ []

-- H, C and V zero before the operation, or H 5 and C, V set
abbrev pub row : ℕ → ℕ → ℕ → List ℕ → Row
row op b a gives = record { op = op; b = b; a = a; before = record { h = 0; c = 0; v = 0 }; gives = gives }

abbrev pub row_set : ℕ → ℕ → ℕ → List ℕ → Row
row_set op b a gives = record { op = op; b = b; a = a; before = record { h = 5; c = 1; v = 1 }; gives = gives }

-- a negative number is written as 2^32 minus its magnitude
unfoldable pub rows : List Row
rows =
    -- * 0 − 1; 7FFFFFFFH + 1; 80000000H + 80000000H
    row 3 0 1 (0xFFFF_FFFF ∷ 0 ∷ 1 ∷ 0 ∷ 0 ∷ 0 ∷ [])
    ∷ row 2 0x7FFF_FFFF 1 (0x8000_0000 ∷ 0 ∷ 1 ∷ 0 ∷ 0 ∷ 1 ∷ [])
    ∷ row 2 0x8000_0000 0x8000_0000 (0 ∷ 0 ∷ 0 ∷ 1 ∷ 1 ∷ 1 ∷ [])
    -- * 1 ROR 1; −1 × −1; 80000000H squared
    ∷ row 10 1 1 (0x8000_0000 ∷ 0 ∷ 1 ∷ 0 ∷ 0 ∷ 0 ∷ [])
    ∷ row 8 (2 ^ 32 - 1) (2 ^ 32 - 1) (1 ∷ 0 ∷ 0 ∷ 0 ∷ 0 ∷ 0 ∷ [])
    ∷ row 8 0x8000_0000 0x8000_0000 (0 ∷ 0x4000_0000 ∷ 0 ∷ 1 ∷ 0 ∷ 0 ∷ [])
    -- * −7 DIV 2; −2^31 DIV 1; 7 DIV 0
    ∷ row 9 (2 ^ 32 - 7) 2 ((2 ^ 32 - 4) ∷ 1 ∷ 1 ∷ 0 ∷ 0 ∷ 0 ∷ [])
    ∷ row 9 (2 ^ 31) 1 ((2 ^ 31) ∷ 0 ∷ 1 ∷ 0 ∷ 0 ∷ 0 ∷ [])
    ∷ row 9 7 0 (0 ∷ 7 ∷ 0 ∷ 1 ∷ 0 ∷ 0 ∷ [])
    -- A2, C of ADD is the carry out of bit 31: FFFFFFFFH + 1 and −1 + 2 have one, FFFFFFFFH + 0 and −3 + 1 have none
    ∷ row 2 0xFFFF_FFFF 1 (0 ∷ 0 ∷ 0 ∷ 1 ∷ 1 ∷ 0 ∷ [])
    ∷ row 2 (2 ^ 32 - 1) 2 (1 ∷ 0 ∷ 0 ∷ 0 ∷ 1 ∷ 0 ∷ [])
    ∷ row 2 0xFFFF_FFFF 0 (0xFFFF_FFFF ∷ 0 ∷ 1 ∷ 0 ∷ 0 ∷ 0 ∷ [])
    ∷ row 2 (2 ^ 32 - 3) 1 ((2 ^ 32 - 2) ∷ 0 ∷ 1 ∷ 0 ∷ 0 ∷ 0 ∷ [])
    -- A2, C of SUB is 1 for B at or above A: 5 − 3, B = A, 0 − 0; 0 for 3 − 5
    ∷ row 3 5 3 (2 ∷ 0 ∷ 0 ∷ 0 ∷ 1 ∷ 0 ∷ [])
    ∷ row 3 0x1234 0x1234 (0 ∷ 0 ∷ 0 ∷ 1 ∷ 1 ∷ 0 ∷ [])
    ∷ row 3 0 0 (0 ∷ 0 ∷ 0 ∷ 1 ∷ 1 ∷ 0 ∷ [])
    ∷ row 3 3 5 ((2 ^ 32 - 2) ∷ 0 ∷ 1 ∷ 0 ∷ 0 ∷ 0 ∷ [])
    -- A2, without sign: 80000000H − 1, 80000001H − 80000000H; 0 − 80000000H, 7FFFFFFFH − FFFFFFFFH, whose V is 1 as before
    ∷ row 3 0x8000_0000 1 (0x7FFF_FFFF ∷ 0 ∷ 0 ∷ 0 ∷ 1 ∷ 1 ∷ [])
    ∷ row 3 0x8000_0001 0x8000_0000 (1 ∷ 0 ∷ 0 ∷ 0 ∷ 1 ∷ 0 ∷ [])
    ∷ row 3 0 0x8000_0000 (0x8000_0000 ∷ 0 ∷ 1 ∷ 0 ∷ 0 ∷ 1 ∷ [])
    ∷ row 3 0x7FFF_FFFF 0xFFFF_FFFF (0x8000_0000 ∷ 0 ∷ 1 ∷ 0 ∷ 0 ∷ 1 ∷ [])
    -- −8 DIV 3 distinguishes a remainder from its complement
    ∷ row 9 (2 ^ 32 - 8) 3 ((2 ^ 32 - 3) ∷ 1 ∷ 1 ∷ 0 ∷ 0 ∷ 0 ∷ [])
    -- 7 DIV −2 and −7 DIV 80000000H: A is below 0, so R.d is 0 and H the dividend
    ∷ row 9 7 (2 ^ 32 - 2) (0 ∷ 7 ∷ 0 ∷ 1 ∷ 0 ∷ 0 ∷ [])
    ∷ row 9 (2 ^ 32 - 7) 0x8000_0000 (0 ∷ (2 ^ 32 - 7) ∷ 0 ∷ 1 ∷ 0 ∷ 0 ∷ [])
    -- 10000H × 8000H is 2^31: N is bit 31 of the low word, and the high word is 0
    ∷ row 8 0x1_0000 0x8000 (0x8000_0000 ∷ 0 ∷ 1 ∷ 0 ∷ 0 ∷ 0 ∷ [])
    -- C and V change only in ADD, SUB and (C alone) ROR, and H only in MUL and DIV: each operation with H 5, C 1, V 1 before it
    ∷ row_set 0 9 0 (0 ∷ 5 ∷ 0 ∷ 1 ∷ 1 ∷ 1 ∷ [])
    ∷ row_set 1 9 0xFFFF (0xFFFF_0000 ∷ 5 ∷ 1 ∷ 0 ∷ 1 ∷ 1 ∷ [])
    ∷ row_set 2 3 4 (7 ∷ 5 ∷ 0 ∷ 0 ∷ 0 ∷ 0 ∷ [])
    ∷ row_set 3 3 4 (0xFFFF_FFFF ∷ 5 ∷ 1 ∷ 0 ∷ 0 ∷ 0 ∷ [])
    ∷ row_set 4 0xF0F0_1234 0xFFFF_0000 (0xF0F0_0000 ∷ 5 ∷ 1 ∷ 0 ∷ 1 ∷ 1 ∷ [])
    ∷ row_set 5 0xF0F0_1234 0xFFFF_0000 (0x1234 ∷ 5 ∷ 0 ∷ 0 ∷ 1 ∷ 1 ∷ [])
    ∷ row_set 6 0xF0F0_1234 0x0F0F_0000 (0xFFFF_1234 ∷ 5 ∷ 1 ∷ 0 ∷ 1 ∷ 1 ∷ [])
    ∷ row_set 7 0xF0F0_1234 0xFFFF_FFFF (0x0F0F_EDCB ∷ 5 ∷ 0 ∷ 0 ∷ 1 ∷ 1 ∷ [])
    ∷ row_set 8 3 5 (15 ∷ 0 ∷ 0 ∷ 0 ∷ 1 ∷ 1 ∷ [])
    ∷ row_set 9 17 5 (3 ∷ 2 ∷ 0 ∷ 0 ∷ 1 ∷ 1 ∷ [])
    ∷ row_set 10 4 1 (2 ∷ 5 ∷ 0 ∷ 0 ∷ 0 ∷ 1 ∷ [])
    ∷ []

unfoldable pub AllHold : List Row → Type 0
AllHold [] = Unit {0}
AllHold (r ∷ rs) = (outcome r ≡ r.gives) × AllHold rs
