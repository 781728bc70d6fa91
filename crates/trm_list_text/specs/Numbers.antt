-- Numbers as text, in ASCII.
-- Paper: "address and word in three and five capital hexadecimal digits, unheld clocks, the counts in decimal".
--   digits b k n   the last k digits of n in base b        decimal n   a number below 2^32, without leading zeros
--   hex k n        k capital hexadecimal digits
use Rattle.std.specs.Prelude.{ℕ, zero, suc, ◌/◌, ◌%◌, cond, List, [], ◌∷◌, ◌++◌, get_or, ltb}

-- `0` to `9`, then `A` to `F`
abbrev pub glyphs : List ℕ
glyphs = 48 ∷ 49 ∷ 50 ∷ 51 ∷ 52 ∷ 53 ∷ 54 ∷ 55 ∷ 56 ∷ 57 ∷ 65 ∷ 66 ∷ 67 ∷ 68 ∷ 69 ∷ 70 ∷ []

abbrev pub glyph : ℕ → ℕ
glyph d = get_or glyphs d 0

-- the highest digit first
unfoldable pub digits : ℕ → ℕ → ℕ → List ℕ
digits b zero n = []
digits b (suc k) n = digits b k (n / b) ++ glyph (n % b) ∷ []

-- how many decimal digits a number below 2^32 has
unfoldable pub places : ℕ → ℕ
places n =
    cond (ltb n 10) 1
    (cond (ltb n 100) 2
    (cond (ltb n 1000) 3
    (cond (ltb n 10000) 4
    (cond (ltb n 100000) 5
    (cond (ltb n 1000000) 6
    (cond (ltb n 10000000) 7
    (cond (ltb n 100000000) 8
    (cond (ltb n 1000000000) 9 10))))))))

unfoldable pub decimal : ℕ → List ℕ
decimal n = digits 10 (places n) n

unfoldable pub hex : ℕ → ℕ → List ℕ
hex k n = digits 16 k n
