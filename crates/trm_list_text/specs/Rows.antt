-- The rows of the listing as bytes; each ends in one line feed (D-09).
-- Paper: "Fields: clock count at the end, address and word in three and five capital hexadecimal digits, unheld clocks, the counts in
-- decimal; .. an interrupt has the saved PC and `irq0` or `irq1` as its word"; "A refusal prints one line: `refused`, the number and the
-- record's byte offset in decimal".
--   header, row_bytes, end_bytes, refused_bytes   each kind of row
use Rattle.std.specs.Prelude.{ℕ, List, [], ◌∷◌, ◌++◌}
use Rattle.trm_list_text.specs.declared.inner.row_text.Shown.{Shown}
use Rattle.trm_list_text.specs.declared.inner.row_text.Shown.TheVariants.{Word, Irq0, Irq1}
use Rattle.trm_list_text.specs.Numbers.{decimal, hex}

pub record Row : Type 0 where
  pub clock : ℕ
  pub at : ℕ
  pub shown : Shown
  pub took : ℕ

-- the space and the line feed
abbrev pub space : List ℕ
space = 32 ∷ []

abbrev pub feed : List ℕ
feed = 10 ∷ []

-- the executed word in hexadecimal; `irq0`, `irq1`
unfoldable pub shown_bytes : Shown → List ℕ
shown_bytes (Word w) = hex 5 w
shown_bytes Irq0 = 105 ∷ 114 ∷ 113 ∷ 48 ∷ []
shown_bytes Irq1 = 105 ∷ 114 ∷ 113 ∷ 49 ∷ []

unfoldable pub row_bytes : Row → List ℕ
row_bytes l =
    decimal l.clock ++ space ++ hex 3 l.at ++ space ++ shown_bytes l.shown ++ space ++ decimal l.took ++ feed

unfoldable pub rows_bytes : List Row → List ℕ
rows_bytes [] = []
rows_bytes (l ∷ ls) = row_bytes l ++ rows_bytes ls

-- `clock at word took`
abbrev pub header : List ℕ
header =
    99 ∷ 108 ∷ 111 ∷ 99 ∷ 107 ∷ 32 ∷ 97 ∷ 116 ∷ 32 ∷ 119 ∷ 111 ∷ 114 ∷ 100 ∷ 32 ∷ 116 ∷ 111 ∷ 111 ∷ 107 ∷ 10 ∷ []

-- `end C held H refills R writebacks W`
unfoldable pub end_bytes : ℕ → ℕ → ℕ → ℕ → List ℕ
end_bytes clocks held refills writebacks =
    (101 ∷ 110 ∷ 100 ∷ 32 ∷ []) ++ decimal clocks
    ++ (32 ∷ 104 ∷ 101 ∷ 108 ∷ 100 ∷ 32 ∷ []) ++ decimal held
    ++ (32 ∷ 114 ∷ 101 ∷ 102 ∷ 105 ∷ 108 ∷ 108 ∷ 115 ∷ 32 ∷ []) ++ decimal refills
    ++ (32 ∷ 119 ∷ 114 ∷ 105 ∷ 116 ∷ 101 ∷ 98 ∷ 97 ∷ 99 ∷ 107 ∷ 115 ∷ 32 ∷ []) ++ decimal writebacks ++ feed

-- `refused N AT`
unfoldable pub refused_bytes : ℕ → ℕ → List ℕ
refused_bytes number at =
    (114 ∷ 101 ∷ 102 ∷ 117 ∷ 115 ∷ 101 ∷ 100 ∷ 32 ∷ []) ++ decimal number ++ space ++ decimal at ++ feed
