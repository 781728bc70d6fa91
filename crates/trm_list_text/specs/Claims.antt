-- What is claimed of the listing's text: five rows, computed. Three are the paper's; its whole example is in Examples of trm_listing.
-- Paper: the example of "Images and the listing program". The value is in proofs/Theorems.antt.
use Rattle.std.specs.Prelude.{◌≡◌, [], ◌∷◌}
use Rattle.trm_list_text.specs.declared.inner.row_text.Shown.TheVariants.{Word, Irq1}
use Rattle.trm_list_text.specs.Rows.{row_bytes, end_bytes, refused_bytes}

-- three rows as the paper prints them, an interrupt's and a refusal's, as ASCII codes
pub record ExampleHolds : Type 0 where
  -- `34 001 20003 33`
  pub second : row_bytes (record { clock = 34; at = 1; shown = Word 0x20003; took = 33 })
      ≡ 51 ∷ 52 ∷ 32 ∷ 48 ∷ 48 ∷ 49 ∷ 32 ∷ 50 ∷ 48 ∷ 48 ∷ 48 ∷ 51 ∷ 32 ∷ 51 ∷ 51 ∷ 10 ∷ []
  -- `36 002 3BBFF 2`
  pub third : row_bytes (record { clock = 36; at = 2; shown = Word 0x3BBFF; took = 2 })
      ≡ 51 ∷ 54 ∷ 32 ∷ 48 ∷ 48 ∷ 50 ∷ 32 ∷ 51 ∷ 66 ∷ 66 ∷ 70 ∷ 70 ∷ 32 ∷ 50 ∷ 10 ∷ []
  -- `1000000000 FAB irq1 1`
  pub interrupt : row_bytes (record { clock = 1000000000; at = 0xFAB; shown = Irq1; took = 1 })
      ≡ 49 ∷ 48 ∷ 48 ∷ 48 ∷ 48 ∷ 48 ∷ 48 ∷ 48 ∷ 48 ∷ 48 ∷ 32 ∷ 70 ∷ 65 ∷ 66 ∷ 32 ∷ 105 ∷ 114 ∷ 113 ∷ 49 ∷ 32 ∷ 49 ∷ 10 ∷ []
  -- `end 40 held 0 refills 0 writebacks 0`
  pub last : end_bytes 40 0 0 0
      ≡ 101 ∷ 110 ∷ 100 ∷ 32 ∷ 52 ∷ 48 ∷ 32 ∷ 104 ∷ 101 ∷ 108 ∷ 100 ∷ 32 ∷ 48 ∷ 32 ∷ 114 ∷ 101 ∷ 102 ∷ 105 ∷ 108 ∷ 108 ∷ 115 ∷ 32 ∷ 48
      ∷ 32 ∷ 119 ∷ 114 ∷ 105 ∷ 116 ∷ 101 ∷ 98 ∷ 97 ∷ 99 ∷ 107 ∷ 115 ∷ 32 ∷ 48 ∷ 10 ∷ []
  -- `refused 1 65535`
  pub refused : refused_bytes 1 65535
      ≡ 114 ∷ 101 ∷ 102 ∷ 117 ∷ 115 ∷ 101 ∷ 100 ∷ 32 ∷ 49 ∷ 32 ∷ 54 ∷ 53 ∷ 53 ∷ 51 ∷ 53 ∷ 10 ∷ []

pub record Claims : Type 0 where
  pub example_holds : ExampleHolds
