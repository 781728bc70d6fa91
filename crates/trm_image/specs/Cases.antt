-- A table of images with the first fault of each, which the checker computes: the paper's example, and the smallest image of each fault.
-- Paper: "Images and the listing program"; "Where calls are turned down", rows 1, 2, 3, 4 and 6.
-- A row is the store's length in words, the bytes, the refusal number and the offset of the record; 0 at 0 is an accepted image.
--   cases      the table        AllHold cs   every image has the fault that its row gives
use Rattle.std.specs.Prelude.{ℕ, ◌≡◌, List, [], ◌∷◌, ◌++◌, replicate}
use Rattle.trm_image.specs.Refused.{image_fault}

pub record Case : Type 0 where
  pub words : ℕ
  pub bytes : List ℕ
  pub number : ℕ
  pub at : ℕ

abbrev pub row : ℕ → List ℕ → ℕ → ℕ → Case
row words bytes number at = record { words = words; bytes = bytes; number = number; at = at }

-- kind 1 of the one word 00005H, 10 bytes; kind 2 of the one word 7, 10 bytes
abbrev pub program : List ℕ
program = 4 ∷ 0 ∷ 0 ∷ 0 ∷ 1 ∷ 0 ∷ 5 ∷ 0 ∷ 0 ∷ 0 ∷ []

abbrev pub second : List ℕ
second = 4 ∷ 0 ∷ 0 ∷ 0 ∷ 2 ∷ 0 ∷ 7 ∷ 0 ∷ 0 ∷ 0 ∷ []

-- kind 3, 15 bytes: three bytes of its count (the fourth is 0) and its line byte; the input word is 0
abbrev pub run : ℕ → ℕ → ℕ → ℕ → List ℕ
run a b c line_byte = 9 ∷ 0 ∷ 0 ∷ 0 ∷ 3 ∷ 0 ∷ a ∷ b ∷ c ∷ 0 ∷ line_byte ∷ 0 ∷ 0 ∷ 0 ∷ 0 ∷ []

-- kind 1 of one word, its four bytes given
abbrev pub word : ℕ → ℕ → ℕ → ℕ → List ℕ
word a b c d = 4 ∷ 0 ∷ 0 ∷ 0 ∷ 1 ∷ 0 ∷ a ∷ b ∷ c ∷ d ∷ []

unfoldable pub cases : List Case
cases =
    -- the paper's example
    row 2048
    (0x0C ∷ 0 ∷ 0 ∷ 0 ∷ 1 ∷ 0 ∷ 5 ∷ 0 ∷ 0 ∷ 0 ∷ 3 ∷ 0 ∷ 2 ∷ 0 ∷ 0xFF ∷ 0xBB ∷ 3 ∷ 0
    ∷ 9 ∷ 0 ∷ 0 ∷ 0 ∷ 3 ∷ 0 ∷ 0x28 ∷ 0 ∷ 0 ∷ 0 ∷ 0 ∷ 0 ∷ 0 ∷ 0 ∷ 0 ∷ [])
    0 0
    -- accepted: kind 1 alone; then kind 2; then runs; runs with no kind 2
    ∷ row 2048 program 0 0
    ∷ row 2048 (program ++ second) 0 0
    ∷ row 2048 (program ++ second ++ run 1 0 0 0 ++ run 2 0 0 0) 0 0
    ∷ row 2048 (program ++ run 1 0 0 0 ++ run 2 0 0 0) 0 0
    -- over 65,536 bytes, checked before any record; 65,536 bytes, an unknown kind of length 65,530 (FFFAH); empty: kind 1 missing
    ∷ row 2048 (replicate 65537 0) 1 0
    ∷ row 2048 (0xFA ∷ 0xFF ∷ 0 ∷ 0 ∷ 4 ∷ 0 ∷ replicate 65530 0) 2 0
    ∷ row 2048 [] 2 0
    -- a header cut short: the first record's, and one byte after a whole record
    ∷ row 2048 (4 ∷ 0 ∷ 0 ∷ 0 ∷ 1 ∷ []) 1 0
    ∷ row 2048 (program ++ 0 ∷ []) 1 10
    -- a payload cut short, by one byte; a length of FFFFFFFFH
    ∷ row 2048 (4 ∷ 0 ∷ 0 ∷ 0 ∷ 1 ∷ 0 ∷ 5 ∷ 0 ∷ 0 ∷ []) 1 0
    ∷ row 2048 (0xFF ∷ 0xFF ∷ 0xFF ∷ 0xFF ∷ 1 ∷ 0 ∷ 5 ∷ 0 ∷ 0 ∷ 0 ∷ []) 1 0
    -- kind 1 of length 0, 5 and 16,388 (4004H)
    ∷ row 2048 (0 ∷ 0 ∷ 0 ∷ 0 ∷ 1 ∷ 0 ∷ []) 1 0
    ∷ row 2048 (5 ∷ 0 ∷ 0 ∷ 0 ∷ 1 ∷ 0 ∷ 5 ∷ 0 ∷ 0 ∷ 0 ∷ 0 ∷ []) 1 0
    ∷ row 2048 (4 ∷ 0x40 ∷ 0 ∷ 0 ∷ 1 ∷ 0 ∷ replicate 16388 0) 1 0
    -- kind 2 of length 0 and 6, of 256 (100H: all 64 words of the store) and of one word more
    ∷ row 64 (program ++ 0 ∷ 0 ∷ 0 ∷ 0 ∷ 2 ∷ 0 ∷ []) 0 0
    ∷ row 64 (program ++ 6 ∷ 0 ∷ 0 ∷ 0 ∷ 2 ∷ 0 ∷ replicate 6 0) 1 10
    ∷ row 64 (program ++ 0 ∷ 1 ∷ 0 ∷ 0 ∷ 2 ∷ 0 ∷ replicate 256 0) 0 0
    ∷ row 64 (program ++ 4 ∷ 1 ∷ 0 ∷ 0 ∷ 2 ∷ 0 ∷ replicate 260 0) 1 10
    -- kind 3 of length 8 and 10
    ∷ row 2048 (program ++ 8 ∷ 0 ∷ 0 ∷ 0 ∷ 3 ∷ 0 ∷ 1 ∷ replicate 7 0) 1 10
    ∷ row 2048 (program ++ 10 ∷ 0 ∷ 0 ∷ 0 ∷ 3 ∷ 0 ∷ 1 ∷ replicate 9 0) 1 10
    -- a count of 0, of 65,536, of 65,537
    ∷ row 2048 (program ++ run 0 0 0 0) 1 10
    ∷ row 2048 (program ++ run 0 0 1 0) 0 0
    ∷ row 2048 (program ++ run 1 0 1 0) 1 10
    -- unknown kinds: 0, 4, and 257, whose low byte is 1; an unknown kind that is cut short is refused with 1
    ∷ row 2048 (0 ∷ 0 ∷ 0 ∷ 0 ∷ 0 ∷ 0 ∷ []) 2 0
    ∷ row 2048 (program ++ 0 ∷ 0 ∷ 0 ∷ 0 ∷ 4 ∷ 0 ∷ []) 2 10
    ∷ row 2048 (4 ∷ 0 ∷ 0 ∷ 0 ∷ 1 ∷ 1 ∷ 5 ∷ 0 ∷ 0 ∷ 0 ∷ []) 2 0
    ∷ row 2048 (program ++ 1 ∷ 0 ∷ 0 ∷ 0 ∷ 4 ∷ 0 ∷ []) 1 10
    -- repeated: kind 1, kind 1 of 16,384 bytes (4000H, the greatest legal length), kind 2
    ∷ row 2048 (program ++ program) 2 10
    ∷ row 2048 (program ++ 0 ∷ 0x40 ∷ 0 ∷ 0 ∷ 1 ∷ 0 ∷ replicate 16384 0) 2 10
    ∷ row 2048 (program ++ second ++ second) 2 20
    -- out of order: kind 2 after kind 3, kind 2 first, kind 3 first
    ∷ row 2048 (program ++ run 1 0 0 0 ++ second) 2 25
    ∷ row 2048 (second ++ program) 2 0
    ∷ row 2048 (run 1 0 0 0) 2 0
    -- a program word 3FFFFH, 40000H, 1000000H; the second of two words 40000H
    ∷ row 2048 (word 0xFF 0xFF 3 0) 0 0
    ∷ row 2048 (word 0 0 4 0) 3 0
    ∷ row 2048 (word 0 0 0 1) 3 0
    ∷ row 2048 (8 ∷ 0 ∷ 0 ∷ 0 ∷ 1 ∷ 0 ∷ 5 ∷ 0 ∷ 0 ∷ 0 ∷ 0 ∷ 0 ∷ 4 ∷ 0 ∷ []) 3 0
    -- a first data word may have any value: FFFFFFFFH
    ∷ row 2048 (program ++ 4 ∷ 0 ∷ 0 ∷ 0 ∷ 2 ∷ 0 ∷ 0xFF ∷ 0xFF ∷ 0xFF ∷ 0xFF ∷ []) 0 0
    -- a line byte of 7, of 8, of 8 in the last of four records
    ∷ row 2048 (program ++ run 1 0 0 7) 0 0
    ∷ row 2048 (program ++ run 1 0 0 8) 6 10
    ∷ row 2048 (program ++ second ++ run 1 0 0 7 ++ run 1 0 0 8) 6 35
    -- two faults in one record, the earlier row counts: kind 3 first with a count of 0, or with a line byte of 8; a second kind 1 of
    -- 5 bytes, or with a word 40000H; a count of 0 with a line byte of 8
    ∷ row 2048 (run 0 0 0 0) 1 0
    ∷ row 2048 (run 1 0 0 8) 2 0
    ∷ row 2048 (program ++ 5 ∷ 0 ∷ 0 ∷ 0 ∷ 1 ∷ 0 ∷ replicate 5 0) 1 10
    ∷ row 2048 (program ++ word 0 0 4 0) 2 10
    ∷ row 2048 (program ++ run 0 0 0 8) 1 10
    -- faults in two records, the earlier record counts: 3 before 1, 6 before 1
    ∷ row 2048 (word 0 0 4 0 ++ run 0 0 0 0) 3 0
    ∷ row 2048 (program ++ run 1 0 0 8 ++ 0 ∷ []) 6 10
    -- illegal store lengths: 63, 65,536, 100 words
    ∷ row 63 program 4 0
    ∷ row 65536 program 4 0
    ∷ row 100 program 4 0
    -- illegal store length, checked after rows 1, 2 and 3 of the first record: over 65,536 bytes, empty, kind 1 of length 0, an unknown
    -- kind, a program word 40000H
    ∷ row 63 (replicate 65537 0) 1 0
    ∷ row 63 [] 2 0
    ∷ row 63 (0 ∷ 0 ∷ 0 ∷ 0 ∷ 1 ∷ 0 ∷ []) 1 0
    ∷ row 63 (0 ∷ 0 ∷ 0 ∷ 0 ∷ 4 ∷ 0 ∷ []) 2 0
    ∷ row 63 (word 0 0 4 0) 3 0
    -- illegal store length, checked before row 6 and before every later record: a line byte of 8, a record cut short, kind 1 again
    ∷ row 63 (program ++ run 1 0 0 8) 4 0
    ∷ row 63 (program ++ 0 ∷ []) 4 0
    ∷ row 63 (program ++ program) 4 0
    ∷ []

unfoldable pub AllHold : List Case → Type 0
AllHold [] = Unit {0}
AllHold (c ∷ cs) =
    ((image_fault c.words c.bytes).number ≡ c.number) × ((image_fault c.words c.bytes).at ≡ c.at) × AllHold cs

abbrev pub CasesHold : Type 0
CasesHold = AllHold cases
