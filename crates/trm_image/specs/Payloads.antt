-- A table of payloads, which the checker computes: those of the paper's example, and the smallest input of each refusal.
-- Paper: "The reader hands back the payload as a part of the image itself"; "Where calls are turned down", rows 1 and 2.
-- A row is the bytes, the offset, the refusal number and the payload, which is empty if refused.
--   payloads   the table        AllGiven ps   every payload is what its row gives
use Prim.{Unit}
use Rattle.std.specs.Prelude.{ℕ, ◌≡◌, List, [], ◌∷◌, ◌++◌, replicate}
use Rattle.trm_image.specs.Refused.{payload_fault}
use Rattle.trm_image.specs.Promises.{payload_gives}

pub record Payload : Type 0 where
  pub bytes : List ℕ
  pub at : ℕ
  pub number : ℕ
  pub part : List ℕ

abbrev pub given : List ℕ → ℕ → ℕ → List ℕ → Payload
given bytes at number part = record { bytes = bytes; at = at; number = number; part = part }

-- the paper's example: the record of the program (18 bytes) and that of the run (15 bytes)
abbrev pub words : List ℕ
words = 5 ∷ 0 ∷ 0 ∷ 0 ∷ 3 ∷ 0 ∷ 2 ∷ 0 ∷ 0xFF ∷ 0xBB ∷ 3 ∷ 0 ∷ []

abbrev pub clocks : List ℕ
clocks = 0x28 ∷ 0 ∷ 0 ∷ 0 ∷ 0 ∷ 0 ∷ 0 ∷ 0 ∷ 0 ∷ []

abbrev pub program : List ℕ
program = 0x0C ∷ 0 ∷ 0 ∷ 0 ∷ 1 ∷ 0 ∷ words

abbrev pub run : List ℕ
run = 9 ∷ 0 ∷ 0 ∷ 0 ∷ 3 ∷ 0 ∷ clocks

unfoldable pub payloads : List Payload
payloads =
    given (program ++ run) 0 0 words
    ∷ given (program ++ run) 18 0 clocks
    -- an empty payload: kind 2 of length 0; a payload of a kind that the check of an image refuses
    ∷ given (0 ∷ 0 ∷ 0 ∷ 0 ∷ 2 ∷ 0 ∷ []) 0 0 []
    ∷ given (1 ∷ 0 ∷ 0 ∷ 0 ∷ 4 ∷ 0 ∷ 7 ∷ []) 0 0 (7 ∷ [])
    -- offsets where no record begins: inside a record, at the end, past it; the empty image
    ∷ given (program ++ run) 1 2 []
    ∷ given (program ++ run) 17 2 []
    ∷ given (program ++ run) 19 2 []
    ∷ given (program ++ run) 33 2 []
    ∷ given (program ++ run) 34 2 []
    ∷ given [] 0 2 []
    -- cut short: the header, a header of one byte, the payload by one byte, a length of FFFFFFFFH; the record before a cut one is whole
    ∷ given (4 ∷ 0 ∷ 0 ∷ 0 ∷ 1 ∷ []) 0 1 []
    ∷ given (program ++ 9 ∷ []) 18 1 []
    ∷ given (4 ∷ 0 ∷ 0 ∷ 0 ∷ 1 ∷ 0 ∷ 5 ∷ 0 ∷ 0 ∷ []) 0 1 []
    ∷ given (0xFF ∷ 0xFF ∷ 0xFF ∷ 0xFF ∷ 1 ∷ 0 ∷ 5 ∷ 0 ∷ 0 ∷ 0 ∷ []) 0 1 []
    ∷ given (program ++ 9 ∷ []) 0 0 words
    -- no record begins after one that is cut short
    ∷ given (4 ∷ 0 ∷ 0 ∷ 0 ∷ 1 ∷ 0 ∷ 5 ∷ 0 ∷ 0 ∷ []) 10 2 []
    -- over 65,536 bytes, at an offset where a record begins and at one where none does
    ∷ given (replicate 65537 0) 0 1 []
    ∷ given (replicate 65537 0) 1 1 []
    ∷ []

unfoldable pub AllGiven : List Payload → Type 0
AllGiven [] = Unit {0}
AllGiven (p ∷ ps) = (payload_fault p.bytes p.at ≡ p.number) × (payload_gives p.bytes p.at ≡ p.part) × AllGiven ps

abbrev pub PayloadsGiven : Type 0
PayloadsGiven = AllGiven payloads
