-- An image written out: the bytes of a program, first data words and runs in the paper's format.
-- Paper: "A record is a payload length (4 bytes, little-endian), a kind (2 bytes) and the payload. Kind 1, first and once: .. program
-- words. Kind 2, second, at most once: first data words .. Kind 3, any number: 9 bytes, count .. (4), line byte, input word (4)".
--   image_bytes second I   the bytes of I, with a record of kind 2 if `second`        Meant n I   what the paper requires of I
use Rattle.std.specs.Prelude.{ℕ, ◌/◌, ◌%◌, ◌≤◌, ◌≡◌, Bool, true, cond, ◌&&◌, List, [], ◌∷◌, ◌++◌, length, leb}
use Rattle.trm_core.specs.Refusals.{program_ok, all_at_most}
use Rattle.trm_image.specs.Meaning.{Run, Image}

-- little-endian
abbrev pub bytes2 : ℕ → List ℕ
bytes2 x = x % 256 ∷ x / 256 % 256 ∷ []

abbrev pub bytes4 : ℕ → List ℕ
bytes4 x = x % 256 ∷ x / 256 % 256 ∷ x / 65536 % 256 ∷ x / 16777216 % 256 ∷ []

unfoldable pub word_bytes : List ℕ → List ℕ
word_bytes [] = []
word_bytes (w ∷ ws) = bytes4 w ++ word_bytes ws

unfoldable pub record_bytes : ℕ → List ℕ → List ℕ
record_bytes kind payload = bytes4 (length payload) ++ bytes2 kind ++ payload

unfoldable pub run_bytes : List Run → List ℕ
run_bytes [] = []
run_bytes (r ∷ rs) = record_bytes 3 (bytes4 r.count ++ r.line_byte ∷ bytes4 r.input) ++ run_bytes rs

unfoldable pub image_bytes : Bool → Image → List ℕ
image_bytes second I =
    record_bytes 1 (word_bytes I.program)
    ++ cond second (record_bytes 2 (word_bytes I.first)) []
    ++ run_bytes I.runs

-- "count 1–65,536"; no line byte above 7; an input word has 32 bits
unfoldable pub runs_ok : List Run → Bool
runs_ok [] = true
runs_ok (r ∷ rs) = leb 1 r.count && leb r.count 65536 && leb r.line_byte 7 && leb r.input 4294967295 && runs_ok rs

-- a program that passes row 3, first data words of 32 bits, "none up to the store", and legal runs
pub record Meant (n : ℕ) (I : Image) : Type 0 where
  pub program : program_ok I.program ≡ true
  pub first : length I.first ≤ n
  pub words : all_at_most 4294967295 I.first ≡ true
  pub runs : runs_ok I.runs ≡ true
