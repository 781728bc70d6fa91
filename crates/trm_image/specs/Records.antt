-- How the bytes of an image divide into records, and how their numbers are read.
-- Paper: "A record is a payload length (4 bytes, little-endian), a kind (2 bytes) and the payload"; "Words are 4 bytes, little-endian
-- like the rest".
--   length_at, kind_at, payload_at s at   of the record that begins at this byte        words_at s at n   n words from this byte on
--   records_of s   where each record of s begins        record_at s at   whether one begins at this byte
use Rattle.std.specs.Prelude.{ℕ, zero, suc, ◌+◌, ◌*◌, Bool, false, ◌||◌, List, [], ◌∷◌, get_or, take, drop, eqb}

abbrev pub le2 : List ℕ → ℕ → ℕ
le2 s at = get_or s at 0 + 256 * get_or s (at + 1) 0

abbrev pub le4 : List ℕ → ℕ → ℕ
le4 s at = get_or s at 0 + 256 * get_or s (at + 1) 0 + 65536 * get_or s (at + 2) 0 + 16777216 * get_or s (at + 3) 0

abbrev pub length_at : List ℕ → ℕ → ℕ
length_at s at = le4 s at

abbrev pub kind_at : List ℕ → ℕ → ℕ
kind_at s at = le2 s (at + 4)

-- "The reader hands back the payload as a part of the image itself": the bytes after the six of the header
unfoldable pub payload_at : List ℕ → ℕ → List ℕ
payload_at s at = take (length_at s at) (drop (at + 6) s)

unfoldable pub words_at : List ℕ → ℕ → ℕ → List ℕ
words_at s at zero = []
words_at s at (suc n) = le4 s at ∷ words_at s (at + 4) n

-- where records begin in the bytes from offset `at` on, the next of them after `skip` bytes: a record is six bytes and its payload
unfoldable pub begins : ℕ → ℕ → List ℕ → List ℕ
begins zero at [] = []
begins zero at (b ∷ bs) = at ∷ begins (5 + length_at (b ∷ bs) 0) (suc at) bs
begins (suc skip) at [] = []
begins (suc skip) at (b ∷ bs) = begins skip (suc at) bs

unfoldable pub records_of : List ℕ → List ℕ
records_of s = begins 0 0 s

-- whether this offset is in the list
unfoldable pub among : ℕ → List ℕ → Bool
among at [] = false
among at (b ∷ bs) = eqb at b || among at bs

unfoldable pub record_at : List ℕ → ℕ → Bool
record_at s at = among at (records_of s)
