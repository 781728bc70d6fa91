-- Why an image is refused: its first fault, as the number and the offset where the record begins; 0 at 0 means accepted.
-- Paper: "Where calls are turned down", rows 1, 2, 3, 4, 6; "Records are checked one after another, each down the table, and the first
-- fault counts"; "(0 if too long or empty)". n is the store's length in words.
--   fault_at n s before at   the row that the record at `at` fails, the kind before it being `before`, 0 for none
--   image_fault n s          the whole image
--   payload_fault s at       the payload of the record at `at`: rows 1 and 2
use Rattle.std.specs.Prelude.{ℕ, ◌+◌, ◌-◌, ◌/◌, ◌%◌, Bool, false, cond, not, ◌&&◌, ◌||◌, List, [], ◌∷◌, length, get_or, eqb, ltb}
use Rattle.trm_word.specs.Address.{store_length_ok}
use Rattle.trm_core.specs.Refusals.{all_at_most}
use Rattle.trm_image.specs.Records.{le4, length_at, kind_at, words_at, records_of, record_at}

-- 1: "a record cut short"
unfoldable pub cut_short : List ℕ → ℕ → Bool
cut_short s at = ltb (length s - at) 6 || ltb (length s - (at + 6)) (length_at s at)

-- 1: "a length wrong for its kind": 1 has "4 to 16,384 bytes", 2 "none up to the store", both in fours; 3 has "9 bytes"
unfoldable pub length_wrong : ℕ → ℕ → ℕ → Bool
length_wrong n kind bytes =
    cond (eqb kind 1) (ltb bytes 4 || ltb 16384 bytes || not (eqb (bytes % 4) 0))
    (cond (eqb kind 2) (ltb n (bytes / 4) || not (eqb (bytes % 4) 0))
    (cond (eqb kind 3) (not (eqb bytes 9)) false))

-- a record of kind 3: "count 1–65,536 (4), line byte, input word (4)"
abbrev pub count_at : List ℕ → ℕ → ℕ
count_at s at = le4 s (at + 6)

abbrev pub line_byte_at : List ℕ → ℕ → ℕ
line_byte_at s at = get_or s (at + 10) 0

abbrev pub input_at : List ℕ → ℕ → ℕ
input_at s at = le4 s (at + 11)

-- 1: "a kind 3 count of 0 or above 65,536"
unfoldable pub count_wrong : List ℕ → ℕ → Bool
count_wrong s at = eqb (kind_at s at) 3 && (eqb (count_at s at) 0 || ltb 65536 (count_at s at))

-- "Kind 1, first and once"; "Kind 2, second, at most once"; "Kind 3, any number"; 2 for any other
unfoldable pub in_order : ℕ → ℕ → Bool
in_order before kind =
    cond (eqb kind 1) (eqb before 0)
    (cond (eqb kind 2) (eqb before 1)
    (cond (eqb kind 3) (not (eqb before 0)) false))

-- 3: "one above 3FFFFH"
unfoldable pub word_wrong : List ℕ → ℕ → Bool
word_wrong s at = eqb (kind_at s at) 1 && not (all_at_most 0x3FFFF (words_at s (at + 6) (length_at s at / 4)))

-- 6: "a byte above 7"
unfoldable pub line_byte_wrong : List ℕ → ℕ → Bool
line_byte_wrong s at = eqb (kind_at s at) 3 && ltb 7 (line_byte_at s at)

-- the rows in the table's order; 4: "length no power of two in 64–32,768", of the length given to the reader, so the first record fails it
unfoldable pub fault_at : ℕ → List ℕ → ℕ → ℕ → ℕ
fault_at n s before at =
    cond (cut_short s at) 1
    (cond (length_wrong n (kind_at s at) (length_at s at)) 1
    (cond (count_wrong s at) 1
    (cond (not (in_order before (kind_at s at))) 2
    (cond (word_wrong s at) 3
    (cond (not (store_length_ok n)) 4
    (cond (line_byte_wrong s at) 6 0))))))

pub record Refused : Type 0 where
  pub number : ℕ
  pub at : ℕ

-- the first fault of the records at these offsets
unfoldable pub first_fault : ℕ → List ℕ → ℕ → List ℕ → Refused
first_fault n s before [] = record { number = 0; at = 0 }
first_fault n s before (at ∷ more) =
    cond (eqb (fault_at n s before at) 0)
    (first_fault n s (kind_at s at) more)
    (record { number = fault_at n s before at; at = at })

-- "over 65,536 bytes"; "kind 1 missing" if there is no record; then record by record
unfoldable pub image_fault : ℕ → List ℕ → Refused
image_fault n s =
    cond (ltb 65536 (length s)) (record { number = 1; at = 0 })
    (cond (eqb (length s) 0) (record { number = 2; at = 0 })
    (first_fault n s 0 (records_of s)))

-- 1: "over 65,536 bytes"; 2: "kind unknown", if no record of the image begins at `at`; 1: "a record cut short". The last comes after row 2
-- because it needs a record at `at`.
unfoldable pub payload_fault : List ℕ → ℕ → ℕ
payload_fault s at =
    cond (ltb 65536 (length s)) 1
    (cond (not (record_at s at)) 2
    (cond (cut_short s at) 1 0))
