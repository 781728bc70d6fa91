-- The refusals of reset, clock, run, look, copy and watch, in the table's order; 0: accepted. Words: see trm_codec; images: see trm_image.
-- Paper: "Where calls are turned down": "Checks go down the table; a call skips rows about things it does not take."
--   reset_refusal, clock_refusal, run_refusal, look_refusal, copy_refusal, watch_refusal
use Rattle.std.specs.Prelude.{ℕ, ◌+◌, Bool, true, cond, not, ◌&&◌, ◌||◌, List, [], ◌∷◌, length, eqb, leb, ltb}
use Rattle.trm_word.specs.Address.{store_length_ok}
use Rattle.trm_reference.specs.Geometry.{Geometry}
use Rattle.trm_core.specs.Record.{Machine}
use Rattle.trm_core.specs.Rule.{record_ok}

-- every number of the list is at most the limit
unfoldable pub all_at_most : ℕ → List ℕ → Bool
all_at_most limit [] = true
all_at_most limit (x ∷ xs) = leb x limit && all_at_most limit xs

-- 3: "no word, over 4,096, or one above 3FFFFH"
unfoldable pub program_ok : List ℕ → Bool
program_ok p = leb 1 (length p) && leb (length p) 4096 && all_at_most 0x3FFFF p

-- 4: "length no power of two in 64–32,768, or other than at reset"
unfoldable pub store_ok : Machine → List ℕ → Bool
store_ok m s = store_length_ok (length s) && eqb (length s) m.scalars.size

-- rows 3, 4 and 5, then the call's own rows
unfoldable pub record_rows : Geometry → List ℕ → Machine → List ℕ → ℕ → ℕ
record_rows G p m s rest =
    cond (not (program_ok p)) 3 (cond (not (store_ok m s)) 4 (cond (not (record_ok G p (length s) m)) 5 rest))

-- 8: "would pass 4,294,967,295": `more` clocks after `clocks`
unfoldable pub count_row : ℕ → ℕ → ℕ
count_row clocks more = cond (ltb 4294967295 (clocks + more)) 8 0

-- 6 for the line byte of a clock, "a byte above 7", then 8
unfoldable pub clock_rows : ℕ → ℕ → ℕ
clock_rows clocks line_byte = cond (ltb 7 line_byte) 6 (count_row clocks 1)

-- 6: "other length than the input words, over 65,536, or a byte above 7"
unfoldable pub line_bytes_refused : List ℕ → List ℕ → Bool
line_bytes_refused line_bytes inputs =
    not (eqb (length line_bytes) (length inputs)) || ltb 65536 (length line_bytes) || not (all_at_most 7 line_bytes)

-- 6, then 7: "other length than the run", for both answer buffers, then 8
unfoldable pub run_rows : ℕ → List ℕ → List ℕ → List ℕ → List ℕ → ℕ
run_rows clocks line_bytes inputs bytes words =
    cond (line_bytes_refused line_bytes inputs) 6
    (cond (not (eqb (length bytes) (length line_bytes)) || not (eqb (length words) (length line_bytes))) 7
    (count_row clocks (length line_bytes)))

-- reset takes only the store
unfoldable pub reset_refusal : List ℕ → ℕ
reset_refusal s = cond (store_length_ok (length s)) 0 4

unfoldable pub clock_refusal : Geometry → List ℕ → Machine → List ℕ → ℕ → ℕ
clock_refusal G p m s line_byte = record_rows G p m s (clock_rows m.scalars.counts.clocks line_byte)

unfoldable pub run_refusal : Geometry → List ℕ → Machine → List ℕ → List ℕ → List ℕ → List ℕ → List ℕ → ℕ
run_refusal G p m s line_bytes inputs bytes words =
    record_rows G p m s (run_rows m.scalars.counts.clocks line_bytes inputs bytes words)

-- 9: "a look above FFBFH"
unfoldable pub look_refusal : Geometry → List ℕ → Machine → List ℕ → ℕ → ℕ
look_refusal G p m s address = record_rows G p m s (cond (ltb 0xFFBF address) 9 0)

-- 7: "or than the store for a copy"
unfoldable pub copy_refusal : Geometry → List ℕ → Machine → List ℕ → List ℕ → ℕ
copy_refusal G p m s buffer = record_rows G p m s (cond (eqb (length buffer) (length s)) 0 7)

-- 9: "a device above 63"
unfoldable pub watch_refusal : ℕ → ℕ
watch_refusal device = cond (ltb 63 device) 9 0
