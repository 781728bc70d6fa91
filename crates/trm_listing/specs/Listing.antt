-- The rows of an image's clocks, and the bytes that the listing program writes. Read `output_of`.
-- Paper: "`trmlist` reads an image .. with a store of 2,048 words, checks it whole, and runs it"; "A refusal prints one line".
--   rows_of I   the rows of an image        final_of I   the state after its clocks        output_of s   what is written for the bytes s
use Rattle.std.specs.Prelude.{ℕ, ◌-◌, cond, List, [], ◌∷◌, ◌++◌, length, replicate, eqb}
use Rattle.trm_reference.specs.Geometry.{paper_geometry}
use Rattle.trm_reference.specs.Trace.{Pins, clocks, end_of}
use Rattle.trm_core.specs.Record.{Lent, reset_of}
use Rattle.trm_core.specs.Clock.{clock_of}
use Rattle.trm_image.specs.Meaning.{Run, Image, image_of}
use Rattle.trm_image.specs.Refused.{image_fault}
use Rattle.trm_list_text.specs.Rows.{Row, rows_bytes, header, refused_bytes}
use Rattle.trm_list_rows.specs.Rows.{rows_from, end_row}

-- "count .., line byte, input word": `count` clocks with the same inputs
abbrev pub pins_of_run : Run → Pins
pins_of_run r = record { line_byte = r.line_byte; input = r.input }

unfoldable pub pins_of_runs : List Run → List Pins
pins_of_runs [] = []
pins_of_runs (r ∷ rs) = replicate r.count (pins_of_run r) ++ pins_of_runs rs

-- "first data words, .. the rest being zero", in a store of 2,048 words
unfoldable pub first_store : List ℕ → List ℕ
first_store first = first ++ replicate (2048 - length first) 0

-- the state after the reset
unfoldable pub start_of : List ℕ → Lent
start_of first = record { machine = reset_of paper_geometry (first_store first); store = first_store first }

unfoldable pub rows_of : Image → List Row
rows_of I = rows_from I.program (start_of I.first) 0 (pins_of_runs I.runs)

-- the state after all clocks of the image
unfoldable pub final_of : Image → Lent
final_of I =
    end_of (start_of I.first) (clocks (clock_of paper_geometry I.program) (start_of I.first) (pins_of_runs I.runs))

unfoldable pub listing_of : Image → List ℕ
listing_of I = header ++ rows_bytes (rows_of I) ++ end_row (final_of I)

unfoldable pub output_of : List ℕ → List ℕ
output_of s =
    cond (eqb (image_fault 2048 s).number 0)
    (listing_of (image_of s))
    (refused_bytes (image_fault 2048 s).number (image_fault 2048 s).at)
