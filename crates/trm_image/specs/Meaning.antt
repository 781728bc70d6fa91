-- What an accepted image contains: a program, first data words and a list of runs.
-- Paper: "Kind 1 ..: program words"; "Kind 2 ..: first data words, .. the rest being zero"; "Kind 3 ..: count .., line byte, input word".
--   words_in kind s ats, runs_in s ats   what the records that begin at these offsets hold        image_of s   the whole image
use Rattle.std.specs.Prelude.{ℕ, ◌+◌, ◌/◌, cond, List, [], ◌∷◌, ◌++◌, eqb}
use Rattle.trm_image.specs.Records.{length_at, kind_at, words_at, records_of}
use Rattle.trm_image.specs.Refused.{count_at, line_byte_at, input_at}

-- a record of kind 3: `count` clocks with this line byte and this input word
pub record Run : Type 0 where
  pub count : ℕ
  pub line_byte : ℕ
  pub input : ℕ

pub record Image : Type 0 where
  pub program : List ℕ
  pub first : List ℕ
  pub runs : List Run

abbrev pub run_at : List ℕ → ℕ → Run
run_at s at = record { count = count_at s at; line_byte = line_byte_at s at; input = input_at s at }

-- the words of the payload
abbrev pub payload_words : List ℕ → ℕ → List ℕ
payload_words s at = words_at s (at + 6) (length_at s at / 4)

-- the words of all records of this kind; an accepted image has at most one of kind 1 and one of kind 2
unfoldable pub words_in : ℕ → List ℕ → List ℕ → List ℕ
words_in kind s [] = []
words_in kind s (at ∷ more) = cond (eqb (kind_at s at) kind) (payload_words s at) [] ++ words_in kind s more

unfoldable pub runs_in : List ℕ → List ℕ → List Run
runs_in s [] = []
runs_in s (at ∷ more) = cond (eqb (kind_at s at) 3) (run_at s at ∷ []) [] ++ runs_in s more

unfoldable pub image_of : List ℕ → Image
image_of s =
    record {
      program = words_in 1 s (records_of s);
      first = words_in 2 s (records_of s);
      runs = runs_in s (records_of s);
    }
