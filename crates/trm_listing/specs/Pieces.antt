-- A listing in pieces: what the first and every later piece writes to the buffer, and what is still to come.
-- Paper: nothing; that a listing comes in pieces is our choice (D-65). The bytes are `output_of`.
--   rest_of s p st l   what is to be written after the pieces so far        StartHolds, PieceHolds   the contracts
use Rattle.std.specs.Prelude.{ℕ, ◌-◌, ◌≤◌, ◌<◌, ◌≡◌, true, false, cond, List, [], ◌++◌, length, take, replicate, eqb}
use Rattle.trm_core.specs.Record.{Lent}
use Rattle.trm_run_machine.specs.Machine.{record_of}
use Rattle.trm_image.specs.Refused.{image_fault}
use Rattle.trm_image.specs.Meaning.{image_of}
use Rattle.trm_list_text.specs.Rows.{end_bytes}
use Rattle.trm_list_text.specs.Wrote.{Wrote}
use Rattle.trm_listing.specs.declared.inner.runs.Place.{Place}
use Rattle.trm_listing.specs.declared.inner.finish.Ended.{Ended}
use Rattle.trm_listing.specs.declared.inner.pieces.Listing.{Listing}
use Rattle.trm_listing.specs.Listing.{first_store, output_of}
use Rattle.trm_list_rows.specs.Onward.{text_from}
use Rattle.trm_listing.specs.Rest.{pins_left, Stands}

abbrev pub lent_by : Listing → List ℕ → Lent
lent_by l st = record { machine = record_of l.machine; store = st }

-- its place in the image, with an empty buffer
abbrev pub place_of : Listing → Place
place_of l =
    record {
      listed = record { scalars = l.machine.scalars; left = l.left; took = l.took; len = 0 };
      at = l.at;
      pins = l.pins;
      input = l.input;
    }

-- s: the image; p: the program's words; st: the store
unfoldable pub rest_of : List ℕ → List ℕ → List ℕ → Listing → List ℕ
rest_of s p st l = cond l.over [] (text_from p (lent_by l st) l.took (pins_left s (place_of l)))

-- a listing that is not over is at a legal place of its image
abbrev pub Ready : List ℕ → List ℕ → List ℕ → Listing → Type 0
Ready s p st l = l.over ≡ false → Stands s p (place_of l) (lent_by l st) []

-- the arrays of program and store after the first piece: an accepted image is loaded, a refused one leaves them unchanged
abbrev pub program_after : List ℕ → List ℕ → List ℕ
program_after s old =
    cond (eqb (image_fault 2048 s).number 0)
    ((image_of s).program ++ replicate (4096 - length (image_of s).program) 0) old

abbrev pub store_after : List ℕ → List ℕ → List ℕ
store_after s old = cond (eqb (image_fault 2048 s).number 0) (first_store (image_of s).first) old

-- the first piece: program and store are loaded and the buffer holds the header, or it holds the row of a refusal
pub record StartHolds (s program₀ st₀ b₀ : List ℕ) (r : Listing) (program st b : List ℕ) : Type 0 where
  pub text : output_of s ≡ take r.len b ++ rest_of s (take r.words program) st r
  pub ready : Ready s (take r.words program) st r
  pub fits : r.len ≤ length b
  pub words : r.words ≤ length program
  pub program_is : program ≡ program_after s program₀
  pub store_is : st ≡ store_after s st₀
  pub programmed : length program ≡ 4096
  pub stored : length st ≡ 2048
  pub long : length b ≡ length b₀

-- any later piece: it holds the next bytes, at least one unless it is the last
pub record PieceHolds (s p st b : List ℕ) (l r : Listing) (st' b' : List ℕ) : Type 0 where
  pub text : rest_of s p st l ≡ take r.len b' ++ rest_of s p st' r
  pub ready : Ready s p st' r
  pub fits : r.len ≤ length b'
  pub goes : r.over ≡ false → 0 < r.len
  pub words : r.words ≡ l.words
  pub stored : length st' ≡ length st
  pub long : length b' ≡ length b

-- the last row, written if all runs are over and there is room for it
pub record EndHolds (q : Place) (b : List ℕ) (r : Ended) (b' : List ℕ) : Type 0 where
  pub text : Wrote b q.listed.len
      (cond r.over
      (end_bytes q.listed.scalars.counts.clocks q.listed.scalars.counts.held q.listed.scalars.counts.refills
      q.listed.scalars.counts.writebacks) [])
      b' r.len
  pub none : r.over ≡ true → q.listed.left ≡ 0
  pub full : r.over ≡ false → q.listed.left ≡ 0 → 0 < q.listed.len
  pub fits : r.len ≤ length b'
