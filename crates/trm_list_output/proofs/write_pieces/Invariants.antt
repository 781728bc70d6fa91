-- The listing is ready for its next piece; what the writer has taken and what is left to write are together the whole.
-- Measure: the bytes left to write, and one more while the listing is not over: a piece has at least a byte, or it is the last.
use Rattle.std.proofs.Common.{◌≡◌, ◌≤◌, ◌+◌, List, ℕ, ◌++◌, cond, length, take}
use Rattle.std.specs.Io.KnownBytes.{Appends}
use Rattle.trm_listing.specs.Listing.{output_of}
use Rattle.trm_listing.specs.Pieces.{Ready, rest_of}
use Rattle.trm_list_output.proofs.write_pieces.Given as goal

abbrev pub invariant-loop-l : goal.invariant-loop-l
invariant-loop-l g l = record {
  ready : Ready l.image (take l.l.words l.program) l.store l.l;
  words : l.l.words ≤ length l.program;
  long : 128 ≤ length l.buf;
  written : (bs : List ℕ) × (output_of l.image ≡ bs ++ rest_of l.image (take l.l.words l.program) l.store l.l)
      × Appends (g.W.Write.contents l.fn.out) (g.W.Write.contents l.out) bs;
}

abbrev pub decreases-loop-l : goal.decreases-loop-l
decreases-loop-l g l = length (rest_of l.image (take l.l.words l.program) l.store l.l) + cond l.l.over 0 1
