-- A record begins inside the image.
use mathlib.Core.Path.{sym, ◌∙◌}
use native.Mathlib.Omega.{arith}
use Rattle.trm_image.proofs.Laws.Places.{record_inside}
use Rattle.trm_image.proofs.reader.payload_fault.Goals as goal

pub cut_short-requires : goal.cut_short-requires
cut_short-requires c =
    let inside = record_inside _ _ (sym c.record_at.ensures ∙ c.if-not-record_at.false) in
    (omega (arith, inside), omega (arith, inside))
