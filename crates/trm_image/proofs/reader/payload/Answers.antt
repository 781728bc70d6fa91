-- A record that is not refused ends inside the image.
use mathlib.Core.Path.{sym, ap}
use lib.Dec.{eqb}
use Rattle.trm_image.proofs.Laws.Places.{payload-whole}
use Rattle.trm_image.proofs.reader.payload.Goals as goal

pub part_at-requires : goal.part_at-requires
part_at-requires c = payload-whole _ _ (ap (λ k. eqb k 0) (sym c.in-Ok.ensures))
