-- By cases of the byte; without an answer the buffers already hold the 0 that would be written (zero-sets).
use native.Mathlib.Omega.{arith}
use mathlib.Core.Path.{refl}
use Rattle.trm_run_phases.proofs.Laws.Reached.{zero-sets}
use Rattle.trm_run_phases.proofs.inner.going.went.Goals as goal

pub quietly-h-requires : goal.quietly-h-requires
quietly-h-requires c = (c.requires.many, c.requires.few, c.requires.finished)

pub bounds-bytes-at : goal.bounds-bytes-at
bounds-bytes-at c = c.requires.wide

pub offset_bounds-outs-at : goal.offset_bounds-outs-at
offset_bounds-outs-at c = omega (arith, c.requires.many)

pub bounds-outs-at : goal.bounds-outs-at
bounds-outs-at c = c.requires.broad

pub returns-then-r-ne0 : goal.returns-then-r-ne0
returns-then-r-ne0 c = (c.quietly-h.ensures, refl, refl)

pub returns-else-r-ne0 : goal.returns-else-r-ne0
returns-else-r-ne0 c = (
  c.quietly-h.ensures,
  zero-sets _ _ _ c.if-r-ne0.false c.requires.byte,
  zero-sets _ _ _ (c.requires.mute c.if-r-ne0.false) c.requires.word,
)
