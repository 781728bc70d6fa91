use mathlib.Core.Path.{refl}
use Rattle.trm_listing.proofs.Laws.Along.{along-clocks}
use Rattle.trm_listing.proofs.inner.runs.run_here.Goals as goal

pub returns : goal.returns
returns c = (
  along-clocks _ _ _ _ _ _ _ _ c.requires c.run_clocks-listed.ensures.0,
  c.run_clocks-listed.ensures.1,
  refl,
)
