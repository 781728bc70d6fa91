use Rattle.trm_cache.specs.Cache.{line_at}
use mathlib.Core.Path.{refl}
use Rattle.trm_cache.proofs.record.Cache.line_full.Goals as goal

pub returns : goal.returns
unfolding line_at
returns c = refl
