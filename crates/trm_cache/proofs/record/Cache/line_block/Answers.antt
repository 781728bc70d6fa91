use Rattle.trm_cache.specs.Cache.{line_at}
use Rattle.trm_cache.proofs.record.Cache.line_block.Goals as goal

pub returns : goal.returns
unfolding line_at
returns c = (c.wide.ensures.0, c.wide.ensures.1)
