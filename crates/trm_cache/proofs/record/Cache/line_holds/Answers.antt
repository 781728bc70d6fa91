-- By cases: the line is full or not.
use Rattle.trm_cache.specs.Cache.{holds}
use Rattle.trm_cache.proofs.record.Cache.line_holds.Goals as goal

pub returns-then-line_full : goal.returns-then-line_full
unfolding holds
returns-then-line_full c = rw (← c.line_full.ensures, c.if-line_full.true, c.line_block.ensures.0)

pub returns-else-line_full : goal.returns-else-line_full
unfolding holds
returns-else-line_full c = rw (← c.line_full.ensures, c.if-line_full.false)
