use Rattle.trm_cache.proofs.Laws.Parts.{empty-none, empty-more, empty-end}
use Rattle.trm_cache.proofs.record.Cache.empty_all.Goals as goal

pub loop-i-init : goal.loop-i-init
loop-i-init c = empty-none _

pub empty_line-requires : goal.empty_line-requires
empty_line-requires c = c.loop-i-test.true

pub loop-i-preserved : goal.loop-i-preserved
loop-i-preserved c = rw c.empty_line.ensures (empty-more _ _ _ c.loop-i.invariant)

pub returns : goal.returns
returns c = empty-end _ _ _ c.loop-i.invariant c.loop-i.auto.i-end c.loop-i-test.false
