use native.Mathlib.Omega.{arith}
use Rattle.trm_cache.proofs.Laws.Parts.{counting-none, counting_more, counting-end}
use Rattle.trm_cache.proofs.record.Cache.dirty_lines.Goals as goal

pub loop-i-init : goal.loop-i-init
loop-i-init c = counting-none _

pub line_dirty-d-requires : goal.line_dirty-d-requires
line_dirty-d-requires c = c.loop-i-test.true

pub lower-first-requires : goal.lower-first-requires
lower-first-requires c = (c.loop-i.invariant.low, c.loop-i-test.true)

pub count_one-count-requires : goal.count_one-count-requires
count_one-count-requires c = omega (arith, c.loop-i.invariant.few, c.loop-i-test.true)

pub loop-i-preserved : goal.loop-i-preserved
loop-i-preserved c =
    counting_more _ _ _ _ _ _ _ c.loop-i.invariant c.loop-i-test.true
    c.line_dirty-d.ensures c.count_one-count.ensures c.lower-first.ensures.0 c.lower-first.ensures.1

pub returns : goal.returns
returns c = counting-end _ _ _ _ c.loop-i.invariant c.loop-i-test.false
