use mathlib.Core.Path.{sym, ◌∙◌}
use Rattle.trm_core.specs.Rule.{lines_ok}
use Rattle.trm_call_rule.proofs.Laws.{below_none, below_more, below-bad, below_end}
use Rattle.trm_call_rule.proofs.inner.record_rule.lines_ok.Goals as goal

pub loop-l-init : goal.loop-l-init
loop-l-init c = below_none _

pub good_line-requires : goal.good_line-requires
good_line-requires c = c.loop-l-test.true

pub returns-then-not-good_line : goal.returns-then-not-good_line
unfolding lines_ok
returns-then-not-good_line c =
    sym (below-bad 16 _ _ c.loop-l-test.true (sym c.good_line.ensures ∙ c.if-not-good_line.true))

pub loop-l-preserved : goal.loop-l-preserved
loop-l-preserved c = below_more _ _ c.loop-l.invariant (sym c.good_line.ensures ∙ c.if-not-good_line.false)

pub returns : goal.returns
unfolding lines_ok
returns c = sym (below_end 16 _ _ c.loop-l.auto.l-end c.loop-l-test.false c.loop-l.invariant)
