-- By cases: empty (empty-line), bad marks, or full (marked-full).
use mathlib.Core.Path.{sym, ◌∙◌}
use Rattle.trm_call_rule.proofs.Laws.{empty-line, marked-full}
use Rattle.trm_call_rule.proofs.inner.record_rule.good_line.Goals as goal

pub returns-then-cache-l-eq0 : goal.returns-then-cache-l-eq0
returns-then-cache-l-eq0 c = c.empty_ok.ensures ∙ sym (empty-line _ _ _ _ c.if-cache-l-eq0.true)

pub full_ok-requires : goal.full_ok-requires
full_ok-requires c = (c.requires, marked-full _ _ c.if-cache-l-eq0.false (sym c.marks_ok.ensures ∙ c.if-marks_ok.true))
