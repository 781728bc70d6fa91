-- Invariant: the cache lines below l are good.
use mathlib.Core.Path.{◌≡◌}
use mathlib.Core.Bool.{true}
use Rattle.trm_core.specs.Rule.{all_below}
use Rattle.trm_call_rule.proofs.Laws.{good_line}
use Rattle.trm_call_rule.proofs.inner.record_rule.lines_ok.Given as goal

abbrev pub invariant-loop-l : goal.invariant-loop-l
invariant-loop-l l = all_below l.l (good_line l.on l.n l.cache) ≡ true
