-- The charge of 8 and 9 is 33 (stepped-charge), so count < charge is count ≤ 32.
use mathlib.Core.Path.{sym, ◌∙◌}
use mathlib.Core.Bool.{and-true}
use borrow.Author.Tests.{le-leb}
use lib.Dec.{leb}
use Rattle.trm_core.specs.Rule.{arithmetic_ok}
use Rattle.trm_call_rule.proofs.Laws.{below-one-more, stepped-charge}
use Rattle.trm_call_rule.proofs.inner.record_rule.arithmetic_ok.Goals as goal

pub returns : goal.returns
unfolding arithmetic_ok
returns c =
    let t = c.if-not-is_stepped.false in
    rw (le-leb _ _ c.if-count-lt1.false, ← c.is_stepped.ensures, t, and-true (leb c.args.count 32))
    (below-one-more c.args.count c.base_charge-charge.result 32
    (c.base_charge-charge.ensures ∙ stepped-charge c.args.w (sym c.is_stepped.ensures ∙ t)))
