-- The uncached charge is one more than the most waits (uncached_charge_lem), so count < charge is count ≤ waits.
use Prim.Native.Nat.{ℕ}
use mathlib.Core.Path.{sym, ◌∙◌}
use mathlib.Core.Bool.{cond, and-true}
use borrow.Author.Tests.{le-leb}
use lib.Dec.{leb}
use Rattle.trm_reference.specs.Access.{is_load}
use Rattle.trm_core.specs.Rule.{wait_ok}
use Rattle.trm_call_rule.proofs.Laws.{below-one-more, uncached_charge_lem}
use Rattle.trm_call_rule.proofs.inner.access.Situation.wait_ok.Goals as goal

pub returns : goal.returns
unfolding wait_ok
returns c =
    let count = c.args.count in
    let w = c.args.self.now.w in
    let most : ℕ = cond (is_load w) 5 4 in
    let t = c.if-not-without_cache.false in
    rw (le-leb _ _ c.if-count-lt1.false, ← c.without_cache.ensures, t, and-true (leb count most), c.base_charge-uncached.ensures)
    (below-one-more count _ most (uncached_charge_lem w _ _ (sym c.without_cache.ensures ∙ t)))
