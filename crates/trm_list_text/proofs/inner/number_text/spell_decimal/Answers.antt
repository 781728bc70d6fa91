use mathlib.Core.Path.{◌∙◌}
use Prim.Native.Nat.{ℕ}
use lib.ListN.{length-set}
use native.Mathlib.Omega.{arith}
use Rattle.trm_list_text.proofs.Laws.Digits.{digits-more, digits-all, digits-last}
use Rattle.trm_list_text.proofs.inner.number_text.spell_decimal.Goals as goal

pub loop-i-preserved : goal.loop-i-preserved
loop-i-preserved c = record {
  within = simp length-set (omega arith);
  spelt = rw (c.figure-in-loop-i.ensures, c.figure.ensures) (digits-more _ _ _ _ (omega arith) (omega (arith, length-set {A = ℕ}))
      ∙ digits-more _ _ _ _ (omega arith) (omega arith) ∙ c.loop-i.invariant.spelt);
}

pub returns-then-i-eq1 : goal.returns-then-i-eq1
returns-then-i-eq1 c = rw c.figure-then-i-eq1.ensures
    (digits-last _ _ _ _ _ c.if-i-eq1.true c.loop-i.invariant.within c.loop-i.invariant.spelt)

pub returns-else-i-eq1 : goal.returns-else-i-eq1
returns-else-i-eq1 c = digits-all _ _ _ _ _ (omega arith) c.loop-i.invariant.spelt
