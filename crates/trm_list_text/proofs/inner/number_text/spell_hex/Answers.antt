use mathlib.Core.Path.{◌∙◌}
use native.Mathlib.Omega.{arith}
use Rattle.trm_list_text.proofs.Laws.Digits.{digits-more, digits-all}
use Rattle.trm_list_text.proofs.inner.number_text.spell_hex.Goals as goal

pub loop-i-preserved : goal.loop-i-preserved
loop-i-preserved c = rw c.glyph.ensures (digits-more _ _ _ _ c.loop-i-test.true (omega arith) ∙ c.loop-i.invariant)

pub returns : goal.returns
returns c = digits-all _ _ _ _ _ c.loop-i-test.false c.loop-i.invariant
