use Rattle.trm_image.proofs.Laws.Words.{fits_more, fits-bad, fits-end}
use mathlib.Core.Path.{sym, ◌∙◌, subst}
use Prim.Native.Nat.{◌≤◌, ◌<◌}
use native.Mathlib.Omega.{arith}
use Rattle.trm_image.proofs.inner.image_rows.words_fit.Goals as goal

pub returns-then-word_at-gt262143 : goal.returns-then-word_at-gt262143
returns-then-word_at-gt262143 c =
    let big : 0x3FFFF < c.word_at.result = omega arith in
    sym (fits-bad _ _ _ 0x3FFFF _ c.loop-i-test.true (subst (λ x. _ < x) c.word_at.ensures big)) ∙ c.loop-i.invariant

pub loop-i-preserved : goal.loop-i-preserved
loop-i-preserved c =
    let small : c.word_at.result ≤ 0x3FFFF = omega arith in
    sym (fits_more _ _ _ 0x3FFFF _ c.loop-i-test.true (subst (λ x. x ≤ _) c.word_at.ensures small)) ∙ c.loop-i.invariant

pub returns : goal.returns
returns c = sym (fits-end _ _ _ _ _ c.loop-i-test.false) ∙ c.loop-i.invariant
