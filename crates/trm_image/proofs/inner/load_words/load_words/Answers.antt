use native.Mathlib.Omega.{arith}
use Rattle.trm_image.proofs.Laws.Load.{load-none, load-more}
use Rattle.trm_image.proofs.inner.load_words.load_words.Goals as goal

pub loop-i-init : goal.loop-i-init
loop-i-init c = load-none _ _

pub loop-i-preserved : goal.loop-i-preserved
loop-i-preserved c = load-more _ _ _ _ _ (omega arith) c.loop-i.invariant c.word_at.ensures
