use Rattle.trm_core.specs.Rule.{widths_ok}
use Rattle.trm_clock_scalars.proofs.inner.interrupt.take_interrupt.Goals as goal

pub saved_word-requires : goal.saved_word-requires
unfolding widths_ok
saved_word-requires c = c.requires.0
