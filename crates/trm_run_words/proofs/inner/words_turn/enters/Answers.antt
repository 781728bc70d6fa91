use native.Mathlib.Omega.{arith}
use Rattle.trm_run_words.proofs.inner.words_turn.enters.Goals as goal

pub advance-requires : goal.advance-requires
advance-requires c = (c.requires.1, omega arith, omega arith)

pub returns : goal.returns
returns c = rw (c.advance.ensures, c.in_phase.ensures)
