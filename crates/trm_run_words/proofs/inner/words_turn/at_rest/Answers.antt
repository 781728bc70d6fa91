use mathlib.Core.Path.{sym, ◌∙◌}
use Rattle.trm_run_phases.proofs.Laws.Next.{retold}
use Rattle.trm_run_words.proofs.inner.words_turn.at_rest.Goals as goal

pub returns : goal.returns
returns c = retold _ _ (c.in_phase.ensures ∙ sym c.requires)
