-- By cases: a wait, or one word.
use borrow.Author.Tests.{lt-leb, le-leb}
use Rattle.trm_cache.specs.Cache.{fill_word}
use Rattle.trm_cache.proofs.record.Cache.fill_word.Goals as goal

pub returns-then-k-lt2 : goal.returns-then-k-lt2
unfolding fill_word
returns-then-k-lt2 c = rw (lt-leb _ _ c.if-k-lt2.true)

pub returns : goal.returns
unfolding fill_word
returns c = rw (le-leb _ _ c.if-k-lt2.false, c.word_in_block.ensures)
