-- A word that is not refused gets its instruction.
use borrow.Author.Tests.{le-ltb}
use Rattle.trm_codec.specs.Decode.{decode_of}
use Rattle.trm_codec.proofs.Laws.Numbers.{decodes}
use Rattle.trm_codec.proofs.decoder.decode.Goals as goal

pub returns-else-word-gt-LARGEST : goal.returns-else-word-gt-LARGEST
unfolding decode_of
returns-else-word-gt-LARGEST c = decodes _ _ (rw (le-ltb 0x3FFFF _ c.if-word-gt-LARGEST.false, c.instruction.ensures))
