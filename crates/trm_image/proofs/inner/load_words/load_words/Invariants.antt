-- Invariant: the first i words of the array are the first i of the image.
use mathlib.Core.Path.{◌≡◌}
use lib.ListN.{take}
use Rattle.trm_image.specs.Records.{words_at}
use Rattle.trm_image.proofs.inner.load_words.load_words.Given as goal

abbrev pub invariant-loop-i : goal.invariant-loop-i
invariant-loop-i l = take l.i l.word-items ≡ words_at l.image l.at l.i
