-- Invariant: the remaining words fit if and only if all do.
use mathlib.Core.Path.{◌≡◌}
use Prim.Native.Nat.{◌+◌, ◌*◌, ◌-◌}
use Rattle.trm_core.specs.Refusals.{all_at_most}
use Rattle.trm_image.specs.Records.{words_at}
use Rattle.trm_image.proofs.inner.image_rows.words_fit.Given as goal

abbrev pub invariant-loop-i : goal.invariant-loop-i
invariant-loop-i l = all_at_most 0x3FFFF (words_at l.s (l.at + l.i * 4) (l.words - l.i)) ≡ all_at_most 0x3FFFF (words_at l.s l.at l.words)
