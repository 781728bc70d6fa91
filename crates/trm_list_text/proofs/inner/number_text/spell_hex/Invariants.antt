-- Invariant: the digits from place i on are written, and rest is the number without them.
use mathlib.Core.Path.{◌≡◌}
use mathlib.Core.List.{◌++◌}
use lib.ListN.{length, drop}
use Rattle.trm_list_text.specs.Numbers.{digits}
use Rattle.trm_list_text.proofs.inner.number_text.spell_hex.Given as goal

abbrev pub invariant-loop-i : goal.invariant-loop-i
invariant-loop-i l = digits 16 l.i l.rest ++ drop l.i l.out ≡ digits 16 (length l.initial.out) l.n
