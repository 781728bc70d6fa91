-- Invariant: the digits from place i on are written, and rest is the number without them. Measure: i.
use mathlib.Core.Path.{◌≡◌}
use mathlib.Core.List.{◌++◌}
use Prim.Native.Nat.{◌≤◌}
use lib.ListN.{length, drop}
use Rattle.trm_list_text.specs.Numbers.{digits}
use Rattle.trm_list_text.proofs.inner.number_text.spell_decimal.Given as goal

abbrev pub invariant-loop-i : goal.invariant-loop-i
invariant-loop-i l = record {
  within : l.i ≤ length l.out;
  spelt : digits 10 l.i l.rest ++ drop l.i l.out ≡ digits 10 (length l.initial.out) l.n;
}

abbrev pub decreases-loop-i : goal.decreases-loop-i
decreases-loop-i l = l.i
