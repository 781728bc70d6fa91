-- Invariant: the lines below i are emptied.
use mathlib.Core.Path.{◌≡◌}
use Rattle.trm_cache.specs.Cache.{empty_to}
use Rattle.trm_cache.proofs.record.Cache.empty_all.Given as goal

abbrev pub invariant-loop-i : goal.invariant-loop-i
invariant-loop-i l = l.self ≡ empty_to l.i l.initial.self
