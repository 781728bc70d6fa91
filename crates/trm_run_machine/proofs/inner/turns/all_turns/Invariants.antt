-- Invariant: every run in the entry state reaches this state (`Turned`); if the run stops, no answer was written. Measure: the line bytes
-- left.
use mathlib.Core.Bool.{true}
use mathlib.Core.Path.{◌≡◌}
use Prim.Native.Nat.{◌-◌, ◌≤◌}
use lib.ListN.{length}
use Rattle.trm_run_phases.specs.Reached.{point, Turned}
use Rattle.trm_run_machine.proofs.inner.turns.all_turns.Given as goal

abbrev pub invariant-loop-g : goal.invariant-loop-g
invariant-loop-g l = Turned l.program l.pins l.inputs
    (point l.initial.g l.initial.regs l.initial.cache l.initial.store)
    l.initial.bytes l.initial.outs (point l.g l.regs
    l.cache l.store) l.bytes l.outs × (l.initial.g.at ≤ l.g.at)
    × (l.stops ≡ true → l.bytes ≡ l.initial.bytes)

abbrev pub decreases-loop-g : goal.decreases-loop-g
decreases-loop-g l = length l.pins - l.g.at
