-- Invariant: every run in the entry state reaches this state, and nothing is in flight. Measure: the line bytes left.
use Prim.Native.Nat.{◌-◌, ◌≤◌}
use mathlib.Core.Bool.{true}
use mathlib.Core.Path.{◌≡◌}
use Rattle.trm_run_phases.specs.Reached.{point, Turned}
use lib.ListN.{length}
use Rattle.trm_run_words.proofs.inner.words_turn.ready_turn.Given as goal

abbrev pub invariant-loop-h : goal.invariant-loop-h
invariant-loop-h l = Turned l.program l.pins l.inputs
    (point l.initial.h l.initial.regs l.initial.cache l.initial.store)
    l.initial.bytes l.initial.outs
    (point l.h l.regs l.cache l.store) l.bytes l.outs
    × (l.h.scalars.running.phase ≡ 0) × (l.initial.h.at ≤ l.h.at)
    × (l.h.at ≡ l.initial.h.at → l.h.scalars.status ≡ l.initial.h.scalars.status)
    × (l.stops ≡ true → l.bytes ≡ l.initial.bytes)

abbrev pub decreases-loop-h : goal.decreases-loop-h
decreases-loop-h l = length l.pins - l.h.at
