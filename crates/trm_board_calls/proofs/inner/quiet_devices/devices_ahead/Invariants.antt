-- Invariant: the devices have followed the core so far (`Coming`).
use Prim.Native.Nat.{ℕ}
use mathlib.Core.List.{List}
use Rattle.trm_core.specs.Record.{Lent}
use Rattle.trm_board_calls.specs.Running.{Stage, Coming}
use Rattle.trm_board_calls.proofs.inner.quiet_devices.devices_ahead.Given as goal

abbrev pub invariant-loop-i : goal.invariant-loop-i
invariant-loop-i l = (p ws : List ℕ) (q₀ : Stage) (y : Lent)
    (total : ℕ)
    → Coming p l.joined l.given ws q₀ y total l.to l.initial.d l.initial.count l.initial.i l.initial.levels l.initial.bytes l.initial.outs
    → Coming p l.joined l.given ws q₀ y total l.to l.d l.count l.i l.levels l.bytes l.outs
