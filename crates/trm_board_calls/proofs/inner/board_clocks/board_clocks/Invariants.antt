-- Invariant: the run has done so many clocks (`Running`). Measure: the clocks to come.
use Prim.Native.Nat.{◌-◌}
use lib.ListN.{length}
use Rattle.trm_run_machine.specs.Machine.{parts}
use Rattle.trm_board_calls.specs.Coded.{board_at}
use Rattle.trm_board_calls.specs.Running.{stage, Running}
use Rattle.trm_board_calls.proofs.inner.board_clocks.board_clocks.Given as goal

abbrev pub invariant-loop-g : goal.invariant-loop-g
invariant-loop-g l = Running l.program l.joined l.given l.switches
    (stage (board_at (parts l.initial.g.scalars l.initial.regs l.initial.cache)
    l.initial.g.devices l.initial.store) 0 0 l.initial.levels l.initial.bytes l.initial.outs)
    (stage (board_at (parts l.g.scalars l.regs l.cache) l.g.devices l.store) l.g.finished l.g.at l.levels l.bytes
    l.outs)

abbrev pub decreases-loop-g : goal.decreases-loop-g
decreases-loop-g l = length l.given - l.g.at
