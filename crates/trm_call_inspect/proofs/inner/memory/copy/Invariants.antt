-- Invariant: the words copied so far are those of memory (`Copied`).
use Rattle.trm_call_inspect.proofs.Laws.Loops.{Copied}
use Rattle.trm_call_inspect.proofs.inner.memory.copy.Given as goal

abbrev pub invariant-loop-i : goal.invariant-loop-i
invariant-loop-i l = Copied l.cache l.store l.i l.buffer
