-- Invariant: `Along` from the first run to here, and clocks of a run are left only if the buffer is full. Measure: the image bytes left.
use mathlib.Core.Logic.{◌≢◌}
use Prim.Native.Nat.{◌+◌, ◌-◌, ◌<◌}
use lib.ListN.{length}
use Rattle.trm_list_rows.specs.Onward.{lent_of}
use Rattle.trm_listing.specs.Rest.{Along}
use Rattle.trm_listing.proofs.inner.runs.list_runs.Given as goal

abbrev pub invariant-loop-p : goal.invariant-loop-p
invariant-loop-p l =
    Along l.image l.program l.initial.p (lent_of l.initial.p.listed l.initial.regs
    l.initial.cache l.initial.store) l.initial.buf l.p
    (lent_of l.p.listed l.regs l.cache l.store) l.buf
    × (l.p.listed.left ≢ 0 → length l.initial.buf < l.p.listed.len + 32)

abbrev pub decreases-loop-p : goal.decreases-loop-p
decreases-loop-p l = length l.image - l.p.at
