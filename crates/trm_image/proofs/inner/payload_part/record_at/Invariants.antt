-- Invariant: a record begins at `at` if and only if one of those from `place` on does. Measure: the bytes left.
use mathlib.Core.Path.{◌≡◌}
use Prim.Native.Nat.{◌-◌}
use lib.ListN.{length, drop}
use Rattle.trm_image.specs.Records.{begins, among, record_at}
use Rattle.trm_image.proofs.inner.payload_part.record_at.Given as goal

abbrev pub invariant-loop-place : goal.invariant-loop-place
invariant-loop-place l = among l.at (begins 0 l.place (drop l.place l.image)) ≡ record_at l.image l.at

abbrev pub decreases-loop-place : goal.decreases-loop-place
decreases-loop-place l = length l.image - l.place
