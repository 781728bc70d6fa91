-- Invariant: the first fault from `at` on is the image's first fault. Measure: the bytes left.
use mathlib.Core.Path.{◌≡◌}
use Prim.Native.Nat.{◌-◌, ◌≤◌}
use lib.ListN.{length, drop}
use Rattle.trm_image.specs.Records.{begins, records_of}
use Rattle.trm_image.specs.Refused.{first_fault}
use Rattle.trm_image.proofs.reader.check.Given as goal

abbrev pub invariant-loop-at : goal.invariant-loop-at
invariant-loop-at l = (l.at ≤ length l.image) × (first_fault l.words l.image l.before (begins 0 l.at
    (drop l.at l.image)) ≡ first_fault l.words l.image 0 (records_of l.image))

abbrev pub decreases-loop-at : goal.decreases-loop-at
decreases-loop-at l = length l.image - l.at
