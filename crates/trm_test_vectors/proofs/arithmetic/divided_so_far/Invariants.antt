-- Invariant: after k steps, at most 32, the registers are `divider_at` k.
use Rattle.std.proofs.Common.{◌≡◌, ◌≤◌}
use Rattle.trm_alu.specs.Divide.{divider_at}
use Rattle.trm_test_vectors.proofs.arithmetic.divided_so_far.Given as goal

abbrev pub invariant-loop-k : goal.invariant-loop-k
invariant-loop-k l = l._k ≤ 32 → l.d ≡ divider_at l.a l.b l._k
