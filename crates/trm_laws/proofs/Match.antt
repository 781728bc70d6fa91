-- A `match` on a number with the arms n, n + 1, ..: in the default arm the number is above all of them.
-- By induction on the number of arms; the match's `rest` has one inequality per arm.
use mathlib.Core.Path.{◌≡◌}
use Prim.Native.Nat.{ℕ, zero, suc, ◌+◌, ◌≤◌}
use native.Mathlib.Omega.{arith}

-- k is none of the m numbers n, n + 1, ..
abbrev pub NoneFrom : ℕ → ℕ → ℕ → Type 0
NoneFrom n zero k = Unit {0}
NoneFrom n (suc m) k = NoneFrom n m k × (k ≡ m + n → ⊥)

pub past : (n m k : ℕ) → n ≤ k → NoneFrom n m k → m + n ≤ k
past n zero k h r = omega arith
past n (suc m) k h r = let p = past n m k h r.0 in let q = r.1 in omega arith
