-- Text appended to a buffer. Contracts of `inner` use this; no claim rests on it.
-- Paper: nothing.
use Rattle.std.specs.Prelude.{ℕ, ◌+◌, ◌≡◌, List, ◌++◌, length, take}

-- the buffer was `old`, filled up to `at`; now it is `new`, filled up to `end`, and ys follows what was there
pub record Wrote (old : List ℕ) (at : ℕ) (ys new : List ℕ) (end : ℕ) : Type 0 where
  pub text : take end new ≡ take at old ++ ys
  pub next : end ≡ at + length ys
  pub long : length new ≡ length old
