-- The part of an accepted image after which only runs follow; the listing reads it run by run. Contracts of trm_listing cite it.
-- Paper: "Kind 1, first and once .. Kind 2, second, at most once .. Kind 3, any number".
use Rattle.std.specs.Prelude.{ℕ, ◌≤◌, ◌≡◌, List, length, drop}
use Rattle.trm_image.specs.Records.{kind_at, begins}
use Rattle.trm_image.specs.Refused.{first_fault}

-- From offset `at` on no record of the image s is at fault, n being the store's length, and all are runs: `before` is the kind of the
-- record before `at`, and if that is the program, kind 1, the next is not of kind 2.
pub record Runs (n : ℕ) (s : List ℕ) (at : ℕ) : Type 0 where
  pub before : ℕ
  pub some : before ≡ 0 → ⊥
  pub later : before ≡ 1 → kind_at s at ≡ 2 → ⊥
  pub free : (first_fault n s before (begins 0 at (drop at s))).number ≡ 0
  pub inside : at ≤ length s
