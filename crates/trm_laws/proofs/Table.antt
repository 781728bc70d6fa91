-- Tables whose rows have a computed and an expected list of numbers: one Bool test of the whole table proves all rows equal.
-- By induction on the rows. `Holds` is the table's claim: any property of a list of rows that the equation of one more row extends.
use mathlib.Core.Path.{◌≡◌, refl, ap₂}
use mathlib.Core.Bool.{Bool, true, false, false≢true, ◌&&◌, and-eq-true_iff}
use mathlib.Core.List.{List, [], ◌∷◌}
use Prim.Native.Nat.{ℕ}
use lib.Dec.{eqb}
use borrow.Author.Tests.{eqb-true}

unfoldable pub same : List ℕ → List ℕ → Bool
same [] [] = true
same [] (y ∷ ys) = false
same (x ∷ xs) [] = false
same (x ∷ xs) (y ∷ ys) = eqb x y && same xs ys

pub same_true : (xs ys : List ℕ) → same xs ys ≡ true → xs ≡ ys
unfolding same
same_true [] [] t = refl
same_true [] (y ∷ ys) t = absurd (false≢true t)
same_true (x ∷ xs) [] t = absurd (false≢true t)
same_true (x ∷ xs) (y ∷ ys) t =
    let p = (and-eq-true_iff (eqb x y) (same xs ys)).0 t in ap₂ ◌∷◌ (eqb-true x y p.0) (same_true xs ys p.1)

module _ {R : Type 0} (computed expected : R → List ℕ) where
  unfoldable pub test : List R → Bool
  test [] = true
  test (r ∷ rs) = same (computed r) (expected r) && test rs

  pub test_true : (Holds : List R → Type 0) → Holds [] → ((r : R) (rs : List R) → computed r ≡ expected r → Holds rs → Holds (r ∷ rs))
      → (rs : List R) → test rs ≡ true → Holds rs
  unfolding test
  test_true Holds none more [] t = none
  test_true Holds none more (r ∷ rs) t =
      let p = (and-eq-true_iff (same (computed r) (expected r)) (test rs)).0 t in
      more r rs (same_true (computed r) (expected r) p.0) (test_true Holds none more rs p.1)
