-- The clock history of one more input, and of a list of inputs in two parts: for the loop of a run.
-- By induction on the inputs; the history of k + 1 inputs is that of k inputs and one clock from its last state.
use Prim.Native.Nat.{ℕ, zero, suc, ◌+◌, ◌<◌}
use mathlib.Core.Path.{◌≡◌, refl, ap}
use mathlib.Core.List.{List, [], ◌∷◌, ◌++◌}
use lib.ListN.{length, get_or, take}
use native.Mathlib.Omega.{arith}
use native.Mathlib.Nat.{le_of_suc-le-suc}
use Rattle.trm_reference.specs.Access.{Answer}
use Rattle.trm_reference.specs.Trace.{Pins, pins_of, After, clocks, end_of, outs_of, finished_in}

module _ {S I O : Type 0} (step : S → I → After S O) where
  pub clocks-append : (x : S) (is js : List I) → clocks step x (is ++ js) ≡ clocks step x is ++ clocks step (end_of x (clocks step x is)) js
  unfolding clocks end_of
  clocks-append x [] js = refl
  clocks-append x (i ∷ is) js = ap (λ ts. step x i ∷ ts) (clocks-append (step x i).state is js)

  -- d is the default of `get_or`, which is not reached
  pub clocks-more : (x : S) (is : List I) (k : ℕ) (d : I) → k < length is
      → clocks step x (take (suc k) is) ≡ clocks step x (take k is) ++ step (end_of x (clocks step x (take k is))) (get_or is k d) ∷ []
  unfolding clocks end_of
  clocks-more x [] k d h = absurd (omega arith)
  clocks-more x (i ∷ is) zero d h = refl
  clocks-more x (i ∷ is) (suc k) d h =
      ap (λ ts. step x i ∷ ts) (clocks-more (step x i).state is k d (le_of_suc-le-suc h))

  pub clocks-length : (x : S) (is : List I) → length (clocks step x is) ≡ length is
  unfolding clocks
  clocks-length x [] = refl
  clocks-length x (i ∷ is) = ap suc (clocks-length (step x i).state is)

module _ {S O : Type 0} where
  pub end_of-more : (x : S) (ts : List (After S O)) (t : After S O) → end_of x (ts ++ t ∷ []) ≡ t.state
  unfolding end_of
  end_of-more x [] t = refl
  end_of-more x (u ∷ ts) t = end_of-more u.state ts t

  pub end_of-append : (x : S) (ts us : List (After S O)) → end_of x (ts ++ us) ≡ end_of (end_of x ts) us
  unfolding end_of
  end_of-append x [] us = refl
  end_of-append x (t ∷ ts) us = end_of-append t.state ts us

  pub outs-more : (ts : List (After S O)) (t : After S O) → outs_of (ts ++ t ∷ []) ≡ outs_of ts ++ t.out ∷ []
  unfolding outs_of
  outs-more [] t = refl
  outs-more (u ∷ ts) t = ap (λ os. u.out ∷ os) (outs-more ts t)

pub finished-more : (as' : List Answer) (a : Answer) → finished_in (as' ++ a ∷ []) ≡ finished_in as' + a.done
unfolding finished_in
finished-more [] a = omega arith
finished-more (b ∷ as') a = rw (finished-more as' a) (omega arith)

-- the pins of a run: their number, the first k of them, and those of clock k
pub pins-length : (ls is : List ℕ) → length ls ≡ length is → length (pins_of ls is) ≡ length ls
unfolding pins_of
pins-length [] is e = refl
pins-length (l ∷ ls) [] e = absurd (omega arith)
pins-length (l ∷ ls) (i ∷ is) e = ap suc (pins-length ls is (omega arith))

pub pins-take : (k : ℕ) (ls is : List ℕ) → take k (pins_of ls is) ≡ pins_of (take k ls) (take k is)
unfolding pins_of
pins-take zero ls is = refl
pins-take (suc k) [] is = refl
pins-take (suc k) (l ∷ ls) [] = refl
pins-take (suc k) (l ∷ ls) (i ∷ is) = ap (λ ps. record { line_byte = l; input = i } ∷ ps) (pins-take k ls is)

pub pins-at : (ls is : List ℕ) (k : ℕ) (d : Pins) → k < length ls → k < length is
    → get_or (pins_of ls is) k d ≡ record { line_byte = get_or ls k 0; input = get_or is k 0 }
unfolding pins_of
pins-at [] is k d h g = absurd (omega arith)
pins-at (l ∷ ls) [] k d h g = absurd (omega arith)
pins-at (l ∷ ls) (i ∷ is) zero d h g = refl
pins-at (l ∷ ls) (i ∷ is) (suc k) d h g = pins-at ls is k d (le_of_suc-le-suc h) (le_of_suc-le-suc g)
