-- Record by record: where the next one begins, and the first fault from there on.
-- Idea: the records from an offset on are the one there and those from its end on.
use Prim.Native.Nat.{ℕ, zero, suc, ◌+◌, ◌-◌, ◌≤◌, ◌<◌}
use mathlib.Core.Path.{◌≡◌, refl, sym, ap, ◌∙◌}
use mathlib.Core.Bool.{true, false}
use mathlib.Core.List.{List, [], ◌∷◌}
use native.Mathlib.Omega.{arith}
use lib.ListN.{length, drop, drop_of_length-le}
use lib.Seq.{drop-cons, drop-drop, get_or-drop}
use lib.Dec.{eqb, ltb}
use borrow.Author.Tests.{ltb-false}
use Rattle.trm_image.specs.Records.{le4, length_at, kind_at, begins, records_of}
use Rattle.trm_image.specs.Refused.{cut_short, fault_at, first_fault, image_fault}
use Rattle.trm_image.proofs.Laws.Clean.{clean, neither}

skips : (k at : ℕ) (s : List ℕ) → begins k at s ≡ begins 0 (at + k) (drop k s)
unfolding begins
skips zero at s = ap (λ a. begins 0 a s) (omega arith)
skips (suc k) at [] = refl
skips (suc k) at (b ∷ bs) = skips k (suc at) bs ∙ ap (λ a. begins 0 a (drop k bs)) (omega arith)

pub le4-drop : (s : List ℕ) (at : ℕ) → le4 (drop at s) 0 ≡ le4 s at
le4-drop s at =
    let z : at + 0 ≡ at = omega arith in
    rw (get_or-drop at s 0 0, get_or-drop at s 1 0, get_or-drop at s 2 0, get_or-drop at s 3 0, z)

pub next : (s : List ℕ) (at : ℕ) → at < length s
    → begins 0 at (drop at s) ≡ at ∷ begins 0 (at + 6 + length_at s at) (drop (at + 6 + length_at s at) s)
unfolding begins
next s at h =
    let e : suc at + (5 + length_at s at) ≡ at + 6 + length_at s at = omega arith in
    ap (begins 0 at) (drop-cons s at 0 h)
    ∙ ap (λ l. at ∷ begins (5 + l) (suc at) (drop (suc at) s))
    (ap (λ t. le4 t 0) (sym (drop-cons s at 0 h)) ∙ le4-drop s at)
    ∙ ap (λ t. at ∷ t)
    (skips (5 + length_at s at) (suc at) (drop (suc at) s)
    ∙ ap (begins 0 (suc at + (5 + length_at s at))) (drop-drop (5 + length_at s at) (suc at) s)
    ∙ ap (λ k. begins 0 k (drop k s)) e)

pub ended : (s : List ℕ) (at : ℕ) → length s ≤ at → begins 0 at (drop at s) ≡ []
unfolding begins
ended s at h = ap (begins 0 at) (drop_of_length-le s h)

module _ (n : ℕ) (s : List ℕ) (before at : ℕ) where
  pub fault-here : at < length s → eqb (fault_at n s before at) 0 ≡ false
      → first_fault n s before (begins 0 at (drop at s)) ≡ record { number = fault_at n s before at; at = at }
  unfolding first_fault
  fault-here h f = rw (next s at h, f)

  pub fault-later : at < length s → eqb (fault_at n s before at) 0 ≡ true
      → first_fault n s before (begins 0 at (drop at s))
      ≡ first_fault n s (kind_at s at) (begins 0 (at + 6 + length_at s at) (drop (at + 6 + length_at s at) s))
  unfolding first_fault
  fault-later h t = rw (next s at h, t)

  pub fault-none : length s ≤ at → first_fault n s before (begins 0 at (drop at s)) ≡ record { number = 0; at = 0 }
  unfolding first_fault
  fault-none h = rw (ended s at h)

-- a record that is not cut short lies inside the image
pub uncut : (s : List ℕ) (at : ℕ) → at ≤ length s → cut_short s at ≡ false → at + 6 + length_at s at ≤ length s
unfolding cut_short
uncut s at le t =
    let both = neither (ltb (length s - at) 6) (ltb (length s - (at + 6)) (length_at s at)) t in
    let a : 6 ≤ length s - at = ltb-false (length s - at) 6 both.0 in
    let b : length_at s at ≤ length s - (at + 6) = ltb-false (length s - (at + 6)) (length_at s at) both.1 in
    omega arith

-- and so does one without a fault
pub whole_record : (n : ℕ) (s : List ℕ) (before at : ℕ) → at ≤ length s → eqb (fault_at n s before at) 0 ≡ true
    → at + 6 + length_at s at ≤ length s
whole_record n s before at le t = uncut s at le (clean n s before at t).whole

-- the whole image
module _ (n : ℕ) (s : List ℕ) (small : ltb 65536 (length s) ≡ false) (some : eqb (length s) 0 ≡ false) where
  pub image-read : image_fault n s ≡ first_fault n s 0 (records_of s)
  unfolding image_fault
  image-read = rw (small, some)
