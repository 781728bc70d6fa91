-- Whether a record begins at an offset, found by going from record to record; and what holds of a payload that is not refused.
-- Idea: the records from an offset on are the one there and those from its end on.
use Prim.Native.Nat.{ℕ, zero, suc, ◌+◌, ◌≤◌, ◌<◌}
use mathlib.Core.Path.{◌≡◌, refl, sym, ◌∙◌}
use mathlib.Core.Bool.{Bool, true, false, not}
use mathlib.Core.List.{List, []}
use native.Mathlib.Omega.{arith}
use native.Mathlib.Decide.{dec_lt}
use lib.ListN.{length, drop}
use lib.Dec.{eqb, ltb}
use borrow.Author.Tests.{eqb-true, eq-eqb, ne_eqb, not-false}
use Rattle.trm_laws.proofs.Tests.{clash}
use Rattle.trm_image.specs.Records.{length_at, payload_at, begins, records_of, among, record_at}
use Rattle.trm_image.specs.Refused.{cut_short, payload_fault}
use Rattle.trm_image.specs.Promises.{payload_gives}
use Rattle.trm_image.proofs.Laws.Walk.{next, ended, uncut}
use Rattle.trm_image.proofs.Laws.Clean.{passed}

module _ (s : List ℕ) (at : ℕ) where
  pub found_here : (place : ℕ) → place < length s → at ≡ place → among at (begins 0 place (drop place s)) ≡ true
  unfolding among
  found_here place h e = rw (next s place h, eq-eqb at place e)

  pub found-later : (place : ℕ) → place < length s → (at ≡ place → ⊥)
      → among at (begins 0 place (drop place s))
      ≡ among at (begins 0 (place + 6 + length_at s place) (drop (place + 6 + length_at s place) s))
  unfolding among
  found-later place h z = rw (next s place h, ne_eqb at place z)

  pub found_none : (place : ℕ) → length s ≤ place → among at (begins 0 place (drop place s)) ≡ false
  unfolding among
  found_none place h = rw (ended s place h)

  found_inside : (fuel place : ℕ) → length s ≤ place + fuel → among at (begins 0 place (drop place s)) ≡ true → at < length s
  found_inside zero place le t = clash (sym (found_none place (omega arith)) ∙ t)
  found_inside (suc fuel) place le t =
      go (dec_lt place (length s)) (found_inside fuel (place + 6 + length_at s place) (omega arith))
    where
      split : place < length s → (among at (begins 0 (place + 6 + length_at s place) (drop (place + 6 + length_at s place) s)) ≡ true
          → at < length s) → (t : Bool) → eqb at place ≡ t → at < length s
      split h more true e = omega (arith, h, eqb-true at place e)
      split h more false e = more (sym (found-later place h (λ q. clash (sym e ∙ eq-eqb at place q))) ∙ t)

      go : Dec (place < length s) → (among at (begins 0 (place + 6 + length_at s place) (drop (place + 6 + length_at s place) s)) ≡ true
          → at < length s) → at < length s
      go (no ge) more = clash (sym (found_none place (omega arith)) ∙ t)
      go (yes h) more = split h more (eqb at place) refl

  pub record_inside : record_at s at ≡ true → at < length s
  unfolding record_at records_of
  record_inside t = found_inside (length s) 0 (omega arith) t

  -- a payload that is not refused belongs to a whole record
  pub payload-whole : eqb (payload_fault s at) 0 ≡ true → at + 6 + length_at s at ≤ length s
  unfolding payload_fault
  payload-whole t =
      let a = passed (ltb 65536 (length s)) 1 _ refl t in
      let b = passed (not (record_at s at)) 2 _ refl a.1 in
      let c = passed (cut_short s at) 1 _ refl b.1 in
      let h = record_inside (not-false (record_at s at) b.0) in
      uncut s at (omega arith) c.0

  -- what the call returns
  pub gives_none : eqb (payload_fault s at) 0 ≡ false → [] ≡ payload_gives s at
  unfolding payload_gives
  gives_none e = rw e

  pub gives_part : eqb (payload_fault s at) 0 ≡ true → payload_at s at ≡ payload_gives s at
  unfolding payload_gives
  gives_part e = rw e
