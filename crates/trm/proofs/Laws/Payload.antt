-- A payload given by number, start and length is a part of its image.
-- Idea: by cases of whether it is refused; cutting a list to n and to the length of that cut are the same.
use Prim.Native.Nat.{ℕ, zero, suc, ◌+◌}
use mathlib.Core.Path.{◌≡◌, refl, sym, ap, ◌∙◌}
use mathlib.Core.Bool.{true, false}
use mathlib.Core.List.{List, [], ◌∷◌}
use lib.ListN.{length, take, drop}
use lib.Dec.{eqb}
use borrow.Author.Tests.{eqb-true}
use Rattle.trm_image.specs.Records.{length_at, payload_at}
use Rattle.trm_image.specs.Refused.{payload_fault}
use Rattle.trm_image.proofs.Laws.Places.{gives_none, gives_part}
use Rattle.trm.specs.Promises.{PayloadPart}

take_own : (n : ℕ) (xs : List ℕ) → take (length (take n xs)) xs ≡ take n xs
take_own zero xs = refl
take_own (suc n) [] = refl
take_own (suc n) (x ∷ xs) = ap (λ (ys : List ℕ). x ∷ ys) (take_own n xs)

own-part : (s : List ℕ) (at : ℕ) → take (length (payload_at s at)) (drop (at + 6) s) ≡ payload_at s at
unfolding payload_at
own-part s at = take_own (length_at s at) (drop (at + 6) s)

module _ (s : List ℕ) (at : ℕ) where
  pub payload-refused : (number : ℕ) → number ≡ payload_fault s at → eqb number 0 ≡ false
      → PayloadPart s at (record { number = number; start = 0; length = 0 })
  payload-refused number e z =
      let none = ap (λ k. eqb k 0) (sym e) ∙ z in
      record { number = e; start = rw none; bytes = ap length (gives_none s at none); part = gives_none s at none }

  pub payload-bytes : (bytes : ℕ) → eqb (payload_fault s at) 0 ≡ true → bytes ≡ length (payload_at s at)
      → PayloadPart s at (record { number = 0; start = at + 6; length = bytes })
  payload-bytes bytes z l =
      record {
        number = sym (eqb-true (payload_fault s at) 0 z);
        start = rw z;
        bytes = l ∙ ap length (gives_part s at z);
        part = ap (λ k. take k (drop (at + 6) s)) l ∙ own-part s at ∙ gives_part s at z;
      }
