-- The store of an accepted image, with a record of kind 2 and without.
-- Idea: the laws of trm_image on the second record of an accepted image.
use Prim.Native.Nat.{ℕ, ◌+◌, ◌-◌, ◌/◌, ◌≤◌}
use mathlib.Core.Path.{◌≡◌, refl, sym, ap, ◌∙◌, subst}
use mathlib.Core.Logic.{◌≢◌}
use mathlib.Core.List.{List, [], ◌++◌}
use native.Mathlib.Omega.{arith}
use lib.ListN.{length, replicate, length-append, length-replicate}
use Rattle.trm_image.specs.Records.{length_at, kind_at, payload_at, words_at}
use Rattle.trm_image.specs.Meaning.{image_of}
use Rattle.trm_image.proofs.Laws.Accepted.{Head, Second, Third, accepted-head, accepted-second, accepted-third, kind-inside}
use Rattle.trm_image.proofs.Laws.Accepted.{length-words_at}
use Rattle.trm_image.proofs.Laws.Parts.{payload-words, payload-length}
use Rattle.trm_listing.specs.Listing.{first_store}
use Rattle.trm_listing.specs.Loaded.{Loadable, Loaded}

-- words and then zeros, up to 2,048
words_long : (ws : List ℕ) (n k : ℕ) → length ws ≡ n → n ≤ 2048 → k ≡ 2048 → length (ws ++ replicate (k - n) 0) ≡ 2048
words_long ws n k e h q =
    let a = length-append ws (replicate (k - n) 0) in
    let z = length-replicate {A = ℕ} (k - n) 0 in
    omega (arith, a, z, e, h, q)

first-is : (first ws : List ℕ) (n k : ℕ) → first ≡ ws → length ws ≡ n → k ≡ 2048 → ws ++ replicate (k - n) 0 ≡ first_store first
unfolding first_store
first-is first ws n k e l q = rw (e, l, q)

module _ (s st : List ℕ) (h : Loadable s st) where
  pub head : Head 2048 s
  head = accepted-head 2048 s h.accepted

  -- where the second record begins
  module _ (at : ℕ) (e : at ≡ 6 + length_at s 0) where
    pub loaded-third : kind_at s at ≢ 2 → (st' : List ℕ) → st' ≡ words_at s at 0 ++ replicate (length st - 0) 0 → Loaded s st' at
    unfolding words_at
    loaded-third z st' q =
        let t : Third 2048 s = accepted-third 2048 s h.accepted (λ y. z (ap (kind_at s) e ∙ y)) in
        record {
          store = q ∙ first-is (image_of s).first [] 0 (length st) t.first refl h.long;
          long = ap length q ∙ words_long [] 0 (length st) refl (omega arith) h.long;
          runs = rw e t.runs;
          list = rw e t.list;
        }

    module _ (k : kind_at s at ≡ 2) where
      pub second : Second 2048 s
      second = accepted-second 2048 s h.accepted (sym (ap (kind_at s) e) ∙ k) (kind-inside s (6 + length_at s 0) (sym (ap
          (kind_at s) e) ∙ k))

      pub second_fits : length_at s at / 4 ≤ 2048
      second_fits = rw e second.fits

      pub second-whole : at + 6 + length_at s at ≤ length s
      second-whole = rw e second.whole

      loaded-second : (len : ℕ) → len ≡ length_at s at → (st' : List ℕ)
          → st' ≡ words_at s (at + 6) (len / 4) ++ replicate (length st - len / 4) 0 → Loaded s st' (at + 6 + len)
      loaded-second len f st' q =
          let n : length (words_at s (at + 6) (len / 4)) ≡ len / 4 = length-words_at s (at + 6) (len / 4) in
          let small : len / 4 ≤ 2048 = subst (λ y. y / 4 ≤ 2048) (sym f) second_fits in
          record {
            store = q ∙ first-is (image_of s).first (words_at s (at + 6) (len / 4)) (len / 4) (length st) (rw (f, e)
                second.first) n h.long;
            long = ap length q ∙ words_long (words_at s (at + 6) (len / 4)) (len / 4) (length st) n small h.long;
            runs = rw (f, e) second.runs;
            list = rw (f, e) second.list;
          }

      -- as the code reads them, from the payload slice
      module _ (part : List ℕ) (p : part ≡ payload_at s at) where
        pub part-long : length part ≡ length_at s at
        part-long = ap length p ∙ payload-length s at second-whole

        pub loaded-part : (st' : List ℕ) → st' ≡ words_at part 0 (length part / 4) ++ replicate (length st - length part / 4) 0
            → Loaded s st' (at + 6 + length part)
        loaded-part st' q =
            let w = ap (λ t. words_at t 0 (length part / 4)) p ∙ payload-words s at (length part / 4) (omega (arith, part-long)) in
            loaded-second (length part) part-long st' (q ∙ ap (λ ws. ws ++ replicate (length st - length part / 4) 0) w)
