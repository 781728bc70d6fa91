-- A refused image is too long, or empty, or has a first fault; with an illegal store length that is the first record's.
-- Idea: by cases of the tests of the whole image; the first fault by induction on the records.
use Prim.Native.Nat.{ℕ, ◌≤◌, ◌<◌}
use mathlib.Core.Path.{◌≡◌, refl, sym, ap}
use mathlib.Core.Logic.{◌≢◌}
use mathlib.Core.Bool.{Bool, true, false, cond}
use mathlib.Core.List.{List, [], ◌∷◌, ◌++◌}
use lib.ListN.{length}
use lib.Dec.{eqb, ltb}
use borrow.Author.Tests.{ltb-true, ltb-false, eqb-true, eqb-false, ne_eqb}
use native.Mathlib.Omega.{arith}
use Rattle.trm_word.specs.Address.{store_length_ok}
use Rattle.trm_image.specs.Records.{kind_at, records_of}
use Rattle.trm_image.specs.Refused.{Refused, fault_at, first_fault, image_fault}
use Rattle.trm_image.proofs.Laws.Clean.{no_store-fault}
use Rattle.trm_image.proofs.Laws.Walk.{fault-here}
use Rattle.trm_image.specs.Claims.{last_kind, Faultless, FirstFault, Why, too_long, empty, faulty, no_store, RefusedFirst}

-- the first fault of some records, `last` being the kind before them
record FirstIn (n : ℕ) (s : List ℕ) (last : ℕ) (ats : List ℕ) (f : Refused) : Type 0 where
  before : List ℕ
  after : List ℕ
  records : ats ≡ before ++ f.at ∷ after
  faultless : Faultless n s last before
  fault : fault_at n s (last_kind s last before) f.at ≡ f.number

module _ (n : ℕ) (s : List ℕ) where
  first-later : (last at : ℕ) (more : List ℕ) (f : Refused) → fault_at n s last at ≡ 0 → FirstIn n s (kind_at s at) more f
      → FirstIn n s last (at ∷ more) f
  unfolding Faultless last_kind
  first-later last at more f z x =
      record {
        before = at ∷ x.before;
        after = x.after;
        records = ap (λ t. at ∷ t) x.records;
        faultless = (z, x.faultless);
        fault = x.fault;
      }

  first-here : (last at : ℕ) (more : List ℕ) → FirstIn n s last (at ∷ more) (record { number = fault_at n s last at; at = at })
  unfolding Faultless last_kind
  first-here last at more = record { before = []; after = more; records = refl; faultless = tt; fault = refl }

  first_in : (last : ℕ) (ats : List ℕ) → (first_fault n s last ats).number ≢ 0 → FirstIn n s last ats (first_fault n s last ats)
  unfolding first_fault
  first_in last [] h = absurd (h refl)
  first_in last (at ∷ more) h = go (eqb (fault_at n s last at) 0) refl (first_in (kind_at s at) more) h
    where
      here : Refused
      here = record { number = fault_at n s last at; at = at }

      go : (t : Bool) → eqb (fault_at n s last at) 0 ≡ t
          → ((first_fault n s (kind_at s at) more).number ≢ 0 → FirstIn n s (kind_at s at) more (first_fault n s (kind_at s at) more))
          → (cond t (first_fault n s (kind_at s at) more) here).number ≢ 0
          → FirstIn n s last (at ∷ more) (cond t (first_fault n s (kind_at s at) more) here)
      go true e later z =
          first-later last at more (first_fault n s (kind_at s at) more) (eqb-true (fault_at n s last at) 0 e) (later z)
      go false e later z = first-here last at more

  first-fault : (first_fault n s 0 (records_of s)).number ≢ 0
      → FirstFault n s (first_fault n s 0 (records_of s)).number (first_fault n s 0 (records_of s)).at
  first-fault z =
      let x = first_in 0 (records_of s) z in
      record { before = x.before; after = x.after; records = x.records; faultless = x.faultless; fault = x.fault }

  no_bytes : (t : List ℕ) → length t ≡ 0 → t ≡ []
  no_bytes [] e = refl
  no_bytes (b ∷ bs) e = absurd (omega (arith, e))

  why-faulty : length s ≤ 65536 → store_length_ok n ≡ true → (first_fault n s 0 (records_of s)).number ≢ 0
      → Why n s (first_fault n s 0 (records_of s)).number (first_fault n s 0 (records_of s)).at
  why-faulty small legal z = faulty small legal (first-fault z)

  -- with an illegal store length the first record is at fault
  why-store : length s ≤ 65536 → 0 < length s → store_length_ok n ≡ false
      → Why n s (first_fault n s 0 (records_of s)).number (first_fault n s 0 (records_of s)).at
  unfolding records_of
  why-store small some none =
      let f = no_store-fault n s 0 0 none in
      let e : first_fault n s 0 (records_of s) ≡ record { number = fault_at n s 0 0; at = 0 } =
      fault-here n s 0 0 some (ne_eqb (fault_at n s 0 0) 0 (λ z. omega (arith, z, f.0))) in
      let number = ap (λ (r : Refused). r.number) e in
      no_store small none (first-fault (λ z. omega (arith, z, number, f.0))) (omega (arith, number, f.1)) (ap (λ (r : Refused). r.at) e)

  why_record : length s ≤ 65536 → 0 < length s → (t : Bool) → store_length_ok n ≡ t → (f : Refused) → first_fault n s 0 (records_of s) ≡ f
      → f.number ≢ 0 → Why n s f.number f.at
  why_record small some true e f q z = rw q at (why-faulty small e (rw q z))
  why_record small some false e f q z = rw q at (why-store small some e)

  why-some : length s ≤ 65536 → (t : Bool) → eqb (length s) 0 ≡ t → (f : Refused)
      → cond t (record { number = 2; at = 0 }) (first_fault n s 0 (records_of s)) ≡ f → f.number ≢ 0 → Why n s f.number f.at
  why-some small true e f q z =
      empty (no_bytes s (eqb-true (length s) 0 e)) (sym (ap (λ r. r.number) q)) (sym (ap (λ r. r.at) q))
  why-some small false e f q z =
      let z0 : length s ≡ 0 → ⊥ = eqb-false (length s) 0 e in
      why_record small (omega arith) (store_length_ok n) refl f q z

  why-small : (t : Bool) → ltb 65536 (length s) ≡ t → (f : Refused)
      → cond t (record { number = 1; at = 0 }) (cond (eqb (length s) 0) (record { number = 2; at = 0 }) (first_fault n s 0 (records_of s)))
      ≡ f → f.number ≢ 0 → Why n s f.number f.at
  why-small true e f q z = too_long (ltb-true 65536 (length s) e) (sym (ap (λ r. r.number) q)) (sym (ap (λ r. r.at) q))
  why-small false e f q z = why-some (ltb-false 65536 (length s) e) (eqb (length s) 0) refl f q z

pub refused_first : RefusedFirst
unfolding image_fault
refused_first n s z = why-small n s (ltb 65536 (length s)) refl (image_fault n s) refl z
