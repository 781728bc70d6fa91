-- An accepted image: the program's record, the record of first data words if there is one, and runs from there on.
-- Idea: no record is at fault, so the kinds come in order.
use Prim.Native.Nat.{ℕ, zero, suc, ◌+◌, ◌/◌, ◌%◌, ◌≤◌, ◌<◌}
use mathlib.Core.Path.{◌≡◌, refl, ap, ◌∙◌}
use mathlib.Core.Bool.{Bool, true, false, cond}
use mathlib.Core.List.{List, [], ◌∷◌, append-nil}
use native.Mathlib.Omega.{arith}
use native.Mathlib.Decide.{dec_lt, ℕ_discrete}
use lib.ListN.{length, drop, get_or-eq_default}
use lib.Dec.{eqb, ltb}
use borrow.Author.Tests.{ltb-false, eqb-false, le-leb}
use Rattle.trm_core.specs.Refusals.{program_ok}
use Rattle.trm_word.specs.Address.{store_length_ok}
use Rattle.trm_laws.proofs.Tests.{◌&t◌}
use Rattle.trm_image.specs.Records.{length_at, kind_at, words_at, begins, records_of}
use Rattle.trm_image.specs.Refused.{Refused, first_fault, image_fault}
use Rattle.trm_image.specs.Meaning.{payload_words, words_in, runs_in, image_of}
use Rattle.trm_image.specs.Runs.{Runs}
use Rattle.trm_image.proofs.Laws.Walk.{next}
use Rattle.trm_image.proofs.Laws.Clean.{Clean, Order, is-first, is-second, is-run, ordered}
use Rattle.trm_image.proofs.Laws.Clean.{FirstPart, SecondPart, first_part, second-part}
use Rattle.trm_image.proofs.Laws.Runs.{later-free, here-clean, here-whole, runs-no_words}
pub use Rattle.trm_image.proofs.Laws.Runs.{Next, runs-next, runs-end}

-- the tests of the image as a whole, passed
record Passed (n : ℕ) (s : List ℕ) : Type 0 where
  some : 0 < length s
  small : length s ≤ 65536
  free : (first_fault n s 0 (begins 0 0 (drop 0 s))).number ≡ 0

not-met : (t : Bool) (a b : Refused) → eqb a.number 0 ≡ false → (cond t a b).number ≡ 0 → (t ≡ false) × (b.number ≡ 0)
not-met true a b z e = absurd (eqb-false a.number 0 z e)
not-met false a b z e = (refl, e)

image-passed : (n : ℕ) (s : List ℕ) → (image_fault n s).number ≡ 0 → Passed n s
unfolding image_fault records_of
image-passed n s e =
    let a = not-met (ltb 65536 (length s)) (record { number = 1; at = 0 }) _ refl e in
    let b = not-met (eqb (length s) 0) (record { number = 2; at = 0 }) _ refl a.1 in
    let z : length s ≡ 0 → ⊥ = eqb-false (length s) 0 b.0 in
    record {
      some = omega arith;
      small = ltb-false 65536 (length s) a.0;
      free = b.1;
    }

pub length-words_at : (s : List ℕ) (at k : ℕ) → length (words_at s at k) ≡ k
unfolding words_at
length-words_at s at zero = refl
length-words_at s at (suc k) = ap suc (length-words_at s (at + 4) k)

-- a kind read past the end is 0
pub kind-inside : (s : List ℕ) (at : ℕ) → kind_at s at ≡ 2 → at < length s
kind-inside s at k = go (dec_lt at (length s))
  where
    go : Dec (at < length s) → at < length s
    go (yes h) = h
    go (no ge) =
        let x = get_or-eq_default s 0 {n = at + 4} (omega arith) in
        let y = get_or-eq_default s 0 {n = at + 4 + 1} (omega arith) in
        absurd (omega (arith, k, x, y))

pub record Head (n : ℕ) (s : List ℕ) : Type 0 where
  pub some : 0 < length s
  pub small : length s ≤ 65536
  pub whole : 6 + length_at s 0 ≤ length s
  pub kind : kind_at s 0 ≡ 1
  pub program : program_ok (payload_words s 0) ≡ true
  pub least : 4 ≤ length_at s 0
  pub long : length_at s 0 ≤ 16384
  pub fours : length_at s 0 % 4 ≡ 0
  pub is : (image_of s).program ≡ payload_words s 0
  pub store : store_length_ok n ≡ true

pub record Second (n : ℕ) (s : List ℕ) : Type 0 where
  pub whole : 6 + length_at s 0 + 6 + length_at s (6 + length_at s 0) ≤ length s
  pub first : (image_of s).first ≡ payload_words s (6 + length_at s 0)
  pub fits : length_at s (6 + length_at s 0) / 4 ≤ n
  pub fours : length_at s (6 + length_at s 0) % 4 ≡ 0
  pub runs : Runs n s (6 + length_at s 0 + 6 + length_at s (6 + length_at s 0))
  pub list : (image_of s).runs
      ≡ runs_in s (begins 0 (6 + length_at s 0 + 6 + length_at s (6 + length_at s 0))
      (drop (6 + length_at s 0 + 6 + length_at s (6 + length_at s 0)) s))

pub record Third (n : ℕ) (s : List ℕ) : Type 0 where
  pub first : (image_of s).first ≡ []
  pub runs : Runs n s (6 + length_at s 0)
  pub list : (image_of s).runs ≡ runs_in s (begins 0 (6 + length_at s 0) (drop (6 + length_at s 0) s))

-- the program's record
module _ (n : ℕ) (s : List ℕ) (p : Passed n s) where
  head-clean : Clean n s 0 0
  head-clean = here-clean n s 0 0 p.some p.free

  head-whole : 6 + length_at s 0 ≤ length s
  head-whole = here-whole n s 0 0 p.some p.free

  head-free : (first_fault n s (kind_at s 0) (begins 0 (6 + length_at s 0) (drop (6 + length_at s 0) s))).number ≡ 0
  head-free = later-free n s 0 0 p.some p.free

  head-kind : kind_at s 0 ≡ 1
  head-kind = go (ordered 0 (kind_at s 0) head-clean.order)
    where
      go : Order 0 (kind_at s 0) → kind_at s 0 ≡ 1
      go (is-first k z) = k
      go (is-second k o) = absurd (omega (arith, o))
      go (is-run k z) = absurd (z refl)

  head-part : FirstPart s 0
  head-part = first_part n s 0 0 head-clean head-kind

  head-places : records_of s ≡ 0 ∷ begins 0 (6 + length_at s 0) (drop (6 + length_at s 0) s)
  unfolding records_of
  head-places = next s 0 p.some

  head-program : program_ok (payload_words s 0) ≡ true
  unfolding program_ok
  head-program =
      let l = length-words_at s (0 + 6) (length_at s 0 / 4) in
      le-leb 1 (length (payload_words s 0)) (omega (arith, l, head-part.some))
      &t le-leb (length (payload_words s 0)) 4096 (omega (arith, l, head-part.long))
      &t head-part.words

  -- runs after it
  third : (kind_at s (6 + length_at s 0) ≡ 2 → ⊥) → Runs n s (6 + length_at s 0)
  third z =
      record {
        before = kind_at s 0;
        some = λ e. omega (arith, e, head-kind);
        later = λ e. z;
        free = head-free;
        inside = head-whole;
      }

  third-image : (kind_at s (6 + length_at s 0) ≡ 2 → ⊥) → Third n s
  unfolding image_of words_in runs_in
  third-image z =
      let none = runs-no_words n s 2 refl (length s) (6 + length_at s 0) (omega arith) (third z) in
      record {
        first = rw (head-places, head-kind, none);
        runs = third z;
        list = rw (head-places, head-kind);
      }

-- first data words after it, at offset a
module _ (n : ℕ) (s : List ℕ) (p : Passed n s) (a : ℕ) (is : a ≡ 6 + length_at s 0) (k : kind_at s a ≡ 2) where
  a-free : (first_fault n s (kind_at s 0) (begins 0 a (drop a s))).number ≡ 0
  a-free = rw is (head-free n s p)

  a-part : SecondPart n s a
  a-part = second-part n s (kind_at s 0) a (here-clean n s (kind_at s 0) a (kind-inside s a k) a-free) k

  a-whole : a + 6 + length_at s a ≤ length s
  a-whole = here-whole n s (kind_at s 0) a (kind-inside s a k) a-free

  a-runs : Runs n s (a + 6 + length_at s a)
  a-runs =
      record {
        before = kind_at s a;
        some = λ e. omega (arith, e, k);
        later = λ e. absurd (omega (arith, e, k));
        free = later-free n s (kind_at s 0) a (kind-inside s a k) a-free;
        inside = a-whole;
      }

  a-places : records_of s ≡ 0 ∷ a ∷ begins 0 (a + 6 + length_at s a) (drop (a + 6 + length_at s a) s)
  a-places = head-places n s p ∙ ap (λ t. 0 ∷ t) (rw (← is) (next s a (kind-inside s a k)))

  a_first : (image_of s).first ≡ payload_words s a
  unfolding image_of words_in
  a_first =
      let none = runs-no_words n s 2 refl (length s) (a + 6 + length_at s a) (omega arith) a-runs in
      rw (a-places, head-kind n s p, k, none) (append-nil (payload_words s a))

  a_program : (image_of s).program ≡ payload_words s 0
  unfolding image_of words_in
  a_program =
      let none = runs-no_words n s 1 refl (length s) (a + 6 + length_at s a) (omega arith) a-runs in
      rw (a-places, head-kind n s p, k, none) (append-nil (payload_words s 0))

  a-list : (image_of s).runs ≡ runs_in s (begins 0 (a + 6 + length_at s a) (drop (a + 6 + length_at s a) s))
  unfolding image_of runs_in
  a-list = rw (a-places, head-kind n s p, k)

pub accepted-second : (n : ℕ) (s : List ℕ) → (image_fault n s).number ≡ 0 → kind_at s (6 + length_at s 0) ≡ 2
    → 6 + length_at s 0 < length s → Second n s
accepted-second n s e k h =
    let p = image-passed n s e in
    let a = 6 + length_at s 0 in
    record {
      whole = a-whole n s p a refl k;
      first = a_first n s p a refl k;
      fits = (a-part n s p a refl k).fits;
      fours = (a-part n s p a refl k).fours;
      runs = a-runs n s p a refl k;
      list = a-list n s p a refl k;
    }

pub accepted-third : (n : ℕ) (s : List ℕ) → (image_fault n s).number ≡ 0 → (kind_at s (6 + length_at s 0) ≡ 2 → ⊥) → Third n s
accepted-third n s e z = third-image n s (image-passed n s e) z

third-program : (n : ℕ) (s : List ℕ) (p : Passed n s) → Runs n s (6 + length_at s 0) → (image_of s).program ≡ payload_words s 0
unfolding image_of words_in
third-program n s p r =
    let none = runs-no_words n s 1 refl (length s) (6 + length_at s 0) (omega arith) r in
    rw (head-places n s p, head-kind n s p, none) (append-nil (payload_words s 0))

pub accepted-head : (n : ℕ) (s : List ℕ) → (image_fault n s).number ≡ 0 → Head n s
accepted-head n s e =
    let p = image-passed n s e in
    let q = head-part n s p in
    record {
      some = p.some;
      small = p.small;
      whole = head-whole n s p;
      kind = head-kind n s p;
      program = head-program n s p;
      least = q.some;
      long = q.long;
      fours = q.fours;
      is = go p (ℕ_discrete (kind_at s (6 + length_at s 0)) 2);
      store = (head-clean n s p).store;
    }
  where
    go : Passed n s → Dec (kind_at s (6 + length_at s 0) ≡ 2) → (image_of s).program ≡ payload_words s 0
    go p (yes k) = a_program n s p (6 + length_at s 0) refl k
    go p (no z) = third-program n s p (third n s p z)
