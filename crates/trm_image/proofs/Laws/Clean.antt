-- A record without a fault: every row that it passes, the kinds possible there, and what each kind requires.
-- Idea: if a chain of rows gives 0, no row's test holds.
use Prim.Native.Nat.{ℕ, ◌+◌, ◌/◌, ◌%◌, ◌≤◌}
use mathlib.Core.Path.{◌≡◌, refl, sym, ◌∙◌}
use mathlib.Core.Bool.{Bool, true, false, cond, not, ◌||◌}
use mathlib.Core.List.{List}
use native.Mathlib.Omega.{arith}
use lib.Dec.{eqb, ltb}
use borrow.Author.Tests.{ltb-false, eqb-true, eqb-false, not-true, not-false}
use Rattle.trm_word.specs.Address.{store_length_ok}
use Rattle.trm_core.specs.Refusals.{all_at_most}
use Rattle.trm_laws.proofs.Tests.{clash}
use Rattle.trm_image.specs.Records.{length_at, kind_at, words_at}
use Rattle.trm_image.specs.Refused.{cut_short, length_wrong, count_at, line_byte_at, count_wrong, in_order, word_wrong, line_byte_wrong}
use Rattle.trm_image.specs.Refused.{fault_at}

-- a row whose test fails leaves the rows below it
pub passed : (t : Bool) (row x : ℕ) → eqb row 0 ≡ false → eqb (cond t row x) 0 ≡ true → (t ≡ false) × (eqb x 0 ≡ true)
passed true row x z e = clash (sym z ∙ e)
passed false row x z e = (refl, e)

pub neither : (a b : Bool) → a || b ≡ false → (a ≡ false) × (b ≡ false)
neither true b e = clash (sym e)
neither false b e = (refl, e)

pub record Clean (n : ℕ) (s : List ℕ) (before at : ℕ) : Type 0 where
  pub whole : cut_short s at ≡ false
  pub length : length_wrong n (kind_at s at) (length_at s at) ≡ false
  pub count : count_wrong s at ≡ false
  pub order : in_order before (kind_at s at) ≡ true
  pub word : word_wrong s at ≡ false
  pub store : store_length_ok n ≡ true
  pub line_byte : line_byte_wrong s at ≡ false

pub clean : (n : ℕ) (s : List ℕ) (before at : ℕ) → eqb (fault_at n s before at) 0 ≡ true → Clean n s before at
unfolding fault_at
clean n s before at t =
    let a = passed (cut_short s at) 1 _ refl t in
    let b = passed (length_wrong n (kind_at s at) (length_at s at)) 1 _ refl a.1 in
    let c = passed (count_wrong s at) 1 _ refl b.1 in
    let d = passed (not (in_order before (kind_at s at))) 2 _ refl c.1 in
    let e = passed (word_wrong s at) 3 _ refl d.1 in
    let f = passed (not (store_length_ok n)) 4 _ refl e.1 in
    let g = passed (line_byte_wrong s at) 6 _ refl f.1 in
    record {
      whole = a.0;
      length = b.0;
      count = c.0;
      order = not-false (in_order before (kind_at s at)) d.0;
      word = e.0;
      store = not-false (store_length_ok n) f.0;
      line_byte = g.0;
    }

-- with an illegal store length a record fails row 4 or a row before it
down_to : (t : Bool) (row x : ℕ) → 1 ≤ row → row ≤ 4 → (1 ≤ x) × (x ≤ 4) → (1 ≤ cond t row x) × (cond t row x ≤ 4)
down_to true row x a b h = (a, b)
down_to false row x a b h = h

pub no_store-fault : (n : ℕ) (s : List ℕ) (before at : ℕ) → store_length_ok n ≡ false
    → (1 ≤ fault_at n s before at) × (fault_at n s before at ≤ 4)
unfolding fault_at
no_store-fault n s before at z =
    down_to (cut_short s at) 1 _ (omega arith) (omega arith)
    (down_to (length_wrong n (kind_at s at) (length_at s at)) 1 _ (omega arith) (omega arith)
    (down_to (count_wrong s at) 1 _ (omega arith) (omega arith)
    (down_to (not (in_order before (kind_at s at))) 2 _ (omega arith) (omega arith)
    (down_to (word_wrong s at) 3 _ (omega arith) (omega arith) (rw z (omega arith, omega arith))))))

-- the kind of a record in order, and of the one before it
pub data Order (before kind : ℕ) : Type 0 where
  is-first : kind ≡ 1 → before ≡ 0 → Order before kind
  is-second : kind ≡ 2 → before ≡ 1 → Order before kind
  is-run : kind ≡ 3 → (before ≡ 0 → ⊥) → Order before kind

pub ordered : (before kind : ℕ) → in_order before kind ≡ true → Order before kind
unfolding in_order
ordered before kind = go1 (eqb kind 1) refl
  where
    go3 : (t : Bool) → eqb kind 3 ≡ t → cond t (not (eqb before 0)) false ≡ true → Order before kind
    go3 true e o = is-run (eqb-true kind 3 e) (eqb-false before 0 (not-true (eqb before 0) o))
    go3 false e o = clash o

    go2 : (t : Bool) → eqb kind 2 ≡ t → cond t (eqb before 1) (cond (eqb kind 3) (not (eqb before 0)) false) ≡ true → Order before kind
    go2 true e o = is-second (eqb-true kind 2 e) (eqb-true before 1 o)
    go2 false e o = go3 (eqb kind 3) refl o

    go1 : (t : Bool) → eqb kind 1 ≡ t
        → cond t (eqb before 0) (cond (eqb kind 2) (eqb before 1) (cond (eqb kind 3) (not (eqb before 0)) false)) ≡ true
        → Order before kind
    go1 true e o = is-first (eqb-true kind 1 e) (eqb-true before 0 o)
    go1 false e o = go2 (eqb kind 2) refl o

-- what length, count, words and line byte can be, by kind
pub record FirstPart (s : List ℕ) (at : ℕ) : Type 0 where
  pub some : 4 ≤ length_at s at
  pub long : length_at s at ≤ 16384
  pub fours : length_at s at % 4 ≡ 0
  pub words : all_at_most 0x3FFFF (words_at s (at + 6) (length_at s at / 4)) ≡ true

pub record SecondPart (n : ℕ) (s : List ℕ) (at : ℕ) : Type 0 where
  pub fits : length_at s at / 4 ≤ n
  pub fours : length_at s at % 4 ≡ 0

pub record RunPart (s : List ℕ) (at : ℕ) : Type 0 where
  pub nine : length_at s at ≡ 9
  pub one : 1 ≤ count_at s at
  pub most : count_at s at ≤ 65536
  pub line_byte : line_byte_at s at ≤ 7

module _ (n : ℕ) (s : List ℕ) (before at : ℕ) (c : Clean n s before at) where
  pub first_part : kind_at s at ≡ 1 → FirstPart s at
  unfolding length_wrong word_wrong
  first_part k =
      let l : ltb (length_at s at) 4 || ltb 16384 (length_at s at) || not (eqb (length_at s at % 4) 0) ≡ false = rw k at c.length in
      let w : not (all_at_most 0x3FFFF (words_at s (at + 6) (length_at s at / 4))) ≡ false = rw k at c.word in
      let a = neither (ltb (length_at s at) 4 || ltb 16384 (length_at s at)) (not (eqb (length_at s at % 4) 0)) l in
      let b = neither (ltb (length_at s at) 4) (ltb 16384 (length_at s at)) a.0 in
      record {
        some = ltb-false (length_at s at) 4 b.0;
        long = ltb-false 16384 (length_at s at) b.1;
        fours = eqb-true (length_at s at % 4) 0 (not-false (eqb (length_at s at % 4) 0) a.1);
        words = not-false (all_at_most 0x3FFFF (words_at s (at + 6) (length_at s at / 4))) w;
      }

  pub second-part : kind_at s at ≡ 2 → SecondPart n s at
  unfolding length_wrong
  second-part k =
      let l : ltb n (length_at s at / 4) || not (eqb (length_at s at % 4) 0) ≡ false = rw k at c.length in
      let a = neither (ltb n (length_at s at / 4)) (not (eqb (length_at s at % 4) 0)) l in
      record {
        fits = ltb-false n (length_at s at / 4) a.0;
        fours = eqb-true (length_at s at % 4) 0 (not-false (eqb (length_at s at % 4) 0) a.1);
      }

  pub run-part : kind_at s at ≡ 3 → RunPart s at
  unfolding length_wrong count_wrong line_byte_wrong
  run-part k =
      let l : not (eqb (length_at s at) 9) ≡ false = rw k at c.length in
      let m : eqb (count_at s at) 0 || ltb 65536 (count_at s at) ≡ false = rw k at c.count in
      let b : ltb 7 (line_byte_at s at) ≡ false = rw k at c.line_byte in
      let a = neither (eqb (count_at s at) 0) (ltb 65536 (count_at s at)) m in
      let z : count_at s at ≡ 0 → ⊥ = eqb-false (count_at s at) 0 a.0 in
      record {
        nine = eqb-true (length_at s at) 9 (not-false (eqb (length_at s at) 9) l);
        one = omega arith;
        most = ltb-false 65536 (count_at s at) a.1;
        line_byte = ltb-false 7 (line_byte_at s at) b;
      }
