-- Laws of the tests over a list, what a passed row implies, and the number of a call by its first rows.
-- Idea: the tests over a list by induction; the other laws are by cases of a Bool.
--   all_joined, all_none, most-is   the tests over a list        passed_store, passed_clocks, passed_length   what a passed row implies
--   rows   a call by its first rows: refused, passed, and then its clock count        reset_short   a reset
use Prim.Native.Nat.{ℕ, max, ◌+◌, ◌^◌, ◌≤◌, ◌<◌}
use mathlib.Core.Path.{◌≡◌, refl, sym, ◌∙◌}
use mathlib.Core.Bool.{Bool, true, false, cond, not, ◌&&◌, ◌||◌, and-true}
use mathlib.Core.List.{List, [], ◌∷◌, ◌++◌}
use native.Mathlib.Omega.{arith}
use borrow.Author.Tests.{le-leb, lt-leb, leb-true, leb-false, ltb-true, ltb-false}
use lib.ListN.{length}
use lib.Dec.{eqb, leb, ltb}
use Rattle.std.specs.List.{fold}
use Rattle.trm_laws.proofs.Tests.{clash, both, all4, test_at}
use Rattle.trm_word.specs.Address.{store_length_ok}
use Rattle.trm_reference.specs.Geometry.{paper_geometry}
use Rattle.trm_reference.specs.Visible.{cache_on, word_at}
use Rattle.trm_core.specs.declared.record.Counts.{Counts}
use Rattle.trm_core.specs.Record.{Machine, visible_of, cache_of}
use Rattle.trm_core.specs.Rule.{widths_ok, phase_ok, registers_ok, counts_ok, lines_ok, record_ok}
use Rattle.trm_core.specs.Refusals.{all_at_most, store_ok, line_bytes_refused, count_row, clock_rows, run_rows, record_rows, reset_refusal}
use Rattle.trm_core.proofs.Laws.Fit.{legal_small}
use Rattle.trm_core.proofs.Laws.Rows.{Passed, rows-passed, rows-kept, rows-rest}
use Rattle.trm_call_refusals.specs.declared.refusal.Refusal.{Refusal}
use Rattle.trm_call_refusals.specs.declared.refusal.Refusal.TheVariants.{Program, Store, Record, LineBytes, Buffers, Clocks, Place}
use Rattle.trm_call_refusals.specs.Numbers.{number_of}

-- the larger of two is within the limit exactly if both are
larger-most : (limit a b : ℕ) → leb (max a b) limit ≡ (leb a limit && leb b limit)
larger-most limit a b = go (leb a limit) refl (leb b limit) refl
  where
    go : (x : Bool) → leb a limit ≡ x → (y : Bool) → leb b limit ≡ y → leb (max a b) limit ≡ (x && y)
    go true p true q = let e : max a b ≤ limit = omega (arith, leb-true a limit p, leb-true b limit q) in le-leb _ _ e
    go true p false q = let e : limit < max a b = omega (arith, leb-false b limit q) in lt-leb _ _ e
    go false p y q = let e : limit < max a b = omega (arith, leb-false a limit p) in lt-leb _ _ e

and_step : (a b c : Bool) → ((a && b) && c) ≡ (a && (b && c))
and_step true b c = refl
and_step false b c = refl

-- the test of two lists joined is that of each
pub all_joined : (limit : ℕ) (xs ys : List ℕ) → all_at_most limit (xs ++ ys) ≡ (all_at_most limit xs && all_at_most limit ys)
unfolding all_at_most
all_joined limit [] ys = refl
all_joined limit (x ∷ xs) ys =
    rw (all_joined limit xs ys) (sym (and_step (leb x limit) (all_at_most limit xs) (all_at_most limit ys)))

-- the test of no numbers holds
pub all_none : (limit : ℕ) (xs : List ℕ) → length xs ≡ 0 → all_at_most limit xs ≡ true
unfolding all_at_most
all_none limit [] e = refl
all_none limit (x ∷ xs) e = absurd (omega (arith, e))

-- the largest of the numbers, and of m, represents all of them
most-with : (limit m : ℕ) (xs : List ℕ) → leb (fold (λ a x. max a x) m xs) limit ≡ (leb m limit && all_at_most limit xs)
unfolding all_at_most
most-with limit m [] = sym (and-true (leb m limit))
most-with limit m (x ∷ xs) =
    rw (most-with limit (max m x) xs, larger-most limit m x) (and_step (leb m limit) (leb x limit) (all_at_most limit xs))

pub most-is : (limit : ℕ) (xs : List ℕ) → leb (fold (λ a x. max a x) 0 xs) limit ≡ all_at_most limit xs
most-is limit xs = most-with limit 0 xs ∙ rw (le-leb 0 limit (omega arith)) refl

fourth : (a b c d e : Bool) → a && b && c && d && e ≡ true → d ≡ true
fourth a b c d e t = both (a && b && c && d) e (λ q _. both (a && b && c) d (λ _ r. r) q) t

passed-counts : (k : Counts) → counts_ok k ≡ true → k.clocks < 2 ^ 32
unfolding counts_ok
passed-counts k t =
    all4 (ltb k.clocks (2 ^ 32)) (leb k.held k.clocks) (leb k.refills k.clocks) (leb k.writebacks k.clocks)
    (λ x _ _ _. ltb-true k.clocks (2 ^ 32) x) t

-- a store that passes has a legal length
pub passed_store : (n size : ℕ) → (store_length_ok n && eqb n size) ≡ true → store_length_ok n ≡ true
passed_store n size t = both (store_length_ok n) (eqb n size) (λ p _. p) t

-- a record that passes has a clock count of 32 bits
pub passed_clocks : (p : List ℕ) (n : ℕ) (m : Machine) → record_ok paper_geometry p n m ≡ true → m.scalars.counts.clocks < 2 ^ 32
unfolding record_ok
passed_clocks p n m t =
    passed-counts m.scalars.counts
    (fourth
    (widths_ok (visible_of m))
    (phase_ok paper_geometry (word_at p m.scalars.pc) n m.scalars.running (visible_of m) (cache_of m))
    (registers_ok (word_at p m.scalars.pc) m.scalars.running (visible_of m))
    (counts_ok m.scalars.counts)
    (lines_ok paper_geometry (cache_on (visible_of m)) n (cache_of m))
    t)

-- a run that passes has at most 65,536 clocks
pub passed_length : (line_bytes : List ℕ) (inputs : ℕ)
    → (not (eqb (length line_bytes) inputs) || ltb 65536 (length line_bytes) || not (all_at_most 7 line_bytes)) ≡ false
    → length line_bytes < 2 ^ 32
passed_length line_bytes inputs t =
    go (eqb (length line_bytes) inputs) (ltb 65536 (length line_bytes)) refl (not (all_at_most 7 line_bytes)) t
  where
    go : (a b : Bool) → ltb 65536 (length line_bytes) ≡ b → (d : Bool) → (not a || b || d) ≡ false → length line_bytes < 2 ^ 32
    go true true q d e = clash (sym e)
    go true false q d e = let h : length line_bytes ≤ 65536 = ltb-false 65536 (length line_bytes) q in omega (arith, h)
    go false b q d e = clash (sym e)

-- a refusal's number is not 0
pub refused : (r : Refusal) → eqb (number_of r) 0 ≡ false
refused Program = refl
refused Store = refl
refused Record = refl
refused LineBytes = refl
refused Buffers = refl
refused Clocks = refl
refused Place = refl

-- a call refused by rows 3, 4 or 5 has that row's number
pub kept_number : (p : List ℕ) (m : Machine) (s : List ℕ) (rest : ℕ) (r : Refusal) → number_of r ≡ record_rows paper_geometry p m s 0
    → number_of r ≡ record_rows paper_geometry p m s rest
kept_number p m s rest r e = e ∙ rows-kept paper_geometry p m s rest (test_at (sym e) 0 ∙ refused r)

-- otherwise these rows are passed
passed-rows : (p : List ℕ) (m : Machine) (s : List ℕ) → 0 ≡ record_rows paper_geometry p m s 0 → Passed paper_geometry p m s
passed-rows p m s e = (rows-passed paper_geometry p m s 0 (sym e)).0

-- and the number is that of the call's own rows
pub own_rows : (p : List ℕ) (m : Machine) (s : List ℕ) (rest : ℕ) → 0 ≡ record_rows paper_geometry p m s 0
    → record_rows paper_geometry p m s rest ≡ rest
own_rows p m s rest e = rows-rest _ _ _ _ _ (passed-rows p m s e)

-- a call that passes them has a record with a clock count of 32 bits
pub counted : (p : List ℕ) (m : Machine) (s : List ℕ) → 0 ≡ record_rows paper_geometry p m s 0 → m.scalars.counts.clocks < 2 ^ 32
counted p m s e = passed_clocks p (length s) m (passed-rows p m s e).rule

-- the own rows of a clock and of a run, and row 4, as tests
pub clock_rows_are : (k l : ℕ) → clock_rows k l ≡ cond (ltb 7 l) 6 (cond (ltb 4294967295 (k + 1)) 8 0)
unfolding clock_rows count_row
clock_rows_are k l = refl

pub run_rows_are : (k : ℕ) (ls is bs ws : List ℕ) → run_rows k ls is bs ws
    ≡ cond (not (eqb (length ls) (length is)) || ltb 65536 (length ls) || not (all_at_most 7 ls)) 6
    (cond (not (eqb (length bs) (length ls)) || not (eqb (length ws) (length ls))) 7
    (cond (ltb 4294967295 (k + length ls)) 8 0))
unfolding run_rows line_bytes_refused count_row
run_rows_are k ls is bs ws = refl

pub store_ok_is : (m : Machine) (s : List ℕ) → store_ok m s ≡ (store_length_ok (length s) && eqb (length s) m.scalars.size)
unfolding store_ok
store_ok_is m s = refl

-- the laws of rows 3 to 5, and of the rows of a call
pub ruleset first_rows = (store_ok_is, passed_store)

pub ruleset rows = (kept_number, own_rows, counted, clock_rows_are, run_rows_are, passed_length)

-- a reset that is not refused has a store below 2^32 words
pub reset_short : (s : List ℕ) → 0 ≡ reset_refusal s → length s < 2 ^ 32
unfolding reset_refusal
reset_short s = go (store_length_ok (length s)) refl
  where
    go : (t : Bool) → store_length_ok (length s) ≡ t → ◌≡◌ {A = ℕ} 0 (cond t 0 4) → length s < 2 ^ 32
    go true q e = omega (arith, legal_small (length s) q)
    go false q e = absurd (omega arith)
