-- No call returns 5.
-- Idea: the reference machine's numbers are those of rows 3, 6, 7 and 8.
use Prim.Native.Nat.{ℕ, ◌+◌}
use mathlib.Core.Path.{◌≡◌, refl, sym}
use mathlib.Core.Logic.{◌≢◌}
use mathlib.Core.Bool.{Bool, true, false, cond, not, ◌||◌}
use mathlib.Core.List.{List, [], ◌∷◌}
use lib.ListN.{length}
use lib.Dec.{eqb, ltb}
use borrow.Author.Tests.{eqb-true}
use native.Mathlib.Omega.{arith}
use Rattle.trm_laws.proofs.Tests.{chosen}
use Rattle.trm_reference.specs.Geometry.{Geometry}
use Rattle.trm_reference.specs.Access.{Answer}
use Rattle.trm_reference.specs.Trace.{end_of, finished_in}
use Rattle.trm_reference.specs.Reference.{Reference}
use Rattle.trm_core.specs.Refusals.{program_ok, count_row, clock_rows, line_bytes_refused, run_rows}
use Rattle.trm_core.specs.Run.{bytes_of, words_of}
use Rattle.trm_agreement.specs.Log.{clocks_of, calls, returns_in}
use Rattle.trm_agreement.specs.Calls.{Call, clock_call, run_call, feed, answer, number_of, run_ends, own_rows, reference_code}
use Rattle.trm_agreement.specs.Calls.{reference_engine}
use Rattle.trm_agreement.specs.Demand.{All}
use Rattle.trm_agreement.proofs.Laws.Log.{entries-returns}

-- the reference machine gives only 0, 3, 6, 7 and 8
abbrev NotFive : ℕ → Type 0
NotFive n = n ≢ 5

count-row : (k n : ℕ) → count_row k n ≢ 5
unfolding count_row
count-row k n = chosen NotFive (ltb 4294967295 (k + n)) (λ z. absurd (omega arith)) (λ z. absurd (omega arith))

own-rows : (k : ℕ) (c : Call) → own_rows k c ≢ 5
unfolding own_rows clock_rows run_rows
own-rows k (clock_call line_byte input) = chosen NotFive (ltb 7 line_byte) (λ z. absurd (omega arith)) (count-row k 1)
own-rows k (run_call line_bytes inputs bytes words) = chosen NotFive (line_bytes_refused line_bytes inputs) (λ z. absurd (omega arith))
    (chosen NotFive (not (eqb (length bytes) (length line_bytes)) || not (eqb (length words) (length line_bytes)))
    (λ z. absurd (omega arith)) (count-row k (length line_bytes)))

-- the number that a call returns is the one that it was refused with
number_is : (code : ℕ) (c : Call) (outs : List Answer) → number_of (answer code c outs) ≡ code
unfolding number_of answer
number_is code (clock_call line_byte input) outs = refl
number_is code (run_call line_bytes inputs bytes words) outs = go (eqb code 0) refl
  where
    go : (t : Bool) → eqb code 0 ≡ t
        → number_of (cond t (run_ends 0 (length line_bytes) (finished_in outs) (bytes_of outs) (words_of outs))
        (run_ends code 0 0 bytes words)) ≡
        code
    go true e = sym (eqb-true code 0 e)
    go false e = refl

-- no call of the reference machine returns 5
not_five : (p : List ℕ) (q : Reference) (c : Call) (outs : List Answer)
    → number_of (answer (reference_code p q c) c outs) ≢ 5
unfolding reference_code
not_five p q c outs = rw (number_is (reference_code p q c) c outs)
    (chosen NotFive (not (program_ok p)) (λ z. absurd (omega arith)) (own-rows q.clocks c))

pub returns_not_five : (G : Geometry) (p : List ℕ) (q : Reference) (cs : List Call)
    → All (λ a. number_of a ≢ 5) (returns_in (calls feed answer (reference_engine G p) q cs))
unfolding calls All returns_in reference_engine
returns_not_five G p q [] = tt
returns_not_five G p q (c ∷ cs) =
    rw (entries-returns feed answer (reference_engine G p) (clocks_of feed answer (reference_engine G p) q c) (feed c))
    (not_five p q c _, returns_not_five G p (end_of q (clocks_of feed answer (reference_engine G p) q c)) cs)
