-- No call of the board with the plain machine inside returns 5.
-- Idea: its numbers are those of rows 3, 6, 7 and 8.
--   returns_not_five
use Prim.Native.Nat.{ℕ, ◌+◌}
use mathlib.Core.Path.{◌≡◌, refl, sym}
use mathlib.Core.Logic.{◌≢◌}
use mathlib.Core.Bool.{Bool, true, false, cond, not, ◌||◌}
use mathlib.Core.List.{List, [], ◌∷◌}
use lib.ListN.{length}
use lib.Dec.{eqb, ltb}
use borrow.Author.Tests.{eqb-true}
use native.Mathlib.Omega.{arith}
use Rattle.trm_laws.proofs.Tests.{chosen}
use Rattle.trm_reference.specs.Trace.{end_of, outs_of}
use Rattle.trm_reference.specs.Reference.{Reference}
use Rattle.trm_core.specs.Refusals.{program_ok, clock_rows, count_row, line_bytes_refused}
use Rattle.trm_board.specs.Board.{Board as BoardOf, Shown}
use Rattle.trm_board_calls.specs.Refusals.{board_run_rows}
use Rattle.trm_agreement.specs.Log.{clocks_of, calls, returns_in}
use Rattle.trm_agreement.specs.Demand.{All}
use Rattle.trm_agreement.proofs.Laws.Log.{entries-returns}
use Rattle.trm_board_agreement.specs.Calls.{BoardCall, clock_call, run_call, feed, answer, run_ends, number_of, own_rows, plain_code}
use Rattle.trm_board_agreement.specs.Calls.{plain_board}

-- the board with the plain machine gives only 0, 3, 6, 7 and 8
abbrev NotFive : ℕ → Type 0
NotFive n = n ≢ 5

count-row : (k n : ℕ) → count_row k n ≢ 5
unfolding count_row
count-row k n = chosen NotFive (ltb 4294967295 (k + n)) (λ z. absurd (omega arith)) (λ z. absurd (omega arith))

own_not_five : (k : ℕ) (c : BoardCall) → own_rows k c ≢ 5
unfolding own_rows clock_rows board_run_rows
own_not_five k (clock_call joined given switches) = chosen NotFive (ltb 7 given) (λ z. absurd (omega arith)) (count-row k 1)
own_not_five k (run_call joined gs ws lv bs os) = chosen NotFive (line_bytes_refused gs ws) (λ z. absurd (omega arith))
    (chosen NotFive (not (eqb (length lv) (length gs)) || not (eqb (length bs) (length gs)) || not (eqb (length os) (length gs)))
    (λ z. absurd (omega arith)) (count-row k (length gs)))

-- the number that a call returns is the one that it was refused with
number_is : (code : ℕ) (c : BoardCall) (outs : List Shown) → number_of (answer code c outs) ≡ code
unfolding number_of answer
number_is code (clock_call joined given switches) outs = refl
number_is code (run_call joined gs ws lv bs os) outs = go (eqb code 0) _ _ _ _ _ refl
  where
    go : (t : Bool) (used finished : ℕ) (lv' bs' os' : List ℕ) → eqb code 0 ≡ t
        → number_of (cond t (run_ends 0 used finished lv' bs' os') (run_ends code 0 0 lv bs os)) ≡ code
    go true used finished lv' bs' os' e = sym (eqb-true code 0 e)
    go false used finished lv' bs' os' e = refl

-- no call returns 5
pub returns_not_five : (p : List ℕ) (y : BoardOf Reference) (cs : List BoardCall)
    → All (λ a. number_of a ≢ 5) (returns_in (calls feed answer (plain_board p) y cs))
unfolding calls All returns_in plain_board plain_code
returns_not_five p y [] = tt
returns_not_five p y (c ∷ cs) =
    rw (entries-returns feed answer (plain_board p) (clocks_of feed answer (plain_board p) y c) (feed c)) (
      rw (number_is (plain_code p y c) c (outs_of (clocks_of feed answer (plain_board p) y c)))
          (chosen NotFive (not (program_ok p)) (λ z. absurd (omega arith)) (own_not_five y.core.clocks c)),
      returns_not_five p (end_of y (clocks_of feed answer (plain_board p) y c)) cs,
    )
