-- What the `ensures` of the exported board calls say of the lists that the lent slices hold, in one form for every function.
-- Idea: the `ensures` is a contract of trm at references; they are replaced by the lists that they hold.
--   started, failed    the board that an accepted or a refused reset returns        facts    what a call returned, by whichever function
use Prim.Native.Nat.{ℕ}
use mathlib.Core.Path.{◌≡◌, sym, ap, ◌∙◌}
use mathlib.Core.Bool.{Bool, true, false}
use mathlib.Core.List.{List, []}
use borrow.Author.Tests.{eq-eqb, ne_eqb}
use Rattle.trm_reference.specs.Geometry.{paper_geometry}
use Rattle.trm_core.specs.Record.{Lent, reset_of, start}
use Rattle.trm_core.specs.Refusals.{reset_refusal}
use Rattle.trm_run_machine.specs.Machine.{record_of}
use Rattle.trm_calls.specs.Promises.{reset_gives}
use Rattle.trm_board.specs.Board.{Board as BoardOf, Shown, board_reset}
use Rattle.trm_board_calls.specs.declared.board_record.Board.{Board}
use Rattle.trm_board_calls.specs.Refusals.{board_clock_refusal, board_run_refusal}
use Rattle.trm_board_calls.specs.Coded.{board_of}
use Rattle.trm_board_calls.specs.Promises.{board_reset_gives, board_clock_gives, board_run_gives}
use Rattle.trm.specs.BoardPromises.{BoardResetNumbered, BoardClockNumbered, BoardRunNumbered}
use Rattle.trm.specs.declared.exported_board.BoardResetAnswer.{BoardResetAnswer}
use Rattle.trm.specs.declared.exported_board.BoardClockAnswer.{BoardClockAnswer}
use Rattle.trm.specs.declared.exported_board.BoardRunAnswer.{BoardRunAnswer}
use Rattle.trm_board_agreement.specs.Calls.{BoardCall, clock_call, run_call}
use Rattle.trm_board_agreement.specs.CallContracts.{ResetMet, GivenClock, JoinedClock, GivenRun, JoinedRun}
use Rattle.trm_board_agreement.specs.Exchange.{Starts, starts, Fails, fails, Returned, clock_returned, run_returned}
use Rattle.trm_board_agreement.specs.Exchange.{Meets, by_clock, by_joined_clock, by_run, by_joined_run}

reset-says : (s : List ℕ) (r : BoardResetAnswer) → ResetMet s r → BoardResetNumbered s r
reset-says s r h = rw (← h.holds) h.ensures

given_clock_says : (b : Board) (p s : List ℕ) (given switches : ℕ) (r : BoardClockAnswer) (s' : List ℕ)
    → GivenClock b p s given switches r s'
    → BoardClockNumbered b p s false given switches r s'
given_clock_says b p s given switches r s' h = let e = h.holds in rw (← e.0, ← e.1, ← e.2) h.ensures

joined_clock_says : (b : Board) (p s : List ℕ) (given switches : ℕ) (r : BoardClockAnswer) (s' : List ℕ)
    → JoinedClock b p s given switches r s'
    → BoardClockNumbered b p s true given switches r s'
joined_clock_says b p s given switches r s' h = let e = h.holds in rw (← e.0, ← e.1, ← e.2) h.ensures

given_run_says : (b : Board) (p s gs ws lv bs os : List ℕ) (r : BoardRunAnswer) (s' lv' bs' os' : List ℕ)
    → GivenRun b p s gs ws lv bs os r s' lv' bs' os' → BoardRunNumbered b p s false gs ws lv bs os r s' lv' bs' os'
given_run_says b p s gs ws lv bs os r s' lv' bs' os' h = let e = h.x.holds in
    rw (← e.0, ← e.1, ← e.2, ← e.3, ← e.4, ← e.5, ← e.6, ← e.7, ← e.8, ← e.9, ← e.10) h.ensures

joined_run_says : (b : Board) (p s gs ws lv bs os : List ℕ) (r : BoardRunAnswer) (s' lv' bs' os' : List ℕ)
    → JoinedRun b p s gs ws lv bs os r s' lv' bs' os' → BoardRunNumbered b p s true gs ws lv bs os r s' lv' bs' os'
joined_run_says b p s gs ws lv bs os r s' lv' bs' os' h = let e = h.x.holds in
    rw (← e.0, ← e.1, ← e.2, ← e.3, ← e.4, ← e.5, ← e.6, ← e.7, ← e.8, ← e.9, ← e.10) h.ensures

-- an accepted reset
pub record Started (s : List ℕ) (b : Board) : Type 0 where
  pub taken : reset_refusal s ≡ 0
  pub is : board_of b s ≡ board_reset (start paper_geometry s)

pub started : (s : List ℕ) (b : Board) → Starts s b → Started s b
unfolding board_reset_gives reset_gives
started s b (starts r h z) = let g = reset-says s r h in let taken = sym g.number ∙ z in record {
  taken = taken;
  is = g.board ∙ rw (eq-eqb (reset_refusal s) 0 taken);
}

-- a refused reset: the core's record is that of an empty store
pub failed : (s : List ℕ) (b : Board) → Fails s b → record_of b.machine ≡ reset_of paper_geometry []
unfolding board_reset_gives reset_gives
failed s b (fails r h z) = let g = reset-says s r h in
    ap (λ (x : BoardOf Lent). x.core.machine) g.board ∙ rw (ne_eqb (reset_refusal s) 0 (λ e. z (g.number ∙ e)))

module _ (p : List ℕ) (b : Board) (s : List ℕ) where
  pub record ClockFacts (joined : Bool) (given switches code : ℕ) (left : Board) (store : List ℕ) (out : Shown) : Type 0 where
    pub number : code ≡ board_clock_refusal p (board_of b s) given
    pub outcome : record { state = board_of left store; out = out } ≡ board_clock_gives p (board_of b s) joined given switches

  pub record RunFacts (joined : Bool) (gs ws lv bs os : List ℕ) (code : ℕ) (left : Board) (store : List ℕ) (used finished : ℕ)
      (lv' bs' os' : List ℕ) : Type 0 where
    pub number : code ≡ board_run_refusal p (board_of b s) gs ws lv bs os
    pub outcome : record { state = board_of left store; used = used; finished = finished; levels = lv'; bytes = bs'; words = os' }
        ≡ board_run_gives p (board_of b s) joined gs ws lv bs os

  unfoldable pub Facts : BoardCall → Returned → Type 0
  Facts (clock_call joined given switches) (clock_returned number left store out) = ClockFacts joined given switches number left store out
  Facts (clock_call joined given switches) (run_returned number left store used finished lv' bs' os') = ⊥
  Facts (run_call joined gs ws lv bs os) (clock_returned number left store out) = ⊥
  Facts (run_call joined gs ws lv bs os) (run_returned number left store used finished lv' bs' os') =
      RunFacts joined gs ws lv bs os number left store used finished lv' bs' os'

  -- the only law that reads the contracts
  pub facts : (c : BoardCall) (a : Returned) → Meets p b s c a → Facts c a
  unfolding Facts
  facts c a (by_clock given switches r s' h) =
      let g = given_clock_says b p s given switches r s' h in record { number = g.number; outcome = g.outcome }
  facts c a (by_joined_clock given switches r s' h) =
      let g = joined_clock_says b p s given switches r s' h in record { number = g.number; outcome = g.outcome }
  facts c a (by_run gs ws lv bs os r s' lv' bs' os' h) =
      let g = given_run_says b p s gs ws lv bs os r s' lv' bs' os' h in record { number = g.number; outcome = g.outcome }
  facts c a (by_joined_run gs ws lv bs os r s' lv' bs' os' h) =
      let g = joined_run_says b p s gs ws lv bs os r s' lv' bs' os' h in record { number = g.number; outcome = g.outcome }
