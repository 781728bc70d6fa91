-- The returns of a list of board calls have the log of the definitions.
-- Idea: the contract of a call gives its clocks, what it returns and what it leaves; the whole log by induction.
--   exchange-calls    the log        left-last    what is seen last        ran_of, ends    what a run left; what it reports
use Prim.Native.Nat.{ℕ}
use mathlib.Core.Path.{◌≡◌, refl, ap, ap₂, ◌∙◌}
use mathlib.Core.Bool.{Bool, true, false, cond}
use mathlib.Core.List.{List, [], ◌∷◌, ◌++◌}
use lib.ListN.{length}
use lib.Dec.{eqb}
use borrow.Author.Tests.{eqb-true}
use Rattle.trm_reference.specs.Geometry.{paper_geometry}
use Rattle.trm_reference.specs.Access.{silent}
use Rattle.trm_reference.specs.Trace.{After, clocks, end_of, outs_of, finished_in}
use Rattle.trm_core.specs.Record.{Lent}
use Rattle.trm_serial.specs.Timing.{paper_timing}
use Rattle.trm_board.specs.Board.{inputs_of, Board as BoardOf, Shown, board_clock}
use Rattle.trm_board_calls.specs.declared.board_record.Board.{Board}
use Rattle.trm_board_calls.specs.Cores.{record_core}
use Rattle.trm_board_calls.specs.Refusals.{board_clock_refusal, board_run_refusal}
use Rattle.trm_board_calls.specs.Run.{run_inputs, answers_of, column, level_of, byte_of, word_of, BoardRan, board_history, board_run_of}
use Rattle.trm_board_calls.specs.Coded.{board_of}
use Rattle.trm_board_calls.specs.Promises.{board_clock_gives, board_run_gives}
use Rattle.trm_agreement.specs.Log.{clocked, ended, clocks_of, entries, calls, last_seen}
use Rattle.trm_agreement.proofs.Laws.Log.{last-ended}
use Rattle.trm_board_agreement.specs.Calls.{BoardCall, clock_call, run_call, feed, answer, BoardEnded, run_ends, board_seen, record_code}
use Rattle.trm_board_agreement.specs.Calls.{record_board}
use Rattle.trm_board_agreement.specs.Exchange.{Returned, clock_returned, run_returned, board_left, store_left, Meets, Exchange}
use Rattle.trm_board_agreement.specs.Exchange.{board_after, store_after, ended_by, alone, seen_at, clock_history, shown, exchange_log}
use Rattle.trm_board_agreement.proofs.Laws.Contracts.{ClockFacts, RunFacts, Facts, facts}

-- what a run left and reports; what it reports of its clocks, if it is not refused
abbrev pub ran_of : Board → List ℕ → ℕ → ℕ → List ℕ → List ℕ → List ℕ → BoardRan
ran_of left store used finished lv bs os =
    record { state = board_of left store; used = used; finished = finished; levels = lv; bytes = bs; words = os }

abbrev pub ends : ℕ → List Shown → BoardEnded
ends n outs = run_ends 0 n (finished_in (answers_of outs)) (column level_of outs) (column byte_of outs) (column word_of outs)

module _ (p : List ℕ) where
  -- the clocks of a call by the definitions
  clocks_in : Board → List ℕ → BoardCall → List (After (BoardOf Lent) Shown)
  clocks_in b s c = clocks_of feed answer (record_board p) (board_of b s) c

  code_in : Board → List ℕ → BoardCall → ℕ
  code_in b s c = record_code p (board_of b s) c

  -- what a call returned is what the definitions give
  record Step (b : Board) (s : List ℕ) (c : BoardCall) (a : Returned) : Type 0 where
    show : shown p b s c a ≡ entries feed answer (record_board p) (clocks_in b s c) (feed c)
    reports : ended_by a ≡ answer (code_in b s c) c (outs_of (clocks_in b s c))
    left : board_of (board_left a) (store_left a) ≡ end_of (board_of b s) (clocks_in b s c)

  clock-met : (b : Board) (s : List ℕ) (joined : Bool) (given switches number : ℕ) (left : Board) (store : List ℕ) (out : Shown)
      → ClockFacts p b s joined given switches number left store out
      → Step b s (clock_call joined given switches) (clock_returned number left store out)
  unfolding clocks_in code_in shown alone ended_by board_left store_left clocks_of record_board record_code feed answer clocks end_of
      entries
      board_clock_gives
  clock-met b s joined given switches number left store out h = record {
    show = rw h.number (seen code h.outcome);
    reports = rw h.number;
    left = lasts code h.outcome;
  }
    where
      code : Bool
      code = eqb (board_clock_refusal p (board_of b s) given) 0

      got : After (BoardOf Lent) Shown
      got = record { state = board_of left store; out = out }

      next : After (BoardOf Lent) Shown
      next = board_clock paper_timing (record_core paper_geometry p) (board_of b s) (inputs_of joined given switches)

      Is : Bool → Type 0
      Is t = got ≡ cond t next (record { state = board_of b s; out = record { level = 0; answer = silent 0 } })

      seen : (t : Bool) → Is t
          → cond t (clocked (inputs_of joined given switches) (board_seen got.state) got.out ∷ []) []
          ≡ entries feed answer (record_board p) (cond t (next ∷ []) []) (inputs_of joined given switches ∷ [])
      seen true e = ap (λ (u : After (BoardOf Lent) Shown). clocked (inputs_of joined given switches) (board_seen u.state) u.out ∷ []) e
      seen false e = refl

      lasts : (t : Bool) → Is t → board_of left store ≡ end_of (board_of b s) (cond t (next ∷ []) [])
      lasts true e = ap (λ u. u.state) e
      lasts false e = ap (λ u. u.state) e

  run-met : (b : Board) (s : List ℕ) (joined : Bool) (gs ws lv bs os : List ℕ) (number : ℕ) (left : Board) (store : List ℕ)
      (used finished : ℕ) (lv' bs' os' : List ℕ) → RunFacts p b s joined gs ws lv bs os number left store used finished lv' bs' os'
      → Step b s (run_call joined gs ws lv bs os) (run_returned number left store used finished lv' bs' os')
  unfolding clocks_in code_in shown clock_history ended_by board_left store_left record_board record_code clocks_of feed answer end_of
      board_run_gives
      board_run_of entries
  run-met b s joined gs ws lv bs os number left store used finished lv' bs' os' h = record {
    show = rw h.number (seen (eqb code 0));
    reports = rw h.number (go (eqb code 0) refl h.outcome);
    left = lasts (eqb code 0) h.outcome;
  }
    where
      code : ℕ
      code = board_run_refusal p (board_of b s) gs ws lv bs os

      got : BoardRan
      got = ran_of left store used finished lv' bs' os'

      hist : List (After (BoardOf Lent) Shown)
      hist = board_history p (board_of b s) (run_inputs joined gs ws)

      Is : Bool → Type 0
      Is t = got ≡ cond t (board_run_of p (board_of b s) joined gs ws) (ran_of b s 0 0 lv bs os)

      seen : (t : Bool) → cond t (clock_history p b s (run_inputs joined gs ws)) []
          ≡ entries feed answer (record_board p) (cond t hist []) (run_inputs joined gs ws)
      seen true = refl
      seen false = refl

      reported : ℕ → BoardRan → BoardEnded
      reported n u = run_ends n u.used u.finished u.levels u.bytes u.words

      go : (t : Bool) → eqb code 0 ≡ t → Is t
          → reported code got ≡ cond t (ends (length gs) (outs_of (cond t hist []))) (run_ends code 0 0 lv bs os)
      go true e q = ap (reported code) q ∙ ap (λ n. reported n (board_run_of p (board_of b s) joined gs ws)) (eqb-true code 0 e)
      go false e q = ap (reported code) q

      lasts : (t : Bool) → Is t → board_of left store ≡ end_of (board_of b s) (cond t hist [])
      lasts true e = ap (λ u. u.state) e
      lasts false e = ap (λ u. u.state) e

  step_of : (b : Board) (s : List ℕ) (c : BoardCall) (a : Returned) → Facts p b s c a → Step b s c a
  unfolding Facts
  step_of b s (clock_call joined given switches) (clock_returned number left store out) h = clock-met b s joined given switches number
      left store out h
  step_of b s (clock_call joined given switches) (run_returned number left store used finished lv' bs' os') h = absurd h
  step_of b s (run_call joined gs ws lv bs os) (clock_returned number left store out) h = absurd h
  step_of b s (run_call joined gs ws lv bs os) (run_returned number left store used finished lv' bs' os') h =
      run-met b s joined gs ws lv bs os number left store used finished lv' bs' os' h

  met : (b : Board) (s : List ℕ) (c : BoardCall) (a : Returned) → Meets p b s c a → Step b s c a
  met b s c a h = step_of b s c a (facts p b s c a h)

  pub exchange-calls : (b : Board) (s : List ℕ) (cs : List BoardCall) (as' : List Returned) → Exchange p b s cs as'
      → exchange_log p b s cs as' ≡ calls feed answer (record_board p) (board_of b s) cs
  unfolding Exchange exchange_log calls clocks_in code_in record_board
  exchange-calls b s [] [] h = refl
  exchange-calls b s [] (a ∷ as') h = absurd h
  exchange-calls b s (c ∷ cs) [] h = absurd h
  exchange-calls b s (c ∷ cs) (a ∷ as') h = ap₂ ◌++◌ (met b s c a h.0).show
      (ap₂ ◌∷◌ (ap₂ ended (ap board_seen (met b s c a h.0).left) (met b s c a h.0).reports)
      (exchange-calls (board_left a) (store_left a) cs as' h.1
      ∙ ap (λ x. calls feed answer (record_board p) x cs) (met b s c a h.0).left))

  -- what is seen last is what the last call left
  pub left-last : (b : Board) (s : List ℕ) (cs : List BoardCall) (as' : List Returned) → Exchange p b s cs as'
      → last_seen (seen_at b s) (exchange_log p b s cs as') ≡ seen_at (board_after b as') (store_after s as')
  unfolding Exchange exchange_log board_after store_after last_seen
  left-last b s [] [] x = refl
  left-last b s [] (a ∷ as') x = absurd x
  left-last b s (c ∷ cs) [] x = absurd x
  left-last b s (c ∷ cs) (a ∷ as') x =
      last-ended (seen_at b s) _ _ (shown p b s c a) (exchange_log p (board_left a) (store_left a) cs as')
      ∙ left-last (board_left a) (store_left a) cs as' x.1
