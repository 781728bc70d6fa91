-- A clock of the board is a run of one byte: the same refusals, and the same outcome.
-- Idea: with one byte every length in the run's rows computes.
--   one-refusal   the refusals        one_holds   the promise of a clock, from that of the run
use Prim.Native.Nat.{ℕ}
use mathlib.Core.Path.{◌≡◌, refl, sym, ap, ◌∙◌}
use Rattle.std.specs.Prelude.{Result, Ok, Err}
use mathlib.Core.Bool.{Bool, true, false, cond}
use mathlib.Core.List.{List, [], ◌∷◌}
use lib.ListN.{get_or}
use lib.Dec.{eqb}
use native.Mathlib.Omega.{arith}
use Rattle.trm_reference.specs.Geometry.{paper_geometry}
use Rattle.trm_reference.specs.Access.{silent}
use Rattle.trm_reference.specs.Trace.{After, clocks, end_of, outs_of, finished_in}
use Rattle.trm_core.specs.Record.{Lent}
use Rattle.trm_core.specs.Refusals.{all_at_most, line_bytes_refused, clock_rows}
use Rattle.trm_run_machine.proofs.Laws.One.{low}
use Rattle.trm_serial.specs.Timing.{paper_timing}
use Rattle.trm_board.specs.Board.{inputs_of, Board, Shown, board_clock}
use Rattle.trm_board_calls.specs.declared.board_record.Board as coded
use Rattle.trm_board_calls.specs.declared.board_answers.BoardRun.{BoardRun}
use Rattle.trm_board_calls.specs.declared.board_answers.BoardClock.{BoardClock}
use Rattle.trm_call_refusals.specs.declared.refusal.Refusal.{Refusal}
use Rattle.trm_call_refusals.specs.Numbers.{number_of}
use Rattle.trm_call_refusals.proofs.Laws.{refused}
use Rattle.trm_board_calls.specs.Cores.{record_core}
use Rattle.trm_board_calls.specs.Refusals.{board_clock_refusal, board_run_rows, board_run_refusal}
use Rattle.trm_board_calls.specs.Run.{run_inputs, answers_of, column, BoardRan, board_run_of}
use Rattle.trm_board_calls.specs.Coded.{board_of}
use Rattle.trm_board_calls.specs.Promises.{board_clock_gives, board_run_gives, clock_left, ClockHolds, RunHolds}

-- the outcome of a run, read as that of a clock
abbrev only : BoardRan → After (Board Lent) Shown
only r = record {
  state = r.state;
  out = record {
    level = get_or r.levels 0 0;
    answer = record { byte = get_or r.bytes 0 0; word = get_or r.words 0 0; done = r.finished };
  };
}

module _ (p : List ℕ) (x : Board Lent) (joined : Bool) (g w : ℕ) where
  abbrev step : After (Board Lent) Shown
  step = board_clock paper_timing (record_core paper_geometry p) x (inputs_of joined g w)

  one-ran : only (board_run_of p x joined (g ∷ []) (w ∷ [])) ≡ step
  unfolding board_run_of clocks end_of outs_of run_inputs column answers_of finished_in
  one-ran = ap (λ n. record {
    state = step.state;
    out = record {
      level = step.out.level;
      answer = record { byte = step.out.answer.byte; word = step.out.answer.word; done = n };
    };
  }) (omega arith)

  one-refusal : board_run_refusal p x (g ∷ []) (w ∷ []) (0 ∷ []) (0 ∷ []) (0 ∷ []) ≡ board_clock_refusal p x g
  unfolding board_clock_refusal board_run_refusal board_run_rows clock_rows line_bytes_refused all_at_most
  one-refusal = rw (low g)

  one-gives : only (board_run_gives p x joined (g ∷ []) (w ∷ []) (0 ∷ []) (0 ∷ []) (0 ∷ [])) ≡ board_clock_gives p x joined g w
  unfolding board_run_gives board_clock_gives
  one-gives = rw one-refusal (go (eqb (board_clock_refusal p x g) 0))
    where
      go : (t : Bool) → only (cond t (board_run_of p x joined (g ∷ []) (w ∷ []))
          (record { state = x; used = 0; finished = 0; levels = 0 ∷ []; bytes = 0 ∷ []; words = 0 ∷ [] }))
          ≡ cond t step (record { state = x; out = record { level = 0; answer = silent 0 } })
      go true = one-ran
      go false = refl

  -- what a refused one gives
  run-turned : (e : Refusal) → number_of e ≡ board_run_refusal p x (g ∷ []) (w ∷ []) (0 ∷ []) (0 ∷ []) (0 ∷ [])
      → board_run_gives p x joined (g ∷ []) (w ∷ []) (0 ∷ []) (0 ∷ []) (0 ∷ [])
      ≡ record { state = x; used = 0; finished = 0; levels = 0 ∷ []; bytes = 0 ∷ []; words = 0 ∷ [] }
  unfolding board_run_gives
  run-turned e n = rw (← n, refused e) refl

  clock-turned : (e : Refusal) → number_of e ≡ board_clock_refusal p x g
      → board_clock_gives p x joined g w ≡ record { state = x; out = record { level = 0; answer = silent 0 } }
  unfolding board_clock_gives
  clock-turned e n = rw (← n, refused e) refl

-- the result of a clock from that of the run of one byte
abbrev one_of : Result BoardRun Refusal → List ℕ → List ℕ → List ℕ → Result BoardClock Refusal
one_of (Ok r) lv bs ws =
    Ok (record { board = r.board; level = get_or lv 0 0; byte = get_or bs 0 0; word = get_or ws 0 0; finished = r.finished })
one_of (Err e) lv bs ws = Err e

pub one_holds : (b : coded.Board) (p s : List ℕ) (joined : Bool) (g w : ℕ) (r : Result BoardRun Refusal) (s' lv bs ws : List ℕ)
    → RunHolds b p s joined (g ∷ []) (w ∷ []) (0 ∷ []) (0 ∷ []) (0 ∷ []) r s' lv bs ws
    → ClockHolds b p s joined g w (one_of r lv bs ws) s'
one_holds b p s joined g w (Ok r) s' lv bs ws h = record {
  number = h.number ∙ one-refusal p (board_of b s) joined g w;
  outcome = ap only h.outcome ∙ one-gives p (board_of b s) joined g w;
}
one_holds b p s joined g w (Err e) s' lv bs ws h = record { number = number; outcome = outcome }
  where
    x : Board Lent
    x = board_of b s

    number : number_of e ≡ board_clock_refusal p x g
    number = h.number ∙ one-refusal p x joined g w

    -- the board is as it was passed
    same : board_of b s' ≡ x
    same = ap (λ (y : BoardRan). y.state) (h.outcome ∙ run-turned p x joined g w e h.number)

    outcome : clock_left b (Err e) s' ≡ board_clock_gives p x joined g w
    outcome = ap (λ (y : Board Lent). record { state = y; out = record { level = 0; answer = silent 0 } }) same
        ∙ sym (clock-turned p x joined g w e number)
