-- A run of the first k bytes of a run, if it is not refused, returns the first k clocks of that run.
-- Idea: the contract gives its clock history, and the history of the first k inputs is the first k of the history.
--   run_prefix
use Prim.Native.Nat.{ℕ, zero, suc, ◌≤◌}
use mathlib.Core.Path.{◌≡◌, refl, sym, ap, ap₂, ◌∙◌}
use mathlib.Core.Bool.{Bool}
use mathlib.Core.List.{List, [], ◌∷◌}
use lib.ListN.{length, take}
use lib.Seq.{length-take-le}
use borrow.Author.Tests.{eq-eqb}
use Rattle.trm_reference.specs.Geometry.{paper_geometry}
use Rattle.trm_reference.specs.Trace.{end_of, outs_of}
use Rattle.trm_core.specs.Record.{Lent}
use Rattle.trm_serial.specs.Timing.{paper_timing}
use Rattle.trm_board.specs.Board.{inputs_of, Board as BoardOf, board_clock}
use Rattle.trm_board_calls.specs.declared.board_record.Board.{Board}
use Rattle.trm_board_calls.specs.Cores.{record_core}
use Rattle.trm_board_calls.specs.Refusals.{board_run_refusal}
use Rattle.trm_board_calls.specs.Run.{run_inputs, BoardRan, board_history, board_run_of}
use Rattle.trm_board_calls.specs.Coded.{board_of}
use Rattle.trm_board_calls.specs.Promises.{board_run_gives}
use Rattle.trm_agreement.proofs.Laws.Log.{clocks-take}
use Rattle.trm_board_agreement.specs.Calls.{run_call, feed, run_ends}
use Rattle.trm_board_agreement.specs.Exchange.{Returned, clock_returned, run_returned, code_returned, board_left, store_left, Meets}
use Rattle.trm_board_agreement.specs.Exchange.{ended_by}
use Rattle.trm_board_agreement.specs.Demand.{Prefix}
use Rattle.trm_board_agreement.proofs.Laws.Contracts.{Facts, facts}
use Rattle.trm_board_agreement.proofs.Laws.Returns.{ran_of, ends}

-- the first k clocks of a run
inputs_take : (joined : Bool) (k : ℕ) (gs ws : List ℕ) → run_inputs joined (take k gs) (take k ws) ≡ take k (run_inputs joined gs ws)
unfolding run_inputs
inputs_take joined zero gs ws = refl
inputs_take joined (suc k) [] ws = refl
inputs_take joined (suc k) (g ∷ gs) [] = refl
inputs_take joined (suc k) (g ∷ gs) (w ∷ ws) = ap (λ is. inputs_of joined g w ∷ is) (inputs_take joined k gs ws)

history-take : (p : List ℕ) (x : BoardOf Lent) (joined : Bool) (k : ℕ) (gs ws : List ℕ)
    → board_history p x (run_inputs joined (take k gs) (take k ws)) ≡ take k (board_history p x (run_inputs joined gs ws))
history-take p x joined k gs ws =
    ap (board_history p x) (inputs_take joined k gs ws)
    ∙ sym (clocks-take (board_clock paper_timing (record_core paper_geometry p)) k x (run_inputs joined gs ws))

prefix-of : (p : List ℕ) (b : Board) (s gs ws lv bs os lv₀ bs₀ os₀ : List ℕ) (j : Bool) (k : ℕ) (a : Returned) → k ≤ length gs
    → Facts p b s (run_call j (take k gs) (take k ws) lv₀ bs₀ os₀) a → code_returned a ≡ 0 → Prefix p b s (run_call j gs ws lv bs os) k a
unfolding Facts board_run_gives board_run_of code_returned board_left store_left ended_by feed
prefix-of p b s gs ws lv bs os lv₀ bs₀ os₀ j k (clock_returned number left store out) few h z = absurd h
prefix-of p b s gs ws lv bs os lv₀ bs₀ os₀ j k (run_returned number left store used finished lv' bs' os') few h z = record {
  state = ap (λ u. u.state) taken ∙ ap (end_of (board_of b s)) history;
  reports = ap (λ n. run_ends n used finished lv' bs' os') z
      ∙ ap (λ (u : BoardRan). run_ends 0 u.used u.finished u.levels u.bytes u.words) taken
      ∙ ap₂ (λ n ts. ends n (outs_of ts)) (length-take-le k gs few) history;
}
  where
    history : board_history p (board_of b s) (run_inputs j (take k gs) (take k ws))
        ≡ take k (board_history p (board_of b s) (run_inputs j gs ws))
    history = history-take p (board_of b s) j k gs ws

    taken : ran_of left store used finished lv' bs' os' ≡ board_run_of p (board_of b s) j (take k gs) (take k ws)
    taken = h.outcome ∙ rw (eq-eqb (board_run_refusal p (board_of b s) (take k gs) (take k ws) lv₀ bs₀ os₀) 0 (sym h.number ∙ z))

pub run_prefix : (p : List ℕ) (b : Board) (s gs ws lv bs os lv₀ bs₀ os₀ : List ℕ) (j : Bool) (k : ℕ) (a : Returned) → k ≤ length gs
    → Meets p b s (run_call j (take k gs) (take k ws) lv₀ bs₀ os₀) a → code_returned a ≡ 0 → Prefix p b s (run_call j gs ws lv bs os) k a
run_prefix p b s gs ws lv bs os lv₀ bs₀ os₀ j k a few h z = prefix-of p b s gs ws lv bs os lv₀ bs₀ os₀ j k a few
    (facts p b s (run_call j (take k gs) (take k ws) lv₀ bs₀ os₀) a h) z
