-- A refused call returns its number and everything else as it was given; after a refused reset every call is refused.
-- Idea: by the contract of the call; a board that no store fits is refused by row 3 or row 4.
--   refused-keeps    refused_reset
use Prim.Native.Nat.{ℕ}
use mathlib.Core.Path.{◌≡◌, refl, sym, ap, ◌∙◌}
use mathlib.Core.Logic.{◌≢◌}
use mathlib.Core.Bool.{Bool, true, false, cond, not}
use mathlib.Core.List.{List, []}
use borrow.Author.Tests.{ne_eqb}
use native.Mathlib.Omega.{arith}
use Rattle.trm_reference.specs.Geometry.{paper_geometry}
use Rattle.trm_reference.specs.Access.{silent}
use Rattle.trm_reference.specs.Trace.{After}
use Rattle.trm_core.specs.Record.{Lent, reset_of}
use Rattle.trm_core.specs.Refusals.{program_ok, record_rows}
use Rattle.trm_run_machine.specs.Machine.{record_of}
use Rattle.trm_board.specs.Board.{Board as BoardOf, Shown}
use Rattle.trm_board_calls.specs.declared.board_record.Board.{Board}
use Rattle.trm_board_calls.specs.Refusals.{board_rows, board_clock_refusal, board_run_refusal}
use Rattle.trm_board_calls.specs.Run.{BoardRan}
use Rattle.trm_board_calls.specs.Coded.{board_of}
use Rattle.trm_board_calls.specs.Promises.{board_clock_gives, board_run_gives}
use Rattle.trm_agreement.proofs.Laws.Demand.{no_store}
use Rattle.trm_agreement.proofs.Laws.Witness.{back as machine_back}
use Rattle.trm_board_agreement.specs.Calls.{BoardCall, clock_call, run_call}
use Rattle.trm_board_agreement.specs.Exchange.{Fails, Returned, clock_returned, run_returned, code_returned, as_given, Meets}
use Rattle.trm_board_agreement.proofs.Laws.Contracts.{failed, Facts, facts}
use Rattle.trm_board_agreement.proofs.Laws.Returns.{ran_of}
use Rattle.trm_board_agreement.proofs.Laws.Witness.{back}

-- a refused call, by its facts
refused-of : (p : List ℕ) (b : Board) (s : List ℕ) (c : BoardCall) (a : Returned) → Facts p b s c a → code_returned a ≢ 0
    → a ≡ as_given b s c (code_returned a)
unfolding Facts board_clock_gives board_run_gives code_returned as_given back machine_back
refused-of p b s (clock_call joined given switches) (clock_returned number left store out) h n =
    ap (λ (u : After (BoardOf Lent) Shown). clock_returned number (back u.state) u.state.core.store u.out) same
  where
    same : ◌≡◌ {A = After (BoardOf Lent) Shown} (record { state = board_of left store; out = out })
        (record { state = board_of b s; out = record { level = 0; answer = silent 0 } })
    same = h.outcome ∙ rw (ne_eqb (board_clock_refusal p (board_of b s) given) 0 (λ z. n (h.number ∙ z)))
refused-of p b s (clock_call joined given switches) (run_returned number left store used finished lv' bs' os') h n = absurd h
refused-of p b s (run_call joined gs ws lv bs os) (clock_returned number left store out) h n = absurd h
refused-of p b s (run_call joined gs ws lv bs os) (run_returned number left store used finished lv' bs' os') h n =
    ap (λ (u : BoardRan). run_returned number (back u.state) u.state.core.store u.used u.finished u.levels u.bytes
    u.words) same
  where
    same : ran_of left store used finished lv' bs' os' ≡ ran_of b s 0 0 lv bs os
    same = h.outcome ∙ rw (ne_eqb (board_run_refusal p (board_of b s) gs ws lv bs os) 0 (λ z. n (h.number ∙ z)))

pub refused-keeps : (p : List ℕ) (b : Board) (s : List ℕ) (c : BoardCall) (a : Returned) → Meets p b s c a → code_returned a ≢ 0
    → a ≡ as_given b s c (code_returned a)
refused-keeps p b s c a h = refused-of p b s c a (facts p b s c a h)

-- a board that no store fits: row 3, or else row 4
no_rows : (p : List ℕ) (b : Board) (s : List ℕ) (rest : ℕ) → record_of b.machine ≡ reset_of paper_geometry []
    → board_rows p (board_of b s) rest ≡ cond (program_ok p) 4 3
unfolding board_rows record_rows
no_rows p b s rest e = rw (no_store b.machine s e) (go (program_ok p))
  where
    go : (t : Bool) → ◌≡◌ {A = ℕ} (cond (not t) 3 4) (cond t 4 3)
    go true = refl
    go false = refl

no_code : (p : List ℕ) (b : Board) (s : List ℕ) (c : BoardCall) (a : Returned) → record_of b.machine ≡ reset_of paper_geometry []
    → Facts p b s c a → code_returned a ≡ cond (program_ok p) 4 3
unfolding Facts code_returned board_clock_refusal board_run_refusal
no_code p b s (clock_call joined given switches) (clock_returned number left store out) e h = h.number ∙ no_rows p b s _ e
no_code p b s (clock_call joined given switches) (run_returned number left store used finished lv' bs' os') e h = absurd h
no_code p b s (run_call joined gs ws lv bs os) (clock_returned number left store out) e h = absurd h
no_code p b s (run_call joined gs ws lv bs os) (run_returned number left store used finished lv' bs' os') e h = h.number ∙ no_rows p b s _ e

pub refused_reset : (s₀ : List ℕ) (b : Board) → Fails s₀ b → (p s : List ℕ) (c : BoardCall) (a : Returned) → Meets p b s c a
    → a ≡ as_given b s c (cond (program_ok p) 4 3)
refused_reset s₀ b f p s c a h =
    refused-keeps p b s c a h (λ z. not-zero (program_ok p) (sym code ∙ z)) ∙ ap (as_given b s c) code
  where
    code : code_returned a ≡ cond (program_ok p) 4 3
    code = no_code p b s c a (failed s₀ b f) (facts p b s c a h)

    not-zero : (t : Bool) → ◌≢◌ {A = ℕ} (cond t 4 3) 0
    not-zero true z = absurd (omega arith)
    not-zero false z = absurd (omega arith)
