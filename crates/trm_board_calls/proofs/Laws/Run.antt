-- A run's state, buffers and counts, clock by clock.
-- Idea: what is still to be written into the buffer as it is now is what all clocks write into it as lent; at the end nothing is left.
use Prim.Native.Nat.{ℕ, suc, ◌+◌, ◌-◌, ◌≤◌, ◌<◌}
use mathlib.Core.Path.{◌≡◌, refl, sym, ap, subst, ◌∙◌}
use mathlib.Core.Bool.{Bool}
use mathlib.Core.List.{List, [], ◌∷◌, ◌++◌, append_assoc}
use lib.ListN.{length, get_or, drop, set, length-set, length-append, drop_of_length-le}
use lib.Seq.{drop-cons, set-append_seam}
use native.Mathlib.Omega.{arith}
use native.Mathlib.Numerals.{add-one}
use Rattle.trm_reference.specs.Geometry.{paper_geometry}
use Rattle.trm_reference.specs.Trace.{After, clocks, end_of, outs_of, finished_in}
use Rattle.trm_core.specs.Record.{Lent}
use Rattle.trm_serial.specs.Timing.{paper_timing}
use Rattle.trm_board.specs.Board.{inputs_of, Board, Shown, board_clock}
use Rattle.trm_board_calls.specs.Cores.{record_core}
use Rattle.trm_board_calls.specs.Run.{run_inputs, answers_of, column, level_of, byte_of, word_of, BoardRan, board_history, board_run_of}
use Rattle.trm_board_calls.specs.Running.{Stage, stage, filled, Lengths, rest, Running}
use Rattle.trm_board_calls.specs.Coded.{Ready}
use Rattle.trm_board_calls.proofs.Laws.Ready.{ready-next, long-next, done_next}
use Rattle.trm_board_calls.proofs.Laws.Clock.{input-bits}

filled-from : (f : Shown → ℕ) (xs ys : List ℕ) (os : List Shown) (n : ℕ) → length xs ≡ n → length ys ≡ length os
    → filled f (xs ++ ys) n os ≡ xs ++ column f os
unfolding filled column
filled-from f xs [] [] n e h = refl
filled-from f xs (y ∷ ys) [] n e h = absurd (omega arith)
filled-from f xs [] (o ∷ os) n e h = absurd (omega arith)
filled-from f xs (y ∷ ys) (o ∷ os) n e h =
    ap (λ l. filled f l (n + 1) os) (subst (λ k. set (xs ++ y ∷ ys) k (f o) ≡ (xs ++ f o ∷ []) ++ ys) e
    (set-append_seam xs y ys (f o) ∙ sym (append_assoc xs (f o ∷ []) ys)))
    ∙ filled-from f (xs ++ f o ∷ []) ys os (n + 1) (longer xs ∙ ap (λ k. k + 1) e) (omega arith)
    ∙ append_assoc xs (f o ∷ []) (column f os)
  where
    longer : (xs : List ℕ) → length (xs ++ f o ∷ []) ≡ length xs + 1
    longer xs = length-append xs (f o ∷ [])

filled-all : (f : Shown → ℕ) (list : List ℕ) (os : List Shown) → length list ≡ length os → filled f list 0 os ≡ column f os
filled-all f list os h = filled-from f [] list os 0 refl h

module _ (p : List ℕ) (joined : Bool) where
  abbrev step : Board Lent → ℕ → ℕ → After (Board Lent) Shown
  step x given switches = board_clock paper_timing (record_core paper_geometry p) x (inputs_of joined given switches)

  outs-length : (x : Board Lent) (gs ws : List ℕ) → length gs ≡ length ws
      → length (outs_of (board_history p x (run_inputs joined gs ws))) ≡ length gs
  unfolding clocks outs_of run_inputs
  outs-length x [] ws e = refl
  outs-length x (g ∷ gs) [] e = absurd (omega arith)
  outs-length x (g ∷ gs) (w ∷ ws) e = ap suc (outs-length (step x g w).state gs ws (omega arith))

  -- the lists of an accepted run
  pub lengths-from : (x : Board Lent) (gs ws lv bs os : List ℕ) → Ready p x (length gs) → length gs ≡ length ws → length lv ≡ length gs
      → length bs ≡ length gs → length os ≡ length gs → Lengths gs ws (stage x 0 0 lv bs os)
  lengths-from x gs ws lv bs os h a b c d =
      record { same = a; wide = b; broad = c; long = d; many = (let r = h.room in omega arith) }

  module _ (gs ws : List ℕ) where
    abbrev Runs : Stage → Stage → Type 0
    Runs q₀ q = Running p joined gs ws q₀ q

    abbrev coming : Board Lent → ℕ → List (After (Board Lent) Shown)
    coming x at = rest p joined gs ws x at

    pub running-begins : (x : Board Lent) (lv bs os : List ℕ) → Ready p x (length gs) → Lengths gs ws (stage x 0 0 lv bs os)
        → Runs (stage x 0 0 lv bs os) (stage x 0 0 lv bs os)
    running-begins x lv bs os h l = record {
      below = omega arith;
      ready = subst (λ k. Ready p x k) (omega arith) h;
      size = refl;
      state = refl;
      count = omega arith;
      few = omega arith;
      levels = refl;
      bytes = refl;
      words = refl;
      lengths = l;
    }

    module _ (q₀ : Stage) (x : Board Lent) (fin at : ℕ) (lv bs os : List ℕ) (g : Runs q₀ (stage x fin at lv bs os)) where
      module _ (less : at < length gs) where
        -- ready for the next clock
        ready-more : Ready p x (suc (length gs - at - 1))
        ready-more = subst (λ k. Ready p x k) (omega arith) g.ready

        pub ready-one : Ready p x 1
        ready-one = let r = ready-more in record {
          program = r.program;
          store = r.store;
          rule = r.rule;
          shaped = r.shaped;
          room = (let z = r.room in omega arith);
          devices = r.devices;
        }

        module _ (t : After (Board Lent) Shown) (e : t ≡ step x (get_or gs at 0) (get_or ws at 0)) where
          -- the clock is the first of those to come
          first : coming x at ≡ t ∷ coming t.state (at + 1)
          unfolding clocks run_inputs
          first = rw (drop-cons gs at 0 less, drop-cons ws at 0 (let z = g.lengths.same in omega arith), add-one)
              (sym (ap (λ (y : After (Board Lent) Shown). y ∷ board_history p y.state (run_inputs joined (drop (suc at) gs) (drop
              (suc at) ws))) e))

          written : (f : Shown → ℕ) (l l₀ : List ℕ) → filled f l at (outs_of (coming x at)) ≡ filled f l₀ 0 (outs_of (coming q₀.board 0))
              → filled f (set l at (f t.out)) (at + 1) (outs_of (coming t.state (at + 1))) ≡ filled f l₀ 0 (outs_of
              (coming q₀.board 0))
          unfolding filled outs_of
          written f l l₀ q = sym (ap (λ ts. filled f l at (outs_of ts)) first) ∙ q

          pub done-fits : t.out.answer.done ≤ 1
          done-fits = subst (λ (y : After (Board Lent) Shown). y.out.answer.done ≤ 1) (sym e)
              (done_next p x (length gs - at - 1) ready-more _ (input-bits joined (get_or gs at 0) (get_or ws at 0)))

          pub running-on : Runs q₀ (stage t.state (fin + t.out.answer.done) (at + 1) (set lv at t.out.level)
              (set bs at t.out.answer.byte) (set os at t.out.answer.word))
          unfolding finished_in answers_of outs_of end_of
          running-on = record {
            below = omega arith;
            ready = subst (λ k. Ready p t.state k) (omega arith) (subst (λ (y : After (Board Lent) Shown). Ready p y.state
                (length gs - at - 1)) (sym e)
                (ready-next p x (length gs - at - 1) ready-more _ (input-bits joined (get_or gs at 0) (get_or ws at 0))));
            size = subst (λ (y : After (Board Lent) Shown). length y.state.core.store ≡ length x.core.store) (sym e)
                (long-next p x (length gs - at - 1) ready-more _ (input-bits joined (get_or gs at 0) (get_or ws at 0))) ∙ g.size;
            state = sym (ap (end_of x) first) ∙ g.state;
            count = (let q = ap (λ ts. finished_in (answers_of (outs_of ts))) first in let c = g.count in omega arith);
            few = (let q = g.few in let d = done-fits in omega arith);
            levels = written level_of lv q₀.levels g.levels;
            bytes = written byte_of bs q₀.bytes g.bytes;
            words = written word_of os q₀.words g.words;
            lengths = record {
              same = g.lengths.same;
              wide = length-set lv at t.out.level ∙ g.lengths.wide;
              broad = length-set bs at t.out.answer.byte ∙ g.lengths.broad;
              long = length-set os at t.out.answer.word ∙ g.lengths.long;
              many = g.lengths.many;
            };
          }

      pub running-ends : length gs ≤ at → Lengths gs ws q₀
          → ◌≡◌ {A = BoardRan} (record { state = x; used = length gs; finished = fin; levels = lv; bytes = bs; words = os })
          (board_run_of p q₀.board joined gs ws)
      unfolding board_run_of
      running-ends l n = rw (
        state-is,
        count-is,
        over level_of lv q₀.levels g.levels n.wide,
        over byte_of bs q₀.bytes g.bytes n.broad,
        over word_of os q₀.words g.words n.long,
      )
        where
          x₀ : Board Lent
          x₀ = q₀.board

          none : coming x at ≡ []
          none = unfold clocks run_inputs in (rw (drop_of_length-le gs l))

          state-is : x ≡ end_of x₀ (coming x₀ 0)
          state-is = sym (ap (end_of x) none ∙ unfold end_of in refl) ∙ g.state

          count-is : fin ≡ finished_in (answers_of (outs_of (coming x₀ 0)))
          count-is = (let q = g.count in let n = ap (λ ts. finished_in (answers_of (outs_of ts))) none in
              let z : finished_in (answers_of (outs_of {S = Board Lent} []))
              ≡ 0 = unfold finished_in answers_of outs_of in refl in omega arith)

          over : (f : Shown → ℕ) (v v₀ : List ℕ) → filled f v at (outs_of (coming x at)) ≡ filled f v₀ 0 (outs_of (coming x₀ 0))
              → length v₀ ≡ length gs → v ≡ column f (outs_of (coming x₀ 0))
          over f v v₀ q h =
              sym (ap (λ ts. filled f v at (outs_of ts)) none ∙ unfold filled outs_of in refl) ∙ q
              ∙ filled-all f v₀ (outs_of (coming x₀ 0)) (h ∙ sym (outs-length x₀ gs ws g.lengths.same))
