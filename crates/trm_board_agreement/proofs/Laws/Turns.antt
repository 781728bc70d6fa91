-- The turns of a log of board calls are those of the board, and what its calls give: one bit for each line, and the line joined to itself
-- if it is so in every call.
-- Idea: by the two inductions over a list of calls; the rest clock by clock.
--   turns-calls, inputs_turns, end_is    the turns, and the last state        fed-bits, fed-joined    what the calls give
--   range-end    the fields stay in their ranges
use Prim.Native.Nat.{ℕ}
use mathlib.Core.Path.{◌≡◌, refl, ap, ◌∙◌}
use mathlib.Core.Bool.{true}
use mathlib.Core.List.{List, [], ◌∷◌, ◌++◌}
use Rattle.trm_laws.proofs.Tests.{both, ◌&t◌}
use Rattle.trm_reference.specs.Geometry.{paper_geometry}
use Rattle.trm_reference.specs.Trace.{After, clocks, end_of}
use Rattle.trm_core.specs.Record.{Lent}
use Rattle.trm_serial.specs.Timing.{paper_timing}
use Rattle.trm_board.specs.Board.{Inputs, Board, Shown, line_in, board_clock}
use Rattle.trm_board.specs.Rule.{InRange}
use Rattle.trm_board.specs.Turns.{Turn, turns, board_end, all_joined, inputs_in}
use Rattle.trm_board.proofs.Laws.Ranges.{in_range-clock}
use Rattle.trm_board_calls.specs.Cores.{record_core}
use Rattle.trm_board_calls.specs.Run.{run_inputs}
use Rattle.trm_board_calls.proofs.Laws.Ready.{Bits, line_small}
use Rattle.trm_agreement.specs.Log.{entries, calls, fed_of}
use Rattle.trm_agreement.specs.Demand.{All}
use Rattle.trm_board_agreement.specs.Calls.{BoardCall, clock_call, run_call, feed, answer, is_joined, joined_calls, board_seen}
use Rattle.trm_board_agreement.specs.Calls.{record_board}
use Rattle.trm_board_agreement.specs.Shown.{turns_in}
use Rattle.trm_board_agreement.proofs.Laws.InStep.{fine}
use Rattle.trm_board_agreement.proofs.Laws.Reads.{read-calls, fed-has}

all_append : {A : Type 0} (Q : A → Type 0) (xs ys : List A) → All Q xs → All Q ys → All Q (xs ++ ys)
unfolding All
all_append Q [] ys h k = k
all_append Q (x ∷ xs) ys h k = (h.0, all_append Q xs ys h.1 k)

module _ (p : List ℕ) where
  abbrev step : Board Lent → Inputs → After (Board Lent) Shown
  step x i = board_clock paper_timing (record_core paper_geometry p) x i

  abbrev turns_of : Board Lent → List Inputs → List Turn
  turns_of x is = turns paper_timing (record_core paper_geometry p) x is

  abbrev fed_by : Board Lent → List BoardCall → List Inputs
  fed_by x cs = fed_of feed answer (record_board p) x cs

  pub end_is : (x : Board Lent) (is : List Inputs) → board_end paper_timing (record_core paper_geometry p) x is
      ≡ end_of x (clocks step x is)
  unfolding board_end end_of clocks
  end_is x [] = refl
  end_is x (i ∷ is) = end_is (step x i).state is

  turns-clocks : (is : List Inputs) (x : Board Lent)
      → turns_in (board_seen x) (entries feed answer (record_board p) (clocks step x is) is) ≡ turns_of x is
  unfolding turns_in entries clocks turns record_board
  turns-clocks [] x = refl
  turns-clocks (i ∷ is) x = ap (λ (ts : List Turn). record { before = x.devices; input = i; shown = (step x i).out } ∷ ts)
      (turns-clocks is (step x i).state)

  pub turns-calls : (x : Board Lent) (cs : List BoardCall)
      → turns_in (board_seen x) (calls feed answer (record_board p) x cs) ≡ turns_of x (fed_by x cs)
  unfolding turns_in record_board
  turns-calls x cs = read-calls (record_board p) turns_in (λ w i v o. record { before = w.devices; input = i; shown = o })
      (λ w i v o es. refl) (λ w v a es. refl) x cs
      ∙ turns-clocks (fed_by x cs) x

  pub inputs_turns : (x : Board Lent) (is : List Inputs) → inputs_in (turns_of x is) ≡ is
  unfolding inputs_in turns
  inputs_turns x [] = refl
  inputs_turns x (i ∷ is) = ap (λ js. i ∷ js) (inputs_turns (step x i).state is)

  -- what the calls give has one bit for each line
  pub fed-bits : (x : Board Lent) (cs : List BoardCall) → All Bits (fed_by x cs)
  unfolding All
  fed-bits x cs =
      fed-has (record_board p) (λ cs is. All Bits is) tt (λ c cs is h. all_append Bits (feed c) is (fine c) h) (λ c cs is h. h) x cs

  -- the fields stay in their ranges
  pub range-end : (is : List Inputs) (x : Board Lent) → All Bits is → InRange x.devices → InRange (end_of x (clocks step x is)).devices
  unfolding clocks end_of All
  range-end [] x f h = h
  range-end (i ∷ is) x f h = range-end is (step x i).state f.1 (next f.0 h)
    where
      next : Bits i → InRange x.devices → InRange (step x i).state.devices
      next b h = unfold board_clock in
          (in_range-clock (line_in paper_timing x.devices.serial i) _ _ _ x.devices (line_small x.devices.serial i b) h)

  -- calls with the line joined to itself give clocks with the line joined to itself
  joined-append : (is js : List Inputs) → all_joined is ≡ true → all_joined js ≡ true → all_joined (is ++ js) ≡ true
  unfolding all_joined
  joined-append [] js a b = b
  joined-append (i ∷ is) js a b = both i.joined (all_joined is) (λ u v. u &t joined-append is js v b) a

  joined-run : (gs ws : List ℕ) → all_joined (run_inputs true gs ws) ≡ true
  unfolding all_joined run_inputs
  joined-run [] ws = refl
  joined-run (g ∷ gs) [] = refl
  joined-run (g ∷ gs) (w ∷ ws) = joined-run gs ws

  joined-feed : (c : BoardCall) → is_joined c ≡ true → all_joined (feed c) ≡ true
  unfolding is_joined feed all_joined
  joined-feed (clock_call joined given switches) e = rw e
  joined-feed (run_call joined given switches levels bytes words) e = rw e (joined-run given switches)

  pub fed-joined : (x : Board Lent) (cs : List BoardCall) → joined_calls cs ≡ true → all_joined (fed_by x cs) ≡ true
  unfolding joined_calls all_joined
  fed-joined x cs = fed-has (record_board p) (λ cs is. joined_calls cs ≡ true → all_joined is ≡ true) (λ e. refl)
      (λ c cs is h. both (is_joined c) (joined_calls cs) (λ u v. joined-append (feed c) is (joined-feed c u) (h v)))
      (λ c cs is h. both (is_joined c) (joined_calls cs) (λ u v. h v)) x cs
