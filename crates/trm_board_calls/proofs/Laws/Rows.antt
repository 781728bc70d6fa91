-- Rows 3, 4 and 5 of the board's calls: what a number of 0 says, and that they come before the call's own rows; what an accepted run is
-- ready for.
-- Idea: by cases on the tests.
use Prim.Native.Nat.{ℕ, ◌+◌, ◌^◌, ◌≤◌, ◌<◌}
use mathlib.Core.Path.{◌≡◌, refl, sym, ap, ◌∙◌}
use mathlib.Core.Bool.{Bool, true, false, cond, not, ◌||◌}
use mathlib.Core.List.{List}
use lib.ListN.{length}
use lib.Dec.{eqb, ltb}
use borrow.Author.Tests.{eqb-true, ltb-false}
use native.Mathlib.Omega.{arith}
use mir.Val.{Val}
use denote.Laws.{Is}
use denote.Struct.Declared.{row}
use denote.Struct.Laws as LL
use Rattle.trm_laws.proofs.Tests.{clash}
use Rattle.trm_reference.specs.Geometry.{paper_geometry}
use Rattle.trm_core.specs.Record.{Lent}
use Rattle.trm_core.specs.Rule.{record_ok}
use Rattle.trm_core.specs.Claims.{Shaped}
use Rattle.trm_core.specs.Refusals.{all_at_most, program_ok, store_ok, record_rows, count_row, line_bytes_refused}
use Rattle.trm_core.proofs.Laws.Rows.{Passed, rows-passed, rows-rest}
use Rattle.trm_call_refusals.specs.declared.refusal.Refusal.{Refusal}
use Rattle.trm_call_refusals.specs.Numbers.{number_of}
use Rattle.trm_call_refusals.proofs.Laws.{refused, passed_clocks}
pub use Rattle.trm_call_refusals.proofs.Laws.{passed_length}
use Rattle.trm_run_machine.specs.Machine.{record_of}
use Rattle.trm_run_machine.proofs.Laws.Shape.{shaped_by_type}
use Rattle.trm_serial.specs.Timing.{paper_timing}
use Rattle.trm_board.specs.Board.{Board}
use Rattle.trm_board.specs.Rule.{devices_ok}
use Rattle.trm_board.proofs.Laws.Ranges.{in_range}
use Rattle.trm_board_calls.specs.declared.board_record.Board as coded
use Rattle.trm_board_calls.specs.Refusals.{board_rows, board_run_rows, board_run_refusal}
use Rattle.trm_board_calls.specs.Coded.{Ready}
use Rattle.trm_board_calls.specs.contracts.board_record.Board as T
use Rattle.trm_board_calls.proofs.board_record.Board.TheLaws as T'

-- the lengths of the arrays follow from the record's type
pub shaped-board : (b : coded.Board) (vs : List Val) → Is (row T.the_type) b vs → Shaped paper_geometry (record_of b.machine)
shaped-board b vs is = shaped_by_type b.machine _ (LL.owed T.the_type T'.the_laws b vs is).0

pub record Through (p : List ℕ) (x : Board Lent) : Type 0 where
  pub core : Passed paper_geometry p x.core.machine x.core.store
  pub devices : devices_ok paper_timing x.devices ≡ true

module _ (p : List ℕ) (x : Board Lent) where
  pub board-through : (rest : ℕ) → board_rows p x rest ≡ 0 → Through p x × (rest ≡ 0)
  unfolding board_rows
  board-through rest e = let a = rows-passed paper_geometry p x.core.machine x.core.store _ e in
      go (devices_ok paper_timing x.devices) refl a.1 a.0
    where
      go : (t : Bool) → devices_ok paper_timing x.devices ≡ t → cond (not t) 5 rest ≡ 0
          → Passed paper_geometry p x.core.machine x.core.store → Through p x × (rest ≡ 0)
      go true q z a = (record { core = a; devices = q }, z)
      go false q z a = absurd (omega arith)

  pub board-rest : (rest : ℕ) → Through p x → board_rows p x rest ≡ rest
  unfolding board_rows
  board-rest rest h = rows-rest paper_geometry p x.core.machine x.core.store _ h.core ∙ rw h.devices

  pub board-kept : (rest : ℕ) → eqb (board_rows p x 0) 0 ≡ false → board_rows p x 0 ≡ board_rows p x rest
  unfolding board_rows record_rows
  board-kept rest = go (program_ok p) (store_ok x.core.machine x.core.store)
      (record_ok paper_geometry p (length x.core.store) x.core.machine) (devices_ok paper_timing x.devices)
    where
      go : (a b c e : Bool) → eqb (cond (not a) 3 (cond (not b) 4 (cond (not c) 5 (cond (not e) 5 0)))) 0 ≡ false
          → ◌≡◌ {A = ℕ} (cond (not a) 3 (cond (not b) 4 (cond (not c) 5 (cond (not e) 5 0))))
          (cond (not a) 3 (cond (not b) 4 (cond (not c) 5 (cond (not e) 5 rest))))
      go false b c e q = refl
      go true false c e q = refl
      go true true false e q = refl
      go true true true false q = refl
      go true true true true q = clash (sym q)

  -- of the number that a function returned: refused, passed, and then the clock count
  pub number_kept : (rest : ℕ) (e : Refusal) → number_of e ≡ board_rows p x 0 → number_of e ≡ board_rows p x rest
  number_kept rest e n = n ∙ board-kept rest (ap (λ k. eqb k 0) (sym n) ∙ refused e)

  pub board_own : (rest : ℕ) → 0 ≡ board_rows p x 0 → board_rows p x rest ≡ rest
  board_own rest z = board-rest rest (board-through 0 (sym z)).0

  pub board_counted : 0 ≡ board_rows p x 0 → x.core.machine.scalars.counts.clocks < 2 ^ 32
  board_counted z = passed_clocks p (length x.core.store) x.core.machine (board-through 0 (sym z)).0.core.rule

  ready-through : (more : ℕ) → Through p x → Shaped paper_geometry x.core.machine
      → x.core.machine.scalars.counts.clocks + more ≤ 4294967295 → Ready p x more
  ready-through more h sh room = record {
    program = h.core.program;
    store = h.core.store;
    rule = h.core.rule;
    shaped = sh;
    room = room;
    devices = in_range x.devices h.devices;
  }

  room_of : (k n : ℕ) → count_row k n ≡ 0 → k + n ≤ 4294967295
  unfolding count_row
  room_of k n = go (ltb 4294967295 (k + n)) refl
    where
      go : (t : Bool) → ltb 4294967295 (k + n) ≡ t → ◌≡◌ {A = ℕ} (cond t 8 0) 0 → k + n ≤ 4294967295
      go true e z = absurd (omega arith)
      go false e z = ltb-false 4294967295 (k + n) e

-- rows 6 to 8 of a run, as tests
pub board_run_rows_are : (clocks : ℕ) (gs ws lv bs os : List ℕ) → board_run_rows clocks gs ws lv bs os
    ≡ cond (not (eqb (length gs) (length ws)) || ltb 65536 (length gs) || not (all_at_most 7 gs)) 6
    (cond (not (eqb (length lv) (length gs)) || not (eqb (length bs) (length gs)) || not (eqb (length os) (length gs))) 7
    (cond (ltb 4294967295 (clocks + length gs)) 8 0))
unfolding board_run_rows line_bytes_refused count_row
board_run_rows_are clocks gs ws lv bs os = refl

pub ruleset run_laws = (number_kept, board_own, board_counted, board_run_rows_are, passed_length)

-- rows 6 to 8 of a run
pub record Own (clocks : ℕ) (gs ws lv bs os : List ℕ) : Type 0 where
  pub fed : length gs ≡ length ws
  pub wide : length lv ≡ length gs
  pub broad : length bs ≡ length gs
  pub long : length os ≡ length gs
  pub room : clocks + length gs ≤ 4294967295

pub own-rows : (clocks : ℕ) (gs ws lv bs os : List ℕ) → board_run_rows clocks gs ws lv bs os ≡ 0 → Own clocks gs ws lv bs os
unfolding board_run_rows line_bytes_refused count_row
own-rows clocks gs ws lv bs os =
    go (eqb (length gs) (length ws)) refl (ltb 65536 (length gs)) (not (all_at_most 7 gs)) (eqb (length lv) (length gs)) refl
    (eqb (length bs) (length gs)) refl (eqb (length os) (length gs)) refl (ltb 4294967295 (clocks + length gs)) refl
  where
    go : (a : Bool) → eqb (length gs) (length ws) ≡ a → (b c : Bool) → (d : Bool) → eqb (length lv) (length gs) ≡ d
        → (e : Bool) → eqb (length bs) (length gs) ≡ e → (f : Bool) → eqb (length os) (length gs) ≡ f
        → (g : Bool) → ltb 4294967295 (clocks + length gs) ≡ g
        → ◌≡◌ {A = ℕ} (cond (not a || b || c) 6 (cond (not d || not e || not f) 7 (cond g 8 0))) 0 → Own clocks gs ws lv bs os
    go false x b c d u e v f w g t q = absurd (omega arith)
    go true x true c d u e v f w g t q = absurd (omega arith)
    go true x false true d u e v f w g t q = absurd (omega arith)
    go true x false false false u e v f w g t q = absurd (omega arith)
    go true x false false true u false v f w g t q = absurd (omega arith)
    go true x false false true u true v false w g t q = absurd (omega arith)
    go true x false false true u true v true w true t q = absurd (omega arith)
    go true x false false true u true v true w false t q = record {
      fed = eqb-true (length gs) (length ws) x;
      wide = eqb-true (length lv) (length gs) u;
      broad = eqb-true (length bs) (length gs) v;
      long = eqb-true (length os) (length gs) w;
      room = ltb-false 4294967295 (clocks + length gs) t;
    }

-- a run that is not refused
pub ready-run : (p : List ℕ) (x : Board Lent) (gs ws lv bs os : List ℕ) → Shaped paper_geometry x.core.machine
    → board_run_refusal p x gs ws lv bs os ≡ 0 → Ready p x (length gs) × Own x.core.machine.scalars.counts.clocks gs ws lv bs os
unfolding board_run_refusal
ready-run p x gs ws lv bs os sh e = (ready-through p x (length gs) h.0 sh o.room, o)
  where
    h : Through p x × (board_run_rows x.core.machine.scalars.counts.clocks gs ws lv bs os ≡ 0)
    h = board-through p x (board_run_rows x.core.machine.scalars.counts.clocks gs ws lv bs os) e

    o : Own x.core.machine.scalars.counts.clocks gs ws lv bs os
    o = own-rows x.core.machine.scalars.counts.clocks gs ws lv bs os h.1
