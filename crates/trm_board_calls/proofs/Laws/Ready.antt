-- What was checked once holds for every clock: a board that is ready for so many clocks is ready for one less after a clock.
-- Idea: the core keeps its record's rule (`record_kept`), and the devices their ranges.
use Prim.Native.Nat.{ℕ, suc, ◌+◌, ◌/◌, ◌-◌, ◌≤◌, ◌<◌}
use mathlib.Core.Path.{◌≡◌, sym, ◌∙◌}
use mathlib.Core.Bool.{Bool, true, false, cond}
use mathlib.Core.List.{List}
use lib.ListN.{length, get_or}
use lib.Dec.{eqb}
use borrow.Author.Tests.{le-ltb, eqb-true}
use native.Mathlib.Omega.{arith}
use Rattle.trm_laws.proofs.Tests.{both}
use Rattle.trm_word.specs.Address.{store_length_ok}
use Rattle.trm_reference.specs.Geometry.{paper_geometry}
use Rattle.trm_reference.specs.Access.{Answer}
use Rattle.trm_reference.specs.Trace.{After}
use Rattle.trm_core.specs.Record as core-record
use Rattle.trm_core.specs.Record.{Lent}
use Rattle.trm_core.specs.Claims.{Kept}
use Rattle.trm_core.specs.Refusals.{clock_refusal, clock_rows, count_row, store_ok}
use Rattle.trm_core.proofs.Theorems as core
use Rattle.trm_core.proofs.Laws.Rows.{legal_of, rows-rest}
use Rattle.trm_clock_laws.proofs.Laws.Facts.{paper_ok}
use Rattle.trm_run_phases.proofs.Laws.Adds.{Clocks, clock-adds}
use Rattle.trm_serial.specs.Timing.{paper_timing, frame}
use Rattle.trm_serial.specs.declared.record.Serial.{Serial}
use Rattle.trm_serial.specs.Serial.{level, busy, levels}
use Rattle.trm_serial.proofs.Laws.Places.{level-bit}
use Rattle.trm_board.specs.Board.{Inputs, Board, Shown, line_byte, line_in, fed, core_clock, board_clock}
use Rattle.trm_board.proofs.Laws.Ranges.{in_range-clock}
use Rattle.trm_board_calls.specs.Cores.{record_core}
use Rattle.trm_board_calls.specs.Coded.{Ready}

-- a level is 0 or 1
pub level-small : (s : Serial) → level paper_timing s ≤ 1
unfolding level
level-small s = go (busy s)
  where
    go : (t : Bool) → cond t (get_or (levels s.sent) ((frame paper_timing - s.left) / 1012) 1) 1 ≤ 1
    go true = level-bit s.sent ((frame paper_timing - s.left) / 1012)
    go false = omega arith

-- what a clock takes has one bit for each line
pub record Bits (i : Inputs) : Type 0 where
  pub line : i.line ≤ 1
  pub interrupt : i.interrupt ≤ 1
  pub stall : i.stall ≤ 1

pub line_small : (s : Serial) (i : Inputs) → Bits i → line_in paper_timing s i ≤ 1
unfolding line_in
line_small s i h = go i.joined
  where
    go : (t : Bool) → cond t (level paper_timing s) i.line ≤ 1
    go true = level-small s
    go false = h.line

-- the store has the length that the record keeps
sized : (m : core-record.Machine) (s : List ℕ) → store_ok m s ≡ true → length s ≡ m.scalars.size
unfolding store_ok
sized m s = both (store_length_ok (length s)) (eqb (length s) m.scalars.size) (λ a b. eqb-true (length s) m.scalars.size b)

module _ (p : List ℕ) (x : Board Lent) (k : ℕ) (h : Ready p x (suc k)) where
  pub ready_legal : store_length_ok (length x.core.store) ≡ true
  ready_legal = legal_of x.core.machine x.core.store h.store

  pub ready-count : x.core.machine.scalars.counts.clocks < 4294967296
  ready-count = let r = h.room in omega arith

  -- the core accepts a clock with any line byte
  pub ready-core : (lines : ℕ) → lines ≤ 7 → clock_refusal paper_geometry p x.core.machine x.core.store lines ≡ 0
  unfolding clock_refusal clock_rows count_row
  ready-core lines l =
      rows-rest paper_geometry p x.core.machine x.core.store _ (record { program = h.program; store = h.store; rule = h.rule })
      ∙ rw (le-ltb 7 lines l, le-ltb 4294967295 (x.core.machine.scalars.counts.clocks + 1) (let r = h.room in omega arith))

  module _ (i : Inputs) (bits : Bits i) where
    abbrev u : After Lent Answer
    u = core_clock paper_timing (record_core paper_geometry p) x i

    pub lines_fit : line_byte x.devices.tick i ≤ 7
    lines_fit = let t = h.devices.tick in let a = bits.interrupt in let b = bits.stall in omega arith

    kept : Kept paper_geometry p u.state
    unfolding fed
    kept = (core.theorems).record_kept paper_geometry p x.core (fed paper_timing (record_core paper_geometry p) x i) paper_ok h.shaped
        (ready-core (line_byte x.devices.tick i) lines_fit)

    adds : Clocks x.core.machine.scalars u
    adds = clock-adds p x.core (fed paper_timing (record_core paper_geometry p) x i)

    abbrev next : After (Board Lent) Shown
    next = board_clock paper_timing (record_core paper_geometry p) x i

    pub ready-next : Ready p next.state k
    unfolding board_clock
    ready-next = record {
      program = h.program;
      store = kept.store;
      rule = kept.record_ok_lem;
      shaped = kept.shaped;
      room = (let c = adds.adds in let r = h.room in omega arith);
      devices = in_range-clock (line_in paper_timing x.devices.serial i) _ _ _ x.devices (line_small x.devices.serial i bits)
          h.devices;
    }

    -- the store keeps its length; a clock executes at most one word
    pub long-next : length next.state.core.store ≡ length x.core.store
    unfolding board_clock
    long-next = sized u.state.machine u.state.store kept.store ∙ adds.size ∙ sym (sized x.core.machine
        x.core.store h.store)

    pub done_next : next.out.answer.done ≤ 1
    unfolding board_clock
    done_next = adds.done

    pub level-next : next.out.level ≤ 1
    unfolding board_clock
    level-next = level-small x.devices.serial
