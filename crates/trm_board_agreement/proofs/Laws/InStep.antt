-- Two cores in step make two boards in step, so every list of calls gives the same log.
-- Idea: the cores are fed the same, since their answer bytes and clock counts agree; then so do the devices.
--   InStep p n x y    in step, with room for n more clocks        same_board_log
use Prim.Native.Nat.{ℕ, suc, ◌+◌, ◌≤◌}
use mathlib.Core.Path.{◌≡◌, refl, sym, ap, ap₂, subst, ◌∙◌}
use mathlib.Core.Bool.{Bool, true, false, cond, not}
use mathlib.Core.List.{List, [], ◌∷◌}
use lib.ListN.{length}
use lib.Dec.{ltb}
use native.Mathlib.Omega.{arith}
use Rattle.trm_reference.specs.Geometry.{paper_geometry}
use Rattle.trm_reference.specs.Access.{Answer}
use Rattle.trm_reference.specs.Reference.{Reference, reference_clock, reference_reset}
use Rattle.trm_core.specs.Record.{Lent, start}
use Rattle.trm_core.specs.Clock.{clock_of}
use Rattle.trm_core.specs.Refusals.{program_ok, clock_rows, count_row, reset_refusal}
use Rattle.trm_clock_laws.proofs.Laws.Facts.{paper_ok}
use Rattle.trm_clock_device.specs.Device.{device_read}
use Rattle.trm_serial.specs.Timing.{paper_timing}
use Rattle.trm_serial.specs.Serial.{level}
use Rattle.trm_board.specs.declared.record.Devices.{Devices}
use Rattle.trm_board.specs.Core.{pins, asked}
use Rattle.trm_board.specs.Board.{Inputs, Board, reply, line_byte, line_in, devices_clock, devices_reset, fed, board_reset, board_clock}
use Rattle.trm_board.specs.Rule.{InRange}
use Rattle.trm_board.proofs.Theorems as board
use Rattle.trm_board.proofs.Laws.Ranges.{in_range, range-ok, in_range-clock}
use Rattle.trm_board_calls.specs.Cores.{record_core, reference_core}
use Rattle.trm_board_calls.specs.Refusals.{board_rows, board_clock_refusal, board_run_rows, board_run_refusal}
use Rattle.trm_board_calls.specs.Run.{run_inputs}
use Rattle.trm_board_calls.proofs.Laws.Ready.{Bits, line_small}
use Rattle.trm_board_calls.proofs.Laws.Clock.{input-bits}
use Rattle.trm_board_calls.proofs.Laws.Rows.{own-rows}
use Rattle.trm_agreement.specs.Log.{log_of}
use Rattle.trm_agreement.specs.Calls.{Seen}
use Rattle.trm_agreement.specs.Demand.{All}
use Rattle.trm_agreement.proofs.Laws.Simulate.{Together, log-alike}
use Rattle.trm_agreement.proofs.Laws.SameLog.{Tied, tied-step, tied-seen, rows_are, count_room, reset-tied}
use Rattle.trm_board_agreement.specs.Calls.{BoardCall, clock_call, run_call, feed, answer, board_seen, plain_seen, own_rows}
use Rattle.trm_board_agreement.specs.Calls.{record_code, plain_code, record_board, plain_board}

abbrev at : {C : Type 0} → C → Devices → Board C
at c d = record { core = c; devices = d }

-- what a call gives to a clock has one bit for each line
run-fine : (joined : Bool) (gs ws : List ℕ) → All Bits (run_inputs joined gs ws)
unfolding All run_inputs
run-fine joined [] ws = tt
run-fine joined (g ∷ gs) [] = tt
run-fine joined (g ∷ gs) (w ∷ ws) = (input-bits joined g w, run-fine joined gs ws)

pub fine : (c : BoardCall) → All Bits (feed c)
unfolding All feed
fine (clock_call joined given switches) = (input-bits joined given switches, tt)
fine (run_call joined given switches levels bytes words) = run-fine joined given switches

module _ (p : List ℕ) where
  pub record InStep (n : ℕ) (x : Board Lent) (y : Board Reference) : Type 0 where
    pub core : Tied paper_geometry p n x.core y.core
    pub same : x.devices ≡ y.devices
    pub range : InRange x.devices

  same_count : (n : ℕ) (c : Lent) (q : Reference) → Tied paper_geometry p n c q → c.machine.scalars.counts.clocks ≡ q.clocks
  same_count n c q t = sym (ap (λ (r : Reference). r.clocks) t.plain)

  module _ (n : ℕ) (c : Lent) (q : Reference) (d : Devices) (i : Inputs) (t : Tied paper_geometry p (suc n) c q) where
    -- the cores are fed the same
    same_asked : (l : ℕ) → asked (record_core paper_geometry p) c l ≡ asked (reference_core paper_geometry p) q l
    unfolding asked
    same_asked l = ap (λ (a : Answer). device_read a.byte) (tied-step paper_geometry p n c q (pins l 0) t).out

    same-fed : fed paper_timing (record_core paper_geometry p) (at c d) i ≡ fed paper_timing (reference_core paper_geometry p) (at q d) i
    unfolding fed
    same-fed = ap (pins (line_byte d.tick i))
        (ap₂ (λ k v. reply paper_timing d.serial k i.switches v) (same_count (suc n) c q t) (same_asked (line_byte d.tick i)))

    cores : Together (Tied paper_geometry p n) (clock_of paper_geometry p c (fed paper_timing (record_core paper_geometry p) (at c d) i))
        (reference_clock paper_geometry p q (fed paper_timing (reference_core paper_geometry p) (at q d) i))
    cores = subst (λ f. Together (Tied paper_geometry p n) (clock_of paper_geometry p c (fed paper_timing (record_core paper_geometry p)
        (at c d) i))
        (reference_clock paper_geometry p q f)) same-fed
        (tied-step paper_geometry p n c q (fed paper_timing (record_core paper_geometry p) (at c d) i) t)

    step-at : Bits i → InRange d
        → Together (InStep n) (board_clock paper_timing (record_core paper_geometry p) (at c d) i)
        (board_clock paper_timing (reference_core paper_geometry p) (at q d) i)
    unfolding board_clock
    step-at bits range = record {
      state = record {
        core = cores.state;
        same = ap₂ (λ (a : Answer) k. devices_clock paper_timing (line_in paper_timing d.serial i) k a.byte a.word d) cores.out
            (same_count n _ _ cores.state);
        range = in_range-clock (line_in paper_timing d.serial i) _ _ _ d (line_small d.serial i bits) range;
      };
      out = ap (λ (a : Answer). record { level = level paper_timing d.serial; answer = a }) cores.out;
    }

  step : (n : ℕ) (x : Board Lent) (y : Board Reference) (i : Inputs) → Bits i → InStep (suc n) x y
      → Together (InStep n) (board_clock paper_timing (record_core paper_geometry p) x i) (board_clock paper_timing
      (reference_core paper_geometry p) y i)
  step n x y i bits h = subst (λ d. Together (InStep n) (board_clock paper_timing (record_core paper_geometry p) x i)
      (board_clock paper_timing (reference_core paper_geometry p) (at y.core d) i)) h.same
      (step-at n x.core y.core x.devices i h.core bits h.range)

  seen : (n : ℕ) (x : Board Lent) (y : Board Reference) → InStep n x y → board_seen x ≡ plain_seen y
  seen n x y h = ap₂ (λ (c : Seen) (d : Devices). record { core = c; devices = d }) (tied-seen paper_geometry p n x.core y.core
      h.core)
      h.same

  -- a board in step passes rows 4 and 5
  rows : (x : Board Lent) (y : Board Reference) (rest : ℕ) → InStep 0 x y → board_rows p x rest ≡ cond (not (program_ok p)) 3 rest
  unfolding board_rows
  rows x y rest h = rows_are paper_geometry p x.core y.core _ h.core ∙ rw (range-ok x.devices h.range)

  code : (x : Board Lent) (y : Board Reference) (c : BoardCall) → InStep 0 x y → record_code p x c ≡ plain_code p y c
  unfolding record_code plain_code own_rows board_clock_refusal board_run_refusal
  code x y (clock_call joined given switches) h = rows x y _ h
      ∙ ap (λ k. cond (not (program_ok p)) 3 (clock_rows k given)) (same_count 0 x.core y.core h.core)
  code x y (run_call joined given switches levels bytes words) h = rows x y _ h
      ∙ ap (λ k. cond (not (program_ok p)) 3 (board_run_rows k given switches levels bytes words)) (same_count 0 x.core y.core h.core)

  -- a call that passes row 8 has room for its clocks
  run_length : (joined : Bool) (gs ws : List ℕ) → length gs ≡ length ws → length (run_inputs joined gs ws) ≡ length gs
  unfolding run_inputs
  run_length joined [] ws e = refl
  run_length joined (g ∷ gs) [] e = absurd (omega arith)
  run_length joined (g ∷ gs) (w ∷ ws) e = ap suc (run_length joined gs ws (omega arith))

  own_room : (k : ℕ) (c : BoardCall) → own_rows k c ≡ 0 → k + length (feed c) ≤ 4294967295
  unfolding own_rows clock_rows feed
  own_room k (clock_call joined given switches) e = go (ltb 7 given) e
    where
      go : (t : Bool) → cond t 6 (count_row k 1) ≡ 0 → k + 1 ≤ 4294967295
      go true e = absurd (omega arith)
      go false e = count_room paper_geometry p k 1 e
  own_room k (run_call joined given switches levels bytes words) e =
      let o = own-rows k given switches levels bytes words e in
      rw (run_length joined given switches o.fed) o.room

  room : (x : Board Lent) (y : Board Reference) (c : BoardCall) → InStep 0 x y → plain_code p y c ≡ 0 → InStep (length (feed c)) x y
  unfolding plain_code
  room x y c h e = record {
    core = record { extra = t.extra; plain = t.plain; related = t.related; room = go (program_ok p) e };
    same = h.same;
    range = h.range;
  }
    where
      t : Tied paper_geometry p 0 x.core y.core
      t = h.core

      go : (b : Bool) → cond (not b) 3 (own_rows y.core.clocks c) ≡ 0 → y.core.clocks + length (feed c) ≤ 4294967295
      go true z = own_room y.core.clocks c z
      go false z = absurd (omega arith)

  pub same_board_log : (s : List ℕ) (cs : List BoardCall) → reset_refusal s ≡ 0
      → log_of feed answer (record_board p) (board_reset (start paper_geometry s)) cs
      ≡ log_of feed answer (plain_board p) (board_reset (reference_reset s)) cs
  unfolding record_board plain_board
  same_board_log s cs taken = log-alike feed answer (record_board p) (plain_board p) InStep Bits fine step seen code room
      (board_reset (start paper_geometry s)) (board_reset (reference_reset s)) cs (record {
        core = reset-tied paper_geometry p s paper_ok taken;
        same = refl;
        range = in_range devices_reset (board.theorems).ranges_kept.reset;
      })
