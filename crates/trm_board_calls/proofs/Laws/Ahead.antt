-- Clocks without an answer: the core is ahead of the devices, which follow clock by clock.
-- Idea: a clock with answer byte 0 reads no device, so the input word 0 is what the board feeds it; while the tick does not change, the
-- line bytes are those that were laid out before.
--   able_from, coming-from   the core may go ahead, and has gone
--   coming-on, coming-ends   one clock of the devices, and the last one done
use Prim.Native.Nat.{ℕ, suc, ◌+◌, ◌-◌, ◌%◌, ◌≤◌, ◌<◌}
use mathlib.Core.Path.{◌≡◌, refl, sym, ap, subst, ◌∙◌}
use mathlib.Core.Bool.{Bool, cond}
use mathlib.Core.List.{List, [], ◌∷◌}
use lib.ListN.{length, get_or, take, drop, set}
use lib.Seq.{drop-cons, take-take}
use borrow.Author.Tests.{ne_eqb}
use native.Mathlib.Numerals.{add-one}
use native.Mathlib.Omega.{arith}
use Rattle.trm_reference.specs.Geometry.{paper_geometry}
use Rattle.trm_reference.specs.Access.{Answer}
use Rattle.trm_reference.specs.Trace.{After, clocks, end_of, outs_of, finished_in}
use Rattle.trm_core.specs.Record.{Lent}
use Rattle.trm_core.specs.Clock.{clock_of}
use Rattle.trm_core.specs.Refusals.{all_at_most}
use Rattle.trm_core.specs.Run.{bytes_of}
use Rattle.trm_run_phases.proofs.Laws.Adds.{Clocks, clock-adds}
use Rattle.trm_run_machine.specs.Quiet.{zero_pins, zero_clocks, Silent, Able}
use Rattle.trm_clock_device.specs.Device.{device_read}
use Rattle.trm_serial.specs.Timing.{paper_timing}
use Rattle.trm_serial.specs.Serial.{level}
use Rattle.trm_board.specs.declared.record.Devices.{Devices}
use Rattle.trm_board.specs.Core.{pins, asked}
use Rattle.trm_board.specs.Board.{Inputs, inputs_of, Board, Shown, reply, line_byte, line_in, tick_after, devices_clock}
use Rattle.trm_board.specs.Board.{fed, core_clock, board_clock}
use Rattle.trm_board_calls.specs.Cores.{record_core}
use Rattle.trm_board_calls.specs.Running.{Stage, stage, Running, line_for, lines_of, Coming}
use Rattle.trm_board_calls.proofs.Laws.Run.{running-on}
use Rattle.trm_board_calls.proofs.Laws.Lines.{lines-take, lines-low, lines-count, lines_same}

-- the first of some clocks without an answer, and the others
module _ (p : List ℕ) (l : ℕ) (ls : List ℕ) (x y : Lent) (fin : ℕ) (s : Silent p (l ∷ ls) x y fin) where
  abbrev u : After Lent Answer
  u = clock_of paper_geometry p x (pins l 0)

  head-mute : u.out.byte ≡ 0
  head-mute = unfold zero_pins clocks outs_of bytes_of in (ap (λ t. get_or t 0 0) s.bytes)

  tail-silent : Silent p ls u.state y (finished_in (outs_of (zero_clocks p ls u.state)))
  tail-silent = unfold zero_pins clocks outs_of bytes_of end_of in record {
    state = s.state;
    bytes = ap (drop 1) s.bytes;
    done = refl;
  }

  head_done : fin ≡ u.out.done + finished_in (outs_of (zero_clocks p ls u.state))
  head_done = unfold zero_pins clocks outs_of finished_in in s.done

-- a clock of the board without an answer
module _ (p : List ℕ) (x : Lent) (d : Devices) (joined : Bool) (g w : ℕ) where
  abbrev i : Inputs
  i = inputs_of joined g w

  abbrev v : After Lent Answer
  v = clock_of paper_geometry p x (pins (line_byte d.tick i) 0)

  abbrev sent : ℕ
  sent = level paper_timing d.serial

  -- its outcome, from the count, the answer byte and the word
  abbrev shown : ℕ → ℕ → ℕ → After (Board Lent) Shown
  shown count byte word = record {
    state = record { core = v.state; devices = devices_clock paper_timing (line_in paper_timing d.serial i) count byte word d };
    out = record { level = sent; answer = record { byte = byte; word = word; done = v.out.done } };
  }

  quiet_is : v.out.byte ≡ 0 → shown (x.machine.scalars.counts.clocks + 1) 0 0
      ≡ board_clock paper_timing (record_core paper_geometry p) (record { core = x; devices = d }) i
  unfolding board_clock
  quiet_is mute = ap (λ n. shown n 0 0) (sym adds.adds) ∙ ap (λ n. shown v.state.machine.scalars.counts.clocks n 0) (sym mute)
      ∙ ap (shown v.state.machine.scalars.counts.clocks v.out.byte) (sym (adds.mute mute))
      ∙ ap (λ (t : After Lent Answer). record {
        state = record {
          core = t.state;
          devices = devices_clock paper_timing (line_in paper_timing d.serial i) t.state.machine.scalars.counts.clocks t.out.byte
              t.out.word d;
        };
        out = record { level = sent; answer = t.out };
      }) core_is
    where
      adds : Clocks x.machine.scalars v
      adds = clock-adds p x (pins (line_byte d.tick i) 0)

      -- no device is asked, so the reply is 0
      none : asked (record_core paper_geometry p) x (line_byte d.tick i) ≡ 64
      none = unfold asked in (ap device_read mute ∙ unfold device_read in refl)

      zero-fed : 0 ≡ (fed paper_timing (record_core paper_geometry p) (record { core = x; devices = d }) i).input
      zero-fed = unfold fed in (sym (ap (reply paper_timing d.serial x.machine.scalars.counts.clocks w) none
          ∙ unfold reply in refl))

      core_is : v ≡ core_clock paper_timing (record_core paper_geometry p) (record { core = x; devices = d }) i
      core_is = ap (λ n. clock_of paper_geometry p x (pins (line_byte d.tick i) n)) zero-fed ∙ unfold fed in refl

-- the tick does not rise in a clock before the last
tick-same : (count tick : ℕ) → count % 116600 + 2 ≤ 116600 → tick_after paper_timing (count + 1) 0 tick ≡ tick
unfolding tick_after
tick-same count tick h = rw (ne_eqb ((count + 1) % 116600) 0 (λ e. omega (arith, h, e)))

module _ (p : List ℕ) (joined : Bool) (gs ws : List ℕ) (q₀ : Stage) where
  -- the core may go ahead
  pub able_from : (x : Lent) (d : Devices) (fin at : ℕ) (lv bs os : List ℕ)
      → Running p joined gs ws q₀ (stage (record { core = x; devices = d }) fin at lv bs os)
      → (k : ℕ) (ls : List ℕ) → k ≤ 64 → at + k ≤ length gs → ls ≡ lines_of d.tick (take k (drop at gs)) → Able p x ls
  able_from x d fin at lv bs os r k ls few below e = record {
    program = r.ready.program;
    store = r.ready.store;
    rule = r.ready.rule;
    shaped = r.ready.shaped;
    few = omega (arith, long, few);
    low = ap (all_at_most 7) e ∙ lines-low d.tick (take k (drop at gs)) r.ready.devices.tick;
    room = (let z = r.ready.room in omega (arith, long, below, z));
  }
    where
      long : k ≡ length ls
      long = lines-count d.tick at k gs ls below e

  -- it has gone ahead
  pub coming-from : (x y : Lent) (d : Devices) (fin at : ℕ) (lv bs os : List ℕ)
      → Running p joined gs ws q₀ (stage (record { core = x; devices = d }) fin at lv bs os)
      → (k : ℕ) (ls : List ℕ) → at + k ≤ length gs → x.machine.scalars.counts.clocks % 116600 + k ≤ 116600
      → ls ≡ lines_of d.tick (take k (drop at gs))
      → (h more : ℕ) → h ≤ length ls → Silent p (take h ls) x y more
      → Coming p joined gs ws q₀ y (fin + more) (at + h) d x.machine.scalars.counts.clocks at lv bs os
  coming-from x y d fin at lv bs os r k ls below slow e h more le s = record {
    core = x;
    finished = fin;
    left = more;
    so = r;
    silent = subst (λ l. Silent p l x y more) lines s;
    sum = refl;
    counted = refl;
    slow = omega (arith, slow, within);
    onward = omega arith;
    below = omega (arith, below, within);
  }
    where
      long : k ≡ length ls
      long = lines-count d.tick at k gs ls below e

      within : h ≤ k
      within = omega (arith, le, long)

      ahead : h ≡ at + h - at
      ahead = omega arith

      lines : take h ls ≡ lines_of d.tick (take (at + h - at) (drop at gs))
      lines = ap (take h) e ∙ lines-take d.tick h (take k (drop at gs)) ∙ ap (lines_of d.tick) (take-take h k (drop at gs) within)
          ∙ ap (λ n. lines_of d.tick (take n (drop at gs))) ahead

  module _ (y : Lent) (total to : ℕ) (d : Devices) (count at : ℕ) (lv bs os : List ℕ)
      (c : Coming p joined gs ws q₀ y total to d count at lv bs os) where
    -- the devices have followed
    pub coming-ends : to ≤ at → Running p joined gs ws q₀ (stage (record { core = y; devices = d }) total to lv bs os)
    coming-ends le = subst (λ i. Running p joined gs ws q₀ (stage (record { core = y; devices = d }) total i lv bs os)) at-end
        (subst (λ f. Running p joined gs ws q₀ (stage (record { core = y; devices = d }) f at lv bs os)) all_done
        (subst (λ x. Running p joined gs ws q₀ (stage (record { core = x; devices = d }) c.finished at lv bs os)) (sym core-end)
        c.so))
      where
        at-end : at ≡ to
        at-end = omega (arith, c.onward, le)

        none : Silent p [] c.core y c.left
        none = subst (λ l. Silent p l c.core y c.left) (ap (λ n. lines_of d.tick (take n (drop at gs))) (zero_left)
            ∙ unfold lines_of in refl) c.silent
          where
            zero_left : to - at ≡ 0
            zero_left = omega (arith, le)

        core-end : y ≡ c.core
        core-end = none.state ∙ unfold zero_pins clocks end_of in refl

        left-none : c.left ≡ 0
        left-none = none.done ∙ unfold zero_pins clocks outs_of finished_in in refl

        all_done : c.finished ≡ total
        all_done = omega (arith, c.sum, left-none)

    -- one clock of the devices
    module _ (less : at < to) where
      abbrev g : ℕ
      g = get_or gs at 0

      inside : at < length gs
      inside = omega (arith, less, c.below)

      -- the core's clock, the devices after it, and the line bytes of the clocks that are left
      abbrev after : After Lent Answer
      after = v p c.core d joined g (get_or ws at 0)

      abbrev followed : Devices
      followed = devices_clock paper_timing (line_in paper_timing d.serial (inputs_of joined g (get_or ws at 0)))
          (c.core.machine.scalars.counts.clocks + 1) 0 0 d

      abbrev others : List ℕ
      others = lines_of d.tick (take (to - (at + 1)) (drop (at + 1) gs))

      abbrev next : Devices → ℕ → Stage
      next b sent = stage (record { core = after.state; devices = b }) (c.finished + after.out.done) (at + 1) (set lv at sent)
          (set bs at 0) (set os at 0)

      abbrev quiet-left : ℕ
      quiet-left = finished_in (outs_of (zero_clocks p others after.state))

      now : Silent p (line_for d.tick g ∷ others) c.core y c.left
      now = subst (λ l. Silent p l c.core y c.left) first c.silent
        where
          step : to - at ≡ suc (to - (at + 1))
          step = omega (arith, less)

          first : lines_of d.tick (take (to - at) (drop at gs)) ≡ line_for d.tick g ∷ others
          first = ap (λ n. lines_of d.tick (take n (drop at gs))) step
              ∙ ap (λ l. lines_of d.tick (take (suc (to - (at + 1))) l)) (drop-cons gs at 0 inside)
              ∙ unfold lines_of in (ap (λ n. line_for d.tick g ∷ lines_of d.tick (take (to - (at + 1)) (drop n gs))) (sym (add-one at)))

      next-runs : Running p joined gs ws q₀ (next followed (level paper_timing d.serial))
      next-runs = running-on p joined gs ws q₀ (record { core = c.core; devices = d }) c.finished at lv bs os c.so inside
          (shown p c.core d joined g (get_or ws at 0) (c.core.machine.scalars.counts.clocks + 1) 0 0)
          (quiet_is p c.core d joined g (get_or ws at 0) (head-mute p (line_for d.tick g) others c.core y c.left now))

      pub coming-on : (sent line : ℕ) → sent ≡ level paper_timing d.serial → line ≡ cond joined sent (g % 2)
          → (d' : Devices) → d' ≡ devices_clock paper_timing line (count + 1) 0 0 d
          → Coming p joined gs ws q₀ y total to d' (count + 1) (at + 1) (set lv at sent) (set bs at 0) (set os at 0)
      coming-on sent line es el d' ed = record {
        core = after.state;
        finished = c.finished + after.out.done;
        left = quiet-left;
        so = subst (λ b. Running p joined gs ws q₀ (next b sent)) (sym devices_are)
            (subst (λ n. Running p joined gs ws q₀ (next followed n)) (sym es) next-runs);
        silent = subst (λ l. Silent p l after.state y quiet-left) (sym tick-lines)
            (tail-silent p (line_for d.tick g) others c.core y c.left now);
        sum = omega (arith, c.sum, head_done p (line_for d.tick g) others c.core y c.left now);
        counted = omega (arith, c.counted, (clock-adds p c.core (pins (line_for d.tick g) 0)).adds);
        slow = omega (arith, c.slow, less);
        onward = omega (arith, less);
        below = c.below;
      }
        where
          line-is : line ≡ line_in paper_timing d.serial (inputs_of joined g (get_or ws at 0))
          line-is = unfold line_in in (el ∙ ap (λ n. cond joined n (g % 2)) es)

          devices_are : d' ≡ followed
          devices_are = ed ∙ ap (λ n. devices_clock paper_timing n (count + 1) 0 0 d) line-is
              ∙ ap (λ n. devices_clock paper_timing (line_in paper_timing d.serial (inputs_of joined g (get_or ws at 0))) (n + 1) 0 0 d)
              c.counted

          tick-lines : lines_of d'.tick (take (to - (at + 1)) (drop (at + 1) gs)) ≡ others
          tick-lines = lines_same d'.tick d.tick (to - (at + 1)) (drop (at + 1) gs) (λ z.
              ap (λ (t : Devices). t.tick) ed ∙ tick-same count d.tick (omega (arith, c.slow, less, z)))
