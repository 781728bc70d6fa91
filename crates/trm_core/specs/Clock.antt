-- One clock of the machine: `clock_of` gives the next record and store, and the answer, by cases of the phase.
-- Paper: "Clock by clock". The store's length is n; w is the word at PC.
--   clock_of G p x pins    one clock of the record and store x under the program p
--   is_last                whether an unheld clock executes the word        finish   that clock
--   advance               any other unheld clock, by phase: first_clock, writing, filling
use Rattle.std.specs.Prelude.{ℕ, ◌+◌, ◌%◌, Bool, true, cond, not, ◌&&◌, List, length, set, eqb}
use Rattle.trm_word.specs.Fields.{operation}
use Rattle.trm_word.specs.Charge.{charge_of}
use Rattle.trm_reference.specs.Geometry.{Geometry, burst}
use Rattle.trm_reference.specs.Visible.{Visible, word_at}
use Rattle.trm_reference.specs.Access.{is_store, target, target_block, target_line, stored, loaded, Answer, silent, answer_of}
use Rattle.trm_reference.specs.Execute.{execute}
use Rattle.trm_reference.specs.Interrupt.{stalled, interrupt_chosen, interrupted}
use Rattle.trm_reference.specs.Charge.{is_stepped, through_cache, without_cache, turns_cache_off, uncached_charge, charge_by}
use Rattle.trm_reference.specs.Trace.{Pins, After}
use Rattle.trm_core.specs.declared.record.Running.{Running}
use Rattle.trm_core.specs.declared.record.Scalars.{Scalars}
use Rattle.trm_core.specs.Record.{Machine}
use Rattle.trm_cache.specs.Cache.{Line, line_at, holds, view, emptied, cleaned, filled, stored_to, write_word, fill_word}
use Rattle.trm_cache.specs.declared.record.Cache.{Cache}
use Rattle.trm_cache.specs.Cache.{count_dirty, first_dirty, all_emptied}
use Rattle.trm_core.specs.Record.{Lent, visible_of, cache_of, whole, stepping, in_phase, advanced, ended, waited}

-- the state after a clock that executes no word; the registers do not change
pub record Moved : Type 0 where
  pub scalars : Scalars
  pub cache : Cache
  pub store : List ℕ

abbrev pub moved : Scalars → Running → Cache → List ℕ → ℕ → ℕ → Moved
moved c r ca s refilled written = record { scalars = advanced c r refilled written; cache = ca; store = s }

-- the whole outcome of such a clock, and of one that changes what a programmer sees
abbrev pub quiet : List ℕ → Moved → After Lent Answer
quiet rs t =
    record {
      state = record { machine = whole t.scalars rs t.cache; store = t.store };
      out = silent 0;
    }

abbrev pub carried : Scalars → Visible → Cache → List ℕ → Answer → After Lent Answer
carried c v ca s a = record { state = record { machine = whole (ended c v) v.regs ca; store = s }; out = a }

-- "A clock with stall set is held: it adds one to the clock and held counts and does nothing else."
unfoldable pub held_clock : Machine → List ℕ → After Lent Answer
held_clock m s =
    record {
      state = record { machine = whole (waited m.scalars) m.regs (cache_of m); store = s };
      out = silent 0;
    }

-- uncached ST
unfoldable pub store_after : ℕ → ℕ → Visible → List ℕ → List ℕ
store_after w n v s = cond (without_cache w v n && is_store w) (set s (target w v n) (stored w v)) s

module _ (G : Geometry) where
  -- the cache line that the word accesses
  unfoldable pub line_for : ℕ → ℕ → Visible → Cache → Line
  line_for w n v ca = line_at G ca (target_line G w v n)

  -- "with its block in the line"
  unfoldable pub hits : ℕ → ℕ → Visible → Cache → Bool
  hits w n v ca = holds (line_for w n v ca) (target_block G w v n)

  -- the charge by the clock table, from the lines of the record
  unfoldable pub charge_here : ℕ → ℕ → Visible → Cache → ℕ
  charge_here w n v ca = charge_by G w v n (not (hits w n v ca)) (line_for w n v ca).dirty (count_dirty G ca)

  -- the word's last clock: in phase 0 if its charge is 1; in phase 1 after 32 steps; in phase 4 after 5 or 4 waits; in phase 5
  unfoldable pub is_last : ℕ → ℕ → Running → Visible → Cache → Bool
  is_last w n r v ca =
      cond (eqb r.phase 0) (eqb (charge_here w n v ca) 1)
      (cond (eqb r.phase 1) (eqb (r.count + 1) (charge_of (operation w)))
      (cond (eqb r.phase 4) (eqb (r.count + 1) (uncached_charge w))
      (eqb r.phase 5)))

  -- ST through the cache writes to its line; turning the cache off has "one last clock, which empties all lines"
  unfoldable pub cache_after : ℕ → ℕ → Visible → Cache → Cache
  cache_after w n v ca =
      cond (through_cache w v n)
      (cond (is_store w) (stored_to G ca (target_line G w v n) (target w v n % G.words) (stored w v)) ca)
      (cond (turns_cache_off w v) (all_emptied G ca) ca)

  -- "What a programmer sees changes only in an instruction's last clock; a device is read or written only in that clock"
  unfoldable pub finish : ℕ → ℕ → Machine → List ℕ → ℕ → After Lent Answer
  finish w n m s i =
      carried m.scalars
      (execute w (visible_of m) (loaded w (visible_of m) n i (view G (cache_of m) s (target w (visible_of m) n))))
      (cache_after w n (visible_of m) (cache_of m))
      (store_after w n (visible_of m) s)
      (answer_of w (visible_of m) n i)

  -- after the last clock of a write-back, with line l clean: when the cache is turned off the next dirty line follows, or the last clock
  -- if there is none; an access empties the line and refills it
  unfoldable pub written : Bool → ℕ → Scalars → Cache → List ℕ → Moved
  written off l c ca s =
      cond off
      (moved c (cond (eqb (count_dirty G ca) 0) (in_phase 5 0) (in_phase 2 0)) ca s 0 1)
      (moved c (in_phase 3 0) (emptied ca l) s 0 1)

  -- phase 2: one clock of the write-back of line l, after k of them
  unfoldable pub writing : Bool → ℕ → ℕ → Scalars → Cache → List ℕ → Moved
  writing off l k c ca s =
      cond (eqb (k + 1) (burst G))
      (written off l c (cleaned ca l) (write_word G (line_at G ca l) s k))
      (moved c (in_phase 2 (k + 1)) ca (write_word G (line_at G ca l) s k) 0 0)

  -- phase 3: one clock of the refill of line l with block b, after k of them; then the line is full and the last clock follows
  unfoldable pub filling : ℕ → ℕ → ℕ → Scalars → Cache → List ℕ → Moved
  filling b l k c ca s =
      cond (eqb (k + 1) (burst G))
      (moved c (in_phase 5 0) (filled (fill_word G ca l s b k) l b) s 1 0)
      (moved c (in_phase 3 (k + 1)) (fill_word G ca l s b k) s 0 0)

  -- the tag-check clock (the paper's looking clock) of a miss: a dirty line is written back first, any other is emptied now
  unfoldable pub missing : ℕ → Scalars → Cache → List ℕ → Moved
  missing l c ca s =
      cond (line_at G ca l).dirty (moved c (in_phase 2 0) ca s 0 0) (moved c (in_phase 3 0) (emptied ca l) s 0 0)

  -- phase 0: the first of several clocks: the first step of 8 and 9; the first wait of an uncached access; the first clock of the first
  -- write-back when the cache is turned off; the tag-check clock of a miss; else the first clock of two
  unfoldable pub first_clock : ℕ → ℕ → Scalars → Visible → Cache → List ℕ → Moved
  first_clock w n c v ca s =
      cond (is_stepped w) (moved c (stepping w v 1) ca s 0 0)
      (cond (without_cache w v n) (moved c (in_phase 4 1) ca s 0 0)
      (cond (turns_cache_off w v) (writing true (first_dirty G ca) 0 c ca s)
      (cond (through_cache w v n && not (hits w n v ca)) (missing (target_line G w v n) c ca s)
      (moved c (in_phase 5 0) ca s 0 0))))

  -- the line that phase 2 writes back: the lowest dirty one when the cache is turned off, else the line of the access
  unfoldable pub write_line : ℕ → ℕ → Visible → Cache → ℕ
  write_line w n v ca = cond (turns_cache_off w v) (first_dirty G ca) (target_line G w v n)

  -- a clock that is not the word's last, by phase; phase 5 has only a last clock
  unfoldable pub advance : ℕ → ℕ → Scalars → Visible → Cache → List ℕ → Moved
  advance w n c v ca s =
      cond (eqb c.running.phase 0) (first_clock w n c v ca s)
      (cond (eqb c.running.phase 1) (moved c (stepping w v (c.running.count + 1)) ca s 0 0)
      (cond (eqb c.running.phase 2) (writing (turns_cache_off w v) (write_line w n v ca) c.running.count c ca s)
      (cond (eqb c.running.phase 3) (filling (target_block G w v n) (target_line G w v n) c.running.count c ca s)
      (moved c (in_phase 4 (c.running.count + 1)) ca s 0 0))))

  -- one clock of the word at PC
  unfoldable pub worked : ℕ → ℕ → Machine → List ℕ → ℕ → After Lent Answer
  worked w n m s i =
      cond (is_last w n m.scalars.running (visible_of m) (cache_of m)) (finish w n m s i)
      (quiet m.regs (advance w n m.scalars (visible_of m) (cache_of m) s))

  -- "An unheld clock with no instruction in flight takes an interrupt if .. Otherwise it begins an instruction."
  unfoldable pub unheld : ℕ → ℕ → Machine → List ℕ → Pins → After Lent Answer
  unheld w n m s pins =
      cond (eqb m.scalars.running.phase 0 && not (eqb (interrupt_chosen m.scalars.status pins.line_byte) 0))
      (carried m.scalars (interrupted (visible_of m) (interrupt_chosen m.scalars.status pins.line_byte)) (cache_of m) s (silent 0))
      (worked w n m s pins.input)

  unfoldable pub clock_of : List ℕ → Lent → Pins → After Lent Answer
  clock_of p x pins =
      cond (stalled pins.line_byte)
      (held_clock x.machine x.store)
      (unheld (word_at p x.machine.scalars.pc) (length x.store) x.machine x.store pins)
