-- The book of a log: what each clock was spent on, and every count of demand 3, computed clock by clock from the log alone (D-32).
-- Paper: "Judged from history, an access refills unless .."; "A refill or write-back counts when its ten is over"; "In flight, charges
-- count the clocks already spent". Nothing else of either machine is read.
--   Did                           what a clock was spent on
--   Book, opened w                the book; the book of a log that starts with w seen
--   due, refill_over, writeback_over   the charge of the word at PC; the bursts of the instruction in flight that are over
--   interrupts, interrupt_to       the interrupt rule in bits: whether one is taken, and to which PC
--   went, turned, closed          what a clock was spent on; the book after it; the book at the end of a call
--   longest G                     the greatest charge
use Rattle.std.specs.Prelude.{ℕ, suc, ◌+◌, ◌*◌, ◌/◌, max, Bool, true, false, cond, not, ◌&&◌, ◌||◌, List, [], ◌∷◌, length, eqb, leb}
use Rattle.trm_word.specs.Fields.{bit}
use Rattle.trm_reference.specs.Geometry.{Geometry, burst}
use Rattle.trm_reference.specs.Visible.{word_at}
use Rattle.trm_reference.specs.Access.{is_store, target_block, target_line, to_device, Answer}
use Rattle.trm_reference.specs.Interrupt.{stalled}
use Rattle.trm_reference.specs.History.{Event, access, emptying, refills_now, dirty_now, dirty_lines}
use Rattle.trm_reference.specs.Charge.{through_cache, turns_cache_off, charge_by}
use Rattle.trm_reference.specs.Trace.{Pins}
use Rattle.trm_agreement.specs.Calls.{Seen}

-- a held clock; an interrupt; a clock that does not end its instruction; the last clock of an instruction of this charge
pub data Did : Type 0 where
  waited : Did
  acknowledged : Did
  worked : Did
  finished : (charge : ℕ) → Did

unfoldable pub is_finish : Did → Bool
is_finish waited = false
is_finish acknowledged = false
is_finish worked = false
is_finish (finished c) = true

-- what is seen now; the history; the unheld clocks spent on the instruction in flight, 0 if there is none; the held clocks; the charges
-- of the instructions and interrupts finished
pub record Book : Type 0 where
  pub seen : Seen
  pub history : List Event
  pub spent : ℕ
  pub held : ℕ
  pub charges : ℕ

unfoldable pub opened : Seen → Book
opened w = record { seen = w; history = []; spent = 0; held = 0; charges = 0 }

-- the word at PC; the length of memory; whether that word accesses a device
abbrev pub word_of : List ℕ → Book → ℕ
word_of p b = word_at p b.seen.visible.pc

abbrev pub size_of : Book → ℕ
size_of b = length b.seen.memory

abbrev pub accessing : List ℕ → Book → Bool
accessing p b = to_device (word_of p b) b.seen.visible (size_of b)

-- interrupt line k is high and enabled by status bit k
unfoldable pub raised : ℕ → ℕ → ℕ → Bool
raised k status line_byte = eqb (bit k status) 1 && eqb (bit k line_byte) 1

-- "takes an interrupt if the mode is 0 and an enabled line is high, line 0 before line 1: .. PC 2 or 3"
unfoldable pub interrupts : ℕ → ℕ → Bool
interrupts status line_byte = not (eqb (bit 2 status) 1) && (raised 0 status line_byte || raised 1 status line_byte)

unfoldable pub interrupt_to : ℕ → ℕ → ℕ
interrupt_to status line_byte = cond (raised 0 status line_byte) 2 3

-- whether a clock that is not held takes an interrupt: with no instruction in flight, by the rule
unfoldable pub interrupting : Book → Pins → Bool
interrupting b i = eqb b.spent 0 && interrupts b.seen.visible.status i.line_byte

module _ (G : Geometry) (p : List ℕ) (b : Book) where
  -- "an access refills unless .."; and whether the block in its line is dirty
  unfoldable pub missing : Bool
  missing = refills_now G b.history (target_block G (word_of p b) b.seen.visible (size_of b))

  unfoldable pub evicting : Bool
  evicting = dirty_now G b.history (target_line G (word_of p b) b.seen.visible (size_of b))

  -- "the charge of the word at PC by its own state and history"
  unfoldable pub due : ℕ
  due = charge_by G (word_of p b) b.seen.visible (size_of b) missing evicting (dirty_lines G b.history)

  -- "A refill or write-back counts when its ten is over": a refill when only the last clock is left; the write-back of an access after the
  -- tag-check clock and a burst; of an emptying, one for each burst spent
  unfoldable pub refill_over : ℕ
  refill_over = cond (through_cache (word_of p b) b.seen.visible (size_of b) && missing && eqb (suc b.spent) due) 1 0

  unfoldable pub writeback_over : ℕ
  writeback_over =
      cond (through_cache (word_of p b) b.seen.visible (size_of b))
      (cond (missing && evicting && leb (1 + burst G) b.spent) 1 0)
      (cond (turns_cache_off (word_of p b) b.seen.visible) (b.spent / burst G) 0)

  -- a clock with the input i that answered o: held; an interrupt, by the rule; the last clock of an instruction, as its answer says; or
  -- another clock of an instruction
  unfoldable pub went : Pins → Answer → Did
  went i o =
      cond (stalled i.line_byte) waited
      (cond (interrupting b i) acknowledged
      (cond (eqb o.done 1) (finished due) worked))

  -- "a memory access with cache on, or an emptying, joins the history"
  unfoldable pub joined : List Event
  joined =
      cond (through_cache (word_of p b) b.seen.visible (size_of b))
      (access (record { block = target_block G (word_of p b) b.seen.visible (size_of b); store = is_store (word_of p b) }) ∷ b.history)
      (cond (turns_cache_off (word_of p b) b.seen.visible) (emptying ∷ b.history) b.history)

  -- the book after a clock, after which w is seen; an interrupt takes one clock
  unfoldable pub turned : Seen → Did → Book
  turned w waited =
      record { seen = w; history = b.history; spent = b.spent; held = suc b.held; charges = b.charges }
  turned w acknowledged =
      record { seen = w; history = b.history; spent = 0; held = b.held; charges = 1 + b.charges }
  turned w worked =
      record { seen = w; history = b.history; spent = suc b.spent; held = b.held; charges = b.charges }
  turned w (finished c) =
      record { seen = w; history = joined; spent = 0; held = b.held; charges = c + b.charges }

-- the book at the end of a call, w being what is seen of the record and store that it left
unfoldable pub closed : Book → Seen → Book
closed b w = record { seen = w; history = b.history; spent = b.spent; held = b.held; charges = b.charges }

-- MUL and DIV; turning the cache off with every line dirty; an access with two bursts: 161 for 16 lines, 8 words, 2 waits
unfoldable pub longest : Geometry → ℕ
longest G = max 33 (max (1 + G.lines * burst G) (2 + 2 * burst G))
