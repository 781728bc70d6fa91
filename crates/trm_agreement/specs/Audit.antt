-- The audit of a log: what holds of every entry, given the book of the entries before it.
-- Paper: "Each adds a clock; a held one adds a held clock and no more. With no clocks left it takes an interrupt by the rule above, and
-- is done, or else ..", "a device is read or written only in that clock".
--   Balanced                           the counts seen are those of the book
--   Answers                            what the answer of an executed word shows
--   Still, Interrupted, Finished, Does what a clock left and answered, by what it was spent on
--   Audited                            every entry of a log        book_at   the book after some entries
--   device_answers, accesses_in          the answers that show a device; the device accesses of the instructions finished
use Rattle.std.specs.Prelude.{ℕ, suc, ◌+◌, ◌*◌, ◌≤◌, ◌≡◌, ◌≢◌, true, false, cond, ◌&&◌, List, [], ◌∷◌, get_or, set, eqb}
use Rattle.trm_word.specs.Fields.{destination}
use Rattle.trm_reference.specs.Geometry.{Geometry}
use Rattle.trm_reference.specs.Visible.{Visible, register}
use Rattle.trm_reference.specs.Access.{is_load, is_store, to_memory, to_device, target, place_of_word, device_number, stored, loaded}
use Rattle.trm_reference.specs.Access.{Answer}
use Rattle.trm_reference.specs.Access.{silent, answer_of}
use Rattle.trm_reference.specs.Execute.{execute}
use Rattle.trm_reference.specs.Interrupt.{interrupted}
use Rattle.trm_reference.specs.History.{refills_in, writebacks_in}
use Rattle.trm_reference.specs.Trace.{Pins}
use Rattle.trm_agreement.specs.Log.{started, clocked, ended}
use Rattle.trm_agreement.specs.Calls.{Seen, LogEntry}
use Rattle.trm_agreement.specs.Book.{Did, waited, acknowledged, worked, finished, is_finish, Book, word_of, size_of, accessing}
use Rattle.trm_agreement.specs.Book.{interrupt_to, due, refill_over, writeback_over, went, turned, closed, longest}

module _ (G : Geometry) (p : List ℕ) (b : Book) where
  -- The counts seen: clocks = held + charges of what finished + unheld clocks spent on the instruction in flight; refills and write-backs
  -- are those of the history and of the instruction in flight. That one has spent less than its charge, and no charge is over the longest.
  pub record Balanced : Type 0 where
    pub clocks : b.seen.clocks ≡ b.held + b.charges + b.spent
    pub held : b.seen.held ≡ b.held
    pub refills : b.seen.refills ≡ refills_in G b.history + refill_over G p b
    pub writebacks : b.seen.writebacks ≡ writebacks_in G b.history + writeback_over G p b
    pub flight : b.spent ≢ 0 → suc b.spent ≤ due G p b
    pub short : due G p b ≤ longest G

-- The answer o of the word w, executed with v seen, n words of memory and the input word i: for a device load its word is the input word,
-- for a device store it is R.d; without a device access byte and word are zero.
pub record Answers (w : ℕ) (v : Visible) (n i : ℕ) (o : Answer) : Type 0 where
  pub reads : to_device w v n ≡ true → is_load w ≡ true → o
      ≡ record { byte = device_number (place_of_word w v n) * 4 + 1; word = i; done = 1 }
  pub writes : to_device w v n ≡ true → is_store w ≡ true
      → o ≡ record { byte = device_number (place_of_word w v n) * 4 + 2; word = register v (destination w); done = 1 }
  pub none : to_device w v n ≡ false → o ≡ silent 1

-- A clock with the input i, after which w is seen, and which answered o.
module _ (b : Book) where
  -- a held clock, or one that does not end its instruction: nothing seen changes but the counts, and no device is accessed
  pub record Still (w : Seen) (o : Answer) : Type 0 where
    pub visible : w.visible ≡ b.seen.visible
    pub memory : w.memory ≡ b.seen.memory
    pub silent : o ≡ silent 0

  -- an interrupt: "bank 1's R7 := NZCV .., PC ..; mode 1; PC 2 or 3"
  pub record Interrupted (i : Pins) (w : Seen) (o : Answer) : Type 0 where
    pub visible : w.visible ≡ interrupted b.seen.visible (interrupt_to b.seen.visible.status i.line_byte)
    pub memory : w.memory ≡ b.seen.memory
    pub silent : o ≡ silent 0

module _ (p : List ℕ) (b : Book) where
  -- the last clock of an instruction: it took its charge c, and the word at PC is executed with this clock's input word, which a device
  -- load puts in R.d
  pub record Finished (i : Pins) (w : Seen) (o : Answer) (c : ℕ) : Type 0 where
    pub took : suc b.spent ≡ c
    pub visible : w.visible ≡ execute (word_of p b) b.seen.visible (loaded (word_of p b) b.seen.visible (size_of b) i.input
        (get_or b.seen.memory (target (word_of p b) b.seen.visible (size_of b)) 0))
    pub memory : w.memory
        ≡ cond (to_memory (word_of p b) b.seen.visible (size_of b) && is_store (word_of p b))
        (set b.seen.memory (target (word_of p b) b.seen.visible (size_of b)) (stored (word_of p b) b.seen.visible))
        b.seen.memory
    pub answer : o ≡ answer_of (word_of p b) b.seen.visible (size_of b) i.input
    pub answers : Answers (word_of p b) b.seen.visible (size_of b) i.input o
    pub arrives : accessing p b ≡ true → is_load (word_of p b) ≡ true → register w.visible (destination (word_of p b)) ≡ i.input

  unfoldable pub Does : Pins → Seen → Answer → Did → Type 0
  Does i w o waited = Still b w o
  Does i w o acknowledged = Interrupted b i w o
  Does i w o worked = Still b w o
  Does i w o (finished c) = Finished i w o c

module _ (G : Geometry) (p : List ℕ) where
  -- Every entry, b being the book of the entries before it: a clock did what it was spent on and leaves the book balanced; the end of a
  -- call shows what its last clock left, of a refused one what it began with.
  unfoldable pub Audited : Book → List LogEntry → Type 0
  Audited b [] = Unit {0}
  Audited b (started w ∷ es) = ⊥
  Audited b (clocked i w o ∷ es) =
      Does p b i w o (went G p b i o) × Balanced G p (turned G p b w (went G p b i o)) × Audited (turned G p b w (went G p b i o)) es
  Audited b (ended w a ∷ es) = (w ≡ b.seen) × Audited (closed b w) es

  -- the book after these entries
  unfoldable pub book_at : Book → List LogEntry → Book
  book_at b [] = b
  book_at b (started w ∷ es) = book_at b es
  book_at b (clocked i w o ∷ es) = book_at (turned G p b w (went G p b i o)) es
  book_at b (ended w a ∷ es) = book_at (closed b w) es

  -- the device loads and stores of the instructions finished, each once, in order, each with the input word of its last clock
  unfoldable pub accesses_in : Book → List LogEntry → List Answer
  accesses_in b [] = []
  accesses_in b (started w ∷ es) = accesses_in b es
  accesses_in b (clocked i w o ∷ es) =
      cond (is_finish (went G p b i o) && accessing p b)
      (answer_of (word_of p b) b.seen.visible (size_of b) i.input ∷ accesses_in (turned G p b w (went G p b i o)) es)
      (accesses_in (turned G p b w (went G p b i o)) es)
  accesses_in b (ended w a ∷ es) = accesses_in (closed b w) es

-- the answers with a byte other than zero: "bit 0 read, bit 1 write"
unfoldable pub device_answers : List Answer → List Answer
device_answers [] = []
device_answers (a ∷ as') = cond (eqb a.byte 0) (device_answers as') (a ∷ device_answers as')
