-- The claims about the plain machine alone: the rule and the answers that both machines share, one clock and the devices of any clocks from
-- any state, the greatest charge, and any clocks from a reset, including line bytes and clock counts that no call accepts.
-- Paper: "The plain machine of demand 3 .."; "Each adds a clock; a held one adds a held clock and no more. With no clocks left it takes
-- an interrupt by the rule above".
use Rattle.std.specs.Prelude.{ℕ, suc, ◌+◌, ◌≤◌, ◌≡◌, ◌≢◌, true, false, cond, not, ◌&&◌, List, [], ◌∷◌, length, eqb}
use Rattle.trm_reference.specs.Geometry.{Geometry, paper_geometry, geometry_ok, burst}
use Rattle.trm_reference.specs.Visible.{Visible, word_at}
use Rattle.trm_reference.specs.Access.{to_device, Answer, silent, answer_of}
use Rattle.trm_reference.specs.Interrupt.{stalled, interrupt_chosen}
use Rattle.trm_reference.specs.Trace.{Pins, clocks, end_of, outs_of}
use Rattle.trm_reference.specs.Reference.{Reference, charge, carry_out, take_off, reference_held, reference_interrupt, reference_clock}
use Rattle.trm_reference.specs.Reference.{reference_reset}
use Rattle.trm_agreement.specs.Log.{entries}
use Rattle.trm_agreement.specs.Calls.{feed, answer, LogEntry, reference_seen, reference_engine}
use Rattle.trm_agreement.specs.Book.{interrupts, interrupt_to, Book, opened, due, longest}
use Rattle.trm_agreement.specs.Audit.{Answers, Audited, book_at, device_answers}

-- The interrupt rule that both machines share equals the rule in bits, by which demand 3 checks them.
abbrev pub InterruptRule : Type 0
InterruptRule = (status line_byte : ℕ) → interrupt_chosen status line_byte
    ≡ cond (interrupts status line_byte) (interrupt_to status line_byte) 0

-- What an answer shows, for any word in any state.
abbrev pub AnswersHold : Type 0
AnswersHold = (w : ℕ) (v : Visible) (n i : ℕ) → Answers w v n i (answer_of w v n i)

-- One clock of the plain machine from any state, reached or not: held; an interrupt, by the rule; the first clock of a word, or a later
-- one. A clock that finishes an instruction executes the word at PC with this clock's input word; any other answers nothing and, unless it
-- takes an interrupt, changes nothing that a programmer sees and no memory.
pub record PlainClock (G : Geometry) (p : List ℕ) (q : Reference) (i : Pins) : Type 0 where
  pub held : stalled i.line_byte ≡ true → reference_clock G p q i ≡ reference_held q
  pub takes : stalled i.line_byte ≡ false → q.left ≡ 0 → interrupts q.visible.status i.line_byte ≡ true
      → reference_clock G p q i ≡ reference_interrupt (interrupt_to q.visible.status i.line_byte) q
  pub begins : stalled i.line_byte ≡ false → q.left ≡ 0 → interrupts q.visible.status i.line_byte ≡ false
      → reference_clock G p q i ≡ take_off G (word_at p q.visible.pc) q (charge G (word_at p q.visible.pc) q) i.input
  pub goes_on : stalled i.line_byte ≡ false → q.left ≢ 0
      → reference_clock G p q i ≡ take_off G (word_at p q.visible.pc) q q.left i.input
  pub carries : (reference_clock G p q i).out.done ≡ 1 → reference_clock G p q i ≡ carry_out G (word_at p q.visible.pc) q i.input
  pub quiet : (reference_clock G p q i).out.done ≢ 1 → (reference_clock G p q i).out ≡ silent 0
  pub still : (reference_clock G p q i).out.done ≢ 1
      → not (stalled i.line_byte) && eqb q.left 0 && interrupts q.visible.status i.line_byte ≡ false
      → ((reference_clock G p q i).state.visible ≡ q.visible) × ((reference_clock G p q i).state.memory ≡ q.memory)

-- the device accesses of the words that these clocks execute, each once, in order, with the input word of its clock
unfoldable pub plain_accesses : Geometry → List ℕ → Reference → List Pins → List Answer
plain_accesses G p q [] = []
plain_accesses G p q (i ∷ is) =
    cond (eqb (reference_clock G p q i).out.done 1 && to_device (word_at p q.visible.pc) q.visible (length q.memory))
    (answer_of (word_at p q.visible.pc) q.visible (length q.memory) i.input
    ∷ plain_accesses G p (reference_clock G p q i).state is)
    (plain_accesses G p (reference_clock G p q i).state is)

-- The answers of any clocks from any state that show a device are these accesses.
abbrev pub PlainDevices : Type 0
PlainDevices = (G : Geometry) (p : List ℕ) (q : Reference) (is : List Pins)
    → device_answers (outs_of (clocks (reference_clock G p) q is)) ≡ plain_accesses G p q is

-- the entries of these clocks of the plain machine after a reset; its last state; the book after them
abbrev pub plain_entries : Geometry → List ℕ → List ℕ → List Pins → List LogEntry
plain_entries G p s is = entries feed answer (reference_engine G p) (clocks (reference_clock G p) (reference_reset s) is) is

abbrev pub plain_end : Geometry → List ℕ → List ℕ → List Pins → Reference
plain_end G p s is = end_of (reference_reset s) (clocks (reference_clock G p) (reference_reset s) is)

abbrev pub plain_book : Geometry → List ℕ → List ℕ → List Pins → Book
plain_book G p s is = book_at G p (opened (reference_seen (reference_reset s))) (plain_entries G p s is)

-- Over any clocks from a reset, including line bytes that a call would refuse and counts above the greatest clock count, for any geometry:
-- clocks = held + charges of what finished + unheld clocks spent on the instruction in flight; its clocks spent and left are its charge; a
-- clock that finishes an instruction completes its charge. If a burst takes at least a clock, so that its end is counted, the whole audit.
pub record PlainHolds (G : Geometry) (p s : List ℕ) (is : List Pins) : Type 0 where
  pub clocks : (plain_end G p s is).clocks ≡ (plain_book G p s is).held + (plain_book G p s is).charges + (plain_book G p s is).spent
  pub held : (plain_end G p s is).held ≡ (plain_book G p s is).held
  pub between : (plain_end G p s is).left ≡ 0 → (plain_book G p s is).spent ≡ 0
  pub flying : (plain_end G p s is).left ≢ 0 → (plain_book G p s is).spent + (plain_end G p s is).left ≡ due G p (plain_book G p s is)
  pub took : (i : Pins) → (reference_clock G p (plain_end G p s is) i).out.done ≡ 1
      → suc (plain_book G p s is).spent ≡ due G p (plain_book G p s is)
  pub audited : 1 ≤ burst G → Audited G p (opened (reference_seen (reference_reset s))) (plain_entries G p s is)

abbrev pub PlainMachine : Type 0
PlainMachine = (G : Geometry) (p s : List ℕ) (is : List Pins) → PlainHolds G p s is

-- Every charge is at least 1 and at most the longest, for any word in any state; the paper's geometry is one of `geometry_ok`.
pub record Bounded : Type 0 where
  pub fits : geometry_ok paper_geometry ≡ true
  pub positive : (G : Geometry) (w : ℕ) (q : Reference) → 1 ≤ charge G w q
  pub charges : (G : Geometry) (w : ℕ) (q : Reference) → charge G w q ≤ longest G
