-- One clock of the reference machine keeps the book: it does what the book says, and the book after it is balanced.
-- Idea: the book is the machine's visible part, memory, history and counts with the clocks spent; the clocks spent and left are the charge.
-- One law for each thing a clock can be spent on.
--   book_of q sp hd ch   the book of a state        Kept   how it relates to the state        clock-step   one clock
use Prim.Native.Nat.{ℕ, suc, ◌+◌, ◌-◌, ◌≤◌, ◌<◌}
use mathlib.Core.Path.{◌≡◌, refl, sym, ap, ap₂, ◌∙◌}
use mathlib.Core.Logic.{◌≢◌}
use mathlib.Core.Bool.{Bool, true, false, cond, not, ◌&&◌}
use mathlib.Core.List.{List}
use lib.ListN.{length}
use lib.Dec.{eqb}
use borrow.Author.Tests.{eqb-true, eqb-false, eq-eqb, ne_eqb}
use native.Mathlib.Omega.{arith}
use native.Mathlib.Nat.{add-zero}
use Rattle.trm_reference.specs.Geometry.{Geometry, burst}
use Rattle.trm_reference.specs.Visible.{word_at, reset_visible}
use Rattle.trm_reference.specs.Access.{is_store, Answer}
use Rattle.trm_reference.specs.Interrupt.{stalled, interrupt_chosen, interrupted}
use Rattle.trm_reference.specs.History.{Event, dirty_lines, refills_in, writebacks_in}
use Rattle.trm_reference.specs.Trace.{Pins, After}
use Rattle.trm_reference.specs.Reference.{Reference, misses, evicts, charge, memory_after, history_after, carry_out, spend, take_off}
use Rattle.trm_reference.specs.Reference.{reference_held, reference_interrupt, reference_unheld, reference_clock, reference_reset}
use Rattle.trm_reference.proofs.Laws.Execute.{execute_regs, interrupted_regs}
use Rattle.trm_core.proofs.Laws.Deaf.{answer-done}
use Rattle.trm_core.proofs.Laws.Kind.{Kind, kind_of, Is, kind-is, is_cached, charge_of_kind}
use Rattle.trm_agreement.specs.Calls.{Seen}
use Rattle.trm_agreement.specs.Book.{Did, waited, acknowledged, worked, finished, Book, interrupt_to, interrupting}
use Rattle.trm_agreement.specs.Book.{missing, evicting, due, refill_over, writeback_over, went, joined, turned}
use Rattle.trm_agreement.specs.Audit.{Balanced, Does}
use Rattle.trm_agreement.proofs.Laws.Bounds.{charge-pos, charge-bounded}
use Rattle.trm_agreement.proofs.Laws.Interrupts.{taken_in-bits, goes_to}
use Rattle.trm_agreement.proofs.Laws.Devices.{answers_hold, device_arrives}
use Rattle.trm_agreement.proofs.Laws.Counts.{fills, writes, idle-fills, idle-writes, spent-fills, spent-writes, done-fills}
use Rattle.trm_agreement.proofs.Laws.Counts.{done-writes, joined-fills, joined-writes, refill-adds, writeback_adds}

abbrev pub seen_of : Reference → Seen
seen_of q =
    record {
      visible = q.visible;
      memory = q.memory;
      clocks = q.clocks;
      held = q.held;
      refills = q.refills;
      writebacks = q.writebacks;
    }

abbrev pub book_of : Reference → ℕ → ℕ → ℕ → Book
book_of q sp hd ch =
    record { seen = seen_of q; history = q.history; spent = sp; held = hd; charges = ch }

module _ (G : Geometry) (p : List ℕ) where
  abbrev word_for : Reference → ℕ
  word_for q = word_at p q.visible.pc

  abbrev kind_for : Reference → Kind
  kind_for q = kind_of (word_for q) q.visible (length q.memory)

  abbrev misses_for : Reference → Bool
  misses_for q = misses G (word_for q) q

  abbrev evicts_for : Reference → Bool
  evicts_for q = evicts G (word_for q) q

  abbrev tests : (q : Reference) → Is (kind_for q) (word_for q) q.visible (length q.memory)
  tests q = kind-is (word_for q) q.visible (length q.memory)

  -- the charge by kind
  charge-is : (q : Reference) → charge G (word_for q) q
      ≡ charge_of_kind G (kind_for q) (is_store (word_for q)) (misses_for q) (evicts_for q) (dirty_lines G q.history)
  unfolding charge
  charge-is q = (tests q).charge G (misses_for q) (evicts_for q) (dirty_lines G q.history)

  module _ (q : Reference) (sp hd ch : ℕ) where
    pub due-is : due G p (book_of q sp hd ch) ≡ charge G (word_for q) q
    unfolding due charge missing misses evicting evicts
    due-is = refl

    joined_is : joined G p (book_of q sp hd ch) ≡ history_after G (word_for q) q
    unfolding joined history_after
    joined_is = refl

    -- the interrupt rule
    interrupting-is : (i : Pins) → interrupting (book_of q sp hd ch) i
        ≡ eqb sp 0 && not (eqb (interrupt_chosen q.visible.status i.line_byte) 0)
    unfolding interrupting
    interrupting-is i = rw (taken_in-bits q.visible.status i.line_byte)

    interrupt_at_lem : (i : Pins) → eqb (interrupt_chosen q.visible.status i.line_byte) 0 ≡ false
        → interrupt_chosen q.visible.status i.line_byte ≡ interrupt_to q.visible.status i.line_byte
    interrupt_at_lem i e = goes_to q.visible.status i.line_byte (sym (taken_in-bits q.visible.status i.line_byte) ∙ rw e)

    refill-is : refill_over G p (book_of q sp hd ch) ≡ fills (is_cached (kind_for q) && misses_for q) (charge G (word_for q) q) sp
    unfolding refill_over due charge missing misses evicting evicts
    refill-is = rw (tests q).through

    writeback_is : writeback_over G p (book_of q sp hd ch) ≡ writes G (kind_for q) (misses_for q) (evicts_for q) sp
    unfolding writeback_over missing misses evicting evicts
    writeback_is = rw ((tests q).through, (tests q).off)

  -- the book of a state, with the clocks spent, held and charged
  pub record Kept (q : Reference) (sp hd ch : ℕ) : Type 0 where
    pub idle : q.left ≡ 0 → sp ≡ 0
    pub flying : q.left ≢ 0 → sp ≢ 0
    pub sum : q.left ≢ 0 → sp + q.left ≡ charge G (word_for q) q
    pub clocks : q.clocks ≡ hd + ch + sp
    pub held : q.held ≡ hd
    pub refills : q.refills ≡ refills_in G q.history + fills (is_cached (kind_for q) && misses_for q) (charge G (word_for q) q) sp
    pub writebacks : 0 < burst G → q.writebacks ≡ writebacks_in G q.history + writes G (kind_for q) (misses_for q) (evicts_for q) sp
    pub wide : length q.visible.regs ≡ 16

  pub balanced : 0 < burst G → (q : Reference) (sp hd ch : ℕ) → Kept q sp hd ch → Balanced G p (book_of q sp hd ch)
  balanced pos q sp hd ch k = record {
    clocks = k.clocks;
    held = k.held;
    refills = k.refills ∙ ap (λ x. refills_in G q.history + x) (sym (refill-is q sp hd ch));
    writebacks = k.writebacks pos ∙ ap (λ x. writebacks_in G q.history + x) (sym (writeback_is q sp hd ch));
    flight = λ n. rw (due-is q sp hd ch) (go (eqb q.left 0) refl n);
    short = rw (due-is q sp hd ch) (charge-bounded G (word_for q) q);
  }
    where
      go : (t : Bool) → eqb q.left 0 ≡ t → sp ≢ 0 → suc sp ≤ charge G (word_for q) q
      go true e n = absurd (n (k.idle (eqb-true q.left 0 e)))
      go false e n = let a = eqb-false q.left 0 e in let b = k.sum a in omega arith

  -- with no clock spent no burst is over
  none_filled : (q : Reference) → fills (is_cached (kind_for q) && misses_for q) (charge G (word_for q) q) 0 ≡ 0
  none_filled q = rw (charge-is q)
      (idle-fills G (kind_for q) (is_store (word_for q)) (misses_for q) (evicts_for q) (dirty_lines G q.history))

  none_written : (q : Reference) → writes G (kind_for q) (misses_for q) (evicts_for q) 0 ≡ 0
  none_written q = idle-writes G (kind_for q) (misses_for q) (evicts_for q)

  -- nothing in flight
  idle-kept : (q : Reference) (hd ch : ℕ) → q.left ≡ 0 → q.clocks ≡ hd + ch → q.held ≡ hd → q.refills ≡ refills_in G q.history
      → (0 < burst G → q.writebacks ≡ writebacks_in G q.history) → length q.visible.regs ≡ 16 → Kept q 0 hd ch
  idle-kept q hd ch z c h r w l = record {
    idle = λ _. refl;
    flying = λ n. absurd (n z);
    sum = λ n. absurd (n z);
    clocks = omega arith;
    held = h;
    refills = r ∙ sym (ap (λ x. refills_in G q.history + x) (none_filled q) ∙ add-zero _);
    writebacks = λ pos. w pos ∙ sym (ap (λ x. writebacks_in G q.history + x) (none_written q) ∙ add-zero _);
    wide = l;
  }

  -- a clock by what it is spent on: it is lawful, and the book after it is that of the state after it
  pub record Step (q : Reference) (sp hd ch : ℕ) (i : Pins) (u : After Reference Answer) : Type 0 where
    pub d : Did
    pub is : went G p (book_of q sp hd ch) i u.out ≡ d
    pub does : Does p (book_of q sp hd ch) i (seen_of u.state) u.out d
    pub sp' : ℕ
    pub hd' : ℕ
    pub ch' : ℕ
    pub next : turned G p (book_of q sp hd ch) (seen_of u.state) d ≡ book_of u.state sp' hd' ch'
    pub kept : Kept u.state sp' hd' ch'

  module _ (q : Reference) (sp hd ch : ℕ) (i : Pins) (k : Kept q sp hd ch) where
    held-step : stalled i.line_byte ≡ true → Step q sp hd ch i (reference_held q)
    unfolding reference_held went Does turned charge misses evicts
    held-step e = record {
      d = waited;
      is = rw e;
      does = record { visible = refl; memory = refl; silent = refl };
      sp' = sp;
      hd' = suc hd;
      ch' = ch;
      next = refl;
      kept = record {
        idle = k.idle;
        flying = k.flying;
        sum = k.sum;
        clocks = let c = k.clocks in omega arith;
        held = let c = k.held in omega arith;
        refills = k.refills;
        writebacks = k.writebacks;
        wide = k.wide;
      };
    }

    interrupt_step : stalled i.line_byte ≡ false → q.left ≡ 0 → eqb (interrupt_chosen q.visible.status i.line_byte) 0 ≡ false
        → Step q sp hd ch i (reference_interrupt (interrupt_chosen q.visible.status i.line_byte) q)
    unfolding reference_interrupt went Does turned
    interrupt_step e z n = record {
      d = acknowledged;
      is = rw (e, interrupting-is q sp hd ch i, eq-eqb sp 0 (k.idle z), n);
      does = record { visible = ap (interrupted q.visible) (interrupt_at_lem q sp hd ch i n); memory = refl; silent = refl };
      sp' = 0;
      hd' = hd;
      ch' = 1 + ch;
      next = refl;
      kept = idle-kept (reference_interrupt (interrupt_chosen q.visible.status i.line_byte) q).state hd (1 + ch) refl
          (let a = k.clocks in let b = k.idle z in omega arith) k.held
          (rw (k.idle z) at k.refills ∙ ap (λ x. refills_in G q.history + x) (none_filled q) ∙ add-zero _)
          (λ pos. rw (k.idle z) at (k.writebacks pos) ∙ ap (λ x. writebacks_in G q.history + x) (none_written q) ∙ add-zero _)
          (interrupted_regs q.visible (interrupt_chosen q.visible.status i.line_byte) ∙ k.wide);
    }

    -- the word does not end, and n clocks are left
    spend-step : (n : ℕ) → stalled i.line_byte ≡ false
        → eqb sp 0 && not (eqb (interrupt_chosen q.visible.status i.line_byte) 0) ≡ false → n ≢ 0
        → suc sp + n ≡ charge G (word_for q) q → Step q sp hd ch i (spend G (word_for q) q n)
    unfolding spend went Does turned charge misses evicts
    spend-step n e a z s = record {
      d = worked;
      is = rw (e, interrupting-is q sp hd ch i, a);
      does = record { visible = refl; memory = refl; silent = refl };
      sp' = suc sp;
      hd' = hd;
      ch' = ch;
      next = refl;
      kept = record {
        idle = λ y. absurd (z y);
        flying = λ _ y. absurd (omega arith);
        sum = λ _. s;
        clocks = let c = k.clocks in omega arith;
        held = k.held;
        refills = ap₂ ◌+◌ k.refills (refill-adds G (word_for q) q n)
            ∙ (let f = spent-fills (is_cached (kind_for q) && misses_for q) (charge G (word_for q) q) sp n z s in omega arith);
        writebacks = λ pos. ap₂ ◌+◌ (k.writebacks pos) (writeback_adds G (word_for q) q n)
            ∙ (let f = spent-writes G pos (kind_for q) (is_store (word_for q)) (misses_for q) (evicts_for q) (dirty_lines G q.history) sp n
            z
            (s ∙ charge-is q) in omega arith);
        wide = k.wide;
      };
    }

    -- the word is executed
    carry-step : stalled i.line_byte ≡ false
        → eqb sp 0 && not (eqb (interrupt_chosen q.visible.status i.line_byte) 0) ≡ false
        → suc sp ≡ charge G (word_for q) q → Step q sp hd ch i (carry_out G (word_for q) q i.input)
    unfolding carry_out went Does turned memory_after
    carry-step e a s = record {
      d = finished (due G p (book_of q sp hd ch));
      is = rw (e, interrupting-is q sp hd ch i, a, answer-done (word_for q) q.visible (length q.memory) i.input);
      does = record {
        took = s ∙ sym (due-is q sp hd ch);
        visible = refl;
        memory = refl;
        answer = refl;
        answers = answers_hold (word_for q) q.visible (length q.memory) i.input;
        arrives = device_arrives (word_for q) q.visible (length q.memory) i.input _ (let y = k.wide in omega arith);
      };
      sp' = 0;
      hd' = hd;
      ch' = charge G (word_for q) q + ch;
      next = ap₂ (λ (h : List Event) (c : ℕ). record {
        seen = seen_of (carry_out G (word_for q) q i.input).state;
        history = h;
        spent = 0;
        held = hd;
        charges = c + ch;
      }) (joined_is q sp hd ch) (due-is q sp hd ch);
      kept = idle-kept (carry_out G (word_for q) q i.input).state hd (charge G (word_for q) q + ch) refl
          (let c = k.clocks in omega arith) k.held
          (k.refills ∙ ap (λ x. refills_in G q.history + x)
          (done-fills (is_cached (kind_for q) && misses_for q) (charge G (word_for q) q) sp s ∙ rw (← (tests q).through))
          ∙ sym (joined-fills G (word_for q) q))
          (λ pos. k.writebacks pos ∙ ap (λ x. writebacks_in G q.history + x)
          (done-writes G pos (kind_for q) (is_store (word_for q)) (misses_for q) (evicts_for q) (dirty_lines G q.history) sp
          (s ∙ charge-is q)
          ∙ rw (← (tests q).through, ← (tests q).off)) ∙ sym (joined-writes G (word_for q) q))
          (execute_regs (word_for q) q.visible _ ∙ k.wide);
    }

    -- one of the n clocks left is spent
    take_step : (n : ℕ) → stalled i.line_byte ≡ false
        → eqb sp 0 && not (eqb (interrupt_chosen q.visible.status i.line_byte) 0) ≡ false → n ≢ 0
        → sp + n ≡ charge G (word_for q) q → Step q sp hd ch i (take_off G (word_for q) q n i.input)
    unfolding take_off
    take_step n e a z s = go (eqb (n - 1) 0) refl
      where
        go : (t : Bool) → eqb (n - 1) 0 ≡ t
            → Step q sp hd ch i (cond t (carry_out G (word_for q) q i.input) (spend G (word_for q) q (n - 1)))
        go true y = carry-step e a (let f = eqb-true (n - 1) 0 y in omega arith)
        go false y = let f = eqb-false (n - 1) 0 y in spend-step (n - 1) e a f (omega arith)

    pub clock-step : Step q sp hd ch i (reference_clock G p q i)
    unfolding reference_clock reference_unheld
    clock-step = go (stalled i.line_byte) refl (eqb q.left 0) refl (eqb (interrupt_chosen q.visible.status i.line_byte) 0) refl
      where
        go : (h : Bool) → stalled i.line_byte ≡ h → (z : Bool) → eqb q.left 0 ≡ z
            → (n : Bool) → eqb (interrupt_chosen q.visible.status i.line_byte) 0 ≡ n
            → Step q sp hd ch i (cond h (reference_held q) (cond z
            (cond n (take_off G (word_for q) q (charge G (word_for q) q) i.input)
            (reference_interrupt (interrupt_chosen q.visible.status i.line_byte) q))
            (take_off G (word_for q) q q.left i.input)))
        go true e z f n g = held-step e
        go false e true f true g = let idle = k.idle (eqb-true q.left 0 f) in
            take_step (charge G (word_for q) q) e (rw (eq-eqb sp 0 idle, g))
            (λ y. absurd (let c = charge-pos G (word_for q) q in omega arith)) (omega arith)
        go false e true f false g = interrupt_step e (eqb-true q.left 0 f) g
        go false e false f n g = let more = eqb-false q.left 0 f in
            take_step q.left e (rw (ne_eqb sp 0 (k.flying more))) more (k.sum more)

  pub reset_kept : (s : List ℕ) → Kept (reference_reset s) 0 0 0
  unfolding reference_reset reset_visible refills_in writebacks_in
  reset_kept s = idle-kept (reference_reset s) 0 0 refl refl refl refl (λ _. refl) refl
