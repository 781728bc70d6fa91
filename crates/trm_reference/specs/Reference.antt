-- The reference machine ("plain machine"): its state, its charge, and one clock.
-- Paper: "The plain machine of demand 3 has what a programmer sees, a flat memory, a history, clocks left and counts".
--   charge G w q                  the clocks of the word w, from the state and the history
--   reference_clock G p q pins     one clock        reference_reset s   the state after an accepted reset
use Rattle.std.specs.Prelude.{ℕ, ◌+◌, ◌-◌, ◌%◌, Bool, cond, ◌&&◌, List, [], ◌∷◌, length, get_or, set, eqb}
use Rattle.trm_reference.specs.Geometry.{Geometry, burst}
use Rattle.trm_reference.specs.Visible.{Visible, word_at, reset_visible}
use Rattle.trm_reference.specs.Access.{is_store, to_memory, target, target_block, target_line, stored, loaded, Answer, silent}
use Rattle.trm_reference.specs.Access.{answer_of}
use Rattle.trm_reference.specs.Execute.{execute}
use Rattle.trm_reference.specs.Interrupt.{stalled, interrupt_chosen, interrupted}
use Rattle.trm_reference.specs.History.{Event, access, emptying, refills_now, dirty_now, dirty_lines}
use Rattle.trm_reference.specs.Charge.{through_cache, turns_cache_off, charge_by}
use Rattle.trm_reference.specs.Trace.{Pins, After}

pub record Reference : Type 0 where
  pub visible : Visible
  pub memory : List ℕ
  pub history : List Event
  pub left : ℕ
  pub clocks : ℕ
  pub held : ℕ
  pub refills : ℕ
  pub writebacks : ℕ

-- "an accepted reset gives zeros, the store's words and no history"
unfoldable pub reference_reset : List ℕ → Reference
reference_reset s =
    record {
      visible = reset_visible;
      memory = s;
      history = [];
      left = 0;
      clocks = 0;
      held = 0;
      refills = 0;
      writebacks = 0;
    }

module _ (G : Geometry) (w : ℕ) (q : Reference) where
  -- "an access refills unless .."; `evicts`: the old block is dirty
  unfoldable pub misses : Bool
  misses = refills_now G q.history (target_block G w q.visible (length q.memory))

  unfoldable pub evicts : Bool
  evicts = dirty_now G q.history (target_line G w q.visible (length q.memory))

  -- "the charge of the word at PC by its own state and history"
  unfoldable pub charge : ℕ
  charge = charge_by G w q.visible (length q.memory) misses evicts (dirty_lines G q.history)

  -- "A refill or write-back counts when its ten is over": a refill when the last clock is left, the write-back of an access when the
  -- refill and the last clock are left, one of an emptying when a whole number of bursts and the last clock are left
  unfoldable pub refill_over : ℕ → ℕ
  refill_over left = cond (through_cache w q.visible (length q.memory) && misses && eqb left 1) 1 0

  unfoldable pub writeback_over : ℕ → ℕ
  writeback_over left =
      cond (through_cache w q.visible (length q.memory)) (cond (misses && evicts && eqb left (1 + burst G)) 1 0)
      (cond (turns_cache_off w q.visible) (cond (eqb ((left - 1) % burst G) 0) 1 0) 0)

  -- "At 0 the word is carried out": ST to memory stores R.d
  unfoldable pub memory_after : List ℕ
  memory_after =
      cond (to_memory w q.visible (length q.memory) && is_store w)
      (set q.memory (target w q.visible (length q.memory)) (stored w q.visible))
      q.memory

  -- "a memory access with cache on, or an emptying, joins the history"
  unfoldable pub history_after : List Event
  history_after =
      cond (through_cache w q.visible (length q.memory))
      (access (record { block = target_block G w q.visible (length q.memory); store = is_store w }) ∷ q.history)
      (cond (turns_cache_off w q.visible) (emptying ∷ q.history) q.history)

  -- the word is executed; i is this clock's input word; only LD from memory uses the word of memory
  unfoldable pub carry_out : ℕ → After Reference Answer
  carry_out i = record {
    state = record {
      visible = execute w q.visible (loaded w q.visible (length q.memory) i
          (get_or q.memory (target w q.visible (length q.memory)) 0));
      memory = memory_after;
      history = history_after;
      left = 0;
      clocks = q.clocks + 1;
      held = q.held;
      refills = q.refills;
      writebacks = q.writebacks;
    };
    out = answer_of w q.visible (length q.memory) i;
  }

  -- a clock that does not execute the word; `left` clocks remain
  unfoldable pub spend : ℕ → After Reference Answer
  spend left = record {
    state = record {
      visible = q.visible;
      memory = q.memory;
      history = q.history;
      left = left;
      clocks = q.clocks + 1;
      held = q.held;
      refills = q.refills + refill_over left;
      writebacks = q.writebacks + writeback_over left;
    };
    out = silent 0;
  }

  -- "Then one is taken off. At 0 the word is carried out": left is not 0, so the difference does not truncate
  unfoldable pub take_off : ℕ → ℕ → After Reference Answer
  take_off left i = cond (eqb (left - 1) 0) (carry_out i) (spend (left - 1))

-- "a held one adds a held clock and no more"
unfoldable pub reference_held : Reference → After Reference Answer
reference_held q = record {
  state = record {
    visible = q.visible;
    memory = q.memory;
    history = q.history;
    left = q.left;
    clocks = q.clocks + 1;
    held = q.held + 1;
    refills = q.refills;
    writebacks = q.writebacks;
  };
  out = silent 0;
}

-- "takes an interrupt by the rule above, and is done"
unfoldable pub reference_interrupt : ℕ → Reference → After Reference Answer
reference_interrupt to q = record {
  state = record {
    visible = interrupted q.visible to;
    memory = q.memory;
    history = q.history;
    left = 0;
    clocks = q.clocks + 1;
    held = q.held;
    refills = q.refills;
    writebacks = q.writebacks;
  };
  out = silent 0;
}

module _ (G : Geometry) where
  -- "With no clocks left it takes an interrupt .., or else sets them to the charge of the word at PC"
  unfoldable pub reference_unheld : ℕ → Reference → Pins → After Reference Answer
  reference_unheld w q pins =
      cond (eqb q.left 0)
      (cond (eqb (interrupt_chosen q.visible.status pins.line_byte) 0)
      (take_off G w q (charge G w q) pins.input)
      (reference_interrupt (interrupt_chosen q.visible.status pins.line_byte) q))
      (take_off G w q q.left pins.input)

  unfoldable pub reference_clock : List ℕ → Reference → Pins → After Reference Answer
  reference_clock p q pins =
      cond (stalled pins.line_byte) (reference_held q) (reference_unheld (word_at p q.visible.pc) q pins)
