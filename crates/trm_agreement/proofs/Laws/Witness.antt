-- Every list of calls from an accepted reset has an exchange: what the definitions give meets the contracts.
-- Idea: the record of the code is built from that of the definitions, a reference from the list that it holds.
--   back m    the record of the code        exchange-exists
use Prim.Native.Nat.{ℕ}
use mathlib.Core.Path.{◌≡◌, refl}
use mathlib.Core.List.{List, [], ◌∷◌}
use denote.Ref.{Bor, MutBor}
use Rattle.trm_reference.specs.Geometry.{paper_geometry}
use Rattle.trm_reference.specs.Access.{Answer}
use Rattle.trm_reference.specs.Trace.{After}
use Rattle.trm_core.specs.Record as core
use Rattle.trm_core.specs.Record.{Lent}
use Rattle.trm_core.specs.Refusals.{reset_refusal, clock_refusal, run_refusal}
use Rattle.trm_core.specs.Run.{Ran}
use Rattle.trm_run_machine.specs.declared.machine.Machine.{Machine}
use Rattle.trm_run_machine.specs.Machine.{record_of, lent}
use Rattle.trm_calls.specs.Promises.{pins, reset_gives, clock_gives, run_gives}
use Rattle.trm.specs.declared.exported_answers.ResetAnswer.{ResetAnswer}
use Rattle.trm_agreement.specs.Calls.{Call, clock_call, run_call}
use Rattle.trm_agreement.specs.CallContracts.{ShippedReset}
use Rattle.trm_agreement.specs.Exchange.{shipped, Returned, clock_returned, run_returned, machine_left, store_left, Meets, by_value, by_run}
use Rattle.trm_agreement.specs.Exchange.{Exchange}
use Rattle.trm_agreement.specs.Demand.{Exists}

-- the record of the code from that of the definitions, field by field
unfoldable pub back : core.Machine → Machine
back m = record {
  scalars = m.scalars;
  regs = m.regs;
  cache = record { full = m.full; dirty = m.dirty; block = m.block; words = m.words };
}

-- a reference that holds this value
unfoldable pub holding : {A : Type 0} → A → Bor A
holding x = record { ref_ptr = (0, 0); now = x }

-- one that may change it
unfoldable pub lending : {A : Type 0} → A → MutBor A
lending x = record { ref_ptr = (0, 0); ghost_name = 0; now = x }

reset-gives : List ℕ → ResetAnswer
reset-gives s = record { number = reset_refusal s; machine = back (reset_gives s) }

reset-met : (s : List ℕ) → ShippedReset s (reset-gives s)
unfolding reset-gives back holding
reset-met s = record {
  lifetimes = ([], tt);
  store = holding s;
  holds = refl;
  ensures = record { number = refl; machine = refl };
}

module _ (p : List ℕ) where
  clocked : Machine → List ℕ → ℕ → ℕ → After Lent Answer
  clocked m s line_byte input = clock_gives p (lent m s) (pins line_byte input)

  ran : Machine → List ℕ → List ℕ → List ℕ → List ℕ → List ℕ → Ran
  ran m s line_bytes inputs bytes words = run_gives p (lent m s) line_bytes inputs bytes words

  -- what a call returns by the definitions
  reply : Machine → List ℕ → Call → Returned
  reply m s (clock_call line_byte input) =
      clock_returned (clock_refusal paper_geometry p (record_of m) s line_byte) (back (clocked m s line_byte input).state.machine)
      (clocked m s line_byte input).state.store (clocked m s line_byte input).out
  reply m s (run_call line_bytes inputs bytes words) =
      run_returned (run_refusal paper_geometry p (record_of m) s line_bytes inputs bytes words)
      (back (ran m s line_bytes inputs bytes words).state.machine) (ran m s line_bytes inputs bytes words).state.store
      (ran m s line_bytes inputs bytes words).used (ran m s line_bytes inputs bytes words).finished
      (ran m s line_bytes inputs bytes words).bytes
      (ran m s line_bytes inputs bytes words).words

  -- a clock call by value
  reply-met : (m : Machine) (s : List ℕ) (c : Call) → Meets p m s c (reply m s c)
  unfolding reply clocked ran back holding lending
  reply-met m s (clock_call line_byte input) = by_value line_byte input (record {
    machine = back (clocked m s line_byte input).state.machine;
    number = clock_refusal paper_geometry p (record_of m) s line_byte;
    byte = (clocked m s line_byte input).out.byte;
    word = (clocked m s line_byte input).out.word;
    finished = (clocked m s line_byte input).out.done;
  }) (clocked m s line_byte input).state.store (record {
    lifetimes = ([], ([], tt));
    program = holding p;
    store = lending s;
    store' = lending (clocked m s line_byte input).state.store;
    holds = (refl, refl, refl);
    ensures = record { number = refl; outcome = refl };
  })
  reply-met m s (run_call line_bytes inputs bytes words) = by_run line_bytes inputs bytes words (record {
    machine = back (ran m s line_bytes inputs bytes words).state.machine;
    number = run_refusal paper_geometry p (record_of m) s line_bytes inputs bytes words;
    used = (ran m s line_bytes inputs bytes words).used;
    finished = (ran m s line_bytes inputs bytes words).finished;
  }) (ran m s line_bytes inputs bytes words).state.store (ran m s line_bytes inputs bytes words).bytes
      (ran m s line_bytes inputs bytes words).words
      (record {
        lifetimes = ([], ([], ([], ([], ([], ([], tt))))));
        program = holding p;
        store = lending s;
        store' = lending (ran m s line_bytes inputs bytes words).state.store;
        line_bytes = holding line_bytes;
        input_words = holding inputs;
        answer_bytes = lending bytes;
        answer_bytes' = lending (ran m s line_bytes inputs bytes words).bytes;
        answer_words = lending words;
        answer_words' = lending (ran m s line_bytes inputs bytes words).words;
        holds = (refl, refl, refl, refl, refl, refl, refl, refl, refl);
        ensures = record { number = refl; outcome = refl };
      })

  replies : Machine → List ℕ → List Call → List Returned
  replies m s [] = []
  replies m s (c ∷ cs) = reply m s c ∷ replies (machine_left (reply m s c)) (store_left (reply m s c)) cs

  replies-met : (m : Machine) (s : List ℕ) (cs : List Call) → Exchange p m s cs (replies m s cs)
  unfolding Exchange replies
  replies-met m s [] = tt
  replies-met m s (c ∷ cs) = (reply-met m s c, replies-met (machine_left (reply m s c)) (store_left (reply m s c)) cs)

pub exchange-exists : (p s : List ℕ) (cs : List Call) → reset_refusal s ≡ 0 → Exists p s cs
unfolding reset-gives
exchange-exists p s cs z = record {
  machine = (reset-gives s).machine;
  reset = shipped (reset-gives s) (reset-met s) z;
  returns = replies p (reset-gives s).machine s cs;
  exchange = replies-met p (reset-gives s).machine s cs;
}
