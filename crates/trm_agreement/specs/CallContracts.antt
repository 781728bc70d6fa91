-- The contracts of the calls as plain facts: what each function's `ensures` says of its result and of the buffers at exit.
-- Paper: "For each callable function and all inputs, refused ones too, a contract gives its result ..".
-- A slice or record that is lent is a reference; a contract sees what it holds before and after the call.
--   ShippedReset, ShippedValue, ShippedLent, ShippedRun    the `ensures` of trm's trm_reset, trm_clock_value, trm_clock and trm_run
--   ResetMet, ClockMet, RunMet                             those of trm_calls' reset, clock and run
use Rattle.std.specs.Prelude.{ℕ, ◌≡◌, List, Result}
use contract.Lifetimes.{Lfts}
use Rattle.std.specs.Borrow.{Bor, MutBor}
use Rattle.trm_call_refusals.specs.declared.refusal.Refusal.{Refusal}
use Rattle.trm_run_machine.specs.declared.machine.Machine.{Machine}
use Rattle.trm_run_machine.specs.declared.clock_answer.Clock.{Clock}
use Rattle.trm_calls.specs.declared.call_answers.Run.{Run}
use Rattle.trm_calls.proofs.machine_calls.reset.Reads as reset-reads
use Rattle.trm_calls.proofs.machine_calls.clock.Reads as clock-reads
use Rattle.trm_calls.proofs.machine_calls.run.Reads as run-reads
use Rattle.trm.specs.declared.exported_answers.ResetAnswer.{ResetAnswer}
use Rattle.trm.specs.declared.exported_answers.ClockAnswer.{ClockAnswer}
use Rattle.trm.specs.declared.exported_answers.LentAnswer.{LentAnswer}
use Rattle.trm.specs.declared.exported_answers.RunAnswer.{RunAnswer}
use Rattle.trm.proofs.exported_calls.trm_reset.Reads as shipped-reset
use Rattle.trm.proofs.exported_calls.trm_clock_value.Reads as shipped-value
use Rattle.trm.proofs.exported_calls.trm_run.Reads as shipped-run
use Rattle.trm.proofs.lent.trm_clock.Reads as shipped-lent

pub record ShippedReset (s : List ℕ) (r : ResetAnswer) : Type 0 where
  pub lifetimes : Lfts 1
  pub store : Bor (List ℕ)
  pub holds : store.now ≡ s
  pub ensures : shipped-reset.Post lifetimes (store, tt) r (store, tt)

pub record ShippedValue (m : Machine) (p s : List ℕ) (line_byte input : ℕ) (r : ClockAnswer) (s' : List ℕ) : Type 0 where
  pub lifetimes : Lfts 2
  pub program : Bor (List ℕ)
  pub store : MutBor (List ℕ)
  pub store' : MutBor (List ℕ)
  pub holds : (program.now ≡ p) × (store.now ≡ s) × (store'.now ≡ s')
  pub ensures : shipped-value.Post lifetimes (m, (program, (store, (line_byte, (input, tt))))) r
      (m, (program, (store', (line_byte, (input, tt)))))

-- its record is lent: m before and m' after
pub record ShippedLent (m : Machine) (p s : List ℕ) (line_byte input : ℕ) (m' : Machine) (r : LentAnswer) (s' : List ℕ) : Type 0 where
  pub lifetimes : Lfts 3
  pub machine : MutBor Machine
  pub machine' : MutBor Machine
  pub program : Bor (List ℕ)
  pub store : MutBor (List ℕ)
  pub store' : MutBor (List ℕ)
  pub holds : (machine.now ≡ m) × (machine'.now ≡ m') × (program.now ≡ p) × (store.now ≡ s) × (store'.now ≡ s')
  pub ensures : shipped-lent.Post lifetimes (machine, (program, (store, (line_byte, (input, tt))))) r
      (machine', (program, (store', (line_byte, (input, tt)))))

pub record ShippedRun (m : Machine) (p s ls inputs bytes words : List ℕ) (r : RunAnswer) (s' bytes' words' : List ℕ) : Type 0 where
  pub lifetimes : Lfts 6
  pub program : Bor (List ℕ)
  pub store : MutBor (List ℕ)
  pub store' : MutBor (List ℕ)
  pub line_bytes : Bor (List ℕ)
  pub input_words : Bor (List ℕ)
  pub answer_bytes : MutBor (List ℕ)
  pub answer_bytes' : MutBor (List ℕ)
  pub answer_words : MutBor (List ℕ)
  pub answer_words' : MutBor (List ℕ)
  pub holds : (program.now ≡ p) × (store.now ≡ s) × (store'.now ≡ s') × (line_bytes.now ≡ ls) × (input_words.now ≡ inputs)
      × (answer_bytes.now ≡ bytes) × (answer_bytes'.now ≡ bytes') × (answer_words.now ≡ words) × (answer_words'.now ≡ words')
  pub ensures : shipped-run.Post lifetimes
      (m, (program, (store, (line_bytes, (input_words, (answer_bytes, (answer_words, tt))))))) r
      (m, (program, (store', (line_bytes, (input_words, (answer_bytes', (answer_words', tt)))))))

pub record ResetMet (s : List ℕ) (r : Result Machine Refusal) : Type 0 where
  pub lifetimes : Lfts 1
  pub store : Bor (List ℕ)
  pub holds : store.now ≡ s
  pub ensures : reset-reads.Post lifetimes (store, tt) r (store, tt)

pub record ClockMet (m : Machine) (p s : List ℕ) (line_byte input : ℕ) (r : Result Clock Refusal) (s' : List ℕ) : Type 0 where
  pub lifetimes : Lfts 2
  pub program : Bor (List ℕ)
  pub store : MutBor (List ℕ)
  pub store' : MutBor (List ℕ)
  pub holds : (program.now ≡ p) × (store.now ≡ s) × (store'.now ≡ s')
  pub ensures : clock-reads.Post lifetimes (m, (program, (store, (line_byte, (input, tt))))) r
      (m, (program, (store', (line_byte, (input, tt)))))

pub record RunMet (m : Machine) (p s ls inputs bytes words : List ℕ) (r : Result Run Refusal) (s' bytes' words' : List ℕ) : Type 0 where
  pub lifetimes : Lfts 6
  pub program : Bor (List ℕ)
  pub store : MutBor (List ℕ)
  pub store' : MutBor (List ℕ)
  pub line_bytes : Bor (List ℕ)
  pub input_words : Bor (List ℕ)
  pub answer_bytes : MutBor (List ℕ)
  pub answer_bytes' : MutBor (List ℕ)
  pub answer_words : MutBor (List ℕ)
  pub answer_words' : MutBor (List ℕ)
  pub holds : (program.now ≡ p) × (store.now ≡ s) × (store'.now ≡ s') × (line_bytes.now ≡ ls) × (input_words.now ≡ inputs)
      × (answer_bytes.now ≡ bytes) × (answer_bytes'.now ≡ bytes') × (answer_words.now ≡ words) × (answer_words'.now ≡ words')
  pub ensures : run-reads.Post lifetimes
      (m, (program, (store, (line_bytes, (input_words, (answer_bytes, (answer_words, tt))))))) r
      (m, (program, (store', (line_bytes, (input_words, (answer_bytes', (answer_words', tt)))))))
