-- What the functions of trm_calls return by the definitions meets their contracts, for every input.
-- Idea: a result is made from its number; the rest is what the definitions give.
use Prim.Native.Nat.{ℕ, ◌+◌}
use mathlib.Core.Path.{◌≡◌, refl, ◌∙◌}
use Rattle.std.specs.Prelude.{Result, Ok, Err, IfOk}
use mathlib.Core.Bool.{Bool, true, false, cond, not, ◌||◌}
use mathlib.Core.List.{List, []}
use lib.ListN.{length}
use lib.Dec.{eqb, ltb}
use Rattle.trm_laws.proofs.Tests.{chosen}
use Rattle.trm_word.specs.Address.{store_length_ok}
use Rattle.trm_reference.specs.Geometry.{paper_geometry}
use Rattle.trm_reference.specs.Access.{Answer, silent}
use Rattle.trm_reference.specs.Trace.{After}
use Rattle.trm_core.specs.Record as core
use Rattle.trm_core.specs.Record.{Lent}
use Rattle.trm_core.specs.Clock.{clock_of}
use Rattle.trm_core.specs.Refusals.{program_ok, store_ok, record_rows, count_row, clock_rows, line_bytes_refused, run_rows}
use Rattle.trm_core.specs.Refusals.{reset_refusal, clock_refusal, run_refusal}
use Rattle.trm_core.specs.Rule.{record_ok}
use Rattle.trm_core.specs.Run.{Ran, run_of}
use Rattle.trm_call_refusals.specs.Numbers.{number_of as refusal_number, number_in}
use Rattle.trm_call_refusals.specs.declared.refusal.Refusal.{Refusal}
use Rattle.trm_call_refusals.specs.declared.refusal.Refusal.TheVariants.{Program, Store, Record, LineBytes, Buffers, Clocks}
use Rattle.trm_run_machine.specs.declared.machine.Machine.{Machine}
use Rattle.trm_run_machine.specs.Machine.{record_of, lent}
use Rattle.trm_calls.specs.Promises.{pins, reset_gives, clock_gives, run_gives, clock_left, run_left}
use Rattle.trm_calls.specs.declared.call_answers.Run.{Run}
use Rattle.trm_run_machine.specs.declared.clock_answer.Clock.{Clock}
use Rattle.trm_agreement.specs.Claims.{ResetAnswered, ClockAnswered, RunAnswered, OwnAnswered}
use Rattle.trm_agreement.proofs.Laws.Witness.{back, holding, lending}

-- a refusal from its number
refusal_of : ℕ → Refusal
refusal_of n = cond (eqb n 3) Program (cond (eqb n 4) Store
    (cond (eqb n 5) Record (cond (eqb n 6) LineBytes (cond (eqb n 7) Buffers Clocks))))

-- the result with this number
result_of : {T : Type 0} → ℕ → T → Result T Refusal
result_of n x = cond (eqb n 0) (Ok x) (Err (refusal_of n))

-- the number of a row
Named : ℕ → Type 0
Named n = cond (eqb n 0) 0 (refusal_number (refusal_of n)) ≡ n

number_is : {T : Type 0} (n : ℕ) (x : T) → Named n → number_in (result_of n x) ≡ n
unfolding result_of Named
number_is {T} n x h = go (eqb n 0) ∙ h
  where
    go : (t : Bool) → number_in {T = T} (cond t (Ok x) (Err (refusal_of n))) ≡ cond t 0 (refusal_number (refusal_of n))
    go true = refl
    go false = refl

row : (n : ℕ) → Named n → (t : Bool) (rest : ℕ) → Named rest → Named (cond t n rest)
row n h t rest g = chosen Named t {a = n} {b = rest} h g

count-named : (k n : ℕ) → Named (count_row k n)
unfolding Named refusal_of count_row
count-named k n = row 8 refl (ltb 4294967295 (k + n)) 0 refl

rows_named : (p : List ℕ) (m : core.Machine) (s : List ℕ) (rest : ℕ) → Named rest → Named (record_rows paper_geometry p m s rest)
unfolding Named refusal_of record_rows
rows_named p m s rest h = row 3 refl (not (program_ok p)) _
    (row 4 refl (not (store_ok m s)) _ (row 5 refl (not (record_ok paper_geometry p (length s) m)) rest h))

reset-named : (s : List ℕ) → Named (reset_refusal s)
unfolding Named refusal_of reset_refusal
reset-named s = row 0 refl (store_length_ok (length s)) 4 refl

clock-named : (p : List ℕ) (m : core.Machine) (s : List ℕ) (line_byte : ℕ) → Named (clock_refusal paper_geometry p m s line_byte)
unfolding Named refusal_of clock_refusal clock_rows
clock-named p m s line_byte = rows_named p m s (clock_rows m.scalars.counts.clocks line_byte)
    (row 6 refl (ltb 7 line_byte) _ (count-named m.scalars.counts.clocks 1))

run-named : (p : List ℕ) (m : core.Machine) (s line_bytes inputs bytes words : List ℕ)
    → Named (run_refusal paper_geometry p m s line_bytes inputs bytes words)
unfolding Named refusal_of run_refusal run_rows
run-named p m s line_bytes inputs bytes words =
    rows_named p m s (run_rows m.scalars.counts.clocks line_bytes inputs bytes words)
    (row 6 refl (line_bytes_refused line_bytes inputs) _
    (row 7 refl (not (eqb (length bytes) (length line_bytes)) || not (eqb (length words) (length line_bytes))) _
    (count-named m.scalars.counts.clocks (length line_bytes))))

reset-answered : (s : List ℕ) → ResetAnswered s
unfolding back holding result_of
reset-answered s = record {
  result = result_of (reset_refusal s) m;
  met = record {
    lifetimes = ([], tt);
    store = holding s;
    holds = refl;
    ensures = record { number = number_is (reset_refusal s) m (reset-named s); machine = go (eqb (reset_refusal s) 0) };
  };
}
  where
    m : Machine
    m = back (reset_gives s)

    go : (t : Bool) → IfOk (cond t (Ok m) (Err (refusal_of (reset_refusal s)))) (λ k. record_of k ≡ reset_gives s)
    go true = refl
    go false = tt

-- what a clock by its definition returns, and the store that it leaves
clock_back : After Lent Answer → Clock
clock_back t = record { machine = back t.state.machine; byte = t.out.byte; word = t.out.word; finished = t.out.done }

clock-answered : (m : Machine) (p s : List ℕ) (line_byte input : ℕ) → ClockAnswered m p s line_byte input
unfolding back holding lending result_of clock_back clock_gives
clock-answered m p s line_byte input = record {
  result = result_of code (clock_back (t (eqb code 0)));
  store = (t (eqb code 0)).state.store;
  met = record {
    lifetimes = ([], ([], tt));
    program = holding p;
    store = lending s;
    store' = lending (t (eqb code 0)).state.store;
    holds = (refl, refl, refl);
    ensures = record {
      number = number_is code (clock_back (t (eqb code 0))) (clock-named p (record_of m) s line_byte);
      outcome = go (eqb code 0);
    };
  };
}
  where
    code : ℕ
    code = clock_refusal paper_geometry p (record_of m) s line_byte

    t : Bool → After Lent Answer
    t b = cond b (clock_of paper_geometry p (lent m s) (pins line_byte input)) (record { state = lent m s; out = silent 0 })

    go : (b : Bool) → clock_left m (cond b (Ok (clock_back (t b))) (Err (refusal_of code))) (t b).state.store ≡ t b
    go true = refl
    go false = refl

run_back : Ran → Run
run_back t = record { machine = back t.state.machine; used = t.used; finished = t.finished }

run-answered : (m : Machine) (p s line_bytes inputs bytes words : List ℕ) → RunAnswered m p s line_bytes inputs bytes words
unfolding back holding lending result_of run_back run_gives
run-answered m p s line_bytes inputs bytes words = record {
  result = result_of code (run_back (t (eqb code 0)));
  store = (t (eqb code 0)).state.store;
  bytes' = (t (eqb code 0)).bytes;
  words' = (t (eqb code 0)).words;
  met = record {
    lifetimes = ([], ([], ([], ([], ([], ([], tt))))));
    program = holding p;
    store = lending s;
    store' = lending (t (eqb code 0)).state.store;
    line_bytes = holding line_bytes;
    input_words = holding inputs;
    answer_bytes = lending bytes;
    answer_bytes' = lending (t (eqb code 0)).bytes;
    answer_words = lending words;
    answer_words' = lending (t (eqb code 0)).words;
    holds = (refl, refl, refl, refl, refl, refl, refl, refl, refl);
    ensures = record {
      number = number_is code (run_back (t (eqb code 0))) (run-named p (record_of m) s line_bytes inputs bytes words);
      outcome = go (eqb code 0);
    };
  };
}
  where
    code : ℕ
    code = run_refusal paper_geometry p (record_of m) s line_bytes inputs bytes words

    t : Bool → Ran
    t b = cond b (run_of paper_geometry p (lent m s) line_bytes inputs)
        (record { state = lent m s; used = 0; finished = 0; bytes = bytes; words = words })

    go : (b : Bool) → run_left m (cond b (Ok (run_back (t b))) (Err (refusal_of code))) (t b).state.store (t b).bytes (t b).words ≡ t b
    go true = refl
    go false = refl

pub own_answered : OwnAnswered
own_answered = record { reset = reset-answered; clock = clock-answered; run = run-answered }
