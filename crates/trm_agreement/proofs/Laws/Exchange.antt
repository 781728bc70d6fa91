-- The returns of the calls have the log of the definitions, and so that of the reference machine; prefixes of runs; refused calls.
-- Idea: the contract of a call gives its clocks, what it returns and what it leaves; the whole log by induction; then `same_log`.
--   exchange-holds    run_prefix    refused-keeps
use Prim.Native.Nat.{ℕ, ◌≤◌}
use mathlib.Core.Path.{◌≡◌, refl, sym, ap, ap₂, ◌∙◌}
use mathlib.Core.Logic.{◌≢◌}
use mathlib.Core.Bool.{Bool, true, false, cond}
use mathlib.Core.List.{List, [], ◌∷◌, ◌++◌}
use lib.ListN.{length, take}
use lib.Seq.{length-take-le}
use lib.Dec.{eqb}
use borrow.Author.Tests.{eqb-true, eq-eqb, ne_eqb}
use Rattle.trm_reference.specs.Geometry.{paper_geometry}
use Rattle.trm_reference.specs.Access.{Answer, silent}
use Rattle.trm_reference.specs.Trace.{Pins, After, pins_of, clocks, end_of, outs_of, finished_in}
use Rattle.trm_reference.proofs.Laws.Trace.{pins-take}
use Rattle.trm_core.specs.Record.{Lent}
use Rattle.trm_core.specs.Clock.{clock_of}
use Rattle.trm_core.specs.Refusals.{clock_refusal, run_refusal}
use Rattle.trm_core.specs.Run.{bytes_of, words_of, Ran, history_of, run_of}
use Rattle.trm_run_machine.specs.declared.machine.Machine.{Machine}
use Rattle.trm_run_machine.specs.Machine.{record_of, lent}
use Rattle.trm_calls.specs.Promises.{pins, clock_gives, run_gives}
use Rattle.trm_clock_laws.proofs.Laws.Facts.{paper_ok}
use Rattle.trm_agreement.specs.Log.{started, clocked, ended, clocks_of, entries, calls, log_of, answers_in, last_seen}
use Rattle.trm_agreement.specs.Calls.{Call, clock_call, run_call, feed, answer, Ended, run_ends, record_seen, record_code, record_engine}
use Rattle.trm_agreement.specs.Exchange.{Starts, Returned, clock_returned, run_returned, code_returned, machine_left, store_left, as_given}
use Rattle.trm_agreement.specs.Exchange.{Meets, Exchange, machine_at, store_at, ended_by, alone, seen_at, clock_history, shown}
use Rattle.trm_agreement.specs.Exchange.{exchange_log}
use Rattle.trm_agreement.specs.Demand.{Holds, Prefix}
use Rattle.trm_agreement.proofs.Laws.Contracts.{starts, ClockFacts, RunFacts, Facts, facts}
use Rattle.trm_agreement.proofs.Laws.Log.{clocks-take, entries-take, entries-answers, entries-last, last-ended}
use Rattle.trm_agreement.proofs.Laws.SameLog.{same_log}
use Rattle.trm_agreement.proofs.Laws.Audit.{of-log}
use Rattle.trm_agreement.proofs.Laws.Runs.{runs_are_runs}
use Rattle.trm_agreement.proofs.Laws.Witness.{back}

module _ (p : List ℕ) where
  -- the clocks of a call by the definitions
  clocks_in : Machine → List ℕ → Call → List (After Lent Answer)
  clocks_in m s c = clocks_of feed answer (record_engine paper_geometry p) (lent m s) c

  code_in : Machine → List ℕ → Call → ℕ
  code_in m s c = record_code paper_geometry p (lent m s) c

  -- what a call returned is what the definitions give
  record Step (m : Machine) (s : List ℕ) (c : Call) (a : Returned) : Type 0 where
    show : shown paper_geometry p m s c a ≡ entries feed answer (record_engine paper_geometry p) (clocks_in m s c) (feed c)
    reports : ended_by a ≡ answer (code_in m s c) c (outs_of (clocks_in m s c))
    left : lent (machine_left a) (store_left a) ≡ end_of (lent m s) (clocks_in m s c)

  clock-met : (m : Machine) (s : List ℕ) (line_byte input number : ℕ) (left : Machine) (store : List ℕ) (out : Answer)
      → ClockFacts p m s line_byte input number left store out
      → Step m s (clock_call line_byte input) (clock_returned number left store out)
  unfolding clocks_in code_in shown alone ended_by machine_left store_left clocks_of record_engine record_code feed answer clocks end_of
      entries
      clock_gives
  clock-met m s line_byte input number left store out h = record {
    show = rw h.number (seen code h.outcome);
    reports = rw h.number;
    left = lasts code h.outcome;
  }
    where
      code : Bool
      code = eqb (clock_refusal paper_geometry p (record_of m) s line_byte) 0

      got : After Lent Answer
      got = record { state = lent left store; out = out }

      next : After Lent Answer
      next = clock_of paper_geometry p (lent m s) (pins line_byte input)

      Is : Bool → Type 0
      Is t = got ≡ cond t next (record { state = lent m s; out = silent 0 })

      seen : (t : Bool) → Is t
          → cond t (clocked (pins line_byte input) (record_seen paper_geometry got.state) got.out ∷ []) []
          ≡ entries feed answer (record_engine paper_geometry p) (cond t (next ∷ []) []) (pins line_byte input ∷ [])
      seen true e = ap (λ (u : After Lent Answer). clocked (pins line_byte input) (record_seen paper_geometry u.state) u.out ∷ []) e
      seen false e = refl

      lasts : (t : Bool) → Is t → lent left store ≡ end_of (lent m s) (cond t (next ∷ []) [])
      lasts true e = ap (λ u. u.state) e
      lasts false e = ap (λ u. u.state) e

  run-met : (m : Machine) (s line_bytes inputs bytes words : List ℕ) (number : ℕ) (left : Machine) (store : List ℕ) (used finished : ℕ)
      (bytes' words' : List ℕ) → RunFacts p m s line_bytes inputs bytes words number left store used finished bytes' words'
      → Step m s (run_call line_bytes inputs bytes words) (run_returned number left store used finished bytes' words')
  unfolding clocks_in code_in shown clock_history ended_by machine_left store_left record_engine record_code clocks_of feed answer end_of
      run_gives
      entries
  run-met m s line_bytes inputs bytes words number left store used finished bytes' words' h = record {
    show = rw h.number (seen (eqb code 0));
    reports = rw h.number (go (eqb code 0) refl);
    left = lasts (eqb code 0) refl;
  }
    where
      code : ℕ
      code = run_refusal paper_geometry p (record_of m) s line_bytes inputs bytes words

      got : Ran
      got = record { state = lent left store; used = used; finished = finished; bytes = bytes'; words = words' }

      kept : Ran
      kept = record { state = lent m s; used = 0; finished = 0; bytes = bytes; words = words }

      seen : (t : Bool) → cond t (clock_history paper_geometry p m s (pins_of line_bytes inputs)) []
          ≡ entries feed answer (record_engine paper_geometry p)
          (cond t (clocks (clock_of paper_geometry p) (lent m s) (pins_of line_bytes inputs)) []) (pins_of line_bytes inputs)
      seen true = refl
      seen false = refl

      gives : (t : Bool) → eqb code 0 ≡ t → got ≡ cond t (run_of paper_geometry p (lent m s) line_bytes inputs) kept
      gives t e = h.outcome ∙ ap (λ (b : Bool). cond b (run_of paper_geometry p (lent m s) line_bytes inputs) kept) e

      none : eqb code 0 ≡ false → clocks_in m s (run_call line_bytes inputs bytes words) ≡ []
      none e = ap (λ (b : Bool). cond b (clocks (clock_of paper_geometry p) (lent m s) (pins_of line_bytes inputs)) []) e

      reported : ℕ → Ran → Ended
      reported n u = run_ends n u.used u.finished u.bytes u.words

      go : (t : Bool) → eqb code 0 ≡ t
          → reported code got
          ≡ answer code (run_call line_bytes inputs bytes words) (outs_of (clocks_in m s (run_call line_bytes inputs bytes words)))
      go true e = ap (reported code) (gives true e)
          ∙ ap (λ n. reported n (run_of paper_geometry p (lent m s) line_bytes inputs)) (eqb-true code 0 e)
          ∙ sym (runs_are_runs paper_geometry p (lent m s) line_bytes inputs bytes words (eqb-true code 0 e)).reports
          ∙ ap (λ n. answer n (run_call line_bytes inputs bytes words) (outs_of (clocks_in m s (run_call line_bytes inputs bytes words))))
          (sym (eqb-true code 0 e))
      go false e = ap (reported code) (gives false e) ∙ rw e

      lasts : (t : Bool) → eqb code 0 ≡ t
          → lent left store ≡ end_of (lent m s) (clocks_in m s (run_call line_bytes inputs bytes words))
      lasts true e = ap (λ u. u.state) (gives true e)
          ∙ sym (runs_are_runs paper_geometry p (lent m s) line_bytes inputs bytes words (eqb-true code 0 e)).state
      lasts false e = ap (λ u. u.state) (gives false e) ∙ sym (ap (end_of (lent m s)) (none e))

  step_of : (m : Machine) (s : List ℕ) (c : Call) (a : Returned) → Facts p m s c a → Step m s c a
  unfolding Facts
  step_of m s (clock_call line_byte input) (clock_returned number left store out) h = clock-met m s line_byte input number left store out h
  step_of m s (clock_call line_byte input) (run_returned number left store used finished bytes' words') h = absurd h
  step_of m s (run_call line_bytes inputs bytes words) (clock_returned number left store out) h = absurd h
  step_of m s (run_call line_bytes inputs bytes words) (run_returned number left store used finished bytes' words') h =
      run-met m s line_bytes inputs bytes words number left store used finished bytes' words' h

  met : (m : Machine) (s : List ℕ) (c : Call) (a : Returned) → Meets p m s c a → Step m s c a
  met m s c a h = step_of m s c a (facts p m s c a h)

  exchange-calls : (m : Machine) (s : List ℕ) (cs : List Call) (as' : List Returned) → Exchange p m s cs as'
      → exchange_log paper_geometry p m s cs as' ≡ calls feed answer (record_engine paper_geometry p) (lent m s) cs
  unfolding Exchange exchange_log calls clocks_in code_in record_engine
  exchange-calls m s [] [] h = refl
  exchange-calls m s [] (a ∷ as') h = absurd h
  exchange-calls m s (c ∷ cs) [] h = absurd h
  exchange-calls m s (c ∷ cs) (a ∷ as') h = ap₂ ◌++◌ (met m s c a h.0).show
      (ap₂ ◌∷◌ (ap₂ ended (ap (record_seen paper_geometry) (met m s c a h.0).left) (met m s c a h.0).reports)
      (exchange-calls (machine_left a) (store_left a) cs as' h.1
      ∙ ap (λ x. calls feed answer (record_engine paper_geometry p) x cs) (met m s c a h.0).left))

  -- what is seen last is what the last call left
  left-last : (m : Machine) (s : List ℕ) (cs : List Call) (as' : List Returned) → Exchange p m s cs as'
      → last_seen (seen_at paper_geometry m s) (exchange_log paper_geometry p m s cs as')
      ≡ seen_at paper_geometry (machine_at m as') (store_at s as')
  unfolding Exchange exchange_log machine_at store_at last_seen
  left-last m s [] [] x = refl
  left-last m s [] (a ∷ as') x = absurd x
  left-last m s (c ∷ cs) [] x = absurd x
  left-last m s (c ∷ cs) (a ∷ as') x =
      last-ended (seen_at paper_geometry m s) _ _ (shown paper_geometry p m s c a)
      (exchange_log paper_geometry p (machine_left a) (store_left a) cs as')
      ∙ left-last (machine_left a) (store_left a) cs as' x.1

-- the whole log equals that of the reference machine
pub exchange-holds : (p s : List ℕ) (m : Machine) (cs : List Call) (as' : List Returned) → Starts s m → Exchange p m s cs as'
    → Holds paper_geometry p s cs (seen_at paper_geometry m s) (exchange_log paper_geometry p m s cs as')
    (seen_at paper_geometry (machine_at m as') (store_at s as'))
unfolding log_of record_engine
exchange-holds p s m cs as' h x = of-log paper_geometry paper_ok p s cs _ _ _
    (ap (λ es. started (record_seen paper_geometry (lent m s)) ∷ es) (exchange-calls p m s cs as' x)
    ∙ ap (λ y. log_of feed answer (record_engine paper_geometry p) y cs) (starts s m h).is
    ∙ same_log paper_geometry p s cs paper_ok (starts s m h).taken)
    (left-last p m s cs as' x)

history-take : (k : ℕ) (p : List ℕ) (x : Lent) (line_bytes inputs : List ℕ)
    → history_of paper_geometry p x (take k line_bytes) (take k inputs) ≡ take k (history_of paper_geometry p x line_bytes inputs)
unfolding history_of
history-take k p x line_bytes inputs =
    ap (clocks (clock_of paper_geometry p) x) (sym (pins-take k line_bytes inputs))
    ∙ sym (clocks-take (clock_of paper_geometry p) k x (pins_of line_bytes inputs))

-- the first k entries of a clock history: their answers, and what is seen last
module _ (p : List ℕ) (m : Machine) (s : List ℕ) (k : ℕ) (is : List Pins) where
  history-answers : outs_of (take k (clocks (clock_of paper_geometry p) (lent m s) is))
      ≡ answers_in (take k (clock_history paper_geometry p m s is))
  unfolding clock_history record_engine
  history-answers = sym (ap answers_in (entries-take feed answer (record_engine paper_geometry p) k (lent m s) is)
      ∙ entries-answers feed answer (record_engine paper_geometry p) (lent m s) (take k is)
      ∙ ap outs_of (sym (clocks-take (clock_of paper_geometry p) k (lent m s) is)))

  history-seen : record_seen paper_geometry (end_of (lent m s) (take k (clocks (clock_of paper_geometry p) (lent m s) is)))
      ≡ last_seen (seen_at paper_geometry m s) (take k (clock_history paper_geometry p m s is))
  unfolding clock_history record_engine
  history-seen = sym (ap (last_seen (seen_at paper_geometry m s))
      (entries-take feed answer (record_engine paper_geometry p) k (lent m s) is)
      ∙ entries-last feed answer (record_engine paper_geometry p) (lent m s) (take k is)
      ∙ ap (λ ts. record_seen paper_geometry (end_of (lent m s) ts)) (sym (clocks-take (clock_of paper_geometry p) k (lent m s) is)))

-- a run of the first k line bytes, by its facts
prefix-of : (p : List ℕ) (m : Machine) (s line_bytes inputs bytes words : List ℕ) (k : ℕ) (a : Returned) → k ≤ length line_bytes
    → Facts p m s (run_call (take k line_bytes) (take k inputs) bytes words) a → code_returned a ≡ 0 → Prefix p m s line_bytes inputs k a
unfolding Facts run_gives run_of history_of code_returned machine_left store_left ended_by
prefix-of p m s line_bytes inputs bytes words k (clock_returned number left store out) few h z = absurd h
prefix-of p m s line_bytes inputs bytes words k (run_returned number left store used finished bytes' words') few h z = record {
  state = last;
  seen = ap (record_seen paper_geometry) last ∙ history-seen p m s k (pins_of line_bytes inputs);
  reports = ap (λ n. run_ends n used finished bytes' words') z
      ∙ ap (λ (u : Ran). run_ends 0 u.used u.finished u.bytes u.words) taken
      ∙ ap (λ n. reported n (outs_of first)) (length-take-le k line_bytes few)
      ∙ ap (λ ts. reported k (outs_of ts)) (history-take k p (lent m s) line_bytes inputs)
      ∙ ap (reported k) (history-answers p m s k (pins_of line_bytes inputs));
}
  where
    reported : ℕ → List Answer → Ended
    reported n outs = run_ends 0 n (finished_in outs) (bytes_of outs) (words_of outs)

    first : List (After Lent Answer)
    first = history_of paper_geometry p (lent m s) (take k line_bytes) (take k inputs)

    taken : ◌≡◌ {A = Ran} (record { state = lent left store; used = used; finished = finished; bytes = bytes'; words = words' })
        (run_of paper_geometry p (lent m s) (take k line_bytes) (take k inputs))
    taken = h.outcome
        ∙ rw (eq-eqb (run_refusal paper_geometry p (record_of m) s (take k line_bytes) (take k inputs) bytes words) 0 (sym h.number ∙ z))

    last : lent left store ≡ end_of (lent m s) (take k (history_of paper_geometry p (lent m s) line_bytes inputs))
    last = ap (λ u. u.state) taken ∙ ap (end_of (lent m s)) (history-take k p (lent m s) line_bytes inputs)

pub run_prefix : (p : List ℕ) (m : Machine) (s line_bytes inputs bytes words : List ℕ) (k : ℕ) (a : Returned) → k ≤ length line_bytes
    → Meets p m s (run_call (take k line_bytes) (take k inputs) bytes words) a → code_returned a ≡ 0 → Prefix p m s line_bytes inputs k a
run_prefix p m s line_bytes inputs bytes words k a few h z = prefix-of p m s line_bytes inputs bytes words k a few
    (facts p m s (run_call (take k line_bytes) (take k inputs) bytes words) a h) z

-- a refused call, by its facts
refused-of : (p : List ℕ) (m : Machine) (s : List ℕ) (c : Call) (a : Returned) → Facts p m s c a → code_returned a ≢ 0
    → a ≡ as_given m s c (code_returned a)
unfolding Facts clock_gives run_gives code_returned as_given back
refused-of p m s (clock_call line_byte input) (clock_returned number left store out) h n =
    ap (λ (u : After Lent Answer). clock_returned number (back u.state.machine) u.state.store u.out) same
  where
    same : ◌≡◌ {A = After Lent Answer} (record { state = lent left store; out = out }) (record { state = lent m s; out = silent 0 })
    same = h.outcome ∙ rw (ne_eqb (clock_refusal paper_geometry p (record_of m) s line_byte) 0 (λ z. n (h.number ∙ z)))
refused-of p m s (clock_call line_byte input) (run_returned number left store used finished bytes' words') h n = absurd h
refused-of p m s (run_call line_bytes inputs bytes words) (clock_returned number left store out) h n = absurd h
refused-of p m s (run_call line_bytes inputs bytes words) (run_returned number left store used finished bytes' words') h n =
    ap (λ (u : Ran). run_returned number (back u.state.machine) u.state.store u.used u.finished u.bytes u.words) same
  where
    same : ◌≡◌ {A = Ran} (record { state = lent left store; used = used; finished = finished; bytes = bytes'; words = words' })
        (record { state = lent m s; used = 0; finished = 0; bytes = bytes; words = words })
    same = h.outcome
        ∙ rw (ne_eqb (run_refusal paper_geometry p (record_of m) s line_bytes inputs bytes words) 0 (λ z. n (h.number ∙ z)))

pub refused-keeps : (p : List ℕ) (m : Machine) (s : List ℕ) (c : Call) (a : Returned) → Meets p m s c a → code_returned a ≢ 0
    → a ≡ as_given m s c (code_returned a)
refused-keeps p m s c a h = refused-of p m s c a (facts p m s c a h)
