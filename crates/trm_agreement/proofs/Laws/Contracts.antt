-- What the `ensures` of the calls say of the lists that the lent slices hold, in one form for every function that makes a call.
-- Idea: the `ensures` is a contract of trm or trm_calls at references; they are replaced by the lists that they hold.
--   starts, fails    the record that an accepted or a refused reset returns        facts    what a call returned, by whichever function
use Prim.Native.Nat.{ℕ}
use mathlib.Core.Path.{◌≡◌, refl, sym, ap, ◌∙◌}
use Rattle.std.specs.Prelude.{Result, Ok, Err}
use mathlib.Core.Logic.{◌≢◌}
use mathlib.Core.List.{List, []}
use borrow.Author.Tests.{eq-eqb, ne_eqb}
use Rattle.trm_reference.specs.Geometry.{paper_geometry}
use Rattle.trm_reference.specs.Access.{Answer}
use Rattle.trm_reference.specs.Trace.{After}
use Rattle.trm_core.specs.Record as core
use Rattle.trm_core.specs.Record.{Lent, reset_of, start}
use Rattle.trm_core.specs.Refusals.{reset_refusal, clock_refusal, run_refusal}
use Rattle.trm_core.specs.Run.{Ran}
use Rattle.trm_call_refusals.specs.declared.refusal.Refusal.{Refusal}
use Rattle.trm_run_machine.specs.declared.machine.Machine.{Machine}
use Rattle.trm_run_machine.specs.Machine.{record_of, lent}
use Rattle.trm_run_machine.specs.declared.clock_answer.Clock.{Clock}
use Rattle.trm_calls.specs.declared.call_answers.Run.{Run}
use Rattle.trm_calls.specs.Promises.{pins, reset_gives, clock_gives, run_gives, ResetHolds, ClockHolds, RunHolds}
use Rattle.trm.specs.Promises.{ResetNumbered, ClockNumbered, RunNumbered, with_record}
use Rattle.trm.specs.declared.exported_answers.ResetAnswer.{ResetAnswer}
use Rattle.trm.specs.declared.exported_answers.ClockAnswer.{ClockAnswer}
use Rattle.trm.specs.declared.exported_answers.LentAnswer.{LentAnswer}
use Rattle.trm.specs.declared.exported_answers.RunAnswer.{RunAnswer}
use Rattle.trm_agreement.specs.Calls.{Call, clock_call, run_call}
use Rattle.trm_agreement.specs.CallContracts.{ShippedReset, ShippedValue, ShippedLent, ShippedRun, ResetMet, ClockMet, RunMet}
use Rattle.trm_agreement.specs.Exchange.{Starts, shipped, own, Fails, shipped_not, Returned, clock_returned, run_returned}
use Rattle.trm_agreement.specs.Exchange.{Meets, by_value, by_lending, by_run, own_clock, own_clock_not, own_run, own_run_not}

shipped_reset_says : (s : List ℕ) (r : ResetAnswer) → ShippedReset s r → ResetNumbered s r
shipped_reset_says s r h = rw (← h.holds) h.ensures

pub value-says : (m : Machine) (p s : List ℕ) (line_byte input : ℕ) (r : ClockAnswer) (s' : List ℕ)
    → ShippedValue m p s line_byte input r s'
    → ClockNumbered m p s line_byte input r s'
value-says m p s line_byte input r s' h = let e = h.holds in rw (← e.0, ← e.1, ← e.2) h.ensures

pub lent_says : (m : Machine) (p s : List ℕ) (line_byte input : ℕ) (m' : Machine) (r : LentAnswer) (s' : List ℕ)
    → ShippedLent m p s line_byte input m' r s' → ClockNumbered m p s line_byte input (with_record m' r) s'
lent_says m p s line_byte input m' r s' h = let e = h.holds in rw (← e.0, ← e.1, ← e.2, ← e.3, ← e.4) h.ensures

shipped_run_says : (m : Machine) (p s line_bytes inputs bytes words : List ℕ) (r : RunAnswer) (s' bytes' words' : List ℕ)
    → ShippedRun m p s line_bytes inputs bytes words r s' bytes' words' → RunNumbered m p s line_bytes inputs bytes words r s' bytes' words'
shipped_run_says m p s line_bytes inputs bytes words r s' bytes' words' h = let e = h.holds in
    rw (← e.0, ← e.1, ← e.2, ← e.3, ← e.4, ← e.5, ← e.6, ← e.7, ← e.8) h.ensures

reset-says : (s : List ℕ) (r : Result Machine Refusal) → ResetMet s r → ResetHolds s r
reset-says s r h = rw (← h.holds) h.ensures

clock-says : (m : Machine) (p s : List ℕ) (line_byte input : ℕ) (r : Result Clock Refusal) (s' : List ℕ)
    → ClockMet m p s line_byte input r s' → ClockHolds m p s line_byte input r s'
clock-says m p s line_byte input r s' h = let e = h.holds in rw (← e.0, ← e.1, ← e.2) h.ensures

run-says : (m : Machine) (p s line_bytes inputs bytes words : List ℕ) (r : Result Run Refusal) (s' bytes' words' : List ℕ)
    → RunMet m p s line_bytes inputs bytes words r s' bytes' words' → RunHolds m p s line_bytes inputs bytes words r s' bytes' words'
run-says m p s line_bytes inputs bytes words r s' bytes' words' h = let e = h.holds in
    rw (← e.0, ← e.1, ← e.2, ← e.3, ← e.4, ← e.5, ← e.6, ← e.7, ← e.8) h.ensures

-- what a reset returned, refused or not
pub record ResetFacts (s : List ℕ) (code : ℕ) (m : Machine) : Type 0 where
  pub number : code ≡ reset_refusal s
  pub machine : record_of m ≡ reset_gives s

pub shipped_facts : (s : List ℕ) (r : ResetAnswer) → ShippedReset s r → ResetFacts s r.number r.machine
shipped_facts s r h = let g = shipped_reset_says s r h in record { number = g.number; machine = g.machine }

pub own-facts : (s : List ℕ) (m : Machine) → ResetMet s (Ok m) → ResetFacts s 0 m
own-facts s m h = let g = reset-says s (Ok m) h in record { number = g.number; machine = g.machine }

-- an accepted reset
pub record Started (s : List ℕ) (m : Machine) : Type 0 where
  pub taken : reset_refusal s ≡ 0
  pub is : lent m s ≡ start paper_geometry s

started-by : (s : List ℕ) (n : ℕ) (m : Machine) → ResetFacts s n m → n ≡ 0 → Started s m
unfolding reset_gives
started-by s n m h z = record {
  taken = taken;
  is = ap (λ (k : core.Machine). record { machine = k; store = s }) (h.machine ∙ rw (eq-eqb (reset_refusal s) 0 taken));
}
  where
    taken : reset_refusal s ≡ 0
    taken = sym h.number ∙ z

failed-by : (s : List ℕ) (n : ℕ) (m : Machine) → ResetFacts s n m → n ≢ 0 → record_of m ≡ reset_of paper_geometry []
unfolding reset_gives
failed-by s n m h z = h.machine ∙ rw (ne_eqb (reset_refusal s) 0 (λ y. z (h.number ∙ y)))

-- a refused reset: no store fits its record
pub fails : (s : List ℕ) (m : Machine) → Fails s m → record_of m ≡ reset_of paper_geometry []
fails s m (shipped_not r h n) = failed-by s r.number r.machine (shipped_facts s r h) n

pub starts : (s : List ℕ) (m : Machine) → Starts s m → Started s m
starts s m (shipped r h z) = started-by s r.number r.machine (shipped_facts s r h) z
starts s m (own k h) = started-by s 0 k (own-facts s k h) refl

module _ (p : List ℕ) (m : Machine) (s : List ℕ) where
  pub record ClockFacts (line_byte input code : ℕ) (left : Machine) (store : List ℕ) (out : Answer) : Type 0 where
    pub number : code ≡ clock_refusal paper_geometry p (record_of m) s line_byte
    pub outcome : ◌≡◌ {A = After Lent Answer} (record { state = lent left store; out = out })
        (clock_gives p (lent m s) (pins line_byte input))

  pub record RunFacts (line_bytes inputs bytes words : List ℕ) (code : ℕ) (left : Machine) (store : List ℕ) (used finished : ℕ)
      (bytes' words' : List ℕ) : Type 0 where
    pub number : code ≡ run_refusal paper_geometry p (record_of m) s line_bytes inputs bytes words
    pub outcome : ◌≡◌ {A = Ran}
        (record { state = lent left store; used = used; finished = finished; bytes = bytes'; words = words' })
        (run_gives p (lent m s) line_bytes inputs bytes words)

  unfoldable pub Facts : Call → Returned → Type 0
  Facts (clock_call line_byte input) (clock_returned number left store out) = ClockFacts line_byte input number left store out
  Facts (clock_call line_byte input) (run_returned number left store used finished bytes' words') = ⊥
  Facts (run_call line_bytes inputs bytes words) (clock_returned number left store out) = ⊥
  Facts (run_call line_bytes inputs bytes words) (run_returned number left store used finished bytes' words') =
      RunFacts line_bytes inputs bytes words number left store used finished bytes' words'

  -- the only law that reads the contracts
  pub facts : (c : Call) (a : Returned) → Meets p m s c a → Facts c a
  unfolding Facts
  facts c a (by_value line_byte input r s' h) =
      let g = value-says m p s line_byte input r s' h in record { number = g.number; outcome = g.outcome }
  facts c a (by_lending line_byte input m' r s' h) =
      let g = lent_says m p s line_byte input m' r s' h in record { number = g.number; outcome = g.outcome }
  facts c a (by_run line_bytes inputs bytes words r s' bytes' words' h) =
      let g = shipped_run_says m p s line_bytes inputs bytes words r s' bytes' words' h in
      record { number = g.number; outcome = g.outcome }
  facts c a (own_clock line_byte input r s' h) =
      let g = clock-says m p s line_byte input (Ok r) s' h in record { number = g.number; outcome = g.outcome }
  facts c a (own_clock_not line_byte input e s' h) =
      let g = clock-says m p s line_byte input (Err e) s' h in record { number = g.number; outcome = g.outcome }
  facts c a (own_run line_bytes inputs bytes words r s' bytes' words' h) =
      let g = run-says m p s line_bytes inputs bytes words (Ok r) s' bytes' words' h in record { number = g.number; outcome = g.outcome }
  facts c a (own_run_not line_bytes inputs bytes words e s' bytes' words' h) =
      let g = run-says m p s line_bytes inputs bytes words (Err e) s' bytes' words' h in record { number = g.number; outcome = g.outcome }
