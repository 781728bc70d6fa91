-- Demand 3 as a whole: the value of `Demand3`; and the same of the definitions, for every geometry.
-- Idea: the log of the returns equals that of the reference machine, which keeps the book; a refused call by its contract.
use Prim.Native.Nat.{ℕ}
use mathlib.Core.Path.{◌≡◌, refl, sym, ap, ap₂, ◌∙◌}
use mathlib.Core.Logic.{◌≢◌}
use mathlib.Core.Bool.{Bool, true, false, cond, not, ◌&&◌}
use mathlib.Core.List.{List, []}
use lib.ListN.{length}
use lib.Dec.{eqb}
use borrow.Author.Tests.{eqb-true}
use native.Mathlib.Omega.{arith}
use Rattle.trm_word.specs.Address.{store_length_ok}
use Rattle.trm_reference.specs.Geometry.{paper_geometry, burst}
use Rattle.trm_reference.specs.Access.{Answer}
use Rattle.trm_reference.specs.Trace.{After}
use Rattle.trm_core.specs.Record as core
use Rattle.trm_core.specs.Record.{Lent, reset_of, start}
use Rattle.trm_core.specs.Refusals.{program_ok, store_ok, record_rows, clock_refusal, run_refusal}
use Rattle.trm_run_machine.specs.declared.machine.Machine.{Machine}
use Rattle.trm_run_machine.specs.Machine.{record_of}
use Rattle.trm.specs.Promises.{ClockNumbered, with_record, clocked}
use Rattle.trm.specs.declared.exported_answers.ClockAnswer.{ClockAnswer}
use Rattle.trm.specs.declared.exported_answers.LentAnswer.{LentAnswer}
use Rattle.trm_agreement.specs.Log.{log_of}
use Rattle.trm_agreement.specs.Calls.{Call, clock_call, run_call, feed, answer, record_engine}
use Rattle.trm_agreement.specs.CallContracts.{ShippedValue, ShippedLent}
use Rattle.trm_agreement.specs.Exchange.{Fails, Returned, clock_returned, run_returned, code_returned, as_given, Meets}
use Rattle.trm_agreement.specs.Book.{longest}
use Rattle.trm_agreement.specs.Demand.{without_record, Demand3}
use Rattle.trm_agreement.specs.Claims.{EveryGeometry}
use Rattle.trm_agreement.proofs.Laws.Log.{calls_last}
use Rattle.trm_agreement.proofs.Laws.SameLog.{same_log}
use Rattle.trm_agreement.proofs.Laws.Audit.{of-log}
use Rattle.trm_agreement.proofs.Laws.Runs.{prefix_accepted}
use Rattle.trm_agreement.proofs.Laws.Contracts.{value-says, lent_says, fails, Facts, facts}
use Rattle.trm_agreement.proofs.Laws.Witness.{back, holding, lending, exchange-exists}
use Rattle.trm_agreement.proofs.Laws.Exchange.{exchange-holds, refused-keeps, run_prefix}

pub every_geometry : EveryGeometry
unfolding log_of record_engine
every_geometry G p s cs ok taken = of-log G ok p s cs _ _ _ (same_log G p s cs ok taken)
    (calls_last feed answer (record_engine G p) (start G s) cs)

-- a conjunction whose second test fails
fails-second : (t : Bool) → t && false ≡ false
fails-second true = refl
fails-second false = refl

-- a record that no store fits: row 3, or else row 4
pub no_store : (m : Machine) (s : List ℕ) → record_of m ≡ reset_of paper_geometry [] → store_ok (record_of m) s ≡ false
unfolding store_ok reset_of
no_store m s e =
    let empty : m.scalars.size ≡ 0 = ap (λ (k : core.Machine). k.scalars.size) e in rw empty (go (eqb (length s) 0) refl)
  where
    go : (t : Bool) → eqb (length s) 0 ≡ t → store_length_ok (length s) && t ≡ false
    go true z = rw (eqb-true (length s) 0 z) (unfold store_length_ok in refl)
    go false z = fails-second (store_length_ok (length s))

no_rows : (p : List ℕ) (m : Machine) (s : List ℕ) (rest : ℕ) → record_of m ≡ reset_of paper_geometry []
    → record_rows paper_geometry p (record_of m) s rest ≡ cond (program_ok p) 4 3
unfolding record_rows
no_rows p m s rest e = rw (no_store m s e) (go (program_ok p))
  where
    go : (t : Bool) → ◌≡◌ {A = ℕ} (cond (not t) 3 4) (cond t 4 3)
    go true = refl
    go false = refl

no_code : (p : List ℕ) (m : Machine) (s : List ℕ) (c : Call) (a : Returned) → record_of m ≡ reset_of paper_geometry [] → Facts p m s c a
    → code_returned a ≡ cond (program_ok p) 4 3
unfolding Facts code_returned clock_refusal run_refusal
no_code p m s (clock_call line_byte input) (clock_returned number left store out) e h = h.number ∙ no_rows p m s _ e
no_code p m s (clock_call line_byte input) (run_returned number left store used finished bytes' words') e h = absurd h
no_code p m s (run_call line_bytes inputs bytes words) (clock_returned number left store out) e h = absurd h
no_code p m s (run_call line_bytes inputs bytes words) (run_returned number left store used finished bytes' words') e h =
    h.number ∙ no_rows p m s _ e

refused_reset : (s₀ : List ℕ) (m : Machine) → Fails s₀ m → (p s : List ℕ) (c : Call) (a : Returned) → Meets p m s c a
    → a ≡ as_given m s c (cond (program_ok p) 4 3)
refused_reset s₀ m f p s c a h =
    refused-keeps p m s c a h (λ z. not-zero (program_ok p) (sym code ∙ z)) ∙ ap (as_given m s c) code
  where
    code : code_returned a ≡ cond (program_ok p) 4 3
    code = no_code p m s c a (fails s₀ m f) (facts p m s c a h)

    not-zero : (t : Bool) → ◌≢◌ {A = ℕ} (cond t 4 3) 0
    not-zero true z = absurd (omega arith)
    not-zero false z = absurd (omega arith)

same_outcome : (m : Machine) (p s : List ℕ) (line_byte input : ℕ) (r : ClockAnswer) (s₁ : List ℕ) (m₂ : Machine) (r₂ : LentAnswer)
    (s₂ : List ℕ) → ShippedValue m p s line_byte input r s₁ → ShippedLent m p s line_byte input m₂ r₂ s₂ → (r ≡ with_record m₂ r₂)
    × (s₁ ≡ s₂)
unfolding back
same_outcome m p s line_byte input r s₁ m₂ r₂ s₂ h g = (
  ap₂ (λ (n : ℕ) (u : After Lent Answer). record {
    machine = back u.state.machine;
    number = n;
    byte = u.out.byte;
    word = u.out.word;
    finished = u.out.done;
  }) (x.number ∙ sym y.number) both,
  ap (λ (u : After Lent Answer). u.state.store) both,
)
  where
    x : ClockNumbered m p s line_byte input r s₁
    x = value-says m p s line_byte input r s₁ h

    y : ClockNumbered m p s line_byte input (with_record m₂ r₂) s₂
    y = lent_says m p s line_byte input m₂ r₂ s₂ g

    both : clocked r s₁ ≡ clocked (with_record m₂ r₂) s₂
    both = x.outcome ∙ sym y.outcome

lent_too : (m : Machine) (p s : List ℕ) (line_byte input : ℕ) (r : ClockAnswer) (s' : List ℕ) → ShippedValue m p s line_byte input r s'
    → ShippedLent m p s line_byte input r.machine (without_record r) s'
unfolding holding lending
lent_too m p s line_byte input r s' h = let g = value-says m p s line_byte input r s' h in record {
  lifetimes = ([], ([], ([], tt)));
  machine = lending m;
  machine' = lending r.machine;
  program = holding p;
  store = lending s;
  store' = lending s';
  holds = (refl, refl, refl, refl, refl);
  ensures = record { number = g.number; outcome = g.outcome };
}

pub demand_3 : Demand3
unfolding longest burst
demand_3 = record {
  holds = exchange-holds;
  longest_161 = refl;
  refused_reset = refused_reset;
  refused = refused-keeps;
  run_prefix = run_prefix;
  prefix_accepted = prefix_accepted;
  lent_too = lent_too;
  same_outcome = same_outcome;
  exists = exchange-exists;
}
