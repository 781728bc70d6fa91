-- A run that is not refused is `run_of`: one clock per line byte, its last state, counts and buffers; its prefixes are not refused either.
-- Idea: what each row says of a run that passes it; such a run has as many input words as line bytes.
use Prim.Native.Nat.{ℕ, zero, suc, ◌+◌, ◌≤◌}
use mathlib.Core.Path.{◌≡◌, refl, sym, ◌∙◌}
use mathlib.Core.Bool.{Bool, true, false, cond, not, ◌||◌}
use mathlib.Core.List.{List, [], ◌∷◌}
use lib.ListN.{length, take}
use lib.Seq.{length-take-le}
use lib.Dec.{eqb, leb, ltb}
use borrow.Author.Tests.{eqb-true, eq-eqb, ltb-false, le-ltb}
use native.Mathlib.Omega.{arith}
use Rattle.trm_laws.proofs.Tests.{both, ◌&t◌}
use Rattle.trm_reference.specs.Geometry.{Geometry}
use Rattle.trm_reference.specs.Trace.{pins_of}
use Rattle.trm_reference.proofs.Laws.Trace.{clocks-length, pins-length}
use Rattle.trm_core.specs.Clock.{clock_of}
use Rattle.trm_core.specs.Record.{Lent}
use Rattle.trm_core.specs.Refusals.{all_at_most, program_ok, store_ok, record_rows, count_row, line_bytes_refused, run_rows, run_refusal}
use Rattle.trm_core.specs.Rule.{record_ok}
use Rattle.trm_core.specs.Run.{history_of, run_of}
use Rattle.trm_agreement.specs.Log.{clocks_of}
use Rattle.trm_agreement.specs.Calls.{feed, answer, record_code, record_engine}
use Rattle.trm_agreement.specs.Claims.{RunsAreRuns}

-- what each row says of a run that passes it
record Let (G : Geometry) (p : List ℕ) (x : Lent) (line_bytes inputs bytes words : List ℕ) : Type 0 where
  program : program_ok p ≡ true
  store : store_ok x.machine x.store ≡ true
  kept : record_ok G p (length x.store) x.machine ≡ true
  same : length line_bytes ≡ length inputs
  short : length line_bytes ≤ 65536
  low : all_at_most 7 line_bytes ≡ true
  bytes_fit : length bytes ≡ length line_bytes
  words-fit : length words ≡ length line_bytes
  room : x.machine.scalars.counts.clocks + length line_bytes ≤ 4294967295

let_through : (G : Geometry) (p : List ℕ) (x : Lent) (line_bytes inputs bytes words : List ℕ)
    → run_refusal G p x.machine x.store line_bytes inputs bytes words ≡ 0 → Let G p x line_bytes inputs bytes words
unfolding run_refusal record_rows run_rows line_bytes_refused count_row
let_through G p x line_bytes inputs bytes words r = record {
  program = e.0;
  store = e.1;
  kept = e.2;
  same = eqb-true (length line_bytes) (length inputs) e.3;
  short = ltb-false 65536 (length line_bytes) e.4;
  low = e.5;
  bytes_fit = eqb-true (length bytes) (length line_bytes) e.6;
  words-fit = eqb-true (length words) (length line_bytes) e.7;
  room = ltb-false 4294967295 (x.machine.scalars.counts.clocks + length line_bytes) e.8;
}
  where
    go : (a b c same long low bs ws over : Bool)
        → ◌≡◌ {A = ℕ}
        (cond (not a) 3 (cond (not b) 4 (cond (not c) 5 (cond (not same || long || not low) 6
        (cond (not bs || not ws) 7 (cond over 8 0)))))) 0
        → (a ≡ true) × (b ≡ true) × (c ≡ true) × (same ≡ true) × (long ≡ false) × (low ≡ true) × (bs ≡ true) × (ws ≡ true)
        × (over ≡ false)
    go false b c same long low bs ws over z = absurd (omega arith)
    go true false c same long low bs ws over z = absurd (omega arith)
    go true true false same long low bs ws over z = absurd (omega arith)
    go true true true false long low bs ws over z = absurd (omega arith)
    go true true true true true low bs ws over z = absurd (omega arith)
    go true true true true false false bs ws over z = absurd (omega arith)
    go true true true true false true false ws over z = absurd (omega arith)
    go true true true true false true true false over z = absurd (omega arith)
    go true true true true false true true true true z = absurd (omega arith)
    go true true true true false true true true false z = (refl, refl, refl, refl, refl, refl, refl, refl, refl)

    e : (program_ok p ≡ true) × (store_ok x.machine x.store ≡ true) × (record_ok G p (length x.store) x.machine ≡ true)
        × (eqb (length line_bytes) (length inputs) ≡ true) × (ltb 65536 (length line_bytes) ≡ false) × (all_at_most 7 line_bytes ≡ true)
        × (eqb (length bytes) (length line_bytes) ≡ true) × (eqb (length words) (length line_bytes) ≡ true)
        × (ltb 4294967295 (x.machine.scalars.counts.clocks + length line_bytes) ≡ false)
    e = go _ _ _ _ _ _ _ _ _ r

-- conversely, a run of which this holds passes the rows
passes : (G : Geometry) (p : List ℕ) (x : Lent) (line_bytes inputs bytes words : List ℕ) → Let G p x line_bytes inputs bytes words
    → run_refusal G p x.machine x.store line_bytes inputs bytes words ≡ 0
unfolding run_refusal record_rows run_rows line_bytes_refused count_row
passes G p x line_bytes inputs bytes words t = rw (
  t.program,
  t.store,
  t.kept,
  eq-eqb (length line_bytes) (length inputs) t.same,
  le-ltb 65536 (length line_bytes) t.short,
  t.low,
  eq-eqb (length bytes) (length line_bytes) t.bytes_fit,
  eq-eqb (length words) (length line_bytes) t.words-fit,
  le-ltb 4294967295 (x.machine.scalars.counts.clocks + length line_bytes) t.room,
)

low-take : (k limit : ℕ) (xs : List ℕ) → all_at_most limit xs ≡ true → all_at_most limit (take k xs) ≡ true
unfolding all_at_most
low-take zero limit xs e = refl
low-take (suc k) limit [] e = refl
low-take (suc k) limit (x ∷ xs) e =
    both (leb x limit) (all_at_most limit xs) (λ a b. a &t low-take k limit xs b) e

pub prefix_accepted : (G : Geometry) (p : List ℕ) (x : Lent) (line_bytes inputs bytes words : List ℕ) (k : ℕ) → k ≤ length line_bytes
    → run_refusal G p x.machine x.store line_bytes inputs bytes words ≡ 0
    → run_refusal G p x.machine x.store (take k line_bytes) (take k inputs) (take k bytes) (take k words) ≡ 0
prefix_accepted G p x line_bytes inputs bytes words k few r =
    passes G p x (take k line_bytes) (take k inputs) (take k bytes) (take k words) (record {
      program = t.program;
      store = t.store;
      kept = t.kept;
      same = ls ∙ sym is;
      short = rw ls (omega (arith, few, t.short));
      low = low-take k 7 line_bytes t.low;
      bytes_fit = length-take-le k bytes (rw t.bytes_fit few) ∙ sym ls;
      words-fit = length-take-le k words (rw t.words-fit few) ∙ sym ls;
      room = rw ls (omega (arith, few, t.room));
    })
  where
    t : Let G p x line_bytes inputs bytes words
    t = let_through G p x line_bytes inputs bytes words r

    ls : length (take k line_bytes) ≡ k
    ls = length-take-le k line_bytes few

    is : length (take k inputs) ≡ k
    is = length-take-le k inputs (rw (← t.same) few)

pub runs_are_runs : RunsAreRuns
unfolding clocks_of record_engine record_code feed answer run_of history_of
runs_are_runs G p x line_bytes inputs bytes words r = record {
  clocks = rw (eq-eqb (run_refusal G p x.machine x.store line_bytes inputs bytes words) 0 r)
      (clocks-length (clock_of G p) x (pins_of line_bytes inputs)
      ∙ pins-length line_bytes inputs (let_through G p x line_bytes inputs bytes words r).same);
  state = rw (eq-eqb (run_refusal G p x.machine x.store line_bytes inputs bytes words) 0 r);
  reports = rw (eq-eqb (run_refusal G p x.machine x.store line_bytes inputs bytes words) 0 r);
}
