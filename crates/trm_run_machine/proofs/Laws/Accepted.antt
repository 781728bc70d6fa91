-- A run that is not refused satisfies the condition of every row.
-- Idea: the number 0 is the last branch of the rows' tests.
--   run-passed   the conditions of all rows
use Prim.Native.Nat.{ℕ, ◌+◌, ◌≤◌}
use mathlib.Core.Path.{◌≡◌, refl}
use mathlib.Core.Bool.{Bool, true, false, cond, not, ◌||◌}
use mathlib.Core.List.{List}
use lib.ListN.{length}
use lib.Dec.{eqb, ltb}
use borrow.Author.Tests.{eqb-true, ltb-false}
use native.Mathlib.Omega.{arith}
use Rattle.trm_reference.specs.Geometry.{paper_geometry}
use Rattle.trm_core.specs.Record.{Machine}
use Rattle.trm_core.specs.Refusals.{all_at_most, line_bytes_refused}
use Rattle.trm_core.proofs.Laws.Rows.{Passed, rows-passed}
use Rattle.trm_core.specs.Refusals.{count_row, run_rows, run_refusal}

-- the conditions of rows 6, 7 and 8 for a run
pub record Runs (m : Machine) (line_bytes inputs bytes words : List ℕ) : Type 0 where
  pub fed : length line_bytes ≡ length inputs
  pub wide : length bytes ≡ length line_bytes
  pub broad : length words ≡ length line_bytes
  pub few : length line_bytes ≤ 65536
  pub low : all_at_most 7 line_bytes ≡ true
  pub room : m.scalars.counts.clocks + length line_bytes ≤ 4294967295

own-rows : (m : Machine) (line_bytes inputs bytes words : List ℕ) → run_rows m.scalars.counts.clocks line_bytes inputs bytes words ≡ 0
    → Runs m line_bytes inputs bytes words
unfolding run_rows line_bytes_refused count_row
own-rows m line_bytes inputs bytes words =
    go (eqb (length line_bytes) (length inputs)) refl (ltb 65536 (length line_bytes)) refl (all_at_most 7 line_bytes) refl
    (eqb (length bytes) (length line_bytes)) refl (eqb (length words) (length line_bytes)) refl
    (ltb 4294967295 (m.scalars.counts.clocks + length line_bytes)) refl
  where
    go : (a : Bool) → eqb (length line_bytes) (length inputs) ≡ a → (b : Bool) → ltb 65536 (length line_bytes) ≡ b
        → (c : Bool) → all_at_most 7 line_bytes ≡ c → (d : Bool) → eqb (length bytes) (length line_bytes) ≡ d
        → (e : Bool) → eqb (length words) (length line_bytes) ≡ e
        → (f : Bool) → ltb 4294967295 (m.scalars.counts.clocks + length line_bytes) ≡ f
        → ◌≡◌ {A = ℕ} (cond (not a || b || not c) 6 (cond (not d || not e) 7 (cond f 8 0))) 0 → Runs m line_bytes inputs bytes words
    go false x b y c z d u e v f t q = absurd (omega arith)
    go true x true y c z d u e v f t q = absurd (omega arith)
    go true x false y false z d u e v f t q = absurd (omega arith)
    go true x false y true z false u e v f t q = absurd (omega arith)
    go true x false y true z true u false v f t q = absurd (omega arith)
    go true x false y true z true u true v true t q = absurd (omega arith)
    go true x false y true z true u true v false t q = record {
      fed = eqb-true (length line_bytes) (length inputs) x;
      wide = eqb-true (length bytes) (length line_bytes) u;
      broad = eqb-true (length words) (length line_bytes) v;
      few = ltb-false 65536 (length line_bytes) y;
      low = z;
      room = ltb-false 4294967295 (m.scalars.counts.clocks + length line_bytes) t;
    }

pub run-passed : (p : List ℕ) (m : Machine) (s line_bytes inputs bytes words : List ℕ)
    → run_refusal paper_geometry p m s line_bytes inputs bytes words ≡ 0 → Passed paper_geometry p m s
    × Runs m line_bytes inputs bytes words
unfolding run_refusal
run-passed p m s line_bytes inputs bytes words q =
    let a = rows-passed paper_geometry p m s (run_rows m.scalars.counts.clocks line_bytes inputs bytes words) q in
    (a.0, own-rows m line_bytes inputs bytes words a.1)
