-- Laws about rows 3, 4 and 5: what a call that passes them implies, and that they come before the call's own rows.
-- By cases of the three tests.
--   Passed, rows-passed   what the number 0 implies             rows-rest   if passed, the call's own rows decide
--   rows-kept   if not passed, the call's own rows do not matter    legal_of   the length of a store that passes
use Prim.Native.Nat.{ℕ}
use mathlib.Core.Path.{◌≡◌, refl, sym}
use mathlib.Core.Bool.{Bool, true, false, cond, not}
use mathlib.Core.List.{List}
use lib.ListN.{length}
use lib.Dec.{eqb}
use native.Mathlib.Omega.{arith}
use Rattle.trm_laws.proofs.Tests.{both, clash}
use Rattle.trm_word.specs.Address.{store_length_ok}
use Rattle.trm_reference.specs.Geometry.{Geometry}
use Rattle.trm_core.specs.Record.{Machine}
use Rattle.trm_core.specs.Rule.{record_ok}
use Rattle.trm_core.specs.Refusals.{program_ok, store_ok, record_rows}

-- rows 3, 4 and 5 passed
pub record Passed (G : Geometry) (p : List ℕ) (m : Machine) (s : List ℕ) : Type 0 where
  pub program : program_ok p ≡ true
  pub store : store_ok m s ≡ true
  pub rule : record_ok G p (length s) m ≡ true

pub legal_of : (m : Machine) (s : List ℕ) → store_ok m s ≡ true → store_length_ok (length s) ≡ true
unfolding store_ok
legal_of m s = both (store_length_ok (length s)) (eqb (length s) m.scalars.size) (λ a b. a)

pub rows-passed : (G : Geometry) (p : List ℕ) (m : Machine) (s : List ℕ) (rest : ℕ) → record_rows G p m s rest ≡ 0
    → Passed G p m s × (rest ≡ 0)
unfolding record_rows
rows-passed G p m s rest = go (program_ok p) refl (store_ok m s) refl (record_ok G p (length s) m) refl
  where
    go : (a : Bool) → program_ok p ≡ a → (b : Bool) → store_ok m s ≡ b → (c : Bool) → record_ok G p (length s) m ≡ c
        → ◌≡◌ {A = ℕ} (cond (not a) 3 (cond (not b) 4 (cond (not c) 5 rest))) 0 → Passed G p m s × (rest ≡ 0)
    go false x b y c z q = absurd (omega arith)
    go true x false y c z q = absurd (omega arith)
    go true x true y false z q = absurd (omega arith)
    go true x true y true z q = (record { program = x; store = y; rule = z }, q)

-- if rows 3, 4 and 5 are passed, the call's own rows give the number
pub rows-rest : (G : Geometry) (p : List ℕ) (m : Machine) (s : List ℕ) (rest : ℕ) → Passed G p m s → record_rows G p m s rest ≡ rest
unfolding record_rows
rows-rest G p m s rest h = rw (h.program, h.store, h.rule)

-- if they are not passed, the call's own rows do not matter
pub rows-kept : (G : Geometry) (p : List ℕ) (m : Machine) (s : List ℕ) (rest : ℕ) → eqb (record_rows G p m s 0) 0 ≡ false
    → record_rows G p m s 0 ≡ record_rows G p m s rest
unfolding record_rows
rows-kept G p m s rest = go (program_ok p) (store_ok m s) (record_ok G p (length s) m)
  where
    go : (a b c : Bool) → eqb (cond (not a) 3 (cond (not b) 4 (cond (not c) 5 0))) 0 ≡ false
        → ◌≡◌ {A = ℕ} (cond (not a) 3 (cond (not b) 4 (cond (not c) 5 0))) (cond (not a) 3 (cond (not b) 4 (cond (not c) 5 rest)))
    go false b c q = refl
    go true false c q = refl
    go true true false q = refl
    go true true true q = clash (sym q)
