-- `execute` by operation: equations for 0 to 10, for LD and ST, and for a branch that is not taken.
-- Idea: once the operation is known, every test of `execute` computes.
use Prim.Native.Nat.{ℕ, ◌<◌}
use mathlib.Core.Path.{◌≡◌, refl, sym, ap, ◌∙◌}
use mathlib.Core.Logic.{◌≢◌}
use mathlib.Core.Bool.{Bool, true, false, ◌||◌}
use lib.Dec.{eqb}
use borrow.Author.Tests.{lt-ltb, ne_eqb, eqb-true}
use native.Mathlib.Omega.{arith}
use Rattle.trm_laws.proofs.Tests.{clash}
use Rattle.trm_word.specs.Fields.{operation, destination}
use Rattle.trm_reference.specs.Visible.{Visible, next_pc}
use Rattle.trm_reference.specs.Execute.{execute, calculated, went_to, wrote_to, branch_taken, branched}
use Rattle.trm_reference.specs.Charge.{is_stepped}

module _ (w : ℕ) where
  -- 8 or 9: an instruction with steps that is not 8 is 9
  pub stepped-either : is_stepped w ≡ true → operation w ≢ 8 → operation w ≡ 9
  unfolding is_stepped
  stepped-either t z = eqb-true (operation w) 9 (ap (λ (x : Bool). x || eqb (operation w) 9) (sym (ne_eqb (operation w) 8 z)) ∙ t)

  pub stepped-few : is_stepped w ≡ true → operation w < 11
  unfolding is_stepped
  stepped-few t = go (eqb (operation w) 8) refl (eqb (operation w) 9) refl t
    where
      go : (a : Bool) → eqb (operation w) 8 ≡ a → (b : Bool) → eqb (operation w) 9 ≡ b → a || b ≡ true → operation w < 11
      go true p b q z = omega (arith, eqb-true (operation w) 8 p)
      go false p true q z = omega (arith, eqb-true (operation w) 9 q)
      go false p false q z = clash z

  pub unstepped : is_stepped w ≡ false → (eqb (operation w) 8 ≡ false) × (eqb (operation w) 9 ≡ false)
  unfolding is_stepped
  unstepped q = go (eqb (operation w) 8) (eqb (operation w) 9) q
    where
      go : (a b : Bool) → a || b ≡ false → (a ≡ false) × (b ≡ false)
      go true b z = clash (sym z)
      go false b z = (refl, z)

module _ (w : ℕ) (v : Visible) (x : ℕ) where
  pub execute-arithmetic : operation w < 11 → execute w v x ≡ calculated w v
  unfolding execute
  execute-arithmetic o = rw (lt-ltb _ _ o)

  pub execute-load : operation w ≡ 12 → execute w v x ≡ wrote_to v (next_pc v.pc) (destination w) x
  unfolding execute
  execute-load o = rw o

  pub execute-store : operation w ≡ 13 → execute w v x ≡ went_to v (next_pc v.pc)
  unfolding execute
  execute-store o = rw o

  pub execute-not_taken : operation w ≡ 14 → branch_taken w v ≡ false → execute w v x ≡ went_to v (next_pc v.pc)
  unfolding execute branched
  execute-not_taken o t = rw (o, t)
