-- A step of the pair is a step of the divider's two registers.
-- The doubled pair is the trial above the rest of the quotient register, so the comparison of the pair is that of the trial with A.
--   quot_fits, rem-fits   the registers' widths        pair_step_lem   from the pair after k steps to the pair after k + 1
use Rattle.std.proofs.Common.{◌≡◌, ℕ, ◌+◌, ◌-◌, ◌*◌, ◌/◌, ◌%◌, ◌^◌, ◌<◌, ◌≤◌, Bool, true, false, cond, ltb, refl, ap, ◌∙◌, lt_of_le_of_lt}
use Rattle.std.proofs.Common.{mod-lt, div-le_self, arith, ltb-false, ltb-true, le-ltb, lt-ltb}
use Rattle.trm_alu.specs.declared.inner.divide.Divider.{Divider}
use Rattle.trm_alu.specs.Divide.{above0, div_rem, div_quot, div_trial, div_rest, div_step}
use Rattle.trm_alu.specs.Pair.{paired, pair_divisor, pair_step}
use Rattle.trm_alu.proofs.Laws.Modular.{parts-lt}
use Rattle.trm_alu.proofs.Laws.Division.{above0_true, magnitude, taken-lt, rem_is, quot_is, div-step}

-- ---- the registers' widths

module _ (a b k : ℕ) (hb : b < 2 ^ 32) (hk : k ≤ 32) where
  pub quot_fits : div_quot a b k < 2 ^ 32
  unfolding div_quot
  quot_fits = go (above0 a) refl
    where
      go : (t : Bool) → above0 a ≡ t → div_quot a b k < 2 ^ 32
      go true e =
          let p = above0_true a e in
          rw (quot_is a b p.0 p.1 k)
          (parts-lt (magnitude b) (magnitude b / 2 ^ (32 - k) / a) (32 - k) k 32 (omega arith)
          (lt_of_le_of_lt (div-le_self (magnitude b / 2 ^ (32 - k)) a) (taken-lt b k hb hk)))
      go false e = rw e (omega arith)

pub rem-fits : (a b k : ℕ) → div_rem a b k < 2 ^ 31
unfolding div_rem
rem-fits a b k = go (above0 a) refl
  where
    go : (t : Bool) → above0 a ≡ t → div_rem a b k < 2 ^ 31
    go true e =
        let p = above0_true a e in
        rw (rem_is a b p.0 p.1 k) (omega (arith, mod-lt (magnitude b / 2 ^ (32 - k)) p.0, p.1))
    go false e = rw e (omega arith)

-- ---- one step

module _ (rem quot a : ℕ) (ha : a < 2 ^ 31) (hr : rem < 2 ^ 31) (hq : quot < 2 ^ 32) where
  doubled : paired rem quot % 2 ^ 63 * 2 ≡ div_trial rem quot * 2 ^ 32 + div_rest quot
  unfolding paired div_trial div_rest
  doubled = omega arith

  rest_lt : div_rest quot < 2 ^ 32
  unfolding div_rest
  rest_lt = omega arith

  any_step : above0 a ≡ true → pair_step (paired rem quot) (pair_divisor a) ≡ paired (div_step rem quot a).rem (div_step rem quot a).quot
  unfolding pair_step pair_divisor paired div_step
  any_step e = rw (e, doubled) (go (ltb (div_trial rem quot) a) refl)
    where
      go : (t : Bool) → ltb (div_trial rem quot) a ≡ t
          → cond (ltb (div_trial rem quot * 2 ^ 32 + div_rest quot) (a * 2 ^ 32)) (div_trial rem quot * 2 ^ 32 + div_rest quot)
          (div_trial rem quot * 2 ^ 32 + div_rest quot - a * 2 ^ 32 + 1)
          ≡ paired
          (cond {A = Divider} t (record { rem = div_trial rem quot; quot = div_rest quot })
          (record { rem = div_trial rem quot - a; quot = div_rest quot + 1 })).rem
          (cond {A = Divider} t (record { rem = div_trial rem quot; quot = div_rest quot })
          (record { rem = div_trial rem quot - a; quot = div_rest quot + 1 })).quot
      go true s =
          rw (lt-ltb (div_trial rem quot * 2 ^ 32 + div_rest quot) (a * 2 ^ 32) (omega (arith, ltb-true (div_trial rem quot) a s, rest_lt)))
      go false s =
          rw (le-ltb (div_trial rem quot * 2 ^ 32 + div_rest quot) (a * 2 ^ 32) (omega (arith, ltb-false (div_trial rem quot) a s)))
          (omega (arith, ltb-false (div_trial rem quot) a s))

pub pair_step_lem : (a b k : ℕ) → b < 2 ^ 32 → k < 32
    → pair_step (paired (div_rem a b k) (div_quot a b k)) (pair_divisor a) ≡ paired (div_rem a b (k + 1)) (div_quot a b (k + 1))
unfolding pair_step paired pair_divisor div_rem div_quot
pair_step_lem a b k hb hk = go (above0 a) refl
  where
    go : (t : Bool) → above0 a ≡ t
        → pair_step (paired (div_rem a b k) (div_quot a b k)) (pair_divisor a) ≡ paired (div_rem a b (k + 1)) (div_quot a b (k + 1))
    go true e =
        let p = above0_true a e in
        any_step (div_rem a b k) (div_quot a b k) a p.1 (rem-fits a b k) (quot_fits a b k hb (omega (arith, hk))) e
        ∙ ap (λ (d : Divider). paired d.rem d.quot) (div-step a b k hb hk)
    go false e = rw e
