-- By cases: A above 0 or not, the sign of B, and whether the division of the magnitude is exact (Laws.Quotient).
use Rattle.std.proofs.Common.{◌≡◌, ℕ, ◌^◌, ◌<◌, Bool, true, ap, ◌∙◌, le_of_lt, arith}
use Rattle.trm_alu.specs.Divide.{above0, div_rem, div_quot}
use Rattle.trm_alu.proofs.Laws.Division.{above0-no, above0-yes}
use Rattle.trm_alu.proofs.Laws.Quotient.{Ended, rem_lt, quot_le}
use Rattle.trm_alu.proofs.Laws.Quotient.{finish-none, finish-plus, finish-exact, finish_inexact}
use Rattle.trm_alu.proofs.inner.divide.Divider.finish.Goals as goal

ended : (t : Bool) (a b r q : ℕ) → b < 2 ^ 32 → t ≡ above0 a → t ≡ true → (r ≡ div_rem a b 32) × (q ≡ div_quot a b 32)
    → Ended a b r q
ended t a b r q word is so held =
    let p = above0-yes t a is so in
    record { word-b = word; above = p.0; below = p.1; rem = held.0; quot = held.1 }

pub returns-then-not-above0 : goal.returns-then-not-above0
returns-then-not-above0 c = finish-none _ c.args.b (above0-no _ _ c.above0.ensures c.if-not-above0.true)

pub overflow_cast-q : goal.overflow_cast-q
overflow_cast-q c = omega (arith, quot_le (ended _ _ _ _ _ c.ranges.b.fits c.above0.ensures c.if-not-above0.false c.requires))

pub overflow_cast-r : goal.overflow_cast-r
overflow_cast-r c = omega (arith, rem_lt (ended _ _ _ _ _ c.ranges.b.fits c.above0.ensures c.if-not-above0.false c.requires))

pub returns-then-b-lt2147483648 : goal.returns-then-b-lt2147483648
returns-then-b-lt2147483648 c = finish-plus (ended _ _ _ _ _ c.ranges.b.fits c.above0.ensures c.if-not-above0.false c.requires)
    c.if-b-lt2147483648.true

pub overflow_sub-result : goal.overflow_sub-result
overflow_sub-result c = le_of_lt (rem_lt (ended _ _ _ _ _ c.ranges.b.fits c.above0.ensures c.if-not-above0.false c.requires))

pub returns-then-r-eq0 : goal.returns-then-r-eq0
returns-then-r-eq0 c =
    ap (λ (q : ℕ). record { quotient = q; remainder = 0 })
    (omega (arith, quot_le (ended _ _ _ _ _ c.ranges.b.fits c.above0.ensures c.if-not-above0.false c.requires)))
    ∙ finish-exact (ended _ _ _ _ _ c.ranges.b.fits c.above0.ensures c.if-not-above0.false c.requires) c.if-b-lt2147483648.false
    (omega (arith, c.if-r-eq0.true))

pub returns-else-r-eq0 : goal.returns-else-r-eq0
returns-else-r-eq0 c = finish_inexact (ended _ _ _ _ _ c.ranges.b.fits c.above0.ensures c.if-not-above0.false c.requires)
    c.if-b-lt2147483648.false
    c.if-r-eq0.false
