-- After SUB, condition 8 holds if B is above A and condition 9 if B is at or below A, both without sign.
-- C of SUB is "A at or below B" and Z "A equal to B" (laws of trm_alu), so "C and not Z" is "A below B".
use mathlib.Core.Path.{◌≡◌, refl, sym, ap, ◌∙◌}
use mathlib.Core.Bool.{Bool, true, false, not, ◌&&◌}
use Prim.Native.Nat.{ℕ, ◌^◌, ◌<◌}
use native.Mathlib.Omega.{arith}
use lib.Dec.{ltb, leb, eqb}
use borrow.Author.Tests.{ltb-true, ltb-false, eqb-true, eqb-false, le-leb, lt-leb}
use Rattle.trm_word.specs.Fields.{operation, condition}
use Rattle.trm_word.specs.Condition.{is_set, condition_holds}
use Rattle.trm_alu.specs.Word.{flag}
use Rattle.trm_alu.specs.Flags.{flags_of}
use Rattle.trm_alu.proofs.Laws.Flags.{sub-carry, sub-zero}
use Rattle.trm_reference.specs.Visible.{Visible}
use Rattle.trm_reference.specs.Execute.{operand_a, operand_b, calculated, branch_taken, execute}

set-flag : (t : Bool) → is_set (flag t) ≡ t
set-flag true = refl
set-flag false = refl

at_most-not_equal : (a b : ℕ) → (leb a b && not (eqb a b)) ≡ ltb a b
at_most-not_equal a b = go (ltb a b) refl (eqb a b) refl
  where
    go : (t : Bool) → ltb a b ≡ t → (e : Bool) → eqb a b ≡ e → (leb a b && not e) ≡ t
    go true t true e = absurd (let p = ltb-true a b t in let q = eqb-true a b e in omega (arith, p, q))
    go true t false e = rw (le-leb a b (omega (arith, ltb-true a b t)))
    go false t true e = rw (le-leb a b (omega (arith, eqb-true a b e)))
    go false t false e = rw (lt-leb a b (let p = ltb-false a b t in let q = eqb-false a b e in omega (arith, p, q)))

not-below : (a b : ℕ) → not (ltb a b) ≡ leb b a
not-below a b = go (ltb a b) refl
  where
    go : (t : Bool) → ltb a b ≡ t → not t ≡ leb b a
    go true t = sym (lt-leb b a (ltb-true a b t))
    go false t = sym (le-leb b a (ltb-false a b t))

pub compares_addresses
    : (w u : ℕ) (v : Visible) (x : ℕ) → operation w ≡ 3 → operand_a w v < 2 ^ 32 → operand_b w v < 2 ^ 32
    → (condition u ≡ 8 → branch_taken u (execute w v x) ≡ ltb (operand_a w v) (operand_b w v))
    × (condition u ≡ 9 → branch_taken u (execute w v x) ≡ leb (operand_b w v) (operand_a w v))
compares_addresses w u v x op ha hb = (higher, lower-or_same)
  where
    a : ℕ
    a = operand_a w v

    b : ℕ
    b = operand_b w v

    s : Visible
    s = execute w v x

    after : s ≡ calculated w v
    after = unfold execute in rw op refl

    carry : s.c ≡ flag (leb a b)
    carry =
        ap (λ (y : Visible). y.c) after
        ∙ unfold calculated in ap (λ (o : ℕ). (flags_of o a b v.c v.v).c) op
        ∙ sub-carry a b v.c v.v

    zero : s.z ≡ flag (eqb a b)
    zero =
        ap (λ (y : Visible). y.z) after
        ∙ unfold calculated in ap (λ (o : ℕ). (flags_of o a b v.c v.v).z) op
        ∙ sub-zero a b v.c v.v ha hb

    carry-not_zero : (is_set s.c && not (is_set s.z)) ≡ ltb a b
    carry-not_zero =
        ap (λ (y : ℕ). is_set y && not (is_set s.z)) carry
        ∙ ap (λ (y : ℕ). is_set (flag (leb a b)) && not (is_set y)) zero
        ∙ ap (λ (t : Bool). t && not (is_set (flag (eqb a b)))) (set-flag (leb a b))
        ∙ ap (λ (t : Bool). leb a b && not t) (set-flag (eqb a b))
        ∙ at_most-not_equal a b

    higher : condition u ≡ 8 → branch_taken u s ≡ ltb a b
    higher e = unfold branch_taken in ap (λ (k : ℕ). condition_holds k s.n s.z s.c s.v) e ∙ carry-not_zero

    lower-or_same : condition u ≡ 9 → branch_taken u s ≡ leb b a
    lower-or_same e =
        unfold branch_taken in
        ap (λ (k : ℕ). condition_holds k s.n s.z s.c s.v) e ∙ ap not carry-not_zero ∙ not-below a b
