-- Digits written from the lowest one.
-- Idea: the digits still to be written and those already there are all digits of the number.
use Prim.Native.Nat.{ℕ, zero, suc, ◌+◌, ◌-◌, ◌/◌, ◌%◌, ◌≤◌, ◌<◌}
use mathlib.Core.Path.{◌≡◌, refl, sym, ap, ◌∙◌, subst}
use mathlib.Core.List.{List, [], ◌∷◌, ◌++◌, append_assoc}
use native.Mathlib.Omega.{arith}
use lib.ListN.{length, set, drop, length-set, length-append}
use lib.Seq.{drop-cons, get_or-set_same, drop-set-lt}
use Rattle.trm_list_text.specs.Numbers.{glyph, digits}

pub digits_long : (b k n : ℕ) → length (digits b k n) ≡ k
unfolding digits
digits_long b zero n = refl
digits_long b (suc k) n = length-append (digits b k (n / b)) (glyph (n % b) ∷ []) ∙ ap (λ l. l + 1) (digits_long b k (n / b)) ∙ omega arith

-- what the slice holds from place i on after the digit at i
from-digit : (out : List ℕ) (i g : ℕ) → i < length out → drop i (set out i g) ≡ g ∷ drop (suc i) out
from-digit out i g h =
    drop-cons (set out i g) i 0 (rw (length-set out i g) h)
    ∙ ap (λ x. x ∷ drop (suc i) (set out i g)) (get_or-set_same out i g 0 h)
    ∙ ap (λ t. g ∷ t) (drop-set-lt (suc i) out i g (omega arith))

digits-step : (b i rest : ℕ) (out : List ℕ) → i < length out
    → digits b i (rest / b) ++ drop i (set out i (glyph (rest % b))) ≡ digits b (suc i) rest ++ drop (suc i) out
unfolding digits
digits-step b i rest out h =
    let g = glyph (rest % b) in
    ap (λ t. digits b i (rest / b) ++ t) (from-digit out i g h) ∙ sym (append_assoc (digits b i (rest / b)) (g ∷ []) (drop (suc i) out))

-- one digit more is written
pub digits-more : (b i rest : ℕ) (out : List ℕ) → 0 < i → i ≤ length out
    → digits b (i - 1) (rest / b) ++ drop (i - 1) (set out (i - 1) (glyph (rest % b))) ≡ digits b i rest ++ drop i out
digits-more b i rest out some within =
    let e : i ≡ suc (i - 1) = omega arith in
    digits-step b (i - 1) rest out (omega arith) ∙ ap (λ k. digits b k rest ++ drop k out) (sym e)

-- all are written
pub digits-all : (b i rest : ℕ) (out all : List ℕ) → i ≤ 0 → digits b i rest ++ drop i out ≡ all → out ≡ all
unfolding digits
digits-all b i rest out all none spelt =
    let e : i ≡ 0 = omega arith in
    subst (λ k. digits b k rest ++ drop k out ≡ all) e spelt

-- the last one is written
pub digits-last : (b i rest : ℕ) (out all : List ℕ) → i ≡ 1 → i ≤ length out → digits b i rest ++ drop i out ≡ all
    → set out 0 (glyph (rest % b)) ≡ all
digits-last b i rest out all one within spelt =
    let step = digits-more b 1 rest out (omega arith) (omega arith) in
    digits-all b 0 (rest / b) (set out 0 (glyph (rest % b))) all (omega arith)
    (step ∙ subst (λ k. digits b k rest ++ drop k out ≡ all) one spelt)
