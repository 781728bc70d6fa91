-- Words of an image copied into an array one by one.
-- Idea: the first i + 1 words are the first i and the next one.
use Prim.Native.Nat.{ℕ, zero, suc, ◌+◌, ◌*◌, ◌<◌}
use mathlib.Core.Path.{◌≡◌, refl, ap, ◌∙◌}
use mathlib.Core.List.{List, [], ◌∷◌, ◌++◌}
use native.Mathlib.Omega.{arith}
use lib.ListN.{length, set, take}
use lib.Seq.{take-suc-set}
use Rattle.trm_image.specs.Records.{le4, words_at}

words_at-one_more : (s : List ℕ) (at i : ℕ) → words_at s at i ++ le4 s (at + i * 4) ∷ [] ≡ words_at s at (suc i)
unfolding words_at
words_at-one_more s at zero =
    let z : at + 0 * 4 ≡ at = omega arith in
    rw z
words_at-one_more s at (suc i) =
    let e : at + suc i * 4 ≡ at + 4 + i * 4 = omega arith in
    rw e (ap (λ ws. le4 s at ∷ ws) (words_at-one_more s (at + 4) i))

pub load-none : (s : List ℕ) (at : ℕ) → [] ≡ words_at s at 0
unfolding words_at
load-none s at = refl

pub load-more : (s out : List ℕ) (at i v : ℕ) → i < length out → take i out ≡ words_at s at i → v ≡ le4 s (at + i * 4)
    → take (i + 1) (set out i v) ≡ words_at s at (i + 1)
load-more s out at i v h held e =
    let n : i + 1 ≡ suc i = omega arith in
    rw n (take-suc-set out i v h ∙ rw (held, e) (words_at-one_more s at i))
