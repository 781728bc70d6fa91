-- The core's line bytes over clocks in which the tick does not change.
-- Idea: by induction on the given bytes.
--   lines-low, lines-count, lines-take   their size, their number, and the first of them        lines_next   one more
--   lines_same   of another tick, if there are none
use Prim.Native.Nat.{ℕ, zero, suc, ◌+◌, ◌≤◌, ◌<◌}
use mathlib.Core.Path.{◌≡◌, refl, sym, ap, ◌∙◌}
use mathlib.Core.Logic.{◌≢◌}
use mathlib.Core.Bool.{true}
use mathlib.Core.List.{List, [], ◌∷◌, ◌++◌}
use lib.ListN.{length, get_or, take, drop, set, length-drop}
use lib.Seq.{take-suc, take-suc-set, get_or-drop, length-take-le}
use borrow.Author.Tests.{le-leb}
use native.Mathlib.Numerals.{add-one}
use native.Mathlib.Omega.{arith}
use Rattle.trm_laws.proofs.Tests.{◌&t◌}
use Rattle.trm_core.specs.Refusals.{all_at_most}
use Rattle.trm_board_calls.specs.Running.{line_for, lines_of}

pub lines-take : (tick j : ℕ) (gs : List ℕ) → take j (lines_of tick gs) ≡ lines_of tick (take j gs)
unfolding lines_of
lines-take tick zero gs = refl
lines-take tick (suc j) [] = refl
lines-take tick (suc j) (g ∷ gs) = ap (λ t. line_for tick g ∷ t) (lines-take tick j gs)

pub lines-low : (tick : ℕ) (gs : List ℕ) → tick ≤ 1 → all_at_most 7 (lines_of tick gs) ≡ true
unfolding lines_of all_at_most
lines-low tick [] h = refl
lines-low tick (g ∷ gs) h = le-leb (line_for tick g) 7 (omega arith) &t lines-low tick gs h

lines-length : (tick : ℕ) (gs : List ℕ) → length (lines_of tick gs) ≡ length gs
unfolding lines_of
lines-length tick [] = refl
lines-length tick (g ∷ gs) = ap suc (lines-length tick gs)

-- there are as many as clocks
pub lines-count : (tick at k : ℕ) (gs ls : List ℕ) → at + k ≤ length gs → ls ≡ lines_of tick (take k (drop at gs)) → k ≡ length ls
lines-count tick at k gs ls below e = sym (ap length e ∙ lines-length tick (take k (drop at gs))
    ∙ length-take-le k (drop at gs) (omega (arith, length-drop at gs, below)))

lines_more : (tick : ℕ) (gs : List ℕ) (g : ℕ) → lines_of tick (gs ++ g ∷ [])
    ≡ lines_of tick gs ++ line_for tick g ∷ []
unfolding lines_of
lines_more tick [] g = refl
lines_more tick (h ∷ gs) g = ap (λ t. line_for tick h ∷ t) (lines_more tick gs g)

-- one line byte more
pub lines_next : (tick at i : ℕ) (gs ls : List ℕ) (l : ℕ) → at + i < length gs → i < length ls
    → take i ls ≡ lines_of tick (take i (drop at gs)) → l ≡ line_for tick (get_or gs (at + i) 0)
    → take (i + 1) (set ls i l) ≡ lines_of tick (take (i + 1) (drop at gs))
lines_next tick at i gs ls l below fits e q = ap (λ n. take n (set ls i l)) (add-one i) ∙ take-suc-set ls i l fits
    ∙ ap (λ t. t ++ l ∷ []) e ∙ ap (λ n. lines_of tick (take i (drop at gs)) ++ n ∷ [])
    (q ∙ ap (line_for tick) (sym (get_or-drop at gs i 0)))
    ∙ sym (lines_more tick (take i (drop at gs)) (get_or (drop at gs) i 0))
    ∙ ap (lines_of tick) (sym (take-suc (drop at gs) i 0 (omega (arith, length-drop at gs, below))))
    ∙ ap (λ n. lines_of tick (take n (drop at gs))) (sym (add-one i))

-- the tick does not matter where no clock is left
pub lines_same : (a b : ℕ) (n : ℕ) (gs : List ℕ) → (n ≢ 0 → a ≡ b) → lines_of a (take n gs) ≡ lines_of b (take n gs)
lines_same a b zero gs e = unfold lines_of in refl
lines_same a b (suc n) gs e = ap (λ t. lines_of t (take (suc n) gs)) (e (λ z. omega (arith, z)))
