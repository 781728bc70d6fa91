-- Laws of the test over all cache lines, of a phase that passed, and of the charges that bound the counts of phases 1 and 4.
-- Idea: by cases of each test's result.
use Prim.Native.Nat.{ℕ, zero, suc, ◌+◌, ◌≤◌, ◌<◌}
use mathlib.Core.Path.{◌≡◌, refl, sym, ◌∙◌}
use mathlib.Core.Logic.{◌≢◌}
use mathlib.Core.Bool.{Bool, true, false, cond, not, ◌&&◌, ◌||◌}
use native.Mathlib.Numerals.{add-one}
use native.Mathlib.Omega.{arith}
use native.Mathlib.Decide.{ℕ_discrete}
use borrow.Author.Tests.{leb-true, ltb-true, le-ltb, eqb-true, eq-eqb, ne_eqb}
use lib.ListN.{get_or}
use lib.Dec.{leb, ltb, eqb, leb-suc-suc}
use Rattle.trm_laws.proofs.Tests.{both, all3, clash, test_at, chosen}
use Rattle.trm_word.specs.Fields.{operation}
use Rattle.trm_word.specs.Charge.{charge_of}
use Rattle.trm_reference.specs.Geometry.{paper_geometry}
use Rattle.trm_reference.specs.Visible.{Visible}
use Rattle.trm_reference.specs.Access.{is_load}
use Rattle.trm_reference.specs.Charge.{is_stepped, without_cache, uncached_charge}
use Rattle.trm_cache.specs.Cache.{line_at}
use Rattle.trm_cache.specs.declared.record.Cache.{Cache}
use Rattle.trm_core.specs.declared.record.Running.{Running}
use Rattle.trm_core.specs.Rule.{all_below, marks_ok, line_ok, phase_ok, arithmetic_ok}
use Rattle.trm_core.proofs.Laws.Kind.{uncached, kind_of, kind-is, is-of, uncached_is, waits-are}

below_suc : (k : ℕ) (f : ℕ → Bool) → all_below (suc k) f ≡ (all_below k f && f k)
unfolding all_below
below_suc k f = refl

pub below_none : (f : ℕ → Bool) → all_below 0 f ≡ true
unfolding all_below
below_none f = refl

-- one more number passes
pub below_more : (k : ℕ) (f : ℕ → Bool) → all_below k f ≡ true → f k ≡ true → all_below (k + 1) f ≡ true
below_more k f p q = rw (add-one, below_suc, p, q)

fails-right : (b : Bool) → (b && false) ≡ false
fails-right true = refl
fails-right false = refl

-- one number that fails makes the whole test fail
pub below-bad : (k i : ℕ) (f : ℕ → Bool) → i < k → f i ≡ false → all_below k f ≡ false
below-bad zero i f h e = absurd (omega (arith, h))
below-bad (suc k) i f h e = go (ℕ_discrete i k) (λ l. below-bad k i f l e)
  where
    go : Dec (i ≡ k) → (i < k → all_below k f ≡ false) → all_below (suc k) f ≡ false
    go (yes q) g = rw (below_suc, ← q, e) (fails-right (all_below i f))
    go (no z) g = rw (below_suc, g (omega (arith, h, z)))

-- all of them passed
pub below_end : (k i : ℕ) (f : ℕ → Bool) → i ≤ k → k ≤ i → all_below i f ≡ true → all_below k f ≡ true
below_end k i f p q t = let e : i ≡ k = omega (arith, p, q) in rw (← e) t

-- what row 5 requires of line l
abbrev pub good_line : Bool → ℕ → Cache → ℕ → Bool
good_line on n ca l = marks_ok ca l && line_ok paper_geometry on n l (line_at paper_geometry ca l)

clean-mark : (d : ℕ) (x : Bool) → ltb d 2 && (not (eqb d 1) && x) ≡ (eqb d 0 && x)
clean-mark d x = go (ℕ_discrete d 0) (ℕ_discrete d 1)
  where
    go : Dec (d ≡ 0) → Dec (d ≡ 1) → ltb d 2 && (not (eqb d 1) && x) ≡ (eqb d 0 && x)
    go (yes e) q = rw e
    go (no z) (yes e) = rw e
    go (no z) (no y) = rw (le-ltb d 2 (omega (arith, z, y)), ne_eqb d 0 z)

-- an empty line
pub empty-line : (on : Bool) (n : ℕ) (ca : Cache) (l : ℕ) → get_or ca.full l 0 ≡ 0
    → good_line on n ca l ≡ (eqb (get_or ca.dirty l 0) 0 && eqb (get_or ca.block l 0) 0)
unfolding marks_ok line_ok line_at
empty-line on n ca l e = rw e (clean-mark (get_or ca.dirty l 0) (eqb (get_or ca.block l 0) 0))

-- a line with good marks that is not empty is full
pub marked-full : (ca : Cache) (l : ℕ) → get_or ca.full l 0 ≢ 0 → marks_ok ca l ≡ true → (line_at paper_geometry ca l).full ≡ true
unfolding marks_ok line_at
marked-full ca l z t = both (ltb (get_or ca.full l 0) 2) _
    (λ a _. eq-eqb (get_or ca.full l 0) 1 (omega (arith, z, ltb-true (get_or ca.full l 0) 2 a))) t

-- if the phase passes and is 1, the count is at most 32
pub stepped-count : (w n : ℕ) (r : Running) (v : Visible) (ca : Cache) → phase_ok paper_geometry w n r v ca ≡ true
    → r.phase ≡ 1 → r.count ≤ 32
unfolding phase_ok arithmetic_ok
stepped-count w n r v ca t e =
    all3 (leb 1 r.count) (leb r.count 32) (is_stepped w) (λ _ p _. leb-true r.count 32 p) (sym in_one ∙ t)
  where
    in_one : phase_ok paper_geometry w n r v ca ≡ arithmetic_ok w r.count
    in_one = rw (test_at e 0, test_at e 1)

-- a < m + 1 exactly if a ≤ m
pub below-one-more : (a b m : ℕ) → b ≡ m + 1 → ltb a b ≡ leb a m
below-one-more a b m e = rw (e, add-one) (leb-suc-suc a m)

-- 8 and 9 are charged 32 steps and a clock for the result
pub stepped-charge : (w : ℕ) → is_stepped w ≡ true → charge_of (operation w) ≡ 32 + 1
unfolding is_stepped
stepped-charge w t = go (eqb (operation w) 8) refl (eqb (operation w) 9) refl t
  where
    go : (a : Bool) → eqb (operation w) 8 ≡ a → (b : Bool) → eqb (operation w) 9 ≡ b → a || b ≡ true → charge_of (operation w) ≡ 32 + 1
    go true p b q s = rw (eqb-true (operation w) 8 p)
    go false p true q s = rw (eqb-true (operation w) 9 q)
    go false p false q s = clash s

-- 12 and 13 uncached are charged 5 or 4 waits and a clock for the access
pub uncached_charge_lem : (w : ℕ) (v : Visible) (n : ℕ) → without_cache w v n ≡ true → charge_of (operation w) + 4
    ≡ cond (is_load w) 5 4 + 1
unfolding uncached_charge
uncached_charge_lem w v n t = waits-are (is-of w v n uncached (uncached_is (kind_of w v n) (sym (kind-is w v n).without ∙ t)))

pub uncached_few : (w : ℕ) (v : Visible) (n : ℕ) → without_cache w v n ≡ true → charge_of (operation w) + 4 ≤ 6
uncached_few w v n t = rw (uncached_charge_lem w v n t) (chosen (λ (k : ℕ). k + 1 ≤ 6) (is_load w) (omega arith) (omega arith))
