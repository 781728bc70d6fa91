-- The refills and write-backs of a history and of the instruction in flight: what a clock adds to each.
-- Idea: by cases of the kind of the word, whose charge says how many clocks are left of a burst; then arithmetic.
--   idle-fills, idle-writes   none with no clock spent       spent-fills, spent-writes   one more clock is spent
--   done-fills, done-writes   all but the last clock spent   joined-fills, joined-writes   what joins the history
--   refill-adds, writeback_adds   what the reference machine counts in a clock
use Prim.Native.Nat.{ℕ, suc, ◌+◌, ◌-◌, ◌*◌, ◌/◌, ◌%◌, ◌<◌}
use mathlib.Core.Path.{◌≡◌, refl}
use mathlib.Core.Logic.{◌≢◌}
use mathlib.Core.Bool.{Bool, true, false, cond, ◌&&◌}
use mathlib.Core.List.{◌∷◌}
use lib.ListN.{length}
use lib.Dec.{eqb, leb}
use borrow.Author.Tests.{leb-true, leb-false, eqb-true, eqb-false, eq-eqb, ne_eqb, le-leb, lt-leb}
use native.Mathlib.Omega.{arith}
use native.Mathlib.Nat.{mul-le-mul_left, mod-lt, mod-eq_of_lt, div-add-mod, zero-div, div-eq_of_eq-mul_right, div-eq_of_lt-le}
use native.Mathlib.Nat.{mul-add-mod_self_left}
use Rattle.trm_laws.proofs.Tests.{same_test}
use Rattle.trm_reference.specs.Geometry.{Geometry, burst}
use Rattle.trm_reference.specs.Access.{is_store, target_block, target_line}
use Rattle.trm_reference.specs.History.{access, emptying, refills_now, dirty_now, dirty_lines, refills_in, writebacks_in}
use Rattle.trm_reference.specs.Charge.{through_cache, turns_cache_off, miss_charge}
use Rattle.trm_reference.specs.Reference.{Reference, misses, evicts, refill_over, writeback_over, history_after}
use Rattle.trm_core.proofs.Laws.Kind.{Kind, quick, second, longer, device, cached, uncached, clearing, kind_of, kind-is, is_cached}
use Rattle.trm_core.proofs.Laws.Kind.{is_clearing, charge_of_kind}

-- the refill of a word of charge c that refills if t is set, with this many clocks spent, is over
abbrev pub fills : Bool → ℕ → ℕ → ℕ
fills t c spent = cond (t && eqb (suc spent) c) 1 0

-- one more clock is spent, and n are left
pub spent-fills : (t : Bool) (c spent n : ℕ) → n ≢ 0 → suc spent + n ≡ c
    → fills t c spent + cond (t && eqb n 1) 1 0 ≡ fills t c (suc spent)
spent-fills false c spent n z e = refl
spent-fills true c spent n z e = rw (
  ne_eqb (suc spent) c (λ y. z (omega arith)),
  same_test n 1 (suc (suc spent)) c (λ y. omega arith) (λ y. omega arith),
) (omega arith)

-- the last clock is due
pub done-fills : (t : Bool) (c spent : ℕ) → suc spent ≡ c → fills t c spent ≡ cond t 1 0
done-fills false c spent e = refl
done-fills true c spent e = rw (eq-eqb (suc spent) c e)

-- the write-back of an access of two bursts of b clocks: over when as many are left as a refill and a last clock take
access_writes : (b spent n : ℕ) → suc spent + n ≡ 2 + b + b
    → cond (leb (1 + b) spent) 1 0 + cond (eqb n (1 + b)) 1 0 ≡ cond (leb (1 + b) (suc spent)) 1 0
access_writes b spent n e = go (leb (1 + b) spent) refl (eqb n (1 + b)) refl (leb (1 + b) (suc spent)) refl
  where
    go : (x : Bool) → leb (1 + b) spent ≡ x → (y : Bool) → eqb n (1 + b) ≡ y → (z : Bool) → leb (1 + b) (suc spent) ≡ z
        → ◌≡◌ {A = ℕ} (cond x 1 0 + cond y 1 0) (cond z 1 0)
    go true p true q z r = absurd (let f = leb-true (1 + b) spent p in let g = eqb-true n (1 + b) q in omega arith)
    go true p false q true r = refl
    go true p false q false r = absurd (let f = leb-true (1 + b) spent p in let g = leb-false (1 + b) (suc spent) r in omega arith)
    go false p true q true r = refl
    go false p true q false r = absurd (let f = eqb-true n (1 + b) q in let g = leb-false (1 + b) (suc spent) r in omega arith)
    go false p false q true r = absurd (let f = leb-false (1 + b) spent p in let g = leb-true (1 + b) (suc spent) r in
        eqb-false n (1 + b) q (omega arith))
    go false p false q false r = refl

-- the bursts of b clocks of an emptying: one more is over when a whole number of them is left
module _ (b spent n dirty : ℕ) (pos : 0 < b) (e : suc spent + n ≡ 1 + b * dirty) (z : n ≢ 0) where
  whole : b * (spent / b) + spent % b ≡ spent
  whole = div-add-mod spent b

  low : spent % b < b
  low = mod-lt spent pos

  some : spent / b < dirty
  some = go (leb dirty (spent / b)) refl
    where
      go : (t : Bool) → leb dirty (spent / b) ≡ t → spent / b < dirty
      go true x = absurd (omega (arith, mul-le-mul_left b (leb-true dirty (spent / b) x), whole, e, z))
      go false x = let f = leb-false dirty (spent / b) x in omega arith

  -- what is left of the current burst, and whole bursts
  rest-left : (n - 1) % b ≡ b - (spent % b + 1)
  rest-left =
      let more : dirty ≡ suc (dirty - suc (spent / b) + spent / b) = omega (arith, some) in
      let sum : suc spent + n ≡ 1 + b * suc (dirty - suc (spent / b) + spent / b) = rw (← more) e in
      let is : n - 1 ≡ b * (dirty - suc (spent / b)) + (b - (spent % b + 1)) = omega (arith, sum, whole, low) in
      rw (is, mul-add-mod_self_left, mod-eq_of_lt {n = b - (spent % b + 1)} {m = b} (omega (arith, pos)))

  emptying_writes : spent / b + cond (eqb ((n - 1) % b) 0) 1 0 ≡ suc spent / b
  emptying_writes = go (eqb ((n - 1) % b) 0) refl
    where
      go : (t : Bool) → eqb ((n - 1) % b) 0 ≡ t → spent / b + cond t 1 0 ≡ suc spent / b
      go true x = let f = eqb-true ((n - 1) % b) 0 x in
          let full : suc spent ≡ b * suc (spent / b) = omega (arith, f, rest-left, whole, low) in
          let g = div-eq_of_eq-mul_right pos full in omega arith
      go false x = let f = eqb-false ((n - 1) % b) 0 x in
          let short : spent % b + 1 < b = omega (arith, f, rest-left, low) in
          let g = div-eq_of_lt-le {k = spent / b} b {m = suc spent} (omega (arith, whole)) (omega (arith, whole, short)) in omega arith

module _ (G : Geometry) where
  -- the write-backs of a word of a kind that are over
  abbrev pub writes : Kind → Bool → Bool → ℕ → ℕ
  writes k misses evicts spent =
      cond (is_cached k) (cond (misses && evicts && leb (1 + burst G) spent) 1 0) (cond (is_clearing k) (spent / burst G) 0)

  pub idle-fills : (k : Kind) (store misses evicts : Bool) (dirty : ℕ)
      → fills (is_cached k && misses) (charge_of_kind G k store misses evicts dirty) 0 ≡ 0
  unfolding charge_of_kind miss_charge
  idle-fills quick st mi ev d = refl
  idle-fills second st mi ev d = refl
  idle-fills longer st mi ev d = refl
  idle-fills device st mi ev d = refl
  idle-fills cached st true ev d = rw (ne_eqb 1 (2 + burst G + cond ev (burst G) 0) (omega arith))
  idle-fills cached st false ev d = refl
  idle-fills uncached st mi ev d = refl
  idle-fills clearing st mi ev d = refl

  pub idle-writes : (k : Kind) (misses evicts : Bool) → writes k misses evicts 0 ≡ 0
  idle-writes quick mi ev = refl
  idle-writes second mi ev = refl
  idle-writes longer mi ev = refl
  idle-writes device mi ev = refl
  idle-writes cached true true = rw (lt-leb (1 + burst G) 0 (omega arith))
  idle-writes cached true false = refl
  idle-writes cached false ev = refl
  idle-writes uncached mi ev = refl
  idle-writes clearing mi ev = zero-div (burst G)

  pub spent-writes : 0 < burst G → (k : Kind) (store misses evicts : Bool) (dirty spent n : ℕ) → n ≢ 0
      → suc spent + n ≡ charge_of_kind G k store misses evicts dirty
      → writes k misses evicts spent
      + cond (is_cached k) (cond (misses && evicts && eqb n (1 + burst G)) 1 0)
      (cond (is_clearing k) (cond (eqb ((n - 1) % burst G) 0) 1 0) 0)
      ≡ writes k misses evicts (suc spent)
  unfolding charge_of_kind miss_charge
  spent-writes pos quick st mi ev d sp n z e = refl
  spent-writes pos second st mi ev d sp n z e = refl
  spent-writes pos longer st mi ev d sp n z e = refl
  spent-writes pos device st mi ev d sp n z e = refl
  spent-writes pos cached st true true d sp n z e = access_writes (burst G) sp n e
  spent-writes pos cached st true false d sp n z e = refl
  spent-writes pos cached st false ev d sp n z e = refl
  spent-writes pos uncached st mi ev d sp n z e = refl
  spent-writes pos clearing st mi ev d sp n z e = emptying_writes (burst G) sp n d pos e z

  pub done-writes : 0 < burst G → (k : Kind) (store misses evicts : Bool) (dirty spent : ℕ)
      → suc spent ≡ charge_of_kind G k store misses evicts dirty
      → writes k misses evicts spent ≡ cond (is_cached k) (cond (misses && evicts) 1 0) (cond (is_clearing k) dirty 0)
  unfolding charge_of_kind miss_charge
  done-writes pos quick st mi ev d sp e = refl
  done-writes pos second st mi ev d sp e = refl
  done-writes pos longer st mi ev d sp e = refl
  done-writes pos device st mi ev d sp e = refl
  done-writes pos cached st true true d sp e = rw (le-leb (1 + burst G) sp (omega arith))
  done-writes pos cached st true false d sp e = refl
  done-writes pos cached st false ev d sp e = refl
  done-writes pos uncached st mi ev d sp e = refl
  done-writes pos clearing st mi ev d sp e = div-eq_of_eq-mul_right {n = burst G} {m = sp} {k = d} pos (omega arith)

-- what joins the history, and what the reference machine counts
module _ (G : Geometry) (w : ℕ) (q : Reference) where
  pub joined-fills : refills_in G (history_after G w q)
      ≡ refills_in G q.history + cond (through_cache w q.visible (length q.memory) && misses G w q) 1 0
  unfolding history_after refills_in misses
  joined-fills = go (through_cache w q.visible (length q.memory)) (turns_cache_off w q.visible)
    where
      b : ℕ
      b = target_block G w q.visible (length q.memory)

      go : (t u : Bool)
          → refills_in G (cond t (access (record { block = b; store = is_store w }) ∷ q.history)
          (cond u (emptying ∷ q.history) q.history))
          ≡ refills_in G q.history + cond (t && refills_now G q.history b) 1 0
      go true u = omega arith
      go false true = omega arith
      go false false = omega arith

  pub joined-writes : writebacks_in G (history_after G w q)
      ≡ writebacks_in G q.history + cond (through_cache w q.visible (length q.memory)) (cond (misses G w q && evicts G w q) 1 0)
      (cond (turns_cache_off w q.visible) (dirty_lines G q.history) 0)
  unfolding history_after writebacks_in misses evicts target_line
  joined-writes = go (through_cache w q.visible (length q.memory)) (turns_cache_off w q.visible)
    where
      b : ℕ
      b = target_block G w q.visible (length q.memory)

      l : ℕ
      l = target_line G w q.visible (length q.memory)

      go : (t u : Bool)
          → writebacks_in G (cond t (access (record { block = b; store = is_store w }) ∷ q.history)
          (cond u (emptying ∷ q.history) q.history))
          ≡ writebacks_in G q.history + cond t (cond (refills_now G q.history b && dirty_now G q.history l) 1 0)
          (cond u (dirty_lines G q.history) 0)
      go true u = omega arith
      go false true = omega arith
      go false false = omega arith

  -- what a clock adds to the counts, n being left after it
  pub refill-adds : (n : ℕ) → refill_over G w q n
      ≡ cond (is_cached (kind_of w q.visible (length q.memory)) && misses G w q && eqb n 1) 1 0
  unfolding refill_over
  refill-adds n = rw (kind-is w q.visible (length q.memory)).through

  pub writeback_adds : (n : ℕ) → writeback_over G w q n
      ≡ cond (is_cached (kind_of w q.visible (length q.memory))) (cond (misses G w q && evicts G w q && eqb n (1 + burst G)) 1 0)
      (cond (is_clearing (kind_of w q.visible (length q.memory))) (cond (eqb ((n - 1) % burst G) 0) 1 0) 0)
  unfolding writeback_over
  writeback_adds n = rw ((kind-is w q.visible (length q.memory)).through, (kind-is w q.visible (length q.memory)).off)
