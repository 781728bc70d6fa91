-- The clocked machine phase by phase: what phase 5 requires, the clocks left, whether a clock is the last, and what any other clock does.
-- One law per branch of a definition; only the tests of the phase are rewritten, never the fields of the record.
--   due-is    left_0 .. left_5    last_0 .. last_5    advance_0 .. advance_4    last-is   a clock is the last iff one is left
use Prim.Native.Nat.{ℕ, zero, suc, ◌+◌, ◌-◌, ◌*◌, ◌≤◌}
use mathlib.Core.Path.{◌≡◌, refl, sym, ap, ◌∙◌}
use mathlib.Core.Logic.{◌≢◌}
use mathlib.Core.Bool.{Bool, true, false, cond, not, ◌&&◌, ◌||◌}
use mathlib.Core.List.{List}
use lib.Dec.{eqb}
use borrow.Author.Tests.{eq-eqb, ne_eqb}
use native.Mathlib.Omega.{arith}
use Rattle.trm_laws.proofs.Tests.{or_right, test_at, same_test}
use Rattle.trm_word.specs.Fields.{operation}
use Rattle.trm_reference.specs.Geometry.{Geometry, burst}
use Rattle.trm_reference.specs.Visible.{Visible}
use Rattle.trm_reference.specs.Access.{is_load, is_store, target_block, target_line}
use Rattle.trm_reference.specs.Charge.{is_jump, takes_branch, miss_charge, uncached_charge}
use Rattle.trm_core.specs.declared.record.Running.{Running}
use Rattle.trm_core.specs.declared.record.Scalars.{Scalars}
use Rattle.trm_cache.specs.Cache.{count_dirty, first_dirty}
use Rattle.trm_cache.specs.declared.record.Cache.{Cache}
use Rattle.trm_core.specs.Record.{stepping, in_phase}
use Rattle.trm_core.specs.Clock.{moved, line_for, hits, charge_here, is_last, writing, filling, first_clock, write_line, advance}
use Rattle.trm_core.specs.Rule.{due_ok}
use Rattle.trm_core.specs.Claims.{left_of}
use Rattle.trm_core.proofs.Laws.Kind.{Kind, second, longer, device, cached, clearing, kind_of, is-of, is_second, is_device}
use Rattle.trm_core.proofs.Laws.Kind.{is_clearing, in_memory, charge_of_kind}
use Rattle.trm_core.proofs.Laws.Rule.{Phase, ready, arithmetic, write_back, clearing_off, refill, waiting, due, Registers}

pub times-pos : (a b : ℕ) → b ≢ 0 → a ≤ a * b
times-pos a zero n = absurd (n refl)
times-pos a (suc b) n = omega arith

pub phase-of : (r : Running) (ph c : ℕ) → r ≡ in_phase ph c → r.phase ≡ ph
phase-of r ph c q = ap (λ (x : Running). x.phase) q

-- outside phase 1 the registers are zero
pub idle : (w : ℕ) (v : Visible) (ph c : ℕ) → eqb ph 1 ≡ false → Registers w (in_phase ph c) v
idle w v ph c q = record { product = rw q; remainder = rw q; quotient = rw q }

swap : (a b c x : Bool) → a || b || c ≡ x → a || c || b ≡ x
swap true b c x e = e
swap false true true x e = e
swap false true false x e = e
swap false false true x e = e
swap false false false x e = e

module _ (G : Geometry) (w n : ℕ) (v : Visible) (ca : Cache) where
  -- what phase 5 requires, by kind
  pub due-is : (k : Kind) → kind_of w v n ≡ k
      → due_ok G w n v ca
      ≡ is_second k || (is_clearing k && eqb (count_dirty G ca) 0) || (is_load w && is_device k) || (in_memory k && hits G w n v ca)
  unfolding due_ok
  due-is k kq = let is = is-of w v n k kq in
      rw (swap (takes_branch w v) (is_jump w) (eqb (operation w) 15) (is_second k) is.twice, is.off, is.device, is.memory)

  pub due-second : kind_of w v n ≡ second → due_ok G w n v ca ≡ true
  due-second kq = due-is second kq

  pub due_clearing : kind_of w v n ≡ clearing → count_dirty G ca ≡ 0 → due_ok G w n v ca ≡ true
  due_clearing kq z = due-is clearing kq ∙ rw (eq-eqb (count_dirty G ca) 0 z)

  pub due_device : kind_of w v n ≡ device → is_store w ≡ false → due_ok G w n v ca ≡ true
  due_device kq z = due-is device kq ∙ rw ((is-of w v n device kq).cost, z)

  pub due-cached : kind_of w v n ≡ cached → hits G w n v ca ≡ true → due_ok G w n v ca ≡ true
  due-cached kq h = due-is cached kq ∙ or_right (is_load w && false) _ h

  -- the charge, by kind
  pub charge-is : (k : Kind) → kind_of w v n ≡ k
      → charge_here G w n v ca ≡ charge_of_kind G k (is_store w) (not (hits G w n v ca)) (line_for G w n v ca).dirty (count_dirty G ca)
  unfolding charge_here
  charge-is k kq = (is-of w v n k kq).charge G _ _ _

  -- an access through the cache with charge 1 hits
  pub one-hits : kind_of w v n ≡ cached → charge_here G w n v ca ≡ 1 → hits G w n v ca ≡ true
  unfolding charge_of_kind miss_charge
  one-hits kq one = go (hits G w n v ca) (sym (charge-is cached kq) ∙ one)
    where
      go : (t : Bool) → cond (not t) (2 + burst G + cond (line_for G w n v ca).dirty (burst G) 0) (cond (is_store w) 1 2) ≡ 1 → t ≡ true
      go true e = refl
      go false e = absurd (omega arith)

  module _ (r : Running) where
    -- the clocks left
    pub left_0 : r.phase ≡ 0 → left_of G w n r v ca ≡ charge_here G w n v ca
    unfolding left_of
    left_0 q = rw (test_at q 0)

    pub left_1 : r.phase ≡ 1 → kind_of w v n ≡ longer → left_of G w n r v ca ≡ 33 - r.count
    unfolding left_of
    left_1 q kq = rw (test_at q 0, test_at q 1, (is-of w v n longer kq).cost)

    pub left_2_cached : r.phase ≡ 2 → kind_of w v n ≡ cached → left_of G w n r v ca ≡ 1 + (burst G + burst G - r.count)
    unfolding left_of
    left_2_cached q kq = rw (test_at q 0, test_at q 1, test_at q 2, (is-of w v n cached kq).off)

    pub left_2_clearing : r.phase ≡ 2 → kind_of w v n ≡ clearing → left_of G w n r v ca ≡ 1 + (burst G * count_dirty G ca - r.count)
    unfolding left_of
    left_2_clearing q kq = rw (test_at q 0, test_at q 1, test_at q 2, (is-of w v n clearing kq).off)

    pub left_3 : r.phase ≡ 3 → left_of G w n r v ca ≡ 1 + (burst G - r.count)
    unfolding left_of
    left_3 q = rw (test_at q 0, test_at q 1, test_at q 2, test_at q 3)

    pub left_4 : r.phase ≡ 4 → left_of G w n r v ca ≡ uncached_charge w - r.count
    unfolding left_of
    left_4 q = rw (test_at q 0, test_at q 1, test_at q 2, test_at q 3, test_at q 4)

    pub left_5 : r.phase ≡ 5 → left_of G w n r v ca ≡ 1
    unfolding left_of
    left_5 q = rw (test_at q 0, test_at q 1, test_at q 2, test_at q 3, test_at q 4)

    -- the last clock
    pub last_0 : r.phase ≡ 0 → is_last G w n r v ca ≡ eqb (charge_here G w n v ca) 1
    unfolding is_last
    last_0 q = rw (test_at q 0)

    pub last_1 : r.phase ≡ 1 → kind_of w v n ≡ longer → is_last G w n r v ca ≡ eqb (r.count + 1) 33
    unfolding is_last
    last_1 q kq = rw (test_at q 0, test_at q 1, (is-of w v n longer kq).cost)

    pub last_2 : r.phase ≡ 2 → is_last G w n r v ca ≡ false
    unfolding is_last
    last_2 q = rw (test_at q 0, test_at q 1, test_at q 4, test_at q 5)

    pub last_3 : r.phase ≡ 3 → is_last G w n r v ca ≡ false
    unfolding is_last
    last_3 q = rw (test_at q 0, test_at q 1, test_at q 4, test_at q 5)

    pub last_4 : r.phase ≡ 4 → is_last G w n r v ca ≡ eqb (r.count + 1) (uncached_charge w)
    unfolding is_last
    last_4 q = rw (test_at q 0, test_at q 1, test_at q 4)

    pub last_5 : r.phase ≡ 5 → is_last G w n r v ca ≡ true
    unfolding is_last
    last_5 q = rw (test_at q 0, test_at q 1, test_at q 4, test_at q 5)

    -- a clock is the word's last iff one clock is left
    pub last-is : Phase G w n (kind_of w v n) r v ca → is_last G w n r v ca ≡ eqb (left_of G w n r v ca) 1
    last-is (ready ph ct) = rw (last_0 ph, left_0 ph)
    last-is (arithmetic kq ph one top) = rw (last_1 ph kq, left_1 ph kq)
        (same_test (r.count + 1) 33 (33 - r.count) 1 (λ z. omega arith) (λ z. omega arith))
    last-is (write_back kq ph hc hold d) =
        rw (last_2 ph, left_2_cached ph kq, ne_eqb (1 + (burst G + burst G - r.count)) 1 (omega arith))
    last-is (clearing_off kq ph hc some) = let most = times-pos (burst G) (count_dirty G ca) some in
        rw (last_2 ph, left_2_clearing ph kq, ne_eqb (1 + (burst G * count_dirty G ca - r.count)) 1 (omega arith))
    last-is (refill kq ph hc empty) = rw (last_3 ph, left_3 ph, ne_eqb (1 + (burst G - r.count)) 1 (omega arith))
    last-is (waiting kq ph one top) = rw (last_4 ph, left_4 ph)
        (same_test (r.count + 1) (uncached_charge w) (uncached_charge w - r.count) 1 (λ z. omega arith) (λ z. omega arith))
    last-is (due ph ct dk) = rw (last_5 ph, left_5 ph)

  -- any other clock
  module _ (c : Scalars) (s : List ℕ) where
    pub advance_0 : c.running.phase ≡ 0 → advance G w n c v ca s ≡ first_clock G w n c v ca s
    unfolding advance
    advance_0 q = rw (test_at q 0)

    pub advance_1 : c.running.phase ≡ 1 → advance G w n c v ca s ≡ moved c (stepping w v (c.running.count + 1)) ca s 0 0
    unfolding advance
    advance_1 q = rw (test_at q 0, test_at q 1)

    pub advance_2_cached : c.running.phase ≡ 2 → kind_of w v n ≡ cached
        → advance G w n c v ca s ≡ writing G false (target_line G w v n) c.running.count c ca s
    unfolding advance write_line
    advance_2_cached q kq = rw (test_at q 0, test_at q 1, test_at q 2, (is-of w v n cached kq).off)

    pub advance_2_clearing : c.running.phase ≡ 2 → kind_of w v n ≡ clearing
        → advance G w n c v ca s ≡ writing G true (first_dirty G ca) c.running.count c ca s
    unfolding advance write_line
    advance_2_clearing q kq = rw (test_at q 0, test_at q 1, test_at q 2, (is-of w v n clearing kq).off)

    pub advance_3 : c.running.phase ≡ 3
        → advance G w n c v ca s ≡ filling G (target_block G w v n) (target_line G w v n) c.running.count c ca s
    unfolding advance
    advance_3 q = rw (test_at q 0, test_at q 1, test_at q 2, test_at q 3)

    pub advance_4 : c.running.phase ≡ 4 → advance G w n c v ca s ≡ moved c (in_phase 4 (c.running.count + 1)) ca s 0 0
    unfolding advance
    advance_4 q = rw (test_at q 0, test_at q 1, test_at q 2, test_at q 3)
