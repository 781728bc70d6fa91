-- What phase 5 implies for the word at PC: its operation is above 10, 14 is taken, 13 goes through the cache, 11 jumps or turns it off.
-- Idea: the word's kind decides each test of `due_ok`; a kind that never has phase 5 contradicts the record rule.
use Prim.Native.Nat.{ℕ, ◌≤◌}
use mathlib.Core.Path.{◌≡◌, refl, sym, ◌∙◌, subst}
use mathlib.Core.Logic.{◌≢◌}
use mathlib.Core.Bool.{Bool, true, false, ◌&&◌, ◌||◌}
use mathlib.Core.List.{List}
use lib.Dec.{eqb}
use borrow.Author.Tests.{eqb-true}
use native.Mathlib.Omega.{arith}
use Rattle.trm_laws.proofs.Tests.{clash, bool_clash, both, all4}
use Rattle.trm_word.specs.Fields.{operation, bit}
use Rattle.trm_reference.specs.Geometry.{paper_geometry}
use Rattle.trm_reference.specs.Visible.{Visible, cache_on}
use Rattle.trm_reference.specs.Access.{is_load, is_store, is_access, to_memory, target_line}
use Rattle.trm_reference.specs.Execute.{branch_taken}
use Rattle.trm_reference.specs.Charge.{is_jump, takes_branch, turns_cache_off}
use Rattle.trm_cache.specs.Cache.{line_at, holds}
use Rattle.trm_cache.specs.declared.record.Cache.{Cache}
use Rattle.trm_core.specs.declared.record.Scalars.{Scalars}
use Rattle.trm_core.specs.Record.{gathered}
use Rattle.trm_core.specs.Clock.{line_for, hits}
use Rattle.trm_core.specs.Rule.{due_ok}
use Rattle.trm_core.proofs.Laws.Fit.{line_in_lem}
use Rattle.trm_core.proofs.Laws.Kind.{Kind, quick, second, longer, device, cached, uncached, clearing, kind_of, is-of}
use Rattle.trm_core.proofs.Laws.Phases.{due-is}
use Rattle.trm_core.proofs.Laws.Rule.{Phase, ready, arithmetic, write_back, clearing_off, refill, waiting, due}
use Rattle.trm_clock_laws.proofs.Laws.Facts.{Facts}
use Rattle.trm_clock_laws.specs.Made.{Late}

module _ (w n : ℕ) (c : Scalars) (rs : List ℕ) (ca : Cache) where
  abbrev v : Visible
  v = gathered c rs

  -- 14 taken, 11 with bit 10 set, 15
  twice-late : takes_branch w v || is_jump w || eqb (operation w) 15 ≡ true → Late w n c rs
  unfolding takes_branch is_jump
  twice-late t = record {
    many = many t;
    taken = λ o. taken o t;
    memory = λ o. clash (store o t);
    cached = λ o. clash (store o t);
    clears = λ o b. absurd (b (jumps o t));
  }
    where
      many : (eqb (operation w) 14 && branch_taken w v) || (eqb (operation w) 11 && eqb (bit 10 w) 1) || eqb (operation w) 15 ≡ true
          → 11 ≤ operation w
      many t = go (eqb (operation w) 14) refl (eqb (operation w) 11) refl (eqb (operation w) 15) refl t
        where
          go : (x : Bool) → eqb (operation w) 14 ≡ x → (y : Bool) → eqb (operation w) 11 ≡ y → (z : Bool) → eqb (operation w) 15 ≡ z
              → (x && branch_taken w v) || (y && eqb (bit 10 w) 1) || z ≡ true → 11 ≤ operation w
          go true p y q z r e = omega (arith, eqb-true (operation w) 14 p)
          go false p true q z r e = omega (arith, eqb-true (operation w) 11 q)
          go false p false q true r e = omega (arith, eqb-true (operation w) 15 r)
          go false p false q false r e = clash e

      taken : operation w ≡ 14
          → (eqb (operation w) 14 && branch_taken w v) || (eqb (operation w) 11 && eqb (bit 10 w) 1) || eqb (operation w) 15 ≡ true
          → branch_taken w v ≡ true
      taken o t = go (branch_taken w v) (subst (λ k. (eqb k 14 && branch_taken w v) || (eqb k 11 && eqb (bit 10 w) 1) || eqb k 15 ≡ true) o
          t)
        where
          go : (x : Bool) → (true && x) || (false && eqb (bit 10 w) 1) || false ≡ true → x ≡ true
          go true e = refl
          go false e = clash e

      store : operation w ≡ 13
          → (eqb (operation w) 14 && branch_taken w v) || (eqb (operation w) 11 && eqb (bit 10 w) 1) || eqb (operation w) 15 ≡ true
          → false ≡ true
      store o t = subst (λ k. (eqb k 14 && branch_taken w v) || (eqb k 11 && eqb (bit 10 w) 1) || eqb k 15 ≡ true) o t

      jumps : operation w ≡ 11
          → (eqb (operation w) 14 && branch_taken w v) || (eqb (operation w) 11 && eqb (bit 10 w) 1) || eqb (operation w) 15 ≡ true
          → bit 10 w ≡ 1
      jumps o t = go (eqb (bit 10 w) 1) refl
          (subst (λ k. (eqb k 14 && branch_taken w v) || (eqb k 11 && eqb (bit 10 w) 1) || eqb k 15 ≡ true) o t)
        where
          go : (x : Bool) → eqb (bit 10 w) 1 ≡ x → (true && x) || false ≡ true → bit 10 w ≡ 1
          go true q e = eqb-true (bit 10 w) 1 q
          go false q e = clash e

  -- LD and ST to memory with the cache on, and LD from a device
  access_late : to_memory w v n ≡ true → cache_on v ≡ true → Late w n c rs
  unfolding to_memory is_access is_load is_store
  access_late t on = record {
    many = omega (arith, ops.0);
    taken = λ o. absurd (ops.1 o);
    memory = λ _. t;
    cached = λ _. on;
    clears = λ o _. absurd (omega (arith, ops.0, o));
  }
    where
      ops : (12 ≤ operation w) × (operation w ≢ 14)
      ops = both (eqb (operation w) 12 || eqb (operation w) 13) _ (λ a _. go (eqb (operation w) 12) refl (eqb (operation w) 13) refl a) t
        where
          go : (x : Bool) → eqb (operation w) 12 ≡ x → (y : Bool) → eqb (operation w) 13 ≡ y → x || y ≡ true
              → (12 ≤ operation w) × (operation w ≢ 14)
          go true p y q e = let o = eqb-true (operation w) 12 p in (omega (arith, o), λ z. omega (arith, o, z))
          go false p true q e = let o = eqb-true (operation w) 13 q in (omega (arith, o), λ z. omega (arith, o, z))
          go false p false q e = clash e

  load-late : is_load w ≡ true → Late w n c rs
  unfolding is_load
  load-late t = let o = eqb-true (operation w) 12 t in
      record {
        many = omega (arith, o);
        taken = λ z. absurd (omega (arith, o, z));
        memory = λ z. absurd (omega (arith, o, z));
        cached = λ z. absurd (omega (arith, o, z));
        clears = λ z _. absurd (omega (arith, o, z));
      }

  off-late : turns_cache_off w v ≡ true → Late w n c rs
  unfolding turns_cache_off
  off-late t = all4 (eqb (operation w) 11) _ _ _ (λ a _ _ _. let o = eqb-true (operation w) 11 a in
      record {
        many = omega (arith, o);
        taken = λ z. absurd (omega (arith, o, z));
        memory = λ z. absurd (omega (arith, o, z));
        cached = λ z. absurd (omega (arith, o, z));
        clears = λ _ _. t;
      }) t

  -- a line that holds the block is full, and no line is full with the cache off
  found-on : Facts w n c rs ca → hits paper_geometry w n v ca ≡ true → cache_on v ≡ true
  unfolding hits line_for holds
  found-on f h = both (line_at paper_geometry ca (target_line paper_geometry w v n)).full _ (λ full _.
      (f.lines (target_line paper_geometry w v n) (line_in_lem paper_geometry w v n f.fit.lpos)).shown full) h

  late_if : Facts w n c rs ca → (k : Kind) → kind_of w v n ≡ k → due_ok paper_geometry w n v ca ≡ true → Late w n c rs
  late_if f quick kq d = none (is_load w) (sym (due-is paper_geometry w n v ca quick kq) ∙ d)
    where
      none : (t : Bool) → (t && false) || false ≡ true → Late w n c rs
      none true z = clash z
      none false z = clash z
  late_if f second kq d = twice-late (is-of w v n second kq).twice
  late_if f longer kq d = none (is_load w) (sym (due-is paper_geometry w n v ca longer kq) ∙ d)
    where
      none : (t : Bool) → (t && false) || false ≡ true → Late w n c rs
      none true z = clash z
      none false z = clash z
  late_if f device kq d = load (is_load w) refl (sym (due-is paper_geometry w n v ca device kq) ∙ d)
    where
      load : (t : Bool) → is_load w ≡ t → (t && true) || false ≡ true → Late w n c rs
      load true q z = load-late q
      load false q z = clash z
  late_if f cached kq d = let is = is-of w v n cached kq in access_late is.memory is.on
  late_if f uncached kq d =
      let is = is-of w v n uncached kq in
      bool_clash (cache_on v)
      (found (is_load w) (hits paper_geometry w n v ca) refl (sym (due-is paper_geometry w n v ca uncached kq) ∙ d)) is.on
    where
      found : (t h : Bool) → hits paper_geometry w n v ca ≡ h → (t && false) || h ≡ true → cache_on v ≡ true
      found true true q e = found-on f q
      found true false q e = clash e
      found false true q e = found-on f q
      found false false q e = clash e
  late_if f clearing kq d = off-late (is-of w v n clearing kq).off

  pub late : Facts w n c rs ca → c.running.phase ≢ 0 → c.running.phase ≢ 1 → c.running.phase ≢ 2 → c.running.phase ≢ 3
      → c.running.phase ≢ 4 → Late w n c rs
  late f p0 p1 p2 p3 p4 = go f.phase
    where
      go : Phase paper_geometry w n (kind_of w v n) c.running v ca → Late w n c rs
      go (ready p e) = absurd (p0 p)
      go (arithmetic k p a b) = absurd (p1 p)
      go (write_back k p h x d) = absurd (p2 p)
      go (clearing_off k p h s) = absurd (p2 p)
      go (refill k p h e) = absurd (p3 p)
      go (waiting k p a b) = absurd (p4 p)
      go (due p e d) = late_if f (kind_of w v n) refl d
