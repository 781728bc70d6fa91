-- The last clock by operation: one that accesses nothing, 11, LD, ST.
-- Idea: `last_made`, with the cache, store, loaded word and answer that follow from the operation and the place of the access.
use Prim.Native.Nat.{ℕ, ◌+◌, ◌*◌, ◌/◌, ◌^◌, ◌≤◌, ◌<◌}
use mathlib.Core.Path.{◌≡◌, refl, sym, ap, ◌∙◌}
use mathlib.Core.Logic.{◌≢◌}
use mathlib.Core.Bool.{Bool, true, false, cond, ◌&&◌, ◌||◌, and-false}
use mathlib.Core.List.{List}
use lib.Dec.{eqb, leb}
use lib.ListN.{set}
use borrow.Author.Tests.{ne_eqb, eqb-true, leb-true, leb-false}
use native.Mathlib.Nat.{mod-lt}
use native.Mathlib.Omega.{arith}
use Rattle.trm_laws.proofs.Match.{NoneFrom, past}
use Rattle.trm_laws.proofs.Tests.{bool_clash, clash, both}
use Rattle.trm_word.specs.Fields.{operation, bit}
use Rattle.trm_word.specs.declared.inner.address.Place.{Place}
use Rattle.trm_word.specs.declared.inner.address.Place.TheVariants.{Device, Memory}
use Rattle.trm_reference.specs.Geometry.{paper_geometry, burst}
use Rattle.trm_reference.specs.Visible.{Visible}
use Rattle.trm_reference.specs.Access.{is_load, is_store, is_access, is_memory, place_of_word}
use Rattle.trm_reference.specs.Access.{device_number, to_memory, to_device, target, memory_index}
use Rattle.trm_reference.specs.Access.{stored, loaded, silent, device_answer, answer_of}
use Rattle.trm_reference.specs.Execute.{execute}
use Rattle.trm_reference.specs.Charge.{through_cache, without_cache, turns_cache_off}
use Rattle.trm_cache.specs.Cache.{view, all_emptied, write_word}
use Rattle.trm_cache.specs.declared.record.Cache.{Cache}
use Rattle.trm_core.specs.declared.record.Scalars.{Scalars}
use Rattle.trm_core.specs.Record.{gathered, whole, ended, in_phase}
use Rattle.trm_core.specs.Clock.{moved, cache_after, store_after, finish, writing}
use Rattle.trm_clock_laws.specs.declared.inner.outcome.Clocked.{Clocked}
use Rattle.trm_clock_laws.specs.Made.{made}
use Rattle.trm_clock_laws.proofs.Laws.Last.{control-cache, control-store, load-cache, load_store}
use Rattle.trm_clock_laws.proofs.Laws.Last.{device_cache, device_store, other-cache}
use Rattle.trm_clock_laws.proofs.Laws.Last.{other-store, only-load, not-load, last_made}

-- the result of a clock that ends an instruction
abbrev pub shows : Scalars → ℕ → ℕ → Clocked
shows after byte word = record { scalars = after; byte = byte; word = word; finished = 1 }

module _ (w n i : ℕ) (v : Visible) where
  pub answer-none : operation w ≢ 12 → operation w ≢ 13 → answer_of w v n i ≡ silent 1
  unfolding answer_of to_device is_access is_load is_store
  answer-none a b = rw (ne_eqb (operation w) 12 a, ne_eqb (operation w) 13 b)

  pub answer-memory : (a : ℕ) → place_of_word w v n ≡ Memory a → answer_of w v n i ≡ silent 1
  unfolding answer_of to_device is_memory device_number
  answer-memory a p = rw p (go (is_access w))
    where
      go : (t : Bool) → cond (t && false) (device_answer w v i 0) (silent 1) ≡ silent 1
      go true = refl
      go false = refl

  pub answer-inside : to_memory w v n ≡ true → answer_of w v n i ≡ silent 1
  unfolding to_memory is_memory
  answer-inside t = go (place_of_word w v n) refl t
    where
      go : (p : Place) → place_of_word w v n ≡ p → is_access w && is_memory p ≡ true → answer_of w v n i ≡ silent 1
      go (Device d) q z = none (is_access w) z
        where
          none : (t : Bool) → t && false ≡ true → answer_of w v n i ≡ silent 1
          none true z = clash z
          none false z = clash z
      go (Memory a) q z = answer-memory a q

  pub answer-read : operation w ≡ 12 → (d : ℕ) → place_of_word w v n ≡ Device d
      → answer_of w v n i ≡ record { byte = d * 4 + 1; word = i; done = 1 }
  unfolding answer_of to_device is_access is_load is_store is_memory device_number device_answer
  answer-read o d p = rw (p, o)

  pub answer-write : operation w ≡ 13 → (d : ℕ) → place_of_word w v n ≡ Device d
      → answer_of w v n i ≡ record { byte = d * 4 + 2; word = stored w v; done = 1 }
  unfolding answer_of to_device is_access is_load is_store is_memory device_number device_answer
  answer-write o d p = rw (p, o)

module _ (w n : ℕ) (c : Scalars) (rs : List ℕ) (ca : Cache) (s : List ℕ) (i : ℕ) where
  abbrev seen : Visible
  seen = gathered c rs

  -- an operation other than 11, 12 and 13
  pub other-made : operation w ≢ 11 → operation w ≢ 12 → operation w ≢ 13 → (r : Clocked) (after : Scalars) (rs' : List ℕ)
      → r ≡ shows after 0 0 → after ≡ ended c (execute w seen 0) → rs' ≡ (execute w seen 0).regs
      → made r rs' ca s ≡ finish paper_geometry w n (whole c rs ca) s i
  other-made n11 n12 n13 r after rs' q e f =
      let a = answer-none w n i seen n12 n13 in
      rw (q, e, f) (last_made w n c rs ca s i 0 (shows (ended c (execute w seen 0)) 0 0) (execute w seen 0).regs ca s refl refl
      (sym (other-cache w n seen ca n11 n12 n13)) (sym (other-store w n seen s n12 n13)) (not-load w n12)
      (ap (λ x. x.byte) (sym a)) (ap (λ x. x.word) (sym a)) refl)

  -- 11: the lines are emptied if the cache is turned off
  pub control-made : operation w ≡ 11 → (r : Clocked) (after : Scalars) (rs' : List ℕ) (ca' : Cache)
      → ca' ≡ cond (turns_cache_off w seen) (all_emptied paper_geometry ca) ca
      → r ≡ shows after 0 0 → after ≡ ended c (execute w seen 0) → rs' ≡ (execute w seen 0).regs
      → made r rs' ca' s ≡ finish paper_geometry w n (whole c rs ca) s i
  control-made o r after rs' ca' g q e f =
      let a = answer-none w n i seen (λ z. omega (arith, o, z)) (λ z. omega (arith, o, z)) in
      rw (q, e, f) (last_made w n c rs ca s i 0 (shows (ended c (execute w seen 0)) 0 0) (execute w seen 0).regs ca' s refl refl
      (g ∙ sym (control-cache w n seen ca o)) (sym (control-store w n seen s o)) (only-load w 11 o refl)
      (ap (λ x. x.byte) (sym a)) (ap (λ x. x.word) (sym a)) refl)

  -- LD from memory and from a device
  pub load-made : operation w ≡ 12 → (a x : ℕ) → place_of_word w seen n ≡ Memory a → x ≡ view paper_geometry ca s a
      → (r : Clocked) (after : Scalars) (rs' : List ℕ)
      → r ≡ shows after 0 0 → after ≡ ended c (execute w seen x) → rs' ≡ (execute w seen x).regs
      → made r rs' ca s ≡ finish paper_geometry w n (whole c rs ca) s i
  unfolding loaded is_memory target memory_index
  load-made o a x p z r after rs' q e f =
      let b = answer-memory w n i seen a p in
      rw (q, e, f) (last_made w n c rs ca s i x (shows (ended c (execute w seen x)) 0 0) (execute w seen x).regs ca s refl refl
      (sym (load-cache w n seen ca o)) (sym (load_store w n seen s o)) (λ _. rw p z)
      (ap (λ y. y.byte) (sym b)) (ap (λ y. y.word) (sym b)) refl)

  pub read_made : operation w ≡ 12 → (d : ℕ) → place_of_word w seen n ≡ Device d
      → (r : Clocked) (after : Scalars) (rs' : List ℕ)
      → r ≡ shows after (d * 4 + 1) i → after ≡ ended c (execute w seen i) → rs' ≡ (execute w seen i).regs
      → made r rs' ca s ≡ finish paper_geometry w n (whole c rs ca) s i
  unfolding loaded is_memory
  read_made o d p r after rs' q e f =
      let b = answer-read w n i seen o d p in
      rw (q, e, f) (last_made w n c rs ca s i i (shows (ended c (execute w seen i)) (d * 4 + 1) i) (execute w seen i).regs ca s refl refl
      (sym (load-cache w n seen ca o)) (sym (load_store w n seen s o)) (λ _. rw p)
      (ap (λ y. y.byte) (sym b)) (ap (λ y. y.word) (sym b)) refl)

  -- ST to memory and to a device
  pub store-made : operation w ≡ 13 → to_memory w seen n ≡ true → (r : Clocked) (after : Scalars) (rs' : List ℕ) (ca' : Cache) (s' : List ℕ)
      → ca' ≡ cache_after paper_geometry w n seen ca → s' ≡ store_after w n seen s
      → r ≡ shows after 0 0 → after ≡ ended c (execute w seen 0) → rs' ≡ (execute w seen 0).regs
      → made r rs' ca' s' ≡ finish paper_geometry w n (whole c rs ca) s i
  store-made o t r after rs' ca' s' g h q e f =
      let b = answer-inside w n i seen t in
      rw (q, e, f) (last_made w n c rs ca s i 0 (shows (ended c (execute w seen 0)) 0 0) (execute w seen 0).regs ca' s' refl refl
      g h (only-load w 13 o refl) (ap (λ y. y.byte) (sym b)) (ap (λ y. y.word) (sym b)) refl)

  pub write-made : operation w ≡ 13 → (d : ℕ) → place_of_word w seen n ≡ Device d → (x : ℕ) → x ≡ stored w seen
      → (r : Clocked) (after : Scalars) (rs' : List ℕ)
      → r ≡ shows after (d * 4 + 2) x → after ≡ ended c (execute w seen 0) → rs' ≡ (execute w seen 0).regs
      → made r rs' ca s ≡ finish paper_geometry w n (whole c rs ca) s i
  write-made o d p x z r after rs' q e f =
      let b = answer-write w n i seen o d p in
      rw (q, e, f, z) (last_made w n c rs ca s i 0 (shows (ended c (execute w seen 0)) (d * 4 + 2) (stored w seen)) (execute w seen 0).regs
      ca s refl refl (sym (device_cache w n seen ca o d p)) (sym (device_store w n seen s o d p)) (only-load w 13 o refl)
      (ap (λ y. y.byte) (sym b)) (ap (λ y. y.word) (sym b)) refl)

-- the first clock of a write-back is a wait
pub first_wait_is : (clears : Bool) (l : ℕ) (c : Scalars) (ca : Cache) (s : List ℕ) → c.running.count ≡ 0
    → moved c (in_phase 2 1) ca s 0 0 ≡ writing paper_geometry clears l c.running.count c ca s
unfolding writing write_word burst
first_wait_is clears l c ca s z = rw z

-- an uncached access
module _ (w n : ℕ) (v : Visible) where
  pub memory-at : to_memory w v n ≡ true → place_of_word w v n ≡ Memory (target w v n)
  unfolding to_memory is_memory target memory_index
  memory-at t = go (place_of_word w v n) t
    where
      go : (p : Place) → is_access w && is_memory p ≡ true → p ≡ Memory (memory_index p)
      go (Device d) z = none (is_access w) z
        where
          none : (a : Bool) → a && false ≡ true → Device d ≡ Memory 0
          none true e = clash e
          none false e = clash e
      go (Memory a) z = refl

  pub load_if : to_memory w v n ≡ true → is_store w ≡ false → operation w ≡ 12
  unfolding to_memory is_access is_load
  load_if t z = both (eqb (operation w) 12 || is_store w) (is_memory (place_of_word w v n)) (λ a _. go (eqb (operation w) 12) refl
      (is_store w) z a) t
    where
      go : (a : Bool) → eqb (operation w) 12 ≡ a → (b : Bool) → b ≡ false → a || b ≡ true → operation w ≡ 12
      go true q b e f = eqb-true (operation w) 12 q
      go false q b e f = bool_clash b f e

  pub without-cache : (ca : Cache) → through_cache w v n ≡ false → turns_cache_off w v ≡ false → cache_after paper_geometry w n v ca ≡ ca
  unfolding cache_after
  without-cache ca a b = rw (a, b)

  pub without_cache-store : (s : List ℕ) → without_cache w v n ≡ true → is_store w ≡ true
      → store_after w n v s ≡ set s (target w v n) (stored w v)
  unfolding store_after
  without_cache-store s a b = rw (a, b)

pub store_if : (w : ℕ) → is_store w ≡ true → operation w ≡ 13
unfolding is_store
store_if w t = eqb-true (operation w) 13 t

pub is-store-at : (w : ℕ) → operation w ≡ 13 → is_store w ≡ true
unfolding is_store
is-store-at w o = rw o

pub not-store : (w : ℕ) → operation w ≡ 12 → is_store w ≡ false
unfolding is_store
not-store w o = rw o

pub inside-at : (w n : ℕ) (v : Visible) → is_access w ≡ true → (a : ℕ) → place_of_word w v n ≡ Memory a → to_memory w v n ≡ true
unfolding to_memory is_memory
inside-at w n v t a p = rw (t, p)

-- the first wait of an uncached access
pub wait-is : (c : Scalars) (ca : Cache) (s : List ℕ) → c.running ≡ in_phase 0 0
    → moved c (in_phase 4 1) ca s 0 0 ≡ moved c (in_phase 4 (c.running.count + 1)) ca s 0 0
wait-is c ca s z = ap (λ k. moved c (in_phase 4 (k + 1)) ca s 0 0) (sym (ap (λ r. r.count) z))

-- a jump does not turn the cache off
pub jump-keeps : (w : ℕ) (v : Visible) (ca : Cache) → bit 10 w ≡ 1 → ca ≡ cond (turns_cache_off w v) (all_emptied paper_geometry ca) ca
unfolding turns_cache_off
jump-keeps w v ca b = rw (b, and-false (eqb (operation w) 11))

-- the operation left after 11 to 14
pub call-left : (w : ℕ) → 11 ≤ operation w → NoneFrom 11 4 (operation w) → operation w ≡ 15
call-left w m r =
    let h = mod-lt (w / 2 ^ 14) {m = 2 ^ 4} (omega arith) in let k = past 11 4 (operation w) m r in omega (arith, h, k)

-- the operations left after 11 to 15
pub arithmetic-left : (w : ℕ) → NoneFrom 11 5 (operation w) → operation w < 11
arithmetic-left w r = go (leb 11 (operation w)) refl
  where
    go : (t : Bool) → leb 11 (operation w) ≡ t → operation w < 11
    go true e =
        let h = mod-lt (w / 2 ^ 14) {m = 2 ^ 4} (omega arith) in
        let k = past 11 5 (operation w) (leb-true 11 (operation w) e) r in
        absurd (omega (arith, h, k))
    go false e = leb-false 11 (operation w) e
