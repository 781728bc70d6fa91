-- The last clock: store, cache and loaded word, by the operation and the place of the access.
-- Idea: once the operation is known, every test of `cache_after` and `store_after` computes; only LD depends on the loaded word.
use Prim.Native.Nat.{ℕ, ◌/◌, ◌%◌, ◌<◌}
use mathlib.Core.Path.{◌≡◌, refl, sym, ap}
use mathlib.Core.Logic.{◌≢◌}
use mathlib.Core.Bool.{Bool, true, false, cond, and-false}
use mathlib.Core.List.{List}
use lib.ListN.{set}
use lib.Dec.{eqb}
use borrow.Author.Tests.{ne_eqb}
use Rattle.trm_laws.proofs.Tests.{bool_clash}
use Rattle.trm_word.specs.Fields.{operation}
use Rattle.trm_word.specs.Address.{store_length_ok}
use Rattle.trm_word.specs.declared.inner.address.Place.TheVariants.{Device, Memory}
use Rattle.trm_reference.specs.Geometry.{paper_geometry, block_of, line_of}
use Rattle.trm_reference.specs.Visible.{Visible, cache_on}
use Rattle.trm_reference.specs.Access.{is_load, is_store, is_access, is_memory, memory_index, place_of_word, to_memory, target}
use Rattle.trm_reference.specs.Access.{target_block}
use Rattle.trm_reference.specs.Access.{target_line, stored, loaded, Answer, answer_of}
use Rattle.trm_reference.specs.Execute.{execute}
use Rattle.trm_reference.specs.Charge.{through_cache, without_cache, turns_cache_off}
use Rattle.trm_cache.specs.Cache.{view, stored_to, all_emptied}
use Rattle.trm_cache.specs.declared.record.Cache.{Cache}
use Rattle.trm_core.specs.declared.record.Scalars.{Scalars}
use Rattle.trm_core.specs.Record.{gathered, whole, ended}
use Rattle.trm_core.specs.Clock.{carried, cache_after, store_after, finish}
use Rattle.trm_core.proofs.Laws.Fit.{fit, target_in}
use Rattle.trm_core.proofs.Laws.Deaf.{answer-done}
use Rattle.trm_clock_laws.specs.declared.inner.outcome.Clocked.{Clocked}
use Rattle.trm_clock_laws.specs.Made.{made}
use Rattle.trm_clock_laws.proofs.Laws.Facts.{paper_ok}
use Rattle.trm_clock_laws.proofs.Laws.Kinds.{target_at}

same : {A : Type 0} (t : Bool) (x : A) → cond t x x ≡ x
same true x = refl
same false x = refl

-- the index that an instruction accesses is inside the store
pub place_in : (w n : ℕ) (v : Visible) (a : ℕ) → store_length_ok n ≡ true → place_of_word w v n ≡ Memory a → a < n
place_in w n v a f p = rw (sym (target_at w n v a p)) (target_in w v n (fit paper_geometry n paper_ok f).npos)

module _ (w n : ℕ) (v : Visible) (ca : Cache) where
  pub control-cache : operation w ≡ 11 → cache_after paper_geometry w n v ca ≡ cond (turns_cache_off w v) (all_emptied paper_geometry ca) ca
  unfolding cache_after through_cache to_memory is_access is_load is_store
  control-cache o = rw o

  pub load-cache : operation w ≡ 12 → cache_after paper_geometry w n v ca ≡ ca
  unfolding cache_after is_store turns_cache_off
  load-cache o = rw o (same (through_cache w v n) ca)

  pub device_cache : operation w ≡ 13 → (d : ℕ) → place_of_word w v n ≡ Device d → cache_after paper_geometry w n v ca ≡ ca
  unfolding cache_after through_cache to_memory is_memory turns_cache_off
  device_cache o d p = rw (p, o, and-false (is_access w))

  pub cached-cache : operation w ≡ 13 → (a : ℕ) → place_of_word w v n ≡ Memory a → cache_on v ≡ true
      → cache_after paper_geometry w n v ca ≡ stored_to paper_geometry ca (a / 8 % 16) (a % 8) (stored w v)
  unfolding cache_after through_cache to_memory is_access is_load is_store is_memory target_line target_block line_of block_of target
      memory_index
  cached-cache o a p on = rw (p, o, on)

  pub uncached_cache : operation w ≡ 13 → cache_on v ≡ false → cache_after paper_geometry w n v ca ≡ ca
  unfolding cache_after through_cache turns_cache_off
  uncached_cache o off = rw (off, o, and-false (to_memory w v n))

  pub other-cache : operation w ≢ 11 → operation w ≢ 12 → operation w ≢ 13 → cache_after paper_geometry w n v ca ≡ ca
  unfolding cache_after through_cache to_memory is_access is_load is_store turns_cache_off
  other-cache n11 n12 n13 = rw (ne_eqb (operation w) 11 n11, ne_eqb (operation w) 12 n12, ne_eqb (operation w) 13 n13)

module _ (w n : ℕ) (v : Visible) (s : List ℕ) where
  pub control-store : operation w ≡ 11 → store_after w n v s ≡ s
  unfolding store_after without_cache to_memory is_access is_load is_store
  control-store o = rw o

  pub load_store : operation w ≡ 12 → store_after w n v s ≡ s
  unfolding store_after is_store
  load_store o = rw (o, and-false (without_cache w v n))

  pub device_store : operation w ≡ 13 → (d : ℕ) → place_of_word w v n ≡ Device d → store_after w n v s ≡ s
  unfolding store_after without_cache to_memory is_memory
  device_store o d p = rw (p, and-false (is_access w))

  pub cached-store : operation w ≡ 13 → cache_on v ≡ true → store_after w n v s ≡ s
  unfolding store_after without_cache
  cached-store o on = rw (on, and-false (to_memory w v n))

  pub uncached_store : operation w ≡ 13 → (a : ℕ) → place_of_word w v n ≡ Memory a → cache_on v ≡ false
      → store_after w n v s ≡ set s a (stored w v)
  unfolding store_after without_cache to_memory is_access is_load is_store is_memory target memory_index
  uncached_store o a p off = rw (p, o, off)

  pub other-store : operation w ≢ 12 → operation w ≢ 13 → store_after w n v s ≡ s
  unfolding store_after without_cache to_memory is_access is_load is_store
  other-store n12 n13 = rw (ne_eqb (operation w) 12 n12, ne_eqb (operation w) 13 n13)

-- only LD depends on the loaded word
pub only-load : (w k : ℕ) {X : Type 0} → operation w ≡ k → eqb k 12 ≡ false → is_load w ≡ true → X
unfolding is_load
only-load w k o z t = bool_clash (eqb (operation w) 12) t (rw o z)

pub not-load : (w : ℕ) {X : Type 0} → operation w ≢ 12 → is_load w ≡ true → X
unfolding is_load
not-load w n t = bool_clash (eqb (operation w) 12) t (ne_eqb (operation w) 12 n)

pub execute-load : (w : ℕ) (v : Visible) (x y : ℕ) → (is_load w ≡ true → x ≡ y) → execute w v x ≡ execute w v y
unfolding execute is_load
execute-load w v x y h = go (eqb (operation w) 12) refl
  where
    go : (t : Bool) → eqb (operation w) 12 ≡ t → execute w v x ≡ execute w v y
    go true e = ap (execute w v) (h e)
    go false e = rw e

-- a clock's outcome from its parts

same_answer : (a : Answer) → a.done ≡ 1 → ◌≡◌ {A = Answer} (record { byte = a.byte; word = a.word; done = 1 }) a
same_answer a e = ap (λ d. record { byte = a.byte; word = a.word; done = d }) (sym e)

pub last_made : (w n : ℕ) (c : Scalars) (rs : List ℕ) (ca : Cache) (s : List ℕ) (i x : ℕ) (r : Clocked) (rs' : List ℕ) (ca' : Cache)
    (s' : List ℕ) → r.scalars ≡ ended c (execute w (gathered c rs) x) → rs' ≡ (execute w (gathered c rs) x).regs
    → ca' ≡ cache_after paper_geometry w n (gathered c rs) ca → s' ≡ store_after w n (gathered c rs) s
    → (is_load w ≡ true → x ≡ loaded w (gathered c rs) n i (view paper_geometry ca s (target w (gathered c rs) n)))
    → r.byte ≡ (answer_of w (gathered c rs) n i).byte → r.word ≡ (answer_of w (gathered c rs) n i).word → r.finished ≡ 1
    → made r rs' ca' s' ≡ finish paper_geometry w n (whole c rs ca) s i
unfolding finish
last_made w n c rs ca s i x r rs' ca' s' q1 q2 q3 q4 l b o d =
    rw (q1, q2, q3, q4, b, o, d, execute-load w (gathered c rs) x _ l)
    (ap (λ a. carried c (execute w (gathered c rs) (loaded w (gathered c rs) n i (view paper_geometry ca s (target w (gathered c rs) n))))
    (cache_after paper_geometry w n (gathered c rs) ca) (store_after w n (gathered c rs) s) a)
    (same_answer (answer_of w (gathered c rs) n i) (answer-done w (gathered c rs) n i)))
