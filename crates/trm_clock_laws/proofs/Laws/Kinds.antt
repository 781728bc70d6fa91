-- A word's kind from what the code tests: the operation, bit 10, the place of the access, the cache bit.
-- Idea: once the operation is known, every test of `kind_of` computes.
use Prim.Native.Nat.{ℕ, ◌/◌, ◌%◌, ◌≤◌, ◌<◌}
use mathlib.Core.Path.{◌≡◌, refl, sym, ap, ◌∙◌, subst}
use mathlib.Core.Logic.{◌≢◌}
use mathlib.Core.Bool.{Bool, true, false, ◌||◌}
use lib.Dec.{eqb}
use borrow.Author.Tests.{eq-eqb, ne_eqb, eqb-true}
use native.Mathlib.Decide.{ℕ_discrete}
use native.Mathlib.Omega.{arith}
use Rattle.trm_laws.proofs.Tests.{clash}
use Rattle.trm_word.specs.Fields.{operation, bit}
use Rattle.trm_word.specs.Charge.{charge_of}
use Rattle.trm_word.specs.declared.inner.address.Place.TheVariants.{Device, Memory}
use Rattle.trm_reference.specs.Geometry.{paper_geometry, block_of, line_of}
use Rattle.trm_reference.specs.Visible.{Visible, cache_on}
use Rattle.trm_reference.specs.Access.{is_load, is_store, is_access, is_memory, memory_index, place_of_word, target, target_block}
use Rattle.trm_reference.specs.Access.{target_line}
use Rattle.trm_reference.specs.Execute.{branch_taken}
use Rattle.trm_reference.specs.Charge.{is_stepped, is_jump, takes_branch, turns_cache_off}
use Rattle.trm_cache.specs.Cache.{line_at, holds}
use Rattle.trm_cache.specs.declared.record.Cache.{Cache}
use Rattle.trm_core.specs.Clock.{line_for, hits}
use Rattle.trm_core.specs.Rule.{all_below}
use Rattle.trm_core.proofs.Laws.Fit.{below_all}
use Rattle.trm_core.proofs.Laws.Kind.{kind_of, quick, second, longer, device, cached, uncached, clearing}

-- LD and ST
pub load_access : (w : ℕ) → operation w ≡ 12 → is_access w ≡ true
unfolding is_access is_load
load_access w o = rw o

pub store_access : (w : ℕ) → operation w ≡ 13 → is_access w ≡ true
unfolding is_access is_load is_store
store_access w o = rw o

pub unstepped : (w : ℕ) → is_access w ≡ true → is_stepped w ≡ false
unfolding is_access is_load is_store is_stepped
unstepped w t = go (eqb (operation w) 12) refl (eqb (operation w) 13) refl t
  where
    go : (a : Bool) → eqb (operation w) 12 ≡ a → (b : Bool) → eqb (operation w) 13 ≡ b → a || b ≡ true
        → eqb (operation w) 8 || eqb (operation w) 9 ≡ false
    go true p b q z = rw (eqb-true (operation w) 12 p)
    go false p true q z = rw (eqb-true (operation w) 13 q)
    go false p false q z = clash z

-- of operations 8 to 10 all but 10 have steps
pub stepped-of : (w : ℕ) → 8 ≤ operation w → operation w < 11 → operation w ≢ 10 → is_stepped w ≡ true
unfolding is_stepped
stepped-of w l h t = go (ℕ_discrete (operation w) 8)
  where
    go : Dec (operation w ≡ 8) → eqb (operation w) 8 || eqb (operation w) 9 ≡ true
    go (yes e) = rw e
    go (no z) = rw (ne_eqb (operation w) 8 z) (eq-eqb (operation w) 9 (omega (arith, l, h, t, z)))

-- of operations 0 to 10 only 8 and 9 are charged more than 1 clock
pub charged-of : (w : ℕ) → operation w < 11 → charge_of (operation w) ≢ 1 → is_stepped w ≡ true
unfolding is_stepped all_below
charged-of w h q = go (eqb (operation w) 8 || eqb (operation w) 9) refl
  where
    all : (o : ℕ) → o < 11 → (eqb o 8 || eqb o 9) || eqb (charge_of o) 1 ≡ true
    all o l = below_all 11 (λ k. (eqb k 8 || eqb k 9) || eqb (charge_of k) 1) refl o l

    go : (t : Bool) → eqb (operation w) 8 || eqb (operation w) 9 ≡ t → t ≡ true
    go true e = refl
    go false e = absurd (q (eqb-true (charge_of (operation w)) 1 (sym (ap (λ (t : Bool). t || eqb (charge_of (operation w)) 1) e)
        ∙ all (operation w) h)))

pub unstepped_of : (w : ℕ) → operation w ≢ 8 → operation w ≢ 9 → is_stepped w ≡ false
unfolding is_stepped
unstepped_of w a b = rw (ne_eqb (operation w) 8 a) (ne_eqb (operation w) 9 b)

pub cheap_of : (w : ℕ) → charge_of (operation w) ≡ 1 → is_stepped w ≡ false
cheap_of w q = unstepped_of w
    (λ e. absurd (let z : charge_of 8 ≡ 1 = subst (λ k. charge_of k ≡ 1) e q in omega (arith, z)))
    (λ e. absurd (let z : charge_of 9 ≡ 1 = subst (λ k. charge_of k ≡ 1) e q in omega (arith, z)))

module _ (w n : ℕ) (v : Visible) where
  pub kind-stepped : is_stepped w ≡ true → kind_of w v n ≡ longer
  unfolding kind_of
  kind-stepped t = rw t

  pub kind-jump : operation w ≡ 11 → bit 10 w ≡ 1 → kind_of w v n ≡ second
  unfolding kind_of is_stepped is_access is_load is_store turns_cache_off takes_branch is_jump
  kind-jump o b = rw (o, b)

  pub kind_clearing : operation w ≡ 11 → turns_cache_off w v ≡ true → kind_of w v n ≡ clearing
  unfolding kind_of is_stepped is_access is_load is_store
  kind_clearing o t = rw (o, t)

  pub kind-status : operation w ≡ 11 → bit 10 w ≢ 1 → turns_cache_off w v ≡ false → kind_of w v n ≡ quick
  unfolding kind_of is_stepped is_access is_load is_store takes_branch is_jump
  kind-status o b t = rw (t, o, ne_eqb (bit 10 w) 1 b)

  pub kind-taken : operation w ≡ 14 → branch_taken w v ≡ true → kind_of w v n ≡ second
  unfolding kind_of is_stepped is_access is_load is_store turns_cache_off takes_branch
  kind-taken o t = rw (o, t)

  pub kind-not_taken : operation w ≡ 14 → branch_taken w v ≡ false → kind_of w v n ≡ quick
  unfolding kind_of is_stepped is_access is_load is_store turns_cache_off takes_branch is_jump
  kind-not_taken o t = rw (o, t)

  pub kind-call : operation w ≡ 15 → kind_of w v n ≡ second
  unfolding kind_of is_stepped is_access is_load is_store turns_cache_off takes_branch is_jump
  kind-call o = rw o

  pub kind-short : operation w < 11 → is_stepped w ≡ false → kind_of w v n ≡ quick
  unfolding kind_of is_access is_load is_store turns_cache_off takes_branch is_jump
  kind-short h t = rw (
    t,
    ne_eqb (operation w) 11 (λ z. omega (arith, h, z)),
    ne_eqb (operation w) 12 (λ z. omega (arith, h, z)),
    ne_eqb (operation w) 13 (λ z. omega (arith, h, z)),
    ne_eqb (operation w) 14 (λ z. omega (arith, h, z)),
    ne_eqb (operation w) 15 (λ z. omega (arith, h, z)),
  )

  module _ (t : is_access w ≡ true) where
    pub kind_device : (d : ℕ) → place_of_word w v n ≡ Device d → kind_of w v n ≡ device
    unfolding kind_of is_memory
    kind_device d p = rw (unstepped w t, t, p)

    pub kind-cached : (a : ℕ) → place_of_word w v n ≡ Memory a → cache_on v ≡ true → kind_of w v n ≡ cached
    unfolding kind_of is_memory
    kind-cached a p on = rw (unstepped w t, t, p, on)

    pub kind_uncached : (a : ℕ) → place_of_word w v n ≡ Memory a → cache_on v ≡ false → kind_of w v n ≡ uncached
    unfolding kind_of is_memory
    kind_uncached a p off = rw (unstepped w t, t, p, off)

  -- the block and the cache line of the access
  pub line-at : target_line paper_geometry w v n ≡ target w v n / 8 % 16
  unfolding target_line target_block line_of block_of
  line-at = refl

  pub block_at : target_block paper_geometry w v n ≡ target w v n / 8
  unfolding target_block block_of
  block_at = refl

  pub target_at : (a : ℕ) → place_of_word w v n ≡ Memory a → target w v n ≡ a
  unfolding target memory_index
  target_at a p = rw p

  pub hits_at : (ca : Cache) (a : ℕ) → place_of_word w v n ≡ Memory a
      → hits paper_geometry w n v ca ≡ holds (line_at paper_geometry ca (a / 8 % 16)) (a / 8)
  unfolding hits line_for target_line target_block line_of block_of target memory_index
  hits_at ca a p = rw p
