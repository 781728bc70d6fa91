-- What the refusal number of a look or a copy implies.
-- Idea: rows 3, 4 and 5 by trm_core's laws; the call's other row by cases of its test.
--   look_legal, copy_fits, look_is   an accepted call        accepted   these, and that a refusal is not 0
--   legal_length   a store of legal length
use Prim.Native.Nat.{ℕ, ◌%◌, ◌<◌}
use mathlib.Core.Path.{◌≡◌, refl, sym}
use mathlib.Core.Bool.{Bool, true, false, cond}
use mathlib.Core.List.{List}
use lib.ListN.{length}
use lib.Dec.{eqb, ltb}
use borrow.Author.Tests.{eqb-true}
use native.Mathlib.Omega.{arith}
pub use native.Mathlib.Nat.{mod-lt}
use Rattle.trm_word.proofs.Laws.Length.{length-power, power_pos}
use Rattle.trm_word.specs.Address.{store_length_ok}
use Rattle.trm_reference.specs.Geometry.{paper_geometry}
use Rattle.trm_core.specs.Record.{Machine, cache_of}
use Rattle.trm_core.specs.Refusals.{look_refusal, copy_refusal}
use Rattle.trm_cache.specs.Cache.{view}
use Rattle.trm_core.specs.Observe.{look_at}
pub use Rattle.trm_call_refusals.proofs.Laws.{refused}
use Rattle.trm_core.proofs.Laws.Rows.{legal_of, rows-passed}

-- the store's length is legal
pub look_legal : (p : List ℕ) (m : Machine) (s : List ℕ) (address : ℕ) → 0 ≡ look_refusal paper_geometry p m s address
    → store_length_ok (length s) ≡ true
unfolding look_refusal
look_legal p m s address q = legal_of m s (rows-passed paper_geometry p m s (cond (ltb 0xFFBF address) 9 0) (sym q)).0.store

-- the buffer is as long as the store
pub copy_fits : (p : List ℕ) (m : Machine) (s buffer : List ℕ) → 0 ≡ copy_refusal paper_geometry p m s buffer → length buffer ≡ length s
unfolding copy_refusal
copy_fits p m s buffer q =
    go (eqb (length buffer) (length s)) refl (rows-passed paper_geometry p m s (cond (eqb (length buffer) (length s)) 0 7) (sym q)).1
  where
    go : (t : Bool) → eqb (length buffer) (length s) ≡ t → ◌≡◌ {A = ℕ} (cond t 0 7) 0 → length buffer ≡ length s
    go true e z = eqb-true (length buffer) (length s) e
    go false e z = absurd (omega arith)

-- one word, seen through the cache
pub look_is : (m : Machine) (s : List ℕ) (address : ℕ)
    → look_at paper_geometry m s address ≡ view paper_geometry (cache_of m) s (address % length s)
unfolding look_at
look_is m s address = refl

pub ruleset accepted = (look_legal, look_is, copy_fits, refused)

-- a store of legal length has words, so that an address is taken mod its length
pub some_words : (n : ℕ) → store_length_ok n ≡ true → 0 < n
some_words n h = power_pos (length-power n h)

pub ruleset legal_length = (some_words, mod-lt)
