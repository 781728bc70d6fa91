-- Row 6 clause by clause, and the store lengths of row 4.
-- Each test decides its clause; the lengths are computed.
use Prim.Native.Nat.{ℕ, ◌≤◌}
use mathlib.Core.Path.{◌≡◌, refl}
use mathlib.Core.Bool.{Bool, true, false, not, ◌||◌}
use lib.ListN.{length}
use lib.Dec.{eqb, ltb}
use borrow.Author.Tests.{eq-eqb, ne_eqb, lt-ltb, le-ltb}
use native.Mathlib.Omega.{arith}
use Rattle.trm_word.specs.Address.{store_length_ok}
use Rattle.trm_core.specs.Refusals.{all_at_most, line_bytes_refused}
use Rattle.trm_core.specs.Claims.{Limits}

second : (a b : Bool) → a || true || b ≡ true
second true b = refl
second false b = refl

third : (a b : Bool) → a || b || true ≡ true
third true b = refl
third false true = refl
third false false = refl

-- a run of at most 65,536 clocks, with equal lengths and no byte above 7
short : (n : ℕ) → n ≤ 65536 → not true || ltb 65536 n || not true ≡ false
short n h = rw (le-ltb 65536 n h)

pub limits : Limits
unfolding line_bytes_refused store_length_ok
limits =
    record {
      runs = λ ls is e h a. rw (eq-eqb (length ls) (length is) e, a) (short (length ls) h);
      unequal = λ ls is n. rw (ne_eqb (length ls) (length is) n);
      long = λ ls is h. rw (lt-ltb 65536 (length ls) (omega arith)) (second (not (eqb (length ls) (length is))) (not (all_at_most 7 ls)));
      high = λ ls is a. rw a (third (not (eqb (length ls) (length is))) (ltb 65536 (length ls)));
      stores = refl;
      others = refl;
    }
