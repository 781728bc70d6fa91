-- Laws of the loop of copy, of the search of watch, and of the byte that a watch looks for.
-- Idea: what holds below i and for i holds below i + 1; two lists are equal if all their words are.
--   Copied, copied_none, copied_more, copied_end   the invariant of the copy: before, during and after the loop
--   first_holds   the answer of the watch        shows_is   the test of a byte
use Prim.Native.Nat.{ℕ, ◌+◌, ◌*◌, ◌/◌, ◌%◌, ◌≤◌, ◌<◌}
use mathlib.Core.Path.{◌≡◌, refl, sym, ap, ◌∙◌}
use mathlib.Core.Bool.{true, false, ◌&&◌}
use mathlib.Core.List.{List}
use native.Mathlib.Omega.{arith}
use native.Mathlib.Decide.{ℕ_discrete}
use lib.ListN.{length, get_or, set, length-set}
use lib.Dec.{eqb}
use borrow.Author.Tests.{eq-eqb, ne_eqb}
use lib.Seq.{get_or-set_same, get_or-set_other}
use Rattle.trm_reference.specs.Geometry.{paper_geometry}
use Rattle.trm_cache.specs.Cache.{view, copy_of}
use Rattle.trm_cache.specs.declared.record.Cache.{Cache}
use Rattle.trm_cache.proofs.Laws.Dirty.{copy_is}
use Rattle.std.specs.Prelude.{Option, Some, None, MatchOption, IsSomeAnd}
use Rattle.std.specs.List.{AllWithin, HoldsAt}
use Rattle.trm_core.specs.Observe.{shows_write, SightingHolds}

-- the first i words of the buffer are those of memory
pub record Copied (ca : Cache) (s : List ℕ) (i : ℕ) (buffer : List ℕ) : Type 0 where
  pub below : i ≤ length s
  pub long : length buffer ≡ length s
  pub each : (k : ℕ) → k < i → get_or buffer k 0 ≡ view paper_geometry ca s k

pub copied_none : (ca : Cache) (s buffer : List ℕ) → length buffer ≡ length s → Copied ca s 0 buffer
copied_none ca s buffer e = record { below = omega arith; long = e; each = λ k h. absurd (omega arith) }

pub copied_more : (ca : Cache) (s : List ℕ) (i : ℕ) (buffer : List ℕ) (x : ℕ) → Copied ca s i buffer → i < length s
    → x ≡ view paper_geometry ca s i → Copied ca s (i + 1) (set buffer i x)
copied_more ca s i buffer x c h e = record {
  below = omega arith;
  long = length-set buffer i x ∙ c.long;
  each = λ k g. go k g (ℕ_discrete k i);
}
  where
    go : (k : ℕ) → k < i + 1 → Dec (k ≡ i) → get_or (set buffer i x) k 0 ≡ view paper_geometry ca s k
    go k g (yes q) = rw q (get_or-set_same buffer i x 0 (omega (arith, c.long)) ∙ e)
    go k g (no q) = get_or-set_other buffer i k x 0 q ∙ c.each k (omega arith)

pub copied_end : (ca : Cache) (s : List ℕ) (i : ℕ) (buffer : List ℕ) → Copied ca s i buffer → length s ≤ i
    → buffer ≡ copy_of paper_geometry ca s
copied_end ca s i buffer c h = sym (copy_is paper_geometry ca s buffer (sym c.long) (λ a g. sym (c.each a (omega arith))))

pub ruleset copying = (copied_none, copied_more, copied_end)

-- the first clock that shows the write, or none, is a right answer
pub first_holds : (bytes : List ℕ) (device : ℕ) (o : Option ℕ)
    → MatchOption o (AllWithin (λ b. shows_write device b ≡ false) bytes 0 (length bytes))
    (λ k. (k < length bytes) × HoldsAt (λ b. shows_write device b ≡ true) bytes k
    × AllWithin (λ b. shows_write device b ≡ false) bytes 0 k) → SightingHolds bytes device o
unfolding SightingHolds
first_holds bytes device (Some k) h = (h.0, h.1 0)
first_holds bytes device None h = λ k l. h k 0 (omega arith) l

-- a number is passed on as it is
pub same_by : {Q : ℕ → ℕ → Type 0} (o r : Option ℕ) → ((x y : ℕ) → Q x y → y ≡ x)
    → MatchOption o (r ≡ None) (λ x. IsSomeAnd r (Q x)) → r ≡ o
same_by None r q h = h
same_by (Some x) (Some y) q h = ap Some (q x y h)
same_by (Some x) None q h = absurd h

-- the test of a byte as the code makes it
pub shows_is : (device byte : ℕ) → byte < 256 → shows_write device byte ≡ eqb (byte / 2) (device * 2 + 1)
unfolding shows_write
shows_is device byte h = rw q (go (ℕ_discrete (byte / 2 % 2) 1) (ℕ_discrete (byte / 4) device))
  where
    q : byte / 4 % 64 ≡ byte / 4
    q = omega arith

    go : Dec (byte / 2 % 2 ≡ 1) → Dec (byte / 4 ≡ device)
        → (eqb (byte / 2 % 2) 1 && eqb (byte / 4) device) ≡ eqb (byte / 2) (device * 2 + 1)
    go (yes a) (yes b) =
        rw (eq-eqb (byte / 2 % 2) 1 a, eq-eqb (byte / 4) device b, eq-eqb (byte / 2) (device * 2 + 1) (omega (arith, a, b))) refl
    go (yes a) (no b) =
        rw (eq-eqb (byte / 2 % 2) 1 a, ne_eqb (byte / 4) device b, ne_eqb (byte / 2) (device * 2 + 1) (λ e. b (omega (arith, e)))) refl
    go (no a) d = rw (ne_eqb (byte / 2 % 2) 1 a, ne_eqb (byte / 2) (device * 2 + 1) (λ e. a (omega (arith, e)))) refl
